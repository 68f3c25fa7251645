-- What was counted decides between the line of the lengths and that of a refusal. Assumes nothing.
use Rattle.script_codes.proofs.Lines.{count_given, lengths_told, lengths_refused}
use Rattle.script_codes.proofs.put_cut_line.Goals as goal

pub put_lengths_line-requires : goal.put_lengths_line-requires
put_lengths_line-requires c = count_given _ _ c.in-Ok.ensures

pub returns-in-Ok : goal.returns-in-Ok
returns-in-Ok c = lengths_told _ _ c.in-Ok.ensures c.put_lengths_line.ensures

pub returns-in-Err : goal.returns-in-Err
returns-in-Err c = lengths_refused _ _ c.in-Err.ensures c.put_refusal_line.ensures
