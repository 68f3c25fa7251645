-- The word and the numbers, laid one behind another, or the refusal. Assumes nothing.
use Rattle.script_answers.proofs.Parts.{line_numbers}
use Rattle.script_answers.proofs.put_measures_line.Goals as goal

pub returns-in-Ok : goal.returns-in-Ok
returns-in-Ok g c = line_numbers c.args.measured c.in-Ok.numbers c.in-Ok.is c.put_word-p.ensures c.put_numbers-q.ensures c.put_newline.ensures
