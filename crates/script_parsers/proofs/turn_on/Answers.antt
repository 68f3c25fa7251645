-- The answer is told, and what the call leaves is left. Assumes nothing.
use Rattle.script_parsers.proofs.Drawn.{did_call}
use Rattle.script_parsers.proofs.turn_on.Goals as goal

pub returns : goal.returns
returns c = did_call _ _ _ _ c.handle_cea608-answer.ensures.answer c.handle_cea608-answer.ensures.places c.put_done_line.ensures
