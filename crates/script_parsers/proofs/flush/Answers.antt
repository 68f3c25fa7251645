-- The answer is told, and what the call leaves is left. Assumes nothing.
use Rattle.script_parsers.proofs.Drawn.{did_call}
use Rattle.script_parsers.proofs.flush.Goals as goal

pub returns : goal.returns
returns c = did_call _ _ _ _ c.flush-answer.ensures.answer c.flush-answer.ensures.places c.put_done_line.ensures
