-- The item is told, or the refusal, and what the call leaves is left. Assumes nothing.
use Rattle.script_parsers.proofs.Drawn.{did_draw, did_not_draw}
use Rattle.script_parsers.proofs.draw.Goals as goal

pub returns-in-Ok : goal.returns-in-Ok
returns-in-Ok c = did_draw _ _ c.in-Ok.ensures.places _ c.in-Ok.ensures.drawn c.put_item_line.ensures

pub returns-in-Err : goal.returns-in-Err
returns-in-Err c = did_not_draw _ _ c.in-Err.ensures.places _ c.in-Err.ensures.drawn c.put_refusal_line.ensures
