-- `parser_gather::clear_empty` meets its contract: slots are cleared where none waits. Assumes nothing.
use mathlib.Core.Path.{refl}
use Rattle.parser_gather.proofs.Gathers.{cleared_none, cleared_some}
use Rattle.parser_gather.proofs.clear_empty.Goals as goal

pub returns-then-n-eq0 : goal.returns-then-n-eq0
returns-then-n-eq0 c = cleared_none _ _ _ refl c.if-n-eq0.true

pub returns-else-n-eq0 : goal.returns-else-n-eq0
returns-else-n-eq0 c = cleared_some _ _ _ refl c.if-n-eq0.false
