-- `parser::CCDataParser::new` meets its contract: the literal is the fresh state. Assumes nothing.
use mathlib.Core.Path.{refl}
use Rattle.parser_lists.specs.Pairs.{placed_all}
use Rattle.parser.specs.Calls.{laid_in, fresh}
use Rattle.parser.proofs.Kept.{means_fresh}
use Rattle.parser.proofs.CCDataParser.new.Goals as goal

pub returns-clause-state : goal.returns-clause-state
unfolding fresh laid_in placed_all
returns-clause-state c = means_fresh

pub returns-clause-places : goal.returns-clause-places
unfolding fresh laid_in placed_all
returns-clause-places c = refl
