-- `parser_draws::no_packet` meets its contract: zeros in all places. Assumes nothing.
use mathlib.Core.Path.{sym}
use Rattle.packet.proofs.Keeps.{none_laid}
use Rattle.parser_draws.proofs.no_packet.Goals as goal

pub returns : goal.returns
returns c = sym none_laid
