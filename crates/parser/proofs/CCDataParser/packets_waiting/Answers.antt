-- `parser::CCDataParser::packets_waiting` meets its contract: the count is that of what the state means. Assumes nothing.
use mathlib.Core.Path.{sym, ◌∙◌}
use Rattle.parser.proofs.Calls.{counts_packets}
use Rattle.parser.proofs.CCDataParser.packets_waiting.Goals as goal

pub returns : goal.returns
returns c = counts_packets _ (sym c.if-not-is_valid.false ∙ c.is_valid.ensures)
