-- `parser::CCDataParser::pairs_waiting` meets its contract: the count is that of what the state means. Assumes nothing.
use mathlib.Core.Path.{sym, ◌∙◌}
use Rattle.parser.proofs.Calls.{counts_pairs}
use Rattle.parser.proofs.CCDataParser.pairs_waiting.Goals as goal

pub returns : goal.returns
returns c = counts_pairs _ (sym c.if-not-is_valid.false ∙ c.is_valid.ensures)
