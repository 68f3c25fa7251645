-- `parser::CCDataParser::is_valid` meets its contract: the tests are those of what the state means. Assumes nothing.
use mathlib.Core.Path.{sym, ◌∙◌}
use borrow.Author.Rules.{rules}
use Rattle.parser.specs.Means.{Shaped}
use Rattle.parser.proofs.Calls.{length_mapped}
use Rattle.parser.proofs.Valids.{bad_list, bad_pending, by_ring}
use Rattle.parser.proofs.CCDataParser.is_valid.Goals as goal
use Rattle.parser.proofs.CCDataParser.is_valid.Goals.{Start}

-- the arrays have their lengths
shaped : (s : Start) → Shaped s.args.self.now
shaped s = record { pairs = search rules; pending = search rules; waiting = search (rules, length_mapped, s.well_formed) }

pub returns-then-not-list_good : goal.returns-then-not-list_good
returns-then-not-list_good c =
    bad_list _ (shaped (goal.at.returns-then-not-list_good c).Start) (sym c.if-not-list_good.true ∙ c.list_good.ensures)

pub returns-then-not-pending_good : goal.returns-then-not-pending_good
returns-then-not-pending_good c =
    bad_pending _ (shaped (goal.at.returns-then-not-pending_good c).Start) (sym c.if-not-list_good.false ∙ c.list_good.ensures)
    (sym c.if-not-pending_good.true ∙ c.pending_good.ensures)

pub returns : goal.returns
returns c =
    by_ring _ (shaped (goal.at.returns c).Start) (sym c.if-not-list_good.false ∙ c.list_good.ensures)
    (sym c.if-not-pending_good.false ∙ c.pending_good.ensures) _ c.ring_good.ensures
