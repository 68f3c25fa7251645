-- `parser::CCDataParser::handle_cea608` meets its contract: one flag and one count are set. Assumes nothing.
use mathlib.Core.Path.{sym, ap, ◌∙◌}
use borrow.Author.Rules.{rules}
use Rattle.parser.specs.Means.{means, Shaped}
use Rattle.parser.specs.Calls.{laid_after}
use Rattle.parser.proofs.Laid.{Sound}
use Rattle.parser.proofs.Kept.{means_turned}
use Rattle.parser.proofs.Calls.{length_mapped, call_accepted, turned_is}
use Rattle.parser.proofs.CCDataParser.handle_cea608.Goals as goal
use Rattle.parser.proofs.CCDataParser.handle_cea608.Goals.{Start}

-- the arrays have their lengths
shaped : (s : Start) → Shaped s.args.self.now
shaped s = record { pairs = search rules; pending = search rules; waiting = search (rules, length_mapped, s.well_formed) }

pub returns-clause-state : goal.returns-clause-state
returns-clause-state c =
    let v = sym c.if-not-is_valid.false ∙ c.is_valid.ensures in
    let s : Sound c.args.self.now = record { valid = sym v; shaped = shaped (goal.at.returns-clause-state c).Start } in
    (call_accepted _ (laid_after c.args.self.now) _ _ v (turned_is _ s) (ap means (turned_is _ s) ∙ means_turned _ s)).state

pub returns-clause-places : goal.returns-clause-places
returns-clause-places c =
    let v = sym c.if-not-is_valid.false ∙ c.is_valid.ensures in
    let s : Sound c.args.self.now = record { valid = sym v; shaped = shaped (goal.at.returns-clause-places c).Start } in
    (call_accepted _ (laid_after c.args.self.now) _ _ v (turned_is _ s) (ap means (turned_is _ s) ∙ means_turned _ s)).places
