-- One law for each way out, in the order of the refusals. Assumes nothing.
use mathlib.Core.Path.{sym, ◌∙◌}
use Rattle.codes.proofs.Runs.{let_through, stopped_number, stopped_why}
use Rattle.codes.proofs.screen.Goals as goal

pub returns-in_default : goal.returns-in_default
returns-in_default c = let_through _ _ _ c.in_default.ensures

pub returns-then-service_no-gt-MOST_NUMBER : goal.returns-then-service_no-gt-MOST_NUMBER
returns-then-service_no-gt-MOST_NUMBER c = stopped_number _ _ _ _ c.in-Err.ensures (sym c.is_valid-valid.ensures ∙ c.if-not-valid.false) c.if-service_no-gt-MOST_NUMBER.true

pub returns : goal.returns
returns c = stopped_why _ _ _ _ c.in-Err.ensures (sym c.is_valid-valid.ensures ∙ c.if-not-valid.false) c.if-service_no-gt-MOST_NUMBER.false
