-- The turns fall, and some input leaves the program as it stands, also where a read or a write fails. Assumes nothing.
use Rattle.std.proofs.Common.{sym, ◌∙◌}
use Rattle.std.specs.Prelude.{Result, Ok, Err, OnErr}
use mathlib.Core.Bool.{false≢true}
use Rattle.ccpack.proofs.Inputs.{first_stays, ran_next, still_ran}
use Rattle.ccpack.proofs.run.Goals as goal

-- what holds holds where there is an error
on_any : {T E P : Type 0} (r : Result T E) → P → OnErr r P
on_any (Ok x) p = tt
on_any (Err e) p = p

pub loop-turns-init : goal.loop-turns-init
loop-turns-init c = first_stays _ _ c.unread.ensures

pub returns-in_err-s-clause-err : goal.returns-in_err-s-clause-err
returns-in_err-s-clause-err c = on_any _ (still_ran c.loop-turns.invariant.ran c.in_err-s.ensures.err)

pub returns-in_err-tell-clause-err : goal.returns-in_err-tell-clause-err
returns-in_err-tell-clause-err c = on_any _ (ran_next c.loop-turns.invariant c.in_ok-s.ensures.steps)

pub returns-then-not-s-clause-ok : goal.returns-then-not-s-clause-ok
returns-then-not-s-clause-ok c = λ _. ran_next c.loop-turns.invariant c.in_ok-s.ensures.steps

pub loop-turns-preserved : goal.loop-turns-preserved
loop-turns-preserved c =
    let e = c.in_ok-s.ensures in
    record {
      most = e.have_le_most_kept_2.0;
      few = e.have_le_most_kept_2.1;
      going = c.if-not-s.false;
      ran = ran_next c.loop-turns.invariant e.steps;
    }

pub returns-clause-ok : goal.returns-clause-ok
returns-clause-ok c = λ e. absurd (false≢true (sym e ∙ c.loop-turns.invariant.going))
