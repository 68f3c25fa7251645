-- What an answer of the multiplexer says of a state within its limits, and what the switches do. Assumes nothing.
use mathlib.Core.Path.{◌≡◌, refl, sym, ap, ◌∙◌}
use mathlib.Core.List.{[]}
use native.Mathlib.Omega.{arith}
use Rattle.std.specs.Prelude.{Ok, Err}
use Rattle.model.specs.Said.{Outcome, gave, refused}
use Rattle.model.specs.Mux.{Mux, Switch, paddings, carrying_mode, true_counting, with_switch}
use Rattle.model.specs.Run.{sets, call, StaysSwitch, others}
use Rattle.model_journey.proofs.Calls.{quiet_switch}
use Rattle.caption.specs.Answers.{said_refusal}
use Rattle.caption.proofs.Outcomes.{says_injective}
use Rattle.caption.specs.declared.Refusal.{Refusal}
use Rattle.writer.specs.Writer.{means, stored}
use Rattle.writer.specs.Calls.{switch_outcome}
use Rattle.writer.proofs.Stored.{grows_switch}
use Rattle.writer.proofs.Kept.{Sound, sound_mux, stored_sound}
use Rattle.writer.specs.declared.CCDataWriter.{CCDataWriter}
use Rattle.theorems.specs.Items.{Items, no_items}
use Rattle.theorems.specs.Allowed.{Answer}
use Rattle.theorems.specs.Writing.{if_accepted}
use Rattle.theorems.specs.Trip.{sending_of}
use Rattle.theorems.proofs.Contracts.{Answers}
use Rattle.theorems.proofs.Passing.{passed_quiet}
use Rattle.theorems.proofs.Following.{Tests, Staying, no_test, Moved, unmoved, moves}

-- an answer, by what the call comes to
module _ {o : Outcome Mux} {f : Mux → CCDataWriter} {w : CCDataWriter} {r : Answer} {w' : CCDataWriter} (a : Answers o f w r w') where
  -- it is accepted
  pub given : (x : Mux) → o ≡ gave x → (r ≡ Ok tt) × ((means w' ≡ x) × (w' ≡ f x))
  given x e = (says_injective r (Ok tt) (rw e at a.answer), (rw e at a.means, rw e at a.places))

  -- it is refused
  denied : (why : Refusal) → o ≡ refused (said_refusal why) → (r ≡ Err why) × (w' ≡ w)
  denied why e = (says_injective r (Err why) (rw e at a.answer), rw e at a.places)

  -- a refusal changes nothing
  pub stays_denied : {test : Tests} {stay : Staying} (is : Items) (why : Refusal) → o ≡ refused (said_refusal why) → Moved w [] (if_accepted r is) w' test stay
  stays_denied is why e = let d = denied why e in rw d.0 (unmoved refl refl d.1)

-- a switch
pub switch_moves : (w w' : CCDataWriter) (r : Answer) (x : Switch) → Sound w → Answers (switch_outcome x w) (stored w) w r w'
    → Moved w [] no_items w' no_test (λ mode speed. StaysSwitch mode x)
unfolding call others
switch_moves w w' r x s a =
    let g = (given a (with_switch x (means w)) (rw s.valid)).1 in
    moves (sets x) (record {
      last = sym g.0;
      frames = refl;
      packets = refl;
      pairs1 = refl;
      pairs2 = refl;
      allowed = λ passes p. tt;
      steady = λ mode speed p. p;
      rates = λ cs t. t;
      writes = λ cs. omega arith;
      quiet = λ e cs t. t;
      passed = passed_quiet w w' (quiet_switch x (means w)) (sym g.0) refl (ap sending_of g.1 ∙ same_sending w x);
      sound = rw g.1 (stored_sound w s (with_switch x (means w)) (grows_switch (means w) (sound_mux w s) x));
    })
  where
    -- the packet being sent stays
    same_sending : (w : CCDataWriter) (x : Switch) → sending_of (stored w (with_switch x (means w))) ≡ sending_of w
    same_sending w (paddings a b) = refl
    same_sending w (carrying_mode on) = refl
    same_sending w (true_counting on) = refl
