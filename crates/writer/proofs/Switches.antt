-- Switches set one after another: each call keeps the limits, so that all are refused where the first was. Assumes nothing.
use mathlib.Core.Path.{◌≡◌, refl, sym, ap, ◌∙◌}
use mathlib.Core.Bool.{true, false}
use Rattle.model.specs.Said.{Outcome, gave, says, after, checked, mapped}
use Rattle.model.specs.Mux.{Mux, valid_mux, with_pads, with_mode, with_true_count, Switch, paddings, carrying_mode, true_counting, with_switch}
use Rattle.model.proofs.Cases.{by_test, both, and_both}
use Rattle.model.proofs.MuxStates as model
use Rattle.std.specs.Prelude.{Result}
use Rattle.caption.specs.Answers.{outcome}
use Rattle.caption.specs.declared.Refusal.{Refusal}
use Rattle.writer.specs.Writer.{means, in_order, valid_writer, stored}
use Rattle.writer.specs.Calls.{switch_outcome}
use Rattle.writer.specs.Making.{switched}
use Rattle.writer.proofs.Valid.{Order, order_facts, facts_order}
use Rattle.writer.proofs.Stored.{stored_self, stored_switch}
use Rattle.writer.proofs.Calls.{Answers}
use Rattle.writer.specs.declared.CCDataWriter.{CCDataWriter}

-- a state within its limits
module _ (w : CCDataWriter) (v : valid_writer w ≡ true) where
  -- its places are in order, and mean a multiplexer within its limits
  parts : Order w × (valid_mux (means w) ≡ true)
  unfolding valid_writer
  parts = let t = both (in_order w) (valid_mux (means w)) v in (order_facts w t.0, t.1)

  -- with a switch set it stays there
  switch_valid : (x : Switch) → valid_writer (switched x w) ≡ true
  unfolding valid_writer in_order means
  switch_valid (paddings a b) = and_both (in_order w) (valid_mux (with_pads a b (means w))) (facts_order w parts.0) (model.switch_valid (paddings a b) (means w) parts.1)
  switch_valid (carrying_mode on) = and_both (in_order w) (valid_mux (with_mode on (means w))) (facts_order w parts.0) (model.switch_valid (carrying_mode on) (means w) parts.1)
  switch_valid (true_counting on) = and_both (in_order w) (valid_mux (with_true_count on (means w))) (facts_order w parts.0) (model.switch_valid (true_counting on) (means w) parts.1)

-- one more switch
stored_then : (w : CCDataWriter) (x : Mux) (y : Switch) → stored w (with_switch y x) ≡ switched y (stored w x)
stored_then w x (paddings a b) = refl
stored_then w x (carrying_mode on) = refl
stored_then w x (true_counting on) = refl

-- what switches come to that make x of the multiplexer
abbrev comes_to : CCDataWriter → Mux → Outcome Mux
comes_to w x = checked (valid_writer w) (gave x)

-- a state that they have left: w with the switches of x, and w itself where it is outside its limits
pub record Switched (w : CCDataWriter) (x : Mux) (v : CCDataWriter) : Type 0 where
  pub places : v ≡ after w (mapped (stored w) (comes_to w x))
  pub valid : valid_writer v ≡ valid_writer w

-- none has been set
pub none_set : (w : CCDataWriter) → Switched w (means w) w
none_set w = record { places = by_test (valid_writer w) (λ e. rw e (sym (stored_self w (parts w e).0))) (λ e. rw e); valid = refl }

module _ {w : CCDataWriter} {x : Mux} {v : CCDataWriter} (l : Switched w x v) where
  -- within the limits the state is in the places of x
  pub switched_within : valid_writer w ≡ true → v ≡ stored w x
  switched_within e = rw e at l.places

  -- another way to say x
  pub switched_as : (x' : Mux) → (valid_writer w ≡ true → x ≡ x') → Switched w x' v
  switched_as x' f =
      record { places = by_test (valid_writer w) (λ e. rw (e, ← f e) (switched_within e)) (λ e. rw e (rw e at l.places)); valid = l.valid }

  -- a switch is set, and leaves its own answer
  module _ (y : Switch) (r : Result (Unit {0}) Refusal) (t : CCDataWriter) (a : Answers (switch_outcome y v) (stored v) v r t) where
    -- within the limits
    set_within : valid_writer w ≡ true → t ≡ switched y v
    set_within e = let k : valid_writer v ≡ true = l.valid ∙ e in rw k at a.places ∙ stored_switch v (parts v k).0 y

    -- outside them
    set_outside : valid_writer w ≡ false → t ≡ v
    set_outside e = let k : valid_writer v ≡ false = l.valid ∙ e in rw k at a.places

    pub one_set : Switched w (with_switch y x) t
    one_set =
        record {
          places = by_test (valid_writer w)
              (λ e. rw e (set_within e ∙ ap (switched y) (switched_within e) ∙ sym (stored_then w x y)))
              (λ e. rw e (set_outside e ∙ rw e at l.places));
          valid = by_test (valid_writer w)
              (λ e. rw (e, set_within e) (switch_valid v (l.valid ∙ e) y))
              (λ e. rw (set_outside e) l.valid);
        }

    -- the answer is as if all were one call
    pub set_answer : says (outcome r) ≡ says (comes_to w (with_switch y x))
    set_answer = by_test (valid_writer w) (λ e. rw e (rw (l.valid ∙ e) at a.answer)) (λ e. rw e (rw (l.valid ∙ e) at a.answer))
