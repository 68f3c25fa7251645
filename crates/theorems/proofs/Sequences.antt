-- Every sequence of calls that the contracts allow is a sequence of calls of the model. Assumes nothing.
use mathlib.Core.Path.{◌≡◌, refl, ap, ◌∙◌}
use mathlib.Core.List.{List, [], ◌++◌}
use Prim.Native.Nat.{ℕ}
use Rattle.model.specs.Mux.{fresh_mux, paddings, carrying_mode, true_counting}
use Rattle.writer.specs.Writer.{means, fresh}
use Rattle.writer.proofs.Kept.{Sound, fresh_sound}
use Rattle.writer.specs.declared.CCDataWriter.{CCDataWriter}
use Rattle.theorems.specs.Items.{Items, and_then}
use Rattle.theorems.specs.Allowed.{NewWriter}
use Rattle.theorems.specs.Writing.{Calls, no_call, push_packet, push_cea608, set_cea608_padding, set_padding, set_carrying, set_true_count, write, Tested, Stays}
use Rattle.theorems.specs.Trip.{sending_of}
use Rattle.theorems.proofs.Contracts.{cea608_padding_says, padding_says, carrying_says, true_count_says}
use Rattle.theorems.proofs.Passing.{there_in}
use Rattle.theorems.proofs.Following.{Tests, Staying, no_test, no_stay, Follows, Moved, moved_sound, follows_none, follow, reask}
use Rattle.theorems.proofs.Answered.{switch_moves}
use Rattle.theorems.proofs.Packets.{packet_moves}
use Rattle.theorems.proofs.Pairs.{pair_moves}
use Rattle.theorems.proofs.Frames.{write_does, write_moves}

-- a call that asks nothing, and then those that follow
then : {w w₁ w₂ : CCDataWriter} {fs₁ fs₂ : List (List ℕ)} {is₁ is₂ : Items} {test : Tests} {stay : Staying} → Sound w → Moved w fs₁ is₁ w₁ no_test no_stay
    → (Sound w₁ → Follows (means w₁) (there_in w₁) fs₂ is₂ w₂ test stay) → Follows (means w) (there_in w) (fs₁ ++ fs₂) (and_then is₁ is₂) w₂ test stay
then s m f = reask (λ passes p. (tt, p)) (λ mode speed p. (tt, p)) (follow m (f (moved_sound m s)))

-- from a state within its limits
pub follows : {w w' : CCDataWriter} {fs : List (List ℕ)} {is : Items} (c : Calls w fs is w') → Sound w
    → Follows (means w) (there_in w) fs is w' (λ passes. Tested passes c) (λ mode speed. Stays mode speed c)
follows {w} no_call s = follows_none w s
follows (push_packet κs w w' d r t a c) s = then s (packet_moves κs w w' d r s t a) (λ k. follows c k)
follows (push_cea608 κs w w' x r a c) s = then s (pair_moves κs w w' x r s a) (λ k. follows c k)
follows (set_cea608_padding κs w w' on r a c) s =
    then s (switch_moves w.now w'.now r (paddings on w.now.output_padding) s (cea608_padding_says w w' r κs on a)) (λ k. follows c k)
follows (set_padding κs w w' on r a c) s =
    then s (switch_moves w.now w'.now r (paddings w.now.output_cea608_padding on) s (padding_says w w' r κs on a)) (λ k. follows c k)
follows (set_carrying κs w w' on r a c) s =
    let m = switch_moves w.now w'.now r (carrying_mode on) s (carrying_says w w' r κs on a) in
    reask (λ passes p. (tt, p)) (λ mode speed p. p) (follow m (follows c (moved_sound m s)))
follows (set_true_count κs w w' on r a c) s = then s (switch_moves w.now w'.now r (true_counting on) s (true_count_says w w' r κs on a)) (λ k. follows c k)
follows (write κs w w' rate out end r a c) s =
    let m = write_moves w.now rate end.now r w'.now s (write_does κs w w' rate out end r s a) in follow m (follows c (moved_sound m s))

-- a fresh one sends no packet
none_sending : sending_of fresh ≡ []
unfolding fresh
none_sending = refl

-- from a fresh one
pub from_fresh : {w₀ w : CCDataWriter} {fs : List (List ℕ)} {is : Items} → NewWriter w₀ → (c : Calls w₀ fs is w)
    → Follows fresh_mux [] fs is w (λ passes. Tested passes c) (λ mode speed. Stays mode speed c)
from_fresh {w₀} new c =
    let e : w₀ ≡ fresh = new.1 in
    rw (new.0, ap sending_of e ∙ none_sending) at (follows c (rw e fresh_sound))
