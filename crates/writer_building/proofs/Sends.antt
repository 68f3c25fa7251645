-- How many turns will send: it depends on how many pairs are queued and on nothing else. Assumes nothing.
use mathlib.Core.Path.{◌≡◌, refl, sym, ◌∙◌}
use mathlib.Core.Bool.{Bool, true, false, not}
use mathlib.Core.List.{List}
use Prim.Native.Nat.{ℕ, ◌+◌, ◌-◌, ◌/◌, min, max}
use native.Mathlib.Omega.{arith}
use lib.ListN.{length, replicate, length-replicate}
use Rattle.model.specs.Frame.{Pair, pair}
use Rattle.model.proofs.Turns.{counts1, counts2, sends1, sends2}
use Rattle.writer_turns.specs.Turn.{turns_by}
use Rattle.writer_building.specs.Building.{sent_of}

-- pairs, whichever
abbrev some : ℕ → List Pair
some n = replicate n (pair 0 0)

-- one less, where there is one
pub one_less : (n : ℕ) {m : ℕ} → m ≡ min n 1 → n - m ≡ n - 1
one_less n e = omega arith

-- with 608 padding every turn sends
pub sent_padded : (n : ℕ) (second : Bool) (n1 n2 : ℕ) → n ≡ sent_of true n second n1 n2
unfolding sent_of
sent_padded n true n1 n2 = sym ((counts2 n true (some n1) (some n2)).all refl)
sent_padded n false n1 n2 = sym ((counts1 n true (some n1) (some n2)).all refl)

-- without it, from field 1's turn on
pub sent_first : (n n1 n2 : ℕ) → min (n - n / 2) (max n1 n2) + min (n / 2) n2 ≡ sent_of false n false n1 n2
unfolding sent_of
sent_first n n1 n2 = rw (sends1 n (some n1) (some n2), length-replicate n1 (pair 0 0), length-replicate n2 (pair 0 0))

-- and from field 2's on, which has one less left for a turn of field 1
pub sent_second : (n n1 n2 : ℕ) {left : ℕ} → left ≡ n2 - 1 → min (n - n / 2) n2 + min (n / 2) (max n1 left) ≡ sent_of false n true n1 n2
unfolding sent_of
sent_second n n1 n2 e = rw (e, sends2 n (some n1) (some n2), length-replicate n1 (pair 0 0), length-replicate n2 (pair 0 0))

-- so it is for any pairs, if there are as many
pub sent_any : (pad : Bool) (n : ℕ) (second : Bool) (q1 q2 : List Pair) {n1 n2 : ℕ} → length q1 ≡ n1 → length q2 ≡ n2 → sent_of pad n second n1 n2 ≡ length (turns_by (not second) n pad q1 q2).out
sent_any true n true q1 q2 {n1} {n2} e f = sym (sent_padded n true n1 n2) ∙ sym ((counts2 n true q1 q2).all refl)
sent_any true n false q1 q2 {n1} {n2} e f = sym (sent_padded n false n1 n2) ∙ sym ((counts1 n true q1 q2).all refl)
sent_any false n true q1 q2 {n1} {n2} e f = rw (sends2 n q1 q2, e, f) (sym (sent_second n n1 n2 refl))
sent_any false n false q1 q2 {n1} {n2} e f = rw (sends1 n q1 q2, e, f) (sym (sent_first n n1 n2))
