-- No queue that calls have reached holds the pair 0x80,0x80: it is accepted and dropped. Assumes nothing.
use mathlib.Core.Path.{◌≡◌, refl, sym, ap, ◌∙◌}
use mathlib.Core.List.{List, [], ◌∷◌, ◌++◌}
use Prim.Native.Nat.{ℕ, ◌≤◌}
use native.Mathlib.Omega.{arith}
use lib.ListN.{length, length-append}
use Rattle.model.specs.Frame.{Pair}
use Rattle.model.specs.Mux.{fresh_mux, is_null}
use Rattle.model.specs.Run.{run, others}
use Rattle.model.proofs.Cases.{by_test}
use Rattle.model_journey.specs.Bounds.{Field, one, two, accepted_of, Left}
use Rattle.model_journey.specs.Bounds as journey
use Rattle.model_journey.proofs.Turns.{others_append}
use Rattle.model_journey.proofs.Leaves.{leaves_paired}
use Rattle.writer.specs.Writer.{means}
use Rattle.writer.specs.declared.CCDataWriter.{CCDataWriter}
use Rattle.theorems.specs.Items.{Items}
use Rattle.theorems.specs.Allowed.{NewWriter}
use Rattle.theorems.specs.Writing.{Calls}
use Rattle.theorems.proofs.Sequences.{from_fresh}

-- lists of the same length behind others
pub same_behind : {A : Type 0} (a b u v : List A) → length u ≡ length v → a ++ u ≡ b ++ v → u ≡ v
same_behind [] [] u v n e = e
same_behind [] (y ∷ b) u v n e = absurd (omega (arith, ap length e, length-append (y ∷ b) v))
same_behind (x ∷ a) [] u v n e = absurd (omega (arith, ap length e, length-append (x ∷ a) u))
same_behind (x ∷ a) (y ∷ b) u v n e = let t : a ++ u ≡ b ++ v = (cc) in same_behind a b u v n t

-- pairs other than 0x80,0x80 are such
pub others_twice : (xs : List Pair) → others (others xs) ≡ others xs
unfolding others
others_twice [] = refl
others_twice (x ∷ xs) = by_test (is_null x) (λ e. rw e (others_twice xs)) (λ e. rw (e, e) (ap (λ (l : List Pair). x ∷ l) (others_twice xs)))

-- and no more than all
others_fewer : (xs : List Pair) → length (others xs) ≤ length xs
unfolding others
others_fewer [] = omega arith
others_fewer (x ∷ xs) = by_test (is_null x) (λ e. rw e (omega (arith, others_fewer xs))) (λ e. rw e (omega (arith, others_fewer xs)))

-- the last of such are such
others_behind : (a b : List Pair) → others (a ++ b) ≡ a ++ b → others b ≡ b
others_behind a b e =
    let s = sym (others_append a b) ∙ e in
    let n = ap length s in
    same_behind (others a) a (others b) b (omega (arith, n, length-append (others a) (others b), length-append a b, others_fewer a, others_fewer b)) s

-- where a queue and what came are such, what is left is
pub others_left : {i : ℕ} {q came q' : List Pair} → others q ≡ q → others came ≡ came → Left i q came q' → others q' ≡ q'
others_left {q} {came} {q'} e f l = others_behind l.gone q' (rw (← l.cut, others_append q came, e, f))

-- a fresh queue is
queue_fresh : (f : Field) → others (journey.queue_of f fresh_mux) ≡ journey.queue_of f fresh_mux
unfolding others
queue_fresh one = refl
queue_fresh two = refl

-- whatever was called
pub queue_others : {w₀ w : CCDataWriter} {fs : List (List ℕ)} {is : Items} → NewWriter w₀ → Calls w₀ fs is w → (f : Field) → others (journey.queue_of f (means w)) ≡ journey.queue_of f (means w)
queue_others new c f =
    let k = from_fresh new c in
    let l = leaves_paired f k.calls fresh_mux 0 (omega arith) (omega arith) in
    rw k.last at (others_left (queue_fresh f) (others_twice (accepted_of f (run k.calls fresh_mux))) l)
