-- The turns of a frame: a reader sees them as its 608 part, and each field's pairs leave its queue in order, one in each of its turns.
-- Assumes nothing.
use mathlib.Core.Path.{◌≡◌, refl, sym, ap, ◌∙◌}
use mathlib.Core.Bool.{Bool, true, false, cond}
use mathlib.Core.List.{List, [], ◌∷◌, ◌++◌}
use Prim.Native.Nat.{ℕ, zero, suc, ◌+◌, ◌*◌, ◌≤◌, min}
use native.Mathlib.Omega.{arith}
use lib.ListN.{length}
use Rattle.model.specs.Frame.{Pair, pair, Cea608, seen, seen_all}
use Rattle.model.specs.Demux.{pairs_in}
use Rattle.model.specs.Mux.{Mux, Turned, turn1, turn2, turned, is_null}
use Rattle.model.specs.Run.{of_field1, of_field2, others}
use Rattle.model.proofs.Cases.{by_test, by_cond}
use Rattle.model_journey.specs.Bounds.{Field, one, two, the}
use Rattle.model_journey.proofs.Parts.{In608, end6, one6, two6, void6}

-- turns are seen as 608 triples
mutual
  unfolding turn1 turn2 seen_all seen

  seen1 : (n : ℕ) (pad : Bool) (q1 q2 : List Pair) → In608 (seen_all (turn1 n pad q1 q2).out)
  seen1 zero pad q1 q2 = end6
  seen1 (suc n) pad (pair a b ∷ q1) q2 = one6 (seen2 n pad q1 q2)
  seen1 (suc n) pad [] (x ∷ q2) = one6 (seen2 n pad [] (x ∷ q2))
  seen1 (suc n) true [] [] = void6 (seen2 n true [] [])
  seen1 (suc n) false [] [] = seen2 n false [] []

  seen2 : (n : ℕ) (pad : Bool) (q1 q2 : List Pair) → In608 (seen_all (turn2 n pad q1 q2).out)
  seen2 zero pad q1 q2 = end6
  seen2 (suc n) pad q1 (pair a b ∷ q2) = two6 (seen1 n pad q1 q2)
  seen2 (suc n) true q1 [] = void6 (seen1 n true q1 [])
  seen2 (suc n) false q1 [] = seen1 n false q1 []

-- the turns are a 608 part
pub turns_seen : (n : ℕ) (s : Mux) → In608 (seen_all (turned n s).out)
unfolding turned
turns_seen n s = by_cond (λ (t : Turned). In608 (seen_all t.out)) s.next1 (λ e. seen1 n s.pad608 s.queue1 s.queue2) (λ e. seen2 n s.pad608 s.queue1 s.queue2)

-- 1 if the next turn is the field's
abbrev pub mine : Field → Bool → ℕ
mine one true = 1
mine one false = 0
mine two true = 0
mine two false = 1

-- a field has the next turn or not
pub mine_most : (f : Field) (who : Bool) → mine f who ≤ 1
mine_most one true = omega arith
mine_most one false = omega arith
mine_most two true = omega arith
mine_most two false = omega arith

-- the pairs of the field
abbrev pub of_field : Field → List Cea608 → List Pair
of_field f ps = the f (of_field1 ps) (of_field2 ps)

-- In n turns a field has m, and that many of its pairs go while there are any: its queue q becomes q'. `shown` are the pairs of the field
-- that a reader sees; `now` and `then` say whether the turn is the field's before and after.
pub record Served (now then n : ℕ) (q q' shown : List Pair) : Type 0 where
  pub gone : List Pair
  pub m : ℕ
  pub cut : q ≡ gone ++ q'
  pub enough : length gone ≡ min (length q) m
  pub clock : 2 * m + then ≡ n + now
  pub sees : others shown ≡ others gone

module _ {then n : ℕ} {q' s : List Pair} where
  -- the other field's turn
  waits : {q : List Pair} → Served 1 then n q q' s → Served 0 then (suc n) q q' s
  waits d = record { gone = d.gone; m = d.m; cut = d.cut; enough = d.enough; clock = omega (arith, d.clock); sees = d.sees }

  -- the field's turn, and it has a pair
  gives : {q : List Pair} (x : Pair) → Served 0 then n q q' s → Served 1 then (suc n) (x ∷ q) q' (x ∷ s)
  unfolding others
  gives x d =
      record {
        gone = x ∷ d.gone;
        m = suc d.m;
        cut = ap (λ (l : List Pair). x ∷ l) d.cut;
        enough = omega (arith, d.enough);
        clock = omega (arith, d.clock);
        sees = ap (λ (l : List Pair). cond (is_null x) l (x ∷ l)) d.sees;
      }

  -- the field's turn, and it has none: a reader sees none, or 0x80,0x80
  lacks : {s' : List Pair} → others s' ≡ others s → Served 0 then n [] q' s → Served 1 then (suc n) [] q' s'
  lacks e d = record { gone = d.gone; m = suc d.m; cut = d.cut; enough = omega (arith, d.enough); clock = omega (arith, d.clock); sees = e ∙ d.sees }

-- no turn at all
no_turn : (now : ℕ) (q : List Pair) → Served now now 0 q q []
no_turn now q = record { gone = []; m = 0; cut = refl; enough = omega arith; clock = omega arith; sees = refl }

-- a pair 0x80,0x80 that is seen is none of those that count
null_shown : (s : List Pair) → others (pair 0x80 0x80 ∷ s) ≡ others s
unfolding others is_null
null_shown s = refl

-- what n turns do for a field, the first of them being who's
abbrev pub Serves : Field → Bool → ℕ → List Pair → List Pair → Turned → Type 0
Serves f who n q1 q2 t = Served (mine f who) (mine f t.next1) n (the f q1 q2) (the f t.queue1 t.queue2) (of_field f (pairs_in (seen_all t.out)))

-- by the field that has the first turn
mutual
  unfolding turn1 turn2 seen_all seen pairs_in of_field1 of_field2

  serves1 : (n : ℕ) (pad : Bool) (q1 q2 : List Pair) (f : Field) → Serves f true n q1 q2 (turn1 n pad q1 q2)
  serves1 zero pad q1 q2 one = no_turn 1 q1
  serves1 zero pad q1 q2 two = no_turn 0 q2
  serves1 (suc n) pad (pair a b ∷ q1) q2 one = gives (pair a b) (serves2 n pad q1 q2 one)
  serves1 (suc n) pad (pair a b ∷ q1) q2 two = waits (serves2 n pad q1 q2 two)
  serves1 (suc n) pad [] (x ∷ q2) one = lacks (null_shown _) (serves2 n pad [] (x ∷ q2) one)
  serves1 (suc n) pad [] (x ∷ q2) two = waits (serves2 n pad [] (x ∷ q2) two)
  serves1 (suc n) true [] [] one = lacks refl (serves2 n true [] [] one)
  serves1 (suc n) true [] [] two = waits (serves2 n true [] [] two)
  serves1 (suc n) false [] [] one = lacks refl (serves2 n false [] [] one)
  serves1 (suc n) false [] [] two = waits (serves2 n false [] [] two)

  serves2 : (n : ℕ) (pad : Bool) (q1 q2 : List Pair) (f : Field) → Serves f false n q1 q2 (turn2 n pad q1 q2)
  serves2 zero pad q1 q2 one = no_turn 0 q1
  serves2 zero pad q1 q2 two = no_turn 1 q2
  serves2 (suc n) pad q1 (pair a b ∷ q2) one = waits (serves1 n pad q1 q2 one)
  serves2 (suc n) pad q1 (pair a b ∷ q2) two = gives (pair a b) (serves1 n pad q1 q2 two)
  serves2 (suc n) true q1 [] one = waits (serves1 n true q1 [] one)
  serves2 (suc n) true q1 [] two = lacks refl (serves1 n true q1 [] two)
  serves2 (suc n) false q1 [] one = waits (serves1 n false q1 [] one)
  serves2 (suc n) false q1 [] two = lacks refl (serves1 n false q1 [] two)

-- the turns of a frame, for either field
pub turns_serve : (f : Field) (n : ℕ) (s : Mux) → Serves f s.next1 n s.queue1 s.queue2 (turned n s)
unfolding turned
turns_serve f n s = by_who s.next1
  where
    by_who : (who : Bool) → Serves f who n s.queue1 s.queue2 (cond who (turn1 n s.pad608 s.queue1 s.queue2) (turn2 n s.pad608 s.queue1 s.queue2))
    by_who true = serves1 n s.pad608 s.queue1 s.queue2 f
    by_who false = serves2 n s.pad608 s.queue1 s.queue2 f

-- the pairs other than 0x80,0x80 of one list behind another
pub others_append : (a b : List Pair) → others (a ++ b) ≡ others a ++ others b
unfolding others
others_append [] b = refl
others_append (x ∷ a) b = by_test (is_null x) (λ e. simp (e, others_append a b)) (λ e. simp (e, others_append a b))

-- the pairs that go are those that are seen
pub gone_seen : {now then n : ℕ} {q q' shown : List Pair} → Served now then n q q' shown → others q ≡ others shown ++ others q'
gone_seen {q'} d = ap others d.cut ∙ others_append d.gone q' ∙ ap (λ (l : List Pair). l ++ others q') (sym d.sees)
