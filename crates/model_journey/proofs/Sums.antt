-- What is carried adds up: the budgets of writes at one rate are what all of them are due, rounded down once; and with its padding on the bytes of the
-- frames show them. Assumes nothing.
use mathlib.Core.Path.{◌≡◌, refl, sym, ap, ◌∙◌}
use mathlib.Core.Bool.{true, ◌&&◌}
use mathlib.Core.List.{List, [], ◌∷◌, ◌++◌}
use Prim.Native.Nat.{ℕ, suc, ◌+◌, ◌*◌, ◌/◌, ◌<◌}
use native.Mathlib.Nat.{add-mul, one-mul, mul-add, zero-mul, mul-zero, zero-div, div-eq_of_lt-le}
use native.Mathlib.Omega.{arith}
use lib.Dec.{eqb}
use lib.ListN.{length}
use borrow.Author.Tests.{eqb-true, eqb-false, ne_eqb}
use Rattle.model.specs.Frame.{field1, field2, Seen, seen_all, frame_bytes}
use Rattle.model.specs.Rate.{Rate, rate, Budgets, rounded, pairs_at, triples_at, Carry, no_carry, going_on, Share, carried_on}
use Rattle.model.specs.Mux.{Mux, turns_due, count_due, framed, write_frame, write_share}
use Rattle.model.specs.Run.{Call, pushes, pushes608, sets, writes, call, run, Accepted, Allowed, Stays}
use Rattle.model.proofs.Cases.{by_test, by_cond, both}
use Rattle.model.proofs.Frames.{unflat}
use Rattle.model.proofs.Carrying.{whole, below, going_on_same}
use Rattle.model.proofs.Turns.{turns_count}
use Rattle.model_journey.specs.Bounds.{budgets_in, writes_in}
use Rattle.model_journey.specs.Sums.{Kind, of_pairs, of_triples, due, budget_of, rest_of, total, Afresh, no_parts, other_numer, other_denom, due_of, AddUp, fills, pair_triples_in, shown, shown_all}
use Rattle.model_journey.proofs.Parts.{In608, end6, one6, two6, void6, In708, end7, start7, more7, void7, seen_length}
use Rattle.model_journey.proofs.Triples.{Follow}
use Rattle.model_journey.proofs.Seen.{turns_in, seen708, seen_parts, seen_608, seen_708}
use Rattle.model_journey.proofs.Calls.{SameSum, sum_push, sum_608, sum_switch, mode_switch, quiet_switch, quiet_608, quiet_push}
use Rattle.model_journey.proofs.Four.{follow_write}
use Rattle.model_journey.proofs.Paces.{on_share}

-- what is left over at a rate
abbrev rest_at : Kind → Rate → Carry → ℕ
rest_at k r c = rest_of k (going_on r.numer r.denom c)

-- a budget of either kind and what it leaves over are what was left over and what came
kind_whole : (k : Kind) (n d : ℕ) (c : Carry) → budget_of k (carried_on n d c).budgets * n + rest_of k (carried_on n d c).carry ≡ rest_of k c + due k * d
unfolding carried_on
kind_whole of_pairs n d c = whole 60 n d c.pairs
kind_whole of_triples n d c = whole 600 n d c.triples

-- which is below numer
kind_below : (k : Kind) (n d : ℕ) (c : Carry) → 0 < n → rest_of k (carried_on n d c).carry < n
unfolding carried_on
kind_below of_pairs n d c pos = below 60 n d c.pairs pos
kind_below of_triples n d c pos = below 600 n d c.triples pos

-- one budget before a sum of others
one_before : (b t n x y z f w d : ℕ) → b * n + y ≡ x + f * d → t * n + z ≡ y + f * (w * d) → (b + t) * n + z ≡ x + f * (suc w * d)
one_before b t n x y z f w d e g =
    let p : suc w * d ≡ d + w * d = omega (arith, add-mul 1 w d, one-mul d) in
    rw (p, add-mul b t n, mul-add f d (w * d)) (omega arith)

-- no parts leave nothing over
zero_rest : (k : Kind) → rest_of k no_carry ≡ 0
zero_rest of_pairs = refl
zero_rest of_triples = refl

module _ (k : Kind) (r : Rate) where
  -- from the same parts the same is left over
  from_same : {n : ℕ} (cs : List Call) {s s' : Mux} → SameSum s s' → n ≡ rest_at k r s'.carry + due k * (writes_in cs * r.denom)
      → n ≡ rest_at k r s.carry + due k * (writes_in cs * r.denom)
  from_same cs e h = h ∙ ap (λ (c : Carry). rest_at k r c + due k * (writes_in cs * r.denom)) e.carry

  -- the budgets and what they leave over are what was left over before and what came
  all_whole : (cs : List Call) (s : Mux) → s.carrying ≡ true → Stays true r cs s
      → total k (budgets_in cs) * r.numer + rest_at k r (run cs s).last.carry ≡ rest_at k r s.carry + due k * (writes_in cs * r.denom)
  unfolding run call
  all_whole [] s m st = rw (zero-mul r.numer, zero-mul r.denom, mul-zero (due k)) (omega arith)
  all_whole (pushes p ∷ cs) s m st = from_same cs (sum_push p s) (all_whole cs _ ((sum_push p s).carrying ∙ m) st.1)
  all_whole (pushes608 x ∷ cs) s m st = from_same cs (sum_608 x s) (all_whole cs _ ((sum_608 x s).carrying ∙ m) st.1)
  all_whole (sets x ∷ cs) s m st = let e = sum_switch x s st.0 m in from_same cs e (all_whole cs _ (e.carrying ∙ m) st.1)
  all_whole (writes h ∷ cs) s m st =
      let a = on_share r h s m st.0 in
      let c : Carry = going_on r.numer r.denom s.carry in
      let first = kind_whole k r.numer r.denom c in
      let kept : rest_at k r h.carry ≡ rest_of k (carried_on r.numer r.denom c).carry = rw a.is (ap (rest_of k) (going_on_same r.numer r.denom c)) in
      let then = all_whole cs (write_share h s).next m st.1 in
      one_before (budget_of k h.budgets) (total k (budgets_in cs)) r.numer (rest_at k r s.carry) (rest_at k r h.carry) _ (due k) (writes_in cs) r.denom
      (rw (kept, a.is) first) then

  -- what is left over stays below numer
  all_below : (cs : List Call) (s : Mux) → s.carrying ≡ true → Stays true r cs s → rest_at k r s.carry < r.numer → rest_at k r (run cs s).last.carry < r.numer
  unfolding run call
  all_below [] s m st h = h
  all_below (pushes p ∷ cs) s m st h = let e = sum_push p s in all_below cs _ (e.carrying ∙ m) st.1 (rw e.carry h)
  all_below (pushes608 x ∷ cs) s m st h = let e = sum_608 x s in all_below cs _ (e.carrying ∙ m) st.1 (rw e.carry h)
  all_below (sets x ∷ cs) s m st h = let e = sum_switch x s st.0 m in all_below cs _ (e.carrying ∙ m) st.1 (rw e.carry h)
  all_below (writes b ∷ cs) s m st h =
      let a = on_share r b s m st.0 in
      let c : Carry = going_on r.numer r.denom s.carry in
      all_below cs (write_share b s).next m st.1 (rw (a.is, going_on_same r.numer r.denom c) (kind_below k r.numer r.denom c a.some))

  -- a rate of no frames has no write
  no_write : (cs : List Call) (s : Mux) → s.carrying ≡ true → Stays true r cs s → r.numer ≡ 0 → budgets_in cs ≡ []
  unfolding call
  no_write [] s m st z = refl
  no_write (pushes p ∷ cs) s m st z = no_write cs _ ((sum_push p s).carrying ∙ m) st.1 z
  no_write (pushes608 x ∷ cs) s m st z = no_write cs _ ((sum_608 x s).carrying ∙ m) st.1 z
  no_write (sets x ∷ cs) s m st z = no_write cs _ (mode_switch true x s st.0 m) st.1 z
  no_write (writes h ∷ cs) s m st z = absurd (omega (arith, (on_share r h s m st.0).some))

  -- nothing is left over where a sum starts afresh
  none_left : (c : Carry) → Afresh r c → rest_at k r c ≡ 0
  unfolding going_on
  none_left c (no_parts e) = rw e (by_cond (λ (x : Carry). rest_of k x ≡ 0) (eqb 0 r.numer && eqb 0 r.denom) (λ _. zero_rest k) (λ _. zero_rest k))
  none_left c (other_numer f) = rw (ne_eqb c.numer r.numer f) (zero_rest k)
  none_left c (other_denom f) =
      by_cond (λ (x : Carry). rest_of k x ≡ 0) (eqb c.numer r.numer && eqb c.denom r.denom)
      (λ e. absurd (f (eqb-true c.denom r.denom (both (eqb c.numer r.numer) (eqb c.denom r.denom) e).1))) (λ _. zero_rest k)

  -- over the first writes at an unchanged rate since the sum began afresh the budgets of either kind add up to what these are due, rounded down once
  -- [G4], whatever else is called between them; no flush, and no change of mode
  pub sums : (cs : List Call) (s : Mux) → s.carrying ≡ true → Stays true r cs s → Afresh r s.carry → AddUp k r cs
  sums cs s m st a =
      by_test (eqb r.numer 0)
      (λ e. rw (no_write cs s m st (eqb-true r.numer 0 e)) (sym (rw (zero-mul r.denom, mul-zero (due k)) (zero-div r.numer))))
      (λ e. let none = none_left s.carry a in
      let pos : 0 < r.numer = omega (arith, eqb-false r.numer 0 e) in
      let all = all_whole cs s m st in
      let few = all_below cs s m st (rw none pos) in
      let t : ℕ = total k (budgets_in cs) in
      sym (div-eq_of_lt-le {k = t} r.numer {m = due k * (writes_in cs * r.denom)} (omega arith) (omega (arith, add-mul t 1 r.numer, one-mul r.numer))))

-- a 608 part is all 608 triples
count_608 : {xs : List Seen} → In608 xs → (ys : List Seen) → pair_triples_in (xs ++ ys) ≡ length xs + pair_triples_in ys
unfolding pair_triples_in
count_608 end6 ys = omega arith
count_608 (one6 h) ys = omega (arith, count_608 h ys)
count_608 (two6 h) ys = omega (arith, count_608 h ys)
count_608 (void6 h) ys = omega (arith, count_608 h ys)

-- a 708 part has none
count_708 : {ys : List Seen} → In708 ys → pair_triples_in ys ≡ 0
unfolding pair_triples_in
count_708 end7 = refl
count_708 (start7 h) = count_708 h
count_708 (more7 h) = count_708 h
count_708 (void7 h) = count_708 h

-- the turns of a frame with 608 padding are its pairs, and a reader sees each of them
turns_shown : (b : Budgets) (s : Mux) → s.pad608 ≡ true → Follow s.sending → pair_triples_in (seen_all (write_frame b s).frame.triples) ≡ b.pairs
unfolding turns_due
turns_shown b s on f =
    let all : turns_due b.pairs s ≡ b.pairs = rw on in
    rw (seen_parts b s, count_608 (seen_608 b s) (seen708 b s), count_708 (seen_708 b s f), seen_length (turns_in b s))
    (omega (arith, (turns_count (turns_due b.pairs s) s).all on))

-- the count of a frame with output padding is its triples
count_shown : (b : Budgets) (s : Mux) → s.pad_out ≡ true → (write_frame b s).frame.count ≡ b.triples
unfolding write_frame framed count_due
count_shown b s on = rw on

-- with the padding that fills it a frame shows its budget
write_shown : (k : Kind) (h : Share) (s : Mux) → Accepted h.budgets → fills k s ≡ true → Follow s.sending → shown k (frame_bytes (write_share h s).frame) ≡ budget_of k h.budgets
unfolding frame_bytes
write_shown of_pairs h s a on f = rw (unflat (write_share h s).frame.triples) (turns_shown h.budgets s on f)
write_shown of_triples h s a on f = rw (count_shown h.budgets s on) (omega (arith, a.most))

-- and frames show the sum of theirs, whatever else is called
pub run_shown : (k : Kind) (cs : List Call) (s : Mux) → Allowed (fills k) cs s → Follow s.sending → shown_all k (run cs s).frames ≡ total k (budgets_in cs)
unfolding run call
run_shown k [] s a f = refl
run_shown k (pushes p ∷ cs) s a f = run_shown k cs _ a.1 (rw (quiet_push p s).sending f)
run_shown k (pushes608 (field1 x) ∷ cs) s a f = run_shown k cs _ a.1 (rw (quiet_608 (field1 x) s).sending f)
run_shown k (pushes608 (field2 x) ∷ cs) s a f = run_shown k cs _ a.1 (rw (quiet_608 (field2 x) s).sending f)
run_shown k (sets x ∷ cs) s a f = run_shown k cs _ a.1 (rw (quiet_switch x s).sending f)
run_shown k (writes h ∷ cs) s a f =
    rw (write_shown k h s a.0.0 a.0.1 f) (ap (λ n. budget_of k h.budgets + n) (run_shown k cs (write_share h s).next a.1 (follow_write h s f)))

-- An hour at 24000/1001 is 86,313 frames and a part: so many triples and pairs are due; rounded in each frame so many are given.
pub an_hour : (3600 * 24000 / 1001 ≡ 86313) × (due_of of_triples (rate 24000 1001) 86313 ≡ 2159982) × (due_of of_pairs (rate 24000 1001) 86313 ≡ 215998)
    × (86313 * triples_at 24000 1001 ≡ 2157825) × (86313 * pairs_at 24000 1001 ≡ 258939)
unfolding rounded
an_hour = (refl, refl, refl, refl, refl)
