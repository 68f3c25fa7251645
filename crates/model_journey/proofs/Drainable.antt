-- Every allowed run can be drained by writes, so that the round trip speaks of every one of them. Assumes nothing.
use mathlib.Core.Path.{◌≡◌, refl}
use mathlib.Core.Bool.{true, or-true}
use mathlib.Core.List.{List, [], ◌∷◌, ◌++◌}
use Prim.Native.Nat.{ℕ, zero, suc, ◌+◌, ◌*◌, ◌≤◌}
use native.Mathlib.Omega.{arith}
use lib.ListN.{length, replicate}
use Rattle.model.specs.Rate.{Share}
use Rattle.model.specs.Mux.{Mux, with_true_count, true_counting, unsent, framed, write_frame, write_share}
use Rattle.model.specs.Run.{Call, sets, writes, call, run, Accepted, exact_count, Allowed, Drained}
use Rattle.model_journey.specs.Bounds.{budgets_in, writes_in, paired_in, AtRates, NoPush}
use Rattle.model_journey.proofs.Drains.{drains_paired}

-- calls behind others
last_append : (cs ds : List Call) (s : Mux) → (run (cs ++ ds) s).last ≡ (run ds (run cs s).last).last
unfolding run
last_append [] ds s = refl
last_append (c ∷ cs) ds s = last_append cs ds (call c s).last

-- they are allowed if both are
allowed_append : (cs ds : List Call) (s : Mux) → Allowed exact_count cs s → Allowed exact_count ds (run cs s).last → Allowed exact_count (cs ++ ds) s
unfolding run
allowed_append [] ds s w v = v
allowed_append (c ∷ cs) ds s w v = (w.0, allowed_append cs ds (call c s).last w.1 v)

module _ (h : Share) (a : Accepted h.budgets) (some : 1 ≤ h.budgets.pairs) where
  -- n writes with one share
  abbrev writing : ℕ → List Call
  writing n = replicate n (writes h)

  -- are allowed while the true count is on, which a write leaves as it is
  allowed_writing : (n : ℕ) (s : Mux) → s.true_count ≡ true → Allowed exact_count (writing n) s
  unfolding call write_frame framed
  allowed_writing zero s on = tt
  allowed_writing (suc n) s on = ((a, rw (on, or-true s.pad_out, or-true s.pad608)), allowed_writing n (write_share h s).next on)

  -- push nothing
  no_push : (n : ℕ) → NoPush (writing n)
  no_push zero = tt
  no_push (suc n) = no_push n

  -- are accepted
  at_rates : (n : ℕ) → AtRates (writing n)
  at_rates zero = tt
  at_rates (suc n) = (a, at_rates n)

  -- are n
  writes_in_writing : (n : ℕ) → writes_in (writing n) ≡ n
  writes_in_writing zero = refl
  writes_in_writing (suc n) = rw (writes_in_writing n)

  -- and have a pair each
  paired_in_writing : (n : ℕ) → paired_in (budgets_in (writing n)) ≡ n
  paired_in_writing zero = refl
  paired_in_writing (suc n) = rw (paired_in_writing n) (omega arith)

  -- with the true count turned on, and the paddings as they are, so many writes more drain any run
  pub drainable : (cs : List Call) (s : Mux) → Allowed exact_count cs s
      → (n : ℕ) × Allowed exact_count (cs ++ (sets (true_counting true) ∷ writing n)) s × Drained (run (cs ++ (sets (true_counting true) ∷ writing n)) s).last
  unfolding run call
  drainable cs s w =
      let t : Mux = (run cs s).last in
      let n : ℕ = 2 * length t.queue1 + 2 * length t.queue2 + unsent t in
      let k = writes_in_writing n in
      let p = paired_in_writing n in (
        n,
        allowed_append cs (sets (true_counting true) ∷ writing n) s w (tt, allowed_writing n (with_true_count true t) refl),
        rw (last_append cs (sets (true_counting true) ∷ writing n) s) (drains_paired (writing n) (with_true_count true t) (no_push n) (at_rates n) (omega arith) (omega arith) (omega arith)),
      )
