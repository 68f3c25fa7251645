-- What a job is, one law for each way out of the tests on it, and a job of which bytes are beyond what is kept. Assumes nothing.
use mathlib.Core.Path.{◌≡◌, ap, ◌∙◌}
use mathlib.Core.List.{List, ◌++◌}
use Prim.Native.Nat.{ℕ, ◌+◌, ◌-◌, ◌*◌, ◌%◌, ◌≤◌, ◌<◌}
use native.Mathlib.Omega.{arith}
use lib.Dec.{ltb}
use lib.ListN.{length, get_or, length-append, length-replicate, get_or-append}
use borrow.Author.Tests.{ltb-true, ltb-false, lt-ltb, le-ltb, eq-eqb, ne_eqb}
use Rattle.model.proofs.Cases.{by_test}
use Rattle.model_packing.specs.Proposals.{zeros}
use Rattle.ccpack_report.specs.Jobs.{check_job, propose_job, job_of, job_in, most_kept, kept_job, kept_length}
use Rattle.ccpack_report.specs.declared.Job.{Job}
use Rattle.ccpack_report.specs.declared.Job.TheVariants.{Bad, TooMany, Check, Propose}

-- a job to check
module _ (runs size : ℕ) where
  pub check_too_many : 256 < runs → TooMany ≡ check_job runs size
  unfolding check_job
  check_too_many h = rw (lt-ltb _ _ h)

  pub check_short : runs ≤ 256 → size < 3 + 2 * runs → Bad ≡ check_job runs size
  unfolding check_job
  check_short h g = rw (le-ltb _ _ h, lt-ltb _ _ g)

  pub check_whole : runs ≤ 256 → 3 + 2 * runs ≤ size → (size - (3 + 2 * runs)) % 5 ≡ 0 → Check runs ≡ check_job runs size
  unfolding check_job
  check_whole h g e = rw (le-ltb _ _ h, le-ltb _ _ g, eq-eqb _ _ e)

  pub check_left : runs ≤ 256 → 3 + 2 * runs ≤ size → ((size - (3 + 2 * runs)) % 5 ≡ 0 → ⊥) → Bad ≡ check_job runs size
  unfolding check_job
  check_left h g e = rw (le-ltb _ _ h, le-ltb _ _ g, ne_eqb _ _ e)

  -- a job to propose
  pub propose_too_many : 256 < runs → TooMany ≡ propose_job runs size
  unfolding propose_job
  propose_too_many h = rw (lt-ltb _ _ h)

  pub propose_whole : runs ≤ 256 → size ≡ 3 + 2 * runs → Propose runs ≡ propose_job runs size
  unfolding propose_job
  propose_whole h e = rw (le-ltb _ _ h, eq-eqb _ _ e)

  pub propose_wrong : runs ≤ 256 → (size ≡ 3 + 2 * runs → ⊥) → Bad ≡ propose_job runs size
  unfolding propose_job
  propose_wrong h e = rw (le-ltb _ _ h, ne_eqb _ _ e)

  -- a job of some kind
  module _ (kind : ℕ) where
    pub job_short : size < 3 → Bad ≡ job_of kind runs size
    unfolding job_of
    job_short h = rw (lt-ltb _ _ h)

    pub job_check : {r : Job} → 3 ≤ size → kind ≡ 67 → r ≡ check_job runs size → r ≡ job_of kind runs size
    unfolding job_of
    job_check h k e = rw (le-ltb _ _ h, eq-eqb _ _ k) e

    pub job_propose : {r : Job} → 3 ≤ size → (kind ≡ 67 → ⊥) → kind ≡ 80 → r ≡ propose_job runs size → r ≡ job_of kind runs size
    unfolding job_of
    job_propose h k l e = rw (le-ltb _ _ h, ne_eqb _ _ k, eq-eqb _ _ l) e

    pub job_none : 3 ≤ size → (kind ≡ 67 → ⊥) → (kind ≡ 80 → ⊥) → Bad ≡ job_of kind runs size
    unfolding job_of
    job_none h k l = rw (le-ltb _ _ h, ne_eqb _ _ k, ne_eqb _ _ l)

-- a length, and bytes beyond
module _ (kept over : ℕ) where
  pub length_kept : kept < most_kept → kept ≡ kept_length kept over
  unfolding kept_length
  length_kept h = rw (lt-ltb _ _ h)

  pub length_beyond : most_kept ≤ kept → kept + over % 5 ≡ kept_length kept over
  unfolding kept_length
  length_beyond h = rw (le-ltb _ _ h)

-- a job that is kept whole, and one with bytes beyond
module _ (job : List ℕ) (over : ℕ) where
  pub kept_whole : length job < most_kept → kept_job job over ≡ job
  unfolding kept_job
  kept_whole h = rw (lt-ltb _ _ h)

  pub kept_beyond : most_kept ≤ length job → kept_job job over ≡ job ++ zeros (over % 5)
  unfolding kept_job
  kept_beyond h = rw (le-ltb _ _ h)

  -- its length is the one that is told of it,
  pub length_job : length (kept_job job over) ≡ kept_length (length job) over
  length_job =
      by_test (ltb (length job) most_kept)
      (λ t. let h = ltb-true _ _ t in ap length (kept_whole h) ∙ length_kept (length job) over h)
      (λ t. let h = ltb-false _ _ t in ap length (kept_beyond h) ∙ length-append job (zeros (over % 5)) ∙ ap (λ (n : ℕ). length job + n) (length-replicate (over % 5) 0)
      ∙ length_beyond (length job) over h)

  -- and it begins as what is kept does
  pub kept_at : (i : ℕ) → i < 3 → get_or (kept_job job over) i 0 ≡ get_or job i 0
  kept_at i g =
      by_test (ltb (length job) most_kept)
      (λ t. ap (λ (l : List ℕ). get_or l i 0) (kept_whole (ltb-true _ _ t)))
      (λ t. let h : most_kept ≤ length job = ltb-false _ _ t in
      ap (λ (l : List ℕ). get_or l i 0) (kept_beyond h) ∙ get_or-append job (zeros (over % 5)) 0 i (omega arith))

  -- so what it is shows in what is kept
  pub job_kept : {kind high low size : ℕ} {r : Job} → kind ≡ get_or job 0 0 → high ≡ get_or job 1 0 → low ≡ get_or job 2 0 → size ≡ kept_length (length job) over
      → r ≡ job_of kind (256 * high + low) size → r ≡ job_in (kept_job job over)
  unfolding job_in
  job_kept k h l s e =
      rw (kept_at 0 (omega arith), kept_at 1 (omega arith), kept_at 2 (omega arith), length_job, ← k, ← h, ← l, ← s) e
