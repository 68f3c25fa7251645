-- What is told of a job, by what it is. Assumes nothing.
use mathlib.Core.Path.{◌≡◌, sym, subst, ◌∙◌}
use mathlib.Core.List.{List, []}
use Prim.Native.Nat.{ℕ, ◌+◌, ◌*◌, ◌≤◌}
use native.Mathlib.Omega.{arith}
use lib.ListN.{length, take, drop, length-drop}
use lib.Seq.{take_all}
use Rattle.model.specs.Said.{over_limit}
use Rattle.std.specs.Prelude.{Result}
use Rattle.caption.specs.Answers.{said}
use Rattle.caption.specs.declared.Refusal.{Refusal}
use Rattle.model_packing.specs.Pieces.{pieces_of}
use Rattle.model_packing.specs.Proposals.{check_proposal}
use Rattle.program_text.specs.Laid.{Laid}
use Rattle.ccpack_report.specs.Lines.{bad_line, answer_line, packed_text}
use Rattle.ccpack_report.specs.Jobs.{head_length, job_in, checked_text, told_of, job_text, kept_job}
use Rattle.ccpack_report.specs.declared.Job.{Job}
use Rattle.ccpack_report.specs.declared.Job.TheVariants.{Bad, TooMany, Check, Propose}
use Rattle.ccpack_report.proofs.Kept.{Bytes, Sized, sized, checked_kept, proposed_kept}

-- the answer to the proposal of a job
pub laid_checked : (runs : ℕ) (job : List ℕ) {services lengths numbers out after : List ℕ} {at r : ℕ} (answer : Result (Unit {0}) Refusal) → services ≡ take runs (drop 3 job)
    → lengths ≡ take runs (drop (3 + runs) job) → numbers ≡ take (length job) (drop (3 + 2 * runs) job)
    → said (λ _. []) answer ≡ check_proposal services lengths (pieces_of numbers) → Laid (answer_line (said (λ _. []) answer)) out at r after → Laid (checked_text runs job) out at r after
unfolding checked_text
laid_checked runs job answer s l n e w =
    let all : length (drop (head_length runs) job) ≤ length job = rw length-drop (omega arith) in
    rw (e, s, l, n ∙ take_all (length job) (drop (head_length runs) job) all) at w

module _ (job : List ℕ) (over : ℕ) {j : Job} (is : j ≡ job_in (kept_job job over)) where
  -- what the number of runs is
  sized_so : Sized (length (kept_job job over)) j
  sized_so = subst (Sized (length (kept_job job over))) (sym is) (sized (kept_job job over))

  pub check_few : {runs : ℕ} → j ≡ Check runs → runs ≤ 256
  check_few e = (subst (Sized (length (kept_job job over))) e sized_so).0

  propose_sized : {runs : ℕ} → j ≡ Propose runs → Sized (length (kept_job job over)) (Propose runs)
  propose_sized e = subst (Sized (length (kept_job job over))) e sized_so

  pub propose_few : {runs : ℕ} → j ≡ Propose runs → runs ≤ 256
  propose_few e = (propose_sized e).0

  module _ {out after : List ℕ} {at r : ℕ} where
    text_of : {k : Job} → j ≡ k → Laid (told_of k (kept_job job over)) out at r after → Laid (job_text (kept_job job over)) out at r after
    unfolding job_text
    text_of e w = rw (sym is ∙ e) w

    -- no job
    pub laid_bad : j ≡ Bad → Laid bad_line out at r after → Laid (job_text (kept_job job over)) out at r after
    unfolding told_of
    laid_bad e w = text_of e w

    -- too many runs
    pub laid_too_many : j ≡ TooMany → Laid (answer_line over_limit) out at r after → Laid (job_text (kept_job job over)) out at r after
    unfolding told_of
    laid_too_many e w = text_of e w

    -- a job to check
    pub laid_check : {runs : ℕ} → Bytes job → j ≡ Check runs → Laid (checked_text runs job) out at r after → Laid (job_text (kept_job job over)) out at r after
    unfolding told_of
    laid_check {runs} bytes e w = text_of e (rw (checked_kept job over runs bytes (check_few e)) at w)

    -- a job to propose
    pub laid_propose : {runs : ℕ} {services lengths : List ℕ} → j ≡ Propose runs → services ≡ take runs (drop 3 job) → lengths ≡ take runs (drop (3 + runs) job)
        → Laid (packed_text services lengths) out at r after → Laid (job_text (kept_job job over)) out at r after
    unfolding told_of
    laid_propose {runs} e s l w = text_of e (rw (proposed_kept job over runs (propose_sized e)) (rw (s, l) at w))
