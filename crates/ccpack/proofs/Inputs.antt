-- What is told of what is kept of an input is told of the input, and how a read goes on. Assumes nothing.
use mathlib.Core.Path.{◌≡◌, refl, sym, ap, ◌∙◌}
use mathlib.Core.Bool.{true, not}
use mathlib.Core.List.{List, [], ◌++◌}
use Prim.Native.Nat.{ℕ, ◌+◌, ◌-◌, ◌%◌, ◌≤◌, ◌<◌}
use native.Mathlib.Omega.{arith}
use lib.Dec.{eqb, ltb}
use lib.ListN.{length, take, drop, length-append, length-drop, take-append-drop}
use lib.Seq.{length-take-le, take_all, take-append-le}
use borrow.Author.Tests.{ltb-true, ltb-false, eq-eqb, ne_eqb}
use Rattle.model.proofs.Cases.{by_test}
use Rattle.model_packing.specs.Proposals.{zeros}
use Rattle.program_text.specs.Laid.{Laid}
use Rattle.program_text.proofs.Layings.{laid_whole, whole_taken}
use Rattle.program_streams.specs.Walk.{Follow}
use Rattle.program_streams.proofs.Inputs.{given}
use Rattle.ccpack_report.specs.Jobs.{job_text, most_kept, kept_job}
use Rattle.ccpack_report.proofs.Sorts.{kept_whole, kept_beyond}
use Rattle.ccpack_report.proofs.Kept.{Bytes, bytes_part, kept_tells}
use Rattle.ccpack_report.proofs.Fits.{kept_job_fits}
use Rattle.ccpack.specs.declared.Reading.{Reading}
use Rattle.ccpack.specs.Input.{Leaves, unread_yet, Tells, Steps, Ran}

module _ (buf : List ℕ) (bytes : Bytes buf) (s : Reading) where
  -- what is kept of an input tells what is told of it
  kept_told : (input : List ℕ) → Leaves input buf s → job_text (kept_job (take s.have buf) s.over) ≡ job_text input
  kept_told input l =
      by_test (ltb (length input) most_kept)
      (λ t. let h : length input < most_kept = ltb-true _ _ t in
      let e : take s.have buf ≡ input = l.kept ∙ take_all s.have input (omega (arith, l.have)) in
      let k : length (take s.have buf) < most_kept = omega (arith, ap length e) in
      ap job_text (kept_whole (take s.have buf) s.over k ∙ e))
      (λ t. let h : most_kept ≤ length input = ltb-false _ _ t in
      let n : length (take s.have buf) ≡ most_kept = ap length l.kept ∙ length-take-le s.have input (omega (arith, l.have)) ∙ omega (arith, l.have) in
      let d : length (drop s.have input) ≡ length input - s.have = length-drop s.have input in
      let o : s.over % 5 ≡ length (drop s.have input) % 5 = omega (arith, d, l.over) in
      let whole : take s.have buf ++ drop s.have input ≡ input = ap (λ (x : List ℕ). x ++ drop s.have input) l.kept ∙ take-append-drop s.have input in
      ap job_text (kept_beyond (take s.have buf) s.over (omega (arith, n)) ∙ ap (λ (k : ℕ). take s.have buf ++ zeros k) o)
      ∙ sym (kept_tells (take s.have buf) (drop s.have input) n (bytes_part buf s.have 0 bytes)) ∙ ap job_text whole)

  -- and there is room for it
  pub tells : {job out after text : List ℕ} {end : ℕ} → 8192 ≤ length out → job ≡ take s.have (drop 0 buf) → Laid (job_text (kept_job job s.over)) out 0 end after
      → text ≡ take end (drop 0 after) → Tells text buf s
  tells {job} {out} {after} {text} {end} room j w e input l =
      let fits : 0 + length (job_text (kept_job (take s.have buf) s.over)) ≤ length out =
      omega (arith, kept_job_fits (take s.have buf) s.over (bytes_part buf s.have 0 bytes)) in
      let v : Laid (job_text (kept_job (take s.have buf) s.over)) out 0 end after = rw j at w in
      e ∙ whole_taken (laid_whole v fits) (omega arith) ∙ kept_told input l

-- bytes that a read gave are some, or none
going_on : (n : ℕ) (bytes : List ℕ) → length bytes ≡ n → ltb 0 n ≡ not (eqb (length bytes) 0)
going_on n bytes e =
    by_test (ltb 0 n)
    (λ t. let h : 0 < n = ltb-true _ _ t in rw (t, ne_eqb (length bytes) 0 (λ z. omega (arith, h, e, z))))
    (λ t. let h : n ≤ 0 = ltb-false _ _ t in let z : length bytes ≡ 0 = omega arith in rw (t, eq-eqb (length bytes) 0 z))

module _ {s r : Reading} {n : ℕ} where
  -- a read into the place that is left
  pub steps_kept : {buf after : List ℕ} → s.have < most_kept → length after ≡ most_kept → Follow buf s.have n after
      → r ≡ record { have = s.have + n; over = s.over; going = ltb 0 n } → s.over < 5 → Steps buf s after r × ((r.have ≤ most_kept) × (r.over < 5))
  steps_kept {buf} {after} h m f e few =
      let g = given f in
      let more : List ℕ = take n (drop s.have after) in
      rw e (
        (
          more,
          λ input l. let same : take s.have input ≡ input = take_all s.have input (omega (arith, l.have)) in
              let size : length (input ++ more) ≡ length input + n = length-append input more ∙ ap (λ (k : ℕ). length input + k) g.0 in
              record {
                have = omega (arith, l.have, size, f.within, m);
                kept = g.1 ∙ ap (λ (x : List ℕ). x ++ more) (l.kept ∙ same) ∙ sym (take_all (s.have + n) (input ++ more) (omega (arith, l.have, size)));
                over = omega (arith, l.have, l.over, size);
              },
          going_on n more g.0,
        ),
        (omega (arith, f.within, m), few),
      )

  -- a read past it
  pub steps_past : {buf out after : List ℕ} → most_kept ≤ s.have → Follow out 0 n after
      → r ≡ record { have = s.have; over = (s.over + n) % 5; going = ltb 0 n } → s.have ≤ most_kept → Steps buf s buf r × ((r.have ≤ most_kept) × (r.over < 5))
  steps_past {buf} {out} {after} h f e most =
      let g = given f in
      let more : List ℕ = take n (drop 0 after) in
      rw e (
        (
          more,
          λ input l. let size : length (input ++ more) ≡ length input + n = length-append input more ∙ ap (λ (k : ℕ). length input + k) g.0 in
              record {
                have = omega (arith, l.have, size);
                kept = l.kept ∙ sym (take-append-le s.have input more (omega (arith, l.have)));
                over = omega (arith, l.have, l.over, size, h);
              },
          going_on n more g.0,
        ),
        (most, omega arith),
      )

-- more is to be read, behind some input
pub record Stays (buf : List ℕ) (s : Reading) : Type 0 where
  pub most : s.have ≤ most_kept
  pub few : s.over < 5
  pub going : s.going ≡ true
  pub ran : Ran buf s

-- nothing is read
pub first_stays : (buf : List ℕ) (s : Reading) → s ≡ unread_yet → Stays buf s
first_stays buf s e = rw e (record { most = omega arith; few = omega arith; going = refl; ran = ([], record { have = refl; kept = refl; over = refl }) })

-- and one read more
pub ran_next : {buf after : List ℕ} {s r : Reading} → Stays buf s → Steps buf s after r → Ran after r
ran_next w t = (w.ran.0 ++ t.0, t.1 w.ran.0 w.ran.1)

-- a read that failed, or a text that was not written, leaves what is read as it was
pub still_ran : {buf after : List ℕ} {s : Reading} → Ran buf s → take s.have after ≡ take s.have buf → Ran after s
still_ran i e = let l = i.1 in (i.0, record { have = l.have; kept = e ∙ l.kept; over = l.over })
