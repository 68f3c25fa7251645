-- What is kept of a job, and how many bytes are beyond modulo 5, decide what is told of it: there are then more pieces than bytes to cover. Assumes
-- nothing.
use mathlib.Core.Path.{◌≡◌, refl, sym, ap, subst, ◌∙◌}
use mathlib.Core.List.{List, [], ◌∷◌, ◌++◌, map, flat_map, append-nil}
use Prim.Native.Nat.{ℕ, zero, suc, ◌+◌, ◌-◌, ◌*◌, ◌%◌, ◌≤◌, ◌<◌}
use native.Mathlib.Omega.{arith}
use lib.Dec.{eqb, ltb}
use lib.ListN.{length, get_or, take, drop, length-append, length-map, length-take, length-drop, length-replicate, get_or-replicate, get_or-append, get_or-eq_default}
use lib.Seq.{get_or-take, get_or-drop, get_or-append-add, take-append-le, drop-append-le}
use borrow.Author.Tests.{ltb-true, ltb-false, eqb-true, le-ltb, ne_eqb}
use Rattle.model.specs.Said.{bad_cover}
use Rattle.model.proofs.Cases.{by_test, by_cond}
use Rattle.model_packing.specs.Pieces.{byte, pieces_of, count_from, run_bytes, bytes_of}
use Rattle.model_packing.specs.Proposals.{zeros, most_runs, check_proposal, bytes_first}
use Rattle.model_packing.proofs.Crowded.{crowded}
use Rattle.ccpack_report.specs.Lines.{answer_line}
use Rattle.ccpack_report.specs.Jobs.{head_length, check_job, propose_job, job_of, job_in, runs_in, services_in, lengths_in, numbers_in, checked_text, told_of, job_text, most_kept, kept_job}
use Rattle.ccpack_report.specs.declared.Job.{Job}
use Rattle.ccpack_report.specs.declared.Job.TheVariants.{Bad, TooMany, Check, Propose}
use Rattle.ccpack_report.proofs.Sorts.{kept_whole, kept_beyond}

-- numbers of one byte each
abbrev pub Bytes : List ℕ → Type 0
Bytes l = (i : ℕ) → get_or l i 0 < 256

-- a part of such numbers
pub bytes_part : (l : List ℕ) (n m : ℕ) → Bytes l → Bytes (take n (drop m l))
bytes_part l n m b i =
    by_test (ltb i n)
    (λ t. rw (get_or-take n (drop m l) i 0 (ltb-true _ _ t), get_or-drop m l i 0) (b (m + i)))
    (λ t. let h : length (take n (drop m l)) ≤ i = rw length-take (omega (arith, ltb-false i n t)) in
    rw (get_or-eq_default (take n (drop m l)) 0 h) (omega arith))

-- such numbers, and zeros behind them
bytes_blank : (l : List ℕ) (n : ℕ) → Bytes l → Bytes (l ++ zeros n)
bytes_blank l n b i =
    by_test (ltb i (length l))
    (λ t. rw (get_or-append l (zeros n) 0 i (ltb-true _ _ t)) (b i))
    (λ t. let h : length l ≤ i = ltb-false _ _ t in
    let e : i ≡ length l + (i - length l) = omega arith in
    let z : get_or (l ++ zeros n) i 0 ≡ get_or (zeros n) (i - length l) 0 =
    ap (λ (k : ℕ). get_or (l ++ zeros n) k 0) e ∙ get_or-append-add l (zeros n) (i - length l) 0 in
    rw (z, blank_at n (i - length l)) (omega arith))
  where
    blank_at : (n i : ℕ) → get_or (zeros n) i 0 ≡ 0
    blank_at n i =
        by_test (ltb i n) (λ t. get_or-replicate n i 0 0 (ltb-true _ _ t))
        (λ t. let h : length (zeros n) ≤ i = rw length-replicate (ltb-false _ _ t) in get_or-eq_default (zeros n) 0 h)

pub bytes_kept : (job : List ℕ) (over : ℕ) → Bytes job → Bytes (kept_job job over)
bytes_kept job over b =
    by_test (ltb (length job) most_kept)
    (λ t. subst Bytes (sym (kept_whole job over (ltb-true _ _ t))) b)
    (λ t. subst Bytes (sym (kept_beyond job over (ltb-false _ _ t))) (bytes_blank job (over % 5) b))

-- how many bytes runs have
length_count : (a n : ℕ) → length (count_from a n) ≡ n
unfolding count_from
length_count a zero = refl
length_count a (suc n) = ap suc (length_count (suc a) n)

runs_most : (lengths : List ℕ) → Bytes lengths → (l : List ℕ) → length (flat_map (run_bytes lengths) l) ≤ 255 * length l
unfolding flat_map run_bytes
runs_most lengths b [] = omega arith
runs_most lengths b (r ∷ l) =
    let n = length-map (count_from 0 (get_or lengths r 0)) (byte r) ∙ length_count 0 (get_or lengths r 0) in
    rw (length-append (map (byte r) (count_from 0 (get_or lengths r 0))) (flat_map (run_bytes lengths) l)) (omega (arith, n, b r, runs_most lengths b l))

bytes_most : (services lengths : List ℕ) → Bytes lengths → length (bytes_of services lengths) ≤ 255 * length services
unfolding bytes_of
bytes_most services lengths b = omega (arith, runs_most lengths b (count_from 0 (length services)), length_count 0 (length services))

-- how many pieces numbers make
pieces_many : (l : List ℕ) → length l < 5 * length (pieces_of l) + 5
unfolding pieces_of
pieces_many [] = omega arith
pieces_many (a ∷ []) = omega arith
pieces_many (a ∷ b ∷ []) = omega arith
pieces_many (a ∷ b ∷ c ∷ []) = omega arith
pieces_many (a ∷ b ∷ c ∷ d ∷ []) = omega arith
pieces_many (a ∷ b ∷ c ∷ d ∷ e ∷ l) = omega (arith, pieces_many l)

-- the number of runs of a job is small, and its length is that of its head or more
abbrev pub Sized : ℕ → Job → Type 0
Sized size Bad = Unit {0}
Sized size TooMany = Unit {0}
Sized size (Check runs) = (runs ≤ 256) × (head_length runs ≤ size)
Sized size (Propose runs) = (runs ≤ 256) × (size ≡ head_length runs)

check_sized : (runs size : ℕ) → Sized size (check_job runs size)
unfolding check_job
check_sized runs size =
    by_cond (Sized size) (ltb most_runs runs) (λ _. tt)
    (λ t. by_cond (Sized size) (ltb size (head_length runs)) (λ _. tt)
    (λ s. by_cond (Sized size) (eqb ((size - head_length runs) % 5) 0) (λ _. (ltb-false _ _ t, ltb-false _ _ s)) (λ _. tt)))

propose_sized : (runs size : ℕ) → Sized size (propose_job runs size)
unfolding propose_job
propose_sized runs size =
    by_cond (Sized size) (ltb most_runs runs) (λ _. tt)
    (λ t. by_cond (Sized size) (eqb size (head_length runs)) (λ s. (ltb-false _ _ t, eqb-true _ _ s)) (λ _. tt))

job_sized : (kind runs size : ℕ) → Sized size (job_of kind runs size)
unfolding job_of
job_sized kind runs size =
    by_cond (Sized size) (ltb size 3) (λ _. tt)
    (λ _. by_cond (Sized size) (eqb kind 67) (λ _. check_sized runs size)
    (λ _. by_cond (Sized size) (eqb kind 80) (λ _. propose_sized runs size) (λ _. tt)))

pub sized : (job : List ℕ) → Sized (length job) (job_in job)
unfolding job_in
sized job = job_sized (get_or job 0 0) (runs_in job) (length job)

-- a length beyond what is kept tells modulo 5 what a job is
module _ (runs a b : ℕ) (far : most_kept ≤ a) (farther : most_kept ≤ b) (same : a % 5 ≡ b % 5) where
  check_modulo : check_job runs a ≡ check_job runs b
  unfolding check_job
  check_modulo =
      by_test (ltb most_runs runs) (λ t. rw t)
      (λ t. let few : runs ≤ 256 = ltb-false _ _ t in
      let left : (a - head_length runs) % 5 ≡ (b - head_length runs) % 5 = omega arith in
      let p : head_length runs ≤ a = omega arith in
      let q : head_length runs ≤ b = omega arith in
      rw (le-ltb _ _ p, le-ltb _ _ q, left))

  propose_modulo : propose_job runs a ≡ propose_job runs b
  unfolding propose_job
  propose_modulo =
      by_test (ltb most_runs runs) (λ t. rw t)
      (λ t. let few : runs ≤ 256 = ltb-false _ _ t in
      rw (ne_eqb a (head_length runs) (λ e. omega (arith, e)), ne_eqb b (head_length runs) (λ e. omega (arith, e))))

  job_modulo : (kind : ℕ) → job_of kind runs a ≡ job_of kind runs b
  unfolding job_of
  job_modulo kind =
      let p : 3 ≤ a = omega arith in
      let q : 3 ≤ b = omega arith in
      rw (le-ltb _ _ p, le-ltb _ _ q, check_modulo, propose_modulo)

-- a job of which all that may be kept is kept, and whatever is beyond
module _ (job : List ℕ) (bytes : Bytes job) (long : most_kept ≤ length job) where
  -- its proposal does not cover the runs
  pub long_refused : (runs : ℕ) → runs ≤ 256 → (x : List ℕ) → checked_text runs (job ++ x) ≡ answer_line bad_cover
  unfolding checked_text check_proposal bytes_first
  long_refused runs few x =
      let ss = services_in runs (job ++ x) in
      let ls = lengths_in runs (job ++ x) in
      let ps = pieces_of (numbers_in runs (job ++ x)) in
      let all : length (job ++ x) ≡ length job + length x = length-append job x in
      let s : length ss ≤ 256 = rw length-take (omega arith) in
      let p : 3 + runs ≤ length job = omega arith in
      let front : drop (3 + runs) (job ++ x) ≡ drop (3 + runs) job ++ x = drop-append-le (3 + runs) job x p in
      let q : runs ≤ length (drop (3 + runs) job) = rw length-drop (omega arith) in
      let e : ls ≡ lengths_in runs job = ap (take runs) front ∙ take-append-le runs (drop (3 + runs) job) x q in
      let b : Bytes ls = rw e (bytes_part job runs (3 + runs) bytes) in
      let n : length (numbers_in runs (job ++ x)) ≡ length (job ++ x) - head_length runs = length-drop (head_length runs) (job ++ x) in
      let more : length (bytes_of ss ls) < length ps = omega (arith, bytes_most ss ls b, pieces_many (numbers_in runs (job ++ x)), n, all, s) in
      rw (le-ltb most_runs (length ss) s, crowded ss ls ps more)

  -- what is beyond counts modulo 5
  told_modulo : (x y : List ℕ) (j : Job) → Sized (length (job ++ x)) j → told_of j (job ++ x) ≡ told_of j (job ++ y)
  unfolding told_of
  told_modulo x y Bad s = refl
  told_modulo x y TooMany s = refl
  told_modulo x y (Check runs) s = long_refused runs s.0 x ∙ sym (long_refused runs s.0 y)
  told_modulo x y (Propose runs) s = absurd (omega (arith, s.0, s.1, length-append job x))

  job_beyond : (x y : List ℕ) → length x % 5 ≡ length y % 5 → job_in (job ++ x) ≡ job_in (job ++ y)
  unfolding job_in
  job_beyond x y e =
      rw (
        get_or-append job x 0 0 (omega arith),
        get_or-append job x 0 1 (omega arith),
        get_or-append job x 0 2 (omega arith),
        get_or-append job y 0 0 (omega arith),
        get_or-append job y 0 1 (omega arith),
        get_or-append job y 0 2 (omega arith),
        length-append job x,
        length-append job y,
      )
      (job_modulo (runs_in job) (length job + length x) (length job + length y) (omega arith) (omega arith) (omega arith) (get_or job 0 0))

  text_beyond : (x y : List ℕ) → length x % 5 ≡ length y % 5 → job_text (job ++ x) ≡ job_text (job ++ y)
  unfolding job_text
  text_beyond x y e = told_modulo x y (job_in (job ++ x)) (sized (job ++ x)) ∙ ap (λ (j : Job). told_of j (job ++ y)) (job_beyond x y e)

-- What is told of an input is told of what is kept of it, and of as many bytes as there are beyond modulo 5, whatever they say.
pub kept_tells : (job rest : List ℕ) → length job ≡ most_kept → Bytes job → job_text (job ++ rest) ≡ job_text (job ++ zeros (length rest % 5))
kept_tells job rest e b =
    let n : length (zeros (length rest % 5)) ≡ length rest % 5 = length-replicate (length rest % 5) 0 in
    text_beyond job b (omega arith) rest (zeros (length rest % 5)) (omega (arith, n))

-- a proposal is answered, and runs are packed, as what is kept of the job says
module _ (job : List ℕ) (over runs : ℕ) where
  pub checked_kept : Bytes job → runs ≤ 256 → checked_text runs job ≡ checked_text runs (kept_job job over)
  checked_kept bytes few =
      by_test (ltb (length job) most_kept)
      (λ t. ap (checked_text runs) (sym (kept_whole job over (ltb-true _ _ t))))
      (λ t. let h : most_kept ≤ length job = ltb-false _ _ t in
      ap (checked_text runs) (sym (append-nil job)) ∙ long_refused job bytes h runs few [] ∙ sym (long_refused job bytes h runs few (zeros (over % 5)))
      ∙ ap (checked_text runs) (sym (kept_beyond job over h)))

  pub proposed_kept : Sized (length (kept_job job over)) (Propose runs) → kept_job job over ≡ job
  proposed_kept s =
      by_test (ltb (length job) most_kept)
      (λ t. kept_whole job over (ltb-true _ _ t))
      (λ t. let h : most_kept ≤ length job = ltb-false _ _ t in
      let e = ap length (kept_beyond job over h) ∙ length-append job (zeros (over % 5)) in
      absurd (omega (arith, s.0, s.1, e)))
