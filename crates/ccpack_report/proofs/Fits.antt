-- How long the text of a job is at the most: the numbers of a proposal that is made are those of one that is accepted, and have at most three digits.
-- Assumes nothing.
use mathlib.Core.Path.{◌≡◌, refl}
use mathlib.Core.Bool.{true}
use mathlib.Core.List.{List, [], ◌∷◌}
use Prim.Native.Nat.{ℕ, ◌+◌, ◌*◌, ◌≤◌, ◌<◌}
use native.Mathlib.Omega.{arith}
use lib.Dec.{leb, ltb}
use lib.ListN.{length, get_or, length-append}
use borrow.Author.Tests.{leb-true, ltb-true}
use Rattle.model.specs.Said.{Said, over_limit}
use Rattle.model.proofs.Cases.{by_cond, both}
use Rattle.model_packing.specs.Pieces.{Piece, pieces_of, In, here, there}
use Rattle.model_packing.specs.Proposals.{most_runs, inside, numbered, covers, ordered, unsplit, limits, check_proposal, bytes_first}
use Rattle.model_packing.specs.FirstCome.{start, first_come, packets_filled, packable}
use Rattle.model_packing.proofs.Lists.{every_in}
use Rattle.model_packing.proofs.Accepted.{Passes, accepted_passes}
use Rattle.model_packing.proofs.Sending.{numbered_facts}
use Rattle.model_packing.proofs.Counting.{few_packets}
use Rattle.model_packing.proofs.Passing.{passes}
use Rattle.packing.proofs.Calls.{length_pieces}
use Rattle.program_text.specs.Text.{word, decimal, decimal_in, digit}
use Rattle.program_text.proofs.Decimals.{digits_most}
use Rattle.program_lines.specs.Lines.{value_text, values_text, answer_text, end_line}
use Rattle.ccpack_report.specs.Lines.{answer_line, packets_line, piece_line, piece_lines, proposal_lines, packed_text}
use Rattle.ccpack_report.specs.Jobs.{job_in, services_in, lengths_in, numbers_in, checked_text, told_of, job_text, kept_job}
use Rattle.ccpack_report.specs.declared.Job.{Job}
use Rattle.ccpack_report.specs.declared.Job.TheVariants.{Bad, TooMany, Check, Propose}
use Rattle.ccpack_report.proofs.Kept.{Bytes, bytes_part, bytes_kept}

-- a number of one byte, after a space
value_fits : (n : ℕ) → n ≤ 256 → length (value_text n) ≤ 4
unfolding value_text
value_fits n h = let d : length (decimal n) ≤ 3 = digits_most 2 n (omega arith) in rw (length-append (word " ") (decimal n)) (omega arith)

-- a piece whose numbers are of one byte
record Small (q : Piece) : Type 0 where
  run : q.run < 256
  first : q.first < 256
  size : q.size < 256
  packet : q.packet < 256
  block : q.block < 256

-- its line
piece_fits : (q : Piece) → Small q → length (piece_line q) ≤ 26
unfolding piece_line
piece_fits q s =
    rw (length-append, length-append, length-append, length-append, length-append, length-append)
    (omega (
      arith,
      value_fits q.run (omega (arith, s.run)),
      value_fits q.first (omega (arith, s.first)),
      value_fits q.size (omega (arith, s.size)),
      value_fits q.packet (omega (arith, s.packet)),
      value_fits q.block (omega (arith, s.block)),
    ))

-- the lines of such pieces
pieces_fit : (ps : List Piece) → ((q : Piece) → In q ps → Small q) → length (piece_lines ps) ≤ 26 * length ps
unfolding piece_lines
pieces_fit [] small = omega arith
pieces_fit (q ∷ qs) small =
    rw (length-append (piece_line q) (piece_lines qs))
    (omega (arith, piece_fits q (small q (here refl)), pieces_fit qs (λ p i. small p (there i))))

module _ (services lengths : List ℕ) (bytes : Bytes lengths) (ok : packable services lengths ≡ true) where
  -- the pieces of the packer are such
  packed_small : (q : Piece) → In q (first_come services lengths) → Small q
  unfolding inside
  packed_small q i =
      let p : Passes services lengths (first_come services lengths) = accepted_passes services lengths (first_come services lengths) (passes services lengths ok) in
      let a = both (leb 1 q.size) _ (every_in (inside services lengths) (first_come services lengths) p.all_inside i) in
      let b = both (ltb q.run (length services)) _ a.1 in
      let r : q.run < length services = ltb-true _ _ b.0 in
      let e : q.first + q.size ≤ get_or lengths q.run 0 = leb-true _ _ b.1 in
      let n = numbered_facts q (every_in numbered (first_come services lengths) p.one_byte i) in
      record {
        run = omega (arith, r, p.few_runs);
        first = omega (arith, e, bytes q.run);
        size = omega (arith, e, bytes q.run);
        packet = n.0;
        block = n.1;
      }

  -- so the lines of a proposal are short
  proposal_fits : length (proposal_lines (packets_filled services lengths) (first_come services lengths)) ≤ 8192
  unfolding proposal_lines packets_line end_line
  proposal_fits =
      let few = (accepted_passes services lengths (first_come services lengths) (passes services lengths ok)).few_runs in
      let p = value_fits (packets_filled services lengths) (omega (arith, few, few_packets services lengths ok)) in
      let n = length_pieces services lengths (length services) 0 start in
      let d : length (decimal (length (first_come services lengths))) ≤ 3 = digits_most 2 (length (first_come services lengths)) (omega (arith, n, few)) in
      rw (length-append, length-append, length-append, length-append, length-append, length-append)
      (omega (arith, p, d, n, few, pieces_fit (first_come services lengths) packed_small))

-- the line of an answer to a proposal
abbrev Short : Said → Type 0
Short s = length (answer_line s) ≤ 8192

over_short : Short over_limit
unfolding answer_line answer_text values_text decimal decimal_in digit
over_short = omega arith

check_short_line : (services lengths : List ℕ) (ps : List Piece) → Short (check_proposal services lengths ps)
unfolding check_proposal bytes_first answer_line answer_text values_text decimal decimal_in digit
check_short_line services lengths ps =
    by_cond Short (ltb most_runs (length services)) (λ _. omega arith)
    (λ _. by_cond Short (covers services lengths ps)
    (λ _. by_cond Short (ordered services lengths ps)
    (λ _. by_cond Short (unsplit services lengths ps)
    (λ _. by_cond Short (limits services lengths ps) (λ _. omega arith) (λ _. omega arith))
    (λ _. omega arith))
    (λ _. omega arith))
    (λ _. omega arith))

-- what is told of runs to be packed
packed_fits : (services lengths : List ℕ) → Bytes lengths → length (packed_text services lengths) ≤ 8192
unfolding packed_text
packed_fits services lengths b =
    by_cond (λ (l : List ℕ). length l ≤ 8192) (packable services lengths) (λ t. proposal_fits services lengths b t) (λ _. over_short)

-- what is told of a job, whatever it is
told_fits : (j : Job) (job : List ℕ) → Bytes job → length (told_of j job) ≤ 8192
unfolding told_of checked_text
told_fits Bad job b = omega arith
told_fits TooMany job b = over_short
told_fits (Check runs) job b = check_short_line (services_in runs job) (lengths_in runs job) (pieces_of (numbers_in runs job))
told_fits (Propose runs) job b = packed_fits (services_in runs job) (lengths_in runs job) (bytes_part job runs (3 + runs) b)

-- The text of a job of bytes.
job_fits : (job : List ℕ) → Bytes job → length (job_text job) ≤ 8192
unfolding job_text
job_fits job b = told_fits (job_in job) job b

-- The text of a job of which bytes are beyond what is kept.
pub kept_job_fits : (job : List ℕ) (over : ℕ) → Bytes job → length (job_text (kept_job job over)) ≤ 8192
kept_job_fits job over b = job_fits (kept_job job over) (bytes_kept job over b)
