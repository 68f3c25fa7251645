-- What is told of runs to be packed, out of what a packer answers and leaves in a buffer with room for the numbers of all pieces. Assumes nothing.
use mathlib.Core.Path.{◌≡◌, sym, ap, ◌∙◌}
use mathlib.Core.List.{List}
use Prim.Native.Nat.{ℕ, ◌*◌, ◌≤◌}
use native.Mathlib.Omega.{arith}
use lib.ListN.{length, take, drop}
use borrow.Author.Tests.{le-ltb}
use Rattle.std.specs.Prelude.{Result, Ok, Err}
use Rattle.model.specs.Said.{gave, refused, mapped, after, over_limit, put_into}
use Rattle.model.proofs.Cases.{by_test}
use Rattle.caption.specs.Answers.{outcome, said_refusal}
use Rattle.caption.specs.declared.Refusal.{Refusal}
use Rattle.model_packing.specs.Pieces.{pieces_of, numbers_of}
use Rattle.model_packing.specs.FirstCome.{start, first_come, packets_filled, packable, propose}
use Rattle.model_packing.proofs.Filling.{few_runs}
use Rattle.packing.specs.Calls.{told_of}
use Rattle.packing.specs.declared.Made.{Made}
use Rattle.packing.proofs.Calls.{length_numbers, length_pieces}
use Rattle.packing.proofs.Checked.{made_of}
use Rattle.program_text.specs.Laid.{Laid}
use Rattle.ccpack_report.specs.Lines.{answer_line, proposal_lines, packed_text}

module _ (services lengths lent : List ℕ) {p : Result Made Refusal} {left : List ℕ} (told : outcome p ≡ mapped told_of (propose services lengths lent))
    (put : left ≡ after lent (mapped (λ x. x.out) (propose services lengths lent))) {out end : List ℕ} {at r : ℕ} where
  -- a proposal
  pub laid_made : {made : Made} {shown : List ℕ} → p ≡ Ok made → shown ≡ take made.len (drop 0 left)
      → Laid (proposal_lines made.packets (pieces_of shown)) out at r end → Laid (packed_text services lengths) out at r end
  unfolding packed_text
  laid_made {made} e s w =
      let m = made_of services lengths lent made left (sym (ap outcome e) ∙ told) put in
      rw m.packs (rw (s, m.pieces, m.filled) at w)

  -- a refusal: with room for five numbers for each of 256 runs it is that of the runs
  pub laid_refused : {why : Refusal} → length lent ≡ 1280 → p ≡ Err why → Laid (answer_line (said_refusal why)) out at r end
      → Laid (packed_text services lengths) out at r end
  unfolding packed_text propose put_into
  laid_refused {why} room e w =
      let says : refused (said_refusal why) ≡ mapped told_of (propose services lengths lent) = sym (ap outcome e) ∙ told in
      by_test (packable services lengths)
      (λ t. let n = length_numbers (first_come services lengths) ∙ ap (λ (k : ℕ). 5 * k) (length_pieces services lengths (length services) 0 start) in
      let fits : length (numbers_of (first_come services lengths)) ≤ length lent = omega (arith, n, room, few_runs services lengths t) in
      let g : refused (said_refusal why) ≡ gave (record { packets = packets_filled services lengths; len = length (numbers_of (first_come services lengths)) }) = rw (t, le-ltb (length lent) (length (numbers_of (first_come services lengths))) fits) at says in
      let z : ◌≡◌ {A = ℕ} 0 1 = cc in absurd (omega arith))
      (λ t. let g : refused (said_refusal why) ≡ refused over_limit = rw t at says in
      let k : said_refusal why ≡ over_limit = cc in rw t (rw k at w))
