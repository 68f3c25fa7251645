-- What the check and the packer promise, whatever results their contracts allow. Assumes nothing.
use mathlib.Core.Path.{◌≡◌, refl, sym, ap, ◌∙◌}
use mathlib.Core.Bool.{true, false, false≢true}
use mathlib.Core.List.{List, [], ◌∷◌, ◌++◌, map}
use Prim.Native.Nat.{ℕ, ◌≤◌, ◌<◌, ◌*◌}
use native.Mathlib.Omega.{arith}
use contract.Lifetimes.{Lfts}
use denote.Ref.{Bor, MutBor}
use lib.Dec.{ltb}
use lib.ListN.{length, get_or, take, drop}
use lib.Seq.{take_at}
use borrow.Author.Tests.{le-ltb, le-leb}
use Rattle.std.specs.Prelude.{Result, Ok, Err}
use Rattle.model.specs.Said.{Said, gave, refused, says, mapped, after, accepted, put_into, over_limit, out_short}
use Rattle.model.proofs.Cases.{by_test}
use Rattle.caption.specs.declared.Refusal.{Refusal}
use Rattle.caption.specs.declared.Refusal.TheVariants.{BadCover, OverLimit}
use Rattle.caption.specs.Answers.{outcome}
use Rattle.caption.proofs.Outcomes.{outcome_injective, says_injective}
use Rattle.model_packing.specs.Promises.{Delivers, NamesBelow}
use Rattle.model_packing.specs.Pieces.{Piece, pieces_of, numbers_of, bytes_of, count_from}
use Rattle.model_packing.specs.Proposals.{most_runs, check_proposal, run_fits, runs_fit, bytes_first}
use Rattle.model_packing.specs.FirstCome.{first_come, packets_filled, packable}
use Rattle.model_packing.specs.FirstCome as model
use Rattle.model_packing.proofs.Crowded.{crowded}
use Rattle.model_packing.proofs.Carried.{accepted_delivers}
use Rattle.model_packing.proofs.Passing.{passes, only_packable}
use Rattle.packing.specs.declared.Made.{Made}
use Rattle.packing.specs.Calls.{told_of}
use Rattle.packing.specs.Pushing.{Answer, Packets, Fresh, Pushes, AllPushed}
use Rattle.packing.proofs.Pushed.{proposal_pushed}
use Rattle.packing.proofs.check.Reads as check
use Rattle.packing.proofs.propose.Reads as propose
use Rattle.model.specs.Lists.{every}
use Rattle.model_packing.proofs.Lists.{count_every}
use Rattle.model_packing.proofs.Counting.{filled_named}
use Rattle.packing_runs.proofs.Runs.{fits_some}
use Rattle.packing.proofs.Calls.{proposal_length}

-- bytes that a caller lends
abbrev pub Lent : Type 0
Lent = Bor (List ℕ)

-- bytes that a caller lends to be written
abbrev pub Output : Type 0
Output = MutBor (List ℕ)

-- `check(services, lengths, pieces)`
abbrev pub Check : Lfts 3 → Lent → Lent → Lent → Answer → Type 0
Check κs services lengths pieces r = check.Post κs (services, (lengths, (pieces, tt))) r (services, (lengths, (pieces, tt)))

-- `propose(services, lengths, &mut out)`, where `out` is as it was lent and `end` as it is at exit
abbrev pub Propose : Lfts 3 → Lent → Lent → Output → Output → Result Made Refusal → Type 0
Propose κs services lengths out end r = propose.Post κs (services, (lengths, (out, tt))) r (services, (lengths, (end, tt)))

module _ (κs : Lfts 3) (services lengths pieces : Lent) (r : Answer) (told : Check κs services lengths pieces r) where
  -- what is accepted is accepted by the rules
  accepted_says : r ≡ Ok tt → check_proposal services.now lengths.now (pieces_of pieces.now) ≡ accepted []
  accepted_says e = sym told ∙ ap (λ (x : Answer). says (outcome x)) e

  -- A proposal that is accepted can be carried out with any bytes in its runs: its packets can be sent, each service hears its runs' bytes in their
  -- order, once each, and each run stands whole in a block.
  pub checked_delivers : (runs : List (List ℕ)) → lengths.now ≡ map length runs → r ≡ Ok tt → Delivers services.now runs (pieces_of pieces.now)
  checked_delivers runs long e = accepted_delivers services.now runs (pieces_of pieces.now) (rw (← long) (accepted_says e))

  -- More pieces than there are bytes to cover are refused with 23.
  pub crowded_refused : length services.now ≤ most_runs → length (bytes_of services.now lengths.now) < length (pieces_of pieces.now) → r ≡ Err BadCover
  unfolding check_proposal bytes_first
  crowded_refused few more =
      says_injective r (Err BadCover)
      (told ∙ rw (le-ltb most_runs (length services.now) few, crowded services.now lengths.now (pieces_of pieces.now) more))

-- pieces are had back from their numbers
pieces_back : (ps : List Piece) → pieces_of (numbers_of ps) ≡ ps
unfolding pieces_of numbers_of
pieces_back [] = refl
pieces_back (q ∷ qs) = ap (λ (l : List Piece). q ∷ l) (pieces_back qs)

-- a proposal that was made: for runs that one can be made for, and its pieces are in front of the output
pub record MadeOf (services lengths : List ℕ) (made : Made) (end : List ℕ) : Type 0 where
  pub packs : packable services lengths ≡ true
  pub filled : made.packets ≡ packets_filled services lengths
  pub pieces : pieces_of (take made.len end) ≡ first_come services lengths

-- what is told so is such a proposal
pub made_of : (services lengths out : List ℕ) (made : Made) (end : List ℕ) → gave made ≡ mapped told_of (model.propose services lengths out)
    → end ≡ after out (mapped (λ x. x.out) (model.propose services lengths out)) → MadeOf services lengths made end
unfolding model.propose put_into
made_of services lengths out made end p q =
    let numbers : List ℕ = numbers_of (first_come services lengths) in
    by_test (packable services lengths)
    (λ ok. by_test (ltb (length out) (length numbers))
    (λ s. let z : gave made ≡ refused (out_short (length numbers)) = rw (ok, s) at p in cc)
    (λ s. let z : gave made ≡ gave (record { packets = packets_filled services lengths; len = length numbers }) = rw (ok, s) at p in
    let m : made ≡ record { packets = packets_filled services lengths; len = length numbers } = cc in
    let o : end ≡ numbers ++ drop (length numbers) out = rw (ok, s) at q in
    record {
      packs = ok;
      filled = ap (λ (x : Made). x.packets) m;
      pieces = rw (o, m) (ap pieces_of (take_at numbers (drop (length numbers) out) (length numbers) refl) ∙ pieces_back (first_come services lengths));
    }))
    (λ no. let z : gave made ≡ refused over_limit = rw no at p in cc)

module _ (κs : Lfts 3) (services lengths : Lent) (out end : Output) (made : Made) (told : Propose κs services lengths out end (Ok made)) where
  -- the proposal
  made_so : MadeOf services.now lengths.now made end.now
  made_so = made_of services.now lengths.now out.now made end.now told.0 told.1.0

  -- What the packer makes is accepted.
  pub made_accepted : (κt : Lfts 3) (pieces : Lent) (r : Answer) → pieces.now ≡ take made.len end.now → Check κt services lengths pieces r → r ≡ Ok tt
  made_accepted κt pieces r is checked = says_injective r (Ok tt) (checked ∙ rw (is, made_so.pieces) (passes services.now lengths.now made_so.packs))

  -- And it is carried out by `push_code`, piece by piece, into packets made anew.
  pub made_pushed : (runs : List (List ℕ)) → lengths.now ≡ map length runs → (sequence : ℕ → ℕ) (fresh : Packets) → Fresh sequence fresh → (answers : List Answer) (pushed : Packets)
      → Pushes services.now runs (pieces_of (take made.len end.now)) fresh answers pushed → AllPushed services.now runs sequence (pieces_of (take made.len end.now)) answers pushed
  made_pushed runs long sequence fresh f answers pushed calls =
      let z : pieces_of (take made.len end.now) ≡ first_come services.now (map length runs) = made_so.pieces ∙ ap (first_come services.now) long in
      rw z (proposal_pushed services.now runs (rw (← long) made_so.packs) sequence fresh f answers pushed (rw z at calls))

  -- The pieces of a proposal that is made name the packets below the number that it tells, each of them.
  pub made_counted : NamesBelow (pieces_of (take made.len end.now)) made.packets
  made_counted = rw (made_so.pieces, made_so.filled) (filled_named services.now lengths.now made_so.packs)

-- no proposal can be made
unpackable : (services lengths out : List ℕ) → refused over_limit ≡ mapped told_of (model.propose services lengths out) → packable services lengths ≡ false
unfolding model.propose put_into
unpackable services lengths out p =
    by_test (packable services lengths)
    (λ ok. by_test (ltb (length out) (length (numbers_of (first_come services lengths))))
    (λ s. let z : refused over_limit ≡ refused (out_short (length (numbers_of (first_come services lengths)))) = rw (ok, s) at p in
    let n : over_limit ≡ out_short (length (numbers_of (first_come services lengths))) = cc in
    absurd (other (ap (λ (x : Said). x.number) n)))
    (λ s. let z : refused over_limit ≡ gave (record { packets = packets_filled services lengths; len = length (numbers_of (first_come services lengths)) }) = rw (ok, s) at p in cc))
    (λ no. no)
  where
    other : ◌≡◌ {A = ℕ} 26 9 → ⊥
    other e = omega (arith, e)

-- Where the packer refuses the runs, no proposal for them is accepted.
pub refused_none : (κs : Lfts 3) (services lengths : Lent) (out end : Output) → Propose κs services lengths out end (Err OverLimit)
    → (κt : Lfts 3) (pieces : Lent) (r : Answer) → Check κt services lengths pieces r → r ≡ Ok tt → ⊥
refused_none κs services lengths out end p κt pieces r told e =
    let no = unpackable services.now lengths.now out.now p.0 in
    let ok = only_packable services.now lengths.now (pieces_of pieces.now) (accepted_says κt services lengths pieces r told e) in
    false≢true (sym no ∙ ok)

-- For at most 256 runs, each with a service from 1 to 63 and 1 to 31 bytes, a proposal is made where the output has five bytes for each.
pub made_whenever : (κs : Lfts 3) (services lengths : Lent) (out end : Output) (r : Result Made Refusal) → Propose κs services lengths out end r → length services.now ≤ most_runs
    → ((i : ℕ) → i < length services.now → (1 ≤ get_or services.now i 0) × (get_or services.now i 0 ≤ 63) × (1 ≤ get_or lengths.now i 0) × (get_or lengths.now i 0 ≤ 31))
    → 5 * length services.now ≤ length out.now → r ≡ Ok (record { packets = packets_filled services.now lengths.now; len = 5 * length services.now })
unfolding model.propose put_into packable runs_fit
made_whenever κs services lengths out end r p few each room =
    let fit : every (run_fits services.now lengths.now) (count_from 0 (length services.now)) ≡ true =
    count_every (run_fits services.now lengths.now) 0 (length services.now)
    (λ i _ h. let f = each i (omega arith) in
    sym (fits_some services.now lengths.now i _ _ refl refl true f.0 f.1 f.2 (sym (le-leb _ 31 f.3)))) in
    let long : length (numbers_of (first_come services.now lengths.now)) ≡ 5 * length services.now = proposal_length services.now lengths.now in
    let s : ltb (length out.now) (length (numbers_of (first_come services.now lengths.now))) ≡ false =
    le-ltb (length out.now) (length (numbers_of (first_come services.now lengths.now))) (omega arith) in
    outcome_injective r (Ok (record { packets = packets_filled services.now lengths.now; len = 5 * length services.now })) (p.0 ∙ rw (le-leb (length services.now) most_runs few, fit, s, long))
