-- What the profile tells of a run, whatever results the contracts of its functions allow. Assumes nothing.
use mathlib.Core.Path.{◌≡◌, sym, ap, ◌∙◌}
use mathlib.Core.List.{List, []}
use Prim.Native.Nat.{ℕ}
use contract.Lifetimes.{Lfts}
use denote.Ref.{Bor}
use lib.ListN.{length, get_or}
use Rattle.model.specs.Said.{Outcome, says, after}
use Rattle.model.proofs.Cuts.{CutInto}
use Rattle.model.proofs.Codes.{Stuck, Leftmost, only_cut, cut_given, refused_leftmost, stuck_refused, refused_uncut}
use Rattle.std.specs.Prelude.{Result, Ok, Err}
use Rattle.caption.specs.declared.Refusal.{Refusal}
use Rattle.caption.specs.Answers.{said_refusal, outcome}
use Rattle.caption.proofs.Outcomes.{outcome_injective, says_injective}
use Rattle.codes.proofs.code_count.Reads as CodeCountReads
use Rattle.codes.proofs.code_at.Reads as CodeAtReads
use Rattle.codes.proofs.check_run.Reads as CheckRunReads
use Rattle.codes.proofs.Exactly.{Answer}
use Rattle.codes.proofs.Runs.{is_cut, is_not}

-- bytes that a caller lends
abbrev pub Lent : Type 0
Lent = Bor (List ℕ)

-- `code_count(payload)`
abbrev pub CodeCount : Lfts 1 → Lent → Result ℕ Refusal → Type 0
CodeCount κs payload r = CodeCountReads.Post κs (payload, tt) r (payload, tt)

-- `code_at(payload, place)`
abbrev pub CodeAt : Lfts 1 → Lent → ℕ → Lent → Type 0
CodeAt κs payload place r = CodeAtReads.Post κs (payload, (place, tt)) r (payload, (place, tt))

-- `check_run(run)`
abbrev pub CheckRun : Lfts 1 → Lent → Answer → Type 0
CheckRun κs run r = CheckRunReads.Post κs (run, tt) r (run, tt)

module _ (κs : Lfts 1) (run : Lent) where
  -- Codes whose bytes are the run are the cut: the run is accepted, they are counted, and at each place is the one of them that stands there.
  module _ (cs : List (List ℕ)) (cut : CutInto run.now cs) where
    pub cut_accepted : (r : Answer) → CheckRun κs run r → r ≡ Ok tt
    cut_accepted r told = says_injective r (Ok tt) (told ∙ rw (only_cut run.now cs cut))

    pub cut_counted : (r : Result ℕ Refusal) → CodeCount κs run r → r ≡ Ok (length cs)
    cut_counted r told = outcome_injective r (Ok (length cs)) (told ∙ rw (only_cut run.now cs cut))

    pub cut_there : (place : ℕ) (part : Lent) → CodeAt κs run place part → part.now ≡ get_or cs place []
    cut_there place part told = told ∙ ap (λ (o : Outcome (List (List ℕ))). get_or (after [] o) place []) (only_cut run.now cs cut)

  module _ (r : Answer) (told : CheckRun κs run r) where
    -- what one says that is known
    said_as : {x : Answer} → r ≡ x → says (outcome r) ≡ says (outcome x)
    said_as e = ap (λ (y : Answer). says (outcome y)) e

    -- A run that is accepted has a cut.
    pub accepted_cut : r ≡ Ok tt → (cs : List (List ℕ)) × CutInto run.now cs
    accepted_cut e = let g = is_cut run.now (sym (said_as e) ∙ told) in (g.0, cut_given run.now g.0 g.1)

    module _ (why : Refusal) (not : r ≡ Err why) where
      -- One that is refused has none,
      pub refused_none : (cs : List (List ℕ)) → CutInto run.now cs → ⊥
      refused_none = refused_uncut run.now (said_refusal why) (is_not run.now why (sym (said_as not) ∙ told))

      -- and the refusal is that at the leftmost place at which no code begins.
      pub refused_there : Leftmost run.now (said_refusal why)
      refused_there = refused_leftmost run.now (said_refusal why) (is_not run.now why (sym (said_as not) ∙ told))

    -- Where codes go up to such a place the run is refused, as the place has it.
    pub there_refused : (why : Refusal) → Stuck run.now (said_refusal why) → r ≡ Err why
    there_refused why s = says_injective r (Err why) (told ∙ rw (stuck_refused run.now (said_refusal why) s))
