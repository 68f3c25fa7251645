-- What a program takes from its input, hands to its output and keeps, where the bytes of input and output are known. Assumes nothing.
use Rattle.std.specs.Prelude.{◌≡◌, ℕ, Bool, true, false, List, [], ◌∷◌, ◌++◌, Option, length, take, ◌==◌}
use Rattle.std.specs.Io.KnownBytes.{Consumes, Appends}
use Rattle.program_streams.specs.Walk.{Told, Walked, before, told, Kept}
use Rattle.program_streams.specs.declared.Held.{Held}

-- the mark of a program's records: CC, and a byte of its kinds [C1]
abbrev pub mark_of : List ℕ → List (List ℕ)
mark_of kinds = (0xCC ∷ []) ∷ kinds ∷ []

-- a text is handed out, and it is what is told before the rest
abbrev pub HandedOut : {S : Type 0} → Option (List ℕ) → Option (List ℕ) → Walked S → Walked S → Type 0
HandedOut out now all rest = (text : List ℕ) × Appends out now text × (all ≡ before text rest)

-- what some bytes tell is handed out, and the program stands behind them
pub record TakenIn {S : Type 0} (w : Walked S) (out now : Option (List ℕ)) (buf : List ℕ) (h : Held) (x : S) : Type 0 where
  pub text : Appends out now w.text
  pub kept : Kept w buf h x

module _ {S : Type 0} (mark : List (List ℕ)) (tell : ℕ → S → ℕ → List ℕ → Told S) where
  -- some bytes of the input follow those that wait, none only at its end, and all that they complete is handed out
  abbrev pub Turned : List ℕ → Held → S → Option (List ℕ) → Option (List ℕ) → Option (List ℕ) → Option (List ℕ) → List ℕ → Held → S → Type 0
  Turned buf h x given left out now after k y =
      (got : List ℕ) × Consumes given left got × TakenIn (told mark tell (length got == 0) (take h.have buf ++ got) h.passed h.records x) out now after k y

  -- some input is told from a state on, and the program stands behind it
  abbrev pub Driven : Bool → S → Option (List ℕ) → Option (List ℕ) → Option (List ℕ) → Option (List ℕ) → List ℕ → Held → S → Type 0
  Driven ended x given left out now buf h y = (input : List ℕ) × Consumes given left input × TakenIn (told mark tell ended input 0 0 x) out now buf h y

  -- where a read or a write failed: more is to be read, all that some input completes is told, the bytes of it that wait are at the front of the
  -- buffer still, and the program stands behind it; of what the step that failed has read nothing is said
  abbrev pub Broken : S → List ℕ → Held → S → Type 0
  Broken x buf h y = (h.going ≡ true) × (input : List ℕ) × Kept (told mark tell false input 0 0 x) buf h y
