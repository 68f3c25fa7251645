-- What an operation of a script does: the line that it lays, and what it leaves. Assumes nothing.
use Rattle.std.specs.Prelude.{◌≡◌, Bool, List, [], ◌∷◌, ℕ, length, replicate}
use Rattle.model.specs.Said.{Said, Outcome, gave, refused, says, after, says_with, mapped, checked, put_into}
use Rattle.program_text.specs.Laid.{Laid}
use Rattle.program_text.specs.Text.{word}
use Rattle.script_answers.specs.Script.{answer_line, lent_line}

-- the line of an operation, and the block, packet or machine after it
pub record Effect (S : Type 0) : Type 0 where
  pub line : List ℕ
  pub next : S

-- the line is laid, and `state` is what there is after it
pub record Did {S : Type 0} (e : Effect S) (before : List ℕ) (at laid : ℕ) (state : S) (now : List ℕ) : Type 0 where
  pub told : Laid e.line before at laid now
  pub left : state ≡ e.next

module _ {S : Type 0} where
  -- an answer is told
  abbrev pub tells : Said → S → Effect S
  tells said next = record { line = answer_line said; next = next }

  -- the same where what the call gives is laid over the places of what there is
  abbrev pub lays : {M : Type 0} → (S → M → S) → S → Outcome M → Effect S
  lays over old o = tells (says o) (after old (mapped (over old) o))

  -- a call that makes a new one, which takes the place of the old one: a refusal leaves that
  abbrev pub renews : Outcome S → S → Effect S
  renews made old = tells (says made) (after old made)

  -- the line that tells of what was made, or of why it was not
  abbrev pub line_made : (S → List ℕ) → Outcome S → List ℕ
  line_made line (gave made) = line made
  line_made line (refused why) = answer_line why

  -- a call that makes a new one, where the line tells of it
  abbrev pub takes : (S → List ℕ) → Outcome S → S → Effect S
  takes line made old = record { line = line_made line made; next = after old made }

  -- a line is printed, and nothing changes
  abbrev pub stays : S → List ℕ → Effect S
  stays s line = record { line = line; next = s }

  -- fields that are set: nothing is checked, and `ok` is printed
  abbrev pub becomes : S → Effect S
  becomes next = record { line = word "ok\n"; next = next }

-- a lent output of so many bytes, each 0xA5 at first
abbrev pub lent_out : ℕ → List ℕ
lent_out len = replicate len 165

-- bytes written to such an output: how many, or why not, and all of the output
abbrev pub written_line : Bool → List ℕ → ℕ → List ℕ
written_line valid bytes len =
    let lent = lent_out len in
    let put = checked valid (put_into lent bytes) in
    lent_line (says_with (λ _. length bytes ∷ []) put) (after lent put)
