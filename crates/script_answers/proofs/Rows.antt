-- What is told of an operation that was tried. Assumes nothing.
use mathlib.Core.Path.{◌≡◌, refl, sym, ap, ◌∙◌}
use mathlib.Core.List.{List}
use Prim.Native.Nat.{ℕ}
use Rattle.std.specs.Prelude.{Option, Some, None}
use Rattle.program_text.proofs.Layings.{laid_settled}
use Rattle.script_answers.specs.Steps.{Effect, Did}
use Rattle.script_answers.specs.Rows.{Sought, one, none, Tried}

-- For callers: a place that is answered is behind the line of what was found,
pub tried_ran : {S : Type 0} (w : Sought S) (old next : S) (before now : List ℕ) (at laid : ℕ) → Tried w old before at (Some laid) next now
    → (e : Effect S) × (w ≡ one e) × Did e before at laid next now
tried_ran (one e) old next before now at laid d = (e, refl, d)
tried_ran none old next before now at laid d = absurd d

-- and where none is answered nothing was found, and all is as it was.
pub tried_rests : {S : Type 0} (w : Sought S) (old next : S) (before now : List ℕ) (at : ℕ) → Tried w old before at None next now
    → (w ≡ none) × (next ≡ old) × (now ≡ before)
tried_rests (one e) old next before now at d = absurd d
tried_rests none old next before now at d = (refl, d.0, d.1)

-- What was found, or nothing, settles what is answered, what is laid and what is left.
pub tried_settled : {S : Type 0} (w : Sought S) (old x y : S) (before l m : List ℕ) (at : ℕ) (r q : Option ℕ) → Tried w old before at r x l
    → Tried w old before at q y m → (r ≡ q) × ((l ≡ m) × (x ≡ y))
tried_settled (one e) old x y before l m at (Some j) (Some k) f g =
    let s = laid_settled f.told g.told in (ap Some s.0, (s.1, f.left ∙ sym g.left))
tried_settled (one e) old x y before l m at None q f g = absurd f
tried_settled (one e) old x y before l m at (Some j) None f g = absurd g
tried_settled none old x y before l m at None None f g = (refl, (f.1 ∙ sym g.1, f.0 ∙ sym g.0))
tried_settled none old x y before l m at (Some j) q f g = absurd f
tried_settled none old x y before l m at None (Some k) f g = absurd g
