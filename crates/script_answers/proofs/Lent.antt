-- An output of so many bytes, each 0xA5 at first, is the front of one of 255. Assumes nothing.
use mathlib.Core.Path.{◌≡◌, refl, ap}
use mathlib.Core.Bool.{Bool}
use mathlib.Core.List.{List, [], ◌∷◌}
use Prim.Native.Nat.{ℕ, zero, suc, ◌-◌, ◌≤◌, ◌<◌}
use native.Mathlib.Nat.{le_of_suc-le-suc}
use native.Mathlib.Omega.{arith}
use lib.ListN.{length, take, replicate}
use Rattle.std.specs.Prelude.{Result}
use Rattle.model.specs.Said.{after, mapped, checked, put_into}
use Rattle.caption.specs.declared.Refusal.{Refusal}
use Rattle.caption.specs.Answers.{outcome, said}
use Rattle.program_text.specs.Laid.{Laid}
use Rattle.script_answers.specs.Script.{lent_line}
use Rattle.script_answers.proofs.Steps.{lends_written}
use Rattle.script_answers.specs.Steps.{lent_out, written_line}

front_same : (x k n : ℕ) → n ≤ k → take n (replicate k x) ≡ replicate n x
front_same x k zero h = refl
front_same x zero (suc n) h = let z : ⊥ = omega arith in absurd z
front_same x (suc k) (suc n) h = ap (λ (l : List ℕ). x ∷ l) (front_same x k n (le_of_suc-le-suc h))

-- the front of such an array
pub front_of : (n : ℕ) → n < 256 → take n (replicate 255 165) ≡ lent_out n
front_of n h = front_same 165 255 n (omega arith)

-- what is told of bytes that were written to such an output
pub told_written : {out now lent lent' : List ℕ} {at laid : ℕ} (valid : Bool) (bytes : List ℕ) (len : ℕ) (r : Result ℕ Refusal) → lent ≡ lent_out len
    → outcome r ≡ mapped (λ _. length bytes) (checked valid (put_into lent bytes)) → lent' ≡ after lent (checked valid (put_into lent bytes))
    → Laid (lent_line (said (λ n. n ∷ []) r) lent') out at laid now → Laid (written_line valid bytes len) out at laid now
told_written {out} {now} {lent} valid bytes len r e f g l = rw (← e) (lends_written lent bytes (checked valid (put_into lent bytes)) r f g l)
