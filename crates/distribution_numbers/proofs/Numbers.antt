-- A sum that grows by a byte. Assumes nothing.
use Rattle.std.proofs.Common.{◌≡◌, ℕ, ◌+◌, ◌%◌, ◌<◌, List, [], ◌∷◌, ◌++◌, length, get_or, take, ap, add-one, arith, take-suc}
use Rattle.model.specs.Distribution.{sum_of}
use Rattle.model.proofs.Distribution.{sum_append}

-- of one byte more
pub sum_next : (d : List ℕ) (i sum : ℕ) → i < length d → sum ≡ sum_of (take i d) % 256 → (sum + get_or d i 0) % 256 ≡ sum_of (take (i + 1) d) % 256
unfolding sum_of
sum_next d i sum h e =
    let more : take (i + 1) d ≡ take i d ++ (get_or d i 0 ∷ []) = rw add-one (take-suc d i 0 h) in
    omega (arith, e, ap sum_of more, sum_append (take i d) (get_or d i 0 ∷ []))
