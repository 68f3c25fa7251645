-- An entry of either half of the table is what the rule says of its byte. Assumes nothing.
use mathlib.Core.Path.{◌≡◌}
use mathlib.Core.Bool.{Bool, true, false}
use mathlib.Core.List.{List, []}
use Prim.Native.Nat.{ℕ, ◌<◌}
use lib.ListN.{get_or}
use Rattle.model.specs.Codes.{length_by, length_table}
use Rattle.model.proofs.Codes.{table_at}

module _ (table : List (List ℕ)) (is : table ≡ length_table) (b : ℕ) (h : b < 256) (ext1 : Bool) where
  pub first_half : ext1 ≡ false → get_or (get_or table 0 []) b 0 ≡ length_by ext1 b
  unfolding length_table
  first_half e = rw (is, e) (table_at (length_by false) 256 b h)

  pub second_half : ext1 ≡ true → get_or (get_or table 1 []) b 0 ≡ length_by ext1 b
  unfolding length_table
  second_half e = rw (is, e) (table_at (length_by true) 256 b h)
