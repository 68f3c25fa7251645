-- Whether a null header begins at a place, by its bytes. Assumes nothing.
use mathlib.Core.Path.{◌≡◌, refl, sym, ◌∙◌}
use mathlib.Core.Bool.{false}
use mathlib.Core.List.{List}
use Prim.Native.Nat.{ℕ, ◌+◌, ◌/◌, ◌%◌, ◌≤◌, ◌<◌}
use native.Mathlib.Nat.{add-zero}
use native.Mathlib.Omega.{arith}
use lib.Dec.{eqb}
use lib.ListN.{length, get_or, drop, length-drop}
use lib.Seq.{get_or-drop}
use Rattle.model.specs.Packet.{is_null_header}
use Rattle.service_headers.proofs.Heads.{two_bytes, one_byte, bare_byte, null_cut, null_two, null_one}

module _ (d : List ℕ) (at : ℕ) (left : at < length d) where
  abbrev h : ℕ
  h = get_or d at 0

  abbrev rest : List ℕ
  rest = drop at d

  first : h ≡ get_or rest 0 0
  first = sym (get_or-drop at d 0 0 ∙ rw add-zero)

  some : 1 ≤ length rest
  some = rw length-drop (omega arith)

  -- a header of one byte
  pub null_named : (h / 32 % 8 ≡ 7 → ⊥) → eqb (h / 32 % 8) 0 ≡ is_null_header rest
  null_named t = null_one rest (length rest) h 0 1 refl first (one_byte h t) some (λ z. omega arith)

  pub null_bare : h / 32 % 8 ≡ 7 → h % 32 ≡ 0 → false ≡ is_null_header rest
  null_bare t z = rw t at (null_one rest (length rest) h 0 1 refl first (bare_byte h z) some (λ z. omega arith))

  -- and of two
  module _ (t : h / 32 % 8 ≡ 7) (s : h % 32 ≡ 0 → ⊥) where
    pub null_one_left : length d ≤ at + 1 → false ≡ is_null_header rest
    null_one_left k = null_cut rest (length rest) h 0 2 refl first (two_bytes h t s) (rw length-drop (omega arith))

    pub null_long : at + 1 < length d → eqb (get_or d (at + 1) 0 % 64) 0 ≡ is_null_header rest
    null_long k = null_two rest (length rest) h (get_or d (at + 1) 0) 2 refl first (two_bytes h t s) (rw length-drop (omega arith)) (λ _. sym (get_or-drop at d 1 0)) refl
