-- The header of a block that is there, and what is missing of one that is not. Assumes nothing.
use mathlib.Core.Path.{◌≡◌, refl, sym, ap}
use mathlib.Core.Bool.{Bool, true, false, cond, true≢false}
use mathlib.Core.List.{List}
use Prim.Native.Nat.{ℕ, ◌+◌, ◌%◌, ◌≤◌, ◌<◌}
use native.Mathlib.Omega.{arith}
use lib.Dec.{eqb, ltb}
use lib.ListN.{length, get_or}
use borrow.Author.Tests.{lt-ltb, le-ltb}
use Rattle.std.specs.Prelude.{Some, None, is_some}
use Rattle.model.specs.Said.{refused, block_header_short, block_body_short}
use Rattle.model.specs.Block.{top_number, header_length, is_header_short, needed, is_short, short_at, number_in, read_block_at, block_size}
use Rattle.model.proofs.Cases.{by_test}
use Rattle.model.proofs.Blocks.{header_bytes, not_short}
use Rattle.model.proofs.Limits.{all_there}
use Rattle.service_headers.specs.declared.Header.{Header}
use Rattle.service_headers.specs.Head.{header_of}
use Rattle.service_headers.proofs.Heads.{Headed}

-- bytes that begin so
module _ (d : List ℕ) (h second start : ℕ) (first : h ≡ get_or d 0 0) (next : second ≡ get_or d 1 0) (e : start ≡ header_length h) where
  -- some of the block's bytes are missing,
  is_missing : length d < start + h % 32 → is_short d ≡ true
  unfolding is_short needed is_header_short
  is_missing k = rw (← first, ← e) (by_test (ltb (length d) start) (λ t. rw t t) (λ t. rw t (lt-ltb _ _ k)))

  -- or all are there
  is_there : start + h % 32 ≤ length d → is_short d ≡ false
  unfolding is_short needed is_header_short
  is_there k = rw (← first, ← e) (simp (le-ltb (length d) start (omega arith), le-ltb _ _ k))

  -- so there is no header, or this one
  pub header_missing : length d < start + h % 32 → None ≡ header_of d
  unfolding header_of
  header_missing k = rw (is_missing k)

  pub header_there : (n : ℕ) → n ≡ cond (eqb (header_length h) 2) (second % 64) (top_number h) → start + h % 32 ≤ length d
      → Some (record { number = n; start = start; size = h % 32 }) ≡ header_of d
  unfolding header_of number_in
  header_there n q k = rw (is_there k, ← first, ← next, ← e, q, e)

  -- what is missing: of the header, or of the body
  pub cut_header : (offset : ℕ) → length d < start → block_header_short start (length d) offset ≡ short_at offset d
  unfolding short_at needed is_header_short
  cut_header offset k = rw (← first, ← e) (simp (lt-ltb _ _ k))

  pub cut_body : (offset : ℕ) → start ≤ length d → block_body_short (start + h % 32) (length d) offset ≡ short_at offset d
  unfolding short_at needed is_header_short
  cut_body offset k = rw (← first, ← e) (simp (le-ltb _ _ k))

-- what is known of a header that is there
some_parts : (b : Bool) (x h : Header) → cond b None (Some x) ≡ Some h → (b ≡ false) × (x ≡ h)
some_parts false x h e = (refl, cc)
some_parts true x h e = absurd (true≢false (sym (ap is_some e)))

pub header_known : (d : List ℕ) (h : Header) → header_of d ≡ Some h → Headed d h.number h.start h.size
unfolding header_of
header_known d h e =
    let w = some_parts (is_short d) _ h e in
    let m = all_there d (not_short d w.0) in
    let start : header_length (get_or d 0 0) ≡ h.start = ap (λ (x : Header). x.start) w.1 in
    let size : block_size (get_or d 0 0) ≡ h.size = ap (λ (x : Header). x.size) w.1 in
    record { whole = w.0; number = ap (λ (x : Header). x.number) w.1; start = start; size = size; fits = omega (arith, m, start, size); some = omega (arith, header_bytes (get_or d 0 0), start); small = omega (arith, size) }

-- and where there is none bytes are missing, so that the reader says which
pub header_none : (d : List ℕ) → header_of d ≡ None → is_short d ≡ true
unfolding header_of
header_none d e = by_test (is_short d) (λ t. t) (λ t. absurd (true≢false (ap is_some (rw t at e))))

pub read_cut : (offset : ℕ) (d : List ℕ) → header_of d ≡ None → read_block_at offset d ≡ refused (short_at offset d)
unfolding read_block_at
read_cut offset d e = rw (header_none d e)
