-- Text laid into a buffer: what callers know of it, and one text behind another. Assumes nothing.
use mathlib.Core.Path.{◌≡◌, refl, sym, ap, ◌∙◌}
use mathlib.Core.List.{List, [], ◌∷◌, ◌++◌}
use Prim.Native.Nat.{ℕ, ◌+◌, ◌*◌, ◌/◌, ◌%◌, ◌≤◌, ◌<◌, min}
use native.Mathlib.Numerals.{add-one}
use native.Mathlib.Omega.{arith}
use lib.Dec.{leb}
use lib.ListN.{length, take, drop, get_or, length-append}
use lib.Seq.{sets, length-sets, sets-eq, length-take-le, take_at, take-suc}
use borrow.Author.Tests.{leb-true, leb-false}
use Rattle.model.proofs.Cases.{by_test}
use Rattle.basics.proofs.Runs.{sets_append, sets_past}
use Rattle.program_text.specs.Laid.{Laid, Whole}
use Rattle.program_text.specs.Text.{digit, hex_byte, hex}

-- For callers: the place behind is in the buffer or at its end, and the buffer is as long as it was,
pub laid_within : {text out after : List ℕ} {at r : ℕ} → Laid text out at r after → (r ≤ length out) × (length after ≡ length out)
laid_within {text} {out} {after} {at} w = (omega (arith, w.place), ap length w.bytes ∙ length-sets out at text)

-- where there is room, all of it is laid, and the place is behind it,
pub laid_whole : {text out after : List ℕ} {at r : ℕ} → Laid text out at r after → at + length text ≤ length out
    → Whole text out at r after
laid_whole {text} {out} {after} {at} w fits = record { place = omega (arith, w.place); bytes = w.bytes ∙ sets-eq text out at fits }

-- so that the buffer begins with what was laid before and the text,
pub whole_taken : {text out after : List ℕ} {at r : ℕ} → Whole text out at r after → at ≤ length out → take r after ≡ take at out ++ text
whole_taken {text} {out} {after} {at} w h =
    let n : length (take at out ++ text) ≡ at + length text = length-append (take at out) text ∙ rw (length-take-le at out h) in
    rw (w.place, w.bytes) (take_at (take at out ++ text) (drop (at + length text) out) (at + length text) n)

-- and the text, the buffer and the place settle both what is answered and what is left.
pub laid_settled : {text out l m : List ℕ} {at r s : ℕ} → Laid text out at r l → Laid text out at s m → (r ≡ s) × (l ≡ m)
laid_settled f g = (f.place ∙ sym g.place, f.bytes ∙ sym g.bytes)

-- one text behind another
pub laid_append : {x y out mid after : List ℕ} {at p q : ℕ} → Laid x out at p mid → Laid y mid p q after → Laid (x ++ y) out at q after
laid_append {x} {y} {out} {mid} {after} {at} {p} {q} f s = record { place = behind; bytes = s.bytes ∙ both }
  where
    same : length mid ≡ length out
    same = ap length f.bytes ∙ length-sets out at x

    behind : q ≡ min (at + length (x ++ y)) (length out)
    behind = rw length-append (omega (arith, f.place, s.place, same))

    both : sets mid p y ≡ sets out at (x ++ y)
    both =
        by_test (leb (at + length x) (length out))
        (λ t. let h : at + length x ≤ length out = leb-true _ _ t in
        let e : p ≡ at + length x = omega (arith, f.place) in
        rw (e, f.bytes) (sym (sets_append x y out at)))
        (λ t. let h : length out < at + length x = leb-false _ _ t in
        let far : length (sets out at x) ≤ at + length x = rw length-sets (omega arith) in
        sets_past y mid p (omega (arith, f.place, same)) ∙ f.bytes
        ∙ sym (sets_past y (sets out at x) (at + length x) far) ∙ sym (sets_append x y out at))

-- two digits a byte
pub length_hex : (bs : List ℕ) → length (hex bs) ≡ 2 * length bs
length_hex [] = refl
length_hex (b ∷ bs) = omega (arith, length_hex bs)

-- behind the first bytes the next one
hex_append : (l m : List ℕ) → hex (l ++ m) ≡ hex l ++ hex m
hex_append [] m = refl
hex_append (x ∷ l) m = ap (λ (r : List ℕ). digit (x / 16) ∷ digit (x % 16) ∷ r) (hex_append l m)

pub hex_more : (l : List ℕ) (i : ℕ) {out mid after : List ℕ} {at p q : ℕ} → i < length l → Laid (hex (take i l)) out at p mid
    → Laid (hex_byte (get_or l i 0)) mid p q after → Laid (hex (take (i + 1) l)) out at q after
hex_more l i h f s = rw (add-one, take-suc l i 0 h, hex_append (take i l) (get_or l i 0 ∷ [])) (laid_append f s)
