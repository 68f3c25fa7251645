-- A frame's packet, laid piece by piece. Assumes nothing.
use mathlib.Core.Path.{◌≡◌, refl, sym, ap, ◌∙◌}
use mathlib.Core.Bool.{true, false, ◌&&◌}
use mathlib.Core.List.{List, [], ◌∷◌, ◌++◌}
use Prim.Native.Nat.{ℕ, ◌+◌, ◌-◌, ◌*◌, ◌/◌, ◌%◌, ◌≤◌, ◌<◌}
use native.Mathlib.Omega.{arith}
use lib.ListN.{length, get_or, take, drop, set, length-append, length-drop, length-replicate}
use lib.Seq.{sets, length-sets, take_at, take_all, length-take-le}
use lib.Dec.{leb}
use borrow.Author.Tests.{lt-ltb, le-ltb, leb-true}
use Rattle.model.specs.Frame.{tri, count_in}
use Rattle.model.specs.Said.{gave, refused, put_into, out_short, bad_section}
use Rattle.model.specs.Distribution.{length_with, two_bytes, sum_of, closing, is_coded, as_written, sections, laid_out, distribution_bytes, counter_after, is_whole, distribution_of, packed, sent_into, distribute}
use Rattle.model.proofs.Distribution.{laid_length, whole_length, whole_bytes, whole_count}
use Rattle.model.proofs.Cases.{both}
use Rattle.basics.proofs.Runs.{sets_append, sets_front}
use Rattle.distribution_writing.specs.Laid.{first_nine, sections_of, packet_in}

-- an empty frame is not whole
pub empty_broken : (f : List ℕ) → length f ≡ 0 → false ≡ is_whole f
unfolding is_whole
empty_broken [] h = refl
empty_broken (b ∷ f) h = absurd (omega arith)

-- the byte that closes a sum depends on its rest modulo 256 alone
closing_rest : (s : ℕ) → closing (s % 256) ≡ closing s
unfolding closing
closing_rest s = omega arith

-- the first nine bytes, one by one
abbrev nine : ℕ → ℕ → ℕ → List ℕ
nine counter code n = 0x96 ∷ 0x69 ∷ length_with n ∷ (16 * code + 15) ∷ 0x43 ∷ (counter / 256) ∷ (counter % 256) ∷ 0x72 ∷ (0xE0 + n) ∷ []

pub nine_are : (counter code n : ℕ) → nine counter code n ≡ first_nine counter code n
unfolding sections
nine_are counter code n = rw (length-replicate n (tri 0 0 0))

module _ (counter code : ℕ) (f : List ℕ) (whole : is_whole f ≡ true) where
  -- the head, the frame's own triples and the footer are the sections
  sections_are : nine counter code (count_in (get_or f 0 0)) ++ (drop 2 f ++ (0x74 ∷ two_bytes counter)) ≡ sections_of counter code f
  unfolding sections
  sections_are = rw (whole_bytes f whole, whole_count f whole)

  triples_length : length (drop 2 f) + 2 ≡ length f
  triples_length = omega (arith, length-drop 2 f, whole_length f whole)

  sections_length : length (sections_of counter code f) ≡ length f + 10
  sections_length =
      omega (
        arith,
        ap length (sym sections_are),
        length-append (nine counter code (count_in (get_or f 0 0))) (drop 2 f ++ (0x74 ∷ two_bytes counter)),
        length-append (drop 2 f) (0x74 ∷ two_bytes counter),
        triples_length,
      )

  -- three pieces, one behind the other
  three_laid : (o : List ℕ)
      → sets (sets (sets o 0 (nine counter code (count_in (get_or f 0 0)))) 9 (drop 2 f)) (length f + 7) (0x74 ∷ two_bytes counter) ≡ sets o 0 (sections_of counter code f)
  three_laid o =
      let head = nine counter code (count_in (get_or f 0 0)) in
      let footer : List ℕ = 0x74 ∷ two_bytes counter in
      let place : length f + 7 ≡ 9 + length (drop 2 f) = omega (arith, triples_length) in
      ap (λ (i : ℕ). sets (sets (sets o 0 head) 9 (drop 2 f)) i footer) place
      ∙ sym (sets_append (drop 2 f) footer (sets o 0 head) 9)
      ∙ sym (sets_append head (drop 2 f ++ footer) o 0)
      ∙ ap (λ (x : List ℕ). sets o 0 x) sections_are

  -- the same, where the frame's triples are a part of it
  pub pieces_laid : (o a b c head : List ℕ) → head ≡ first_nine counter code (count_in (get_or f 0 0)) → a ≡ sets o 0 head
      → b ≡ sets a 9 (take (length f - 2) (drop 2 f)) → c ≡ sets b (length f + 7) (0x74 ∷ get_or head 5 0 ∷ get_or head 6 0 ∷ []) → c ≡ sets o 0 (sections_of counter code f)
  pieces_laid o a b c head h x y z =
      let part : take (length f - 2) (drop 2 f) ≡ drop 2 f = take_all (length f - 2) (drop 2 f) (omega (arith, length-drop 2 f)) in
      rw (z, y, x, h ∙ sym (nine_are counter code (count_in (get_or f 0 0))), part) (three_laid o)

  -- behind them there is room for one byte more
  pub sections_there : (o c : List ℕ) → length f + 11 ≤ length o → c ≡ sets o 0 (sections_of counter code f) → length f + 10 ≡ length (take (length f + 10) c)
  sections_there o c h e = sym (length-take-le (length f + 10) c (omega (arith, ap length e, length-sets o 0 (sections_of counter code f))))

  -- for the byte that closes their sum
  pub sum_laid : (o c : List ℕ) (sum b : ℕ) → length f + 11 ≤ length o → c ≡ sets o 0 (sections_of counter code f) → sum ≡ sum_of (take (length f + 10) c) % 256 → b ≡ closing sum
      → set c (length f + 10) b ≡ packet_in counter code f o
  unfolding laid_out
  sum_laid o c sum b h e t k =
      let these = sections_of counter code f in
      let front : c ≡ these ++ drop (length these) o = e ∙ sets_front o these (omega (arith, sections_length)) in
      let all : take (length f + 10) c ≡ these = ap (λ (x : List ℕ). take (length f + 10) x) front ∙ take_at these (drop (length these) o) (length f + 10) sections_length in
      let last : b ≡ closing (sum_of these) = k ∙ ap closing (t ∙ ap (λ (x : List ℕ). sum_of x % 256) all) ∙ closing_rest (sum_of these) in
      let place : length f + 10 ≡ 0 + length these = omega (arith, sections_length) in
      let whole : length (these ++ (closing (sum_of these) ∷ [])) ≤ length o = omega (arith, length-append these (closing (sum_of these) ∷ []), sections_length) in
      rw (e, last, place) (sym (sets_append these (closing (sum_of these) ∷ []) o 0) ∙ sets_front o (these ++ (closing (sum_of these) ∷ [])) whole)

  -- how many bytes the packet has
  pub bytes_length : length (distribution_bytes (distribution_of counter code f)) ≡ length f + 11
  bytes_length = omega (arith, laid_length as_written (distribution_of counter code f), whole_count f whole, whole_length f whole)

  -- with a code and with room all of it is written,
  pub wrote_whole : (out : List ℕ) → is_coded code ≡ true → length f + 11 ≤ length out
      → distribute counter code f out ≡ gave (record { bytes = distribution_bytes (distribution_of counter code f); out = packet_in counter code f out; next = counter_after counter })
  unfolding distribute packed sent_into put_into
  wrote_whole out coded h = simp (whole, coded, le-ltb (length out) (length (distribution_bytes (distribution_of counter code f))) (omega (arith, bytes_length)))

  -- and without room none
  pub wrote_short : (out : List ℕ) → is_coded code ≡ true → length out < length f + 11 → distribute counter code f out ≡ refused (out_short (length f + 11))
  unfolding distribute packed sent_into put_into
  wrote_short out coded h = simp (whole, coded, bytes_length, lt-ltb (length out) (length f + 11) h)

-- nothing is written of a frame that is not whole, or at no code
pub wrote_broken : (counter code : ℕ) (f out : List ℕ) → is_whole f && is_coded code ≡ false → distribute counter code f out ≡ refused bad_section
unfolding distribute packed
wrote_broken counter code f out e = simp e

-- no code is above 8
pub coded_few : (code : ℕ) → is_coded code ≡ true → code ≤ 8
unfolding is_coded
coded_few code e = leb-true _ _ (both (leb 1 code) (leb code 8) e).1
