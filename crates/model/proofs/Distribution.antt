-- Distribution packets: what is laid out is read as that packet, whatever stands where a reader does not look, and nothing else is read; its sum; and
-- which counters are newer. Assumes nothing.
use mathlib.Core.Path.{◌≡◌, refl, sym, ap, ap₂, subst, ◌∙◌}
use mathlib.Core.Bool.{Bool, true, false, not, ◌&&◌, and-false}
use mathlib.Core.List.{List, [], ◌∷◌, ◌++◌, append_assoc}
use Prim.Native.Nat.{ℕ, zero, suc, ◌+◌, ◌-◌, ◌*◌, ◌/◌, ◌%◌, ◌^◌, ◌≤◌, ◌<◌}
use native.Mathlib.Omega.{arith}
use borrow.Author.Tests.{eq-eqb, eqb-true, le-leb, lt-leb, leb-true, ltb-true, not-true}
use lib.Dec.{eqb, leb, ltb}
use lib.ListN.{length, get_or, take, drop, length-append, length-drop, take-append-drop}
use lib.Seq.{get_or-append-add, take_at, drop-cons, length-take-le, drop-length, drop-drop}
use Rattle.model.specs.Lists.{every}
use Rattle.model.specs.Said.{gave, put_into}
use Rattle.model.specs.Frame.{flat, triples_in, count_in, frame_bytes}
use Rattle.model.specs.Distribution.{Distribution, is_coded, length_with, two_bytes, sum_of, closing, Unread, as_written, sections, laid_out, distribution_bytes, has_mark, announces_more, count_of, sections_in_order, counter_at, sums_up, counters_agree, held_in, opened, ahead, newer, frame_of, counter_after, is_whole, distribution_of, packed, Distributed, sent_into, distribute}
use Rattle.model.proofs.Cases.{by_test, by_cond, both, and_both, Gives, gives_at, gives_mapped, NotAccepted, Refuses, refuses_then, refuses_mapped}
use Rattle.model.proofs.Lists.{every_at}
use Rattle.model.proofs.Frames.{unflat, flat_length}

-- the sum of two runs of bytes
pub sum_append : (a b : List ℕ) → sum_of (a ++ b) ≡ sum_of a + sum_of b
unfolding sum_of
sum_append [] b = omega arith
sum_append (x ∷ a) b = omega (arith, sum_append a b)

-- the byte that closes a sum makes it 0 modulo 256
closes : (s : ℕ) → (s + closing s) % 256 ≡ 0
unfolding closing
closes s = omega arith

-- and it is the only byte that does
closes_only : (s x : ℕ) → x < 256 → (s + x) % 256 ≡ 0 → x ≡ closing s
unfolding closing
closes_only s x h e = omega arith

-- what can be laid out: a rate that has a code, a counter of 16 bits, no more triples than a count can say, and no other section announced
pub record Fits (u : Unread) (d : Distribution) : Type 0 where
  pub code : is_coded d.code ≡ true
  pub counter : d.counter < 2 ^ 16
  pub few : length d.triples < 32
  pub beside : u.beside_code < 16
  pub alone : announces_more u.flags ≡ false

module _ (u : Unread) (d : Distribution) where
  -- the first nine bytes, and what follows them
  abbrev headed : List ℕ → List ℕ
  headed s =
      0x96 ∷ 0x69 ∷ length_with (length d.triples) ∷ (16 * d.code + u.beside_code) ∷ u.flags ∷ (d.counter / 256) ∷ (d.counter % 256) ∷ 0x72
      ∷ (32 * u.beside_count + length d.triples) ∷ s

  -- all before the footer
  abbrev front : List ℕ
  front = headed (flat d.triples)

  -- the footer, closed
  abbrev back : List ℕ
  back = 0x74 ∷ (d.counter / 256) ∷ (d.counter % 256) ∷ closing (sum_of (sections u d)) ∷ []

  -- a packet in two parts
  laid_split : laid_out u d ≡ front ++ back
  unfolding laid_out sections
  laid_split = ap headed (append_assoc (flat d.triples) (0x74 ∷ two_bytes d.counter) (closing (sum_of (sections u d)) ∷ []))

  front_length : length front ≡ 9 + 3 * length d.triples
  front_length = omega (arith, flat_length d.triples)

  -- how many bytes it has
  pub laid_length : length (laid_out u d) ≡ length_with (length d.triples)
  laid_length = omega (arith, ap length laid_split, length-append front back, front_length)

  -- its sum is 0 modulo 256
  pub laid_sum : sum_of (laid_out u d) % 256 ≡ 0
  unfolding laid_out sum_of
  laid_sum = omega (arith, sum_append (sections u d) (closing (sum_of (sections u d)) ∷ []), closes (sum_of (sections u d)))

  -- what stands in the footer
  footer_at : (k : ℕ) → get_or (laid_out u d) (9 + 3 * length d.triples + k) 0 ≡ get_or back k 0
  footer_at k = rw laid_split (rw (sym front_length) (get_or-append-add front back k 0))

-- what a packet has that is in order
pub record Ordered (s : List ℕ) : Type 0 where
  pub enough : 13 ≤ length s
  pub told : get_or s 2 0 ≡ length s
  pub code : is_coded (get_or s 3 0 / 16) ≡ true
  pub alone : announces_more (get_or s 4 0) ≡ false
  pub captions : get_or s 7 0 ≡ 0x72
  pub footer : get_or s (length s - 4) 0 ≡ 0x74
  pub count : length s ≡ length_with (count_of s)

-- it passes the test,
ordered_passes : (s : List ℕ) → Ordered s → sections_in_order s ≡ true
unfolding sections_in_order
ordered_passes s o =
    simp (le-leb _ _ o.enough, eq-eqb _ _ o.told, o.code, o.alone, eq-eqb _ _ o.captions, eq-eqb _ _ o.footer, eq-eqb _ _ o.count)

-- and nothing else does
pub passes_ordered : (s : List ℕ) → sections_in_order s ≡ true → Ordered s
unfolding sections_in_order
passes_ordered s e =
    let a = both (leb 13 (length s)) _ e in
    let b = both (eqb (get_or s 2 0) (length s)) _ a.1 in
    let c = both (is_coded (get_or s 3 0 / 16)) _ b.1 in
    let f = both (not (announces_more (get_or s 4 0))) _ c.1 in
    let g = both (eqb (get_or s 7 0) 0x72) _ f.1 in
    let h = both (eqb (get_or s (length s - 4) 0) 0x74) _ g.1 in
    record {
      enough = leb-true _ _ a.0;
      told = eqb-true _ _ b.0;
      code = c.0;
      alone = not-true _ f.0;
      captions = eqb-true _ _ g.0;
      footer = eqb-true _ _ h.0;
      count = eqb-true _ _ h.1;
    }

module _ (u : Unread) (d : Distribution) (fits : Fits u d) where
  -- its first bytes are what they are laid as
  byte_at : (k : ℕ) → get_or (laid_out u d) k 0 ≡ get_or (front u d ++ back u d) k 0
  byte_at k = ap (λ (l : List ℕ). get_or l k 0) (laid_split u d)

  -- a place of its footer, counted from its end
  behind_at : (i k : ℕ) → i ≡ 9 + 3 * length d.triples + k → get_or (laid_out u d) i 0 ≡ get_or (back u d) k 0
  behind_at i k e = ap (λ (j : ℕ). get_or (laid_out u d) j 0) e ∙ footer_at u d k

  laid_coded : is_coded (get_or (laid_out u d) 3 0 / 16) ≡ true
  laid_coded = ap is_coded (omega (arith, byte_at 3, fits.beside)) ∙ fits.code

  laid_count : count_of (laid_out u d) ≡ length d.triples
  laid_count = omega (arith, byte_at 8, fits.few)

  laid_ordered : Ordered (laid_out u d)
  laid_ordered =
      record {
        enough = omega (arith, laid_length u d);
        told = byte_at 2 ∙ sym (laid_length u d);
        code = laid_coded;
        alone = ap announces_more (byte_at 4) ∙ fits.alone;
        captions = byte_at 7;
        footer = behind_at _ 0 (omega (arith, laid_length u d));
        count = omega (arith, laid_length u d, laid_count);
      }

  laid_counter : counter_at 5 (laid_out u d) ≡ d.counter
  laid_counter = omega (arith, byte_at 5, byte_at 6)

  laid_footer : counter_at (length (laid_out u d) - 3) (laid_out u d) ≡ d.counter
  laid_footer =
      let l = laid_length u d in
      omega (arith, behind_at (length (laid_out u d) - 3) 1 (omega (arith, l)), behind_at (length (laid_out u d) - 3 + 1) 2 (omega (arith, l)))

  laid_triples : triples_in (take (3 * count_of (laid_out u d)) (drop 9 (laid_out u d))) ≡ d.triples
  laid_triples =
      ap triples_in
      (ap (λ (k : ℕ). take (3 * k) (drop 9 (laid_out u d))) laid_count
      ∙ (ap (λ (l : List ℕ). take (3 * length d.triples) (drop 9 l)) (laid_split u d) ∙ take_at (flat d.triples) (back u d) _ (flat_length d.triples)))
      ∙ unflat d.triples

  laid_held : held_in (laid_out u d) ≡ d
  laid_held =
      let code : get_or (laid_out u d) 3 0 / 16 ≡ d.code = omega (arith, byte_at 3, fits.beside) in
      rw (code, laid_counter, laid_triples)

  laid_mark : has_mark (laid_out u d) ≡ true
  unfolding has_mark
  laid_mark = and_both _ _ (eq-eqb _ _ (byte_at 0)) (eq-eqb _ _ (byte_at 1))

  laid_agree : counters_agree (laid_out u d) ≡ true
  unfolding counters_agree
  laid_agree = simp (laid_counter, laid_footer) (eq-eqb d.counter d.counter refl)

  -- it is read as the packet that it is
  pub laid_opened : opened (laid_out u d) ≡ gave d
  unfolding opened sums_up
  laid_opened =
      simp
      (laid_mark, ordered_passes (laid_out u d) laid_ordered, eq-eqb _ _ (laid_sum u d), laid_agree)
      (ap gave laid_held)

-- some bytes by their places
abbrev gets : ℕ → ℕ → List ℕ → List ℕ
gets zero at s = []
gets (suc k) at s = get_or s at 0 ∷ gets k (suc at) s

gets_these : (k at : ℕ) (s : List ℕ) → at + k ≤ length s → drop at s ≡ gets k at s ++ drop (at + k) s
gets_these zero at s h = let e : at ≡ at + 0 = omega arith in ap (λ (i : ℕ). drop i s) e
gets_these (suc k) at s h =
    let e : suc at + k ≡ at + suc k = omega arith in
    drop-cons s at 0 (omega arith)
    ∙ ap (λ (l : List ℕ). get_or s at 0 ∷ l) (gets_these k (suc at) s (omega arith) ∙ ap (λ (i : ℕ). gets k (suc at) s ++ drop i s) e)

-- bytes, three each, are those of their triples
flat_triples : (d : List ℕ) (n : ℕ) → length d ≡ 3 * n → flat (triples_in d) ≡ d
unfolding flat triples_in
flat_triples [] n e = refl
flat_triples (h ∷ []) n e = absurd (omega arith)
flat_triples (h ∷ a ∷ []) n e = absurd (omega arith)
flat_triples (h ∷ a ∷ b ∷ d) n e = ap (λ (l : List ℕ). h ∷ a ∷ b ∷ l) (flat_triples d (n - 1) (omega arith))

-- the triples of bytes that are in order
module _ (s : List ℕ) (o : Ordered s) where
  captions_length : length (take (3 * count_of s) (drop 9 s)) ≡ 3 * count_of s
  captions_length = length-take-le (3 * count_of s) (drop 9 s) (omega (arith, length-drop 9 s, o.count))

  -- they are all of the bytes between the count and the footer,
  pub held_bytes : flat (held_in s).triples ≡ take (3 * count_of s) (drop 9 s)
  held_bytes = flat_triples (take (3 * count_of s) (drop 9 s)) (count_of s) captions_length

  -- and as many as the count says
  pub held_count : length (held_in s).triples ≡ count_of s
  held_count = omega (arith, flat_length (held_in s).triples, ap length held_bytes, captions_length)

-- the packet that bytes are read as, and what they have to pass for it
pub record Passed (s : List ℕ) (d : Distribution) : Type 0 where
  pub mark : has_mark s ≡ true
  pub order : sections_in_order s ≡ true
  pub sum : sums_up s ≡ true
  pub counters : counters_agree s ≡ true
  pub held : d ≡ held_in s

pub opened_passed : (s : List ℕ) → Gives (Passed s) (opened s)
unfolding opened
opened_passed s =
    by_cond (Gives (Passed s)) (has_mark s)
    (λ m. by_cond (Gives (Passed s)) (sections_in_order s)
    (λ o. by_cond (Gives (Passed s)) (sums_up s)
    (λ t. by_cond (Gives (Passed s)) (counters_agree s)
    (λ c. record { mark = m; order = o; sum = t; counters = c; held = refl })
    (λ _. tt))
    (λ _. tt))
    (λ _. tt))
    (λ _. tt)

-- no refusal of bytes has the number of what is accepted
pub opened_numbered : (s : List ℕ) → Refuses NotAccepted (opened s)
unfolding opened
opened_numbered s =
    by_cond (Refuses NotAccepted) (has_mark s)
    (λ _. by_cond (Refuses NotAccepted) (sections_in_order s)
    (λ _. by_cond (Refuses NotAccepted) (sums_up s)
    (λ _. by_cond (Refuses NotAccepted) (counters_agree s) (λ _. tt) (λ _ e. omega (arith, e)))
    (λ _ e. omega (arith, e)))
    (λ _ e. omega (arith, e)))
    (λ _ e. omega (arith, e))

-- what stands in bytes where a reader does not look
abbrev pub unread_in : List ℕ → Unread
unread_in s = record { beside_code = get_or s 3 0 % 16; flags = get_or s 4 0; beside_count = get_or s 8 0 / 32 }

-- a byte
abbrev pub is_byte : ℕ → Bool
is_byte b = ltb b 256

module _ (s : List ℕ) (bytes : every is_byte s ≡ true) (p : Passed s (held_in s)) where
  o : Ordered s
  o = passes_ordered s p.order

  below : (i : ℕ) → i < length s → get_or s i 0 < 256
  below i h = ltb-true _ _ (every_at is_byte s i 0 bytes h)

  abbrev n : ℕ
  n = count_of s

  counted : length s ≡ 13 + 3 * n
  counted = o.count

  triples_these : flat (held_in s).triples ≡ take (3 * n) (drop 9 s)
  triples_these = held_bytes s o

  triples_count : length (held_in s).triples ≡ n
  triples_count = held_count s o

  -- the two bytes of the counter are those of head and footer
  high : (held_in s).counter / 256 ≡ get_or s 5 0
  high = omega (arith, below 6 (omega (arith, counted)))

  low : (held_in s).counter % 256 ≡ get_or s 6 0
  low = omega (arith, below 6 (omega (arith, counted)))

  agree : counter_at 5 s ≡ counter_at (length s - 3) s
  unfolding counters_agree
  agree = eqb-true _ _ p.counters

  -- the last byte
  abbrev last : ℕ
  last = get_or s (12 + 3 * n) 0

  place : (i j : ℕ) → i ≡ j → get_or s i 0 ≡ get_or s j 0
  place i j e = ap (λ (k : ℕ). get_or s k 0) e

  -- the counter of the footer
  second : 256 * get_or s (10 + 3 * n) 0 + get_or s (11 + 3 * n) 0 ≡ (held_in s).counter
  second = omega (arith, agree, place (length s - 3) (10 + 3 * n) (omega (arith, counted)), place (length s - 3 + 1) (11 + 3 * n) (omega (arith, counted)))

  second_high : get_or s (10 + 3 * n) 0 ≡ (held_in s).counter / 256
  second_high = omega (arith, second, below (11 + 3 * n) (omega (arith, counted)))

  second_low : get_or s (11 + 3 * n) 0 ≡ (held_in s).counter % 256
  second_low = omega (arith, second, below (11 + 3 * n) (omega (arith, counted)))

  -- the footer and the last byte
  behind_triples : drop (3 * n) (drop 9 s) ≡ 0x74 ∷ ((held_in s).counter / 256) ∷ ((held_in s).counter % 256) ∷ last ∷ []
  behind_triples =
      let end : 9 + 3 * n + 4 ≡ length s = omega (arith, counted) in
      let none : drop (9 + 3 * n + 4) s ≡ [] = ap (λ (i : ℕ). drop i s) end ∙ drop-length s in
      let mark : get_or s (9 + 3 * n) 0 ≡ 0x74 = place (9 + 3 * n) (length s - 4) (omega (arith, counted)) ∙ o.footer in
      let first : get_or s (suc (9 + 3 * n)) 0 ≡ (held_in s).counter / 256 = place (suc (9 + 3 * n)) (10 + 3 * n) (omega arith) ∙ second_high in
      let other : get_or s (suc (suc (9 + 3 * n))) 0 ≡ (held_in s).counter % 256 = place (suc (suc (9 + 3 * n))) (11 + 3 * n) (omega arith) ∙ second_low in
      let final : get_or s (suc (suc (suc (9 + 3 * n)))) 0 ≡ last = place (suc (suc (suc (9 + 3 * n)))) (12 + 3 * n) (omega arith) in
      drop-drop (3 * n) 9 s ∙ gets_these 4 (9 + 3 * n) s (omega (arith, counted)) ∙ rw (none, mark, first, other, final)

  -- the bytes are the sections of the packet, and the last one
  in_sections : s ≡ sections (unread_in s) (held_in s) ++ (last ∷ [])
  unfolding sections has_mark
  in_sections =
      let marks = both (eqb (get_or s 0 0) 0x96) (eqb (get_or s 1 0) 0x69) p.mark in
      let told : get_or s 2 0 ≡ length_with (length (held_in s).triples) = omega (arith, o.told, counted, triples_count) in
      let code : get_or s 3 0 ≡ 16 * (get_or s 3 0 / 16) + get_or s 3 0 % 16 = omega arith in
      let count : get_or s 8 0 ≡ 32 * (get_or s 8 0 / 32) + length (held_in s).triples = omega (arith, triples_count) in
      let rest : drop 9 s ≡ (flat (held_in s).triples ++ (0x74 ∷ two_bytes (held_in s).counter)) ++ (last ∷ []) =
      sym (take-append-drop (3 * n) (drop 9 s)) ∙ ap₂ (λ (a b : List ℕ). a ++ b) (sym triples_these) behind_triples
      ∙ sym (append_assoc (flat (held_in s).triples) (0x74 ∷ two_bytes (held_in s).counter) (last ∷ [])) in
      gets_these 9 0 s (omega (arith, counted))
      ∙ cc (eqb-true (get_or s 0 0) 0x96 marks.0, eqb-true (get_or s 1 0) 0x69 marks.1, told, code, high, low, o.captions, count, rest)

  last_closes : last ≡ closing (sum_of (sections (unread_in s) (held_in s)))
  unfolding sums_up sum_of
  last_closes =
      let sum : (sum_of (sections (unread_in s) (held_in s)) + last) % 256 ≡ 0 =
      omega (arith, eqb-true (sum_of s % 256) 0 p.sum, ap sum_of in_sections, sum_append (sections (unread_in s) (held_in s)) (last ∷ [])) in
      closes_only (sum_of (sections (unread_in s) (held_in s))) last (below (12 + 3 * n) (omega (arith, counted))) sum

  held_laid : s ≡ laid_out (unread_in s) (held_in s)
  unfolding laid_out
  held_laid = in_sections ∙ ap (λ (b : ℕ). sections (unread_in s) (held_in s) ++ (b ∷ [])) last_closes

  held_fits : Fits (unread_in s) (held_in s)
  held_fits =
      record {
        code = o.code;
        counter = omega (arith, below 5 (omega (arith, counted)), below 6 (omega (arith, counted)));
        few = omega (arith, triples_count);
        beside = omega arith;
        alone = o.alone;
      }

-- Bytes that are read as a packet are that packet, laid out: nothing but a packet of the layout is read [L4].
pub opened_laid : (s : List ℕ) (d : Distribution) → every is_byte s ≡ true → opened s ≡ gave d → (s ≡ laid_out (unread_in s) d) × Fits (unread_in s) d
opened_laid s d bytes e =
    let p = gives_at (Passed s) (opened s) e (opened_passed s) in
    let q = subst (λ (x : Distribution). Passed s x) p.held p in
    subst (λ (x : Distribution). (s ≡ laid_out (unread_in s) x) × Fits (unread_in s) x) (sym p.held) (held_laid s bytes q, held_fits s bytes q)

-- how far a counter lies ahead, to which k steps lead on
pub ahead_steps : (last k : ℕ) → last < 2 ^ 16 → k < 2 ^ 16 → ahead last ((last + k) % 2 ^ 16) ≡ k
unfolding ahead
ahead_steps last k h l = omega arith

-- so newer counters are those to which 1 to 32,767 steps lead on [L5]
pub newer_steps : (last k : ℕ) → last < 2 ^ 16 → k < 2 ^ 16 → newer last ((last + k) % 2 ^ 16) ≡ leb 1 k && leb k 32767
unfolding newer
newer_steps last k h l = rw (ahead_steps last k h l)

-- of two counters at most one is newer than the other
pub newer_one_way : (a b : ℕ) → a < 2 ^ 16 → b < 2 ^ 16 → newer a b ≡ true → newer b a ≡ false
unfolding newer ahead
newer_one_way a b h l e =
    let t = both (leb 1 (ahead a b)) (leb (ahead a b) 32767) e in
    let x = leb-true 1 (ahead a b) t.0 in
    let y = leb-true (ahead a b) 32767 t.1 in
    ap (λ (t : Bool). leb 1 (ahead b a) && t) (lt-leb (ahead b a) 32767 (omega arith)) ∙ and-false (leb 1 (ahead b a))

-- the next counter is newer
pub next_newer : (last : ℕ) → last < 2 ^ 16 → newer last (counter_after last) ≡ true
unfolding counter_after
next_newer last h = newer_steps last 1 h (omega arith)

-- a frame that is whole is as many triples as its first byte says, and those are its bytes
module _ (f : List ℕ) (whole : is_whole f ≡ true) where
  pub whole_length : length f ≡ 3 * count_in (get_or f 0 0) + 2
  unfolding is_whole
  whole_length = eqb-true _ _ whole

  behind_two : length (drop 2 f) ≡ 3 * count_in (get_or f 0 0)
  behind_two = omega (arith, length-drop 2 f, whole_length)

  pub whole_bytes : flat (triples_in (drop 2 f)) ≡ drop 2 f
  whole_bytes = flat_triples (drop 2 f) (count_in (get_or f 0 0)) behind_two

  pub whole_count : length (triples_in (drop 2 f)) ≡ count_in (get_or f 0 0)
  whole_count = omega (arith, flat_length (triples_in (drop 2 f)), ap length whole_bytes, behind_two)

  -- the frame of the packet that it becomes: its own triples behind C0 and their count, and FF [L6]
  pub whole_frame : (code counter : ℕ)
      → frame_of (distribution_of counter code f) ≡ (0xC0 + count_in (get_or f 0 0)) ∷ 0xFF ∷ drop 2 f
  unfolding frame_bytes
  whole_frame code counter = rw (whole_bytes, whole_count)

-- what becomes of a frame that is written: it is whole, the rate has a code, its packet is in the output, and the counter has moved on [L3] [L5]
pub record SentAs (counter code : ℕ) (f out : List ℕ) (x : Distributed) : Type 0 where
  pub whole : is_whole f ≡ true
  pub coded : is_coded code ≡ true
  pub packet : x.bytes ≡ distribution_bytes (distribution_of counter code f)
  pub there : x.out ≡ distribution_bytes (distribution_of counter code f) ++ drop (length (distribution_bytes (distribution_of counter code f))) out
  pub moved : x.next ≡ counter_after counter

module _ (counter code : ℕ) (f out : List ℕ) where
  sent_into_given : is_whole f && is_coded code ≡ true → Gives (SentAs counter code f out) (sent_into out (distribution_of counter code f))
  unfolding sent_into put_into
  sent_into_given e =
      gives_mapped (SentAs counter code f out)
      (λ (o : List ℕ). o ≡ distribution_bytes (distribution_of counter code f) ++ drop (length (distribution_bytes (distribution_of counter code f))) out)
      (put_into out (distribution_bytes (distribution_of counter code f))) _
      (by_cond (Gives _) (ltb (length out) (length (distribution_bytes (distribution_of counter code f)))) (λ _. tt) (λ _. refl))
      (λ o q. record { whole = (both (is_whole f) (is_coded code) e).0; coded = (both (is_whole f) (is_coded code) e).1; packet = refl; there = q; moved = refl })

  pub sent_as : Gives (SentAs counter code f out) (distribute counter code f out)
  unfolding distribute packed
  sent_as =
      by_test (is_whole f && is_coded code)
      (λ e. rw e (sent_into_given e))
      (λ e. rw e tt)

-- no refusal of a frame has the number of what is accepted
pub sent_numbered : (counter code : ℕ) (f out : List ℕ) → Refuses NotAccepted (distribute counter code f out)
unfolding distribute packed sent_into put_into
sent_numbered counter code f out =
    refuses_then NotAccepted (packed counter code f) (sent_into out)
    (by_cond (Refuses NotAccepted) (is_whole f && is_coded code) (λ _. tt) (λ _ e. omega (arith, e)))
    (λ d. refuses_mapped NotAccepted _ (put_into out (distribution_bytes d))
    (by_cond (Refuses NotAccepted) (ltb (length out) (length (distribution_bytes d))) (λ _ e. omega (arith, e)) (λ _. tt)))

-- such a packet can be laid out, if its counter is one of 16 bits
pub sent_fits : (counter code : ℕ) (f : List ℕ) → is_whole f ≡ true → is_coded code ≡ true → counter < 2 ^ 16 → Fits as_written (distribution_of counter code f)
unfolding announces_more
sent_fits counter code f whole coded h = record { code = coded; counter = h; few = omega (arith, whole_count f whole); beside = omega arith; alone = refl }
