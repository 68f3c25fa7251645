-- The rule of order asks for no more than it must: if a proposal covers its runs and keeps the limits, but not the order, there are bytes that some
-- service would hear in another order. Such bytes are a 1 among zeros. Assumes nothing.
use mathlib.Core.Path.{◌≡◌, refl, sym, ap, ◌∙◌}
use mathlib.Core.Bool.{Bool, true, false, false≢true}
use mathlib.Core.List.{List, [], ◌∷◌, map, flat_map}
use Prim.Native.Nat.{ℕ}
use native.Mathlib.Omega.{arith}
use lib.Dec.{eqb, ltb}
use lib.ListN.{length}
use borrow.Author.Tests.{eq-eqb}
use Rattle.model.specs.Lists.{every, same}
use Rattle.model.specs.Said.{Said, accepted, bad_cover, out_of_order, run_split, over_limit}
use Rattle.model.proofs.Cases.{by_test, by_cond, and_both}
use Rattle.model.proofs.Lists.{same_true, same_self}
use Rattle.model.proofs.Distribution.{is_byte}
use Rattle.model_packing.specs.Promises.{Misheard}
use Rattle.model_packing.specs.Pieces.{Piece, Byte, byte, count_from, bytes_of, service_of, every_two, not_after, In, here, there}
use Rattle.model_packing.specs.Proposals.{covers, sent, keeps_order, ordered, unsplit, limits, most_runs, check_proposal, bytes_first}
use Rattle.model_packing.specs.Carrying.{proposed_packets, spoken, heard_in}
use Rattle.model_packing.proofs.Lists.{every_in, in_every, in_those, those_in, every_count, byte_within}
use Rattle.model_packing.proofs.Sorted.{Sorted, none, next, sorted_by, sorted_those, every_two_before}
use Rattle.model_packing.proofs.Bytes.{Earlier, earlier_one_way, all_sorted, number_at}
use Rattle.model_packing.proofs.Spoken.{is_byte_of, spoken_bytes, sent_bytes, sent_is_spoken}
use Rattle.model_packing.proofs.Heard.{heard_sent, spoken_numbers}
use Rattle.model_packing.proofs.Marks.{mark, mark_byte, map_same, same_by_marks, filled_from, filled_lengths, filled_number, filled_bytes}
use Rattle.model_packing.proofs.Covered.{Covered, covers_covered}
use Rattle.model_packing.proofs.Unordered.{sent_in_turn}

-- a list in an order that a test tells passes it, two by two
sorted_every_two : {A : Type 0} (test : A → A → Bool) {l : List A} → Sorted (λ x y. test x y ≡ true) l → every_two test l ≡ true
unfolding every_two
sorted_every_two test none = refl
sorted_every_two test {l = x ∷ l} (next h s) = and_both _ _ (in_every (test x) l h) (sorted_every_two test s)

-- either all elements pass a test, or one does not
by_every : {A P : Type 0} (test : A → Bool) (l : List A) → (every test l ≡ true → P) → ((x : A) → In x l → test x ≡ false → P) → P
unfolding every
by_every test [] all one = all refl
by_every test (x ∷ l) all one =
    by_test (test x) (λ e. by_every test l (λ d. all (and_both _ _ e d)) (λ y i. one y (there i))) (one x (here refl))

module _ (services lengths : List ℕ) (ps : List Piece) (ok : Covered services lengths ps) where
  -- runs with a 1 at one byte
  abbrev marked : Byte → List (List ℕ)
  marked y = filled_from (mark y) 0 lengths

  -- their numbers are the marks
  marked_number : (y x : Byte) → In x (bytes_of services lengths) → number_at (marked y) x ≡ mark y x
  marked_number y x i =
      filled_number (mark y) 0 lengths x.run x.place (byte_within services lengths x i).1 ∙ ap (λ (r : ℕ). mark y (byte r x.place)) (omega arith)

  -- what is spoken to a service is of the runs
  spoken_there : (s : ℕ) (x : Byte) → In x (spoken_bytes s services lengths) → In x (bytes_of services lengths)
  spoken_there s x i = (those_in (is_byte_of services s) (bytes_of services lengths) i).0

  -- and so is what is sent to it
  sent_there : (s : ℕ) (x : Byte) → In x (sent_bytes s services ps) → In x (bytes_of services lengths)
  sent_there s x i = spoken_there s x (sent_is_spoken services lengths ps ok s x i)

  -- the bytes of a service have the same marks as they are sent and as they are spoken, if such runs are heard in order
  marks_heard : (y : Byte) (s : ℕ) → flat_map (heard_in s) (proposed_packets services (marked y) ps) ≡ spoken s services (marked y)
      → map (mark y) (sent_bytes s services ps) ≡ map (mark y) (spoken_bytes s services lengths)
  marks_heard y s h =
      let e : map length (marked y) ≡ lengths = filled_lengths (mark y) 0 lengths in
      sym (map_same _ _ (sent_bytes s services ps) (λ x i. marked_number y x (sent_there s x i)))
      ∙ sym (heard_sent services (marked y) ps (rw e ok) s)
      ∙ h
      ∙ sym (spoken_numbers services (marked y) s)
      ∙ ap (λ (l : List ℕ). map (number_at (marked y)) (spoken_bytes s services l)) e
      ∙ map_same _ _ (spoken_bytes s services lengths) (λ x i. marked_number y x (spoken_there s x i))

  -- whether they have
  abbrev keeps_mark : ℕ → Byte → Bool
  keeps_mark s y = same (map (mark y) (sent_bytes s services ps)) (map (mark y) (spoken_bytes s services lengths))

  -- if they have, whichever byte is marked, they are sent as they are spoken
  sent_as_spoken : (s : ℕ) → every (keeps_mark s) (bytes_of services lengths) ≡ true → sent_bytes s services ps ≡ spoken_bytes s services lengths
  sent_as_spoken s e =
      same_by_marks _ _
      (λ y i. same_true _ _ (every_in (keeps_mark s) (bytes_of services lengths) e (sent_there s y i)))
      (λ y i. same_true _ _ (every_in (keeps_mark s) (bytes_of services lengths) e (spoken_there s y i)))

  -- so none of them is sent after a later one
  spoken_in_turn : (s : ℕ) → every (keeps_mark s) (bytes_of services lengths) ≡ true
      → (x y : Byte) → In x (spoken_bytes s services lengths) → In y (spoken_bytes s services lengths) → Earlier x y → not_after (sent ps x) (sent ps y) ≡ true
  spoken_in_turn s e x y i j less =
      every_two_before Earlier earlier_one_way (λ v w. not_after (sent ps v) (sent ps w)) (spoken_bytes s services lengths)
      (sorted_those (is_byte_of services s) (all_sorted services lengths))
      (sorted_every_two (λ v w. not_after (sent ps v) (sent ps w)) (rw (sent_as_spoken s e) at (sent_in_turn services lengths ps ok s))) i j less

  -- whether it is so with the service of a run
  abbrev keeps_marks : ℕ → Bool
  keeps_marks r = every (keeps_mark (service_of services r)) (bytes_of services lengths)

  -- if it is with all, any two bytes keep their order
  two_in_order : every keeps_marks (count_from 0 (length services)) ≡ true
      → (x y : Byte) → In x (bytes_of services lengths) → In y (bytes_of services lengths) → Earlier x y → keeps_order services ps x y ≡ true
  unfolding keeps_order
  two_in_order m x y i j less =
      let s : ℕ = service_of services y.run in
      let k : every (keeps_mark s) (bytes_of services lengths) ≡ true =
      every_count keeps_marks 0 (length services) y.run m (omega arith) (omega (arith, (byte_within services lengths y j).0)) in
      by_cond (λ (b : Bool). b ≡ true) (eqb (service_of services x.run) s)
      (λ e. spoken_in_turn s k x y (in_those (is_byte_of services s) (bytes_of services lengths) i e)
      (in_those (is_byte_of services s) (bytes_of services lengths) j (eq-eqb s s refl)) less)
      (λ _. refl)

  -- if it is not with one, its service hears a mark in another place
  mark_misheard : (r : ℕ) → keeps_marks r ≡ false → Misheard services lengths ps
  mark_misheard r e =
      let s : ℕ = service_of services r in
      by_every (keeps_mark s) (bytes_of services lengths) (λ d. absurd (false≢true (sym e ∙ d)))
      (λ y _ d. record {
        runs = marked y;
        so_long = filled_lengths (mark y) 0 lengths;
        all_bytes = filled_bytes (mark y) (mark_byte y) 0 lengths;
        service = s;
        otherwise = λ h. false≢true (sym d ∙ ap (same (map (mark y) (sent_bytes s services ps))) (sym (marks_heard y s h)) ∙ same_self _);
      })

-- A proposal that does not keep the order is misheard with some bytes.
pub disorder_misheard : (services lengths : List ℕ) (ps : List Piece) → covers services lengths ps ≡ true → limits services lengths ps ≡ true
    → ordered services lengths ps ≡ false → Misheard services lengths ps
unfolding ordered
disorder_misheard services lengths ps c l e =
    let ok : Covered services lengths ps = covers_covered services lengths ps c l in
    by_every (keeps_marks services lengths ps ok) (count_from 0 (length services))
    (λ m. absurd (false≢true (sym e ∙ sorted_every_two (keeps_order services ps) (sorted_by (all_sorted services lengths) (two_in_order services lengths ps ok m)))))
    (λ r _ d. mark_misheard services lengths ps ok r d)

-- So one that each service hears in order, whatever the bytes are, keeps the order.
pub order_needed : (services lengths : List ℕ) (ps : List Piece) → covers services lengths ps ≡ true → limits services lengths ps ≡ true
    → ((runs : List (List ℕ)) → map length runs ≡ lengths → every (every is_byte) runs ≡ true
    → (s : ℕ) → flat_map (heard_in s) (proposed_packets services runs ps) ≡ spoken s services runs)
    → ordered services lengths ps ≡ true
order_needed services lengths ps c l all =
    by_test (ordered services lengths ps) (λ e. e)
    (λ e. let m : Misheard services lengths ps = disorder_misheard services lengths ps c l e in absurd (m.otherwise (all m.runs m.so_long m.all_bytes m.service)))

-- what is refused with 24 covers its runs and does not keep the order
order_refused : (services lengths : List ℕ) (ps : List Piece) → check_proposal services lengths ps ≡ out_of_order
    → (covers services lengths ps ≡ true) × (ordered services lengths ps ≡ false)
unfolding check_proposal bytes_first
order_refused services lengths ps h =
    by_test (ltb most_runs (length services)) (λ e. absurd (other over_limit (λ z. omega arith) (rw e at h)))
    (λ few. by_test (covers services lengths ps)
    (λ c. by_test (ordered services lengths ps)
    (λ o. by_test (unsplit services lengths ps)
    (λ u. by_test (limits services lengths ps)
    (λ l. absurd (other (accepted []) (λ z. omega arith) (rw (few, c, o, u, l) at h)))
    (λ l. absurd (other over_limit (λ z. omega arith) (rw (few, c, o, u, l) at h))))
    (λ u. absurd (other run_split (λ z. omega arith) (rw (few, c, o, u) at h))))
    (λ o. (c, o)))
    (λ c. absurd (other bad_cover (λ z. omega arith) (rw (few, c) at h))))
  where
    other : (why : Said) → (why.number ≡ 24 → ⊥) → why ≡ out_of_order → ⊥
    other why not e = not (ap (λ (a : Said). a.number) e)

-- Within the limits, a proposal is refused with 24 only if some service would hear some bytes in another order.
pub refused_misheard : (services lengths : List ℕ) (ps : List Piece) → check_proposal services lengths ps ≡ out_of_order → limits services lengths ps ≡ true
    → Misheard services lengths ps
refused_misheard services lengths ps h l = let f = order_refused services lengths ps h in disorder_misheard services lengths ps f.0 l f.1
