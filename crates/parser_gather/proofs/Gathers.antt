-- Laws of gathering, one for each way out of a function. Assumes nothing.
use mathlib.Core.Path.{◌≡◌, refl, sym, ap, ◌∙◌}
use mathlib.Core.List.{List, [], ◌∷◌, ◌++◌, append_assoc, append-nil}
use mathlib.Core.Bool.{Bool, true, false, cond, ◌&&◌, true≢false}
use Prim.Native.Nat.{ℕ, suc, ◌+◌, ◌-◌, ◌*◌, ◌%◌, ◌≤◌, ◌<◌}
use native.Mathlib.Omega.{arith}
use lib.ListN.{length, get_or, set, take, drop, replicate, length-append, get_or-append}
use lib.Seq.{sets, length-sets, take_all, get_or-take, length-take-le}
use lib.Dec.{eqb, ltb}
use borrow.Author.Tests.{eq-eqb, ne_eqb, eqb-true, eqb-false, ltb-true, ltb-false}
use Rattle.model.specs.Frame.{tri, Seen, first, second, start, more, void608, void708, seen}
use Rattle.model.specs.Packet.{packet_size, reads}
use Rattle.model.specs.Demux.{Gathered, kept, wants, delivered, gather, ended}
use Rattle.model.proofs.Cases.{by_test, by_cond, both}
use Rattle.model.proofs.Limits.{size_most}
use Rattle.model.proofs.DemuxStates.{Gathering, size_even, size_least, gathering_more, gathering_start}
use Rattle.slots.specs.Slot.{slot_with}
use Rattle.slots.specs.declared.Slot.{Slot}
use Rattle.parser_triples.specs.Walk.{seen_from}
use Rattle.parser_triples.proofs.Walks.{seen_next, seen_none, sees_void, sees_608, sees_more, sees_start}
use Rattle.parser_rings.specs.Ring.{set_round, cleared_for, with_runs}
use Rattle.parser_gather.specs.Tests.{pending_fine}
use Rattle.parser_gather.specs.Gather.{Left, left_of, triple_at, Held, held_by, put_two, Holds, Sized, put, closes_by, kept_slots}
use Rattle.parser_gather.specs.declared.Run.{Run}
use Rattle.parser_gather.specs.declared.Triple.{Triple}
use Rattle.parser_rings.proofs.Places.{sets_append, take_sets, zeros}

-- what bytes want: none before a start,
wants_none : (g : List ℕ) → length g ≡ 0 → wants g ≡ 0
unfolding wants
wants_none g e = simp (eq-eqb _ _ e)

-- else what their size lacks
wants_some : (g : List ℕ) → 1 ≤ length g → wants g ≡ packet_size (get_or g 0 0) - length g
unfolding wants
wants_some g h = simp (ne_eqb (length g) 0 (λ e. omega arith))

-- so that two are wanted if any are
module _ (g : List ℕ) (some : wants g ≡ 0 → ⊥) where
  wants_filled : 1 ≤ length g
  wants_filled = by_test (eqb (length g) 0) (λ e. absurd (some (wants_none g (eqb-true _ _ e)))) (λ e. omega (arith, eqb-false (length g) 0 e))

  wants_two : length g % 2 ≡ 0 → 2 ≤ wants g
  wants_two e = omega (arith, some, wants_some g wants_filled, size_even (get_or g 0 0))

-- bytes that are held
module _ {h : Held} {g : List ℕ} (v : Holds h g) where
  -- they are those of the model
  gathers : Gathering g
  gathers = record { even = v.even; most = v.most }

  -- at most 128
  held_few : length g ≤ 128
  held_few = omega (arith, v.most, size_most (get_or g 0 0))

  -- they stand first
  held_run : take h.len h.bytes ≡ g
  held_run = rw (v.size, v.laid) (take_sets (replicate 128 0) g (omega (arith, held_few, zeros)))

  -- among 128 places
  pub held_places : (h.len ≤ 128) × (length h.bytes ≡ 128)
  held_places = (omega (arith, v.size, held_few), rw v.laid (length-sets (replicate 128 0) 0 g ∙ zeros))

  -- a slot of them
  held_slot : record { len = h.len; bytes = h.bytes } ≡ slot_with (length g) g
  held_slot = rw (v.size, v.laid)

-- two bytes more
module _ (x y : ℕ) where
  -- none are wanted
  pub two_none : (s : Run) (l : List ℕ) → s.need ≡ 0 → held_by s l ≡ put_two x y (held_by s l)
  unfolding put_two
  two_none s l e = simp (eq-eqb _ _ e)

  -- some are
  pub two_more : (n k : ℕ) (l : List ℕ) → (n ≡ 0 → ⊥)
      → record { need = n - 2; len = k + 2; bytes = set (set l k x) (k + 1) y } ≡ put_two x y (record { need = n; len = k; bytes = l })
  unfolding put_two
  two_more n k l e = simp (ne_eqb _ _ e)

  -- they are held behind those that were
  module _ (h : Held) (g : List ℕ) (v : Holds h g) where
    held_none : h.need ≡ 0 → Holds (put_two x y h) (g ++ take (wants g) (x ∷ y ∷ []))
    unfolding put_two
    held_none e = let z : wants g ≡ 0 = sym v.need ∙ e in rw (eq-eqb h.need 0 e, z, append-nil g) v

    held_some : (h.need ≡ 0 → ⊥) → Holds (put_two x y h) (g ++ take (wants g) (x ∷ y ∷ []))
    held_some e =
        let some : wants g ≡ 0 → ⊥ = λ z. e (v.need ∙ z) in
        let one : 1 ≤ length g = wants_filled g some in
        let t : take (wants g) (x ∷ y ∷ []) ≡ x ∷ y ∷ [] = take_all (wants g) (x ∷ y ∷ []) (wants_two g some v.even) in
        let w : length (g ++ x ∷ y ∷ []) ≡ length g + 2 = length-append g (x ∷ y ∷ []) in
        let d : get_or (g ++ x ∷ y ∷ []) 0 0 ≡ get_or g 0 0 = get_or-append g (x ∷ y ∷ []) 0 0 one in
        let u : wants (g ++ x ∷ y ∷ []) ≡ packet_size (get_or g 0 0) - (length g + 2) = wants_some (g ++ x ∷ y ∷ []) (omega arith) ∙ rw (d, w) in
        let a : h.len ≡ 0 + length g = omega (arith, v.size) in
        let b : 0 + length g + 1 ≡ suc (0 + length g) = omega arith in
        let m : Gathering (g ++ x ∷ y ∷ []) = rw t at (gathering_more g x y (gathers v)) in
        rw (← two_more h.need h.len h.bytes e, t)
        (record {
          size = omega (arith, v.size);
          laid = rw (v.laid, a, b) (sym (sets_append (replicate 128 0) 0 g (x ∷ y ∷ [])));
          need = omega (arith, v.need, wants_some g one);
          even = m.even;
          most = m.most;
        })

    pub held_more : Holds (put_two x y h) (g ++ take (wants g) (x ∷ y ∷ []))
    held_more = by_test (eqb h.need 0) (λ e. held_none (eqb-true _ _ e)) (λ e. held_some (eqb-false _ _ e))

  -- the first of a new packet
  begun : (z : ℕ) → z ≡ packet_size x → Holds (put_two x y (record { need = z; len = 0; bytes = replicate 128 0 })) (take (packet_size x) (x ∷ y ∷ []))
  begun z e =
      let some : z ≡ 0 → ⊥ = λ o. omega (arith, size_least x) in
      let t : take (packet_size x) (x ∷ y ∷ []) ≡ x ∷ y ∷ [] = take_all (packet_size x) (x ∷ y ∷ []) (size_least x) in
      let m : Gathering (x ∷ y ∷ []) = rw t at (gathering_start x y) in
      rw (← two_more z 0 (replicate 128 0) some, t) (record { size = refl; laid = refl; need = rw e (sym (wants_some (x ∷ y ∷ []) (omega arith))); even = refl; most = m.most })

  -- it has room
  pub sized_start : (z : ℕ) → z ≡ packet_size x → Sized (record { need = z; len = 0 })
  sized_start z e = record { even = omega (arith, size_even x); room = omega (arith, size_most x) }

  -- one triple
  module _ (c : ℕ) where
    -- a triple that is not of a packet, or not valid
    pub put_none : (h : Held) → c % 8 < 6 → (g : List ℕ) → Holds h g → Holds h (put (seen (tri c x y)) g)
    put_none h k g v =
        by_test (ltb (c % 8) 4)
        (λ e. sees_void c x y (λ t. Holds h (put t g)) (ltb-true _ _ e) v v)
        (λ e. sees_608 c x y (λ t. Holds h (put t g)) (ltb-false _ _ e) k v v)

    -- more of the packet
    pub put_more : (h r : Held) → c % 8 ≡ 6 → r ≡ put_two x y h → (g : List ℕ) → Holds h g → Holds r (put (seen (tri c x y)) g)
    put_more h r e q g v = sees_more c x y (λ t. Holds r (put t g)) e (rw q (held_more h g v))

    -- the first of a new one
    pub put_start : (h r : Held) (z : ℕ) → 6 ≤ c % 8 → (c % 8 ≡ 6 → ⊥) → z ≡ packet_size x → r ≡ put_two x y (record { need = z; len = 0; bytes = replicate 128 0 })
        → (g : List ℕ) → Holds h g → Holds r (put (seen (tri c x y)) g)
    put_start h r z u v e q g w = sees_start c x y (λ t. Holds r (put t g)) (omega arith) (rw q (begun z e))

-- the pending bytes
module _ (n : ℕ) (l : List ℕ) (fine : pending_fine n l ≡ true) where
  -- none
  pub pending_none : (k : List ℕ) → k ≡ replicate 128 0 → n ≡ 0 → Holds (record { need = 0; len = n; bytes = k }) (take n l)
  pending_none k e z = rw z (record { size = refl; laid = e; need = sym (wants_none [] refl); even = refl; most = omega arith })

  -- some
  module _ (some : n ≡ 0 → ⊥) where
    -- the test, taken apart
    tested : (eqb (n % 2) 0 ≡ true) × (ltb n (packet_size (get_or l 0 0)) ≡ true)
    unfolding pending_fine
    tested = both _ _ (rw (ne_eqb n 0 some) at fine)

    even : n % 2 ≡ 0
    even = eqb-true _ _ tested.0

    below : n < packet_size (get_or l 0 0)
    below = ltb-true _ _ tested.1

    -- they are among 128
    pub pending_few : n ≤ 128
    pending_few = omega (arith, below, size_most (get_or l 0 0))

    -- more than there are are wanted
    module _ (z : ℕ) (sized : z ≡ packet_size (get_or l 0 0)) where
      pub pending_fits : n ≤ z
      pending_fits = omega (arith, below)

      pub pending_some : length l ≡ 128 → (m k : List ℕ) → k ≡ replicate 128 0 → m ≡ sets k 0 (take (n - 0) (drop 0 l)) → Holds (record { need = z - n; len = n; bytes = m }) (take n l)
      pending_some long m k e q =
          let o : n - 0 ≡ n = omega arith in
          let many : length (take n l) ≡ n = length-take-le n l (omega (arith, pending_few)) in
          let d : get_or (take n l) 0 0 ≡ get_or l 0 0 = get_or-take n l 0 0 (omega (arith, some)) in
          let s : packet_size (get_or (take n l) 0 0) ≡ packet_size (get_or l 0 0) = ap packet_size d in
          record {
            size = sym many;
            laid = rw (e, o) at q;
            need = sym (wants_some (take n l) (omega (arith, many, some)) ∙ rw (d, many, sized));
            even = rw many even;
            most = omega (arith, many, s, below);
          }

      pub pending_sized : Sized (record { need = z - n; len = n })
      pending_sized = record { even = omega (arith, even, below, size_even (get_or l 0 0)); room = omega (arith, below, size_most (get_or l 0 0)) }

-- none have room
pub sized_none : (n : ℕ) → n ≡ 0 → Sized (record { need = 0; len = n })
sized_none n e = record { even = refl; room = omega arith }

-- closing
module _ (c : ℕ) (g : List ℕ) where
  -- no other triple closes
  pub closes_not : c % 8 < 7 → (x y : ℕ) → false ≡ closes_by (seen (tri c x y)) g
  unfolding closes_by
  closes_not k x y =
      by_test (ltb (c % 8) 4)
      (λ e. sees_void c x y P (ltb-true _ _ e) refl refl)
      (λ e. by_test (ltb (c % 8) 6)
      (λ d. sees_608 c x y P (ltb-false _ _ e) (ltb-true _ _ d) refl refl)
      (λ d. sees_more c x y P (omega (arith, ltb-false (c % 8) 6 d)) refl))
    where
      P : Seen → Type 0
      P t = false ≡ closes_by t g

  -- a start does, if the bytes read
  pub closes_reads : (r : Bool) → 7 ≤ c % 8 → r ≡ reads g → (x y : ℕ) → r ≡ closes_by (seen (tri c x y)) g
  unfolding closes_by
  closes_reads r k e x y = sees_start c x y (λ t. r ≡ closes_by t g) (omega arith) e

module _ (n : ℕ) (g : List ℕ) where
  -- bytes are wanted
  pub completes_not : (n ≡ 0 → ⊥) → false ≡ (eqb n 0 && reads g)
  completes_not e = simp (ne_eqb _ _ e)

  -- none are wanted
  pub completes_reads : (r : Bool) → n ≡ 0 → r ≡ reads g → r ≡ (eqb n 0 && reads g)
  completes_reads r e q = simp (eq-eqb _ _ e, q)

-- what is left pending
module _ (n k : ℕ) where
  -- a complete packet
  pub left_none : n ≡ 0 → 0 ≡ cond (eqb n 0) 0 k
  left_none e = simp (eq-eqb _ _ e)

  -- an incomplete one
  pub left_some : (n ≡ 0 → ⊥) → k ≡ cond (eqb n 0) 0 k
  left_some e = simp (ne_eqb _ _ e)

  -- no more than are gathered
  pub left_most : (p : ℕ) → p ≡ cond (eqb n 0) 0 k → p ≤ k
  left_most p e = rw e (by_cond (λ m. m ≤ k) (eqb n 0) (λ _. omega arith) (λ _. omega arith))

-- the first of them, laid over places
pub laid_first : (p : ℕ) (m l k : List ℕ) → m ≡ sets l 0 (take (p - 0) (drop 0 k)) → m ≡ sets l 0 (take p k)
laid_first p m l k e = let z : p - 0 ≡ p = omega arith in rw z at e

-- one triple: what it closes is kept, and then its bytes are taken
gather_turn : (g : List ℕ) (t : Seen) (ts : List Seen) → gather g (t ∷ ts) ≡ delivered (cond (closes_by t g) (g ∷ []) []) (gather (put t g) ts)
unfolding gather closes_by kept
gather_turn g (start x y) ts = refl
gather_turn g (more x y) ts = refl
gather_turn g (first x y) ts = refl
gather_turn g (second x y) ts = refl
gather_turn g void608 ts = refl
gather_turn g void708 ts = refl

-- runs before those of a frame that ends
ended_delivered : (gs : List (List ℕ)) (o : Gathered) → ended (delivered gs o) ≡ delivered gs (ended o)
unfolding ended
ended_delivered gs o = by_test (eqb (wants o.bytes) 0) (λ e. rw (e, append_assoc gs o.runs (kept o.bytes))) (λ e. rw e)

-- For the loop: what is held, and that `a`, which the whole frame leaves, is what is left of it leaves behind the slots that are there
pub record Going (a : Left) (f : ℕ) (l : List ℕ) (n : ℕ) (t : List Slot) (s : Run) (k : List ℕ) (ts : List Seen) : Type 0 where
  pub held : List ℕ
  pub holds : Holds (held_by s k) held
  pub rest : a ≡ left_of f n t l (ended (gather held ts))

-- runs behind one that was laid
with_more : (f n : ℕ) (u : List Slot) (gs : List (List ℕ)) → set_round (f + n + 1) u gs ≡ with_runs f (n + 1) u gs
unfolding with_runs set_round cleared_for
with_more f n u [] = refl
with_more f n u (g ∷ gs) =
    let w : f + n + 1 ≡ f + (n + 1) = omega arith in
    rw (w, ne_eqb (n + 1) 0 (λ z. omega arith))

-- `a` is what the whole frame leaves
module _ (f : ℕ) (l : List ℕ) (a : Left) (n : ℕ) (t : List Slot) where
  -- one run is a slot
  left_one : (g : List ℕ) (o : Gathered) → left_of f n t l (delivered (g ∷ []) o) ≡ left_of f (n + 1) (set (cleared_for n t) ((f + n) % 32) (slot_with (length g) g)) l o
  unfolding with_runs set_round
  left_one g o =
      let z : n + suc (length o.runs) ≡ n + 1 + length o.runs = omega arith in
      rw (z, with_more f n (set (cleared_for n t) ((f + n) % 32) (slot_with (length g) g)) o.runs)

  module _ (g : List ℕ) (s : Run) (k : List ℕ) (h : Holds (held_by s k) g) where
    -- a turn
    module _ (d : List ℕ) (i : ℕ) (more : 3 * i + 4 < length d) (w : Triple) (found : w ≡ triple_at i d) where
      abbrev here : Seen
      here = seen (tri w.kind w.x w.y)

      -- the triples that are left are this one and the others
      seen_here : seen_from i d ≡ here ∷ seen_from (i + 1) d
      seen_here = rw found (seen_next d i more)

      module _ (e : a ≡ left_of f n t l (ended (gather g (seen_from i d)))) where
        abbrev closing : List (List ℕ)
        closing = cond (closes_by here g) (g ∷ []) []

        turned : a ≡ left_of f n t l (delivered closing (ended (gather (put here g) (seen_from (i + 1) d))))
        turned = e ∙ rw (seen_here, gather_turn g here (seen_from (i + 1) d), ended_delivered closing (gather (put here g) (seen_from (i + 1) d)))

        module _ (b : Bool) (asked : (x y : ℕ) → b ≡ closes_by (seen (tri w.kind x y)) (take s.len k)) (u : List Slot) (m : ℕ) where
          closes_here : b ≡ closes_by here g
          closes_here = rw (held_run h) at (asked w.x w.y)

          -- it delivers
          pub turn_delivers : b ≡ true → u ≡ kept_slots f n t s.len k → m ≡ n + 1
              → a ≡ left_of f m u l (ended (gather (put here g) (seen_from (i + 1) d)))
          turn_delivers y p q = rw (p, q, held_slot h) ((rw (← closes_here, y) at turned) ∙ left_one g (ended (gather (put here g) (seen_from (i + 1) d))))

          -- it does not
          pub turn_keeps : b ≡ false → u ≡ t → m ≡ n → a ≡ left_of f m u l (ended (gather (put here g) (seen_from (i + 1) d)))
          turn_keeps y p q = rw (p, q) (rw (← closes_here, y) at turned)

    -- the frame's end
    module _ (d : List ℕ) (i : ℕ) (done : length d ≤ 3 * i + 4) (e : a ≡ left_of f n t l (ended (gather g (seen_from i d)))) where
      at_end : a ≡ left_of f n t l (ended (record { runs = []; bytes = g }))
      unfolding gather
      at_end = rw (seen_none d i done) at e

      module _ (b : Bool) (asked : b ≡ (eqb s.need 0 && reads (take s.len k))) (p : ℕ) (left : p ≡ cond (eqb s.need 0) 0 s.len)
          (m : List ℕ) (over_places : m ≡ sets l 0 (take p k)) where
        -- they are complete
        module _ (z : wants g ≡ 0) where
          need_none : eqb s.need 0 ≡ true
          need_none = eq-eqb _ _ (h.need ∙ z)

          none_left : (p ≡ 0) × (m ≡ l)
          none_left = let o : p ≡ 0 = rw need_none at left in (o, rw o at over_places)

          whole : a ≡ left_of f n t l (record { runs = kept g; bytes = [] })
          unfolding ended
          whole = rw z at at_end

          test : b ≡ reads g
          test = rw (need_none, held_run h) at asked

        -- they are not
        module _ (z : wants g ≡ 0 → ⊥) where
          need_some : eqb s.need 0 ≡ false
          need_some = ne_eqb _ _ (λ o. z (sym h.need ∙ o))

          all_left : (p ≡ length g) × (m ≡ sets l 0 g)
          all_left = let o : p ≡ s.len = rw need_some at left in (o ∙ h.size, rw (o, held_run h) at over_places)

          part : a ≡ left_of f n t l (record { runs = []; bytes = g })
          unfolding ended
          part = rw (ne_eqb _ _ z) at at_end

        module _ (u : List Slot) (c : ℕ) where
          -- a slot behind the others, and no run more
          none_more : (r : List Slot) → left_of f (n + 1) r l (record { runs = []; bytes = [] }) ≡ record { pending = 0; bytes = l; count = n + 1; slots = r }
          unfolding with_runs
          none_more r = let w : n + 1 + 0 ≡ n + 1 = omega arith in rw w

          -- it delivers
          pub end_delivers : b ≡ true → u ≡ kept_slots f n t s.len k → c ≡ n + 1 → record { pending = p; bytes = m; count = c; slots = u } ≡ a
          unfolding kept
          end_delivers y q v =
              by_test (eqb (wants g) 0)
              (λ o. let z : wants g ≡ 0 = eqb-true _ _ o in
              let r : reads g ≡ true = sym (test z) ∙ y in
              rw ((none_left z).0, (none_left z).1, q, v, held_slot h) (sym ((rw r at (whole z)) ∙ left_one g (record { runs = []; bytes = [] }) ∙ none_more _)))
              (λ o. let w : b ≡ false = rw (need_some (eqb-false _ _ o)) at asked in absurd (true≢false (sym y ∙ w)))

          -- it does not
          pub end_keeps : b ≡ false → u ≡ t → c ≡ n → record { pending = p; bytes = m; count = c; slots = u } ≡ a
          unfolding kept with_runs
          end_keeps y q v =
              let w : n + 0 ≡ n = omega arith in
              by_test (eqb (wants g) 0)
              (λ o. let z : wants g ≡ 0 = eqb-true _ _ o in
              let r : reads g ≡ false = sym (test z) ∙ y in
              rw ((none_left z).0, (none_left z).1, q, v) (sym (rw (r, w) at (whole z))))
              (λ o. let z : wants g ≡ 0 → ⊥ = eqb-false _ _ o in
              rw ((all_left z).0, (all_left z).1, q, v) (sym (rw w at (part z))))

-- the slots that packets come to, by whether any waits
module _ (n : ℕ) (t l : List Slot) where
  pub cleared_none : t ≡ replicate 32 (slot_with 0 []) → n ≡ 0 → t ≡ cleared_for n l
  unfolding cleared_for
  cleared_none e z = rw z e

  pub cleared_some : t ≡ l → (n ≡ 0 → ⊥) → t ≡ cleared_for n l
  unfolding cleared_for
  cleared_some e z = rw (ne_eqb n 0 z) e
