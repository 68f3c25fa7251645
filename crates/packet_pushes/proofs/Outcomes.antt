-- What the pushes answer, by each way out. Assumes nothing.
use mathlib.Core.Path.{◌≡◌, refl, sym, ap, ◌∙◌}
use mathlib.Core.Bool.{Bool, true, false, ◌&&◌}
use mathlib.Core.List.{List, [], ◌∷◌}
use mathlib.Core.Option.{Option, none, some}
use Prim.Native.Nat.{ℕ, zero, suc, ◌+◌, ◌-◌, ◌*◌, ◌≤◌, ◌<◌}
use native.Mathlib.Omega.{arith}
use lib.Dec.{eqb, ltb}
use lib.ListN.{length, take, get_or}
use borrow.Author.Tests.{eq-eqb, ne_eqb, lt-ltb, le-ltb, eqb-true}
use Rattle.caption.specs.declared.Refusal.{Refusal}
use Rattle.std.specs.Prelude.{Result, Ok, Err, Some, None}
use Rattle.std.specs.Prelude as found
use Rattle.caption.specs.Answers.{said_refusal}
use Rattle.model.specs.Said.{Outcome, gave, refused, mapped, bad_value, bad_number, bad_run, read_only, empty_service, would_overflow}
use Rattle.model.specs.Block.{block_length, block_room}
use Rattle.model.specs.Packet.{packet_room, block_at, push_block, push_new, push_at, push_run_at, push_run_by, latest_of, latest}
use Rattle.model.proofs.Cases.{by_test}
use Rattle.model.proofs.Blocks.{block_length_none}
use Rattle.service.specs.declared.Service.{Service}
use Rattle.service_headers.specs.Head.{length_for}
use Rattle.service.specs.Service.{block_of, valid_service}
use Rattle.service.proofs.Services.{valid_number, valid_len, valid_null, payload_length}
use Rattle.packet_entries.specs.Fields.{Fields, Arrays, Places, fields, arrays_of, packet_in, laid_over, block_from, valid_fields}
use Rattle.packet_entries.specs.Entries.{entries_of, entry_lengths, valid_entries}
use Rattle.packet_entries.specs.Extent.{Sized, latest_in}
use Rattle.packet_entries.specs.Extent as extent
use Rattle.packet_entries.proofs.Entries.{entries_length, no_lengths, entries_two, block_lengths, length_least, length_most, used_least, good_at}
use Rattle.packet_entries.proofs.Holds.{Within, blocks_count, tests_agree}
use Rattle.packet_entries.proofs.Walks.{latest_few}
use Rattle.packet_entries.proofs.Measures.{sized_within, sized_valid, sized_length}
use Rattle.packet_blocks.specs.Reading.{LaidIn}
use Rattle.packet_pushes.specs.Pushing.{Stores, Extends, RoomAt, pushed_new, pushed_at, pushed_block, pushed_run}
use Rattle.packet_pushes.proofs.Pushed.{size_held, number_held, append_as, before_within, extend_as}

-- a refusal leaves all places as they were; what is given is what they then hold
abbrev Refuses : (Fields → Outcome Fields) → Fields → Refusal → Type 0
Refuses push f why = Stores push f (Err why) (arrays_of f)

refuses : (push : Fields → Outcome Fields) (f : Fields) (why : Refusal) → push f ≡ refused (said_refusal why) → Refuses push f why
refuses push f why e = record { answer = rw e; places = rw e }

gives : (push : Fields → Outcome Fields) (f g : Fields) (k : ℕ) (a : Arrays) → push f ≡ gave g → g ≡ fields f.seq_no k a.numbers a.sizes a.payload → Stores push f (Ok k) a
gives push f g k a e q = record { answer = rw (e, q); places = rw (e, q) }

-- one push for another
pub same_stores : (push push' : Fields → Outcome Fields) (f : Fields) (r : Result ℕ Refusal) (x : Arrays) → push f ≡ push' f → Stores push' f r x → Stores push f r x
same_stores push push' f r x e a = record { answer = a.answer ∙ rw e; places = a.places ∙ rw e }

-- the place of the latest block, in the model's words
abbrev pub place_of : found.Option ℕ → Option ℕ
place_of (Some i) = some i
place_of None = none

-- it is the same in the packet that is held
module _ (p : Fields) (w : Within p) (places : Places p) (n : ℕ) where
  latest_up : (k : ℕ) → k ≤ p.count → latest_of n k (packet_in p).blocks ≡ place_of (latest_in k p.numbers n)
  unfolding latest_of latest_in
  latest_up zero h = refl
  latest_up (suc k) h =
      rw (number_held p w places k (omega arith))
      (by_test (eqb (get_or p.numbers k 0) n) (λ e. rw e) (λ e. rw e (latest_up k (omega arith))))

  pub latest_held : latest n (packet_in p) ≡ place_of (extent.latest_of p.count p.numbers n)
  latest_held = rw (blocks_count p, latest_few p.numbers n p.count w.count) (latest_up p.count (omega arith))

-- the place that is found is one of the blocks
latest_within : (k : ℕ) (ns : List ℕ) (n i : ℕ) → latest_in k ns n ≡ Some i → i < k
unfolding latest_in
latest_within zero ns n i e = let z : ◌≡◌ {A = ℕ} 0 1 = cc in absurd (omega arith)
latest_within (suc k) ns n i e =
    by_test (eqb (get_or ns k 0) n)
    (λ q. let f : ◌≡◌ {A = found.Option ℕ} (Some k) (Some i) = sym (rw q) ∙ e in let z : k ≡ i = cc in omega arith)
    (λ q. let f : latest_in k ns n ≡ Some i = sym (rw q) ∙ e in omega (arith, latest_within k ns n i f))

module _ (p : Fields) (n u : ℕ) (z : Sized p n u) where
  w : Within p
  w = sized_within p n u z

  abbrev l : ℕ
  l = entry_lengths (entries_of p)

  pub found_there : (m i : ℕ) (place : found.Option ℕ) → place ≡ extent.latest_of p.count p.numbers m → place ≡ Some i → i < p.count
  found_there m i place is q = latest_within p.count p.numbers m i (sym (latest_few p.numbers m p.count w.count) ∙ sym is ∙ q)

  -- what its blocks take
  taken : (2 * p.count ≤ l) × (u + p.count ≤ l)
  taken =
      let es = entries_of p in
      let c : length es ≡ p.count = entries_length p.count p.numbers p.sizes in
      (omega (arith, entries_two es w.good), omega (arith, used_least es w.good, z.used_is))

  -- what fits the packet's room fits its places
  room_left : (k : ℕ) → k ≤ 33 → k ≤ 128 - n → l + k ≤ 127
  room_left k small h =
      by_test (eqb p.count 0)
      (λ e. omega (arith, no_lengths p.count p.numbers p.sizes (eqb-true _ _ e)))
      (λ e. let m : n ≡ 1 + l = z.length_is ∙ rw e in omega (arith, w.lengths))

  -- a block of m bytes behind the others
  pub new_room : (number m k : ℕ) → 1 ≤ m → m ≤ 31 → k ≡ length_for number m → k ≤ 128 - n → p.count ≤ 62
  new_room number m k filled small e h =
      let few : k ≤ 33 = omega (arith, length_most number m) in
      let least : 1 + m ≤ k = omega (arith, length_least number m filled) in
      let fits = room_left k few h in
      omega (arith, taken.0)

  -- m bytes more in the block at place i
  pub at_room : (i m left : ℕ) → i < p.count → m ≤ 128 - n → left ≡ 31 - get_or p.sizes i 0 → m ≤ left → RoomAt p.sizes u i m
  at_room i m left there fits e h =
      let more = room_left m (omega arith) fits in
      let small = (good_at p.count i p.numbers p.sizes w.good there).small in
      record { there = omega (arith, w.count); before = before_within p n u z i there; bytes = omega (arith, taken.1); small = omega arith }

  module _ (places : Places p) where
    valid : valid_fields p ≡ true
    valid = sized_valid p n u z places.payload

    room_is : packet_room (packet_in p) ≡ 128 - n
    room_is = ap (λ k. 128 - k) (sized_length p n u z places.payload)

    -- a run as a new block
    module _ (number : ℕ) (run : List ℕ) where
      pub new_null : number ≡ 0 → (why : Refusal) → said_refusal why ≡ read_only → Refuses (pushed_new number run) p why
      unfolding pushed_new push_new
      new_null e why m = refuses _ p why (simp (eq-eqb number 0 e) (ap refused (sym m)))

      module _ (named : number ≡ 0 → ⊥) where
        pub new_long : 31 < length run → (why : Refusal) → said_refusal why ≡ would_overflow (length run - 31) → Refuses (pushed_new number run) p why
        unfolding pushed_new push_new
        new_long h why m = refuses _ p why (simp (ne_eqb number 0 named, lt-ltb _ _ h) (ap refused (sym m)))

        module _ (some : 1 ≤ length run) (small : length run ≤ 31) (k : ℕ) (e : k ≡ length_for number (length run)) where
          length_is : block_length (block_from number run) ≡ k
          length_is = block_lengths number (length run) run some refl ∙ sym e

          pub new_over : 128 - n < k → (why : Refusal) → said_refusal why ≡ would_overflow (k - (128 - n)) → Refuses (pushed_new number run) p why
          unfolding pushed_new push_new
          new_over h why m = refuses _ p why (simp (ne_eqb number 0 named, le-ltb _ _ small, length_is, room_is, lt-ltb _ _ h) (ap refused (sym m)))

          pub new_fits : k ≤ 128 - n → (x : Arrays) → LaidIn (block_from number run ∷ []) (record { count = p.count; used = u }) (arrays_of p) x
              → Stores (pushed_new number run) p (Ok (p.count + 1)) x
          unfolding pushed_new push_new
          new_fits h x a =
              gives _ p _ _ x (simp (ne_eqb number 0 named, le-ltb _ _ small, length_is, room_is, le-ltb _ _ h)) (append_as p n u z places number run x a)

    -- a run to the block at place i
    module _ (i : ℕ) (there : i < p.count) (run : List ℕ) where
      block_room_at : block_room (block_at (packet_in p) i) ≡ 31 - get_or p.sizes i 0
      block_room_at = ap (λ k. 31 - k) (size_held p w places i there)

      pub at_over : 128 - n < length run → (why : Refusal) → said_refusal why ≡ would_overflow (length run - (128 - n)) → Refuses (pushed_at i run) p why
      unfolding pushed_at push_at
      at_over h why m = refuses _ p why (simp (room_is, lt-ltb _ _ h) (ap refused (sym m)))

      module _ (fits : length run ≤ 128 - n) (left : ℕ) (e : left ≡ 31 - get_or p.sizes i 0) where
        pub at_full : left < length run → (why : Refusal) → said_refusal why ≡ would_overflow (length run - left) → Refuses (pushed_at i run) p why
        unfolding pushed_at push_at
        at_full h why m = refuses _ p why (simp (room_is, le-ltb _ _ fits, block_room_at, ← e, lt-ltb _ _ h) (ap refused (sym m)))

        pub at_fits : length run ≤ left → (s₁ d₁ : List ℕ) → Extends u i run p.sizes p.payload s₁ d₁
            → Stores (pushed_at i run) p (Ok p.count) (record { numbers = p.numbers; sizes = s₁; payload = d₁ })
        unfolding pushed_at push_at
        at_fits h s₁ d₁ a =
            gives _ p _ _ (record { numbers = p.numbers; sizes = s₁; payload = d₁ }) (simp (room_is, le-ltb _ _ fits, block_room_at, ← e, le-ltb _ _ h))
            (extend_as p n u z i there places run s₁ d₁ a)

    -- a run pushed to the packet, in the order of the refusals
    module _ (needs_room : Bool) (number : ℕ) (run : List ℕ) where
      pub run_number : 63 < number → (why : Refusal) → said_refusal why ≡ bad_number → Refuses (pushed_run needs_room number run) p why
      unfolding pushed_run push_run_by
      run_number h why m = refuses _ p why (rw valid (simp (lt-ltb _ _ h) (ap refused (sym m))))

      module _ (known : number ≤ 63) where
        pub run_empty : length run ≡ 0 → (why : Refusal) → said_refusal why ≡ bad_run → Refuses (pushed_run needs_room number run) p why
        unfolding pushed_run push_run_by
        run_empty e why m = refuses _ p why (rw valid (simp (le-ltb _ _ known, eq-eqb _ _ e) (ap refused (sym m))))

        module _ (some : length run ≡ 0 → ⊥) (place : found.Option ℕ) (is : place ≡ extent.latest_of p.count p.numbers number) where
          by_place : pushed_run needs_room number run p ≡ mapped (laid_over p) (push_run_at needs_room number run (packet_in p) (place_of place))
          unfolding pushed_run push_run_by
          by_place =
              let same : latest number (packet_in p) ≡ place_of place = latest_held p w places number ∙ ap place_of (sym is) in
              rw valid (simp (le-ltb _ _ known, ne_eqb _ _ some) (ap (λ o. mapped (laid_over p) (push_run_at needs_room number run (packet_in p) o)) same))

          pub run_none : place ≡ None → pushed_run needs_room number run p ≡ pushed_new number run p
          unfolding push_run_at pushed_new
          run_none q = by_place ∙ rw q

          module _ (i : ℕ) (q : place ≡ Some i) (there : i < p.count) (left : ℕ) (e : left ≡ 31 - get_or p.sizes i 0) (lacks : Bool)
              (a : lacks ≡ (needs_room && ltb left (length run))) where
            lacks_is : (needs_room && ltb (31 - length (block_at (packet_in p) i).payload) (length run)) ≡ lacks
            lacks_is = ap (λ k. needs_room && ltb k (length run)) (ap (λ k. 31 - k) (size_held p w places i there) ∙ sym e) ∙ sym a

            pub run_full : lacks ≡ true → pushed_run needs_room number run p ≡ pushed_new number run p
            unfolding push_run_at pushed_new
            run_full t = by_place ∙ rw (q, lacks_is, t)

            pub run_at : lacks ≡ false → pushed_run needs_room number run p ≡ pushed_at i run p
            unfolding push_run_at pushed_at
            run_at t = by_place ∙ rw (q, lacks_is, t)

    pub service_invalid : (s : Service) → valid_service s ≡ false → (why : Refusal) → said_refusal why ≡ bad_value → Refuses (pushed_block s) p why
    unfolding pushed_block
    service_invalid s e why m = refuses _ p why (rw (valid, e) (ap refused (sym m)))

    -- a block pushed: one without payload is refused, and any other is a run as a new block
    module _ (s : Service) (v : valid_service s ≡ true) (full : length s.payload ≡ 31) where
      payload_is : length (take s.len s.payload) ≡ s.len
      payload_is = payload_length s (valid_service s) refl full v

      pub block_empty : s.len ≡ 0 → (why : Refusal) → said_refusal why ≡ empty_service → Refuses (pushed_block s) p why
      unfolding pushed_block push_block
      block_empty e why m =
          let empty : length (block_of s).payload ≡ 0 = payload_is ∙ e in
          let fits : ltb (packet_room (packet_in p)) (block_length (block_of s)) ≡ false = rw (block_length_none (block_of s) empty) (le-ltb (packet_room (packet_in p)) 0 (omega arith)) in
          refuses _ p why (rw (valid, v) (simp (fits, eq-eqb _ _ empty) (ap refused (sym m))))

      pub block_new : (s.len ≡ 0 → ⊥) → pushed_block s p ≡ pushed_new s.number (take s.len s.payload) p
      unfolding pushed_block push_block pushed_new push_new
      block_new filled =
          let small : length (take s.len s.payload) ≤ 31 = omega (arith, payload_is, valid_len s v) in
          rw (valid, v) (simp (ne_eqb s.number 0 (λ q. filled (valid_null s full v q)), le-ltb 31 _ small, ne_eqb (length (take s.len s.payload)) 0 (λ q. filled (sym payload_is ∙ q))))

  -- its run is one that may be pushed
  pub block_run : (s : Service) → valid_service s ≡ true → length s.payload ≡ 31 → (s.len ≡ 0 → ⊥) → (1 ≤ length (take s.len s.payload)) × (s.number ≤ 63)
  block_run s v full filled = (omega (arith, payload_length s (valid_service s) refl full v, filled), valid_number s v)

-- a packet that breaks a limit is refused
module _ (p : Fields) (places : Places p) (fails : valid_entries p ≡ false) (why : Refusal) (m : said_refusal why ≡ bad_value) where
  bad : valid_fields p ≡ false
  bad = tests_agree p places.payload ∙ fails

  pub run_invalid : (needs_room : Bool) (number : ℕ) (run : List ℕ) → Refuses (pushed_run needs_room number run) p why
  unfolding pushed_run
  run_invalid needs_room number run = refuses _ p why (rw bad (ap refused (sym m)))

  pub block_invalid : (s : Service) → Refuses (pushed_block s) p why
  unfolding pushed_block
  block_invalid s = refuses _ p why (rw bad (ap refused (sym m)))
