-- The first-come packer's proposal carried out by pushing: the pieces so far describe the packet that the packer has, with the runs' bytes in place of
-- zeros, so that each piece's packet takes its bytes as the packer's own took the zeros. Assumes nothing.
use mathlib.Core.Path.{◌≡◌, refl, sym, ap, ◌∙◌}
use mathlib.Core.Bool.{true}
use mathlib.Core.List.{List, [], ◌∷◌, ◌++◌, map}
use Prim.Native.Nat.{ℕ, zero, suc, ◌+◌, ◌≤◌, ◌<◌}
use native.Mathlib.Omega.{arith}
use lib.ListN.{length, get_or, length-map}
use Rattle.model.specs.Said.{Outcome, gave, refused, mapped}
use Rattle.model.specs.Block.{Block}
use Rattle.model.specs.Packet.{Packet, latest, push_run}
use Rattle.model.proofs.Cases.{gives_at}
use Rattle.model.proofs.Limits.{few_blocks}
use Rattle.model_packing.specs.Pieces.{Piece, service_of, count_from, In}
use Rattle.model_packing.specs.Proposals.{zeros, blocks_in}
use Rattle.model_packing.specs.FirstCome.{place_or0, first_come, packable}
use Rattle.model_packing.proofs.Lists.{in_map, in_count}
use Rattle.model_packing.proofs.Blanks.{blanks, blanked, blank_block, map_more, latest_blanked, pushed_blank}
use Rattle.model_packing.proofs.Taking.{Took, push_takes}
use Rattle.model_packing.proofs.Filling.{Placing, into_same, into_next, packed_to, piece_of, pieces_to, first_come_pieces, bounded, placing_from, placed_from}
use Rattle.model_packing.proofs.Growing.{Describe, described, none_described, others_same, others_stay, one_grows}

-- an outcome that a map makes into a value gives one that it is made of
given_back : {A B : Type 0} (f : A → B) (o : Outcome A) (y : B) → mapped f o ≡ gave y → (x : A) × (o ≡ gave x) × (f x ≡ y)
given_back f (gave x) y e = (x, refl, cc)
given_back f (refused why) y e = let z : ◌≡◌ {A = ℕ} 0 1 = cc in absurd (omega arith)

-- one number more
count_more : (a n : ℕ) → count_from a (suc n) ≡ count_from a n ++ ((a + n) ∷ [])
unfolding count_from
count_more a zero = let e : a + 0 ≡ a = omega arith in rw e
count_more a (suc n) = let e : suc a + n ≡ a + suc n = omega arith in ap (λ (l : List ℕ). a ∷ l) (rw (← e) (count_more (suc a) n))

-- one piece more
pub pieces_more : (services lengths : List ℕ) (i : ℕ) → pieces_to services lengths (suc i) ≡ pieces_to services lengths i ++ (piece_of services lengths i ∷ [])
pieces_more services lengths i =
    let z : 0 + i ≡ i = omega arith in
    ap (map (piece_of services lengths)) (rw z at (count_more 0 i)) ∙ map_more (piece_of services lengths) (count_from 0 i) i

-- The pieces of the first i runs describe what the packer then has, and no packet behind it.
record Carried (services lengths : List ℕ) (fill : Piece → List ℕ) (i : ℕ) : Type 0 where
  now : List Block
  here : Describe services fill (pieces_to services lengths i) (packed_to services lengths i).before now
  alike : blanked (record { sequence = 0; blocks = now }) ≡ (packed_to services lengths i).packet
  later : (p : ℕ) → (packed_to services lengths i).before < p → Describe services fill (pieces_to services lengths i) p []

-- The push of run i: the packet that its piece names takes it, as the pieces before it and those with it describe that packet.
record Pushed (services lengths : List ℕ) (fill : Piece → List ℕ) (i n : ℕ) : Type 0 where
  old : List Block
  new : List Block
  was : Describe services fill (pieces_to services lengths i) (piece_of services lengths i).packet old
  is : Describe services fill (pieces_to services lengths (suc i)) (piece_of services lengths i).packet new
  push : push_run (service_of services i) (fill (piece_of services lengths i)) (record { sequence = n; blocks = old }) ≡ gave (record { sequence = n; blocks = new })
  alike : blanked (record { sequence = 0; blocks = new }) ≡ (packed_to services lengths (suc i)).packet
  few_old : length old ≤ 63
  few_new : length new ≤ 63

module _ (services lengths : List ℕ) (ok : packable services lengths ≡ true) (fill : Piece → List ℕ)
    (long : (r : ℕ) → r < length services → length (fill (piece_of services lengths r)) ≡ get_or lengths r 0) where
  -- blocks that are those of a state but for their bytes are not more than 63
  few_alike : (i : ℕ) → i ≤ length services → (bs : List Block) → blanked (record { sequence = 0; blocks = bs }) ≡ (packed_to services lengths i).packet → length bs ≤ 63
  few_alike i h bs e =
      let l : length (blanks bs) ≡ length bs = length-map bs blank_block in
      omega (arith, ap (λ (p : Packet). length p.blocks) e, few_blocks (packed_to services lengths i).packet (bounded services lengths ok i h).valid)

  module _ (i n : ℕ) (h : i < length services) (old : List Block) (few : length old ≤ 63)
      (was : Describe services fill (pieces_to services lengths i) (piece_of services lengths i).packet old)
      (took : push_run (service_of services i) (zeros (get_or lengths i 0)) (blanked (record { sequence = 0; blocks = old })) ≡ gave (packed_to services lengths (suc i)).packet) where
    -- the packet that takes zeros takes the run
    given_as : (x : Packet) × (push_run (service_of services i) (fill (piece_of services lengths i)) (record { sequence = n; blocks = old }) ≡ gave x)
        × (blanked x ≡ (packed_to services lengths (suc i)).packet)
    given_as =
        given_back blanked _ _ (pushed_blank (service_of services i) (fill (piece_of services lengths i)) (record { sequence = n; blocks = old }) ∙ rw (long i h) took)

    module _ (x : Packet) (gives : push_run (service_of services i) (fill (piece_of services lengths i)) (record { sequence = n; blocks = old }) ≡ gave x)
        (alike : blanked x ≡ (packed_to services lengths (suc i)).packet) where
      -- and so it is taken,
      took_run : Took (service_of services i) (fill (piece_of services lengths i)) (record { sequence = n; blocks = old }) x
      took_run =
          let s : ℕ = service_of services i in
          let run : List ℕ = fill (piece_of services lengths i) in
          let p : Packet = record { sequence = n; blocks = old } in
          gives_at (Took s run p) (push_run s run p) gives (push_takes s run p)

      -- at the place that its piece names,
      place_named : (piece_of services lengths i).block ≡ took_run.place
      place_named =
          let s : ℕ = service_of services i in
          ap place_or0 (ap (latest s) (sym alike) ∙ latest_blanked s x ∙ took_run.found)

      -- so that the pieces with it describe what comes of that
      describes : Describe services fill (pieces_to services lengths (suc i)) (piece_of services lengths i).packet x.blocks
      describes b =
          let q : Piece = piece_of services lengths i in
          let grows = one_grows services fill (pieces_to services lengths i) q b in
          rw (pieces_more services lengths i) (grows ∙ rw (was b) (sym (rw (← place_named) at (took_run.blocks b))))

      -- as the push of the run
      pushed_by : Pushed services lengths fill i n
      pushed_by =
          record {
            old = old;
            new = x.blocks;
            was = was;
            is = describes;
            push = gives ∙ ap (λ (m : ℕ). gave (record { sequence = m; blocks = x.blocks })) took_run.sequence;
            alike = alike;
            few_old = few;
            few_new = few_alike (suc i) h x.blocks alike;
          }

    -- what takes zeros takes a run
    pushed_from : Pushed services lengths fill i n
    pushed_from = let x = given_as in pushed_by x.0 x.1 x.2

  -- the packet that takes run i is the one that is being filled, or one without blocks that no piece is in
  pushed_next : (i n : ℕ) → i < length services → Carried services lengths fill i → Pushed services lengths fill i n
  pushed_next i n h c = by_placing (placing_from services lengths ok i h)
    where
      by_placing : Placing (service_of services i) (zeros (get_or lengths i 0)) (packed_to services lengths i) (packed_to services lengths (suc i)) → Pushed services lengths fill i n
      by_placing (into_same b e) = pushed_from i n h c.now (few_alike i (omega arith) c.now c.alike) (rw b c.here) (rw c.alike e)
      by_placing (into_next b r e) = pushed_from i n h [] (omega arith) (c.later (piece_of services lengths i).packet (omega arith)) e

  -- the packets that its piece does not name stay
  others_next : (i p : ℕ) → ((piece_of services lengths i).packet ≡ p → ⊥) → (bs : List Block)
      → Describe services fill (pieces_to services lengths i) p bs → Describe services fill (pieces_to services lengths (suc i)) p bs
  others_next i p h bs d = rw (pieces_more services lengths i) (others_stay services fill (pieces_to services lengths i) (piece_of services lengths i) p h bs d)

  -- and so it goes on
  carried_next : (i : ℕ) → i < length services → Carried services lengths fill i → Carried services lengths fill (suc i)
  carried_next i h c =
      let s = pushed_next i 0 h c in
      let k = placed_from services lengths ok i h in
      record {
        now = s.new;
        here = s.is;
        alike = s.alike;
        later = λ p g. others_next i p (λ e. omega arith) [] (c.later p (omega arith));
      }

  -- no piece, no block
  carried_first : Carried services lengths fill 0
  unfolding packed_to count_from
  carried_first = record { now = []; here = none_described services fill 0; alike = refl; later = λ p g. none_described services fill p }

  -- all the way
  carried : (i : ℕ) → i ≤ length services → Carried services lengths fill i
  carried zero h = carried_first
  carried (suc i) h = carried_next i h (carried i (omega arith))

  -- so each push of a run gives what the pieces with it describe
  pub run_pushed : (i n : ℕ) → i < length services
      → push_run (service_of services i) (fill (piece_of services lengths i)) (record { sequence = n; blocks = blocks_in services fill (pieces_to services lengths i) (piece_of services lengths i).packet })
      ≡ gave (record { sequence = n; blocks = blocks_in services fill (pieces_to services lengths (suc i)) (piece_of services lengths i).packet })
  run_pushed i n h =
      let s = pushed_next i n h (carried i (omega arith)) in
      rw (described services fill _ _ s.old s.was (omega (arith, s.few_old)), described services fill _ _ s.new s.is (omega (arith, s.few_new))) s.push

-- a list of what is made of numbers in their order, cut before one of them
cut_counted : {A : Type 0} (f : ℕ → A) (a n : ℕ) (ps : List A) (q : A) (qs : List A) → map f (count_from a n) ≡ ps ++ (q ∷ qs)
    → (ps ≡ map f (count_from a (length ps))) × (q ≡ f (a + length ps)) × (length ps < n)
unfolding count_from
cut_counted f a zero [] q qs e = let z : ◌≡◌ {A = ℕ} 0 1 = cc in absurd (omega arith)
cut_counted f a zero (p ∷ ps) q qs e = let z : ◌≡◌ {A = ℕ} 0 1 = cc in absurd (omega arith)
cut_counted f a (suc n) [] q qs e = let z : a + 0 ≡ a = omega arith in (refl, rw z (cc), omega arith)
cut_counted f a (suc n) (p ∷ ps) q qs e =
    let t = cut_counted f (suc a) n ps q qs (cc) in
    let z : suc a + length ps ≡ a + suc (length ps) = omega arith in
    (cc t.0, t.1 ∙ ap f z, omega (arith, t.2))

-- A proposal is carried out by pushing the bytes of its pieces in their order, whatever the packets' sequence numbers are.
pub record CarriedOut (services : List ℕ) (fill : Piece → List ℕ) (proposal : List Piece) : Type 0 where
  -- no packet has a block at first;
  pub begins : (p : ℕ) → blocks_in services fill [] p ≡ []
  -- the packet that a piece names takes its bytes, and then has the blocks that the pieces so far describe;
  pub taken : (ps : List Piece) (q : Piece) (qs : List Piece) → proposal ≡ ps ++ (q ∷ qs) → (n : ℕ)
      → push_run (service_of services q.run) (fill q) (record { sequence = n; blocks = blocks_in services fill ps q.packet })
      ≡ gave (record { sequence = n; blocks = blocks_in services fill (ps ++ (q ∷ [])) q.packet })
  -- and so do the other packets, which stay as they are
  pub others : (ps : List Piece) (q : Piece) (qs : List Piece) → proposal ≡ ps ++ (q ∷ qs) → (p : ℕ) → (q.packet ≡ p → ⊥)
      → blocks_in services fill (ps ++ (q ∷ [])) p ≡ blocks_in services fill ps p

-- What the first-come packer proposes is carried out by pushing, whatever the bytes of the runs are.
pub pushed_as_proposed : (services lengths : List ℕ) → packable services lengths ≡ true → (fill : Piece → List ℕ)
    → ((q : Piece) → In q (first_come services lengths) → length (fill q) ≡ q.size) → CarriedOut services fill (first_come services lengths)
pushed_as_proposed services lengths ok fill long =
    record {
      begins = λ p. described services fill [] p [] (none_described services fill p) (omega arith);
      taken = λ ps q qs e n.
          let t = cut_counted (piece_of services lengths) 0 (length services) ps q qs (sym all ∙ e) in
          let z : 0 + length ps ≡ length ps = omega arith in
          rw (t.0, t.1, z, ← pieces_more services lengths (length ps)) (run_pushed services lengths ok fill sized (length ps) n t.2);
      others = λ ps q qs e p h. others_same services fill ps q p h;
    }
  where
    all : first_come services lengths ≡ pieces_to services lengths (length services)
    all = first_come_pieces services lengths

    sized : (r : ℕ) → r < length services → length (fill (piece_of services lengths r)) ≡ get_or lengths r 0
    sized r h =
        long (piece_of services lengths r)
        (rw all (in_map (piece_of services lengths) (count_from 0 (length services)) (in_count r 0 (length services) (omega arith) (omega arith))))
