-- In a proposal that passes its tests each run stands whole in a block: all its bytes, in their order, with no other byte between them. Assumes nothing.
use mathlib.Core.Path.{◌≡◌, refl, sym, ap, subst, ◌∙◌}
use mathlib.Core.Bool.{Bool}
use mathlib.Core.List.{List, [], ◌∷◌, ◌++◌, map, flat_map}
use Prim.Native.Nat.{ℕ, ◌<◌}
use native.Mathlib.Omega.{arith}
use lib.Dec.{ltb}
use lib.ListN.{length, get_or}
use borrow.Author.Tests.{eq-eqb, le-leb, ltb-true, ltb-false}
use Rattle.model.specs.Block.{Block}
use Rattle.model.proofs.Cases.{by_test, and_both}
use Rattle.model.proofs.Lists.{same_true}
use Rattle.model_packing.specs.Promises.{StandsWhole}
use Rattle.model_packing.specs.Pieces.{Piece, Byte, byte, count_from, run_bytes, bytes_of, service_of, those, In, here}
use Rattle.model_packing.specs.Proposals.{most_numbers, sent, block_sent_in, with_first, unsplit, lies_in, pieces_in, block_for, blocks_in, numbered}
use Rattle.model_packing.specs.FirstCome.{packable}
use Rattle.model_packing.specs.Carrying.{bytes_in, some_block, proposed_packets}
use Rattle.model_packing.proofs.Lists.{in_left, in_right, in_either, every_in, in_those, those_in, in_map, in_flat_map, flat_map_in, in_count, in_bytes, byte_within}
use Rattle.model_packing.proofs.Maps.{map_append, map_flat_map, flat_map_map, flat_map_same}
use Rattle.model_packing.proofs.Sorted.{Sorted, in_some, sorted_append, sorted_those, sorted_flat_map, sorted_same}
use Rattle.model_packing.proofs.Sending.{Listed, listed_from, listed_in, sent_at, block_listed, listed_block, lies_itself, block_facts, block_sorted, sending_order, in_sending, numbered_facts, held_by}
use Rattle.model_packing.proofs.Bytes.{Earlier, by_run, earlier_one_way, bytes_run, piece_bytes, in_piece, piece_in, bytes_sorted, number_at}
use Rattle.model_packing.proofs.Accepted.{Passes}
use Rattle.model_packing.proofs.Covered.{Covered, passes_covered}
use Rattle.model_packing.proofs.Spoken.{is_listed_of, sending_to, held_there, one_holder, sent_then, across}
use Rattle.model_packing.proofs.Heard.{block_of_one, piece_numbers, run_numbers}
use Rattle.model_packing.proofs.Filling.{run_some}

-- pieces make a block: its number is the service of one of them, and it has the bytes of all
pub block_made : (services : List ℕ) (fill : Piece → List ℕ) (qs : List Piece) {q : Piece} → In q qs
    → (b : Block) × In b (block_for services fill qs) × ((r : Piece) × In r qs × (b.number ≡ service_of services r.run)) × (b.payload ≡ flat_map fill qs)
unfolding block_for
block_made services fill [] {q = q} i = elim i [ ]
block_made services fill (r ∷ qs) i =
    (record { number = service_of services r.run; payload = flat_map fill (r ∷ qs) }, here refl, (r, here refl, refl), refl)

-- whether a byte is of a run before r,
abbrev is_before : ℕ → Byte → Bool
is_before r x = ltb x.run r

-- or of one behind it
abbrev is_behind : ℕ → Byte → Bool
is_behind r x = ltb r x.run

-- bytes in their order, among which are those of run r, all of them and no others of that run
module _ (lengths : List ℕ) (r : ℕ) (l : List Byte) (s : Sorted Earlier l) (all : (x : Byte) → In x (run_bytes lengths r) → In x l)
    (only : (x : Byte) → In x l → x.run ≡ r → In x (run_bytes lengths r)) where
  -- the run, and what is behind it,
  abbrev onward : List Byte
  onward = run_bytes lengths r ++ those (is_behind r) l

  -- with what is before it
  abbrev parts : List Byte
  parts = those (is_before r) l ++ onward

  -- the bytes before it,
  those_before : (x : Byte) → In x (those (is_before r) l) → In x l × (x.run < r)
  those_before x i = let f = those_in (is_before r) l i in (f.0, ltb-true x.run r f.1)

  -- its own,
  own : (x : Byte) → In x (run_bytes lengths r) → x.run ≡ r
  unfolding run_bytes
  own x i = bytes_run x r 0 (get_or lengths r 0) i

  -- and those behind it
  those_behind : (x : Byte) → In x (those (is_behind r) l) → In x l × (r < x.run)
  those_behind x i = let f = those_in (is_behind r) l i in (f.0, ltb-true r x.run f.1)

  -- are in their order,
  onward_sorted : Sorted Earlier onward
  unfolding run_bytes
  onward_sorted =
      sorted_append (bytes_sorted r 0 (get_or lengths r 0)) (sorted_those (is_behind r) s)
      (λ x y i j. by_run (omega (arith, own x i, (those_behind y j).1)))

  parts_sorted : Sorted Earlier parts
  parts_sorted =
      sorted_append (sorted_those (is_before r) s) onward_sorted
      (λ x y i j. in_either (run_bytes lengths r) (those (is_behind r) l) j
      (λ k. by_run (omega (arith, (those_before x i).1, own y k)))
      (λ k. by_run (omega (arith, (those_before x i).1, (those_behind y k).1))))

  -- all are among them,
  part_there : (x : Byte) → In x parts → In x l
  part_there x i =
      in_either (those (is_before r) l) onward i (λ j. (those_before x j).0)
      (λ j. in_either (run_bytes lengths r) (those (is_behind r) l) j (all x) (λ k. (those_behind x k).0))

  -- and there are no others
  in_part : (x : Byte) → In x l → In x parts
  in_part x i =
      by_test (is_before r x) (λ e. in_left (those (is_before r) l) onward (in_those (is_before r) l i e))
      (λ a. in_right (those (is_before r) l) onward
      (by_test (is_behind r x) (λ e. in_right (run_bytes lengths r) (those (is_behind r) l) (in_those (is_behind r) l i e))
      (λ b. in_left (run_bytes lengths r) (those (is_behind r) l) (only x i (omega (arith, ltb-false x.run r a, ltb-false r x.run b))))))

  -- so they are the bytes before the run, its own, and those behind it
  pub run_between : l ≡ parts
  run_between = sorted_same Earlier earlier_one_way l parts s parts_sorted in_part part_there

module _ (services : List ℕ) (runs : List (List ℕ)) (ps : List Piece) (ok : Passes services (map length runs) ps) where
  abbrev lengths : List ℕ
  lengths = map length runs

  -- what is known of it without the order
  abbrev covered : Covered services (map length runs) ps
  covered = passes_covered ok

  -- the bytes of the pieces of a block
  abbrev block_bytes : ℕ → ℕ → List Byte
  block_bytes p b = flat_map (λ (t : Listed). piece_bytes t.piece) (block_listed p b ps)

  -- a piece of a block is listed without its place too
  piece_there : (p b : ℕ) (t : Listed) → In t (block_listed p b ps) → In t.piece (pieces_in p b ps)
  piece_there p b t i = rw (listed_block p b ps) (in_map (λ (u : Listed). u.piece) (block_listed p b ps) i)

  -- it is sent to the service of the block,
  sent_to : (p b : ℕ) (t u : Listed) → In t (block_listed p b ps) → In u (block_listed p b ps) → In u (sending_to (service_of services t.piece.run) services ps)
  sent_to p b t u i j =
      let s : ℕ = service_of services t.piece.run in
      in_those (is_listed_of services s) (sending_order ps) (in_sending ps ok.one_byte (block_facts p b ps j).0)
      (eq-eqb _ _ (block_of_one services runs ps covered p b t.piece u.piece (piece_there p b t i) (piece_there p b u j)))

  -- so the bytes of a block are in their order
  block_bytes_sorted : (p b : ℕ) → Sorted Earlier (block_bytes p b)
  block_bytes_sorted p b =
      sorted_flat_map (λ (t : Listed). piece_bytes t.piece) (block_sorted p b ps)
      (λ t _. bytes_sorted t.piece.run t.piece.first t.piece.size)
      (λ t u x y first i j. across services lengths ps ok (service_of services t.piece.run) t u x y first (sent_to p b t t i i) (sent_to p b t u i j))

  -- its payload is the numbers of these bytes
  block_numbers : (p b : ℕ) → flat_map (bytes_in runs) (pieces_in p b ps) ≡ map (number_at runs) (block_bytes p b)
  block_numbers p b =
      ap (flat_map (bytes_in runs)) (listed_block p b ps)
      ∙ flat_map_map (bytes_in runs) (λ (t : Listed). t.piece) (block_listed p b ps)
      ∙ flat_map_same (λ (t : Listed). bytes_in runs t.piece) (λ (t : Listed). map (number_at runs) (piece_bytes t.piece)) (block_listed p b ps)
      (λ t i. piece_numbers services runs ps covered t.piece (listed_in 0 ps (block_facts p b ps i).0).1)
      ∙ sym (map_flat_map (number_at runs) (λ (t : Listed). piece_bytes t.piece) (block_listed p b ps))

  -- a byte of a piece of the list is in the piece's block
  in_block : (x : Byte) (t : Listed) → In t (listed_from 0 ps) → In x (piece_bytes t.piece) → In x (block_bytes t.piece.packet t.piece.block)
  in_block x t i j =
      let q : Piece = t.piece in
      in_flat_map (λ (u : Listed). piece_bytes u.piece) (block_listed q.packet q.block ps)
      (in_those (λ (u : Listed). lies_in q.packet q.block u.piece) (listed_from 0 ps) i (lies_itself q)) j

  -- the piece that a byte is in
  piece_of : (x : Byte) → In x (bytes_of services lengths) → (t : Listed) × In t (listed_from 0 ps) × In x (piece_bytes t.piece)
  piece_of x i =
      let h = held_by 0 ps x (omega (arith, one_holder services lengths ps covered x i)) in
      (h.0, h.1, in_piece x h.0.piece h.2)

  -- the block of a piece is one of its packet, and that is one of the proposal
  block_sent : (q : Piece) → In q ps → {c : Block} → In c (block_for services (bytes_in runs) (pieces_in q.packet q.block ps))
      → In c (blocks_in services (bytes_in runs) ps q.packet) × In (blocks_in services (bytes_in runs) ps q.packet) (proposed_packets services runs ps)
  unfolding proposed_packets blocks_in
  block_sent q i {c} j =
      let few = numbered_facts q (every_in numbered ps ok.one_byte i) in
      let fill : ℕ → List Block = blocks_in services (bytes_in runs) ps in
      let k : In c (fill q.packet) =
      in_flat_map (λ b. block_for services (bytes_in runs) (pieces_in q.packet b ps)) (count_from 0 most_numbers)
      (in_count q.block 0 most_numbers (omega arith) (omega (arith, few.1))) j in (
        k,
        in_those some_block (map fill (count_from 0 most_numbers))
            (in_map fill (count_from 0 most_numbers) (in_count q.packet 0 most_numbers (omega arith) (omega (arith, few.0))))
            (le-leb _ _ (in_some k)),
      )

  module _ (r : ℕ) (there_is : r < length services) where
    -- the run has a first byte
    first_there : In (byte r 0) (bytes_of services lengths)
    unfolding packable
    first_there =
        in_bytes services lengths (byte r 0) there_is
        (run_some services lengths (and_both _ _ (le-leb _ _ ok.few_runs) ok.each_fits) r there_is)

    -- the piece that this is in
    abbrev opening : Piece
    opening = (piece_of (byte r 0) first_there).0.piece

    -- all bytes of the run are in its block,
    run_in_block : (x : Byte) → In x (run_bytes lengths r) → In x (block_bytes opening.packet opening.block)
    unfolding bytes_of run_bytes unsplit with_first
    run_in_block x i =
        let here_too : In x (bytes_of services lengths) = in_flat_map (run_bytes lengths) (count_from 0 (length services)) (in_count r 0 (length services) (omega arith) (omega arith)) i in
        let f = piece_of (byte r 0) first_there in
        let g = piece_of x here_too in
        let one : block_sent_in ps x ≡ block_sent_in ps (byte r 0) =
        same_true _ _ (every_in (with_first ps) (bytes_of services lengths) ok.together here_too)
        ∙ ap (λ (n : ℕ). block_sent_in ps (byte n 0)) (bytes_run x r 0 (get_or lengths r 0) i) in
        let first_sent : sent ps (byte r 0) ≡ sent_at f.0 = sent_then services lengths ps covered (byte r 0) f.0 f.1 f.2 in
        let two = rw (sent_then services lengths ps covered x g.0 g.1 g.2, first_sent) at one in
        let p : g.0.piece.packet ≡ opening.packet = ap (λ (l : List ℕ). get_or l 0 0) two in
        let b : g.0.piece.block ≡ opening.block = ap (λ (l : List ℕ). get_or l 1 0) two in
        rw (p, b) at (in_block x g.0 g.1 g.2)

    -- and no others of it
    block_in_run : (p b : ℕ) (x : Byte) → In x (block_bytes p b) → x.run ≡ r → In x (run_bytes lengths r)
    unfolding run_bytes
    block_in_run p b x i e =
        let t = flat_map_in (λ (u : Listed). piece_bytes u.piece) (block_listed p b ps) i in
        let f = byte_within services lengths x (held_there services lengths ps covered x t.0 (block_facts p b ps t.1).0 t.2) in
        let k : In x.place (count_from 0 (get_or lengths r 0)) = in_count x.place 0 (get_or lengths r 0) (omega arith) (omega (arith, rw e at f.1)) in
        subst (λ (n : ℕ). In (byte n x.place) (run_bytes lengths r)) (sym e) (in_map (byte r) (count_from 0 (get_or lengths r 0)) k)

    -- so the payload of that block is bytes of earlier runs, the run, and bytes of later runs
    abbrev earlier_in : List ℕ
    earlier_in = map (number_at runs) (those (is_before r) (block_bytes opening.packet opening.block))

    abbrev later_in : List ℕ
    later_in = map (number_at runs) (those (is_behind r) (block_bytes opening.packet opening.block))

    payload_parts : flat_map (bytes_in runs) (pieces_in opening.packet opening.block ps) ≡ earlier_in ++ (get_or runs r [] ++ later_in)
    payload_parts =
        let p : ℕ = opening.packet in
        let b : ℕ = opening.block in
        let l : List Byte = block_bytes p b in
        block_numbers p b
        ∙ ap (map (number_at runs)) (run_between lengths r l (block_bytes_sorted p b) run_in_block (block_in_run p b))
        ∙ map_append (number_at runs) (those (is_before r) l) (run_bytes lengths r ++ those (is_behind r) l)
        ∙ ap (λ (m : List ℕ). earlier_in ++ m)
        (map_append (number_at runs) (run_bytes lengths r) (those (is_behind r) l) ∙ ap (λ (m : List ℕ). m ++ later_in) (run_numbers services runs r))

    -- Each run stands whole in a block of its service.
    pub run_whole : StandsWhole (get_or runs r []) (service_of services r) (proposed_packets services runs ps)
    run_whole =
        let q : Piece = opening in
        let f = piece_of (byte r 0) first_there in
        let listed : In q ps = (listed_in 0 ps f.1).1 in
        let lies : In q (pieces_in q.packet q.block ps) = in_those (lies_in q.packet q.block) ps listed (lies_itself q) in
        let made = block_made services (bytes_in runs) (pieces_in q.packet q.block ps) lies in
        let sends = block_sent q listed made.1 in
        record {
          blocks = blocks_in services (bytes_in runs) ps q.packet;
          in_packets = sends.1;
          block = made.0;
          in_blocks = sends.0;
          number = made.2.2 ∙ block_of_one services runs ps covered q.packet q.block q made.2.0 lies made.2.1
              ∙ ap (service_of services) (sym (piece_in (byte r 0) q f.2).0);
          front = earlier_in;
          back = later_in;
          payload = made.3 ∙ payload_parts;
        }
