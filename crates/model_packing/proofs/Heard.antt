-- What the packets of a proposal say to a service: the bytes of its pieces as they are sent, which are its runs. Assumes nothing.
use mathlib.Core.Path.{◌≡◌, refl, sym, ap, ◌∙◌}
use mathlib.Core.Bool.{Bool, false, cond}
use mathlib.Core.List.{List, [], ◌∷◌, map, flat_map, append-nil}
use Prim.Native.Nat.{ℕ}
use native.Mathlib.Omega.{arith}
use lib.Dec.{eqb}
use lib.ListN.{length, get_or, drop_of_length-le, get_or-map}
use lib.Seq.{take-length}
use borrow.Author.Tests.{eqb-true, leb-false}
use Rattle.model.specs.Block.{Block}
use Rattle.model.proofs.Cases.{by_test}
use Rattle.model_packing.specs.Pieces.{Piece, Byte, count_from, run_bytes, bytes_of, service_of, those, In, here}
use Rattle.model_packing.specs.Proposals.{most_numbers, lies_in, pieces_in, block_for, blocks_in, one_service}
use Rattle.model_packing.specs.Carrying.{bytes_in, some_block, proposed_packets, spoken, heard_in}
use Rattle.model_packing.proofs.Lists.{every_in, those_in}
use Rattle.model_packing.proofs.Maps.{those_all, those_none, flat_map_same, flat_map_those, those_map, those_flat_map, map_flat_map, flat_map_map, flat_map_flat_map}
use Rattle.model_packing.proofs.Sending.{Listed, listed_in, block_listed, listed_block, packet_listed, lies_facts, sending_order, sending_in}
use Rattle.model_packing.proofs.Bytes.{bytes_from, bytes_run, piece_bytes, number_at, part_numbers}
use Rattle.model_packing.proofs.Accepted.{Passes}
use Rattle.model_packing.proofs.Covered.{Covered, passes_covered, Inside, piece_inside}
use Rattle.model_packing.proofs.Spoken.{is_of, is_byte_of, is_listed_of, spoken_bytes, sending_to, sent_bytes, sent_spoken}

-- what one block says to a service
heard_one : (s : ℕ) (b : Block) → heard_in s (b ∷ []) ≡ cond (eqb b.number s) b.payload []
unfolding heard_in flat_map
heard_one s b = append-nil (cond (eqb b.number s) b.payload [])

-- no blocks say anything
heard_none : (s : ℕ) (bs : List Block) → some_block bs ≡ false → heard_in s bs ≡ []
unfolding heard_in flat_map
heard_none s bs e = rw (drop_of_length-le bs {i = 0} (omega (arith, leb-false 1 (length bs) e)))

-- what is made of the elements of lists that pass a test, list by list
flat_map_through : {A B C : Type 0} (g : B → List C) (test : B → Bool) (f : A → List B) (l : List A)
    → flat_map g (those test (flat_map f l)) ≡ flat_map (λ x. flat_map g (those test (f x))) l
flat_map_through g test f l = ap (flat_map g) (those_flat_map test f l) ∙ flat_map_flat_map g (λ x. those test (f x)) l

-- a block whose pieces are of one service says their bytes to that service, and nothing to another
heard_block : (services : List ℕ) (fill : Piece → List ℕ) (s : ℕ) (qs : List Piece)
    → ((q r : Piece) → In q qs → In r qs → service_of services r.run ≡ service_of services q.run)
    → heard_in s (block_for services fill qs) ≡ flat_map fill (those (λ (q : Piece). is_of services s q.run) qs)
unfolding block_for
heard_block services fill s [] one = unfold heard_in flat_map those in refl
heard_block services fill s (q ∷ qs) one =
    let ours : Piece → Bool = λ r. is_of services s r.run in
    let alike : (r : Piece) → In r (q ∷ qs) → ours r ≡ ours q = λ r i. ap (λ (n : ℕ). eqb n s) (one q r (here refl) i) in
    heard_one s (record { number = service_of services q.run; payload = flat_map fill (q ∷ qs) })
    ∙ by_test (ours q)
    (λ e. rw (e, those_all ours (q ∷ qs) (λ r i. alike r i ∙ e)))
    (λ e. rw (e, those_none ours (q ∷ qs) (λ r i. alike r i ∙ e)) (unfold flat_map in refl))

module _ (services : List ℕ) (runs : List (List ℕ)) (ps : List Piece) (ok : Covered services (map length runs) ps) where
  -- all pieces of a block are of one service
  pub block_of_one : (p b : ℕ) (q r : Piece) → In q (pieces_in p b ps) → In r (pieces_in p b ps) → service_of services r.run ≡ service_of services q.run
  unfolding one_service
  block_of_one p b q r i j =
      let f = those_in (lies_in p b) ps i in
      let g = lies_facts p b q f.1 in
      let k : In r (pieces_in q.packet q.block ps) = rw (g.0, g.1) j in
      let ours : Piece → Bool = λ u. eqb (service_of services u.run) (service_of services q.run) in
      eqb-true _ _ (every_in ours (pieces_in q.packet q.block ps) (every_in (one_service services ps) ps ok.each_one_service f.0) k)

  -- what a piece is filled with is the numbers of its bytes
  pub piece_numbers : (q : Piece) → In q ps → bytes_in runs q ≡ map (number_at runs) (piece_bytes q)
  unfolding bytes_in
  piece_numbers q i =
      let f : Inside services (map length runs) q = piece_inside ok q i in
      part_numbers runs q.run q.first q.size (omega (arith, get_or-map length runs q.run []))

  module _ (s : ℕ) where
    -- the bytes of a piece
    abbrev said_in : Listed → List ℕ
    said_in t = bytes_in runs t.piece

    -- what a block says to the service is the bytes of its pieces of that service,
    said_block : (p b : ℕ) → heard_in s (block_for services (bytes_in runs) (pieces_in p b ps)) ≡ flat_map said_in (those (is_listed_of services s) (block_listed p b ps))
    said_block p b =
        let bare : Listed → Piece = λ t. t.piece in
        heard_block services (bytes_in runs) s (pieces_in p b ps) (block_of_one p b)
        ∙ rw (listed_block p b ps, those_map (λ (q : Piece). is_of services s q.run) bare (block_listed p b ps)) (flat_map_map (bytes_in runs) bare (those (is_listed_of services s) (block_listed p b ps)))

    -- so it is with a packet,
    said_packet : (p : ℕ) → heard_in s (blocks_in services (bytes_in runs) ps p) ≡ flat_map said_in (those (is_listed_of services s) (packet_listed p ps))
    unfolding heard_in blocks_in
    said_packet p =
        flat_map_flat_map _ (λ b. block_for services (bytes_in runs) (pieces_in p b ps)) (count_from 0 most_numbers)
        ∙ flat_map_same _ _ (count_from 0 most_numbers) (λ b _. said_block p b)
        ∙ sym (flat_map_through said_in (is_listed_of services s) (λ b. block_listed p b ps) (count_from 0 most_numbers))

    -- and with all packets
    said_all : flat_map (heard_in s) (proposed_packets services runs ps) ≡ flat_map said_in (sending_to s services ps)
    unfolding proposed_packets sending_order
    said_all =
        flat_map_those (heard_in s) some_block (map (blocks_in services (bytes_in runs) ps) (count_from 0 most_numbers)) (heard_none s)
        ∙ flat_map_map (heard_in s) (blocks_in services (bytes_in runs) ps) (count_from 0 most_numbers)
        ∙ flat_map_same _ _ (count_from 0 most_numbers) (λ p _. said_packet p)
        ∙ sym (flat_map_through said_in (is_listed_of services s) (λ p. packet_listed p ps) (count_from 0 most_numbers))

    -- these are the numbers of the bytes that are sent
    said_sent : flat_map said_in (sending_to s services ps) ≡ map (number_at runs) (sent_bytes s services ps)
    said_sent =
        flat_map_same said_in (λ (t : Listed). map (number_at runs) (piece_bytes t.piece)) (sending_to s services ps)
        (λ t i. piece_numbers t.piece (listed_in 0 ps (sending_in ps (those_in (is_listed_of services s) (sending_order ps) i).0)).1)
        ∙ sym (map_flat_map (number_at runs) (λ (t : Listed). piece_bytes t.piece) (sending_to s services ps))

    -- so what the packets say to the service is the numbers of the bytes that are sent to it
    pub heard_sent : flat_map (heard_in s) (proposed_packets services runs ps) ≡ map (number_at runs) (sent_bytes s services ps)
    heard_sent = said_all ∙ said_sent

module _ (services : List ℕ) (runs : List (List ℕ)) where
  -- a run is the numbers of its bytes
  pub run_numbers : (r : ℕ) → map (number_at runs) (run_bytes (map length runs) r) ≡ get_or runs r []
  unfolding run_bytes
  run_numbers r =
      rw (get_or-map length runs r []) (sym (part_numbers runs r 0 (length (get_or runs r [])) (omega arith)) ∙ take-length (get_or runs r []))

  -- those of them that are of a service: all, or none
  run_spoken : (s r : ℕ) → map (number_at runs) (those (is_byte_of services s) (run_bytes (map length runs) r)) ≡ cond (is_of services s r) (get_or runs r []) []
  unfolding run_bytes
  run_spoken s r =
      let n : ℕ = get_or (map length runs) r 0 in
      let alike : (x : Byte) → In x (bytes_from r 0 n) → is_byte_of services s x ≡ is_of services s r = λ x i. ap (is_of services s) (bytes_run x r 0 n i) in
      by_test (is_of services s r)
      (λ e. rw (e, those_all (is_byte_of services s) (bytes_from r 0 n) (λ x i. alike x i ∙ e)) (run_numbers r))
      (λ e. rw (e, those_none (is_byte_of services s) (bytes_from r 0 n) (λ x i. alike x i ∙ e)))

  -- so what is spoken to a service is the numbers of its bytes
  pub spoken_numbers : (s : ℕ) → map (number_at runs) (spoken_bytes s services (map length runs)) ≡ spoken s services runs
  unfolding bytes_of spoken
  spoken_numbers s =
      let all : List ℕ = count_from 0 (length services) in
      ap (map (number_at runs)) (those_flat_map (is_byte_of services s) (run_bytes (map length runs)) all)
      ∙ map_flat_map (number_at runs) (λ r. those (is_byte_of services s) (run_bytes (map length runs) r)) all
      ∙ flat_map_same _ _ all (λ r _. run_spoken s r)

-- What the packets of a proposal say to a service is all that is spoken to it, in its order.
pub heard_spoken : (services : List ℕ) (runs : List (List ℕ)) (ps : List Piece) → Passes services (map length runs) ps → (s : ℕ)
    → flat_map (heard_in s) (proposed_packets services runs ps) ≡ spoken s services runs
heard_spoken services runs ps ok s =
    heard_sent services runs ps (passes_covered ok) s
    ∙ ap (map (number_at runs)) (sent_spoken services (map length runs) ps ok s)
    ∙ spoken_numbers services runs s
