-- Any accepted proposal can be carried out: its packets are within the limits and are read back as they were written, and what they say to each service
-- is all that is spoken to it, in order, each run whole in a block. Assumes nothing.
use mathlib.Core.Path.{◌≡◌, refl, sym, ap, ◌∙◌}
use mathlib.Core.Bool.{true}
use mathlib.Core.List.{List, [], ◌∷◌, ◌++◌, map, flat_map}
use Prim.Native.Nat.{ℕ, suc, ◌≤◌}
use native.Mathlib.Omega.{arith}
use lib.ListN.{length, get_or, drop, length-drop, length-replicate, get_or-map}
use lib.Seq.{length-take-le}
use borrow.Author.Tests.{leb-true}
use Rattle.model.specs.Said.{accepted}
use Rattle.model.specs.Block.{Block}
use Rattle.model.specs.Packet.{Packet, written_packet, valid_packet}
use Rattle.model.specs.Demux.{closed, packets_of}
use Rattle.model.proofs.Packets.{valid_facts, plain_back}
use Rattle.model.proofs.Fill.{tidy_back}
use Rattle.model_packing.specs.Promises.{AnySendable, Delivers}
use Rattle.model_packing.specs.Pieces.{Piece, count_from, In, here, there}
use Rattle.model_packing.specs.Proposals.{most_numbers, blocks_in, zeros, blank_packet, check_proposal}
use Rattle.model_packing.specs.Carrying.{bytes_in, some_block, proposed_packets, sequenced_from, heard_in, heard}
use Rattle.model_packing.proofs.Lists.{every_in, those_in, map_in}
use Rattle.model_packing.proofs.Alike.{valid_alike, packet_alike}
use Rattle.model_packing.proofs.Accepted.{Passes, accepted_passes}
use Rattle.model_packing.proofs.Covered.{passes_covered, Inside, piece_inside}
use Rattle.model_packing.proofs.Heard.{heard_spoken}
use Rattle.model_packing.proofs.InOneBlock.{run_whole}

-- such packets are read back as they were written, one after the other
packets_back : (sequence : ℕ → ℕ) → ((i : ℕ) → sequence i ≤ 3) → (i : ℕ) (l : List (List Block)) → ((bs : List Block) → In bs l → AnySendable bs)
    → packets_of (map written_packet (sequenced_from sequence i l)) ≡ sequenced_from sequence i l
unfolding packets_of closed sequenced_from
packets_back sequence few i [] can = refl
packets_back sequence few i (bs ∷ l) can =
    rw ((can bs (here refl) (sequence i) (few i)).read_plainly, packets_back sequence few (suc i) l (λ cs j. can cs (there j)))

-- what they say is what their blocks say
sequenced_heard : (sequence : ℕ → ℕ) (i : ℕ) (l : List (List Block)) (s : ℕ) → heard s (sequenced_from sequence i l) ≡ flat_map (heard_in s) l
unfolding heard sequenced_from flat_map
sequenced_heard sequence i [] s = refl
sequenced_heard sequence i (bs ∷ l) s = ap (λ (h : List ℕ). heard_in s bs ++ h) (sequenced_heard sequence (suc i) l s)

module _ (services : List ℕ) (runs : List (List ℕ)) (ps : List Piece) (ok : Passes services (map length runs) ps) where
  -- a piece has as many bytes as it says,
  pub piece_length : (q : Piece) → In q ps → length (bytes_in runs q) ≡ q.size
  unfolding bytes_in
  piece_length q i =
      let f : Inside services (map length runs) q = piece_inside (passes_covered ok) q i in
      let run : List ℕ = get_or runs q.run [] in
      length-take-le q.size (drop q.first run) (omega (arith, length-drop q.first run, get_or-map length runs q.run []))

  -- so a packet with these bytes is within the limits, as it is with any others
  filled_valid : (p n : ℕ) → n ≤ 3 → In p (count_from 0 most_numbers) → valid_packet (record { sequence = n; blocks = blocks_in services (bytes_in runs) ps p }) ≡ true
  filled_valid p n few i =
      let same_lengths : (q : Piece) → In q ps → length (bytes_in runs q) ≡ length (zeros q.size) = λ q j. piece_length q j ∙ sym (length-replicate q.size 0) in
      valid_alike n 0 few (packet_alike services (bytes_in runs) (λ q. zeros q.size) ps p same_lengths)
      (every_in (λ r. valid_packet (blank_packet services ps r)) (count_from 0 most_numbers) ok.in_limits i)

  -- a packet of the proposal has a block, and can be sent
  packet_sendable : (bs : List Block) → In bs (proposed_packets services runs ps) → AnySendable bs
  unfolding proposed_packets
  packet_sendable bs i n few =
      let p : Packet = record { sequence = n; blocks = bs } in
      let f = those_in some_block (map (blocks_in services (bytes_in runs) ps) (count_from 0 most_numbers)) i in
      let g = map_in (blocks_in services (bytes_in runs) ps) (count_from 0 most_numbers) f.0 in
      let valid : valid_packet p ≡ true = rw g.2 (filled_valid g.0 n few g.1) in
      record {
        within_limits = valid;
        read_plainly = plain_back p (valid_facts p valid);
        read_tidily = tidy_back p (valid_facts p valid) (leb-true _ _ f.1);
      }

-- Any accepted proposal can be carried out.
pub accepted_delivers : (services : List ℕ) (runs : List (List ℕ)) (ps : List Piece) → check_proposal services (map length runs) ps ≡ accepted [] → Delivers services runs ps
accepted_delivers services runs ps e =
    let ok : Passes services (map length runs) ps = accepted_passes services (map length runs) ps e in
    let packets : List (List Block) = proposed_packets services runs ps in
    record {
      each_sendable = packet_sendable services runs ps ok;
      heard_in_order = λ sequence few s.
          ap (heard s) (packets_back sequence few 0 packets (packet_sendable services runs ps ok))
          ∙ sequenced_heard sequence 0 packets s
          ∙ heard_spoken services runs ps ok s;
      runs_whole = run_whole services runs ps ok;
    }
