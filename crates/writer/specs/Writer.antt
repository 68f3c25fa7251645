-- The multiplexer's state: what it is in the model, the states that break a limit, and the places of what a call leaves: [S1] to
-- [S3] and [W14]. Assumes nothing.
use Rattle.std.specs.Prelude.{◌≡◌, Bool, cond, not, ◌&&◌, List, [], ◌∷◌, map, ℕ, ◌-◌, ◌*◌, ◌/◌, eqb, leb, length, get_or, take, drop, replicate}
use Rattle.std.proofs.lemmas.List.Edits.{sets}
use Rattle.model.specs.Lists.{every}
use Rattle.model.specs.Mux.{Mux, fresh_mux, valid_mux, started}
use Rattle.writer_queues.specs.Queue.{queue_of, queue_over}
use Rattle.writer_queues.specs.declared.PairQueue.{PairQueue}
use Rattle.writer_shares.specs.Share.{carry_of, carry_in}
use Rattle.slots.specs.Slot.{slot_with, slot_of, written_length, written_bytes, read_slot, written_slot}
use Rattle.slots.specs.declared.Slot.{Slot}
use Rattle.slots.specs.Row.{valid_sending}
use Rattle.writer.specs.declared.CCDataWriter.{CCDataWriter}

-- the multiplexer that a state is: two bytes leave with each triple of the packet being sent
unfoldable pub means : CCDataWriter → Mux
means w =
    record {
      pad608 = w.output_cea608_padding;
      pad_out = w.output_padding;
      carrying = w.carrying;
      carry = carry_of w.carry;
      true_count = w.true_count;
      packets = map read_slot (take w.packet_count w.packets);
      sending = drop (w.sent / 2) (started (written_bytes w.sending));
      queue1 = queue_of w.field1;
      queue2 = queue_of w.field2;
      next1 = not w.field2_next;
    }

-- a state whose arrays have their lengths
pub record Shaped (w : CCDataWriter) : Type 0 where
  pub packets : length w.packets ≡ 16
  pub first : length w.field1.bytes ≡ 128
  pub second : length w.field2.bytes ≡ 128

-- the places are in order: no count passes its array, and the slots are written packets
unfoldable pub in_order : CCDataWriter → Bool
in_order w =
    leb w.packet_count (length w.packets)
    && (leb (2 * w.field1.count) (length w.field1.bytes)
    && (leb (2 * w.field2.count) (length w.field2.bytes)
    && (valid_sending w.sending w.sent && every written_slot (take w.packet_count w.packets))))

-- within the limits [W14]; else every call refuses with 11 [R11]
unfoldable pub valid_writer : CCDataWriter → Bool
valid_writer w = in_order w && valid_mux (means w)

-- a multiplexer in places: its switches and carried parts, its pairs over those of two queues, its packets in these slots, and of the slot being sent so many bytes have left
abbrev pub laid_in : PairQueue → PairQueue → Slot → ℕ → List Slot → Mux → CCDataWriter
laid_in q1 q2 slot sent slots x =
    record {
      output_cea608_padding = x.pad608;
      output_padding = x.pad_out;
      carrying = x.carrying;
      carry = carry_in x.carry;
      true_count = x.true_count;
      packet_count = length x.packets;
      packets = slots;
      sending = slot;
      sent = sent;
      field1 = queue_over q1 x.queue1;
      field2 = queue_over q2 x.queue2;
      field2_next = not x.next1;
    }

-- a new state: zeros in every place
unfoldable pub fresh : CCDataWriter
fresh =
    let queue : PairQueue = record { bytes = replicate 128 0; count = 0 } in
    laid_in queue queue (slot_with 0 []) 0 (replicate 16 (slot_with 0 [])) fresh_mux

-- where a push or a switch leaves a multiplexer: the packets behind those that were there are in the next slots, as they are written
abbrev pub stored : CCDataWriter → Mux → CCDataWriter
stored w x =
    let slots = map slot_of (drop w.packet_count x.packets) in
    laid_in w.field1 w.field2 w.sending w.sent (sets w.packets w.packet_count slots) x

-- where a flush leaves it: no slot is being sent
abbrev pub emptied : CCDataWriter → Mux → CCDataWriter
emptied w x = laid_in w.field1 w.field2 (record { len = 0; bytes = w.sending.bytes }) 0 w.packets x

-- where a frame leaves it: the slots of the packets left come down, and what is left of a packet is of the last that was begun
abbrev pub moved : CCDataWriter → Mux → CCDataWriter
moved w x =
    let begun = w.packet_count - length x.packets in
    let slot = get_or (w.sending ∷ w.packets) begun w.sending in
    let none = eqb (length x.sending) 0 in
    laid_in w.field1 w.field2 (record { len = cond none 0 slot.len; bytes = slot.bytes })
    (cond none 0 (written_length slot - 2 * length x.sending))
    (sets w.packets 0 (drop begun (take w.packet_count w.packets))) x
