-- How a frame is made and a packet stored, part by part. No public contract reaches this file. Assumes nothing.
use Rattle.std.specs.Prelude.{Bool, cond, ◌&&◌, List, ℕ, ◌-◌, take, drop}
use Rattle.std.proofs.lemmas.List.Edits.{sets}
use Rattle.model.specs.Rate.{no_carry}
use Rattle.model.specs.Mux.{Switch, paddings, carrying_mode, true_counting}
use Rattle.writer_queues.specs.declared.PairQueue.{PairQueue}
use Rattle.slots.specs.declared.Slot.{Slot}
use Rattle.writer_shares.specs.Share.{carry_of, carry_in}
use Rattle.writer_shares.specs.declared.Carry.{Carry}
use Rattle.writer_building.specs.Building.{built}
use Rattle.writer_building.specs.declared.Source.{Source}
use Rattle.writer_building.specs.declared.Made.{Made}
use Rattle.writer.specs.declared.CCDataWriter.{CCDataWriter}

-- the state with what a frame leaves of it, without the packets that were begun [S3]
abbrev pub joined : CCDataWriter → Made → CCDataWriter
joined w m =
    record {
      output_cea608_padding = w.output_cea608_padding;
      output_padding = w.output_padding;
      carrying = w.carrying;
      carry = m.carry;
      true_count = w.true_count;
      packet_count = w.packet_count - m.next;
      packets = sets w.packets 0 (drop m.next (take w.packet_count w.packets));
      sending = m.slot;
      sent = m.sent;
      field1 = m.field1;
      field2 = m.field2;
      field2_next = m.field2_next;
    }

-- what a frame is made of beside the slots
abbrev pub source_of : CCDataWriter → Source
source_of w =
    record {
      pad = w.output_cea608_padding;
      padding = w.output_padding;
      true_count = w.true_count;
      carry = w.carry;
      field1 = w.field1;
      field2 = w.field2;
      field2_next = w.field2_next;
      queued = w.packet_count;
      slot = w.sending;
      sent = w.sent;
    }

-- the frame at budgets of `pairs` and `triples`, and what it leaves
abbrev pub built_from : ℕ → ℕ → Carry → CCDataWriter → Made
built_from pairs triples carry w = built pairs triples carry w.packets (source_of w)

-- with the paddings, the true count and the mode set, and parts carried
abbrev pub with_switches : Bool → Bool → Bool → Bool → Carry → CCDataWriter → CCDataWriter
with_switches a b t on c w =
    record {
      output_cea608_padding = a;
      output_padding = b;
      packet_count = w.packet_count;
      packets = w.packets;
      sending = w.sending;
      sent = w.sent;
      field1 = w.field1;
      field2 = w.field2;
      field2_next = w.field2_next;
      true_count = t;
      carrying = on;
      carry = c;
    }

-- the parts once the mode is set [W15]
abbrev pub carry_after : Bool → CCDataWriter → Carry
carry_after on w = carry_in (cond (on && w.carrying) (carry_of w.carry) no_carry)

-- with a switch set [W12] [W15] [W17]
abbrev pub switched : Switch → CCDataWriter → CCDataWriter
switched (paddings a b) w = with_switches a b w.true_count w.carrying w.carry w
switched (carrying_mode on) w = with_switches w.output_cea608_padding w.output_padding w.true_count on (carry_after on w) w
switched (true_counting on) w = with_switches w.output_cea608_padding w.output_padding on w.carrying w.carry w

-- the two queues of pairs
abbrev pub with_fields : PairQueue → PairQueue → CCDataWriter → CCDataWriter
with_fields p q w =
    record {
      output_cea608_padding = w.output_cea608_padding;
      output_padding = w.output_padding;
      carrying = w.carrying;
      carry = w.carry;
      true_count = w.true_count;
      packet_count = w.packet_count;
      packets = w.packets;
      sending = w.sending;
      sent = w.sent;
      field1 = p;
      field2 = q;
      field2_next = w.field2_next;
    }

-- the slots, and how many are taken
abbrev pub with_packets : ℕ → List Slot → CCDataWriter → CCDataWriter
with_packets n l w =
    record {
      output_cea608_padding = w.output_cea608_padding;
      output_padding = w.output_padding;
      carrying = w.carrying;
      carry = w.carry;
      true_count = w.true_count;
      packet_count = n;
      packets = l;
      sending = w.sending;
      sent = w.sent;
      field1 = w.field1;
      field2 = w.field2;
      field2_next = w.field2_next;
    }

-- without what is queued and what is being sent, the sums to start afresh [W13]
abbrev pub flushed : CCDataWriter → CCDataWriter
flushed w =
    record {
      output_cea608_padding = w.output_cea608_padding;
      output_padding = w.output_padding;
      carrying = w.carrying;
      carry = carry_in no_carry;
      true_count = w.true_count;
      packet_count = 0;
      packets = w.packets;
      sending = record { len = 0; bytes = w.sending.bytes };
      sent = 0;
      field1 = record { bytes = w.field1.bytes; count = 0 };
      field2 = record { bytes = w.field2.bytes; count = 0 };
      field2_next = w.field2_next;
    }
