-- What is written of the places of a packet, and when their blocks may be laid into an output: for the functions of this crate. The public contract
-- of `packet` says it by the model and does not reach this file. Assumes nothing.
use Rattle.std.specs.Prelude.{◌≡◌, true, List, ℕ, ◌≤◌}
use Rattle.model.specs.Said.{Outcome, checked, put_into}
use Rattle.model.specs.Packet.{written_packet}
use Rattle.packet_entries.specs.Fields.{Fields, packet_in, valid_fields}
use Rattle.packet_entries.specs.Entries.{Entry, good_entries, entry_lengths, used_by}

-- the packet that the places hold, as it is written
abbrev pub bytes_in : Fields → List ℕ
bytes_in p = written_packet (packet_in p)

-- a lent output with that packet written to it
abbrev pub written : Fields → List ℕ → Outcome (List ℕ)
written p out = checked (valid_fields p) (put_into out (bytes_in p))

-- entries that a packet may be written from
pub record Writable (es : List Entry) (count bytes : ℕ) : Type 0 where
  pub few : count ≤ 63
  pub there : used_by es ≤ bytes
  pub good : good_entries es ≡ true
  pub short : entry_lengths es ≤ 127
