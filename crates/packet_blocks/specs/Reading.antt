-- The places that reading a packet fills. No public contract of `packet` reaches this file. Assumes nothing.
use Rattle.std.specs.Prelude.{◌≡◌, List, ℕ, ◌+◌, length}
use Rattle.std.proofs.lemmas.List.Edits.{sets}
use Rattle.model.specs.Block.{Block}
use Rattle.model.specs.Packet.{Packet}
use Rattle.model.specs.Services.{numbers_of}
use Rattle.packet_blocks.specs.declared.Kept.{Kept}
use Rattle.packet_blocks.specs.declared.Filled.{Filled}
use Rattle.packet_entries.specs.Fields.{Fields, Arrays, fields, zeros, laid_over, sizes_of, payloads_of}

-- blocks laid into the three arrays, as block `count` on, with their payloads from `used` on
pub record LaidIn (bs : List Block) (at : Kept) (a b : Arrays) : Type 0 where
  pub numbers : b.numbers ≡ sets a.numbers at.count (numbers_of bs)
  pub sizes : b.sizes ≡ sets a.sizes at.count (sizes_of bs)
  pub payload : b.payload ≡ sets a.payload at.used (payloads_of bs)

-- blocks laid behind those that a reading has, with their payloads from `used` on
abbrev pub with_blocks : Filled → ℕ → List Block → Filled
with_blocks p used bs =
    record {
      seq_no = p.seq_no;
      count = p.count + length bs;
      numbers = sets p.numbers p.count (numbers_of bs);
      sizes = sets p.sizes p.count (sizes_of bs);
      payload = sets p.payload used (payloads_of bs);
    }

-- the places of a reading
abbrev pub fields_of : Filled → Fields
fields_of r = fields r.seq_no r.count r.numbers r.sizes r.payload

-- a reading that has these places
abbrev pub filled_of : Fields → Filled
filled_of p = record { seq_no = p.seq_no; count = p.count; numbers = p.numbers; sizes = p.sizes; payload = p.payload }

-- the reading of a packet: the packet in its places, with zeros behind it
abbrev pub filled_with : Packet → Filled
filled_with p = filled_of (laid_over zeros p)

-- the places where nothing was read: zeros
abbrev pub unfilled : Filled
unfilled = filled_of zeros
