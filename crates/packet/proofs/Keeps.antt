-- What a reader gives and a push leaves breaks no limit and holds what the model says. Assumes nothing.
use mathlib.Core.Path.{◌≡◌, refl}
use mathlib.Core.Bool.{Bool, true}
use mathlib.Core.List.{List, flat_map}
use Prim.Native.Nat.{ℕ}
use Rattle.model.specs.Lists.{every}
use Rattle.model.specs.Said.{gave}
use Rattle.model.specs.Packet.{Packet, no_packet, read_packet, read_tidy, push_block, push_run_by, packet_length, valid_packet}
use Rattle.model.specs.Services.{among, bits_of, services_of}
use Rattle.model.proofs.Packets.{Valid}
use Rattle.model.specs.Block.{Block, valid_block}
use Rattle.model.proofs.Cases.{gives_at}
use Rattle.model.proofs.Limits.{plain_valid, tidy_valid}
use Rattle.model.proofs.Pushing.{block_valid, run_valid}
use Rattle.packet_entries.specs.Fields.{blocks_held}
use Rattle.packet.specs.declared.DTVCCPacket.{DTVCCPacket}
use Rattle.packet.specs.Packet.{packet_of, over, blank, laid, valid_dtvcc}
use Rattle.packet.proofs.Holds.{Places, blank_places, within_facts, held_valid, over_holds, over_valid, over_places}

-- the empty places break no limit
pub blank_valid : valid_dtvcc blank ≡ true
unfolding valid_dtvcc blocks_held valid_packet every packet_length services_of bits_of among
blank_valid = refl

-- they are what a packet without blocks is laid in
pub none_laid : laid no_packet ≡ blank
unfolding over flat_map services_of bits_of among
none_laid = refl

-- a packet within the limits, laid over any places: it is held, breaks no limit and keeps the places
pub record Laid (old : DTVCCPacket) (p : Packet) : Type 0 where
  pub holds : packet_of (over old p) ≡ p
  pub valid : valid_dtvcc (over old p) ≡ true
  pub places : Places (over old p)

pub laid_over : (old : DTVCCPacket) → Places old → (p : Packet) → Valid p → Laid old p
laid_over old places p v = record { holds = over_holds old places p v; valid = over_valid old places p v; places = over_places old places p v }

-- what the plain reader gives, and the tidy one
pub parsed_held : (d : List ℕ) {p : Packet} → read_packet d ≡ gave p → Laid blank p
parsed_held d {p} e = laid_over blank blank_places p (plain_valid d e)

pub tidily_held : (d : List ℕ) {p : Packet} → read_tidy d ≡ gave p → Laid blank p
tidily_held d {p} e = laid_over blank blank_places p (tidy_valid d e)

-- what a push leaves: the packet that the model gives, within the limits
module _ (p : DTVCCPacket) (v : valid_dtvcc p ≡ true) (places : Places p) where
  held : Valid (packet_of p)
  held = held_valid p (within_facts p v)

  pub run_held : (needs_room : Bool) (n : ℕ) (run : List ℕ) {q : Packet} → push_run_by needs_room n run (packet_of p) ≡ gave q → Laid p q
  run_held needs_room n run {q} e = laid_over p places q (gives_at Valid _ e (run_valid (packet_of p) held needs_room n run))

  pub block_held : (b : Block) → valid_block b ≡ true → {q : Packet} → push_block b (packet_of p) ≡ gave q → Laid p q
  block_held b ok {q} e = laid_over p places q (gives_at Valid _ e (block_valid (packet_of p) held b ok))
