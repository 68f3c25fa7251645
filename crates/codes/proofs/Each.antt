-- A packet is accepted by the profile exactly if each block is that `service` hands out of it, whatever results the contracts allow. Assumes nothing.
use mathlib.Core.Path.{◌≡◌, refl, sym, ap, ◌∙◌}
use mathlib.Core.Bool.{Bool, true, ◌&&◌}
use mathlib.Core.List.{List, [], ◌∷◌}
use Prim.Native.Nat.{ℕ, zero, suc}
use native.Mathlib.Numerals.{add-one}
use native.Mathlib.Omega.{arith}
use borrow.Author.Tests.{le-leb, ne_eqb}
use lib.ListN.{length, drop}
use lib.Seq.{drop-drop}
use Rattle.model.specs.Lists.{every}
use Rattle.model.specs.Block.{Block, valid_block}
use Rattle.model.specs.Packet.{carriable}
use Rattle.model.proofs.Cases.{both}
use Rattle.model.proofs.Blocks.{Carriable, carriable_facts}
use Rattle.model.proofs.CodedPackets.{is_cut}
use contract.Lifetimes.{Lfts}
use denote.Ref.{Bor}
use Rattle.std.specs.Prelude.{Option, Some, Result, Ok, is_ok}
use Rattle.caption.specs.declared.Refusal.{Refusal}
use Rattle.caption.specs.Answers.{outcome}
use Rattle.caption.proofs.Outcomes.{outcome_injective}
use Rattle.model.specs.Said.{gave, mapped}
use Rattle.service.specs.declared.Service.{Service}
use Rattle.service.specs.Service.{block_of, valid_service, over, blank}
use Rattle.service.proofs.Services.{blank_places}
use Rattle.service.proofs.Kept.{laid_means, over_valid}
use Rattle.packet.specs.declared.DTVCCPacket.{DTVCCPacket}
use Rattle.packet.specs.Packet.{packet_of, valid_dtvcc, asked}
use Rattle.packet.specs.Place.{blocks_at, handed}
use Rattle.packet.proofs.DTVCCPacket.service.Reads as service
use Rattle.packet.proofs.Holds.{within_facts, held_valid}
use Rattle.codes.proofs.Exactly.{Answer, CheckService, CheckPacket, block_exactly, packet_exactly}

-- what is handed out of a packet at a place
abbrev pub Handed : Type 0
Handed = Result (Option Service) Refusal

-- `packet.service(place)`
abbrev pub ServiceIn : DTVCCPacket → ℕ → Handed → Type 0
ServiceIn p place h = (κs : Lfts 1) × (b : Bor DTVCCPacket) × (b.now ≡ p) × service.Post κs (b, (place, tt)) h (b, (place, tt))

-- whether a test passes at so many places, the first of which is `from`
unfoldable pub every_place : (ℕ → Bool) → ℕ → ℕ → Bool
every_place test from zero = true
every_place test from (suc n) = test from && every_place test (suc from) n

-- a block that may stand in a packet breaks no limit
carriable_valid : (b : Block) → Carriable b → valid_block b ≡ true
unfolding valid_block
carriable_valid b c = rw (le-leb b.number 63 c.known, le-leb (length b.payload) 31 c.small, ne_eqb b.number 0 (λ z. omega (arith, c.named)))

module _ (p : DTVCCPacket) (v : valid_dtvcc p ≡ true) (at : ℕ → Handed) (each : (i : ℕ) → ServiceIn p i (at i)) (t : ℕ → Answer)
    (told : (i : ℕ) (s : Service) → at i ≡ Ok (Some s) → CheckService s (t i)) where
  -- what is told of the block at a place
  one : (i : ℕ) (b : Block) (rest : List Block) → drop i (packet_of p).blocks ≡ b ∷ rest → Carriable b → is_ok (t i) ≡ is_cut b
  one i b rest e c =
      let h : outcome (at i) ≡ mapped handed (asked p (blocks_at i)) = rw (each i).2 at (each i).3 in
      let g : outcome (at i) ≡ gave (Some (over blank b)) = h ∙ rw (v, e) in
      let s : at i ≡ Ok (Some (over blank b)) = outcome_injective (at i) (Ok (Some (over blank b))) g in
      let valid : valid_service (over blank b) ≡ true = over_valid blank b blank_places (carriable_valid b c) in
      let means : block_of (over blank b) ≡ b = laid_means b c.small in
      block_exactly (over blank b) (t i) (told i (over blank b) s) ∙ rw valid (ap is_cut means)

  -- and of those from a place on
  from : (bs : List Block) (i : ℕ) → drop i (packet_of p).blocks ≡ bs → every carriable bs ≡ true → every_place (λ k. is_ok (t k)) i (length bs) ≡ every is_cut bs
  unfolding every_place every
  from [] i e ok = refl
  from (b ∷ bs) i e ok =
      let f = both (carriable b) (every carriable bs) ok in
      let behind : drop (suc i) (packet_of p).blocks ≡ bs = rw (← add-one i) (sym (drop-drop 1 i (packet_of p).blocks) ∙ ap (drop 1) e) in
      rw (one i b bs e (carriable_facts b f.0), from bs (suc i) behind f.1)

  -- A packet within the limits is accepted exactly if the block at each of its places is [K6].
  pub packet_by_blocks : (r : Answer) → CheckPacket p r → is_ok r ≡ every_place (λ i. is_ok (t i)) 0 (length (packet_of p).blocks)
  packet_by_blocks r check =
      packet_exactly p r check ∙ rw v (sym (from (packet_of p).blocks 0 refl (held_valid p (within_facts p v)).blocks))
