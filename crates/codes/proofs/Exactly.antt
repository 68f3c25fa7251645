-- What the profile tells of blocks and packets, whatever results the contracts allow. Assumes nothing.
use mathlib.Core.Path.{◌≡◌, refl, sym, ap, ◌∙◌}
use mathlib.Core.Bool.{Bool, true, false, ◌&&◌}
use mathlib.Core.List.{List, ◌∷◌, ◌++◌}
use contract.Lifetimes.{Lfts}
use denote.Ref.{Bor}
use Rattle.model.specs.Lists.{every}
use Rattle.model.specs.Said.{Outcome, gave, refused, says, is_given, checked}
use Rattle.model.specs.Block.{Block}
use Rattle.model.specs.Codes.{codes_of, codes_of_blocks}
use Rattle.model.proofs.Cases.{NotAccepted, Refuses}
use Rattle.model.proofs.Codes.{codes_numbered}
use Rattle.model.proofs.CodedPackets.{is_cut, all_cut, blocks_exactly, blocks_first, each_numbered}
use Rattle.std.specs.Prelude.{Result, Ok, Err, is_ok}
use Rattle.caption.specs.declared.Refusal.{Refusal}
use Rattle.caption.specs.declared.Refusal.TheVariants.{BadValue}
use Rattle.caption.specs.Answers.{said_refusal, outcome}
use Rattle.caption.proofs.Outcomes.{says_injective}
use Rattle.service.specs.declared.Service.{Service}
use Rattle.service.specs.Service.{block_of, valid_service}
use Rattle.packet.specs.declared.DTVCCPacket.{DTVCCPacket}
use Rattle.packet.specs.Packet.{packet_of, valid_dtvcc}
use Rattle.codes.proofs.check_service.Reads as CheckServiceReads
use Rattle.codes.proofs.check_packet.Reads as CheckPacketReads

-- what a call answers that gives nothing
abbrev pub Answer : Type 0
Answer = Result (Unit {0}) Refusal

-- `check_service(&service)`
abbrev pub CheckService : Service → Answer → Type 0
CheckService s r = (κs : Lfts 1) × (b : Bor Service) × (b.now ≡ s) × CheckServiceReads.Post κs (b, tt) r (b, tt)

-- `check_packet(&packet)`
abbrev pub CheckPacket : DTVCCPacket → Answer → Type 0
CheckPacket p r = (κs : Lfts 1) × (b : Bor DTVCCPacket) × (b.now ≡ p) × CheckPacketReads.Post κs (b, tt) r (b, tt)

-- what is told of a block, and of a packet
service_told : (s : Service) (r : Answer) → CheckService s r → says (outcome r) ≡ says (checked (valid_service s) (codes_of (block_of s).payload))
service_told s r c = rw c.2 at c.3

packet_told : (p : DTVCCPacket) (r : Answer) → CheckPacket p r → says (outcome r) ≡ says (checked (valid_dtvcc p) (codes_of_blocks (packet_of p).blocks))
packet_told p r c = rw c.2 at c.3

-- an answer about a value accepts exactly if the value breaks no limit and the outcome gives something
accepts_as : {A : Type 0} (r : Answer) (v : Bool) (o : Outcome A) → Refuses NotAccepted o → says (outcome r) ≡ says (checked v o) → is_ok r ≡ v && is_given o
accepts_as r true (gave x) n told = ap (λ (y : Answer). is_ok y) (says_injective r (Ok tt) told)
accepts_as (Ok x) true (refused why) n told = absurd (n (sym (ap (λ s. s.number) told)))
accepts_as (Err y) true (refused why) n told = refl
accepts_as r false o n told = ap (λ (y : Answer). is_ok y) (says_injective r (Err BadValue) told)

-- A block is accepted exactly if it breaks no limit and its payload is cut without remainder.
pub block_exactly : (s : Service) (r : Answer) → CheckService s r → is_ok r ≡ valid_service s && is_cut (block_of s)
block_exactly s r told = accepts_as r (valid_service s) (codes_of (block_of s).payload) (codes_numbered (block_of s).payload) (service_told s r told)

-- A packet is accepted exactly if it breaks no limit and each of its blocks is [K6].
pub packet_exactly : (p : DTVCCPacket) (r : Answer) → CheckPacket p r → is_ok r ≡ valid_dtvcc p && all_cut (packet_of p)
packet_exactly p r told =
    accepts_as r (valid_dtvcc p) (codes_of_blocks (packet_of p).blocks) (each_numbered _) (packet_told p r told) ∙ ap (λ t. valid_dtvcc p && t) (blocks_exactly (packet_of p).blocks)

-- The first block that is refused tells the refusal, in a packet that breaks no limit [K6].
pub first_refused : (p : DTVCCPacket) (r : Answer) → CheckPacket p r → valid_dtvcc p ≡ true
    → (front behind : List Block) (b : Block) → (packet_of p).blocks ≡ front ++ (b ∷ behind) → every is_cut front ≡ true
    → (why : Refusal) → codes_of b.payload ≡ refused (said_refusal why) → r ≡ Err why
first_refused p r told v front behind b is cut why e =
    says_injective r (Err why) (packet_told p r told ∙ rw (v, is, blocks_first front b behind (said_refusal why) cut e))
