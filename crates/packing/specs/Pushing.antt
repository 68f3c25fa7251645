-- A proposal carried out by calls of `push_code`, each with a result that its contract allows. Assumes nothing.
use Rattle.std.specs.Prelude.{◌≡◌, cond, true, List, [], ◌∷◌, ℕ, ◌≤◌, eqb, Result, Ok}
use contract.Lifetimes.{Lfts}
use Rattle.std.specs.Borrow.{Bor, MutBor}
use Rattle.caption.specs.declared.Refusal.{Refusal}
use Rattle.packet.specs.declared.DTVCCPacket.{DTVCCPacket}
use Rattle.packet.proofs.DTVCCPacket.new.Reads as new
use Rattle.packet.proofs.DTVCCPacket.push_code.Reads as PushCodeReads
use Rattle.packet.specs.Packet.{packet_of, valid_dtvcc}
use Rattle.model_packing.specs.Proposals.{blocks_in}
use Rattle.model_packing.specs.Pieces.{Piece, service_of, In}
use Rattle.model_packing.specs.Carrying.{bytes_in}

-- what a call answers that gives nothing
abbrev pub Answer : Type 0
Answer = Result (Unit {0}) Refusal

-- a packet that is lent
abbrev pub Lent : Type 0
Lent = MutBor DTVCCPacket

-- `DTVCCPacket::new(n)`
abbrev pub NewPacket : ℕ → Result DTVCCPacket Refusal → Type 0
NewPacket n r = new.Post (tt {0}) (n, tt) r (n, tt)

-- `packet.push_code(service, code)`, where the packet is `p` as it was lent, and `q` as it is at exit
abbrev pub PushCode : Lfts 2 → Lent → ℕ → Bor (List ℕ) → Answer → Lent → Type 0
PushCode κs p s code r q = PushCodeReads.Post κs (p, (s, (code, tt))) r (q, (s, (code, tt)))

-- packets by their numbers
abbrev pub Packets : Type 0
Packets = ℕ → DTVCCPacket

-- a packet made anew for each number, with any sequence number
pub record Fresh (sequence : ℕ → ℕ) (packets : Packets) : Type 0 where
  pub known : (p : ℕ) → sequence p ≤ 3
  pub made : (p : ℕ) → NewPacket (sequence p) (Ok (packets p))

-- another packet in the place of one of them
unfoldable pub replaced : Packets → ℕ → DTVCCPacket → Packets
replaced packets n new p = cond (eqb p n) new (packets p)

-- The bytes of pieces are pushed, piece by piece as the list has them, each to the packet that the piece names and for the service of its run; that
-- packet is lent. The answers are those of the calls.
pub data Pushes (services : List ℕ) (runs : List (List ℕ)) : List Piece → Packets → List Answer → Packets → Type 0 where
  no_piece : {packets : Packets} → Pushes services runs [] packets [] packets
  push_piece : {q : Piece} {qs : List Piece} {packets end : Packets} {told : List Answer} (κs : Lfts 2) (code : Bor (List ℕ)) (before after : Lent) (r : Answer)
      → before.now ≡ packets q.packet → code.now ≡ bytes_in runs q → PushCode κs before (service_of services q.run) code r after
      → Pushes services runs qs (replaced packets q.packet after.now) told end → Pushes services runs (q ∷ qs) packets (r ∷ told) end

-- What the calls come to: all of them are accepted, and each packet is within its limits and has the blocks that the proposal describes.
pub record AllPushed (services : List ℕ) (runs : List (List ℕ)) (sequence : ℕ → ℕ) (proposal : List Piece) (told : List Answer) (end : Packets) : Type 0 where
  pub all_accepted : (a : Answer) → In a told → a ≡ Ok tt
  pub as_described : (p : ℕ) → packet_of (end p) ≡ record { sequence = sequence p; blocks = blocks_in services (bytes_in runs) proposal p }
  pub within_limits : (p : ℕ) → valid_dtvcc (end p) ≡ true
