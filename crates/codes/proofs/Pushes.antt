-- Pushes under the profile. They stand apart from what is proved of them, so that an edit of them is refused there. Assumes nothing.
use Rattle.std.specs.Prelude.{◌≡◌}
use Prim.Native.Nat.{ℕ}
use contract.Lifetimes.{Lfts}
use denote.Ref.{MutBor}
use Rattle.packet.specs.declared.DTVCCPacket.{DTVCCPacket}
use Rattle.codes.proofs.push_codes.Reads as PushCodesReads
use Rattle.codes.proofs.push_codes_into_single_service.Reads as PushCodesIntoSingleServiceReads
use Rattle.codes.proofs.Exactly.{Answer}
use Rattle.codes.proofs.Profile.{Lent}

-- `push_codes(&mut packet, service_no, run)`, where the packet is `b` as it was lent, and `c` as it is at exit
abbrev pub PushCodes : Lfts 2 → MutBor DTVCCPacket → ℕ → Lent → Answer → MutBor DTVCCPacket → Type 0
PushCodes κs b n run r c = PushCodesReads.Post κs (b, (n, (run, tt))) r (c, (n, (run, tt)))

-- `push_codes_into_single_service(&mut packet, service_no, run)`
abbrev pub PushCodesSingle : Lfts 2 → MutBor DTVCCPacket → ℕ → Lent → Answer → MutBor DTVCCPacket → Type 0
PushCodesSingle κs b n run r c = PushCodesIntoSingleServiceReads.Post κs (b, (n, (run, tt))) r (c, (n, (run, tt)))

-- a run pushed to a packet under the profile, in either form, and the packet then
pub data PushesRun (p : DTVCCPacket) (r : Answer) (q : DTVCCPacket) : Type 0 where
  by_codes : (κs : Lfts 2) (b c : MutBor DTVCCPacket) (n : ℕ) (run : Lent) → b.now ≡ p → c.now ≡ q → PushCodes κs b n run r c → PushesRun p r q
  into_single : (κs : Lfts 2) (b c : MutBor DTVCCPacket) (n : ℕ) (run : Lent) → b.now ≡ p → c.now ≡ q → PushCodesSingle κs b n run r c → PushesRun p r q
