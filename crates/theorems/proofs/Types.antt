-- What is asked of a packet that is pushed holds of every packet that a program can push: `push_packet` is lent a packet, to own one gives it, and the
-- contract of `push_packet` tells it of the one that is lent, whatever the call comes to. Assumes nothing.
use mathlib.Core.Path.{◌≡◌, refl}
use mathlib.Core.List.{List, [], ◌∷◌}
use mir.Val.{Val}
use contract.Lifetimes.{Lfts}
use denote.Laws.{Is}
use denote.Ref.{Bor}
use borrow.Author.Rules.{rules}
use borrow.Fn.Kinds as kinds
use Rattle.packet.specs.declared.DTVCCPacket.{DTVCCPacket}
use Rattle.packet.specs.contracts.DTVCCPacket as packet
use Rattle.writer.specs.contracts.CCDataWriter as writer
use Rattle.writer.proofs.CCDataWriter.push_packet.Kinds as PushPacketKinds
use Rattle.theorems.specs.Allowed.{Writer, Answer, PushPacket}
use Rattle.theorems.specs.Writing.{Typed}

-- what it is lent: a multiplexer that it may change, and a packet
pub lent : ◌≡◌ {A = List (kinds.ParamKind 2)} PushPacketKinds.ps (kinds.p_mut writer.the_row 0 tt ∷ kinds.p_shr packet.the_row 1 tt ∷ [])
lent = refl

-- the arrays of a packet that is owned have their lengths
pub typed : (d : DTVCCPacket) (vs : List Val) → Is packet.the_row d vs → Typed d
typed d vs owned = record { numbers = search rules; sizes = search rules; payload = search rules }

-- so have those of a packet that is lent to a call, whatever its contract allows: a refusal too
pub lent_typed : (κs : Lfts 2) (w w' : Writer) (d : Bor DTVCCPacket) (r : Answer) → PushPacket κs w d r w' → Typed d.now
lent_typed κs w w' d r a = let lengths = a.1.1.1.1 in record { numbers = lengths.0; sizes = lengths.1; payload = lengths.2 }
