-- What the answers to reading tell: whether bytes read as a packet, and that a refusal is of a length. Assumes nothing.
use mathlib.Core.Path.{◌≡◌, sym, ap, subst, ◌∙◌}
use mathlib.Core.Bool.{true, false}
use mathlib.Core.List.{List}
use Prim.Native.Nat.{ℕ, ◌<◌}
use borrow.Author.Tests.{eqb-false, ltb-true, not-true}
use Rattle.std.specs.Prelude.{Result, Ok, Err}
use Rattle.caption.specs.declared.Refusal.{Refusal}
use Rattle.caption.specs.Answers.{said_refusal, outcome}
use Rattle.model.specs.Said.{Outcome, refused, is_given, mapped}
use Rattle.model.specs.Packet.{Packet, plainly, tidily, read_packet, read_tidy, reads}
use Rattle.model.proofs.Cases.{Refuses}
use Rattle.model.proofs.Lengths.{OfLength, packet_refusals}
use Rattle.packet.specs.Packet.{packet_of}
use Rattle.packet.specs.declared.DTVCCPacket.{DTVCCPacket}

-- a wrong length: of the plain reader more bytes than the header says, of the tidy reader any other number
abbrev pub Longer : ℕ → ℕ → Type 0
Longer size n = size < n

abbrev pub Other : ℕ → ℕ → Type 0
Other size n = size ≡ n → ⊥

-- a reader refuses so
plain_refused : (d : List ℕ) → Refuses (OfLength plainly Longer d) (read_packet d)
unfolding read_packet
plain_refused d = packet_refusals plainly Longer ltb-true d

tidy_refused : (d : List ℕ) → Refuses (OfLength tidily Other d) (read_tidy d)
unfolding read_tidy
tidy_refused d = packet_refusals tidily Other (λ size n w. eqb-false size n (not-true _ w)) d

-- an answer that says what a reading gives
abbrev pub Reads : Outcome Packet → Result DTVCCPacket Refusal → Type 0
Reads o r = mapped packet_of (outcome r) ≡ o

module _ (d : List ℕ) (r : Result DTVCCPacket Refusal) where
  pub accepted_reads : Reads (read_packet d) r → (x : DTVCCPacket) → r ≡ Ok x → reads d ≡ true
  unfolding reads
  accepted_reads read x is = sym (ap is_given read) ∙ rw is

  -- an answer that refuses
  module _ (why : Refusal) (is : r ≡ Err why) where
    refuses : {o : Outcome Packet} → Reads o r → refused (said_refusal why) ≡ o
    refuses read = rw is at read

    pub refused_reads : Reads (read_packet d) r → reads d ≡ false
    unfolding reads
    refused_reads read = sym (ap is_given (refuses read))

    -- What reading a packet is refused with is what `OfLength` says, whatever answer the contract allows: plainly,
    pub plain_lengths : Reads (read_packet d) r → OfLength plainly Longer d (said_refusal why)
    plain_lengths read = subst (Refuses (OfLength plainly Longer d)) (sym (refuses read)) (plain_refused d)

    -- and tidily
    pub tidy_lengths : Reads (read_tidy d) r → OfLength tidily Other d (said_refusal why)
    tidy_lengths read = subst (Refuses (OfLength tidily Other d)) (sym (refuses read)) (tidy_refused d)
