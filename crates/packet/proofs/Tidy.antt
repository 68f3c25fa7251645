-- What the tidy reader promises, of any answers that the contracts of `parse_tidy`, `parse` and `write` allow. Assumes nothing.
use mathlib.Core.Path.{◌≡◌, refl, sym, ap, ◌∙◌}
use mathlib.Core.Bool.{true, true≢false}
use mathlib.Core.List.{List, [], ◌∷◌, ◌++◌}
use Prim.Native.Nat.{ℕ, suc, ◌+◌, ◌≤◌}
use native.Mathlib.Omega.{arith}
use lib.Dec.{ltb}
use lib.ListN.{length, take, drop}
use lib.Seq.{take-append_seam}
use Rattle.std.specs.Prelude.{Result, Ok, Err}
use Rattle.caption.specs.declared.Refusal.{Refusal}
use Rattle.caption.specs.Answers.{said_refusal, outcome}
use Rattle.caption.proofs.Outcomes.{outcome_injective}
use Rattle.model.specs.Said.{Outcome, gave, refused, is_given, after, mapped, put_into, packet_length_wrong}
use Rattle.model.specs.Block.{Block, header_length, number_in, block_in}
use Rattle.model.specs.Packet.{Packet, sequence_in, packet_size, is_null_header, read_packet, read_tidy, packet_length, fill, written_packet}
use Rattle.model.proofs.Cases.{by_test}
use Rattle.model.proofs.Walk.{nothing, more}
use Rattle.model.proofs.Packets.{Valid, plain_back}
use Rattle.model.proofs.Fills.{Fills}
use Rattle.model.proofs.Fill.{in_one, in_two, bytes_null, Exactly, WholeBlocks, behind_null, filled_tidily, tidy_appended, readers_agree, tidy_bare}
use Rattle.packet.specs.Packet.{packet_of, laid, valid_dtvcc, bytes_of, written}
use Rattle.packet.specs.declared.DTVCCPacket.{DTVCCPacket}
use Rattle.packet.proofs.Holds.{within_facts, held_valid}
use Rattle.packet.proofs.Refusals.{Reads}

-- an answer to reading, and the packet that is laid where bytes read so
abbrev Answer : Type 0
Answer = Result DTVCCPacket Refusal

abbrev pub Lays : Outcome Packet → Answer → Type 0
Lays o r = outcome r ≡ mapped laid o

-- one outcome has one answer
one_answer : (o : Outcome Packet) (r q : Answer) → Lays o r → Lays o q → r ≡ q
one_answer o r q a b = outcome_injective r q (a ∙ sym b)

-- What the tidy reader answers depends on no byte behind the first null header, nor on that header's own size [T2].
pub tidy_behind_null : (h : ℕ) {front : List ℕ} {bs : List Block} → WholeBlocks front bs → (d e : List ℕ) → is_null_header d ≡ true → is_null_header e ≡ true → length d ≡ length e
    → (r q : Answer) → Lays (read_tidy (h ∷ (front ++ d))) r → Lays (read_tidy (h ∷ (front ++ e))) q → r ≡ q
tidy_behind_null h w d e nd ne same r q a b = one_answer _ r q (rw (behind_null h w d e nd ne same) at a) b

-- so, for one, 03 21 41 00 21 42 and 03 21 41 FF C0 E1 have one answer
pub old_bytes : (r q : Answer) → Lays (read_tidy (0x03 ∷ 0x21 ∷ 0x41 ∷ 0x00 ∷ 0x21 ∷ 0x42 ∷ [])) r
    → Lays (read_tidy (0x03 ∷ 0x21 ∷ 0x41 ∷ 0xFF ∷ 0xC0 ∷ 0xE1 ∷ [])) q → r ≡ q
unfolding header_length number_in block_in
old_bytes r q a b =
    let block : Exactly (0x21 ∷ 0x41 ∷ []) (record { number = 1; payload = 0x41 ∷ [] }) = record { named = λ z. omega (arith, z); long = refl; is = refl } in
    tidy_behind_null 0x03 (more (0x21 ∷ 0x41 ∷ []) [] _ [] block nothing) (0x00 ∷ 0x21 ∷ 0x42 ∷ []) (0xFF ∷ 0xC0 ∷ 0xE1 ∷ [])
    (bytes_null (in_one 0x00 _ (omega arith))) (bytes_null (in_two 0xFF 0xC0 _ (omega arith) (omega arith) refl)) refl r q a b

-- the bytes were read as this packet
abbrev pub IsRead : Packet → Answer → Type 0
IsRead p r = Reads (gave p) r

-- Whole blocks, and then fill up to the number of bytes that the header says, are accepted: with the blocks that have a payload, whatever the fill is [T2].
pub tidy_whole : (h : ℕ) {front : List ℕ} {bs : List Block} → WholeBlocks front bs → (old : List ℕ) → packet_size h ≡ suc (length (front ++ old)) → Fills old
    → (r : Answer) → Reads (read_tidy (h ∷ (front ++ old))) r → IsRead (record { sequence = sequence_in h; blocks = bs }) r
tidy_whole h w old long fills r a = a ∙ filled_tidily h w old long fills

-- what `write` has written to some bytes that were lent to it
module _ (p : DTVCCPacket) (out end : List ℕ) (n : ℕ) (told : gave n ≡ mapped (λ _. length (bytes_of p)) (written p out)) (wrote : end ≡ after out (written p out)) where
  abbrev bytes : List ℕ
  bytes = written_packet (packet_of p)

  -- it was accepted: the packet breaks no limit, and its bytes are there
  record AsWritten : Type 0 where
    valid : Valid (packet_of p)
    long : n ≡ length bytes
    front : take n end ≡ bytes

  as_written : AsWritten
  unfolding put_into
  as_written =
      by_test (valid_dtvcc p)
      (λ v. by_test (ltb (length out) (length bytes))
      (λ s. absurd (true≢false (ap is_given (simp (v, s) at told))))
      (λ s. let given : gave n ≡ gave (length bytes) = simp (v, s) at told in
      let long : n ≡ length bytes = cc in
      let o : end ≡ bytes ++ drop (length bytes) out = simp (v, s) at wrote in
      record { valid = held_valid p (within_facts p v); long = long; front = rw (o, long) (take-append_seam bytes (drop (length bytes) out)) }))
      (λ v. absurd (true≢false (ap is_given (simp v at told))))

  -- With any fill behind them, and in front of all a header that says how many bytes there are, they are read tidily as the packet [T2]. Where the
  -- writer has filled an odd length itself, old bytes of any kind may follow at once.
  pub tidy_with_fill : (h : ℕ) (old : List ℕ) → sequence_in h ≡ (packet_of p).sequence → packet_size h ≡ n + length old → Fills (fill (packet_length (packet_of p)) ++ old)
      → (r : Answer) → Reads (read_tidy (h ∷ (drop 1 (take n end) ++ old))) r → IsRead (packet_of p) r
  tidy_with_fill h old top long fills r a =
      let w = as_written in
      a ∙ rw w.front (tidy_appended (packet_of p) w.valid h old top (long ∙ ap (λ k. k + length old) w.long) fills)

  -- As they were written the plain reader reads them as the packet, also where it has no blocks.
  pub plain_answer : (r : Answer) → Reads (read_packet (take n end)) r → IsRead (packet_of p) r
  plain_answer r a = let w = as_written in a ∙ rw w.front (plain_back (packet_of p) w.valid)

  -- If it has one, the tidy reader gives the same answer;
  pub readers_answer : 1 ≤ length (packet_of p).blocks → (r q : Answer) → Lays (read_packet (take n end)) r → Lays (read_tidy (take n end)) q → r ≡ q
  readers_answer some r q a b =
      let w = as_written in
      let same : read_packet (take n end) ≡ read_tidy (take n end) = rw w.front (readers_agree (packet_of p) w.valid some) in
      one_answer _ r q (rw same at a) b

  -- if it has none, they are one byte that says 128, and the tidy reader refuses it [T1].
  pub bare_answer : length (packet_of p).blocks ≡ 0 → (q : Answer) → Reads (read_tidy (take n end)) q → outcome q ≡ refused (packet_length_wrong 128 1 0)
  bare_answer none q b = refuses q (b ∙ ap read_tidy as_written.front ∙ tidy_bare (packet_of p) none)
    where
      refuses : (q : Answer) → Reads (refused (packet_length_wrong 128 1 0)) q → outcome q ≡ refused (packet_length_wrong 128 1 0)
      refuses (Ok x) e = absurd (true≢false (ap is_given e))
      refuses (Err why) e = let k : said_refusal why ≡ packet_length_wrong 128 1 0 = cc in ap refused k
