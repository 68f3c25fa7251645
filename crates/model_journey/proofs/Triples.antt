-- The triples of a packet: the first starts it, the others go on with it, and their bytes are the packet as it is written.
-- Assumes nothing.
use mathlib.Core.Path.{◌≡◌, refl, sym, ap, ◌∙◌}
use mathlib.Core.List.{List, [], ◌∷◌, ◌++◌}
use Prim.Native.Nat.{ℕ, zero, suc, ◌+◌, ◌%◌, ◌≤◌}
use native.Mathlib.Omega.{arith}
use lib.ListN.{length}
use Rattle.model.specs.Packet.{Packet, packet_header, written_blocks, written_packet}
use Rattle.model.specs.Frame.{Triple, tri, Seen, seen, seen_all}
use Rattle.model.specs.Demux.{closed, given_in}
use Rattle.model.specs.Mux.{Sent, behind, send, continued, started, packet_triples}
use Rattle.model.proofs.Packets.{Valid, shape, plain_back}
use Rattle.model.proofs.Sends.{send_none, send_one, send_start, send_all, triples_written}
use Rattle.model_journey.specs.Bounds.{packet_triples_in}
use Rattle.model_journey.proofs.Parts.{In708, end7, start7, more7}

-- triples that go on with a packet
pub data Follow : List Triple → Type 0 where
  stop : Follow []
  more : {a b : ℕ} {ts : List Triple} → Follow ts → Follow (tri 0xFE a b ∷ ts)

-- those of more bytes do
follow_continued : (d : List ℕ) → Follow (continued d)
unfolding continued
follow_continued [] = stop
follow_continued (a ∷ []) = more stop
follow_continued (a ∷ b ∷ d) = more (follow_continued d)

-- triples of which the first starts a packet with the header h
pub record Opens (h : ℕ) (ts : List Triple) : Type 0 where
  pub second : ℕ
  pub rest : List Triple
  pub split : ts ≡ tri 0xFF h second ∷ rest
  pub follow : Follow rest

-- those of any packet
pub opens : (p : Packet) → Opens (packet_header p) (packet_triples p)
unfolding packet_triples started
opens p = opened (packet_header p) (written_blocks p.blocks)
  where
    opened : (h : ℕ) (d : List ℕ) → Opens h (started (h ∷ d))
    opened h [] = record { second = 0x00; rest = []; split = refl; follow = stop }
    opened h (b ∷ d) = record { second = b; rest = continued d; split = refl; follow = follow_continued d }

-- the two bytes of each triple, in order
abbrev pub bytes_of : List Triple → List ℕ
bytes_of [] = []
bytes_of (tri h a b ∷ ts) = a ∷ b ∷ bytes_of ts

-- triples that go on with an even number of bytes carry these and no more
bytes_continued : (d : List ℕ) → length d % 2 ≡ 0 → bytes_of (continued d) ≡ d
unfolding continued
bytes_continued [] e = refl
bytes_continued (a ∷ []) e = absurd (omega arith)
bytes_continued (a ∷ b ∷ d) e = ap (λ (l : List ℕ). a ∷ b ∷ l) (bytes_continued d (omega arith))

-- and so do those that start with them
bytes_started : (d : List ℕ) → length d % 2 ≡ 0 → bytes_of (started d) ≡ d
unfolding started
bytes_started [] e = refl
bytes_started (a ∷ []) e = absurd (omega arith)
bytes_started (a ∷ b ∷ d) e = ap (λ (l : List ℕ). a ∷ b ∷ l) (bytes_continued d (omega arith))

-- a packet that is stored: nonempty and within the limits
pub record Stored (p : Packet) : Type 0 where
  pub valid : Valid p
  pub some : 1 ≤ length p.blocks

-- its triples carry the bytes that it is written in
pub bytes_written : {p : Packet} → Stored p → packet_header p ∷ (opens p).second ∷ bytes_of (opens p).rest ≡ written_packet p
bytes_written {p} k =
    let even : length (written_packet p) % 2 ≡ 0 = omega (arith, (shape p k.valid k.some).even) in
    ap bytes_of (sym (opens p).split) ∙ ap bytes_of (triples_written p k.valid k.some) ∙ bytes_started (written_packet p) even

-- and those bytes become that packet
pub closed_written : {p : Packet} → Stored p → closed (packet_header p ∷ (opens p).second ∷ bytes_of (opens p).rest) ≡ p ∷ []
unfolding closed
closed_written {p} k = rw (bytes_written k) (ap given_in (plain_back p k.valid))

-- the next packet of the queue leaves by its first triple
pub send_open : (m : ℕ) (p : Packet) (q : List Packet) → send (suc m) [] (p ∷ q) ≡ behind (tri 0xFF (packet_header p) (opens p).second ∷ []) (send m (opens p).rest q)
send_open m p q = rw (send_start m p q, (opens p).split) (send_one m (tri 0xFF (packet_header p) (opens p).second) (opens p).rest q)

-- What is sent are packet triples, and what is left goes on with a packet.
pub record SentOnly (o : Sent) : Type 0 where
  pub in708 : In708 (seen_all o.out)
  pub number : (ys : List Seen) → packet_triples_in (seen_all o.out ++ ys) ≡ length o.out + packet_triples_in ys
  pub follow : Follow o.sending

-- a packet triple before them
sent_more : {o : Sent} (t : Triple) → SentOnly o → In708 (seen t ∷ seen_all o.out) → ((ys : List Seen) → packet_triples_in (seen t ∷ ys) ≡ suc (packet_triples_in ys)) → SentOnly (behind (t ∷ []) o)
unfolding seen_all
sent_more {o} t k in7 counts = record { in708 = in7; number = λ ys. counts (seen_all o.out ++ ys) ∙ omega (arith, k.number ys); follow = k.follow }

-- of any packets, after triples that go on with one
pub sent_only : (m : ℕ) {ts : List Triple} → Follow ts → (q : List Packet) → SentOnly (send m ts q)
unfolding seen_all seen packet_triples_in
sent_only zero {ts} f q = rw (send_none ts q) (record { in708 = end7; number = λ ys. omega arith; follow = f })
sent_only (suc m) stop [] = rw (send_all (suc m)) (record { in708 = end7; number = λ ys. omega arith; follow = stop })
sent_only (suc m) stop (p ∷ q) =
    let k = sent_only m (opens p).follow q in
    rw (send_open m p q) (sent_more (tri 0xFF (packet_header p) (opens p).second) k (start7 k.in708) (λ ys. refl))
sent_only (suc m) (more {a} {b} {ts} f) q =
    let k = sent_only m f q in
    rw (send_one m (tri 0xFE a b) ts q) (sent_more (tri 0xFE a b) k (more7 k.in708) (λ ys. refl))
