-- The packet triples: what `send` does triple by triple, and which bytes the triples of a packet carry. Assumes nothing.
use mathlib.Core.Path.{◌≡◌, refl, ap, ◌∙◌}
use mathlib.Core.List.{List, [], ◌∷◌, ◌++◌}
use Prim.Native.Nat.{ℕ, suc, ◌+◌, ◌-◌, ◌/◌, ◌%◌, ◌≤◌}
use native.Mathlib.Omega.{arith}
use lib.Dec.{leb}
use lib.ListN.{length}
use lib.Seq.{take-nil, drop-nil}
use borrow.Author.Tests.{eq-eqb, ne_eqb, le-leb, lt-leb, leb-true, leb-false}
use Rattle.model.specs.Packet.{Packet, packet_length, packet_header, written_blocks, fill, written_packet}
use Rattle.model.specs.Frame.{Triple, tri}
use Rattle.model.specs.Mux.{continued, started, packet_triples, behind, send}
use Rattle.model.proofs.Cases.{by_test}
use Rattle.model.proofs.Packets.{Valid, written_blocks_length, length_some}

-- no triple is due
pub send_none : (ts : List Triple) (ps : List Packet) → send 0 ts ps ≡ record { out = []; sending = ts; packets = ps }
unfolding send
send_none ts [] = refl
send_none ts (p ∷ ps) = simp (le-leb 0 (length ts) (omega arith))

-- the next triple of the packet being sent
pub send_one : (m : ℕ) (t : Triple) (ts : List Triple) (ps : List Packet) → send (suc m) (t ∷ ts) ps ≡ behind (t ∷ []) (send m ts ps)
unfolding send
send_one m t ts [] = refl
send_one m t ts (p ∷ ps) =
    by_test (leb m (length ts))
    (λ e. simp (e, le-leb (suc m) (suc (length ts)) (omega (arith, leb-true m (length ts) e))))
    (λ e. let l : suc m - suc (length ts) ≡ m - length ts = omega arith in simp (e, lt-leb (suc m) (suc (length ts)) (omega (arith, leb-false m (length ts) e)), l))

-- a packet is begun
pub send_start : (m : ℕ) (p : Packet) (ps : List Packet) → send (suc m) [] (p ∷ ps) ≡ send (suc m) (packet_triples p) ps
unfolding send
send_start m p ps = let l : suc m - 0 ≡ suc m = omega arith in simp (lt-leb (suc m) 0 (omega arith), l)

-- nothing is left
pub send_all : (m : ℕ) → send m [] [] ≡ record { out = []; sending = []; packets = [] }
unfolding send
send_all m = simp (take-nil {A = Triple} m, drop-nil {A = Triple} m)

-- an odd last byte is filled with 0x00 [W7]: the triples of bytes are those of the bytes filled to an even length
continued_filled : (n : ℕ) (d : List ℕ) → length d % 2 ≡ n % 2 → continued d ≡ continued (d ++ fill n)
unfolding continued fill
continued_filled n [] e = simp (ne_eqb (n % 2) 1 (λ z. omega arith))
continued_filled n (a ∷ []) e = simp (eq-eqb (n % 2) 1 (omega arith))
continued_filled n (a ∷ b ∷ d) e = ap (λ (ts : List Triple). tri 0xFE a b ∷ ts) (continued_filled n d (omega arith))

-- the same from the first triple on
started_filled : (n h : ℕ) (d : List ℕ) → suc (length d) % 2 ≡ n % 2 → started (h ∷ d) ≡ started (h ∷ (d ++ fill n))
unfolding started continued fill
started_filled n h [] e = simp (eq-eqb (n % 2) 1 (omega arith))
started_filled n h (a ∷ d) e = ap (λ (ts : List Triple). tri 0xFF h a ∷ ts) (continued_filled n d (omega arith))

-- two bytes a triple
continued_length : (d : List ℕ) → length (continued d) ≡ (length d + 1) / 2
unfolding continued
continued_length [] = refl
continued_length (a ∷ []) = refl
continued_length (a ∷ b ∷ d) = omega (arith, continued_length d)

-- from the first on too
pub started_length : (d : List ℕ) → length (started d) ≡ (length d + 1) / 2
unfolding started
started_length [] = refl
started_length (a ∷ []) = refl
started_length (a ∷ b ∷ d) = omega (arith, continued_length d)

module _ (p : Packet) (v : Valid p) (some : 1 ≤ length p.blocks) where
  -- a packet before it is filled has its length
  unfilled : suc (length (written_blocks p.blocks)) ≡ packet_length p
  unfilled = omega (arith, written_blocks_length p.blocks v.blocks, length_some p some)

  -- the triples of a packet carry the bytes that it is written in
  pub triples_written : packet_triples p ≡ started (written_packet p)
  unfolding packet_triples written_packet
  triples_written = started_filled (packet_length p) (packet_header p) (written_blocks p.blocks) (ap (λ n. n % 2) unfilled)

  -- so many triples are half the length, upward
  pub triples_length : length (packet_triples p) ≡ (packet_length p + 1) / 2
  unfolding packet_triples
  triples_length = started_length (packet_header p ∷ written_blocks p.blocks) ∙ ap (λ n. (n + 1) / 2) unfilled
