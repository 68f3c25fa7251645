-- The packet triples of a write, gathered by the reader. Assumes nothing.
use mathlib.Core.Path.{◌≡◌, refl, sym, ap, ◌∙◌}
use mathlib.Core.List.{List, [], ◌∷◌, ◌++◌, append_assoc, append-nil}
use Prim.Native.Nat.{ℕ, zero, suc, ◌≤◌, min}
use native.Mathlib.Omega.{arith}
use lib.ListN.{length, length-append}
use lib.Seq.{take_all}
use borrow.Author.Tests.{ne_eqb}
use Rattle.model.specs.Packet.{Packet, packet_size, packet_header, read_packet, read_by}
use Rattle.model.specs.Frame.{Triple, tri, Seen, seen, seen_all}
use Rattle.model.specs.Demux.{Gathered, closed, packets_of, kept, wants, delivered, gather}
use Rattle.model.specs.Mux.{Sent, behind, send}
use Rattle.model.proofs.Packets.{shape}
use Rattle.model.proofs.Frames.{packets_append, packets_kept}
use Rattle.model.proofs.Sends.{send_none, send_one, send_all}
use Rattle.model_journey.proofs.Triples.{Follow, stop, more, opens, bytes_of, Stored, bytes_written, closed_written, send_open}

-- every packet of a queue is one that is stored
pub data AllStored : List Packet → Type 0 where
  none : AllStored []
  also : {p : Packet} {q : List Packet} → Stored p → AllStored q → AllStored (p ∷ q)

-- The triples left of the packet being sent, and the bytes that the reader has gathered of it: there are neither; or its header gives the length
-- of those gathered and those left, and together they are a packet.
pub data Link : List Triple → List ℕ → Type 0 where
  still : Link [] []
  part : {ts : List Triple} {x : ℕ} {g : List ℕ} → Follow ts → packet_size x ≡ length (x ∷ g ++ bytes_of ts) → length (closed (x ∷ g ++ bytes_of ts)) ≡ 1 → Link ts (x ∷ g)

-- the packet that is on its way: that of the bytes gathered and those left
abbrev pub underway : List ℕ → List Triple → List Packet
underway [] ts = []
underway (x ∷ g) ts = closed (x ∷ g ++ bytes_of ts)

-- the reader wants the bytes that are left
pub wants_part : (ts : List Triple) (x : ℕ) (g : List ℕ) → packet_size x ≡ length (x ∷ g ++ bytes_of ts) → wants (x ∷ g) ≡ length (bytes_of ts)
unfolding wants
wants_part ts x g e = rw (ne_eqb (length (x ∷ g)) 0 (λ z. omega arith)) (omega (arith, length-append (x ∷ g) (bytes_of ts)))

-- and none before a start
pub wants_none : wants [] ≡ 0
unfolding wants
wants_none = refl

-- no bytes become no packet
pub closed_none : closed [] ≡ []
unfolding closed read_packet read_by
closed_none = refl

-- one packet is on its way while triples are left, and none when none are
pub underway_one : {ts : List Triple} {g : List ℕ} → Link ts g → (wants g ≡ 0 → g ≡ []) → length (underway g ts) ≡ min 1 (length ts)
underway_one still rest = omega arith
underway_one (part {x} {g} stop e k) rest = let z = ap length (rest (wants_part [] x g e)) in absurd (omega arith)
underway_one (part (more f) e k) rest = omega (arith, k)

-- one triple gathered: a start
gather_start : (g : List ℕ) (a b : ℕ) (ts : List Seen) → 2 ≤ packet_size a → gather g (seen (tri 0xFF a b) ∷ ts) ≡ delivered (kept g) (gather (a ∷ b ∷ []) ts)
unfolding gather seen
gather_start g a b ts h = rw (take_all (packet_size a) (a ∷ b ∷ []) h)

-- more of a packet
gather_more : (g : List ℕ) (a b : ℕ) (ts : List Seen) → 2 ≤ wants g → gather g (seen (tri 0xFE a b) ∷ ts) ≡ gather (g ++ (a ∷ b ∷ [])) ts
unfolding gather seen
gather_more g a b ts h = rw (take_all (wants g) (a ∷ b ∷ []) h)

-- What a write sends, and what the reader makes of it: it is linked to what is left as before, and has given the packets in order.
pub record Passed (ts : List Triple) (g : List ℕ) (q : List Packet) (o : Sent) (r : Gathered) : Type 0 where
  pub linked : Link o.sending r.bytes
  pub same : underway g ts ++ q ≡ packets_of r.runs ++ (underway r.bytes o.sending ++ o.packets)
  pub stored : AllStored o.packets

-- the bytes of a packet's first triple
abbrev first_of : Packet → List ℕ
first_of p = packet_header p ∷ (opens p).second ∷ []

-- they link the reader to the rest of it
opened : {p : Packet} → Stored p → Link (opens p).rest (first_of p)
opened {p} k = part (opens p).follow ((shape p k.valid k.some).header ∙ ap length (sym (bytes_written k))) (ap length (closed_written k))

-- a start closes what was gathered, and the packet that leaves the queue is on its way
started : {p : Packet} → Stored p → {g : List ℕ} {q : List Packet} {o : Sent} {r : Gathered} → underway g [] ≡ closed g → Passed (opens p).rest (first_of p) q o r
    → Passed [] g (p ∷ q) (behind (tri 0xFF (packet_header p) (opens p).second ∷ []) o) (delivered (kept g) r)
started {p} k {g} {q} {o} {r} e d =
    record {
      linked = d.linked;
      same = rw (e, packets_append (kept g) r.runs, packets_kept g, append_assoc) (ap (λ (l : List Packet). closed g ++ l) (ap (λ (l : List Packet). l ++ q) (sym (closed_written k)) ∙ d.same));
      stored = d.stored;
    }

module _ (tail : List Seen) (inert : (g : List ℕ) → gather g tail ≡ record { runs = []; bytes = g }) where
  -- what the reader makes of triples sent, with what follows them
  abbrev pub got : List ℕ → Sent → Gathered
  got g o = gather g (seen_all o.out ++ tail)

  -- nothing is there to send
  idle : {g : List ℕ} → Link [] g → (m : ℕ) → Passed [] g [] (send m [] []) (got g (send m [] []))
  unfolding seen_all packets_of
  idle {g} l m = rw (send_all m, inert g) (record { linked = l; same = refl; stored = none })

  -- a packet of the queue is begun
  begin : (m : ℕ) {p : Packet} → Stored p → {g : List ℕ} {q : List Packet} → underway g [] ≡ closed g
      → Passed (opens p).rest (first_of p) q (send m (opens p).rest q) (got (first_of p) (send m (opens p).rest q))
      → Passed [] g (p ∷ q) (send (suc m) [] (p ∷ q)) (got g (send (suc m) [] (p ∷ q)))
  unfolding seen_all
  begin m {p} k {g} {q} e d =
      let two : 2 ≤ packet_size (packet_header p) = omega (arith, shape p k.valid k.some) in
      rw (send_open m p q, gather_start g (packet_header p) (opens p).second _ two) (started k e d)

  -- m packet triples are sent and gathered
  pub carry : (m : ℕ) {ts : List Triple} {q : List Packet} {g : List ℕ} → Link ts g → AllStored q → Passed ts g q (send m ts q) (got g (send m ts q))
  unfolding seen_all packets_of
  carry zero {ts} {q} {g} l h = rw (send_none ts q, inert g) (record { linked = l; same = refl; stored = h })
  carry (suc m) still none = idle still (suc m)
  carry (suc m) (part stop e c) none = idle (part stop e c) (suc m)
  carry (suc m) still (also k h) = begin m k (sym closed_none) (carry m (opened k) h)
  carry (suc m) (part {x} {g} stop e c) (also k h) = begin m k (ap closed (append-nil (x ∷ g))) (carry m (opened k) h)
  carry (suc m) {q} (part {x} {g} (more {a} {b} {ts} f) e n) h =
      let shift : (x ∷ g) ++ (a ∷ b ∷ []) ++ bytes_of ts ≡ (x ∷ g) ++ (a ∷ b ∷ bytes_of ts) = append_assoc (x ∷ g) (a ∷ b ∷ []) (bytes_of ts) in
      let c = carry m (part f (e ∙ ap length (sym shift)) (ap (λ (l : List ℕ). length (closed l)) shift ∙ n)) h in
      let two : 2 ≤ wants (x ∷ g) = omega (arith, wants_part (tri 0xFE a b ∷ ts) x g e) in
      rw (send_one m (tri 0xFE a b) ts q, gather_more (x ∷ g) a b _ two) (record { linked = c.linked; same = rw shift at c.same; stored = c.stored })
