-- What it means that what goes into the multiplexer comes out of the demultiplexer. Assumes nothing.
use Rattle.std.specs.Prelude.{◌≡◌, true, [], ℕ, ◌+◌, ◌<◌, length, replicate}
use Rattle.model.specs.Said.{Said, accepted, full}
use Rattle.model.specs.Demux.{Demux}
use Rattle.model.specs.Mux.{Framed, with_true_count}
use Rattle.model.specs.Run.{Run, Read, of_field1, of_field2, others}

-- what was given is exactly the accepted packets with a block and each field's pairs other than 80 80, in order, once each [J1]; and every frame is
-- accepted
pub record RoundTrip (r : Run) (o : Read) : Type 0 where
  pub answers : o.answers ≡ replicate (length r.frames) (accepted [])
  pub packets : o.packets ≡ r.packets
  pub pairs1 : others (of_field1 o.pairs) ≡ others r.pairs1
  pub pairs2 : others (of_field2 o.pairs) ≡ others r.pairs2

-- two runs with the same items [J2]
pub record SameItems (r r' : Run) : Type 0 where
  pub packets : r.packets ≡ r'.packets
  pub pairs1 : others r.pairs1 ≡ others r'.pairs1
  pub pairs2 : others r.pairs2 ≡ others r'.pairs2

-- what a demultiplexer answers to a frame of n triples: it refuses only with 10 [R10], and not where these and the packets that wait are fewer than 32
pub record OnlyFull (d : Demux) (n : ℕ) (answer : Said) : Type 0 where
  pub only : (answer ≡ accepted [] → ⊥) → answer ≡ full
  pub taken : length d.waiting + n < 32 → answer ≡ accepted []

-- with the true count a frame is what it is without it but for its count, and leaves what that leaves but for the switch [W17]
pub record OnlyCount (with without : Framed) : Type 0 where
  pub triples : with.frame.triples ≡ without.frame.triples
  pub next : with.next ≡ with_true_count true without.next
