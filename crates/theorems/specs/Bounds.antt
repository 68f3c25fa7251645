-- How soon what is queued leaves. Assumes nothing.
use Rattle.std.specs.Prelude.{Result, Ok, ◌≡◌, Bool, true, List, ◌++◌, ℕ, ◌+◌, ◌*◌, ◌≤◌, min, length, take, drop}
use Rattle.model.specs.Said.{gave}
use Rattle.model.specs.Frame.{Pair, seen_all, triples_in, most_frame, frame_bytes}
use Rattle.model.specs.Rate.{Budgets, budgets, most_triples, Share}
use Rattle.model.specs.Mux.{unsent, share_at, write_share}
use Rattle.model_journey.specs.Bounds.{Field, the, Left, pace, packet_triples_in}
use Rattle.caption.specs.declared.Framerate.{Framerate}
use Rattle.caption.specs.declared.Refusal.{Refusal}
use Rattle.writer_queues.specs.Queue.{queue_of}
use Rattle.writer.specs.Writer.{means}
use Rattle.writer.specs.declared.CCDataWriter.{CCDataWriter}
use Rattle.theorems.specs.Items.{Items}
use Rattle.theorems.specs.Writing.{Drained}

-- the pairs that wait in a field, place 1 first
abbrev pub queue_at : Field → CCDataWriter → List Pair
queue_at f w = the f (queue_of w.field1) (queue_of w.field2)

-- the packet triples not yet sent, those of the packet being sent among them [W2]
abbrev pub unsent_of : CCDataWriter → ℕ
unsent_of w = unsent (means w)

-- the packet triples in the bytes of a frame, as a reader sees them
abbrev pub packet_triples_of : List ℕ → ℕ
packet_triples_of frame = packet_triples_in (seen_all (triples_in (drop 2 frame)))

-- each accepted write sends at least four packet triples, or all that are left [J4]; and what it sends is what remains the less
pub record SendsFour (w : CCDataWriter) (frame : List ℕ) (w' : CCDataWriter) : Type 0 where
  pub four : min 4 (unsent_of w) ≤ packet_triples_of frame
  pub no_other : packet_triples_of frame + unsent_of w' ≡ unsent_of w

-- a write at an accepted rate, with room for the longest frame, is accepted: the rate has budgets [G2], and with the carrying mode on 600 · denom is
-- within 31 · numer [G6]; the answer counts the bytes of the frame, which has its share of the rate
pub record AcceptsWrite (w : CCDataWriter) (rate : Framerate) (out : List ℕ) (answer : Result ℕ Refusal) : Type 0 where
  pub accepts : (b : Budgets) → budgets rate.numer rate.denom ≡ gave b → (w.carrying ≡ true → 600 * rate.denom ≤ most_triples * rate.numer) → most_frame ≤ length out
      → (h : Share) × (share_at rate.numer rate.denom (means w) ≡ gave h) × (answer ≡ Ok (length (frame_bytes (write_share h (means w)).frame)))

-- the pairs of a field among items
abbrev pub pairs_at : Field → Items → List Pair
pairs_at f is = the f is.pairs1 is.pairs2

-- the pair at place i has left after 2i accepted writes, or 4i with the carrying mode on [J3]: between w and w' the frames fs were written and the
-- items `is` accepted
abbrev pub LeavesInTime : Bool → Field → CCDataWriter → List (List ℕ) → Items → CCDataWriter → Type 0
LeavesInTime on f w fs is w' = (i : ℕ) → i ≤ length (queue_at f w) → pace on * i ≤ length fs → Left i (queue_at f w) (pairs_at f is) (queue_at f w')

-- one list begins with another
pub record BeginsWith {A : Type 0} (first all : List A) : Type 0 where
  pub rest : List A
  pub whole : all ≡ first ++ rest

-- likewise what is given of the frames fs: each field's pairs begin with those at the first i places
abbrev pub GivenInTime : Bool → Field → CCDataWriter → List (List ℕ) → Items → Type 0
GivenInTime on f w fs given = (i : ℕ) → i ≤ length (queue_at f w) → pace on * i ≤ length fs → BeginsWith (take i (queue_at f w)) (pairs_at f given)

-- so many accepted writes drain a multiplexer: twice as many as the pairs of either field, or four times with the carrying mode on, and a quarter of
-- the packet triples
abbrev pub DrainsInTime : Bool → CCDataWriter → List (List ℕ) → CCDataWriter → Type 0
DrainsInTime on w fs w' = pace on * w.field1.count ≤ length fs → pace on * w.field2.count ≤ length fs → unsent_of w ≤ 4 * length fs → Drained w'
