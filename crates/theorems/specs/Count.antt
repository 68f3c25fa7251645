-- What is promised of one frame whose write found a padding or the true count on. Assumes nothing.
use Rattle.std.specs.Prelude.{Ok, Err, ◌≡◌, List, ℕ, ◌+◌, ◌*◌, ◌<◌, length, get_or, drop}
use Rattle.model.specs.Frame.{triples_in, count_in}
use Rattle.caption.specs.declared.Refusal.{Refusal}
use Rattle.caption.specs.declared.Refusal.TheVariants.{Full}
use Rattle.parser.specs.declared.CCDataParser.{CCDataParser}
use Rattle.theorems.specs.Allowed.{Answer}

-- the count in the first byte is the number of triples behind the second, and behind these there is nothing
pub record TrueCount (frame : List ℕ) : Type 0 where
  pub counts : count_in (get_or frame 0 0) ≡ length (triples_in (drop 2 frame))
  pub all : length frame ≡ 2 + 3 * length (triples_in (drop 2 frame))

-- a demultiplexer takes it: it refuses only with 10 [R10], and not where the packets that wait and the frame's count are fewer than 32, so not where
-- none waits
pub record Takes (p : CCDataParser) (frame : List ℕ) (answer : Answer) : Type 0 where
  pub only_full : (why : Refusal) → answer ≡ Err why → why ≡ Full
  pub taken : p.waiting_count + count_in (get_or frame 0 0) < 32 → answer ≡ Ok tt
  pub none_waits : p.waiting_count ≡ 0 → answer ≡ Ok tt
