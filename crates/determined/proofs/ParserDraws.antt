-- The functions that take an item out of what waits. Assumes nothing.
use mathlib.Core.Path.{sym, ◌∙◌}
use mathlib.Core.List.{List}
use Prim.Native.Nat.{ℕ}
use contract.Lifetimes.{Lfts}
use Rattle.parser_draws.proofs.no_packet.Reads as NoPacketReads
use Rattle.parser_draws.proofs.take_pair.Reads as TakePairReads
use Rattle.parser_draws.proofs.take_packet.Reads as TakePacketReads
use Rattle.determined.specs.Determines.{Determines, DeterminesLent}
use Rattle.determined.proofs.Ways.{equal, two}

-- `no_packet()`
pub no_packet : Determines (NoPacketReads.Post (tt {0}))
no_packet = equal

-- `take_pair(pairs, count)`
pub take_pair : (κs : Lfts 2) → DeterminesLent {X = List ℕ × ℕ} (λ e. (e.0.now, e.1.0.now)) (TakePairReads.Post κs)
take_pair κs =
    record {
      result = λ a r q e f h k. h.0 ∙ sym k.0;
      contents = λ a r q e f h k. two (λ x y. (x, y)) (h.1.1 ∙ sym k.1.1) (h.1.0 ∙ sym k.1.0);
    }

-- `take_packet(slots, first, count)`
pub take_packet : (κs : Lfts 3) → DeterminesLent {X = ℕ × ℕ} (λ e. (e.1.0.now, e.1.1.0.now)) (TakePacketReads.Post κs)
take_packet κs =
    record {
      result = λ a r q e f h k. h.0 ∙ sym k.0;
      contents = λ a r q e f h k. two (λ x y. (x, y)) (h.1.1 ∙ sym k.1.1) (h.1.0 ∙ sym k.1.0);
    }
