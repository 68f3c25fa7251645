-- The functions that test the pending bytes and gather packets. Assumes nothing.
use mathlib.Core.Path.{◌≡◌, sym, ap, ◌∙◌}
use mathlib.Core.List.{List}
use Prim.Native.Nat.{ℕ}
use contract.Lifetimes.{Lfts}
use Rattle.slots.specs.declared.Slot.{Slot}
use Rattle.parser_gather.specs.Gather.{Left, left_in}
use Rattle.parser_gather.specs.declared.Remains.{Remains}
use Rattle.parser_gather.proofs.pending_good.Reads as PendingGoodReads
use Rattle.parser_gather.proofs.gather_frame.Reads as GatherFrameReads
use Rattle.determined.specs.Determines.{Determines, DeterminesLent}
use Rattle.determined.proofs.Ways.{equal}

-- what the code gives, taken back
abbrev remains_in : Left → Remains
remains_in x = record { waiting = x.count; pending = x.pending }

-- what lies in the lent places, taken back
abbrev lent_in : Left → List Slot × List ℕ
lent_in x = (x.slots, x.bytes)

-- packets gathered, with the slots and the pending bytes in lent places
gathers : {A E : Type 0} {left : A → Left} {slots : E → List Slot} {bytes : E → List ℕ}
    → DeterminesLent {X = List Slot × List ℕ} (λ (e : E). (slots e, bytes e)) (λ (a : A) (r : Remains) (e : E). left_in r (bytes e) (slots e) ≡ left a)
gathers = record { result = λ a r q e f h k. ap remains_in (h ∙ sym k); contents = λ a r q e f h k. ap lent_in (h ∙ sym k) }

-- `pending_good(bytes, len)`
pub pending_good : (κs : Lfts 1) → Determines (PendingGoodReads.Post κs)
pending_good κs = equal

-- `gather_frame(first, count, slots, len, pending, frame)`
pub gather_frame : (κs : Lfts 3) → DeterminesLent {X = List Slot × List ℕ} (λ e. (e.1.1.0.now, e.1.1.1.1.0.now)) (GatherFrameReads.Post κs)
gather_frame κs = gathers
