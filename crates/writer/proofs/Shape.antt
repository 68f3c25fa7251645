-- Owning a state gives its arrays their lengths. So they hold of a state that is lent: `is_valid` tells them of each, within the limits or not.
-- Assumes nothing.
use mathlib.Core.Bool.{Bool}
use mathlib.Core.List.{List}
use mir.Val.{Val}
use contract.Lifetimes.{Lfts}
use denote.Laws.{Is}
use denote.Ref.{Bor}
use borrow.Author.Rules.{rules}
use Rattle.slots.proofs.Row.{length_mapped}
use Rattle.writer.proofs.Valid.{Shaped}
use Rattle.writer.proofs.CCDataWriter.is_valid.Reads as IsValidReads
use Rattle.writer.specs.contracts.CCDataWriter as writer
use Rattle.writer.specs.declared.CCDataWriter.{CCDataWriter}

-- a state that is owned, whatever call it is then handed to
pub shaped : (w : CCDataWriter) (vs : List Val) → Is writer.the_row w vs → Shaped w
shaped w vs owned = record { packets = search (rules, length_mapped, owned); first = search rules; second = search rules }

-- a state that is lent, whatever the test says of it
pub lent_shaped : (κs : Lfts 1) (w : Bor CCDataWriter) (r : Bool) → IsValidReads.Post κs (w, tt) r (w, tt) → Shaped w.now
lent_shaped κs w r told = told.1
