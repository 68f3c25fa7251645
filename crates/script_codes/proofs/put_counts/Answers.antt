-- Before each turn the counts of the blocks up to the place are laid; the walk ends where no block is left. Assumes nothing.
use mathlib.Core.Path.{refl}
use borrow.Author.Rules.{rules}
use Rattle.script_packets.proofs.Blocks.{texts_begun, texts_more, texts_none, texts_refused, texts_most}
use Rattle.script_codes.specs.Lines.{count_text}
use Rattle.script_codes.proofs.put_counts.Goals as goal

pub loop-place-init : goal.loop-place-init
loop-place-init c = (refl, search (rules, texts_begun count_text))

pub loop-place-preserved : goal.loop-place-preserved
loop-place-preserved c = (
  search rules,
  texts_more count_text _ c.loop-place.place _ _ _ c.service.ensures c.in-Ok-Some.is c.in-Ok-Some.field-0-is c.loop-place.invariant.1 (rw c.count_in.ensures at c.put_value-laid.ensures),
)

pub returns-in_default : goal.returns-in_default
returns-in_default c = search (rules, texts_none count_text)

pub returns-in_default-2 : goal.returns-in_default-2
returns-in_default-2 c = search (rules, texts_refused count_text)

pub returns : goal.returns
returns c = search (rules, texts_most count_text)
