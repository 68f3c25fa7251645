-- Before each turn the blocks up to the place are laid; the walk ends where none is left. Assumes nothing.
use mathlib.Core.Path.{refl}
use Rattle.script_packets.specs.Lines.{shown_text}
use Rattle.script_packets.proofs.Blocks.{texts_begun, texts_more, texts_none, texts_refused, texts_most}
use borrow.Author.Rules.{rules}
use Rattle.script_packets.proofs.put_blocks.Goals as goal

pub loop-place-init : goal.loop-place-init
loop-place-init c = (refl, search (rules, texts_begun shown_text))

pub loop-place-preserved : goal.loop-place-preserved
loop-place-preserved c = (
  search rules,
  texts_more shown_text _ c.loop-place.place _ _ _ c.service.ensures c.in-Ok-Some.is c.in-Ok-Some.field-0-is c.loop-place.invariant.1 c.put_block-laid.ensures,
)

pub returns-in_default : goal.returns-in_default
returns-in_default c = search (rules, texts_none shown_text)

pub returns-in_default-2 : goal.returns-in_default-2
returns-in_default-2 c = search (rules, texts_refused shown_text)

pub returns : goal.returns
returns c = search (rules, texts_most shown_text)
