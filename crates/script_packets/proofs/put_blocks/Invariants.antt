-- Before each turn the blocks up to the place are laid; the walk ends where none is left. Assumes nothing.
use lib.ListN.{length, take}
use mathlib.Core.Path.{◌≡◌}
use Rattle.program_text.specs.Laid.{Laid}
use Rattle.script_packets.specs.Lines.{blocks_text, blocks_in}
use Rattle.script_packets.proofs.put_blocks.Given as goal

abbrev pub invariant-loop-place : goal.invariant-loop-place
invariant-loop-place l = (length l.out ≡ length l.initial.out) × Laid (blocks_text (take l.place (blocks_in l.packet))) l.initial.out l.initial.laid l.laid l.out
