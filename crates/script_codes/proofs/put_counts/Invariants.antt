-- Before each turn the counts of the blocks up to the place are laid; the walk ends where no block is left. Assumes nothing.
use mathlib.Core.Path.{◌≡◌}
use lib.ListN.{length, take}
use Rattle.program_text.specs.Laid.{Laid}
use Rattle.script_packets.specs.Lines.{each_text, blocks_in}
use Rattle.script_codes.specs.Lines.{count_text}
use Rattle.script_codes.proofs.put_counts.Given as goal

abbrev pub invariant-loop-place : goal.invariant-loop-place
invariant-loop-place l = (length l.out ≡ length l.initial.out) × Laid (each_text count_text (take l.place (blocks_in l.packet))) l.initial.out l.initial.laid l.laid l.out
