-- Before each turn the lengths of the codes up to the place are laid; at the end all are. Assumes nothing.
use mathlib.Core.Path.{◌≡◌}
use lib.ListN.{length, take}
use Rattle.codes_cuts.specs.Cuts.{cut_of}
use Rattle.program_text.specs.Laid.{Laid}
use Rattle.program_lines.specs.Lines.{values_text}
use Rattle.script_codes.specs.Lines.{lengths_of}
use Rattle.script_codes.proofs.put_lengths.Given as goal

abbrev pub invariant-loop-i : goal.invariant-loop-i
invariant-loop-i l = (l.count ≡ length (cut_of l.payload)) × (length l.out ≡ length l.initial.out) × Laid (values_text (lengths_of (take l.i (cut_of l.payload)))) l.initial.out l.initial.laid l.laid l.out
