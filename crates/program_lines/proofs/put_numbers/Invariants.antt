-- The numbers passed stand behind one another. Assumes nothing.
use lib.ListN.{take}
use Rattle.program_text.specs.Laid.{Laid}
use Rattle.program_lines.specs.Lines.{values_text}
use Rattle.program_lines.proofs.put_numbers.Given as goal

abbrev pub invariant-loop-n : goal.invariant-loop-n
invariant-loop-n l = Laid (values_text (take l.n-index l.numbers)) l.initial.out l.at l.p l.out
