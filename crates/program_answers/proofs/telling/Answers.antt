-- At most three values are laid into three places. Assumes nothing.
use mathlib.Core.Path.{ap}
use mathlib.Core.List.{List}
use Prim.Native.Nat.{ℕ}
use lib.ListN.{length}
use Rattle.program_answers.specs.declared.Numbers.{Numbers}
use Rattle.program_answers.proofs.Tellings.{three_laid}
use Rattle.program_answers.proofs.telling.Goals as goal

pub returns : goal.returns
returns c =
    ap (λ (t : List ℕ). record { number = c.args.number; count = length c.args.values.now; values = t })
    (three_laid c.args.values.now _ c.requires c.put_front.ensures)
