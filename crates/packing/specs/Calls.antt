-- What is told of a proposal that is made [A1]. Assumes nothing.
use Rattle.std.specs.Prelude.{length}
use Rattle.model_packing.specs.FirstCome.{Proposed}
use Rattle.packing.specs.declared.Made.{Made}

-- how many packets are filled, and how many bytes the pieces are
abbrev pub told_of : Proposed → Made
told_of x = record { packets = x.packets; len = length x.numbers }
