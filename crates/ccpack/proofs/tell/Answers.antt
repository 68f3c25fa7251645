-- There is room for the text of what is kept, and that is the text of the input. Assumes nothing.
use Rattle.std.proofs.Common.{arith}
use Rattle.ccpack.proofs.Inputs.{tells}
use Rattle.ccpack.proofs.tell.Goals as goal

pub send-requires : goal.send-requires
send-requires c =
    tells _ (λ i. omega (arith, c.type_inv.buf i)) _ c.requires.in_bounds c.part.ensures c.put_job-end.ensures c.part-2.ensures
