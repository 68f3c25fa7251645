-- Two numbers of four bytes are one of eight. Assumes nothing.
use Rattle.script_services.proofs.Sets.{eight_bytes}
use Rattle.script_services.proofs.set_in.Goals as goal

pub returns : goal.returns
returns c = rw (c.number_at.ensures, c.number_at-2.ensures) (eight_bytes _)
