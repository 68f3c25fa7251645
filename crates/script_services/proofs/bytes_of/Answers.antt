-- Each byte is that of its place. Assumes nothing.
use native.Mathlib.Nat.{div-one}
use Rattle.script_services.specs.Sets.{highest_bytes}
use Rattle.script_services.proofs.bytes_of.Goals as goal

pub returns : goal.returns
unfolding highest_bytes
returns c = rw (div-one c.args.set)
