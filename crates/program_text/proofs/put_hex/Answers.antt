-- The next byte is laid behind those gone through. Assumes nothing.
use Rattle.program_text.proofs.Layings.{hex_more}
use Rattle.program_text.proofs.put_hex.Goals as goal

pub loop-byte-preserved : goal.loop-byte-preserved
loop-byte-preserved c = hex_more _ _ c.loop-byte-test.true c.loop-byte.invariant c.put_hex_byte-end.ensures
