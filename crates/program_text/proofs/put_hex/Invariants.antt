use Rattle.std.proofs.Common.{take}
use Rattle.program_text.specs.Laid.{Laid}
use Rattle.program_text.specs.Text.{hex}
use Rattle.program_text.proofs.put_hex.Given as goal

-- the bytes gone through are laid
abbrev pub invariant-loop-byte : goal.invariant-loop-byte
invariant-loop-byte l = Laid (hex (take l.byte-index l.bytes)) l.initial.out l.at l.end l.out
