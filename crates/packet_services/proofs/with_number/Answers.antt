-- The two cases of the number: above 63, or with a bit of its own. Assumes nothing.
use mathlib.Core.Path.{ap, ◌∙◌}
use Prim.Native.Nat.{ℕ, ◌^◌}
use native.Mathlib.Nat.{one-mul}
use native.Mathlib.Omega.{arith}
use lib.Bits.{bit_or}
use lib.Pow.{shl_exact}
use Rattle.packet_services.proofs.Services.{with_none, with_one}
use Rattle.packet_services.proofs.with_number.Goals as goal

pub returns-then-number-gt-MOST_NUMBER : goal.returns-then-number-gt-MOST_NUMBER
returns-then-number-gt-MOST_NUMBER c = with_none _ _ c.if-number-gt-MOST_NUMBER.true

pub returns : goal.returns
returns c =
    ap (λ (x : ℕ). bit_or c.args.set x) (shl_exact {a = 1} 1 c.args.number 64 (omega arith) (omega arith) ∙ one-mul (2 ^ c.args.number)) ∙ with_one _ _ c.if-number-gt-MOST_NUMBER.false
