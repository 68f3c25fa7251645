-- `caption::Framerate::budgets` meets its contract: one law of `Rates` for each way out. Assumes nothing.
use native.Mathlib.Omega.{arith}
use Rattle.caption.proofs.Rates.{too_fast, too_slow, rate_accepted}
use Rattle.caption.proofs.Framerate.budgets.Goals as goal

pub returns-then-denom-numer : goal.returns-then-denom-numer
returns-then-denom-numer c = too_fast c.args.self.numer c.args.self.denom (omega (arith, c.if-denom-numer.true))

pub returns-then-numer-denom : goal.returns-then-numer-denom
returns-then-numer-denom c = too_slow c.args.self.numer c.args.self.denom (omega (arith, c.if-numer-denom.true))

pub returns : goal.returns
returns c = rate_accepted c.args.self.numer c.args.self.denom (omega (arith, c.if-denom-numer.false)) (omega (arith, c.if-numer-denom.false))
    c.nearest.ensures c.nearest-2.ensures
