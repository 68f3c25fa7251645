-- `basics::cut` meets its contract: 31 steps at the most are cut off, and with each take about half as many are still to come. Assumes nothing.
use native.Mathlib.Omega.{arith}
use borrow.Author.Rules.{rules}
use Rattle.basics.proofs.Cuts.{Cutting, begun, goes, ended}
use Rattle.basics.proofs.cut.Goals as goal
use Rattle.basics.proofs.cut.Goals.{After-take-by16, After-take-by8, After-take-by4, After-take-by2}

-- 15 more at the most
by16 : (c : After-take-by16) → Cutting c.args.sum c.args.step 15 c.take-by16.result
by16 c = goes _ _ _ 15 (omega arith) c.take-by16.ensures (begun _ _)

-- 7
by8 : (c : After-take-by8) → Cutting c.args.sum c.args.step 7 c.take-by8.result
by8 c = goes _ _ _ 7 (omega arith) c.take-by8.ensures (by16 c.before)

-- 3
by4 : (c : After-take-by4) → Cutting c.args.sum c.args.step 3 c.take-by4.result
by4 c = goes _ _ _ 3 (omega arith) c.take-by4.ensures (by8 c.before)

-- one
by2 : (c : After-take-by2) → Cutting c.args.sum c.args.step 1 c.take-by2.result
by2 c = goes _ _ _ 1 (omega arith) c.take-by2.ensures (by4 c.before)

pub returns : goal.returns
returns c = ended _ _ (goes _ _ 1 0 (omega arith) c.take.ensures (by2 c.before))
