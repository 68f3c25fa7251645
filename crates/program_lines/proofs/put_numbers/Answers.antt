-- Each number is laid behind those before it. Assumes nothing.
use borrow.Author.Rules.{rules}
use Rattle.program_lines.proofs.Tellings.{laid_none, laid_more}
use Rattle.program_lines.proofs.put_numbers.Goals as goal

pub loop-n-init : goal.loop-n-init
loop-n-init c = search (rules, laid_none)

pub loop-n-preserved : goal.loop-n-preserved
loop-n-preserved c = laid_more c.args.numbers.now c.loop-n.n-index c.loop-n-test.true c.loop-n.invariant c.put_value-p.ensures
