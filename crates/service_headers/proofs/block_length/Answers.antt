-- Its three ways out are the three cases of `length_by`, by the tests on the way. Assumes nothing.
use borrow.Author.Tests.{eq-eqb, ne_eqb, lt-ltb, le-ltb}
use Rattle.service_headers.proofs.Heads.{length_by}
use Rattle.service_headers.proofs.block_length.Goals as goal

pub returns-then-size-eq0 : goal.returns-then-size-eq0
returns-then-size-eq0 c = rw (length_by _ _) (simp (eq-eqb _ _ c.if-size-eq0.true))

pub returns-then-number-lt7 : goal.returns-then-number-lt7
returns-then-number-lt7 c = rw (length_by _ _) (simp (ne_eqb _ _ c.if-size-eq0.false, lt-ltb _ _ c.if-number-lt7.true))

pub returns : goal.returns
returns c = rw (length_by _ _) (simp (ne_eqb _ _ c.if-size-eq0.false, le-ltb _ _ c.if-number-lt7.false))
