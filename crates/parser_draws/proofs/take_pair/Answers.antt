-- `parser_draws::take_pair` meets its contract: the first pair is taken and the others are moved down. Assumes nothing.
use Rattle.parser_draws.proofs.Draws.{pair_none, pair_over, pair_some}
use Rattle.parser_draws.proofs.take_pair.Goals as goal

pub returns-then-n-eq0-clause-pair : goal.returns-then-n-eq0-clause-pair
returns-then-n-eq0-clause-pair c = rw (pair_none _ c.if-n-eq0.true)

pub returns-then-n-eq0-clause-places : goal.returns-then-n-eq0-clause-places
returns-then-n-eq0-clause-places c = rw (pair_none _ c.if-n-eq0.true)

pub returns-then-n-gt-MOST_PAIRS-clause-pair : goal.returns-then-n-gt-MOST_PAIRS-clause-pair
returns-then-n-gt-MOST_PAIRS-clause-pair c = rw (pair_over _ c.if-n-gt-MOST_PAIRS.true)

pub returns-then-n-gt-MOST_PAIRS-clause-left : goal.returns-then-n-gt-MOST_PAIRS-clause-left
returns-then-n-gt-MOST_PAIRS-clause-left c = rw (pair_over _ c.if-n-gt-MOST_PAIRS.true)

pub returns-then-n-gt-MOST_PAIRS-clause-places : goal.returns-then-n-gt-MOST_PAIRS-clause-places
returns-then-n-gt-MOST_PAIRS-clause-places c = rw (pair_over _ c.if-n-gt-MOST_PAIRS.true)

pub returns-clause-pair : goal.returns-clause-pair
returns-clause-pair c = rw (pair_some _ c.if-n-eq0.false c.if-n-gt-MOST_PAIRS.false, c.first_pair-pair.ensures)

pub returns-clause-left : goal.returns-clause-left
returns-clause-left c = rw (pair_some _ c.if-n-eq0.false c.if-n-gt-MOST_PAIRS.false)

pub returns-clause-places : goal.returns-clause-places
returns-clause-places c = rw (pair_some _ c.if-n-eq0.false c.if-n-gt-MOST_PAIRS.false) c.shift_pairs.ensures
