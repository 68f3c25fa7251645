-- Where both lie in one place the list decides, and else the places do. Assumes nothing.
use Rattle.packing_bytes.proofs.Tests.{follows_none, follows_same, follows_other}
use borrow.Author.Rules.{rules}
use Rattle.packing_bytes.proofs.follows_last.Goals as goal

pub returns-then-last-eq0 : goal.returns-then-last-eq0
returns-then-last-eq0 c = search (rules, follows_none)

pub returns-then-x-y : goal.returns-then-x-y
returns-then-x-y c =
    follows_same _ _ _ _ _ c.lies_at-x.ensures.0 c.lies_at-x.ensures.1
    c.lies_at-y.ensures.0 c.lies_at-y.ensures.1 c.if-last-eq0.false
    c.requires c.if-x-y.true

pub returns : goal.returns
returns c = search (rules, follows_other)
