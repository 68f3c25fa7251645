-- Each refusal is told by the table, in their order. Assumes nothing.
use Rattle.packing_bytes.proofs.Told.{said_unheld, said_unordered, said_split, said_accepted}
use borrow.Author.Rules.{rules}
use Rattle.packing_bytes.proofs.answer_told.Goals as goal

pub returns-then-not-all_held : goal.returns-then-not-all_held
returns-then-not-all_held c = search (rules, said_unheld)

pub returns-then-not-all_follow : goal.returns-then-not-all_follow
returns-then-not-all_follow c = search (rules, said_unordered)

pub returns-then-not-all_whole : goal.returns-then-not-all_whole
returns-then-not-all_whole c = search (rules, said_split)

pub returns : goal.returns
returns c = search (rules, said_accepted)
