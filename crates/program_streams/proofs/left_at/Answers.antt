-- `program_streams::left_at` meets its contract: each case is told by what was found. Assumes nothing.
use Rattle.program_streams.specs.Ends.{left_at}
use Rattle.program_streams.proofs.left_at.Goals as goal

pub returns-in-WrongMark : goal.returns-in-WrongMark
unfolding left_at
returns-in-WrongMark c = rw c.in-WrongMark.is

pub returns-in-Short : goal.returns-in-Short
unfolding left_at
returns-in-Short c = rw c.in-Short.is

pub returns-in-End : goal.returns-in-End
unfolding left_at
returns-in-End c = rw c.in-End.is

pub returns-in-More : goal.returns-in-More
unfolding left_at
returns-in-More c = rw c.in-More.is

pub returns-in-Record : goal.returns-in-Record
unfolding left_at
returns-in-Record c = rw c.in-Record.is
