-- The tests of the length come first; the blocks tell the rest. Assumes nothing.
use borrow.Author.Rules.{rules}
use Rattle.packet_reading.proofs.Readers.{none_read, wrong_read, blocks_read}
use Rattle.packet_reading.proofs.read_into.Goals as goal

pub returns-then-n-eq0-clause-read : goal.returns-then-n-eq0-clause-read
returns-then-n-eq0-clause-read g c = search (rules, none_read)

pub returns-then-is_wrong-clause-read : goal.returns-then-is_wrong-clause-read
returns-then-is_wrong-clause-read g c = search (rules, wrong_read)

pub returns-clause-read : goal.returns-clause-read
returns-clause-read g c = let goes = g.met.W.Way.goes in search (rules, blocks_read)
