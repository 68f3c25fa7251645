-- `slots::slots_written` meets its contract: one law of `Row` for each way out. Assumes nothing.
use Rattle.slots.proofs.Row.{over_packets, bad_sending, all_packets}
use borrow.Author.Rules.{rules}
use Rattle.slots.proofs.slots_written.Goals as goal

pub returns-then-count-gt-MOST_PACKETS : goal.returns-then-count-gt-MOST_PACKETS
returns-then-count-gt-MOST_PACKETS c = search (rules, over_packets)

pub returns-then-sends_whole : goal.returns-then-sends_whole
returns-then-sends_whole c = search (rules, all_packets)

pub returns : goal.returns
returns c = search (rules, bad_sending)
