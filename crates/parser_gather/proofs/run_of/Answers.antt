-- `parser_gather::run_of` meets its contract: pending bytes are none, or an even number below their packet's size, copied over zeros. Assumes nothing.
use native.Mathlib.Omega.{arith}
use Rattle.parser_gather.proofs.Gathers.{pending_none, pending_few, pending_fits, pending_some, pending_sized}
use borrow.Author.Rules.{rules}
use Rattle.parser_gather.proofs.run_of.Goals as goal

pub returns-then-len-eq0-clause-holds : goal.returns-then-len-eq0-clause-holds
returns-then-len-eq0-clause-holds c =
    search (rules, pending_none)

pub slice_bounds-put_bytes-end-2 : goal.slice_bounds-put_bytes-end-2
slice_bounds-put_bytes-end-2 c = let few = pending_few _ _ c.requires.pending_value c.if-len-eq0.false in omega arith

pub overflow_sub-result : goal.overflow_sub-result
overflow_sub-result c = search (rules, pending_fits)

pub returns-clause-holds : goal.returns-clause-holds
returns-clause-holds c =
    let some = c.if-len-eq0.false in pending_some _ _ c.requires.pending_value some _ c.packet_size.ensures (omega arith) _ _ c.requires.bytes_value c.put_bytes.ensures

pub returns-clause-sized : goal.returns-clause-sized
returns-clause-sized c =
    let some = c.if-len-eq0.false in pending_sized _ _ c.requires.pending_value some _ c.packet_size.ensures
