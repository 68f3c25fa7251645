-- `parser_gather::gather_frame` meets its contract: the test gives what the worker asks. Assumes nothing.
use Rattle.parser_gather.proofs.Pending.{ready_within, ready_few, ready_fine, gather_unready, gather_ready}
use Rattle.parser_gather.proofs.gather_frame.Goals as goal

pub gather_within-requires-clause-first_bound : goal.gather_within-requires-clause-first_bound
gather_within-requires-clause-first_bound c = ready_within _ _ _ _ _ c.ready.ensures c.if-not-ready.false

pub gather_within-requires-clause-count_bound : goal.gather_within-requires-clause-count_bound
gather_within-requires-clause-count_bound c = ready_few _ _ _ _ _ c.ready.ensures c.if-not-ready.false

pub gather_within-requires-clause-pending_value : goal.gather_within-requires-clause-pending_value
gather_within-requires-clause-pending_value c = ready_fine _ _ _ _ _ c.ready.ensures c.if-not-ready.false

pub returns-then-not-ready : goal.returns-then-not-ready
returns-then-not-ready c = gather_unready _ _ _ _ _ _ _ c.ready.ensures c.if-not-ready.true

pub returns : goal.returns
returns c = gather_ready _ _ _ _ _ _ _ c.ready.ensures _ c.if-not-ready.false c.gather_within.ensures
