-- What is laid, and behind it what is left to tell, is the whole at each turn. Assumes nothing.
use Rattle.std.proofs.lemmas.Bool.{not-true, not-false}
use Rattle.std.proofs.Common.{◌+◌, ◌≤◌, length, arith, rules}
use Rattle.program_streams.specs.Driven.{mark_of}
use Rattle.program_streams.proofs.Stands.{has_room, less_left, stands_behind, stands_at_end, stands_full}
use Rattle.program_streams.proofs.drain.Goals as goal

pub loop-place-smaller : goal.loop-place-smaller
loop-place-smaller g c =
    less_left (mark_of g.T.Teller.kinds) g.T.Teller.telling _ _ c.loop-place.invariant.1 _ (rw c.kinds.ensures at c.look-ahead.ensures) (not-false _ c.if-not-ahead.false)
    c.onward-place.ensures

pub loop-place-preserved : goal.loop-place-preserved
loop-place-preserved g c =
    let t = c.tell-end.ensures in
    let r = has_room (mark_of g.T.Teller.kinds) g.T.Teller.telling _ _ c.loop-place.invariant.1 _ (rw c.kinds.ensures at c.look-ahead.ensures) (not-false _ c.if-not-ahead.false) in
    let room : c.loop-place.place.laid + g.T.Teller.ROOM ≤ length c.loop-place.out = search (rules, c.ROOM.ensures) in (
      search rules,
      stands_behind (mark_of g.T.Teller.kinds) g.T.Teller.telling _ _ c.loop-place.invariant.1 _ (rw c.kinds.ensures at c.look-ahead.ensures) (not-false _ c.if-not-ahead.false) c.kind_at.ensures
          c.body_at.ensures (t.text room) t.state c.onward-place.ensures,
    )

pub returns-then-not-ahead-clause-text : goal.returns-then-not-ahead-clause-text
returns-then-not-ahead-clause-text g c =
    stands_at_end (mark_of g.T.Teller.kinds) g.T.Teller.telling _ _ c.loop-place.invariant.1 _ (rw c.kinds.ensures at c.look-ahead.ensures) (not-true _ c.if-not-ahead.true)
    (omega (arith, c.ROOM.ensures, c.loop-place.invariant.0)) c.put_last.ensures.laid c.put_last.ensures.value

pub returns-then-not-ahead-clause-onward : goal.returns-then-not-ahead-clause-onward
returns-then-not-ahead-clause-onward g c =
    stands_full (mark_of g.T.Teller.kinds) g.T.Teller.telling _ _ c.loop-place.invariant.1 _ (rw c.kinds.ensures at c.look-ahead.ensures) (not-true _ c.if-not-ahead.true)
    (omega (arith, c.ROOM.ensures, c.loop-place.invariant.0)) c.put_last.ensures.laid c.put_last.ensures.value
