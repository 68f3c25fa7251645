-- By the room, and by what is found. Assumes nothing.
use Rattle.std.proofs.Common.{rules}
use Rattle.program_streams.proofs.Aheads.{room_wanting, none_ahead, one_ahead}
use Rattle.program_streams.proofs.Stands.{record_within}
use Rattle.program_streams.proofs.look.Goals as goal

pub returns-then-most-place : goal.returns-then-most-place
returns-then-most-place c = room_wanting _ _ _ _ c.if-most-place.true

pub returns-in_default : goal.returns-in_default
returns-in_default c = none_ahead _ _ _ _ c.if-most-place.false c.next_record-found.ensures c.in_default.not-Record c.left_at-left.ensures

pub place_behind-place-requires : goal.place_behind-place-requires
place_behind-place-requires c =
    let p = c.args.place in
    let w = record_within _ _ _ p.at c.next_record-found.ensures c.in-Record.is in
    search (rules, c.well_formed)

pub returns : goal.returns
returns c =
    one_ahead _ _ _ _ c.if-most-place.false c.next_record-found.ensures
    c.in-Record.is c.place_behind-place.ensures
