-- Each way out is one law about what the blocks from there on lay. Assumes nothing.
use mathlib.Core.Path.{refl, sym, ◌∙◌}
use native.Mathlib.Omega.{arith}
use Rattle.packet_moves.proofs.Moves.{head_room, reach, move_within}
use Rattle.packet_blocks.proofs.Reading.{laid_none, laid_short, keep_room, room_next, laid_next}
use Rattle.packet_blocks.proofs.+read_blocks.Goals as goal

pub returns-then-through : goal.returns-then-through
returns-then-through g t c = laid_none _ _ _ _ _ (sym c.through.ensures ∙ c.if-through.true)

pub returns-in_default : goal.returns-in_default
returns-in_default g t c =
    laid_short _ _ _ _ _ _ g.met.W.Way.goes (sym c.through.ensures ∙ c.if-through.false) _ c.header_at.ensures _ c.in_default.is c.short_at.ensures

pub overflow_add-from : goal.overflow_add-from
overflow_add-from g t c =
    let r = reach _ _ _ _ g.met.W.Way.goes (sym c.through.ensures ∙ c.if-through.false) _ c.header_at.ensures _ c.in-Some.is in
    omega (arith, r, c.requires.short)

pub overflow_add-from-2 : goal.overflow_add-from-2
overflow_add-from-2 g t c =
    let r = reach _ _ _ _ g.met.W.Way.goes (sym c.through.ensures ∙ c.if-through.false) _ c.header_at.ensures _ c.in-Some.is in
    omega (arith, r, c.requires.short)

pub slice_bounds-keep-end : goal.slice_bounds-keep-end
slice_bounds-keep-end g t c = reach _ _ _ _ g.met.W.Way.goes (sym c.through.ensures ∙ c.if-through.false) _ c.header_at.ensures _ c.in-Some.is

pub keep-next-requires : goal.keep-next-requires
keep-next-requires g t c =
    let room = keep_room _ _ _ c.args.packet.now _ _ g.met.W.Way.goes (sym c.through.ensures ∙ c.if-through.false) _ c.header_at.ensures _ c.in-Some.is _ refl
    c.requires.short c.requires.blocks c.requires.bytes in
    record { small = room.0; block = room.1; bytes = room.2 }

pub overflow_cast-start : goal.overflow_cast-start
overflow_cast-start g t c = let w = head_room _ _ _ c.header_at.ensures c.in-Some.is in omega (arith, w.0)

pub overflow_cast-size : goal.overflow_cast-size
overflow_cast-size g t c = let w = head_room _ _ _ c.header_at.ensures c.in-Some.is in omega (arith, w.1)

pub overflow_add-at : goal.overflow_add-at
overflow_add-at g t c =
    let w = move_within _ _ _ _ g.met.W.Way.goes (sym c.through.ensures ∙ c.if-through.false) _ c.header_at.ensures _ c.in-Some.is in
    omega (arith, w.0, c.moved.ensures, c.requires.short)

pub read_blocks-requires : goal.read_blocks-requires
read_blocks-requires g t c κs within =
    let w = move_within _ _ _ _ g.met.W.Way.goes (sym c.through.ensures ∙ c.if-through.false) _ c.header_at.ensures _ c.in-Some.is in
    let room = room_next _ _ _ _ _ _ g.met.W.Way.goes (sym c.through.ensures ∙ c.if-through.false) _ c.header_at.ensures _ c.in-Some.is _ refl
    _ c.moved.ensures _ _ c.keep-next.ensures.laid c.keep-next.ensures.used c.requires.blocks c.requires.bytes in
    (omega (arith, w.0, w.1, c.moved.ensures), (within, (c.requires.short, room)))

pub returns : goal.returns
returns g t c =
    laid_next _ _ _ _ _ _ g.met.W.Way.goes (sym c.through.ensures ∙ c.if-through.false) _ c.header_at.ensures _ c.in-Some.is _ refl
    _ c.moved.ensures _ _ c.keep-next.ensures.laid c.keep-next.ensures.used _ _ c.read_blocks.ensures
