-- Header, blocks and fill laid one behind the other are the packet as written, and the room is tested before. Assumes nothing.
use mathlib.Core.Path.{◌≡◌, sym, ap}
use lib.ListN.{length}
use Rattle.model.specs.Said.{gave, refused, bad_value}
use Rattle.packet_entries.specs.Fields.{Fields, fields}
use Rattle.packet_entries.specs.Extent.{Sized}
use Rattle.packet_entries.proofs.Holds.{within_facts}
use Rattle.packet_entries.proofs.Walks.{extent_sized, extent_invalid}
use Rattle.packet_entries.proofs.Measures.{length_small}
use Rattle.packet_writing.specs.Writing.{written}
use Rattle.packet_writing.proofs.Writes.{write_invalid, write_short, write_fits, written_total, packet_laid, writable}
use borrow.Author.Rules.{rules}
use Rattle.packet_writing.proofs.write.Goals as goal
use Rattle.packet_writing.proofs.write.Goals.{In-Some}

-- the places, and their sums where the extent is known
abbrev of : In-Some → Fields
of c = fields c.args.seq_no c.args.count c.args.numbers.now c.args.sizes.now c.args.payload.now

full : (c : In-Some) → length c.args.payload.now ≡ 127
full c = search rules

sized : (c : In-Some) → Sized (of c) c.in-Some.extent.length c.in-Some.extent.used
sized c = extent_sized (of c) _ c.extent_of.ensures _ c.in-Some.is

-- 11: a limit is broken
invalid : (c : goal.In_default) → written (fields c.args.seq_no c.args.count c.args.numbers.now c.args.sizes.now c.args.payload.now) c.args.out.now ≡ refused bad_value
invalid c =
    let p : Fields = fields c.args.seq_no c.args.count c.args.numbers.now c.args.sizes.now c.args.payload.now in
    write_invalid p (search rules) _ (extent_invalid p _ c.extent_of.ensures c.in_default.is)

pub returns-in_default-clause-answer : goal.returns-in_default-clause-answer
returns-in_default-clause-answer c = rw (invalid c)

pub returns-in_default-clause-output : goal.returns-in_default-clause-output
returns-in_default-clause-output c = rw (invalid c)

pub written_in-total-requires : goal.written_in-total-requires
written_in-total-requires c = let e = (goal.at.written_in-total-requires c).In-Some in length_small (of e) _ _ (sized e)

pub returns-then-out-total-clause-answer : goal.returns-then-out-total-clause-answer
returns-then-out-total-clause-answer c =
    let e = (goal.at.returns-then-out-total-clause-answer c).In-Some in rw (write_short (of e) _ _ (sized e) (full e) _ c.written_in-total.ensures _ c.if-out-total.true)

pub returns-then-out-total-clause-output : goal.returns-then-out-total-clause-output
returns-then-out-total-clause-output c =
    let e = (goal.at.returns-then-out-total-clause-output c).In-Some in rw (write_short (of e) _ _ (sized e) (full e) _ c.written_in-total.ensures _ c.if-out-total.true)

pub header_byte-requires : goal.header_byte-requires
header_byte-requires c = let e = (goal.at.header_byte-requires c).In-Some in ((within_facts (of e) (sized e).valid).sequence, length_small (of e) _ _ (sized e))

pub put_blocks-requires : goal.put_blocks-requires
put_blocks-requires c = let e = (goal.at.put_blocks-requires c).In-Some in writable (of e) (sized e).valid (full e)

pub returns-clause-answer : goal.returns-clause-answer
returns-clause-answer c =
    let e = (goal.at.returns-clause-answer c).In-Some in
    rw (write_fits (of e) _ _ (sized e) (full e) _ c.written_in-total.ensures _ _ c.if-out-total.false
    (packet_laid (of e) _ _ (sized e) (full e) _ _ _ _ c.header_byte.ensures c.put_blocks.ensures c.put_fill.ensures))
    (ap gave (sym (written_total (of e) _ _ (sized e) (full e) _ c.written_in-total.ensures)))

pub returns-clause-output : goal.returns-clause-output
returns-clause-output c =
    let e = (goal.at.returns-clause-output c).In-Some in
    rw (write_fits (of e) _ _ (sized e) (full e) _ c.written_in-total.ensures _ _ c.if-out-total.false
    (packet_laid (of e) _ _ (sized e) (full e) _ _ _ _ c.header_byte.ensures c.put_blocks.ensures c.put_fill.ensures))
