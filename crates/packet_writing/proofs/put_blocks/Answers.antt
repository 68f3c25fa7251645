-- The invariant `Laying`: what is laid and what the rest will lay are all blocks as written. Assumes nothing.
use mathlib.Core.Path.{refl, sym, ap, ◌∙◌}
use native.Mathlib.Nat.{add-sub_cancel_left}
use native.Mathlib.Omega.{arith}
use lib.ListN.{length}
use lib.Seq.{length-sets}
use Rattle.packet_writing.proofs.Writes.{laying_last, laying_next, good_here, bytes_here, part_here}
use Rattle.packet_writing.proofs.put_blocks.Goals as goal

pub slice_bounds-put_block-end : goal.slice_bounds-put_block-end
slice_bounds-put_block-end c = bytes_here _ _ _ _ _ _ _ _ _ c.loop-i.invariant.0 c.loop-i-test.true

pub put_block-requires : goal.put_block-requires
put_block-requires c =
    let l = c.loop-i in
    let p = part_here _ _ _ _ _ _ _ _ _ l.invariant.0 c.loop-i-test.true in
    (omega (arith, l.invariant.0.here), sym (rw add-sub_cancel_left p), (good_here _ _ _ _ _ _ _ _ _ l.invariant.0 c.loop-i-test.true).small)

pub loop-i-preserved : goal.loop-i-preserved
loop-i-preserved c =
    let l = c.loop-i in (
      laying_next _ _ _ _ _ _ _ _ _ l.invariant.0 c.loop-i-test.true c.written_header_length.result _ _ _ c.written_header_length.ensures
          refl refl (c.put_block.ensures ∙ rw add-sub_cancel_left),
      ap length c.put_block.ensures ∙ simp length-sets l.invariant.1,
    )

pub returns : goal.returns
returns c = laying_last _ _ _ _ _ _ _ _ _ c.loop-i.invariant.0 c.loop-i-test.false
