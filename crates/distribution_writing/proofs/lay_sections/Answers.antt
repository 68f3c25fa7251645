-- Each piece is laid behind the one before it, and together they are the sections. Assumes nothing.
use native.Mathlib.Omega.{arith}
use Rattle.model.proofs.Distribution.{whole_length}
use Rattle.distribution_writing.proofs.Laid.{coded_few, pieces_laid}
use Rattle.distribution_writing.proofs.lay_sections.Goals as goal

pub bounds-frame-0 : goal.bounds-frame-0
bounds-frame-0 c = omega (arith, whole_length c.args.frame.now c.requires.frame_value)

pub head_of-head-requires-clause-code_bound : goal.head_of-head-requires-clause-code_bound
head_of-head-requires-clause-code_bound c =
    coded_few c.args.code c.requires.code_value

pub slice_bounds-put_bytes-count : goal.slice_bounds-put_bytes-count
slice_bounds-put_bytes-count c = omega (arith, whole_length c.args.frame.now c.requires.frame_value)

pub slice_bounds-put_bytes-start : goal.slice_bounds-put_bytes-start
slice_bounds-put_bytes-start c = omega (arith, whole_length c.args.frame.now c.requires.frame_value)

pub returns : goal.returns
returns c =
    pieces_laid c.args.counter c.args.code c.args.frame.now c.requires.frame_value c.args.out.now _ _ _ _ c.head_of-head.ensures c.put_bytes.ensures c.put_bytes-2.ensures c.put_bytes-3.ensures
