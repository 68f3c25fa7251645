-- The sections are laid first; the sum over them tells the byte behind them. Assumes nothing.
use Rattle.distribution_writing.proofs.Laid.{sum_laid}
use Rattle.distribution_writing.proofs.lay_out.Goals as goal

pub returns : goal.returns
returns c =
    sum_laid c.args.counter c.args.code c.args.frame.now c.requires.frame_value c.args.out.now _ _ _ c.requires.frame_in_bounds c.lay_sections.ensures c.sum_of-sum.ensures c.closing_byte.ensures
