-- What is laid, and the lines of the pieces that are left, are the whole at each turn. Assumes nothing.
use mathlib.Core.Path.{◌∙◌}
use native.Mathlib.Omega.{arith}
use borrow.Author.Rules.{rules}
use Rattle.program_text.proofs.Layings.{laid_within}
use Rattle.ccpack_report.proofs.Lays.{listing_next, listing_done}
use Rattle.ccpack_report.proofs.put_pieces.Goals as goal

pub loop-i-preserved : goal.loop-i-preserved
loop-i-preserved c =
    let w = laid_within c.put_piece-laid.ensures in (
      omega arith,
      omega arith,
      omega (arith, w.0, w.1),
      w.1 ∙ c.loop-i.invariant.3,
      listing_next c.loop-i.invariant.4 (search rules) c.put_piece-laid.ensures,
    )

pub returns-clause-laid : goal.returns-clause-laid
returns-clause-laid c =
    (listing_done c.loop-i.invariant.4 (omega arith)).0

pub returns-clause-count_value : goal.returns-clause-count_value
returns-clause-count_value c =
    (listing_done c.loop-i.invariant.4 (omega arith)).1
