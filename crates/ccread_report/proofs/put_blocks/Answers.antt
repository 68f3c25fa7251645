-- What is left to lay, laid from here on, is the whole at each turn. Assumes nothing.
use mathlib.Core.Path.{refl, ◌∙◌}
use native.Mathlib.Omega.{arith}
use borrow.Author.Rules.{rules}
use Rattle.program_text.proofs.Layings.{laid_within}
use Rattle.packet.proofs.Holds.{Places, within_facts}
use Rattle.ccread_report.proofs.Lays.{size_small, blocks_first, blocks_again, blocks_last}
use Rattle.ccread_report.proofs.put_blocks.Goals as goal
use Rattle.ccread_report.proofs.put_blocks.Goals.{Start}

places : (c : Start) → Places c.args.packet
places c = record { numbers = search rules; sizes = search rules; payload = search rules }

pub loop-i-init : goal.loop-i-init
loop-i-init c = (omega arith, omega arith, (within_facts _ c.requires.packet_value).count, search rules, refl, blocks_first _ _ _)

pub loop-i-preserved : goal.loop-i-preserved
loop-i-preserved c =
    let w = laid_within c.put_block_line-laid.ensures in (
      omega arith,
      omega (
        arith,
        size_small _ c.loop-i.i c.requires.packet_value (places
            (goal.at.loop-i-preserved c).Start)
            c.loop-i-test.true,
      ),
      c.loop-i.invariant.2,
      omega (arith, w.0, w.1),
      w.1 ∙ c.loop-i.invariant.4,
      blocks_again _ c.loop-i.i
          c.loop-i.used c.loop-i-test.true c.part-part.ensures c.loop-i.invariant.5
          c.put_block_line-laid.ensures,
    )

pub returns : goal.returns
returns c = blocks_last _ c.loop-i.i c.loop-i.used c.loop-i-test.false c.loop-i.invariant.3 c.loop-i.invariant.5
