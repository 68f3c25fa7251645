-- The invariant `Going`: what is left to print, printed from here on, is the whole. Assumes nothing.
use Prim.Native.Nat.{◌-◌}
use native.Mathlib.Omega.{arith}
use borrow.Author.Rules.{rules}
use Rattle.parser.proofs.Calls.{length_mapped}
use Rattle.parser.proofs.Beside.{drawn_valid}
use Rattle.ccread_report.proofs.Going.{going_first, going_next, going_none, going_done}
use Rattle.ccread_report.proofs.Draws.{draw_gives}
use Rattle.ccread_report.proofs.put_items.Goals as goal

pub loop-n-init : goal.loop-n-init
loop-n-init c = (
  omega arith,
  going_first (record {
    valid = c.requires.before_value;
    shaped = record {
      pairs = search rules;
      pending = search rules;
      waiting = search (
        rules,
        length_mapped,
      );
    };
  }) c.requires.at_in_bounds,
)

pub put_item-laid-requires-clause-packet_value : goal.put_item-laid-requires-clause-packet_value
put_item-laid-requires-clause-packet_value c =
    drawn_valid _ _ c.in-Ok.ensures.drawn

pub returns-in-Nothing-clause-laid : goal.returns-in-Nothing-clause-laid
returns-in-Nothing-clause-laid c =
    let d = going_none (c.loop-n.n - 1) (omega arith)
    c.loop-n.invariant.1 _
    c.in-Ok.ensures.drawn _ c.in-Ok.ensures.state c.in-Ok.ensures.places c.put_item-laid.ensures c.in-Nothing.is in d.lines

pub returns-in-Nothing-clause-parser_value : goal.returns-in-Nothing-clause-parser_value
returns-in-Nothing-clause-parser_value c =
    let d = going_none (c.loop-n.n - 1) (omega arith)
    c.loop-n.invariant.1 _
    c.in-Ok.ensures.drawn _ c.in-Ok.ensures.state c.in-Ok.ensures.places c.put_item-laid.ensures c.in-Nothing.is in d.state

pub loop-n-preserved : goal.loop-n-preserved
loop-n-preserved c = (
  omega arith,
  going_next _ (omega arith) c.loop-n.invariant.1 _
      c.in-Ok.ensures.drawn _ c.in-Ok.ensures.state c.in-Ok.ensures.places c.put_item-laid.ensures,
)

pub returns-clause-laid : goal.returns-clause-laid
returns-clause-laid c =
    let d = going_done c.loop-n.invariant.1 (omega (arith, c.loop-n.invariant.1.few)) in d.lines

pub returns-clause-parser_value : goal.returns-clause-parser_value
returns-clause-parser_value c =
    let d = going_done c.loop-n.invariant.1 (omega (arith, c.loop-n.invariant.1.few)) in d.state

-- a draw from a state within the limits is not refused
pub returns-in_default-clause-laid : goal.returns-in_default-clause-laid
returns-in_default-clause-laid c = absurd (draw_gives _ c.loop-n.invariant.1.sound _ c.in_default.ensures.drawn)

pub returns-in_default-clause-parser_value : goal.returns-in_default-clause-parser_value
returns-in_default-clause-parser_value c = absurd (draw_gives _ c.loop-n.invariant.1.sound _ c.in_default.ensures.drawn)
