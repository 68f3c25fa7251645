-- Before each turn the lengths of the codes up to the place are laid; at the end all are. Assumes nothing.
use mathlib.Core.Path.{refl, ap}
use native.Mathlib.Omega.{arith}
use borrow.Author.Rules.{rules}
use lib.ListN.{length}
use Rattle.codes_cuts.specs.Cuts.{cut_of}
use Rattle.script_codes.proofs.Lines.{lengths_begun, lengths_next, lengths_all}
use Rattle.script_codes.proofs.put_lengths.Goals as goal

pub loop-i-init : goal.loop-i-init
loop-i-init c = (c.requires, refl, lengths_begun (cut_of c.args.payload.now) c.put_word-laid.ensures)

pub loop-i-preserved : goal.loop-i-preserved
loop-i-preserved c = (c.loop-i.invariant.0, search rules, lengths_next (cut_of c.args.payload.now) c.loop-i.i _ (omega (arith, c.loop-i.invariant.0)) (ap length c.code_at-code.ensures) c.loop-i.invariant.2 c.put_value-laid.ensures)

pub returns : goal.returns
returns c = lengths_all (cut_of c.args.payload.now) c.loop-i.i (omega (arith, c.loop-i.invariant.0, c.loop-i-test.false)) c.put_word-laid.ensures c.loop-i.invariant.2
