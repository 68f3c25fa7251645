-- Between two runs, what is put and what is left to put make the whole output (`Going`). Assumes nothing.
use mathlib.Core.Path.{refl}
use native.Mathlib.Omega.{arith}
use borrow.Author.Rules.{rules}
use Rattle.model_packing.proofs.Filling.{few_runs}
use Rattle.packing.proofs.Going.{none_filled, none_put, going_first, going_put, going_filled, going_few, next_small, piece_small, going_on}
use Rattle.packing.proofs.put_pieces.Goals as goal

pub returns-then-n-eq0-clause-value : goal.returns-then-n-eq0-clause-value
returns-then-n-eq0-clause-value c =
    search (rules, none_filled)

pub returns-then-n-eq0-clause-output : goal.returns-then-n-eq0-clause-output
returns-then-n-eq0-clause-output c =
    search (rules, none_put)

pub loop-i-init : goal.loop-i-init
loop-i-init c = search (rules, going_first)

pub place-requires-clause-size_bound : goal.place-requires-clause-size_bound
place-requires-clause-size_bound c = next_small _ _ _ _ _ _ c.loop-i.invariant c.loop-i-test.true _ c.number_at-size.ensures.value

pub place-requires-clause-before_bound : goal.place-requires-clause-before_bound
place-requires-clause-before_bound c = going_few _ _ _ _ _ _ c.loop-i.invariant

pub overflow_mul-i : goal.overflow_mul-i
overflow_mul-i c =
    omega (arith, c.loop-i-test.true, few_runs _ _ c.loop-i.invariant.packs)

pub put_piece-requires : goal.put_piece-requires
put_piece-requires c =
    piece_small _ _ _ _ _ _ c.loop-i.invariant c.loop-i-test.true _ _ _ refl c.number_at-size.ensures.value c.place.ensures _ c.block_of-block.ensures

pub loop-i-preserved : goal.loop-i-preserved
loop-i-preserved c =
    going_on _ _ _ _ _ _ c.loop-i.invariant c.loop-i-test.true _ _ _ refl c.number_at-size.ensures.value c.place.ensures _ c.block_of-block.ensures _ c.put_piece.ensures

pub returns-clause-value : goal.returns-clause-value
returns-clause-value c =
    search (rules, going_filled)

pub returns-clause-output : goal.returns-clause-output
returns-clause-output c =
    search (rules, going_put)
