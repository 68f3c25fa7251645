-- Few enough pieces are told by the table, and more than there are bytes do not cover them. Assumes nothing.
use native.Mathlib.Omega.{arith}
use Prim.Native.Nat.{ℕ}
use lib.ListN.{length-replicate}
use Rattle.packing_bytes.proofs.Cells.{empty_cells}
use Rattle.packing_bytes.proofs.Told.{said_crowded, said_uncovered}
use borrow.Author.Rules.{rules}
use Rattle.packing_bytes.proofs.check_bytes.Goals as goal

pub fill_table-requires : goal.fill_table-requires
fill_table-requires c = (
  c.count_pieces-count.ensures.0 (omega arith),
  omega arith,
  omega arith,
  record { long = length-replicate {A = ℕ} 65536 0; zeros = empty_cells 65536 },
)

pub returns-then-not-fill_table : goal.returns-then-not-fill_table
returns-then-not-fill_table c =
    said_uncovered
    c.args.services.now
    c.args.lengths.now
    c.args.pieces.now
    (omega arith)
    (c.fill_table.ensures.uncovered c.if-not-fill_table.true)

pub returns-then-bytes-count : goal.returns-then-bytes-count
returns-then-bytes-count c = search (rules, said_crowded, c.count_pieces-count.ensures.1)
