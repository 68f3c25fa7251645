-- The operations of a script by their letters, on the block. Assumes nothing.
use mathlib.Core.List.{List}
use Prim.Native.Nat.{ℕ}
use contract.Lifetimes.{Lfts}
use Rattle.service.specs.declared.Service.{Service}
use Rattle.script_answers.specs.Rows.{sought}
use Rattle.script_answers.proofs.Rows.{tried_settled}
use Rattle.script_blocks.specs.Blocks.{block_rows}
use Rattle.script_blocks.proofs.on_block.Reads as OnBlockReads
use Rattle.determined.specs.Determines.{DeterminesLent}
use Rattle.determined.proofs.Ways.{two, at_once}

-- `on_block(out, at, block, op, args)`
pub on_block : (κs : Lfts 3) → DeterminesLent {X = List ℕ × Service} (λ e. (e.0.now, e.1.1.0.now)) (OnBlockReads.Post κs)
on_block κs =
    at_once
    (λ a r q e g h k. let s = tried_settled (sought (block_rows a.1.1.0.now) a.1.1.1.0 a.1.1.1.1.0.now) a.1.1.0.now e.1.1.0.now g.1.1.0.now a.0.now e.0.now
    g.0.now a.1.0 r q h k in (s.0, two (λ x y. (x, y)) s.1.0 s.1.1))
