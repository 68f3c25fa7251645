-- Each way out is one law about whether the blocks from there on read. Assumes nothing.
use mathlib.Core.Path.{◌≡◌, sym, ◌∙◌}
use mathlib.Core.Bool.{false}
use Prim.Native.Nat.{◌+◌, ◌≤◌, ℕ}
use native.Mathlib.Omega.{arith}
use lib.ListN.{length}
use borrow.Author.Rules.{rules}
use Rattle.model.specs.Packet.{plainly}
use Rattle.packet_moves.specs.Moves.{through_at}
use Rattle.packet_moves.specs.Goes.{plain_goes}
use Rattle.packet_moves.proofs.Moves.{given_through, given_short, given_next, head_room, move_within}
use Rattle.packet_moves.proofs.+reads_from.Goals as goal
use Rattle.packet_moves.proofs.+reads_from.Goals.{In-Some, After-moved}

-- bytes are left
goes_on : (t : ℕ) (c : In-Some t) → through_at plainly c.args.data.now c.args.at ≡ false
goes_on t c = sym c.through.ensures ∙ c.if-through.false

-- the next place is within them, and further on
within : (t : ℕ) (c : After-moved t) → (c.args.at + c.moved.result ≤ length c.args.data.now) × (1 ≤ c.moved.result)
within t c =
    rw c.moved.ensures
    (move_within _ _ _ _ plain_goes (sym c.through.ensures ∙ c.if-through.false) _ c.header_at.ensures _ c.in-Some.is)

pub returns-then-through : goal.returns-then-through
returns-then-through t c = given_through _ _ _ (sym c.through.ensures ∙ c.if-through.true)

pub returns-in_default : goal.returns-in_default
returns-in_default t c = given_short _ _ _ _ plain_goes (sym c.through.ensures ∙ c.if-through.false) _ c.header_at.ensures c.in_default.is

pub overflow_cast-start : goal.overflow_cast-start
overflow_cast-start t c = let w = head_room _ _ _ c.header_at.ensures c.in-Some.is in omega (arith, w.0)

pub overflow_cast-size : goal.overflow_cast-size
overflow_cast-size t c = let w = head_room _ _ _ c.header_at.ensures c.in-Some.is in omega (arith, w.1)

pub overflow_add-at : goal.overflow_add-at
overflow_add-at t c = let w = within t (goal.at.overflow_add-at t c).After-moved in search (rules, w)

pub reads_from-requires : goal.reads_from-requires
reads_from-requires t c = let w = within t (goal.at.reads_from-requires t c).After-moved in omega (arith, w.0, w.1)

pub returns : goal.returns
returns t c =
    given_next _ _ _ _ plain_goes (sym c.through.ensures ∙ c.if-through.false) _ c.header_at.ensures _ c.in-Some.is _
    (rw (← c.moved.ensures) c.reads_from.ensures)
