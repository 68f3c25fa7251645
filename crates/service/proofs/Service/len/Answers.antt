-- Past the test the length of the block follows from its number and its `len` alone. Assumes nothing.
use native.Mathlib.Omega.{arith}
use borrow.Author.Rules.{rules}
use Rattle.caption.proofs.Outcomes.{given_valid}
use Rattle.service.proofs.Services.{valid_len, asked_length}
use Rattle.service.proofs.Service.len.Goals as goal

pub overflow_cast-self : goal.overflow_cast-self
overflow_cast-self c = omega (arith, valid_len _ (given_valid _ _ _ c.in_ok-check.ensures))

pub returns : goal.returns
returns c = asked_length _ (search rules) _ (given_valid _ _ _ c.in_ok-check.ensures) c.block_length.ensures
