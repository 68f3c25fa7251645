-- Past the test the payload is as long as `len` says, so that 31 less `len` is the room. Assumes nothing.
use Rattle.caption.proofs.Outcomes.{given_valid}
use Rattle.service.proofs.Services.{valid_len}
use Rattle.service.proofs.Service.free_space.Goals as goal

pub overflow_sub-result : goal.overflow_sub-result
overflow_sub-result c = valid_len _ (given_valid _ _ _ c.in_ok-check.ensures)
