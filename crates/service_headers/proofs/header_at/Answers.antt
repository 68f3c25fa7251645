-- By whether so many bytes are there as the header announces. Assumes nothing.
use mathlib.Core.Path.{ap, ◌∙◌}
use native.Mathlib.Omega.{arith}
use Rattle.model.proofs.Blocks.{header_bytes}
use Rattle.service_headers.specs.Head.{header_of}
use Rattle.service_headers.proofs.Headers.{header_missing, header_there}
use Rattle.service_headers.proofs.header_at.Goals as goal

pub overflow_add-start : goal.overflow_add-start
overflow_add-start c = omega (arith, header_bytes c.first_two-h.result.0, c.header_length-start.ensures)

pub returns-then-rest-start : goal.returns-then-rest-start
returns-then-rest-start c =
    header_missing c.from-rest.result.now _ _ _ c.first_two-h.ensures.0 c.first_two-h.ensures.1 c.header_length-start.ensures c.if-rest-start.true
    ∙ ap header_of c.from-rest.ensures

pub returns : goal.returns
returns c =
    header_there c.from-rest.result.now _ _ _ c.first_two-h.ensures.0 c.first_two-h.ensures.1 c.header_length-start.ensures _ c.number_by.ensures
    c.if-rest-start.false
    ∙ ap header_of c.from-rest.ensures
