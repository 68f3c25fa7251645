-- By whether the header is there. Assumes nothing.
use mathlib.Core.Path.{ap, ◌∙◌}
use Rattle.model.specs.Block.{short_at}
use Rattle.service_headers.proofs.Headers.{cut_header, cut_body}
use Rattle.service_headers.proofs.short_at.Goals as goal

pub returns-then-actual-start : goal.returns-then-actual-start
returns-then-actual-start c =
    cut_header c.from-rest.result.now _ _ _ c.first_two-h.ensures.0 c.first_two-h.ensures.1 c.header_length-start.ensures c.args.at c.if-actual-start.true
    ∙ ap (short_at c.args.at) c.from-rest.ensures

pub returns : goal.returns
returns c =
    cut_body c.from-rest.result.now _ _ _ c.first_two-h.ensures.0 c.first_two-h.ensures.1 c.header_length-start.ensures c.args.at c.if-actual-start.false
    ∙ ap (short_at c.args.at) c.from-rest.ensures
