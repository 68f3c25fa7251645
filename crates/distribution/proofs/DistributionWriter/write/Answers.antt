-- The writer goes on exactly where something was written. Assumes nothing.
use mathlib.Core.Path.{sym, ap, ◌∙◌}
use Rattle.model.proofs.Cases.{gives_at}
use Rattle.model.proofs.Distribution.{SentAs, sent_as}
use Rattle.distribution.specs.States.{writer_at}
use Rattle.distribution.specs.Calls.{written_by}
use Rattle.distribution.proofs.Outcomes.{told_gave}
use Rattle.distribution.proofs.DistributionWriter.write.Goals as goal

pub returns-clause-places : goal.returns-clause-places
returns-clause-places c =
    let s = c.args in
    let g = told_gave _ (written_by s.self.now s.code s.frame.now s.out.now) _ c.in_ok-len.ensures.answer in
    let m = (gives_at (SentAs s.self.now.next s.code s.frame.now s.out.now) (written_by s.self.now s.code s.frame.now s.out.now) g.1 (sent_as s.self.now.next s.code s.frame.now s.out.now)).moved in
    rw g.1 (ap writer_at (c.counter_after-self.ensures ∙ sym m))
