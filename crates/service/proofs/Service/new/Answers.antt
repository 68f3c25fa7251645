-- A number above 63 is refused, and any other makes a block without payload. Assumes nothing.
use mathlib.Core.Path.{sym}
use Rattle.service.proofs.Services.{new_bad, new_good}
use Rattle.service.proofs.Service.new.Goals as goal

pub returns-then-service_no-gt-MOST_NUMBER-clause-answer : goal.returns-then-service_no-gt-MOST_NUMBER-clause-answer
returns-then-service_no-gt-MOST_NUMBER-clause-answer c = sym (new_bad _ c.if-service_no-gt-MOST_NUMBER.true)

pub returns-then-service_no-gt-MOST_NUMBER-clause-places : goal.returns-then-service_no-gt-MOST_NUMBER-clause-places
returns-then-service_no-gt-MOST_NUMBER-clause-places c = rw (new_bad _ c.if-service_no-gt-MOST_NUMBER.true)

pub returns-clause-answer : goal.returns-clause-answer
returns-clause-answer c = sym (new_good _ c.if-service_no-gt-MOST_NUMBER.false)

pub returns-clause-places : goal.returns-clause-places
returns-clause-places c = rw (new_good _ c.if-service_no-gt-MOST_NUMBER.false)
