-- The three cases of the length and of the bytes that are left, one law each. Assumes nothing.
use Rattle.codes_cuts.proofs.Cuts.{no_length, cut_short, all_there}
use Rattle.codes_cuts.proofs.whole.Goals as goal

pub returns-then-length-eq0 : goal.returns-then-length-eq0
returns-then-length-eq0 c = no_length _ _ c.if-length-eq0.true

pub returns-then-left-length : goal.returns-then-left-length
returns-then-left-length c = cut_short _ _ c.if-length-eq0.false c.if-left-length.true

pub returns : goal.returns
returns c = all_there _ _ c.if-length-eq0.false c.if-left-length.false
