-- A fresh demultiplexer is within its limits, so that 608 is turned on. Assumes nothing.
use mathlib.Core.Path.{◌≡◌, ap₂, ◌∙◌}
use mathlib.Core.Bool.{cond}
use Rattle.parser.specs.Valid.{valid}
use Rattle.parser.specs.Calls.{fresh}
use Rattle.parser.specs.After.{turned_on}
use Rattle.parser.specs.declared.CCDataParser.{CCDataParser}
use Rattle.parser.proofs.Kept.{fresh_sound}
use Rattle.distribution.specs.declared.DistributionReader.{DistributionReader}
use Rattle.ccread_report.specs.declared.Capture.{Capture}
use Rattle.ccread.proofs.fresh_capture.Goals as goal

turned_on_fresh : (p q : CCDataParser) → p ≡ fresh → q ≡ cond (valid p) (turned_on p) p → q ≡ turned_on fresh
turned_on_fresh p q e h = h ∙ rw (e, fresh_sound.valid)

-- what the program has, by its two parts
abbrev made : CCDataParser → DistributionReader → Capture
made p d = record { parser = p; reader = d }

pub returns : goal.returns
returns c = ap₂ made (turned_on_fresh _ _ c.new-parser.ensures.places c.handle_cea608.ensures.places) c.new-reader.ensures.places
