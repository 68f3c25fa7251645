-- What a call answers and leaves, as one value each, by what the model's answers and leaves [A4]: 11 comes first, and then all stays. Assumes nothing.
use Rattle.std.specs.Prelude.{List, cond, ℕ}
use Rattle.model.specs.Said.{Said, Outcome, gave, checked, bad_value}
use Rattle.model.specs.Demux.{Demux, Taken, quiet, turn608_on, take_frame, draw}
use Rattle.parser.specs.Means.{means}
use Rattle.parser.specs.Valid.{valid}
use Rattle.parser.specs.Calls.{laid_after}
use Rattle.parser.specs.declared.CCDataParser.{CCDataParser}

-- what a call is answered that gives t
abbrev pub said_of : CCDataParser → Taken → Said
said_of p t = cond (valid p) t.answer bad_value

-- what it leaves
abbrev pub left_by : (Taken → CCDataParser) → CCDataParser → Taken → CCDataParser
left_by placed p t = cond (valid p) (placed t) p

-- what is asked of a state
abbrev pub asked : {A : Type 0} → CCDataParser → (Demux → A) → Outcome A
asked p f = checked (valid p) (gave (f (means p)))

-- after 608 is turned on in a state within the limits
abbrev pub turned_on : CCDataParser → CCDataParser
turned_on p = laid_after p (quiet (turn608_on (means p)))

-- after a frame
abbrev pub pushed : CCDataParser → List ℕ → CCDataParser
pushed p f = left_by (laid_after p) p (take_frame f (means p))

-- after an item is drawn
abbrev pub drawn : CCDataParser → CCDataParser
drawn p = left_by (laid_after p) p (quiet (draw (means p)).next)
