-- `parser::CCDataParser::gather_here` meets its contract: the counts and the places are those that gathering leaves. Assumes nothing.
use mathlib.Core.Path.{ap}
use Rattle.parser.specs.Push.{with_left}
use Rattle.parser.proofs.CCDataParser.gather_here.Goals as goal

pub returns : goal.returns
returns c = ap (with_left c.args.self.now) c.gather_frame-left.ensures
