-- `parser::CCDataParser::list` meets its contract: the count and the places are those of the list. Assumes nothing.
use mathlib.Core.Path.{ap}
use Rattle.parser.specs.Push.{with_list}
use Rattle.parser.proofs.CCDataParser.list.Goals as goal

pub returns : goal.returns
returns c = ap (with_list c.args.self.now) c.list_frame-count.ensures
