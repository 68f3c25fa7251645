-- The operations of a script by their letters, on the demultiplexer. Assumes nothing.
use mathlib.Core.List.{List}
use Prim.Native.Nat.{ℕ}
use contract.Lifetimes.{Lfts}
use Rattle.parser.specs.declared.CCDataParser.{CCDataParser}
use Rattle.script_answers.specs.Rows.{sought}
use Rattle.script_answers.proofs.Rows.{tried_settled}
use Rattle.script_parsers.specs.Parsers.{parser_rows}
use Rattle.script_parsers.proofs.on_parser.Reads as OnParserReads
use Rattle.determined.specs.Determines.{DeterminesLent}
use Rattle.determined.proofs.Ways.{two, at_once}

-- `on_parser(out, at, parser, op, args)`
pub on_parser : (κs : Lfts 3) → DeterminesLent {X = List ℕ × CCDataParser} (λ e. (e.0.now, e.1.1.0.now)) (OnParserReads.Post κs)
on_parser κs =
    at_once
    (λ a r q e g h k. let s = tried_settled (sought (parser_rows a.1.1.0.now) a.1.1.1.0 a.1.1.1.1.0.now) a.1.1.0.now e.1.1.0.now g.1.1.0.now
    a.0.now e.0.now g.0.now a.1.0 r q h k in (s.0, two (λ x y. (x, y)) s.1.0 s.1.1))
