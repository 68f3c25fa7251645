-- The operations of a script by their letters, on the multiplexer. Assumes nothing.
use mathlib.Core.List.{List}
use Prim.Native.Nat.{ℕ}
use contract.Lifetimes.{Lfts}
use Rattle.writer.specs.declared.CCDataWriter.{CCDataWriter}
use Rattle.script_answers.specs.Rows.{sought}
use Rattle.script_answers.proofs.Rows.{tried_settled}
use Rattle.script_writers.specs.Writers.{writer_rows}
use Rattle.script_writers.proofs.on_writer.Reads as OnWriterReads
use Rattle.determined.specs.Determines.{DeterminesLent}
use Rattle.determined.proofs.Ways.{two, at_once}

-- `on_writer(out, at, packet, writer, op, args)`
pub on_writer : (κs : Lfts 4) → DeterminesLent {X = List ℕ × CCDataWriter} (λ e. (e.0.now, e.1.1.1.0.now)) (OnWriterReads.Post κs)
on_writer κs =
    at_once
    (λ a r q e g h k. let s = tried_settled (sought (writer_rows a.1.1.0.now a.1.1.1.0.now) a.1.1.1.1.0 a.1.1.1.1.1.0.now) a.1.1.1.0.now e.1.1.1.0.now g.1.1.1.0.now
    a.0.now e.0.now g.0.now a.1.0 r q h k in (s.0, two (λ x y. (x, y)) s.1.0 s.1.1))
