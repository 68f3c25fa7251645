-- The demultiplexer is asked, then the multiplexer, then the reader and the writer of packets. Assumes nothing.
use mathlib.Core.Path.{refl}
use Rattle.script_answers.specs.Rows.{sought}
use Rattle.script_parsers.specs.Parsers.{parser_rows}
use Rattle.script_writers.specs.Writers.{writer_rows}
use Rattle.script_distribution.specs.Links.{link_rows}
use Rattle.script_operations.specs.Ran.{with_parser, with_writer, with_link, on_machines}
use Rattle.script_operations.proofs.Records.{done_by, passed_by, as_before}
use Rattle.script_operations.proofs.run_on_machines.Goals as goal

pub returns-in-Some : goal.returns-in-Some
unfolding on_machines
returns-in-Some c = let m = c.args.m.now in done_by (with_parser m) m.r _ _ _ _ (sought (parser_rows m.r) c.args.op c.args.args.now) _ _ c.on_parser.ensures c.in-Some.is

pub returns-in-Some-on_writer : goal.returns-in-Some-on_writer
unfolding on_machines
returns-in-Some-on_writer c =
    let m = c.args.m.now in
    let of_parser = sought (parser_rows m.r) c.args.op c.args.args.now in
    let of_writer = sought (writer_rows m.p m.w) c.args.op c.args.args.now in
    rw (as_before m.r _ _ _ _ of_parser _ c.on_parser.ensures c.in_default.not-Some)
    (passed_by (with_parser m) m.r _ _ _ _ of_parser _ _ c.on_parser.ensures c.in_default.not-Some
    (done_by (with_writer m) m.w _ _ _ _ of_writer _ _ c.on_writer.ensures c.in-Some-on_writer.is))

pub returns-in-Some-on_link : goal.returns-in-Some-on_link
unfolding on_machines
returns-in-Some-on_link c =
    let m = c.args.m.now in
    let of_parser = sought (parser_rows m.r) c.args.op c.args.args.now in
    let of_writer = sought (writer_rows m.p m.w) c.args.op c.args.args.now in
    let of_link = sought (link_rows m.link) c.args.op c.args.args.now in
    rw (as_before m.r _ _ _ _ of_parser _ c.on_parser.ensures c.in_default.not-Some, as_before m.w _ _ _ _ of_writer _ c.on_writer.ensures c.in_default-on_writer.not-Some)
    (passed_by (with_parser m) m.r _ _ _ _ of_parser _ _ c.on_parser.ensures c.in_default.not-Some
    (passed_by (with_writer m) m.w _ _ _ _ of_writer _ _ c.on_writer.ensures c.in_default-on_writer.not-Some
    (done_by (with_link m) m.link _ _ _ _ of_link _ _ c.on_link.ensures c.in-Some-on_link.is)))

pub returns : goal.returns
unfolding on_machines
returns c =
    let m = c.args.m.now in
    let of_parser = sought (parser_rows m.r) c.args.op c.args.args.now in
    let of_writer = sought (writer_rows m.p m.w) c.args.op c.args.args.now in
    let of_link = sought (link_rows m.link) c.args.op c.args.args.now in
    rw (
      as_before m.r _ _ _ _ of_parser _ c.on_parser.ensures c.in_default.not-Some,
      as_before m.w _ _ _ _ of_writer _ c.on_writer.ensures c.in_default-on_writer.not-Some,
      as_before m.link _ _ _ _ of_link _ c.on_link.ensures c.in_default-on_link.not-Some,
    )
    (passed_by (with_parser m) m.r _ _ _ _ of_parser _ _ c.on_parser.ensures c.in_default.not-Some
    (passed_by (with_writer m) m.w _ _ _ _ of_writer _ _ c.on_writer.ensures c.in_default-on_writer.not-Some
    (passed_by (with_link m) m.link _ _ _ _ of_link _ _ c.on_link.ensures c.in_default-on_link.not-Some
    (record { told = c.put_bad_line.ensures; left = refl }))))
