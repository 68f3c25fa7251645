-- `parser::CCDataParser::draw` meets its contract: one law of `Drawing` for each way out. Assumes nothing.
use mathlib.Core.Path.{sym, ◌∙◌}
use borrow.Author.Rules.{rules}
use Rattle.std.specs.Prelude.{Ok}
use Rattle.parser_draws.proofs.Draws.{some_given, not_given}
use Rattle.parser.specs.Means.{Shaped}
use Rattle.parser.specs.declared.Item.TheVariants.{Pair, Packet, Nothing}
use Rattle.parser.proofs.Calls.{length_mapped}
use Rattle.parser.proofs.Drawing.{Draws, draw_pair, draw_packet, draw_nothing}
use Rattle.parser.proofs.CCDataParser.draw.Goals as goal
use Rattle.parser.proofs.CCDataParser.draw.Goals.{Start}

-- the arrays have their lengths
shaped : (s : Start) → Shaped s.args.self.now
shaped s = record { pairs = search rules; pending = search rules; waiting = search (rules, length_mapped, s.well_formed) }

-- a pair is drawn
pair : (c : goal.After-no_packet)
    → Draws c.args.self.now (Ok (record { item = Pair c.in-Some.pair; packet = c.no_packet.result }))
    (record c.args.self.now { pair_count = c.take_pair.new.count; pairs = c.take_pair.new.pairs })
pair c =
    let e = c.take_pair.ensures in
    let g = some_given _ _ _ e.pair _ c.in-Some.is in
    rw (e.left, e.places, g.1, c.no_packet.ensures, g.0)
    (draw_pair _ (shaped (goal.at.returns-in-Some-clause-answer c).Start) (sym c.if-not-is_valid.false ∙ c.is_valid.ensures) g.0)

pub returns-in-Some-clause-answer : goal.returns-in-Some-clause-answer
returns-in-Some-clause-answer c = (pair c).answer

pub returns-in-Some-clause-drawn : goal.returns-in-Some-clause-drawn
returns-in-Some-clause-drawn c = (pair c).drawn

pub returns-in-Some-clause-state : goal.returns-in-Some-clause-state
returns-in-Some-clause-state c = (pair c).state

pub returns-in-Some-clause-places : goal.returns-in-Some-clause-places
returns-in-Some-clause-places c = (pair c).places

-- a packet is drawn
packet : (c : goal.In-Some-take_packet)
    → Draws c.args.self.now (Ok (record { item = Packet; packet = c.in-Some-take_packet.packet }))
    (record c.args.self.now {
      pair_count = c.take_pair.new.count;
      pairs = c.take_pair.new.pairs;
      waiting_first = c.take_packet.new.first;
      waiting_count = c.take_packet.new.count;
    })
packet c =
    let e = c.take_pair.ensures in
    let d = c.take_packet.ensures in
    let n = not_given _ _ _ e.pair c.in_default.not-Some in
    let g = some_given _ _ _ d.packet _ c.in-Some-take_packet.is in
    rw (e.left, e.places, d.left, d.head, g.1, n, g.0)
    (draw_packet _ (shaped (goal.at.returns-in-Some-take_packet-clause-answer c).Start) (sym c.if-not-is_valid.false ∙ c.is_valid.ensures) n g.0)

pub returns-in-Some-take_packet-clause-answer : goal.returns-in-Some-take_packet-clause-answer
returns-in-Some-take_packet-clause-answer c = (packet c).answer

pub returns-in-Some-take_packet-clause-drawn : goal.returns-in-Some-take_packet-clause-drawn
returns-in-Some-take_packet-clause-drawn c = (packet c).drawn

pub returns-in-Some-take_packet-clause-state : goal.returns-in-Some-take_packet-clause-state
returns-in-Some-take_packet-clause-state c = (packet c).state

pub returns-in-Some-take_packet-clause-places : goal.returns-in-Some-take_packet-clause-places
returns-in-Some-take_packet-clause-places c = (packet c).places

-- nothing is left
nothing : (c : goal.After-no_packet-2)
    → Draws c.args.self.now (Ok (record { item = Nothing; packet = c.no_packet-2.result }))
    (record c.args.self.now {
      pair_count = c.take_pair.new.count;
      pairs = c.take_pair.new.pairs;
      waiting_first = c.take_packet.new.first;
      waiting_count = c.take_packet.new.count;
    })
nothing c =
    let e = c.take_pair.ensures in
    let d = c.take_packet.ensures in
    let n = not_given _ _ _ e.pair c.in_default.not-Some in
    let m = not_given _ _ _ d.packet c.in_default-take_packet.not-Some in
    rw (e.left, e.places, d.left, d.head, c.no_packet-2.ensures, n, m)
    (draw_nothing _ (shaped (goal.at.returns-clause-answer c).Start) (sym c.if-not-is_valid.false ∙ c.is_valid.ensures) n m)

pub returns-clause-answer : goal.returns-clause-answer
returns-clause-answer c = (nothing c).answer

pub returns-clause-drawn : goal.returns-clause-drawn
returns-clause-drawn c = (nothing c).drawn

pub returns-clause-state : goal.returns-clause-state
returns-clause-state c = (nothing c).state

pub returns-clause-places : goal.returns-clause-places
returns-clause-places c = (nothing c).places
