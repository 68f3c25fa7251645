-- The parts are asked one after the other, and the first that has a row for a letter and its argument bytes does what the record does. Assumes nothing.
use mathlib.Core.Path.{◌≡◌, refl, sym, ap, ◌∙◌}
use mathlib.Core.Bool.{true≢false}
use mathlib.Core.List.{List, [], ◌∷◌}
use Prim.Native.Nat.{ℕ, ◌-◌, ◌≤◌, ◌<◌}
use native.Mathlib.Omega.{arith}
use lib.ListN.{length, take, drop, get_or}
use lib.Seq.{take_all}
use Rattle.std.specs.Prelude.{Option, Some, None, Result, Ok, Err, IsOk}
use Rattle.model.specs.Said.{gave, is_given}
use Rattle.caption.specs.declared.Refusal.{Refusal}
use Rattle.caption.specs.Answers.{outcome}
use Rattle.parser.specs.declared.CCDataParser.{CCDataParser}
use Rattle.script_answers.specs.Steps.{Effect, Did}
use Rattle.script_answers.specs.Rows.{Sought, Tried, sought}
use Rattle.script_blocks.specs.Blocks.{block_rows}
use Rattle.script_packets.specs.Packets.{packet_rows, pushing_rows, telling_rows}
use Rattle.script_codes.specs.Operations.{codes_rows}
use Rattle.script_parsers.specs.Parsers.{parser_rows, streaming_rows}
use Rattle.script_writers.specs.Writers.{writer_rows}
use Rattle.script_distribution.specs.Links.{link_rows}
use Rattle.script_operations.specs.declared.Machine.{Machine}
use Rattle.script_operations.specs.Ran.{within, bad, with_block, with_packet, with_parser, on_machines, operated, ran}

-- a part that did not say what it laid
abbrev pub Silent : Option ℕ → Type 0
Silent r = (x : ℕ) → r ≡ Some x → ⊥

module _ {S : Type 0} (whole : S → Machine) (old next : S) (before now : List ℕ) (at : ℕ) where
  -- the part that has the row did all there is
  pub done_by : {laid : ℕ} (w : Sought S) (rest : Effect Machine) (r : Option ℕ) → Tried w old before at r next now → r ≡ Some laid
      → Did (within whole w rest) before at laid (whole next) now
  done_by (Sought.one e) rest r d q = let z : Did e before at _ next now = rw q at d in record { told = z.told; left = ap whole z.left }
  done_by Sought.none rest r d q = absurd (rw q at d)

  -- a part that has none is as it was, and so are the lines: those behind it are asked
  pub passed_by : {last : List ℕ} {laid : ℕ} {m : Machine} (w : Sought S) (rest : Effect Machine) (r : Option ℕ) → Tried w old before at r next now → Silent r
      → Did rest now at laid m last → Did (within whole w rest) before at laid m last
  passed_by w rest (Some x) d n k = absurd (n x refl)
  passed_by (Sought.one e) rest None d n k = absurd d
  passed_by Sought.none rest None d n k = rw (← d.1) k

-- what such a part is then
pub as_before : {S : Type 0} (old next : S) (before now : List ℕ) (at : ℕ) (w : Sought S) (r : Option ℕ) → Tried w old before at r next now → Silent r → next ≡ old
as_before old next before now at w (Some x) d n = absurd (n x refl)
as_before old next before now at (Sought.one e) None d n = absurd d
as_before old next before now at Sought.none None d n = d.0

-- a record is its first byte, the letter, and the bytes behind it
pub ran_by : (m : Machine) (l : List ℕ) → 1 ≤ length l → ran m l ≡ operated m (get_or l 0 0) (take (length l - 1) (drop 1 l))
unfolding ran
ran_by m [] h = let z : ⊥ = omega arith in absurd z
ran_by m (x ∷ l) h = let n : length (x ∷ l) - 1 ≡ length l = omega arith in rw (n, take_all (length l) l (omega arith))

-- A record asks the block, then the packet, and then the machines behind them; no operation is 0, which stands for the letter of an empty record.
pub ran_parts : (m : Machine) (l : List ℕ)
    → ran m l ≡ within (with_block m) (sought (block_rows m.s) (get_or l 0 0) (take (length l) (drop 1 l)))
    (within (with_packet m) (sought (codes_rows m.s m.p) (get_or l 0 0) (take (length l) (drop 1 l)))
    (on_machines m (get_or l 0 0) (take (length l) (drop 1 l))))
unfolding ran operated on_machines sought block_rows codes_rows packet_rows pushing_rows telling_rows parser_rows streaming_rows writer_rows link_rows
ran_parts m [] = refl
ran_parts m (x ∷ l) = let n : length l ≤ length (x ∷ l) = omega arith in rw (take_all (length (x ∷ l)) l n) refl

-- none is no operation
pub ran_none : (m : Machine) (l : List ℕ) → length l < 1 → ran m l ≡ bad m
unfolding ran
ran_none m [] h = refl
ran_none m (x ∷ l) h = let z : ⊥ = omega arith in absurd z

-- Behind the parts that were asked so far and have no such row, all that is done is what those behind them do, and nothing is laid.
pub record Passed (all rest : Effect Machine) (before now : List ℕ) : Type 0 where
  pub same : all ≡ rest
  pub bytes : now ≡ before

pub at_first : (all : Effect Machine) (before : List ℕ) → Passed all all before before
at_first all before = record { same = refl; bytes = refl }

-- one more part is passed that did not say what it laid
pub passed : {S : Type 0} {all : Effect Machine} (whole : S → Machine) (old next : S) (out before now : List ℕ) (at : ℕ) (w : Sought S) (rest : Effect Machine)
    (r : Option ℕ) → Passed all (within whole w rest) out before → Tried w old before at r next now → Silent r → Passed all rest out now
passed whole old next out before now at w rest (Some x) p d n = absurd (n x refl)
passed whole old next out before now at (Sought.one e) rest None p d n = absurd d
passed whole old next out before now at Sought.none rest None p d n = record { same = p.same; bytes = d.1 ∙ p.bytes }

-- the machines are asked one after the other: the demultiplexer, where it has the row, did all there is
pub by_parser : (m : Machine) (op : ℕ) (a out mid : List ℕ) (at : ℕ) (next : CCDataParser) (r : Option ℕ) {laid : ℕ}
    → Tried (sought (parser_rows m.r) op a) m.r out at r next mid → r ≡ Some laid → Did (on_machines m op a) out at laid (with_parser m next) mid
unfolding on_machines
by_parser m op a out mid at next r d k = done_by (with_parser m) m.r next out mid at (sought (parser_rows m.r) op a) _ r d k

-- what gives something is accepted
pub is_ok : {A : Type 0} (r : Result A Refusal) (x : A) → outcome r ≡ gave x → IsOk r
is_ok (Ok y) x e = refl
is_ok (Err why) x e = absurd (true≢false (sym (ap is_given e)))
