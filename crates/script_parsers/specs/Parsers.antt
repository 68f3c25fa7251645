-- The operations of a script on its demultiplexer: what each does, and their rows. Assumes nothing.
use Rattle.std.specs.Prelude.{cond, List, [], ◌∷◌, ℕ}
use Rattle.model.specs.Said.{accepted, bad_value}
use Rattle.model.specs.Packet.{no_packet}
use Rattle.model.specs.Demux.{Taken, quiet, turn608_on, flush_demux, take_frame, draw, item_values, item_packet}
use Rattle.packet.specs.Packet.{laid}
use Rattle.parser.specs.declared.CCDataParser.{CCDataParser}
use Rattle.parser.specs.Valid.{valid}
use Rattle.parser.specs.Means.{means}
use Rattle.parser.specs.Calls.{fresh, laid_after}
use Rattle.parser.specs.After.{said_of, left_by, drawn}
use Rattle.script_answers.specs.Steps.{Effect, tells, becomes}
use Rattle.script_answers.specs.Rows.{Row, row, exactly, all_of_them, byte}
use Rattle.script_parsers.specs.Lines.{item_line}

-- a fresh one
abbrev pub renews_parser : Effect CCDataParser
renews_parser = becomes fresh

-- a call of r that gives t: its answer is told, and it leaves what is laid in its places
abbrev calls : (Taken → CCDataParser) → CCDataParser → Taken → Effect CCDataParser
calls placed r t = tells (said_of r t) (left_by placed r t)

-- 608 turned on
abbrev pub turns_on : CCDataParser → Effect CCDataParser
turns_on r = calls (laid_after r) r (quiet (turn608_on (means r)))

-- a frame pushed
abbrev pub pushes_frame : List ℕ → CCDataParser → Effect CCDataParser
pushes_frame frame r = calls (laid_after r) r (take_frame frame (means r))

-- one item drawn
abbrev pub draws : CCDataParser → Effect CCDataParser
draws r =
    let i = (draw (means r)).item in
    record {
      line = item_line (cond (valid r) (accepted (item_values i)) bad_value) (laid (cond (valid r) (item_packet i) no_packet));
      next = drawn r;
    }

-- all of it thrown away
abbrev pub flushes_parser : CCDataParser → Effect CCDataParser
flushes_parser r = calls (λ _. fresh) r (quiet (flush_demux (means r)))

-- its three counts, whatever they break
abbrev pub sets_parser : ℕ → ℕ → ℕ → CCDataParser → Effect CCDataParser
sets_parser pairs pending waiting r = becomes (record r { pair_count = pairs; pending_len = pending; waiting_count = waiting })

-- those that frames go in by, and items out
unfoldable pub streaming_rows : CCDataParser → List (Row CCDataParser)
streaming_rows r =
    row "f" all_of_them (λ a. pushes_frame a r)
    ∷ row "n" (exactly 0) (λ a. draws r)
    ∷ []

-- all, and before those the ones that set it
unfoldable pub parser_rows : CCDataParser → List (Row CCDataParser)
parser_rows r =
    row "R" (exactly 0) (λ a. renews_parser)
    ∷ row "H" (exactly 0) (λ a. turns_on r)
    ∷ row "F" (exactly 0) (λ a. flushes_parser r)
    ∷ row "D" (exactly 3) (λ a. sets_parser (byte a 0) (byte a 1) (byte a 2) r)
    ∷ streaming_rows r
