-- The operations of a script on its reader and its writer of distribution packets: what each does, and their rows. Assumes nothing.
use Rattle.std.specs.Prelude.{Bool, List, [], ◌∷◌, ℕ, ◌+◌, ◌*◌, leb, length, drop}
use Rattle.model.specs.Said.{says_with, mapped, after}
use Rattle.model.specs.Frame.{most_frame}
use Rattle.model.specs.Distribution.{receive, distribute}
use Rattle.distribution.specs.declared.DistributionReader.{DistributionReader}
use Rattle.distribution.specs.declared.DistributionWriter.{DistributionWriter}
use Rattle.distribution.specs.States.{last_of, fresh_reader, reader_at, writer_at, fresh_writer}
use Rattle.script_answers.specs.Script.{lent_line}
use Rattle.script_answers.specs.Steps.{Effect, becomes, lent_out}
use Rattle.script_answers.specs.Rows.{Row, row, exactly, all_of_them, byte}
use Rattle.script_distribution.specs.Lines.{received_line}
use Rattle.script_distribution.specs.declared.Link.{Link}

-- both fresh
abbrev pub fresh_link : Link
fresh_link = record { reader = fresh_reader; writer = fresh_writer }

-- one of the two replaced
module _ (link : Link) where
  abbrev pub with_reader : DistributionReader → Link
  with_reader reader = record { reader = reader; writer = link.writer }

  abbrev pub with_writer : DistributionWriter → Link
  with_writer writer = record { reader = link.reader; writer = writer }

-- a fresh reader
abbrev pub renews_reader : Link → Effect Link
renews_reader link = becomes (with_reader link fresh_reader)

-- a packet read, where the output that is lent has room for every frame
abbrev pub reads_packet : List ℕ → Link → Effect Link
reads_packet bytes link =
    let done = receive (last_of link.reader.last) bytes (lent_out most_frame) in
    record { line = received_line done; next = with_reader link (after link.reader (mapped (λ x. reader_at x.packet.counter) done)) }

-- the next counter of the writer, by its two bytes
abbrev pub sets_counter : ℕ → ℕ → Link → Effect Link
sets_counter high low link = becomes (with_writer link (writer_at (256 * high + low)))

-- the same where they stand behind each other, the higher first
abbrev pub sets_next : List ℕ → Link → Effect Link
sets_next a link = sets_counter (byte a 0) (byte a 1) link

-- a frame written as a packet to a lent output
abbrev pub sends : ℕ → List ℕ → List ℕ → Link → Effect Link
sends code frame out link =
    let done = distribute link.writer.next code frame out in
    record {
      line = lent_line (says_with (λ x. length x.bytes ∷ []) done) (after out (mapped (λ x. x.out) done));
      next = with_writer link (after link.writer (mapped (λ x. writer_at x.next) done));
    }

-- the same where the code of the rate, the length of the output and the frame stand behind each other
abbrev pub writes_packet : List ℕ → Link → Effect Link
writes_packet a link = sends (byte a 0) (drop 2 a) (lent_out (byte a 1)) link

-- a code, a length and then a frame
abbrev pub two_and_frame : ℕ → Bool
two_and_frame n = leb 2 n

-- all of them
unfoldable pub link_rows : Link → List (Row Link)
link_rows link =
    row "X" (exactly 0) (λ a. renews_reader link)
    ∷ row "<" all_of_them (λ a. reads_packet a link)
    ∷ row "Y" (exactly 2) (λ a. sets_next a link)
    ∷ row ">" two_and_frame (λ a. writes_packet a link)
    ∷ []
