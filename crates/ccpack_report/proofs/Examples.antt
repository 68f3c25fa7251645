-- Jobs and what is told of them, as one table with one statement [Q9]. Assumes nothing.
use mathlib.Core.Path.{◌≡◌, refl}
use mathlib.Core.List.{List, [], ◌∷◌, map, flat_map}
use Prim.Native.Nat.{ℕ}
use Rattle.model.specs.Lists.{every, same}
use Rattle.model.specs.Block.{written_header, written_block, block_length}
use Rattle.model.specs.Packet.{blocks_length, packet_length, carriable, valid_packet, latest_of, push_new, push_at, push_run_at, push_run_by}
use Rattle.model_packing.specs.Pieces.{pieces_of, count_from, run_bytes, bytes_of, those, every_two, not_after}
use Rattle.model_packing.specs.Proposals.{inside, holds, holders, held_once, covers, sent_from, keeps_order, ordered, with_first, unsplit, lies_in, block_for, blocks_in, run_fits, runs_fit, numbered, one_service, limits, check_proposal, bytes_first}
use Rattle.model_packing.specs.FirstCome.{placed, pieces_from, packets_from, packets_filled, packable}
use Rattle.program_text.specs.Text.{word, digit, decimal_in, decimal}
use Rattle.program_lines.specs.Lines.{value_text, values_text, answer_text, end_line}
use Rattle.ccpack_report.specs.Lines.{answer_line, packets_line, piece_line, piece_lines, proposal_lines, packed_text}
use Rattle.ccpack_report.specs.Jobs.{check_job, propose_job, job_of, job_in, checked_text, told_of, job_text}

-- a row: a job, and its text
pub record Row : Type 0 where
  pub job : List ℕ
  pub text : List ℕ

abbrev row : List ℕ → List ℕ → Row
row job text = record { job = job; text = text }

-- nothing; another kind; half a number of runs; bytes missing and too many; too many runs; no runs; proposals accepted, with a byte missing and in
-- the wrong order; runs packed, and one that cannot be
unfoldable pub table : List Row
table =
    row [] (word "bad\n")
    ∷ row (0x58 ∷ 0 ∷ 0 ∷ []) (word "bad\n")
    ∷ row (0x43 ∷ 0 ∷ []) (word "bad\n")
    ∷ row (0x50 ∷ 0 ∷ 1 ∷ 1 ∷ []) (word "bad\n")
    ∷ row (0x50 ∷ 0 ∷ 0 ∷ 0 ∷ []) (word "bad\n")
    ∷ row (0x43 ∷ 0 ∷ 1 ∷ 1 ∷ 2 ∷ 0 ∷ 0 ∷ 2 ∷ 0 ∷ []) (word "bad\n")
    ∷ row (0x43 ∷ 1 ∷ 1 ∷ []) (word "refused 26\n")
    ∷ row (0x50 ∷ 1 ∷ 1 ∷ 7 ∷ []) (word "refused 26\n")
    ∷ row (0x43 ∷ 0 ∷ 0 ∷ []) (word "ok\n")
    ∷ row (0x50 ∷ 0 ∷ 0 ∷ []) (word "packets 0\nend 0\n")
    ∷ row (0x43 ∷ 0 ∷ 1 ∷ 1 ∷ 2 ∷ 0 ∷ 0 ∷ 2 ∷ 0 ∷ 0 ∷ []) (word "ok\n")
    ∷ row (0x43 ∷ 0 ∷ 1 ∷ 1 ∷ 2 ∷ 0 ∷ 0 ∷ 1 ∷ 0 ∷ 0 ∷ []) (word "refused 23\n")
    ∷ row (0x43 ∷ 0 ∷ 1 ∷ 1 ∷ 2 ∷ 0 ∷ 1 ∷ 1 ∷ 0 ∷ 0 ∷ 0 ∷ 0 ∷ 1 ∷ 0 ∷ 0 ∷ []) (word "refused 24\n")
    ∷ row (0x50 ∷ 0 ∷ 2 ∷ 1 ∷ 7 ∷ 2 ∷ 12 ∷ []) (word "packets 1\npiece 0 0 2 0 0\npiece 1 0 12 0 1\nend 2\n")
    ∷ row (0x50 ∷ 0 ∷ 1 ∷ 1 ∷ 32 ∷ []) (word "refused 26\n")
    ∷ []

examples : map (λ (r : Row). job_text r.job) table ≡ map (λ (r : Row). r.text) table
unfolding table every same written_header written_block block_length blocks_length packet_length carriable valid_packet flat_map latest_of push_new push_at push_run_at push_run_by pieces_of count_from run_bytes bytes_of those every_two not_after inside holds holders held_once covers sent_from keeps_order ordered with_first unsplit lies_in block_for blocks_in run_fits runs_fit numbered one_service limits check_proposal bytes_first placed pieces_from packets_from packets_filled packable digit decimal_in decimal value_text values_text answer_text end_line answer_line packets_line piece_line piece_lines proposal_lines packed_text check_job propose_job job_of job_in checked_text told_of job_text
examples = refl
