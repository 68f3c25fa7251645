-- There is room for all of the lines. Assumes nothing.
use mathlib.Core.List.{List}
use Prim.Native.Nat.{ℕ, ◌+◌, ◌^◌, ◌≤◌, ◌<◌}
use native.Mathlib.Omega.{arith}
use lib.ListN.{length, get_or}
use borrow.Author.Rules.{rules}
use Rattle.parser.specs.Means.{Shaped}
use Rattle.parser.proofs.Calls.{length_mapped}
use Rattle.program_text.specs.Laid.{Laid, Whole}
use Rattle.program_text.proofs.Layings.{laid_whole}
use Rattle.ccread_report.specs.Report.{record_lines}
use Rattle.ccread_report.specs.declared.Capture.{Capture}
use Rattle.ccread_report.proofs.Fits.{record_fits}
use Rattle.ccread.proofs.put_record.Goals as goal
use Rattle.ccread.proofs.put_record.Goals.{Start}

-- all lines are laid
lines_whole : (r kind : ℕ) (s : List ℕ) (c : Capture) {at t : ℕ} {out after : List ℕ} → r < 2 ^ 64 → Shaped c.parser → ((i : ℕ) → get_or s i 0 < 256)
    → at + 32768 ≤ length out → Laid (record_lines r kind s c) out at t after → Whole (record_lines r kind s c) out at t after
lines_whole r kind s c {at} {t} {out} {after} few shaped bytes room w = laid_whole w (omega (arith, record_fits r s c few shaped bytes kind))

-- the arrays have their lengths
shaped : (s : Start) → Shaped s.args.capture.parser
shaped s = record { pairs = search rules; pending = search rules; waiting = search (rules, length_mapped) }

pub returns-clause-whole : goal.returns-clause-whole
returns-clause-whole c =
    λ room. lines_whole _ _ _ _ (omega arith) (shaped (goal.at.returns-clause-whole c).Start) (λ i. omega (arith, c.type_inv.bytes i)) room c.put_record.ensures.laid
