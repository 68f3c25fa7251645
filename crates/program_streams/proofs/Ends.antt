-- The last line is short: whoever leaves room for 64 bytes has all of it. Assumes nothing.
use Rattle.std.proofs.Common.{◌≡◌, ℕ, ◌+◌, ◌^◌, ◌<◌, ◌≤◌, List, ◌++◌, length, take, arith, length-append}
use Rattle.program_text.specs.Text.{word, decimal}
use Rattle.program_text.specs.Laid.{Laid}
use Rattle.program_text.proofs.Layings.{laid_whole, whole_taken}
use Rattle.program_text.proofs.Decimals.{digits_most}
use Rattle.program_lines.specs.Lines.{stopped_line, end_line}
use Rattle.program_streams.specs.Ends.{last_line}
use Rattle.program_streams.specs.declared.Left.{Left}
use Rattle.program_streams.specs.declared.Left.TheVariants.{More, Stopped, Ended}

-- a number of 64 bits has at most 20 digits
digits : (n : ℕ) → n < 2 ^ 64 → length (decimal n) ≤ 20
digits n h = digits_most 19 n (omega arith)

last_fits : (left : Left) (place n : ℕ) → place < 2 ^ 64 → n < 2 ^ 64 → length (last_line left place n) ≤ 64
unfolding stopped_line end_line
last_fits More place n h k = omega arith
last_fits Stopped place n h k =
    rw (length-append (word "stopped at byte " ++ decimal place) (word "\n"), length-append (word "stopped at byte ") (decimal place)) (omega (arith, digits place h))
last_fits Ended place n h k =
    rw (length-append (word "end " ++ decimal n) (word "\n"), length-append (word "end ") (decimal n)) (omega (arith, digits n k))

-- all of it is laid behind what was laid before
pub last_taken : (left : Left) (place n : ℕ) {out after : List ℕ} {at r : ℕ} → place < 2 ^ 64 → n < 2 ^ 64 → at + 64 ≤ length out
    → Laid (last_line left place n) out at r after → take r after ≡ take at out ++ last_line left place n
last_taken left place n h k room w = whole_taken (laid_whole w (omega (arith, last_fits left place n h k))) (omega arith)
