-- A dash where there is no byte, and else the bytes. Assumes nothing.
use Rattle.program_lines.proofs.Pieces.{laid_dash, laid_bytes}
use borrow.Author.Rules.{rules}
use Rattle.program_lines.proofs.put_hex_or_dash.Goals as goal

pub returns-then-bytes-eq0 : goal.returns-then-bytes-eq0
returns-then-bytes-eq0 c = search (rules, laid_dash)

pub returns : goal.returns
returns c = search (rules, laid_bytes)
