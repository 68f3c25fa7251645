-- The functions that read and write a block's header. Assumes nothing.
use contract.Lifetimes.{Lfts}
use Rattle.caption.proofs.Answers.{said_refusal_injective}
use Rattle.service_headers.proofs.header_at.Reads as HeaderAtReads
use Rattle.service_headers.proofs.short_at.Reads as ShortAtReads
use Rattle.service_headers.proofs.block_length.Reads as BlockLengthReads
use Rattle.service_headers.proofs.put_header.Reads as PutHeaderReads
use Rattle.service_headers.proofs.written_header_length.Reads as WrittenHeaderLengthReads
use Rattle.determined.specs.Determines.{Determines, DeterminesLent}
use Rattle.determined.proofs.Ways.{equal, said, filled}

-- `header_at(data, at)`
pub header_at : (κs : Lfts 1) → Determines (HeaderAtReads.Post κs)
header_at κs = equal

-- `short_at(data, at)`
pub short_at : (κs : Lfts 1) → Determines (ShortAtReads.Post κs)
short_at κs = said said_refusal_injective

-- `block_length(number, size)`
pub block_length : Determines (BlockLengthReads.Post (tt {0}))
block_length = equal

-- `put_header(out, at, number, size)`
pub put_header : (κs : Lfts 1) → DeterminesLent (λ e. e.0.now) (PutHeaderReads.Post κs)
put_header κs = filled

-- `written_header_length(number)`
pub written_header_length : Determines (WrittenHeaderLengthReads.Post (tt {0}))
written_header_length = equal
