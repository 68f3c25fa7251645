-- What a `Service` holds, and what its calls give. Assumes nothing.
use Rattle.std.specs.Prelude.{Bool, ◌&&◌, List, ℕ, leb, length, take, replicate}
use Rattle.std.proofs.lemmas.List.Edits.{sets}
use Rattle.model.specs.Said.{Outcome, gave, after, mapped, checked, put_into}
use Rattle.model.specs.Block.{Block, most_payload, valid_block, written_block, push_to_block}
use Rattle.service.specs.declared.Service.{Service}

-- the block that it holds
abbrev pub block_of : Service → Block
block_of s = record { number = s.number; payload = take s.len s.payload }

-- a block laid over the places of another: what stands behind it stays
abbrev pub over : Service → Block → Service
over old b = record { number = b.number; len = length b.payload; payload = sets old.payload 0 b.payload }

-- no block: zeros in all places
abbrev pub blank : Service
blank = record { number = 0; len = 0; payload = replicate most_payload 0 }

-- whether the payload is in its places, and the block breaks no limit
unfoldable pub valid_service : Service → Bool
valid_service s = leb s.len most_payload && valid_block (block_of s)

-- what is asked of it; 11 where it breaks a limit
abbrev pub asked : {A : Type 0} → Service → (Block → A) → Outcome A
asked s f = checked (valid_service s) (gave (f (block_of s)))

-- the block with a run pushed to it
abbrev pub pushed : List ℕ → Service → Outcome Block
pushed run s = checked (valid_service s) (push_to_block run (block_of s))

-- the places behind a call: what it gives is laid over the old ones, and a refusal leaves them
abbrev pub laid : Service → Outcome Block → Service
laid old o = after old (mapped (over old) o)

-- the block as it is written
abbrev pub bytes_of : Service → List ℕ
bytes_of s = written_block (block_of s)

-- a lent output with the block written to it
abbrev pub written : Service → List ℕ → Outcome (List ℕ)
written s out = checked (valid_service s) (put_into out (bytes_of s))
