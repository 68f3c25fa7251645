-- What pushing to the places of a packet answers, and what it leaves: for the functions of this crate and the proofs of `packet`, whose public
-- contracts say it by the model and do not reach this file. Assumes nothing.
use Rattle.std.specs.Prelude.{◌≡◌, Bool, true, false, ◌&&◌, Result, List, ℕ, ◌+◌, ◌-◌, ◌≤◌, ◌<◌, length, get_or, set, take, drop}
use Rattle.std.proofs.lemmas.List.Edits.{sets}
use Rattle.caption.specs.declared.Refusal.{Refusal}
use Rattle.caption.specs.Answers.{outcome}
use Rattle.model.specs.Said.{Outcome, mapped, after, checked}
use Rattle.model.specs.Packet.{push_block, push_new, push_at, push_run_by}
use Rattle.service.specs.declared.Service.{Service}
use Rattle.service.specs.Service.{block_of, valid_service}
use Rattle.packet_entries.specs.Fields.{Fields, Arrays, fields, laid_over, packet_in, valid_fields}
use Rattle.packet_entries.specs.Extent.{sum_to}
use Rattle.packet_pushes.specs.declared.Form.{Form}
use Rattle.packet_pushes.specs.declared.Form.TheVariants.{Spill, Single}

-- how many blocks there are in the places that an outcome gives
abbrev pub counted : Outcome Fields → Outcome ℕ
counted o = mapped (λ (f : Fields). f.count) o

-- the places behind a push: as many blocks as it answers, and as many as before where it refuses
abbrev pub left_by : ℕ → ℕ → Result ℕ Refusal → Arrays → Fields
left_by q k r a = fields q (after k (outcome r)) a.numbers a.sizes a.payload

-- a push answers how many blocks there are in the places that it gives, and leaves those; a refusal leaves them as they were
pub record Stores (push : Fields → Outcome Fields) (f : Fields) (r : Result ℕ Refusal) (a : Arrays) : Type 0 where
  pub answer : outcome r ≡ counted (push f)
  pub places : left_by f.seq_no f.count r a ≡ after f (push f)

-- whether a run goes to a new block where the latest has no room for it
abbrev pub spills : Form → Bool
spills Spill = true
spills Single = false

-- a run pushed as a new block: the packet that it gives is laid over this one
unfoldable pub pushed_new : ℕ → List ℕ → Fields → Outcome Fields
pushed_new n run f = mapped (laid_over f) (push_new n run (packet_in f))

-- a run pushed to the block at place i
unfoldable pub pushed_at : ℕ → List ℕ → Fields → Outcome Fields
pushed_at i run f = mapped (laid_over f) (push_at i run (packet_in f))

-- a block pushed: both values are within the limits
unfoldable pub pushed_block : Service → Fields → Outcome Fields
pushed_block s f = mapped (laid_over f) (checked (valid_fields f && valid_service s) (push_block (block_of s) (packet_in f)))

-- a run pushed likewise: to the latest block of the number only if it has room, or whether or not it has
unfoldable pub pushed_run : Bool → ℕ → List ℕ → Fields → Outcome Fields
pushed_run needs_room n run f = mapped (laid_over f) (checked (valid_fields f) (push_run_by needs_room n run (packet_in f)))

-- the payloads with a run laid behind the first `before` bytes: the others move up
abbrev pub grown_over : ℕ → ℕ → List ℕ → List ℕ → List ℕ
grown_over used before run d = sets (sets d before run) (before + length run) (take (used - before) (drop before d))

-- a run laid behind the payload of the block at place i
pub record Extends (used i : ℕ) (run sizes payload sizes' payload' : List ℕ) : Type 0 where
  pub size : sizes' ≡ set sizes i (get_or sizes i 0 + length run)
  pub bytes : payload' ≡ grown_over used (sum_to (i + 1) sizes) run payload

-- the places that k bytes more need in the block at place i
pub record RoomAt (sizes : List ℕ) (used i k : ℕ) : Type 0 where
  pub there : i < 63
  pub before : sum_to (i + 1) sizes ≤ used
  pub bytes : used + k ≤ 127
  pub small : get_or sizes i 0 + k ≤ 31
