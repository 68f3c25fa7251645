-- What reading gives and pushing leaves is a valid block, and means what the model says; a block written is read back; what a block is refused with.
-- Assumes nothing.
use mathlib.Core.Path.{◌≡◌, refl, sym, ap}
use mathlib.Core.Bool.{true}
use mathlib.Core.List.{List, ◌++◌}
use Prim.Native.Nat.{ℕ, ◌+◌, ◌≤◌}
use native.Mathlib.Omega.{arith}
use lib.Dec.{eqb}
use lib.ListN.{length, take}
use borrow.Author.Tests.{le-leb, eqb-true, eqb-false}
use Rattle.std.specs.Prelude.{Result, Err}
use Rattle.caption.specs.declared.Refusal.{Refusal}
use Rattle.caption.specs.Answers.{outcome, said_refusal}
use Rattle.caption.proofs.Answers.{refused_so}
use Rattle.model.specs.Said.{gave, says, mapped}
use Rattle.model.specs.Block.{Block, valid_block, read_block, written_block, with_run}
use Rattle.model.proofs.Cases.{by_test}
use Rattle.model.proofs.Lengths.{ShortAt, block_refusals}
use Rattle.model.proofs.Limits.{read_valid}
use Rattle.model.proofs.BlockTrip.{read_written}
use Rattle.service.specs.declared.Service.{Service}
use Rattle.service.specs.Service.{block_of, over, blank, valid_service}
use Rattle.service.proofs.Services.{over_means, blank_places, block_facts, valid_number, valid_len, valid_null, named_valid, payload_length, push_small}

-- a block in its places holds the block
pub laid_means : (b : Block) → length b.payload ≤ 31 → block_of (over blank b) ≡ b
laid_means b h = over_means blank b blank_places h

-- a block that breaks no limit breaks none where it is laid over any places
pub over_valid : (old : Service) (b : Block) → length old.payload ≡ 31 → valid_block b ≡ true → valid_service (over old b) ≡ true
unfolding valid_service
over_valid old b places e = let h = (block_facts b e).small in rw (over_means old b places h, e) (rw (le-leb (length b.payload) 31 h))

-- what the reader gives breaks no limit
pub parsed_valid : (d : List ℕ) {b : Block} → read_block d ≡ gave b → valid_service (over blank b) ≡ true
parsed_valid d {b} e = over_valid blank b blank_places (read_valid d e)

-- nor does what a push leaves
pub pushed_valid : (run : List ℕ) (s : Service) → length s.payload ≡ 31 → valid_service s ≡ true → (s.number ≡ 0 → ⊥) → s.len + length run ≤ 31
    → valid_service (over s (with_run run (block_of s))) ≡ true
pushed_valid run s places v named fits =
    sym (named_valid (over s (with_run run (block_of s))) (valid_number s v) (push_small s _ refl places run v (omega arith)) named)

-- a block with a payload that is written is read back, whatever follows it
pub written_back : (s : Service) (rest : List ℕ) → valid_service s ≡ true → length s.payload ≡ 31 → 1 ≤ s.len
    → read_block (written_block (block_of s) ++ rest) ≡ gave (block_of s)
written_back s rest v places some =
    let n : length (take s.len s.payload) ≡ s.len = payload_length s _ refl places v in
    let named : 1 ≤ s.number = by_test (eqb s.number 0) (λ e. absurd (omega (arith, valid_null s places v (eqb-true s.number 0 e)))) (λ e. omega (arith, eqb-false s.number 0 e)) in
    read_written (block_of s) rest (record { named = named; known = valid_number s v; filled = omega arith; small = omega (arith, valid_len s v) }) 0

-- What reading a block is refused with is what `ShortAt` says at 0, whatever answer the contract allows.
pub block_lengths : (d : List ℕ) (r : Result Service Refusal) (why : Refusal) → r ≡ Err why → mapped block_of (outcome r) ≡ read_block d
    → ShortAt 0 d (said_refusal why)
block_lengths d r why is read = refused_so (ShortAt 0 d) why (read_block d) (block_refusals d) (ap says (rw is at read))
