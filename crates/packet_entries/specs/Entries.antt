-- The places of a packet by their numbers and sizes alone, as the code goes over them. This is for the functions and the proofs of this crate and
-- of `packet_pushes`: no public contract of `packet` reaches it, and `tests_agree` says that its test is that of `Fields`. Assumes nothing.
use Rattle.std.specs.Prelude.{Bool, true, ◌&&◌, List, [], ◌∷◌, ℕ, zero, suc, ◌+◌, leb, get_or, take, drop}
use Rattle.model.specs.Block.{Block}
use Rattle.service_headers.specs.Head.{length_for}
use Rattle.packet_entries.specs.Fields.{Fields}

-- a block's number and the size of its payload
pub record Entry : Type 0 where
  pub number : ℕ
  pub size : ℕ

-- the first k entries of numbers and sizes
unfoldable pub entries : ℕ → List ℕ → List ℕ → List Entry
entries zero ns ss = []
entries (suc k) ns ss = record { number = get_or ns 0 0; size = get_or ss 0 0 } ∷ entries k (drop 1 ns) (drop 1 ss)

-- those of places
abbrev pub entries_of : Fields → List Entry
entries_of p = entries p.count p.numbers p.sizes

-- the blocks of entries whose payloads stand one behind the other
unfoldable pub cut : List Entry → List ℕ → List Block
cut [] d = []
cut (e ∷ es) d = record { number = e.number; payload = take e.size d } ∷ cut es (drop e.size d)

-- an entry within the limits: not of number 0, not without payload
unfoldable pub good_entry : ℕ → ℕ → Bool
good_entry n k = (leb 1 n && leb n 63) && (leb 1 k && leb k 31)

-- all of them
unfoldable pub good_entries : List Entry → Bool
good_entries [] = true
good_entries (e ∷ es) = good_entry e.number e.size && good_entries es

-- the sum of the blocks' lengths
unfoldable pub entry_lengths : List Entry → ℕ
entry_lengths [] = 0
entry_lengths (e ∷ es) = length_for e.number e.size + entry_lengths es

-- the sum of their payloads' lengths
unfoldable pub used_by : List Entry → ℕ
used_by [] = 0
used_by (e ∷ es) = e.size + used_by es

-- the test of a packet's limits, by its sequence number, its count and its entries
unfoldable pub valid_as : ℕ → ℕ → List Entry → Bool
valid_as q k es = leb q 3 && (leb k 63 && (good_entries es && leb (entry_lengths es) 127))

-- the same of places
abbrev pub valid_entries : Fields → Bool
valid_entries p = valid_as p.seq_no p.count (entries_of p)
