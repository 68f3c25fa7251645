-- What is measured of the places of a packet on the way, and the block that one of them holds: for the functions and the proofs of this crate, of
-- `packet_pushes` and of `packet`, and no public contract of `packet` reaches it. Assumes nothing.
use Rattle.std.specs.Prelude.{◌≡◌, true, cond, Option, Some, None, List, ℕ, zero, suc, ◌+◌, eqb, ltb, get_or, take, drop, replicate}
use Rattle.std.proofs.lemmas.List.Edits.{sets}
use Rattle.service.specs.declared.Service.{Service}
use Rattle.service.specs.Service.{blank}
use Rattle.packet_entries.specs.declared.Extent.{Extent}
use Rattle.packet_entries.specs.Fields.{Fields, sum_of}
use Rattle.packet_entries.specs.Entries.{Entry, entries_of, good_entries, entry_lengths, used_by, valid_as, valid_entries}

-- the length of a packet of so many entries [P7]: 0 without any, else a byte more than its blocks
abbrev pub length_with : ℕ → ℕ → ℕ
length_with k lengths = cond (eqb k 0) 0 (1 + lengths)

-- an extent of so many bytes
abbrev pub extent : ℕ → ℕ → Extent
extent length used = record { length = length; used = used }

-- what going over entries finds
unfoldable pub walked : List Entry → Option Extent
walked es = cond (good_entries es) (Some (extent (entry_lengths es) (used_by es))) None

-- the extent of a packet; none where it breaks a limit
unfoldable pub extent_as : ℕ → ℕ → List Entry → Option Extent
extent_as q k es = cond (valid_as q k es) (Some (extent (length_with k (entry_lengths es)) (used_by es))) None

-- entries within the limits, with the length of their packet and the sum of its payloads
pub record Sized (p : Fields) (length used : ℕ) : Type 0 where
  pub valid : valid_entries p ≡ true
  pub length_is : length ≡ length_with p.count (entry_lengths (entries_of p))
  pub used_is : used ≡ used_by (entries_of p)

-- the latest of the first k places that has number n
unfoldable pub latest_in : ℕ → List ℕ → ℕ → Option ℕ
latest_in zero ns n = None
latest_in (suc k) ns n = cond (eqb (get_or ns k 0) n) (Some k) (latest_in k ns n)

-- none where there are fewer places
unfoldable pub latest_of : ℕ → List ℕ → ℕ → Option ℕ
latest_of k ns n = cond (ltb 63 k) None (latest_in k ns n)

-- the sum of the first k sizes; 0 where there are fewer places
unfoldable pub sum_to : ℕ → List ℕ → ℕ
sum_to k ss = cond (ltb 63 k) 0 (sum_of (take k ss))

-- the block that place i of the arrays holds; an empty one where there is no such place
unfoldable pub placed_service : ℕ → List ℕ → List ℕ → List ℕ → Service
placed_service i ns ss d = cond (ltb i 63) (record { number = get_or ns i 0; len = get_or ss i 0; payload = sets (replicate 31 0) 0 (take (get_or ss i 0) (drop (sum_to i ss) d)) }) blank
