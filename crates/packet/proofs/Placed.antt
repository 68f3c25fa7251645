-- The block at a place, by each way out. Assumes nothing.
use mathlib.Core.Path.{◌≡◌, sym, ap, ◌∙◌}
use mathlib.Core.Bool.{true}
use mathlib.Core.List.{List, [], ◌∷◌}
use Prim.Native.Nat.{ℕ, zero, suc, ◌+◌, ◌-◌, ◌≤◌, ◌<◌}
use native.Mathlib.Omega.{arith}
use lib.ListN.{length, take, drop, get_or, length-drop, drop_of_length-le}
use lib.Seq.{length-take-le, drop-drop}
use Rattle.std.specs.Prelude.{Some, None}
use Rattle.model.specs.Said.{gave, mapped}
use Rattle.service.specs.declared.Service.{Service}
use Rattle.packet.specs.declared.DTVCCPacket.{DTVCCPacket}
use Rattle.packet_entries.specs.Entries.{Entry, entries, cut, used_by}
use Rattle.packet_entries.specs.Extent.{sum_to, placed_service}
use Rattle.packet_entries.proofs.Entries.{entries_at, used_sum}
use Rattle.packet_entries.proofs.Holds.{Within, used_fits, blocks_cut, blocks_count}
use Rattle.packet_entries.proofs.Walks.{sum_few}
use Rattle.packet_entries.proofs.Placed.{place_block}
use Rattle.packet_pushes.proofs.Pushed.{used_parts, cut_drop}
use Rattle.packet.specs.Packet.{packet_of, valid_dtvcc, asked}
use Rattle.packet.specs.Place.{blocks_at, handed}
use Rattle.packet.specs.Replies.{fields_of, entries_of}
use Rattle.packet.proofs.Holds.{Places, within_facts, entries_within}

-- the entries from a place on
entries_drop : (i k : ℕ) (ns ss : List ℕ) → i ≤ k → drop i (entries k ns ss) ≡ entries (k - i) (drop i ns) (drop i ss)
unfolding entries
entries_drop zero k ns ss h = let e : k - 0 ≡ k = omega arith in rw e
entries_drop (suc i) zero ns ss h = absurd (omega arith)
entries_drop (suc i) (suc k) ns ss h =
    let e : suc k - suc i ≡ k - i = omega arith in
    entries_drop i k (drop 1 ns) (drop 1 ss) (omega arith) ∙ rw (e, drop-drop i 1 ns, drop-drop i 1 ss, one_more i)
  where
    one_more : (i : ℕ) → 1 + i ≡ suc i
    one_more i = omega arith

module _ (p : DTVCCPacket) (valid : valid_dtvcc p ≡ true) (places : Places p) (i : ℕ) where
  w : Within (fields_of p)
  w = entries_within p (within_facts p valid) places

  pub place_none : p.count ≤ i → gave None ≡ mapped handed (asked p (blocks_at i))
  place_none h =
      let few : length (packet_of p).blocks ≤ i = omega (arith, blocks_count (fields_of p)) in
      let z : drop i (packet_of p).blocks ≡ [] = drop_of_length-le (packet_of p).blocks few in
      rw (valid, z)

  module _ (there : i < p.count) where
    abbrev from : ℕ
    from = sum_to i p.sizes

    abbrev k : ℕ
    k = get_or p.sizes i 0

    before : used_by (take i (entries_of p)) ≡ from
    before = used_sum i p.count p.numbers p.sizes (omega arith) ∙ sym (sum_few p.sizes i (omega (arith, w.count)))

    abbrev rest : List Entry
    rest = entries (p.count - (i + 1)) (drop (i + 1) p.numbers) (drop (i + 1) p.sizes)

    rest_at : drop i (entries_of p) ≡ record { number = get_or p.numbers i 0; size = k } ∷ rest
    rest_at = entries_drop i p.count p.numbers p.sizes (omega arith) ∙ entries_at p.count i p.numbers p.sizes there

    bytes_there : from + k ≤ length p.payload
    unfolding used_by
    bytes_there =
        let r : used_by (drop i (entries_of p)) ≡ k + used_by rest = ap used_by rest_at in
        omega (arith, before, used_parts i (entries_of p), used_fits (fields_of p) w places.payload)

    pub place_here : (b : Service) → b ≡ placed_service i p.numbers p.sizes p.payload → gave (Some b) ≡ mapped handed (asked p (blocks_at i))
    unfolding cut
    place_here b e =
        let size : length (take k (drop from p.payload)) ≡ k = length-take-le k (drop from p.payload) (rw length-drop (omega (arith, bytes_there))) in
        let d : drop i (packet_of p).blocks ≡ cut (record { number = get_or p.numbers i 0; size = k } ∷ rest) (drop from p.payload) =
        ap (drop i) (blocks_cut (fields_of p)) ∙ cut_drop i (entries_of p) p.payload ∙ rw (before, rest_at) in
        rw (valid, d) (ap (λ (s : Service). gave (Some s)) (e ∙ place_block i p.numbers p.sizes p.payload (omega (arith, w.count)) size))
