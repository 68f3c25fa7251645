-- The block at a place: its payload is the part of the bytes that is there. Assumes nothing.
use mathlib.Core.Path.{◌≡◌, refl, sym, ◌∙◌}
use mathlib.Core.List.{List}
use Prim.Native.Nat.{ℕ, ◌+◌, ◌-◌, ◌≤◌, ◌<◌, min}
use native.Mathlib.Omega.{arith}
use lib.Dec.{leb}
use lib.ListN.{length, take, drop, get_or, replicate, length-drop, drop_of_length-le}
use lib.Seq.{sets, take_all, take-nil}
use borrow.Author.Tests.{lt-ltb, le-ltb, leb-true, leb-false}
use Rattle.model.proofs.Cases.{by_test}
use Rattle.service.specs.declared.Service.{Service}
use Rattle.service.specs.Service.{over, blank}
use Rattle.service.proofs.Services.{laid_as}
use Rattle.packet_entries.specs.Fields.{block_from}
use Rattle.packet_entries.specs.Extent.{sum_to, placed_service}

-- bounds that are kept within the bytes cut the same part
pub part_within : (d : List ℕ) (n s k f e : ℕ) → length d ≡ n → f ≡ min s n → e ≡ min (f + k) n → take (e - f) (drop f d) ≡ take k (drop s d)
part_within d n s k f e full a b =
    by_test (leb s n)
    (λ q. let h = leb-true s n q in let z : f ≡ s = omega arith in rw z
    (by_test (leb (s + k) n)
    (λ r. let j = leb-true (s + k) n r in let m : e - s ≡ k = omega arith in rw m)
    (λ r. let j = leb-false (s + k) n r in
    take_all (e - s) (drop s d) (rw length-drop (omega arith)) ∙ sym (take_all k (drop s d) (rw length-drop (omega arith))))))
    (λ q. let h = leb-false s n q in
    rw (drop_of_length-le d {i = f} (omega arith), drop_of_length-le d {i = s} (omega arith), take-nil {A = ℕ} (e - f), take-nil {A = ℕ} k))

module _ (i : ℕ) (ns ss d : List ℕ) where
  pub place_past : 63 ≤ i → blank ≡ placed_service i ns ss d
  unfolding placed_service
  place_past h = simp (le-ltb i 63 h)

  pub place_is : i < 63 → (k s f e : ℕ) (p : List ℕ) → k ≡ get_or ss i 0 → s ≡ sum_to i ss → length d ≡ 127 → f ≡ min s 127 → e ≡ min (f + k) 127 → p ≡ sets (replicate 31 0) 0 (take (e - f) (drop f d))
      → ◌≡◌ {A = Service} (record { number = get_or ns i 0; len = k; payload = p }) (placed_service i ns ss d)
  unfolding placed_service
  place_is h k s f e p a b full m q z = rw (z, part_within d 127 s k f e full m q, a, b) (simp (lt-ltb i 63 h))

  -- it is laid in its places, where its payload is all there
  pub place_block : i < 63 → length (take (get_or ss i 0) (drop (sum_to i ss) d)) ≡ get_or ss i 0 → placed_service i ns ss d ≡ over blank (block_from (get_or ns i 0) (take (get_or ss i 0) (drop (sum_to i ss) d)))
  unfolding placed_service
  place_block h e = simp (lt-ltb i 63 h) (laid_as (get_or ns i 0) (get_or ss i 0) _ (take (get_or ss i 0) (drop (sum_to i ss) d)) e refl)
