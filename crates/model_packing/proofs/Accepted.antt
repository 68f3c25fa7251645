-- What a proposal passes that is accepted, as facts. Assumes nothing.
use mathlib.Core.Path.{◌≡◌, refl, sym, ap, ◌∙◌}
use mathlib.Core.Bool.{Bool, true, false, cond}
use mathlib.Core.List.{List, []}
use Prim.Native.Nat.{ℕ, ◌≤◌}
use native.Mathlib.Omega.{arith}
use lib.Dec.{ltb}
use lib.ListN.{length}
use borrow.Author.Tests.{ltb-false}
use Rattle.model.specs.Lists.{every}
use Rattle.model.specs.Said.{Said, accepted, bad_cover, out_of_order, run_split, over_limit}
use Rattle.model.specs.Packet.{valid_packet}
use Rattle.model.proofs.Cases.{both}
use Rattle.model_packing.specs.Pieces.{Piece, count_from, bytes_of, every_two}
use Rattle.model_packing.specs.Proposals.{inside, held_once, covers, keeps_order, ordered, unsplit, blank_packet, most_numbers, runs_fit, numbered, one_service, limits, most_runs, check_proposal, bytes_first}
use Rattle.model_packing.proofs.Limits.{limits_all}

-- the tests of a proposal, the limits with the packets of all numbers
pub record Passes (services lengths : List ℕ) (ps : List Piece) : Type 0 where
  pub few_runs : length services ≤ most_runs
  pub all_inside : every (inside services lengths) ps ≡ true
  pub each_once : every (held_once ps) (bytes_of services lengths) ≡ true
  pub in_order : every_two (keeps_order services ps) (bytes_of services lengths) ≡ true
  pub together : unsplit services lengths ps ≡ true
  pub each_fits : runs_fit services lengths ≡ true
  pub one_byte : every numbered ps ≡ true
  pub each_one_service : every (one_service services ps) ps ≡ true
  pub in_limits : every (λ p. valid_packet (blank_packet services ps p)) (count_from 0 most_numbers) ≡ true

-- an answer that is accepted is not a refusal
not_refused : (why : Said) → (why.number ≡ 0 → ⊥) → why ≡ accepted [] → ⊥
not_refused why other e = other (ap (λ (a : Said). a.number) e)

-- so it is the answer behind a test that does not refuse,
pub none_refused : (b : Bool) (why so : Said) → (why.number ≡ 0 → ⊥) → cond b why so ≡ accepted [] → (b ≡ false) × (so ≡ accepted [])
none_refused true why so other e = absurd (not_refused why other e)
none_refused false why so other e = (refl, e)

-- or behind one that is passed
pub both_passed : (b : Bool) (so why : Said) → (why.number ≡ 0 → ⊥) → cond b so why ≡ accepted [] → (b ≡ true) × (so ≡ accepted [])
both_passed true so why other e = (refl, e)
both_passed false so why other e = absurd (not_refused why other e)

-- an accepted proposal passes them
pub accepted_passes : (services lengths : List ℕ) (ps : List Piece) → check_proposal services lengths ps ≡ accepted [] → Passes services lengths ps
unfolding check_proposal bytes_first covers ordered
accepted_passes services lengths ps e =
    let few = none_refused (ltb most_runs (length services)) over_limit _ (λ z. omega arith) e in
    let cover = both_passed (covers services lengths ps) _ bad_cover (λ z. omega arith) few.1 in
    let order = both_passed (ordered services lengths ps) _ out_of_order (λ z. omega arith) cover.1 in
    let whole = both_passed (unsplit services lengths ps) _ run_split (λ z. omega arith) order.1 in
    let limit = both_passed (limits services lengths ps) _ over_limit (λ z. omega arith) whole.1 in
    let c = both _ _ cover.0 in
    let f = both (runs_fit services lengths) _ (sym (limits_all services lengths ps) ∙ limit.0) in
    let g = both _ _ f.1 in
    let h = both _ _ g.1 in
    record {
      few_runs = ltb-false most_runs (length services) few.0;
      all_inside = c.0;
      each_once = c.1;
      in_order = order.0;
      together = whole.0;
      each_fits = f.0;
      one_byte = g.0;
      each_one_service = h.0;
      in_limits = h.1;
    }
