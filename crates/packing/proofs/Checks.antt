-- The check of a proposal: that of its bytes, and then that of its limits. Assumes nothing.
use mathlib.Core.Path.{◌≡◌, sym, ap, ◌∙◌}
use mathlib.Core.Bool.{Bool, true, false, cond}
use mathlib.Core.List.{List, []}
use Prim.Native.Nat.{ℕ}
use native.Mathlib.Omega.{arith}
use lib.Dec.{ltb}
use lib.ListN.{length}
use Rattle.model.specs.Said.{Said, accepted, bad_cover, out_of_order, run_split, over_limit}
use Rattle.model.proofs.Cases.{by_test, NotAccepted}
use Rattle.caption.specs.declared.Refusal.{Refusal}
use Rattle.caption.specs.Answers.{said_refusal}
use Rattle.caption.proofs.Answers.{refusal_numbered}
use Rattle.model_packing.specs.Pieces.{Piece}
use Rattle.model_packing.specs.Proposals.{covers, ordered, unsplit, limits, most_runs, bytes_first, check_proposal}
use Rattle.model_packing.proofs.Accepted.{none_refused, both_passed}
use Rattle.packing_bytes.specs.Bytes.{bytes_said}

module _ (services lengths : List ℕ) (ps : List Piece) where
  -- where the bytes are accepted, what is asked last decides,
  bytes_passed : accepted [] ≡ bytes_first services lengths ps (accepted []) → (last : Said) → bytes_first services lengths ps last ≡ last
  unfolding bytes_first
  bytes_passed e last =
      let few = none_refused (ltb most_runs (length services)) over_limit _ (λ z. omega arith) (sym e) in
      let cover = both_passed (covers services lengths ps) _ bad_cover (λ z. omega arith) few.1 in
      let order = both_passed (ordered services lengths ps) _ out_of_order (λ z. omega arith) cover.1 in
      let whole = both_passed (unsplit services lengths ps) _ run_split (λ z. omega arith) order.1 in
      rw (few.0, cover.0, order.0, whole.0)

  -- and a refusal of them is the answer, whatever is asked last
  bytes_first_lem : (why : Said) → NotAccepted why → why ≡ bytes_first services lengths ps (accepted []) → (last : Said) → why ≡ bytes_first services lengths ps last
  unfolding bytes_first
  bytes_first_lem why n e last =
      by_test (ltb most_runs (length services)) (λ m. rw m (rw m at e))
      (λ f. by_test (covers services lengths ps)
      (λ c. by_test (ordered services lengths ps)
      (λ o. by_test (unsplit services lengths ps)
      (λ u. let z : why ≡ accepted [] = rw (f, c, o, u) at e in absurd (n (ap (λ (s : Said). s.number) z)))
      (λ u. rw (f, c, o, u) (rw (f, c, o, u) at e)))
      (λ o. rw (f, c, o) (rw (f, c, o) at e)))
      (λ c. rw (f, c) (rw (f, c) at e)))

module _ (services lengths : List ℕ) (ps : List Piece) where
  -- the bytes are refused
  pub bytes_refused : (why : Refusal) → said_refusal why ≡ bytes_said services lengths ps → said_refusal why ≡ check_proposal services lengths ps
  unfolding bytes_said check_proposal
  bytes_refused why e = bytes_first_lem services lengths ps (said_refusal why) (refusal_numbered why) e _

  module _ (e : accepted [] ≡ bytes_said services lengths ps) where
    asked : check_proposal services lengths ps ≡ cond (limits services lengths ps) (accepted []) over_limit
    unfolding bytes_said check_proposal
    asked = bytes_passed services lengths ps e _

    module _ (b : Bool) (is : b ≡ limits services lengths ps) where
      -- the limits are kept
      pub limits_kept : b ≡ true → accepted [] ≡ check_proposal services lengths ps
      limits_kept t = sym (asked ∙ rw (← is, t))

      -- or broken
      pub limits_broken : b ≡ false → over_limit ≡ check_proposal services lengths ps
      limits_broken f = sym (asked ∙ rw (← is, f))
