-- What a table that tells of all pieces says of the proposal: whether the bytes are covered, keep their order and are not split. Assumes nothing.
use mathlib.Core.Path.{◌≡◌, refl, sym, ◌∙◌}
use mathlib.Core.Bool.{Bool, true, false, not}
use mathlib.Core.List.{List, [], ◌∷◌}
use Prim.Native.Nat.{ℕ, ◌+◌, ◌-◌, ◌≤◌, ◌<◌}
use native.Mathlib.Omega.{arith}
use lib.Dec.{eqb}
use lib.ListN.{length, replicate}
use borrow.Author.Tests.{not-true, not-false, ltb-true, eqb-true, eqb-false, eq-eqb, lt-ltb, le-ltb}
use Rattle.model.specs.Lists.{every}
use Rattle.model.specs.Said.{accepted, bad_cover, out_of_order, run_split, over_limit}
use Rattle.model.proofs.Cases.{by_test}
use Rattle.model_packing.specs.Pieces.{Byte, byte, bytes_of, pieces_of, every_two, In, here, there}
use Rattle.model_packing.specs.Proposals.{held_once, holders, covers, sent, keeps_order, ordered, with_first, unsplit, bytes_first}
use Rattle.model_packing.proofs.Lists.{every_in, in_bytes, byte_within}
use Rattle.model_packing.proofs.Crowded.{crowded}
use Rattle.packing_bytes.specs.Bytes.{bytes_said}
use Rattle.packing_bytes.specs.Table.{holder_from, TellsHolders, FewRuns, told, has_holder, sent_by, one_block, beside_first, follow}
use Rattle.packing_bytes.proofs.Numbers.{piece_at}
use Rattle.packing_bytes.proofs.Holding.{held_at, no_holder}
use Rattle.packing_bytes.proofs.Order.{in_order, follow_all}

-- two tests that agree on what is in a list
every_agree : {A : Type 0} (f g : A → Bool) (xs : List A) → ((x : A) → In x xs → f x ≡ g x) → every f xs ≡ every g xs
unfolding every
every_agree f g [] h = refl
every_agree f g (x ∷ xs) h = rw (h x (here refl), every_agree f g xs (λ y i. h y (there i)))

two_agree : {A : Type 0} (f g : A → A → Bool) (xs : List A) → ((x y : A) → In x xs → In y xs → f x y ≡ g x y) → every_two f xs ≡ every_two g xs
unfolding every_two
two_agree f g [] h = refl
two_agree f g (x ∷ xs) h =
    rw (
      every_agree (f x) (g x) xs (λ y i. h x y (here refl) (there i)),
      two_agree f g xs (λ y z i j. h y z (there i) (there j)),
    )

module _ (services lengths l t : List ℕ) (R : FewRuns services lengths) (T : TellsHolders services lengths t 0 (pieces_of l)) where
  -- a byte of a run has its cell
  told_is : (x : Byte) → In x (bytes_of services lengths) → told t x ≡ holder_from 0 (pieces_of l) x
  told_is x i =
      let b = byte_within services lengths x i in
      T.tells x.run x.place (omega (arith, b.0, R.few)) (omega (arith, b.1, R.short x.run))

  -- it has a holder where it is in one piece
  once_held : (x : Byte) → In x (bytes_of services lengths) → held_once (pieces_of l) x ≡ has_holder t x
  unfolding held_once has_holder
  once_held x i =
      let e = told_is x i in
      by_test (eqb (told t x) 0)
      (λ z.
      let n = no_holder 0 (pieces_of l) x (sym e ∙ eqb-true (told t x) 0 z) in
      rw (n, eqb-true (told t x) 0 z))
      (λ z.
      let f : told t x ≡ 0 → ⊥ = eqb-false (told t x) 0 z in
      let h = held_at 0 (pieces_of l) x (λ q. f (e ∙ q)) in
      rw (eq-eqb (holders x (pieces_of l)) 1 (omega (arith, h.counted, T.single x)), lt-ltb 0 (told t x) (omega arith)))

  -- so the bytes are covered where all have holders
  pub covers_told : covers services lengths (pieces_of l) ≡ every (has_holder t) (bytes_of services lengths)
  unfolding covers
  covers_told = rw (T.within, every_agree (held_once (pieces_of l)) (has_holder t) (bytes_of services lengths) once_held)

  module _ (all : every (has_holder t) (bytes_of services lengths) ≡ true) where
    -- then each is sent as the table tells
    sent_told : (x : Byte) → In x (bytes_of services lengths) → sent (pieces_of l) x ≡ sent_by l (told t x)
    unfolding sent_by has_holder
    sent_told x i =
        let e = told_is x i in
        let p : 0 < told t x = ltb-true 0 (told t x) (every_in (has_holder t) (bytes_of services lengths) all i) in
        let h = held_at 0 (pieces_of l) x (λ q. absurd (omega arith)) in
        let w : told t x - 1 ≡ h.at = omega (arith, h.holder) in
        let z : 0 + h.at ≡ h.at = omega arith in
        h.sends ∙ rw (piece_at l h.at h.reached, w, z)

    -- and the order of every two is the order that the walk asks for
    pub ordered_told : follow services l t (replicate 256 0) (bytes_of services lengths) ≡ ordered services lengths (pieces_of l)
    unfolding ordered keeps_order in_order
    ordered_told =
        follow_all services l t R.named (bytes_of services lengths) all
        ∙ sym (two_agree (keeps_order services (pieces_of l)) (in_order services l t) (bytes_of services lengths)
        (λ x y i j. rw (sent_told x i, sent_told y j)))

    -- and so are the blocks
    pub unsplit_told : every (beside_first l t) (bytes_of services lengths) ≡ unsplit services lengths (pieces_of l)
    unfolding unsplit with_first beside_first one_block
    unsplit_told =
        sym (every_agree (with_first (pieces_of l)) (beside_first l t) (bytes_of services lengths)
        (λ x i.
        let b = byte_within services lengths x i in
        let f : In (byte x.run 0) (bytes_of services lengths) = in_bytes services lengths (byte x.run 0) b.0 (omega (arith, b.1)) in
        rw (sent_told x i, sent_told (byte x.run 0) f)))

-- the answer, way out by way out
module _ (services lengths l : List ℕ) where
  -- too many runs
  pub said_many : 256 < length services → over_limit ≡ bytes_said services lengths (pieces_of l)
  unfolding bytes_said bytes_first
  said_many h = rw (lt-ltb 256 (length services) h)

  module _ (few : length services ≤ 256) where
    -- bytes that are not covered
    pub said_uncovered : covers services lengths (pieces_of l) ≡ false → bad_cover ≡ bytes_said services lengths (pieces_of l)
    unfolding bytes_said bytes_first
    said_uncovered e = rw (le-ltb 256 (length services) few, e)

    -- more pieces than bytes
    pub said_crowded : (n m : ℕ) → n ≡ length (bytes_of services lengths) → m ≡ length (pieces_of l) → n < m → bad_cover ≡ bytes_said services lengths (pieces_of l)
    said_crowded n m e f h = said_uncovered (crowded services lengths (pieces_of l) (omega arith))

  module _ (R : FewRuns services lengths) (t : List ℕ) (T : TellsHolders services lengths t 0 (pieces_of l))
      (a : Bool) (is : a ≡ every (has_holder t) (bytes_of services lengths))
    where
      -- a byte that is in no piece
      pub said_unheld : not a ≡ true → bad_cover ≡ bytes_said services lengths (pieces_of l)
      said_unheld e = said_uncovered R.few (covers_told services lengths l t R T ∙ sym is ∙ not-true a e)

      module _ (yes : not a ≡ false)
          (b : Bool) (kept_is : b ≡ follow services l t (replicate 256 0) (bytes_of services lengths))
        where
          all : every (has_holder t) (bytes_of services lengths) ≡ true
          all = sym is ∙ not-false a yes

          covered : covers services lengths (pieces_of l) ≡ true
          covered = covers_told services lengths l t R T ∙ all

          in_order_told : ordered services lengths (pieces_of l) ≡ b
          in_order_told = sym (kept_is ∙ ordered_told services lengths l t R T all)

          -- bytes that do not keep their order
          pub said_unordered : not b ≡ true → out_of_order ≡ bytes_said services lengths (pieces_of l)
          unfolding bytes_said bytes_first
          said_unordered e = rw (le-ltb 256 (length services) R.few, covered, in_order_told, not-true b e)

          module _ (kept : not b ≡ false) (d : Bool) (beside : d ≡ every (beside_first l t) (bytes_of services lengths)) where
            whole : unsplit services lengths (pieces_of l) ≡ d
            whole = sym (beside ∙ unsplit_told services lengths l t R T all)

            -- a run that is split
            pub said_split : not d ≡ true → run_split ≡ bytes_said services lengths (pieces_of l)
            unfolding bytes_said bytes_first
            said_split e = rw (le-ltb 256 (length services) R.few, covered, in_order_told, not-false b kept, whole, not-true d e)

            -- and none
            pub said_accepted : not d ≡ false → accepted [] ≡ bytes_said services lengths (pieces_of l)
            unfolding bytes_said bytes_first
            said_accepted e = rw (le-ltb 256 (length services) R.few, covered, in_order_told, not-false b kept, whole, not-false d e)
