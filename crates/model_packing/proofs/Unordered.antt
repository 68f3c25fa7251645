-- The bytes of a service are sent one after the other, if a proposal covers its runs and keeps the limits, in whatever order. Assumes nothing.
use mathlib.Core.Path.{◌≡◌, refl, sym, ap₂, ◌∙◌}
use mathlib.Core.Bool.{true, false, false≢true}
use mathlib.Core.List.{List, [], ◌∷◌}
use Prim.Native.Nat.{ℕ}
use native.Mathlib.Omega.{arith}
use lib.Dec.{eqb}
use borrow.Author.Tests.{eq-eqb, ne_eqb, lt-ltb, eqb-true, eqb-false, ltb-false}
use Rattle.model.proofs.Cases.{by_test}
use Rattle.model_packing.specs.Pieces.{Piece, Byte, not_after, In}
use Rattle.model_packing.specs.Proposals.{sent}
use Rattle.model_packing.proofs.Sorted.{Sorted, sorted_by, sorted_those, sorted_flat_map}
use Rattle.model_packing.proofs.Sending.{Listed, sent_at, not_after_itself, sending_sorted}
use Rattle.model_packing.proofs.Bytes.{piece_bytes, bytes_sorted}
use Rattle.model_packing.proofs.Spoken.{is_listed_of, sending_to, sent_bytes, sent_then, to_service}
use Rattle.model_packing.proofs.Covered.{Covered}

-- of two lists of numbers, one does not come after the other
either_not_after : (l m : List ℕ) → not_after l m ≡ false → not_after m l ≡ true
unfolding not_after
either_not_after [] m e = absurd (false≢true (sym e))
either_not_after (x ∷ l) [] e = refl
either_not_after (x ∷ l) (y ∷ m) e =
    by_test (eqb x y)
    (λ q. rw (eq-eqb y x (sym (eqb-true x y q))) (either_not_after l m (rw q at e)))
    (λ q. rw (ne_eqb y x (λ z. eqb-false x y q (sym z))) (lt-ltb y x (omega (arith, eqb-false x y q, ltb-false x y (rw q at e)))))

module _ (services lengths : List ℕ) (ps : List Piece) (ok : Covered services lengths ps) where
  -- a byte is not sent after another
  abbrev pub NotSentAfter : Byte → Byte → Type 0
  NotSentAfter x y = not_after (sent ps x) (sent ps y) ≡ true

  module _ (s : ℕ) where
    -- a byte of a piece that is sent to the service is sent with it,
    sent_with_piece : (x : Byte) (t : Listed) → In t (sending_to s services ps) → In x (piece_bytes t.piece) → sent ps x ≡ sent_at t
    sent_with_piece x t i j = sent_then services lengths ps ok x t (to_service services lengths ps ok s i).0 j

    -- so what is sent to the service is sent one after the other
    pub sent_in_turn : Sorted NotSentAfter (sent_bytes s services ps)
    sent_in_turn =
        sorted_flat_map (λ (t : Listed). piece_bytes t.piece) (sorted_those (is_listed_of services s) (sending_sorted ps))
        (λ t i. sorted_by (bytes_sorted t.piece.run t.piece.first t.piece.size)
        (λ x y j k _. ap₂ not_after (sent_with_piece x t i j) (sent_with_piece y t i k) ∙ not_after_itself (sent_at t)))
        (λ t u x y first i j k l. ap₂ not_after (sent_with_piece x t i k) (sent_with_piece y u j l) ∙ either_not_after (sent_at u) (sent_at t) first)
