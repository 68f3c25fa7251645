-- In a proposal that passes its tests the bytes of a service are sent in their order, once each. Assumes nothing.
use mathlib.Core.Path.{◌≡◌, sym, ap, ap₂, ◌∙◌}
use mathlib.Core.Bool.{Bool, true, false≢true}
use mathlib.Core.List.{List, flat_map}
use Prim.Native.Nat.{ℕ}
use native.Mathlib.Omega.{arith}
use lib.Dec.{eqb}
use borrow.Author.Tests.{eq-eqb, eqb-true}
use Rattle.model_packing.specs.Pieces.{Piece, Byte, bytes_of, service_of, those, not_after, In}
use Rattle.model_packing.specs.Proposals.{holders, held_once, sent, keeps_order}
use Rattle.model_packing.proofs.Lists.{every_in, in_those, those_in, in_flat_map, flat_map_in, in_bytes}
use Rattle.model_packing.proofs.Sorted.{Sorted, sorted_those, sorted_flat_map, sorted_same, every_two_before}
use Rattle.model_packing.proofs.Sending.{Listed, listed_from, listed_in, sent_at, SentBefore, same_not_before, sending_order, sending_sorted, sending_in, in_sending, sent_with, held_by}
use Rattle.model_packing.proofs.Bytes.{Earlier, earlier_one_way, by_order, piece_bytes, in_piece, piece_in, piece_holds, bytes_sorted, all_sorted}
use Rattle.model_packing.proofs.Accepted.{Passes}
use Rattle.model_packing.proofs.Covered.{Covered, passes_covered, Inside, piece_inside}

-- whether a run is of a service,
abbrev pub is_of : List ℕ → ℕ → ℕ → Bool
is_of services s r = eqb (service_of services r) s

-- a byte,
abbrev pub is_byte_of : List ℕ → ℕ → Byte → Bool
is_byte_of services s x = is_of services s x.run

-- and a piece
abbrev pub is_listed_of : List ℕ → ℕ → Listed → Bool
is_listed_of services s t = is_of services s t.piece.run

-- the bytes of a service, in the order of the runs
abbrev pub spoken_bytes : ℕ → List ℕ → List ℕ → List Byte
spoken_bytes s services lengths = those (is_byte_of services s) (bytes_of services lengths)

-- its pieces, as they are sent,
abbrev pub sending_to : ℕ → List ℕ → List Piece → List Listed
sending_to s services ps = those (is_listed_of services s) (sending_order ps)

-- and their bytes
abbrev pub sent_bytes : ℕ → List ℕ → List Piece → List Byte
sent_bytes s services ps = flat_map (λ (t : Listed). piece_bytes t.piece) (sending_to s services ps)

module _ (services lengths : List ℕ) (ps : List Piece) (ok : Covered services lengths ps) where
  -- a byte of a piece is a byte of a run
  pub held_there : (x : Byte) (t : Listed) → In t (listed_from 0 ps) → In x (piece_bytes t.piece) → In x (bytes_of services lengths)
  held_there x t i j =
      let f : Inside services lengths t.piece = piece_inside ok t.piece (listed_in 0 ps i).1 in
      let g = piece_in x t.piece j in
      in_bytes services lengths x (omega (arith, g.0)) (rw g.0 (omega (arith, g.2)))

  -- a byte of a run is in one piece,
  pub one_holder : (x : Byte) → In x (bytes_of services lengths) → holders x ps ≡ 1
  unfolding held_once
  one_holder x i = eqb-true _ _ (every_in (held_once ps) (bytes_of services lengths) ok.each_once i)

  -- so it is sent with the piece that it is in
  pub sent_then : (x : Byte) (t : Listed) → In t (listed_from 0 ps) → In x (piece_bytes t.piece) → sent ps x ≡ sent_at t
  sent_then x t i j = sent_with 0 ps x i (piece_holds x t.piece j) (one_holder x (held_there x t i j))

  module _ (s : ℕ) where
    -- a piece that is sent to the service: it is listed, and is of the service
    pub to_service : {t : Listed} → In t (sending_to s services ps) → In t (listed_from 0 ps) × (service_of services t.piece.run ≡ s)
    to_service i = let f = those_in (is_listed_of services s) (sending_order ps) i in (sending_in ps f.0, eqb-true _ _ f.1)

    -- what is sent to it is bytes of the service,
    pub sent_is_spoken : (x : Byte) → In x (sent_bytes s services ps) → In x (spoken_bytes s services lengths)
    sent_is_spoken x i =
        let f = flat_map_in (λ (t : Listed). piece_bytes t.piece) (sending_to s services ps) i in
        let g = to_service f.1 in
        in_those (is_byte_of services s) (bytes_of services lengths) (held_there x f.0 g.0 f.2)
        (eq-eqb _ _ (ap (service_of services) (piece_in x f.0.piece f.2).0 ∙ g.1))

    -- and all of them
    spoken_is_sent : (x : Byte) → In x (spoken_bytes s services lengths) → In x (sent_bytes s services ps)
    spoken_is_sent x i =
        let f = those_in (is_byte_of services s) (bytes_of services lengths) i in
        let h = held_by 0 ps x (omega (arith, one_holder x f.0)) in
        let t : Listed = h.0 in
        let j : In x (piece_bytes t.piece) = in_piece x t.piece h.2 in
        in_flat_map (λ (u : Listed). piece_bytes u.piece) (sending_to s services ps)
        (in_those (is_listed_of services s) (sending_order ps) (in_sending ps ok.one_byte h.1) (ap (is_of services s) (sym (piece_in x t.piece j).0) ∙ f.1)) j

module _ (services lengths : List ℕ) (ps : List Piece) (ok : Passes services lengths ps) where
  -- what is known of it without the order
  abbrev covered : Covered services lengths ps
  covered = passes_covered ok

  -- of two bytes of a service, the earlier one is not sent later
  order_kept : (x y : Byte) → In x (bytes_of services lengths) → In y (bytes_of services lengths) → service_of services x.run ≡ service_of services y.run
      → Earlier x y → not_after (sent ps x) (sent ps y) ≡ true
  unfolding keeps_order
  order_kept x y i j e less =
      let k = every_two_before Earlier earlier_one_way (keeps_order services ps) (bytes_of services lengths) (all_sorted services lengths) ok.in_order i j less in
      rw (eq-eqb _ _ e) at k

  module _ (s : ℕ) where
    -- bytes of two such pieces, of which one is sent before the other, are in this order
    pub across : (t u : Listed) (x y : Byte) → SentBefore t u → In t (sending_to s services ps) → In u (sending_to s services ps) → In x (piece_bytes t.piece) → In y (piece_bytes u.piece) → Earlier x y
    across t u x y b i j k l =
        let f = to_service services lengths ps covered s i in
        let g = to_service services lengths ps covered s j in
        let ex : sent ps x ≡ sent_at t = sent_then services lengths ps covered x t f.0 k in
        let ey : sent ps y ≡ sent_at u = sent_then services lengths ps covered y u g.0 l in
        let sx : service_of services x.run ≡ s = ap (service_of services) (piece_in x t.piece k).0 ∙ f.1 in
        let sy : service_of services y.run ≡ s = ap (service_of services) (piece_in y u.piece l).0 ∙ g.1 in
        by_order x y
        (λ e. absurd (same_not_before t u (sym ex ∙ ap (sent ps) e ∙ ey) b))
        (λ less. less)
        (λ more.
        let n : not_after (sent ps y) (sent ps x) ≡ true = order_kept y x (held_there services lengths ps covered y u g.0 l) (held_there services lengths ps covered x t f.0 k) (sy ∙ sym sx) more in
        absurd (false≢true (sym b ∙ ap₂ not_after (sym ey) (sym ex) ∙ n)))

    -- so all that are sent to the service are in their order
    sent_sorted : Sorted Earlier (sent_bytes s services ps)
    sent_sorted =
        sorted_flat_map (λ (t : Listed). piece_bytes t.piece) (sorted_those (is_listed_of services s) (sending_sorted ps))
        (λ t _. bytes_sorted t.piece.run t.piece.first t.piece.size) across

    -- Each service's bytes are sent in their order, once each.
    pub sent_spoken : sent_bytes s services ps ≡ spoken_bytes s services lengths
    sent_spoken =
        sorted_same Earlier earlier_one_way (sent_bytes s services ps) (spoken_bytes s services lengths) sent_sorted
        (sorted_those (is_byte_of services s) (all_sorted services lengths)) (sent_is_spoken services lengths ps covered s) (spoken_is_sent services lengths ps covered s)
