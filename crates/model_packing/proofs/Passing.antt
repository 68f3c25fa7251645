-- The first-come packer's proposals pass the check, whatever runs fit; and where it makes none, none would pass. Assumes nothing.
use mathlib.Core.Path.{◌≡◌, sym, ap, ◌∙◌}
use mathlib.Core.Bool.{Bool, true}
use mathlib.Core.List.{List, []}
use Prim.Native.Nat.{ℕ, zero, suc, ◌+◌, ◌≤◌, ◌<◌}
use native.Mathlib.Omega.{arith}
use lib.Dec.{eqb, leb}
use lib.ListN.{length, get_or, length-replicate}
use borrow.Author.Tests.{eq-eqb, le-leb, lt-ltb, le-ltb, eqb-true, eqb-false, leb-true, leb-false}
use Rattle.model.specs.Lists.{every}
use Rattle.model.specs.Said.{accepted}
use Rattle.model.proofs.Cases.{by_test, both, and_both, gives_at}
use Rattle.model.proofs.Lists.{same_self}
use Rattle.model.proofs.Packets.{Valid, facts_valid}
use Rattle.model.proofs.Pushing.{run_valid}
use Rattle.model_packing.specs.Pieces.{Piece, Byte, byte, count_from, run_bytes, bytes_of, service_of}
use Rattle.model_packing.specs.Proposals.{inside, held_once, covers, keeps_order, ordered, with_first, unsplit, lies_in, pieces_in, zeros, blank_packet, runs_fit, numbered, one_service, limits, most_runs, check_proposal, bytes_first}
use Rattle.model_packing.specs.FirstCome.{place_or0, first_come, packable}
use Rattle.model_packing.proofs.Lists.{in_every, those_in, map_in, count_in, byte_within}
use Rattle.model_packing.proofs.Accepted.{Passes, accepted_passes}
use Rattle.model_packing.proofs.Filling.{bare_valid, packed_to, piece_of, pieces_to, first_come_pieces, few_runs, run_some, bounded, placed_from}
use Rattle.model_packing.proofs.Growing.{described, none_described, others_same}
use Rattle.model_packing.proofs.AsProposed.{pieces_more, run_pushed}
use Rattle.model_packing.proofs.Following.{follows}
use Rattle.model_packing.proofs.WholeRuns.{run_held_once, sent_with_run, not_after_three, two_counted, run_bytes_in}

module _ (services lengths : List ℕ) (ok : packable services lengths ≡ true) where
  -- the proposal, by its runs
  abbrev all : List Piece
  all = pieces_to services lengths (length services)

  -- what the piece of every run passes, every piece of the proposal passes
  each_piece : (test : Piece → Bool) → ((r : ℕ) → r < length services → test (piece_of services lengths r) ≡ true) → every test all ≡ true
  each_piece test f =
      in_every test all (λ q i. let t = map_in (piece_of services lengths) (count_from 0 (length services)) i in
      ap test t.2 ∙ f t.0 (omega (arith, (count_in t.0 0 (length services) t.1).1)))

  -- what every byte that is there passes, every byte of the runs passes
  each_byte : (test : Byte → Bool) → ((r k : ℕ) → r < length services → k < get_or lengths r 0 → test (byte r k) ≡ true) → every test (bytes_of services lengths) ≡ true
  each_byte test f = in_every test (bytes_of services lengths) (λ x i. let t = byte_within services lengths x i in f x.run x.place t.0 t.1)

  -- every byte is in one piece, and nothing else is in any
  all_covered : covers services lengths all ≡ true
  unfolding covers inside held_once
  all_covered =
      and_both _ _
      (each_piece (inside services lengths) (λ r h.
      simp (le-leb 1 (get_or lengths r 0) (run_some services lengths ok r h), lt-ltb r (length services) h, le-leb (0 + get_or lengths r 0) (get_or lengths r 0) (omega arith))))
      (each_byte (held_once all) (λ r k h l. eq-eqb _ _ (run_held_once services lengths r k h l)))

  -- two bytes of a service keep their order
  keeps : (i j : ℕ) → i ≤ j → j < length services → (k l : ℕ) → k < get_or lengths i 0 → l < get_or lengths j 0 → keeps_order services all (byte i k) (byte j l) ≡ true
  unfolding keeps_order
  keeps i j h g k l hk hl =
      let f = follows services lengths ok i j h g in
      by_test (eqb (service_of services i) (service_of services j))
      (λ e. rw (e, sent_with_run services lengths i k (omega arith) hk, sent_with_run services lengths j l g hl)
      (not_after_three _ _ _ _ i j f.packets (λ p. f.blocks p (eqb-true _ _ e)) h))
      (λ e. rw e)

  -- all bytes of all services
  all_ordered : ordered services lengths all ≡ true
  unfolding ordered bytes_of
  all_ordered =
      two_counted (keeps_order services all) (run_bytes lengths) (length services) 0
      (λ i j h g x y a b.
      let t = run_bytes_in lengths i x a in
      let u = run_bytes_in lengths j y b in
      rw (t.1, u.1) (keeps i j h (omega arith) t.0 u.0 t.2 u.2))

  -- no run is split
  all_unsplit : unsplit services lengths all ≡ true
  unfolding unsplit with_first
  all_unsplit =
      each_byte (with_first all) (λ r k h l.
      rw (sent_with_run services lengths r k h l, sent_with_run services lengths r 0 h (omega arith)) (same_self _))

  -- the numbers of packets and blocks are of one byte
  all_numbered : every numbered all ≡ true
  unfolding numbered
  all_numbered =
      each_piece numbered (λ r h.
      let k = placed_from services lengths ok r h in
      let e : (piece_of services lengths r).block ≡ k.place = ap place_or0 k.found in
      let b = (bounded services lengths ok (suc r) h).fewer (omega arith) in
      and_both _ _
      (lt-ltb (packed_to services lengths (suc r)).before 256 (omega (arith, few_runs services lengths ok)))
      (lt-ltb (piece_of services lengths r).block 256 (omega (arith, k.within, k.few))))

  -- two pieces in one block are of one service,
  one_service_same : (r q : ℕ) → r < length services → q < length services
      → lies_in (piece_of services lengths q).packet (piece_of services lengths q).block (piece_of services lengths r) ≡ true → service_of services r ≡ service_of services q
  unfolding lies_in
  one_service_same r q g h e =
      let t = both (eqb (piece_of services lengths r).packet (piece_of services lengths q).packet) (eqb (piece_of services lengths r).block (piece_of services lengths q).block) e in
      let p : (piece_of services lengths r).packet ≡ (piece_of services lengths q).packet = eqb-true _ _ t.0 in
      let b : (piece_of services lengths r).block ≡ (piece_of services lengths q).block = eqb-true _ _ t.1 in
      by_test (leb r q)
      (λ f. (follows services lengths ok r q (leb-true r q f) h).in_one_block p b)
      (λ f. sym ((follows services lengths ok q r (omega (arith, leb-false r q f)) g).in_one_block (sym p) (sym b)))

  -- so every block is
  all_one : every (one_service services all) all ≡ true
  unfolding one_service
  all_one =
      each_piece (one_service services all) (λ r h.
      in_every _ (pieces_in (piece_of services lengths r).packet (piece_of services lengths r).block all) (λ x i.
      let t = those_in (lies_in (piece_of services lengths r).packet (piece_of services lengths r).block) all i in
      let u = map_in (piece_of services lengths) (count_from 0 (length services)) t.0 in
      let g : u.0 < length services = omega (arith, (count_in u.0 0 (length services) u.1).1) in
      rw u.2 (eq-eqb _ _ (one_service_same u.0 r g h (rw u.2 at t.1)))))

  -- zeros_of for the bytes of a piece, as many as it has
  abbrev zeros_of : Piece → List ℕ
  zeros_of q = zeros q.size

  -- they are as many as the run has bytes
  zeros_sized : (r : ℕ) → r < length services → length (zeros_of (piece_of services lengths r)) ≡ get_or lengths r 0
  zeros_sized r h = length-replicate (get_or lengths r 0) 0

  -- no packet breaks a limit
  valid_to : (i : ℕ) → i ≤ length services → (p : ℕ) → Valid (blank_packet services (pieces_to services lengths i) p)
  unfolding count_from
  valid_to zero h p = rw (described services zeros_of [] p [] (none_described services zeros_of p) (omega arith)) bare_valid
  valid_to (suc i) h p =
      by_test (eqb (piece_of services lengths i).packet p)
      (λ e. let z : (piece_of services lengths i).packet ≡ p = eqb-true _ _ e in
      rw (← z) (gives_at Valid _ (run_pushed services lengths ok zeros_of zeros_sized i 0 h) (run_valid _ (valid_to i (omega arith) (piece_of services lengths i).packet) true (service_of services i) _)))
      (λ e. rw (pieces_more services lengths i, others_same services zeros_of (pieces_to services lengths i) (piece_of services lengths i) p (eqb-false _ _ e)) (valid_to i (omega arith) p))

  -- no limit is broken
  all_limited : limits services lengths all ≡ true
  unfolding limits packable
  all_limited =
      and_both _ _ (both (leb (length services) 256) (runs_fit services lengths) ok).1
      (and_both _ _ all_numbered
      (and_both _ _ all_one
      (in_every _ all (λ q _. facts_valid (blank_packet services all q.packet) (valid_to (length services) (omega arith) q.packet)))))

  -- What the packer proposes passes.
  pub passes : check_proposal services lengths (first_come services lengths) ≡ accepted []
  unfolding check_proposal bytes_first
  passes = simp (first_come_pieces services lengths, le-ltb 256 (length services) (few_runs services lengths ok), all_covered, all_ordered, all_unsplit, all_limited)

-- Where the packer makes none, no proposal passes.
pub only_packable : (services lengths : List ℕ) (ps : List Piece) → check_proposal services lengths ps ≡ accepted [] → packable services lengths ≡ true
unfolding packable
only_packable services lengths ps e =
    let ok : Passes services lengths ps = accepted_passes services lengths ps e in
    and_both _ _ (le-leb (length services) most_runs ok.few_runs) ok.each_fits
