-- The model's push of a run: its refusals, and the zeros that are pushed. Assumes nothing.
use mathlib.Core.Path.{◌≡◌, refl, ap}
use mathlib.Core.Bool.{Bool, ◌&&◌}
use mathlib.Core.List.{List, ◌∷◌}
use mathlib.Core.Option.{Option, none, some}
use Prim.Native.Nat.{ℕ, zero, suc, ◌-◌, ◌≤◌}
use native.Mathlib.Nat.{sub-zero}
use native.Mathlib.Omega.{arith}
use lib.Dec.{eqb, ltb}
use lib.ListN.{length, take, replicate}
use Rattle.model.specs.Block.{block_length, block_room}
use Rattle.model.specs.Packet.{Packet, packet_room, block_at, latest, push_new, push_at, push_run_at, push_run_by}
use Rattle.model.proofs.Cases.{by_cond, NotAccepted, Refuses}
use Rattle.model_packing.specs.Proposals.{zeros}

-- no refusal of a push has the number of what is accepted
module _ (n : ℕ) (run : List ℕ) (p : Packet) where
  -- of a new block,
  new_numbered : Refuses NotAccepted (push_new n run p)
  unfolding push_new
  new_numbered =
      by_cond (Refuses NotAccepted) (eqb n 0) (λ _ e. omega (arith, e))
      (λ _. by_cond (Refuses NotAccepted) (ltb 31 (length run)) (λ _ e. omega (arith, e))
      (λ _. by_cond (Refuses NotAccepted) (ltb (packet_room p) (block_length (record { number = n; payload = run }))) (λ _ e. omega (arith, e)) (λ _. tt)))

  -- of a run to the block at a place,
  at_numbered : (i : ℕ) → Refuses NotAccepted (push_at i run p)
  unfolding push_at
  at_numbered i =
      by_cond (Refuses NotAccepted) (ltb (packet_room p) (length run)) (λ _ e. omega (arith, e))
      (λ _. by_cond (Refuses NotAccepted) (ltb (block_room (block_at p i)) (length run)) (λ _ e. omega (arith, e)) (λ _. tt))

  -- of either,
  where_numbered : (needs_room : Bool) (o : Option ℕ) → Refuses NotAccepted (push_run_at needs_room n run p o)
  unfolding push_run_at
  where_numbered needs_room none = new_numbered
  where_numbered needs_room (some i) =
      by_cond (Refuses NotAccepted) (needs_room && ltb (block_room (block_at p i)) (length run)) (λ _. new_numbered) (λ _. at_numbered i)

  -- so that none of a run has it
  pub run_numbered : (needs_room : Bool) → Refuses NotAccepted (push_run_by needs_room n run p)
  unfolding push_run_by
  run_numbered needs_room =
      by_cond (Refuses NotAccepted) (ltb 63 n) (λ _ e. omega (arith, e))
      (λ _. by_cond (Refuses NotAccepted) (eqb (length run) 0) (λ _ e. omega (arith, e)) (λ _. where_numbered needs_room (latest n p)))

-- the first of more zeros
take_blank : (n m : ℕ) → n ≤ m → take n (replicate m 0) ≡ zeros n
take_blank zero m h = refl
take_blank (suc n) zero h = absurd (omega arith)
take_blank (suc n) (suc m) h = ap (λ (l : List ℕ). 0 ∷ l) (take_blank n m (omega arith))

-- as a part that begins at 0
pub part_blank : (n m : ℕ) → n ≤ m → take (n - 0) (replicate m 0) ≡ zeros n
part_blank n m h = rw (sub-zero n) (take_blank n m h)
