-- Blocks and packets under the profile that knows how long codes are: a packet is cut exactly if each of its blocks is, the first that is not refuses it,
-- and a packet that is cut is cut after every push under the profile. Assumes nothing.
use mathlib.Core.Path.{◌≡◌, refl, ap, ◌∙◌}
use mathlib.Core.Bool.{Bool, true, cond, ◌&&◌}
use mathlib.Core.List.{List, [], ◌∷◌, ◌++◌}
use mathlib.Core.Option.{Option, none, some}
use Prim.Native.Nat.{ℕ, ◌<◌}
use native.Mathlib.Omega.{arith}
use borrow.Author.Tests.{ne_eqb}
use lib.Dec.{eqb, ltb}
use lib.ListN.{length}
use Rattle.model.specs.Lists.{every}
use Rattle.model.specs.Said.{Said, Outcome, gave, refused, is_given, and_then, mapped, bad_number}
use Rattle.model.specs.Block.{Block, block_length, block_room, with_run}
use Rattle.model.specs.Packet.{Packet, packet_room, latest, no_block, block_at, push_block, push_new, push_at, push_run_at, push_run_by}
use Rattle.model.specs.Codes.{codes_of, codes_of_each, codes_of_blocks, push_codes_by}
use Rattle.model.proofs.Cases.{by_test, by_cond, both, and_both, Gives, given_is, NotAccepted, Refuses, refuses_then, refuses_mapped}
use Rattle.model.proofs.Lists.{every_append, every_set, every_at}
use Rattle.model.proofs.Packets.{Valid}
use Rattle.model.proofs.Pushing.{latest_within, run_valid}
use Rattle.model.proofs.Codes.{codes_none, codes_joined, codes_numbered}

-- whether the payload of a block is cut without remainder
abbrev pub is_cut : Block → Bool
is_cut b = is_given (codes_of b.payload)

-- whether all those of a packet are
abbrev pub all_cut : Packet → Bool
all_cut p = every is_cut p.blocks

-- what a push gives, if it gives anything, is cut
abbrev pub Keeps : Outcome Packet → Type 0
Keeps o = Gives (λ q. all_cut q ≡ true) o

-- what follows a call that gives
then_given : {A B C : Type 0} (o : Outcome A) (f : A → B → C) (q : Outcome B) → is_given (and_then o (λ x. mapped (f x) q)) ≡ is_given o && is_given q
then_given (gave x) f (gave y) = refl
then_given (gave x) f (refused why) = refl
then_given (refused why) f q = refl

-- A packet is accepted exactly if each of its blocks is [K6].
pub blocks_exactly : (bs : List Block) → is_given (codes_of_blocks bs) ≡ every is_cut bs
unfolding codes_of_each every
blocks_exactly [] = refl
blocks_exactly (b ∷ bs) = then_given (codes_of b.payload) (λ cs css. cs ∷ css) (codes_of_blocks bs) ∙ ap (λ t. is_cut b && t) (blocks_exactly bs)

-- The first block that is refused tells the refusal [K6].
pub blocks_first : (front : List Block) (b : Block) (behind : List Block) (why : Said) → every is_cut front ≡ true → codes_of b.payload ≡ refused why
    → codes_of_blocks (front ++ (b ∷ behind)) ≡ refused why
unfolding codes_of_each every
blocks_first [] b behind why h e = rw e
blocks_first (a ∷ front) b behind why h e =
    let t = both (is_cut a) (every is_cut front) h in
    let g = given_is (codes_of a.payload) t.0 in
    rw (g.1, blocks_first front b behind why t.1 e)

-- a run more in a block
grown_cut : (run : List ℕ) (b : Block) → is_cut b ≡ true → is_given (codes_of run) ≡ true → is_cut (with_run run b) ≡ true
grown_cut run b h r =
    let x = given_is (codes_of b.payload) h in
    let y = given_is (codes_of run) r in
    rw (codes_joined b.payload run x.0 y.0 x.1 y.1)

module _ (p : Packet) (cut : all_cut p ≡ true) where
  -- a block more
  appended : (b : Block) → is_cut b ≡ true → every is_cut (p.blocks ++ (b ∷ [])) ≡ true
  unfolding every
  appended b c = every_append is_cut p.blocks (b ∷ []) cut (and_both (is_cut b) true c refl)

  -- a block that is cut, pushed
  pub block_kept : (b : Block) → is_cut b ≡ true → Keeps (push_block b p)
  unfolding push_block
  block_kept b c =
      by_cond Keeps (ltb (packet_room p) (block_length b)) (λ _. tt)
      (λ _. by_cond Keeps (eqb (length b.payload) 0) (λ _. tt) (λ _. appended b c))

  module _ (n : ℕ) (run : List ℕ) (whole : is_given (codes_of run) ≡ true) where
    -- a run as a new block
    new_kept : Keeps (push_new n run p)
    unfolding push_new
    new_kept =
        by_cond Keeps (eqb n 0) (λ _. tt)
        (λ _. by_cond Keeps (ltb 31 (length run)) (λ _. tt)
        (λ _. by_cond Keeps (ltb (packet_room p) (block_length (record { number = n; payload = run }))) (λ _. tt)
        (λ _. appended (record { number = n; payload = run }) whole)))

    -- a run to the block at a place
    at_kept : (i : ℕ) → i < length p.blocks → Keeps (push_at i run p)
    unfolding push_at
    at_kept i there =
        by_cond Keeps (ltb (packet_room p) (length run)) (λ _. tt)
        (λ _. by_cond Keeps (ltb (block_room (block_at p i)) (length run)) (λ _. tt)
        (λ _. every_set is_cut p.blocks i (with_run run (block_at p i)) cut (grown_cut run (block_at p i) (every_at is_cut p.blocks i no_block cut there) whole)))

    placed_kept : (needs_room : Bool) (o : Option ℕ) → latest n p ≡ o → Keeps (push_run_at needs_room n run p o)
    unfolding push_run_at
    placed_kept needs_room none e = new_kept
    placed_kept needs_room (some i) e =
        by_cond Keeps (needs_room && ltb (block_room (block_at p i)) (length run))
        (λ _. new_kept) (λ _. at_kept i (latest_within n (length p.blocks) p.blocks i e))

    run_kept : (needs_room : Bool) → Keeps (push_run_by needs_room n run p)
    unfolding push_run_by
    run_kept needs_room =
        by_cond Keeps (ltb 63 n) (λ _. tt)
        (λ _. by_cond Keeps (eqb (length run) 0) (λ _. tt) (λ _. placed_kept needs_room (latest n p) refl))

  -- A run pushed under the profile, in either form [K7].
  pub codes_kept : (needs_room : Bool) (n : ℕ) (run : List ℕ) → Keeps (push_codes_by needs_room n run p)
  unfolding push_codes_by
  codes_kept needs_room n run =
      by_cond Keeps (ltb 63 n) (λ _. tt)
      (λ _. by_cond Keeps (eqb (length run) 0) (λ _. tt) (λ _. by (codes_of run) refl))
    where
      by : (o : Outcome (List (List ℕ))) → codes_of run ≡ o → Keeps (and_then o (λ _. push_run_by needs_room n run p))
      by (gave cs) e = run_kept n run (rw e) needs_room
      by (refused why) e = tt

-- A run that is cut is pushed as without the profile, in either form,
pub whole_pushed : (needs_room : Bool) (n : ℕ) (run : List ℕ) (p : Packet) (cs : List (List ℕ)) → codes_of run ≡ gave cs → push_codes_by needs_room n run p ≡ push_run_by needs_room n run p
unfolding push_codes_by push_run_by
whole_pushed needs_room n run p cs e =
    by_test (ltb 63 n) (λ q. rw q) (λ q. by_test (eqb (length run) 0) (λ z. rw (q, z)) (λ z. simp (q, z, e)))

-- and one that is refused is refused behind 6; it has bytes
pub refused_pushed : (needs_room : Bool) (n : ℕ) (run : List ℕ) (p : Packet) (why : Said) → codes_of run ≡ refused why
    → push_codes_by needs_room n run p ≡ cond (ltb 63 n) (refused bad_number) (refused why)
unfolding push_codes_by
refused_pushed needs_room n [] p why e = let z : ◌≡◌ {A = ℕ} 0 1 = cc codes_none in absurd (omega arith)
refused_pushed needs_room n (x ∷ run) p why e = rw (ne_eqb (length (x ∷ run)) 0 (λ z. omega arith), e)

-- what is pushed under the profile leaves a packet within the limits
pub codes_valid : (p : Packet) → Valid p → (needs_room : Bool) (n : ℕ) (run : List ℕ) → Gives Valid (push_codes_by needs_room n run p)
codes_valid p v needs_room n run = by (codes_of run) refl
  where
    by : (o : Outcome (List (List ℕ))) → codes_of run ≡ o → Gives Valid (push_codes_by needs_room n run p)
    by (gave cs) e = rw (whole_pushed needs_room n run p cs e) (run_valid p v needs_room n run)
    by (refused why) e = rw (refused_pushed needs_room n run p why e) (by_cond (Gives Valid) (ltb 63 n) (λ _. tt) (λ _. tt))

-- no refusal of several payloads has the number of what is accepted
pub each_numbered : (ds : List (List ℕ)) → Refuses NotAccepted (codes_of_each ds)
unfolding codes_of_each
each_numbered [] = tt
each_numbered (d ∷ ds) = refuses_then NotAccepted (codes_of d) _ (codes_numbered d) (λ cs. refuses_mapped NotAccepted _ (codes_of_each ds) (each_numbered ds))
