-- Blocks that differ in what their bytes say alone: such packets are within the limits alike. Assumes nothing.
use mathlib.Core.Path.{◌≡◌, refl, ap, ap₂, ◌∙◌}
use mathlib.Core.Bool.{true}
use mathlib.Core.List.{List, [], ◌∷◌, ◌++◌, flat_map}
use Prim.Native.Nat.{ℕ, suc, ◌+◌, ◌≤◌}
use native.Mathlib.Omega.{arith}
use lib.ListN.{length, length-append}
use Rattle.model.specs.Lists.{every}
use Rattle.model.specs.Block.{Block, block_length}
use Rattle.model.specs.Packet.{carriable, blocks_length, packet_length, valid_packet}
use Rattle.model.proofs.Blocks.{written_length}
use Rattle.model.proofs.Packets.{valid_facts, facts_valid}
use Rattle.model_packing.specs.Pieces.{Piece, count_from, In, here, there}
use Rattle.model_packing.specs.Proposals.{most_numbers, block_for, blocks_in}
use Rattle.model_packing.proofs.Lists.{those_in}

-- as many blocks, of the same numbers and lengths
pub data Alike : List Block → List Block → Type 0 where
  none : Alike [] []
  next : {b c : Block} {bs cs : List Block} → b.number ≡ c.number → length b.payload ≡ length c.payload → Alike bs cs → Alike (b ∷ bs) (c ∷ cs)

-- two lists of them, one behind the other
alike_append : {bs cs ds es : List Block} → Alike bs cs → Alike ds es → Alike (bs ++ ds) (cs ++ es)
alike_append none b = b
alike_append (next n l a) b = next n l (alike_append a b)

-- lists that are made alike
alike_flat_map : {A : Type 0} (f g : A → List Block) (l : List A) → ((x : A) → Alike (f x) (g x)) → Alike (flat_map f l) (flat_map g l)
unfolding flat_map
alike_flat_map f g [] a = none
alike_flat_map f g (x ∷ l) a = alike_append (a x) (alike_flat_map f g l a)

-- two blocks: the one may stand in a packet if the other may,
carriable_alike : (b c : Block) → b.number ≡ c.number → length b.payload ≡ length c.payload → carriable b ≡ carriable c
unfolding carriable
carriable_alike b c n l = rw (n, l)

-- and takes as much of it
length_alike : (b c : Block) → b.number ≡ c.number → length b.payload ≡ length c.payload → block_length b ≡ block_length c
unfolding block_length
length_alike b c n l = rw (written_length b, written_length c, n, l)

-- so it is with lists of them: whether all may stand in a packet,
every_alike : {bs cs : List Block} → Alike bs cs → every carriable bs ≡ every carriable cs
unfolding every
every_alike none = refl
every_alike (next {b = b} {c} n l a) = rw (carriable_alike b c n l, every_alike a)

-- how many they are, and how long
blocks_alike : {bs cs : List Block} → Alike bs cs → (length bs ≡ length cs) × (blocks_length bs ≡ blocks_length cs)
unfolding blocks_length
blocks_alike none = (refl, refl)
blocks_alike (next {b = b} {c} n l a) = let f = blocks_alike a in (ap suc f.0, ap₂ ◌+◌ (length_alike b c n l) f.1)

-- A packet is within the limits where one alike is, whatever its sequence number.
pub valid_alike : {bs cs : List Block} (n m : ℕ) → n ≤ 3 → Alike bs cs → valid_packet (record { sequence = m; blocks = cs }) ≡ true → valid_packet (record { sequence = n; blocks = bs }) ≡ true
unfolding packet_length
valid_alike {bs} {cs} n m few a e =
    let v = valid_facts (record { sequence = m; blocks = cs }) e in
    let f = blocks_alike a in
    facts_valid (record { sequence = n; blocks = bs }) (record { sequence = few; blocks = every_alike a ∙ v.blocks; length = rw (f.0, f.1) v.length })

-- pieces that are filled by as many bytes
filled_alike : (f g : Piece → List ℕ) (qs : List Piece) → ((q : Piece) → In q qs → length (f q) ≡ length (g q)) → length (flat_map f qs) ≡ length (flat_map g qs)
unfolding flat_map
filled_alike f g [] e = refl
filled_alike f g (q ∷ qs) e =
    omega (arith, length-append (f q) (flat_map f qs), length-append (g q) (flat_map g qs), e q (here refl), filled_alike f g qs (λ r i. e r (there i)))

-- make blocks alike,
block_alike : (services : List ℕ) (f g : Piece → List ℕ) (qs : List Piece) → ((q : Piece) → In q qs → length (f q) ≡ length (g q)) → Alike (block_for services f qs) (block_for services g qs)
unfolding block_for
block_alike services f g [] e = none
block_alike services f g (q ∷ qs) e = next refl (filled_alike f g (q ∷ qs) e) none

-- and packets
pub packet_alike : (services : List ℕ) (f g : Piece → List ℕ) (ps : List Piece) (p : ℕ) → ((q : Piece) → In q ps → length (f q) ≡ length (g q)) → Alike (blocks_in services f ps p) (blocks_in services g ps p)
unfolding blocks_in
packet_alike services f g ps p e =
    alike_flat_map _ _ (count_from 0 most_numbers)
    (λ b. block_alike services f g _ (λ q i. e q (those_in _ ps i).0))
