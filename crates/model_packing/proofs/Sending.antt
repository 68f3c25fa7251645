-- The order in which the pieces of a proposal are sent: by packet, then by block, then by their places in the list. Assumes nothing.
use mathlib.Core.Path.{◌≡◌, refl, sym, ap, ◌∙◌}
use mathlib.Core.Bool.{Bool, true, false, false≢true}
use mathlib.Core.List.{List, [], ◌∷◌, map, flat_map}
use Prim.Native.Nat.{ℕ, suc, ◌≤◌, ◌<◌}
use native.Mathlib.Omega.{arith}
use borrow.Author.Tests.{eq-eqb, ne_eqb, le-ltb, eqb-true, ltb-true}
use Rattle.model.specs.Lists.{every}
use Rattle.model.proofs.Cases.{by_test, both, and_both}
use Rattle.model_packing.specs.Pieces.{Piece, Byte, count_from, those, not_after, In, here, there}
use Rattle.model_packing.specs.Proposals.{holds, holders, sent_from, most_numbers, lies_in, pieces_in, numbered}
use Rattle.model_packing.proofs.Lists.{every_in, in_those, those_in, in_flat_map, flat_map_in, in_count}
use Rattle.model_packing.proofs.Maps.{those_map}
use Rattle.model_packing.proofs.Sorted.{Sorted, none, next, sorted_those, sorted_by, sorted_flat_map, sorted_count}

-- a piece and its place in the list
pub record Listed : Type 0 where
  pub place : ℕ
  pub piece : Piece

-- pieces with their places, counted from i
unfoldable pub listed_from : ℕ → List Piece → List Listed
listed_from i [] = []
listed_from i (q ∷ qs) = record { place = i; piece = q } ∷ listed_from (suc i) qs

-- a piece without its place
abbrev pub its_piece : Listed → Piece
its_piece t = t.piece

-- without their places they are the pieces
pub listed_pieces : (i : ℕ) (ps : List Piece) → map its_piece (listed_from i ps) ≡ ps
unfolding listed_from
listed_pieces i [] = refl
listed_pieces i (q ∷ qs) = rw (listed_pieces (suc i) qs)

-- each of them is one of the list
pub listed_in : (i : ℕ) (ps : List Piece) {t : Listed} → In t (listed_from i ps) → (i ≤ t.place) × In t.piece ps
unfolding listed_from
listed_in i [] {t = t} x' = elim x' [ ]
listed_in i (q ∷ qs) (here e) = (omega (arith, ap (λ (t : Listed). t.place) e), here (ap its_piece e))
listed_in i (q ∷ qs) (there j) = let k = listed_in (suc i) qs j in (omega (arith, k.0), there k.1)

-- when a piece is sent
abbrev pub sent_at : Listed → List ℕ
sent_at t = t.piece.packet ∷ t.piece.block ∷ t.place ∷ []

-- a piece is sent before another
abbrev pub SentBefore : Listed → Listed → Type 0
SentBefore t u = not_after (sent_at u) (sent_at t) ≡ false

-- numbers come after others by the first of them, if it is greater,
after_first : (x y : ℕ) (l m : List ℕ) → y < x → not_after (x ∷ l) (y ∷ m) ≡ false
unfolding not_after
after_first x y l m h = rw (ne_eqb x y (λ e. omega arith)) (le-ltb x y (omega arith))

-- and by those behind it, if it is the same
after_rest : (x y : ℕ) (l m : List ℕ) → x ≡ y → not_after l m ≡ false → not_after (x ∷ l) (y ∷ m) ≡ false
unfolding not_after
after_rest x y l m e h = rw (eq-eqb x y e) h

-- what is sent at a time is not sent after it
pub not_after_itself : (l : List ℕ) → not_after l l ≡ true
unfolding not_after
not_after_itself [] = refl
not_after_itself (x ∷ l) = rw (eq-eqb x x refl) (not_after_itself l)

-- so none is sent before one that is sent at the same time
pub same_not_before : (t u : Listed) → sent_at t ≡ sent_at u → SentBefore t u → ⊥
same_not_before t u e b = false≢true (sym b ∙ ap (not_after (sent_at u)) e ∙ not_after_itself (sent_at u))

-- whether a piece lies in a block
abbrev pub is_listed_in : ℕ → ℕ → Listed → Bool
is_listed_in p b t = lies_in p b t.piece

-- the pieces of a block, with their places
abbrev pub block_listed : ℕ → ℕ → List Piece → List Listed
block_listed p b ps = those (is_listed_in p b) (listed_from 0 ps)

-- without them they are the pieces of the block
pub listed_block : (p b : ℕ) (ps : List Piece) → pieces_in p b ps ≡ map its_piece (block_listed p b ps)
listed_block p b ps =
    ap (those (lies_in p b)) (sym (listed_pieces 0 ps)) ∙ those_map (lies_in p b) its_piece (listed_from 0 ps)

-- the pieces of a packet, by its blocks
abbrev pub packet_listed : ℕ → List Piece → List Listed
packet_listed p ps = flat_map (λ b. block_listed p b ps) (count_from 0 most_numbers)

-- all pieces, as they are sent: by their packets
unfoldable pub sending_order : List Piece → List Listed
sending_order ps = flat_map (λ p. packet_listed p ps) (count_from 0 most_numbers)

-- the packet and the block of a piece that lies in them
pub lies_facts : (p b : ℕ) (q : Piece) → lies_in p b q ≡ true → (q.packet ≡ p) × (q.block ≡ b)
unfolding lies_in
lies_facts p b q e = let f = both _ _ e in (eqb-true _ _ f.0, eqb-true _ _ f.1)

-- each piece lies in its own
pub lies_itself : (q : Piece) → lies_in q.packet q.block q ≡ true
unfolding lies_in
lies_itself q = and_both _ _ (eq-eqb q.packet q.packet refl) (eq-eqb q.block q.block refl)

-- a piece of a block: it is listed, and lies there
pub block_facts : (p b : ℕ) (ps : List Piece) {t : Listed} → In t (block_listed p b ps) → In t (listed_from 0 ps) × (t.piece.packet ≡ p) × (t.piece.block ≡ b)
block_facts p b ps {t} i =
    let f = those_in (is_listed_in p b) (listed_from 0 ps) i in
    let g = lies_facts p b t.piece f.1 in
    (f.0, g.0, g.1)

-- a piece of a packet: it is in one of its blocks
packet_facts : (p : ℕ) (ps : List Piece) {t : Listed} → In t (packet_listed p ps) → In t (listed_from 0 ps) × (t.piece.packet ≡ p)
packet_facts p ps i =
    let f = flat_map_in (λ b. block_listed p b ps) (count_from 0 most_numbers) i in
    let g = block_facts p f.0 ps f.2 in
    (g.0, g.1)

-- places in the list grow
places_grow : (i : ℕ) (ps : List Piece) → Sorted (λ (t u : Listed). t.place < u.place) (listed_from i ps)
unfolding listed_from
places_grow i [] = none
places_grow i (q ∷ qs) =
    next {x = record { place = i; piece = q }} {l = listed_from (suc i) qs} (λ u j. omega (arith, (listed_in (suc i) qs j).0)) (places_grow (suc i) qs)

-- so the pieces of a block are sent in the order of the list,
pub block_sorted : (p b : ℕ) (ps : List Piece) → Sorted SentBefore (block_listed p b ps)
block_sorted p b ps =
    sorted_by (sorted_those (is_listed_in p b) (places_grow 0 ps))
    (λ t u i j less.
    let f = block_facts p b ps i in
    let g = block_facts p b ps j in
    after_rest _ _ _ _ (g.1 ∙ sym f.1) (after_rest _ _ _ _ (g.2 ∙ sym f.2) (after_first u.place t.place _ _ less)))

-- those of a packet by their blocks,
packet_sorted : (p : ℕ) (ps : List Piece) → Sorted SentBefore (packet_listed p ps)
packet_sorted p ps =
    sorted_flat_map (λ b. block_listed p b ps) (sorted_count 0 most_numbers) (λ b _. block_sorted p b ps)
    (λ b c t u less _ _ i j.
    let f = block_facts p b ps i in
    let g = block_facts p c ps j in
    after_rest _ _ _ _ (g.1 ∙ sym f.1) (after_first u.piece.block t.piece.block _ _ (omega (arith, f.2, g.2))))

-- and all by their packets
pub sending_sorted : (ps : List Piece) → Sorted SentBefore (sending_order ps)
unfolding sending_order
sending_sorted ps =
    sorted_flat_map (λ p. packet_listed p ps) (sorted_count 0 most_numbers) (λ p _. packet_sorted p ps)
    (λ p r t u less _ _ i j. after_first u.piece.packet t.piece.packet _ _ (omega (arith, (packet_facts p ps i).1, (packet_facts r ps j).1)))

-- the numbers of a piece that has numbers of one byte
pub numbered_facts : (q : Piece) → numbered q ≡ true → (q.packet < most_numbers) × (q.block < most_numbers)
unfolding numbered
numbered_facts q e = let f = both _ _ e in (ltb-true _ _ f.0, ltb-true _ _ f.1)

-- what is sent is listed,
pub sending_in : (ps : List Piece) {t : Listed} → In t (sending_order ps) → In t (listed_from 0 ps)
unfolding sending_order
sending_in ps i = let f = flat_map_in (λ p. packet_listed p ps) (count_from 0 most_numbers) i in (packet_facts f.0 ps f.2).0

-- and what is listed is sent, if packets and blocks have such numbers
pub in_sending : (ps : List Piece) → every numbered ps ≡ true → {t : Listed} → In t (listed_from 0 ps) → In t (sending_order ps)
unfolding sending_order
in_sending ps e {t} i =
    let q : Piece = t.piece in
    let f = numbered_facts q (every_in numbered ps e (listed_in 0 ps i).1) in
    in_flat_map (λ p. packet_listed p ps) (count_from 0 most_numbers)
    (in_count q.packet 0 most_numbers (omega arith) (omega (arith, f.0)))
    (in_flat_map (λ b. block_listed q.packet b ps) (count_from 0 most_numbers)
    (in_count q.block 0 most_numbers (omega arith) (omega (arith, f.1)))
    (in_those (is_listed_in q.packet q.block) (listed_from 0 ps) i (lies_itself q)))

-- a byte that is in a listed piece is in what is listed there
same_held : (x : Byte) {t : Listed} (i : ℕ) (q : Piece) → t ≡ record { place = i; piece = q } → holds x t.piece ≡ true → holds x q ≡ true
same_held x i q e h = ap (λ (u : Listed). holds x u.piece) (sym e) ∙ h

-- a byte that is in a piece is in one at least
held_some : (i : ℕ) (ps : List Piece) (x : Byte) {t : Listed} → In t (listed_from i ps) → holds x t.piece ≡ true → 1 ≤ holders x ps
unfolding listed_from holders
held_some i [] x {t = t} x4 h = elim x4 [ ]
held_some i (q ∷ qs) x (here e) h = rw (same_held x i q e h) (omega arith)
held_some i (q ∷ qs) x (there j) h = omega (arith, held_some (suc i) qs x j h)

-- a byte that is in one piece is sent when that is
pub sent_with : (i : ℕ) (ps : List Piece) (x : Byte) {t : Listed} → In t (listed_from i ps) → holds x t.piece ≡ true → holders x ps ≡ 1 → sent_from i ps x ≡ sent_at t
unfolding listed_from holders sent_from
sent_with i [] x {t = t} x5 h once = elim x5 [ ]
sent_with i (q ∷ qs) x (here e) h once = rw (same_held x i q e h) (ap sent_at (sym e))
sent_with i (q ∷ qs) x (there j) h once =
    by_test (holds x q)
    (λ e. absurd (omega (arith, held_some (suc i) qs x j h, rw e at once)))
    (λ e. rw e (sent_with (suc i) qs x j h (omega (arith, rw e at once))))

-- a byte that is in a piece: which that is
pub held_by : (i : ℕ) (ps : List Piece) (x : Byte) → 1 ≤ holders x ps → (t : Listed) × In t (listed_from i ps) × (holds x t.piece ≡ true)
unfolding listed_from holders
held_by i [] x some = absurd (omega arith)
held_by i (q ∷ qs) x some =
    by_test (holds x q)
    (λ e. (record { place = i; piece = q }, here refl, e))
    (λ e. let f = held_by (suc i) qs x (omega (arith, rw e at some)) in (f.0, there f.1, f.2))
