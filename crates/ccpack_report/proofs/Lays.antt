-- Each line is its parts, laid one behind another, and the lines of pieces are laid by a loop. Assumes nothing.
use mathlib.Core.Path.{◌≡◌, refl, sym, ap, ◌∙◌}
use mathlib.Core.List.{List, [], ◌∷◌, ◌++◌, append-nil, append_assoc}
use Prim.Native.Nat.{ℕ, suc, ◌+◌, ◌-◌, ◌≤◌, ◌<◌}
use native.Mathlib.Omega.{arith}
use lib.ListN.{length, get_or, drop, length-drop}
use lib.Seq.{drop-cons}
use Rattle.model.specs.Said.{Said}
use Rattle.model_packing.specs.Pieces.{Piece, pieces_of}
use Rattle.program_text.specs.Laid.{Laid}
use Rattle.program_text.specs.Text.{word}
use Rattle.program_lines.specs.Lines.{value_text, answer_text, end_line}
use Rattle.program_text.proofs.Layings.{laid_append}
use Rattle.ccpack_report.specs.Lines.{answer_line, packets_line, piece_line, piece_lines, proposal_lines}

-- lines of two parts and of three
module _ {out mid after : List ℕ} {at p r : ℕ} where
  pub laid_answer_line : (s : Said) → Laid (answer_text s) out at p mid → Laid (word "\n") mid p r after → Laid (answer_line s) out at r after
  unfolding answer_line
  laid_answer_line s a l = laid_append a l

  pub laid_packets_line : {m : List ℕ} {q : ℕ} (n : ℕ) → Laid (word "packets") out at p mid → Laid (value_text n) mid p q m → Laid (word "\n") m q r after
      → Laid (packets_line n) out at r after
  unfolding packets_line
  laid_packets_line n w v l = laid_append (laid_append w v) l

  pub laid_proposal : {m : List ℕ} {q : ℕ} (packets : ℕ) (ps : List Piece) {n : ℕ} → Laid (packets_line packets) out at p mid → Laid (piece_lines ps) mid p q m
      → n ≡ length ps → Laid (end_line n) m q r after → Laid (proposal_lines packets ps) out at r after
  unfolding proposal_lines
  laid_proposal packets ps k w e l = laid_append (laid_append k w) (rw (← e) l)

-- the line of a piece, of seven
pub laid_piece : {o a b c d e f after : List ℕ} {at p q s t u v r : ℕ} (run first size packet block : ℕ) → Laid (word "piece") o at p a → Laid (value_text run) a p q b
    → Laid (value_text first) b q s c → Laid (value_text size) c s t d → Laid (value_text packet) d t u e → Laid (value_text block) e u v f → Laid (word "\n") f v r after
    → Laid (piece_line (record { run = run; first = first; size = size; packet = packet; block = block })) o at r after
unfolding piece_line
laid_piece run first size packet block w x y z k l n =
    laid_append (laid_append (laid_append (laid_append (laid_append (laid_append w x) y) z) k) l) n

-- the pieces of numbers, from place i on: the one there and those behind it, or none
module _ (l : List ℕ) (i : ℕ) where
  abbrev pub piece_at : Piece
  piece_at = record { run = get_or l i 0; first = get_or l (i + 1) 0; size = get_or l (i + 2) 0; packet = get_or l (i + 3) 0; block = get_or l (i + 4) 0 }

  pub pieces_next : 5 ≤ length l - i → pieces_of (drop i l) ≡ piece_at ∷ pieces_of (drop (i + 5) l)
  unfolding pieces_of
  pieces_next h =
      let a : suc i ≡ i + 1 = omega arith in
      let b : suc (i + 1) ≡ i + 2 = omega arith in
      let c : suc (i + 2) ≡ i + 3 = omega arith in
      let d : suc (i + 3) ≡ i + 4 = omega arith in
      let e : suc (i + 4) ≡ i + 5 = omega arith in
      rw (drop-cons l i 0 (omega arith), a, drop-cons l (i + 1) 0 (omega arith), b, drop-cons l (i + 2) 0 (omega arith), c, drop-cons l (i + 3) 0 (omega arith), d, drop-cons l (i + 4) 0 (omega arith), e)

-- fewer than five numbers make no piece
pub few_none : (l : List ℕ) → length l < 5 → pieces_of l ≡ []
unfolding pieces_of
few_none [] h = refl
few_none (a ∷ []) h = refl
few_none (a ∷ b ∷ []) h = refl
few_none (a ∷ b ∷ c ∷ []) h = refl
few_none (a ∷ b ∷ c ∷ d ∷ []) h = refl
few_none (a ∷ b ∷ c ∷ d ∷ e ∷ l) h = absurd (omega arith)

pub pieces_last : (l : List ℕ) (i : ℕ) → length l - i < 5 → pieces_of (drop i l) ≡ []
pieces_last l i h = few_none (drop i l) (rw length-drop h)

-- the lines of some pieces are laid, and those of the rest are still to be
pub record Listing (numbers before : List ℕ) (at : ℕ) (out : List ℕ) (i count laid : ℕ) : Type 0 where
  pub done : List ℕ
  pub lays : Laid done before at laid out
  pub whole : done ++ piece_lines (pieces_of (drop i numbers)) ≡ piece_lines (pieces_of numbers)
  pub counted : count + length (pieces_of (drop i numbers)) ≡ length (pieces_of numbers)

module _ {numbers before : List ℕ} {at : ℕ} where
  pub listing_first : at ≤ length before → Listing numbers before at before 0 0 at
  listing_first h = record { done = []; lays = record { place = omega arith; bytes = refl }; whole = refl; counted = omega arith }

  module _ {out : List ℕ} {i count laid : ℕ} (w : Listing numbers before at out i count laid) where
    pub listing_next : {after : List ℕ} {r : ℕ} → 5 ≤ length numbers - i → Laid (piece_line (piece_at numbers i)) out laid r after
        → Listing numbers before at after (i + 5) (count + 1) r
    unfolding piece_lines
    listing_next h p =
        record {
          done = w.done ++ piece_line (piece_at numbers i);
          lays = laid_append w.lays p;
          whole =
              append_assoc w.done (piece_line (piece_at numbers i)) (piece_lines (pieces_of (drop (i + 5) numbers)))
              ∙ ap (λ (ps : List Piece). w.done ++ piece_lines ps) (sym (pieces_next numbers i h)) ∙ w.whole;
          counted = let e = ap length (pieces_next numbers i h) in omega (arith, e, w.counted);
        }

    pub listing_done : length numbers - i < 5 → Laid (piece_lines (pieces_of numbers)) before at laid out × (count ≡ length (pieces_of numbers))
    unfolding piece_lines
    listing_done h =
        let e = pieces_last numbers i h in
        let all : w.done ≡ piece_lines (pieces_of numbers) = sym (append-nil w.done) ∙ ap (λ (ps : List Piece). w.done ++ piece_lines ps) (sym e) ∙ w.whole in
        let n = ap length e in
        (rw (← all) w.lays, omega (arith, n, w.counted))
