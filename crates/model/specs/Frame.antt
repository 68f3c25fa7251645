-- A frame of `cc_data`: its triples, and what a reader sees in one [F4] [F5]. Assumes nothing.
use Rattle.std.specs.Prelude.{Bool, true, false, List, [], ◌∷◌, ℕ, zero, suc, ◌+◌, ◌/◌, ◌%◌, eqb, leb}

-- a triple: the byte with its valid bit and type, and the two bytes that it carries
pub data Triple : Type 0 where
  tri : ℕ → ℕ → ℕ → Triple

-- the count that the first byte tells, and the triples
pub record Frame : Type 0 where
  pub count : ℕ
  pub triples : List Triple

-- the two bytes of a 608 pair
pub data Pair : Type 0 where
  pair : ℕ → ℕ → Pair

-- a pair and its field [F14]
pub data Cea608 : Type 0 where
  field1 field2 : Pair → Cea608

-- what a reader sees in a triple: a pair of field 1 or 2, a packet's start or more of it, or one that is not valid
pub data Seen : Type 0 where
  first second start more : ℕ → ℕ → Seen
  void608 void708 : Seen

-- by whether the triple is valid and by its type: 0 and 1 are pairs, 2 is more of a packet, 3 a packet's start [F5]
abbrev seen_by : Bool → ℕ → ℕ → ℕ → Seen
seen_by true zero a b = first a b
seen_by true (suc zero) a b = second a b
seen_by true (suc (suc zero)) a b = more a b
seen_by true (suc (suc (suc n))) a b = start a b
seen_by false zero a b = void608
seen_by false (suc zero) a b = void608
seen_by false (suc (suc n)) a b = void708

-- a triple's valid bit and type [F4]
unfoldable pub seen : Triple → Seen
seen (tri h a b) = seen_by (leb 4 (h % 8)) (h % 4) a b

-- what a reader sees in triples, one after the other
unfoldable pub seen_all : List Triple → List Seen
seen_all [] = []
seen_all (t ∷ ts) = seen t ∷ seen_all ts

-- the bytes of triples, three each
unfoldable pub flat : List Triple → List ℕ
flat [] = []
flat (tri h a b ∷ ts) = h ∷ a ∷ b ∷ flat ts

-- the triples of bytes, three each; one or two bytes left over are none
unfoldable pub triples_in : List ℕ → List Triple
triples_in [] = []
triples_in (h ∷ []) = []
triples_in (h ∷ a ∷ []) = []
triples_in (h ∷ a ∷ b ∷ d) = tri h a b ∷ triples_in d

-- whether 0x40 of the first byte is set [F2]
unfoldable pub flagged : ℕ → Bool
flagged h = eqb (h / 64 % 2) 1

-- the count in its lower five bits [F2]
abbrev pub count_in : ℕ → ℕ
count_in h = h % 32

-- the most bytes of a frame [S5]
abbrev pub most_frame : ℕ
most_frame = 95

-- a frame as it is written [W3]
unfoldable pub frame_bytes : Frame → List ℕ
frame_bytes f = (0xC0 + f.count) ∷ 0xFF ∷ flat f.triples
