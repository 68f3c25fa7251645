-- The profile that knows how long codes are: rules K of docs/RULES.md. Below it a payload is bytes and no more. Assumes nothing.
use Rattle.std.specs.Prelude.{Bool, true, false, cond, not, ◌&&◌, List, [], ◌∷◌, map, ℕ, zero, suc, ◌-◌, eqb, leb, ltb, length, get_or, take}
use Rattle.model.specs.Said.{Outcome, gave, refused, and_then, mapped, bad_number, bad_run, unknown_length, code_cut_short}
use Rattle.model.specs.Block.{Block}
use Rattle.model.specs.Packet.{Packet, push_run_by}

-- bytes from one to another, both among them, and how many bytes a code has whose length they tell
pub record Range : Type 0 where
  pub from : ℕ
  pub up_to : ℕ
  pub bytes : ℕ

abbrev pub range : ℕ → ℕ → ℕ → Range
range from up_to bytes = record { from = from; up_to = up_to; bytes = bytes }

-- By the first byte of a code [K1]. 0x10, which the standard calls EXT1, tells no length itself: the byte behind it does.
unfoldable pub first_ranges : List Range
first_ranges =
    range 0x00 0x0F 1
    ∷ range 0x10 0x10 0
    ∷ range 0x11 0x17 2
    ∷ range 0x18 0x1F 3
    ∷ range 0x20 0x87 1
    ∷ range 0x88 0x8D 2
    ∷ range 0x8E 0x8F 1
    ∷ range 0x90 0x90 3
    ∷ range 0x91 0x91 4
    ∷ range 0x92 0x92 3
    ∷ range 0x93 0x96 1
    ∷ range 0x97 0x97 5
    ∷ range 0x98 0x9F 7
    ∷ range 0xA0 0xFF 1
    ∷ []

-- By the byte behind 0x10, the whole code counted [K2]; 0x90 to 0x9F are not taken up.
unfoldable pub ext1_ranges : List Range
ext1_ranges =
    range 0x00 0x07 2
    ∷ range 0x08 0x0F 3
    ∷ range 0x10 0x17 4
    ∷ range 0x18 0x1F 5
    ∷ range 0x20 0x7F 2
    ∷ range 0x80 0x87 6
    ∷ range 0x88 0x8F 7
    ∷ range 0x90 0x9F 0
    ∷ range 0xA0 0xFF 2
    ∷ []

-- whether a byte is in a range
abbrev pub in_range : Range → ℕ → Bool
in_range r b = leb r.from b && leb b r.up_to

-- what the range tells that a byte is in; 0 where it is in none
unfoldable pub told_in : List Range → ℕ → ℕ
told_in [] b = 0
told_in (r ∷ rs) b = cond (in_range r b) r.bytes (told_in rs b)

-- The length that a byte tells, as a code's first byte or as the one behind 0x10; 0 for none [K1] [K2].
abbrev pub length_by : Bool → ℕ → ℕ
length_by false b = told_in first_ranges b
length_by true b = told_in ext1_ranges b

-- what a rule says of so many numbers, the first of which is `from`
unfoldable pub tabled : (ℕ → ℕ) → ℕ → ℕ → List ℕ
tabled rule from zero = []
tabled rule from (suc n) = rule from ∷ tabled rule (suc from) n

-- The table of 2 times 256 lengths: by each first byte, and by each byte behind 0x10 [K1] [K2].
unfoldable pub length_table : List (List ℕ)
length_table = tabled (length_by false) 0 256 ∷ tabled (length_by true) 0 256 ∷ []

-- whether bytes begin with 0x10 [K2]
abbrev pub is_ext1 : List ℕ → Bool
is_ext1 d = eqb (get_or d 0 0) 0x10

-- where the byte stands that tells the length of the code at the head of bytes: first, or behind 0x10 [K1] [K2]
abbrev pub telling_place : List ℕ → ℕ
telling_place d = cond (is_ext1 d) 1 0

-- the length that it tells
unfoldable pub told_length : List ℕ → ℕ
told_length d = length_by (is_ext1 d) (get_or d (telling_place d) 0)

-- whether it is missing: the bytes end before it
unfoldable pub is_untold : List ℕ → Bool
is_untold d = leb (length d) (telling_place d)

-- How many bytes the code at the head of bytes has. They end within it, or before the byte that tells its length: 22; that byte tells none: 21 [K3].
unfoldable pub code_in : List ℕ → Outcome ℕ
code_in d =
    cond (is_untold d) (refused code_cut_short)
    (cond (eqb (told_length d) 0) (refused unknown_length)
    (cond (ltb (length d) (told_length d)) (refused code_cut_short)
    (gave (told_length d))))

-- Codes one behind the other until no byte is left; the first that is refused, from the left, refuses all [K4]. The first `passed` bytes are of the
-- code before.
unfoldable pub codes_from : ℕ → List ℕ → Outcome (List (List ℕ))
codes_from passed [] = gave []
codes_from (suc passed) (x ∷ d) = codes_from passed d
codes_from zero (x ∷ d) = and_then (code_in (x ∷ d)) (λ k. mapped (λ cs. take k (x ∷ d) ∷ cs) (codes_from (k - 1) d))

-- The codes of a payload [K4].
abbrev pub codes_of : List ℕ → Outcome (List (List ℕ))
codes_of d = codes_from 0 d

-- whether bytes are one code: the length that they tell is their own [K5]
unfoldable pub is_code : List ℕ → Bool
is_code c = not (is_untold c) && eqb (told_length c) (length c)

-- The codes of several payloads, in order; the first that is refused refuses all [K6].
unfoldable pub codes_of_each : List (List ℕ) → Outcome (List (List (List ℕ)))
codes_of_each [] = gave []
codes_of_each (d ∷ ds) = and_then (codes_of d) (λ cs. mapped (λ css. cs ∷ css) (codes_of_each ds))

-- The codes of each block [K6].
abbrev pub codes_of_blocks : List Block → Outcome (List (List (List ℕ)))
codes_of_blocks bs = codes_of_each (map (λ (b : Block). b.payload) bs)

-- A run pushed under the profile: 6, then 7, then 21 or 22, and then the push, in either form [K7].
unfoldable pub push_codes_by : Bool → ℕ → List ℕ → Packet → Outcome Packet
push_codes_by needs_room n run p =
    cond (ltb 63 n) (refused bad_number)
    (cond (eqb (length run) 0) (refused bad_run)
    (and_then (codes_of run) (λ _. push_run_by needs_room n run p)))

-- the form that makes a new block where the latest has no room
abbrev pub push_codes : ℕ → List ℕ → Packet → Outcome Packet
push_codes n run p = push_codes_by true n run p

-- and the single-service form
abbrev pub push_codes_single : ℕ → List ℕ → Packet → Outcome Packet
push_codes_single n run p = push_codes_by false n run p
