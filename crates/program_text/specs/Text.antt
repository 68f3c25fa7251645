-- Words, numbers and bytes as text, each a list of bytes [C2]. Assumes nothing.
use Rattle.std.specs.Prelude.{cond, List, [], ◌∷◌, ◌++◌, ℕ, zero, suc, ◌+◌, ◌-◌, ◌*◌, ◌/◌, ◌%◌, eqb, ltb, length}
use Prim.Native.Char.{code}
use Prim.Native.String.{String, [] as empty, ◌∷◌ as ◌▸◌}

-- the bytes of a quoted word
abbrev pub word : String → List ℕ
word empty = []
word (c ▸ s) = code c ∷ word s

-- the digit of a number below 16: `0` is 48 and `A` is 65
unfoldable pub digit : ℕ → ℕ
digit d = cond (ltb d 10) (48 + d) (55 + d)

-- two digits a byte, in capitals
abbrev pub hex_byte : ℕ → List ℕ
hex_byte b = digit (b / 16) ∷ digit (b % 16) ∷ []

-- bytes, one after another
abbrev pub hex : List ℕ → List ℕ
hex [] = []
hex (b ∷ bs) = digit (b / 16) ∷ digit (b % 16) ∷ hex bs

-- the decimal digits of n, at most f of them: those of its tenth, if it has one, and the last
unfoldable pub decimal_in : ℕ → ℕ → List ℕ
decimal_in zero n = []
decimal_in (suc f) n = cond (ltb n 10) [] (decimal_in f (n / 10)) ++ (digit (n % 10) ∷ [])

-- a number in decimal
unfoldable pub decimal : ℕ → List ℕ
decimal n = decimal_in (suc n) n

-- bytes, or `-` where there are none
unfoldable pub run : List ℕ → List ℕ
run bs = cond (eqb (length bs) 0) (word "-") (hex bs)

-- Reading digits back, by which what stands above is shown to be right: the number that a digit stands for,
unfoldable pub worth : ℕ → ℕ
worth d = cond (ltb d 58) (d - 48) (d - 55)

-- and the number that digits stand for in a base, behind those that stand for n
unfoldable pub value_from : ℕ → ℕ → List ℕ → ℕ
value_from base n [] = n
value_from base n (d ∷ ds) = value_from base (base * n + worth d) ds
