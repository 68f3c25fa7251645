-- A proposal: its pieces, and the bytes of the runs that they are cut from. Assumes nothing.
use Rattle.std.specs.Prelude.{Bool, true, false, cond, ◌&&◌, ◌≡◌, ℕ, zero, suc, eqb, ltb, length, get_or}
use mathlib.Core.List.{List, [], ◌∷◌, map, flat_map}
use Rattle.model.specs.Lists.{every}

-- a piece: some bytes of one run, and the packet and the block that they go to [Q1]
pub record Piece : Type 0 where
  pub run : ℕ
  pub first : ℕ
  pub size : ℕ
  pub packet : ℕ
  pub block : ℕ

-- five numbers make a piece; fewer than five at the end make none [Q1]
unfoldable pub pieces_of : List ℕ → List Piece
pieces_of [] = []
pieces_of (r ∷ []) = []
pieces_of (r ∷ f ∷ []) = []
pieces_of (r ∷ f ∷ n ∷ []) = []
pieces_of (r ∷ f ∷ n ∷ p ∷ []) = []
pieces_of (r ∷ f ∷ n ∷ p ∷ b ∷ l) = record { run = r; first = f; size = n; packet = p; block = b } ∷ pieces_of l

-- pieces as their numbers [Q1]
unfoldable pub numbers_of : List Piece → List ℕ
numbers_of [] = []
numbers_of (q ∷ qs) = q.run ∷ (q.first ∷ (q.size ∷ (q.packet ∷ (q.block ∷ numbers_of qs))))

-- so many numbers, one after the other
unfoldable pub count_from : ℕ → ℕ → List ℕ
count_from first zero = []
count_from first (suc n) = first ∷ count_from (suc first) n

-- a byte: its run, and its place there [Q1]
pub record Byte : Type 0 where
  pub run : ℕ
  pub place : ℕ

-- by the two
abbrev pub byte : ℕ → ℕ → Byte
byte r k = record { run = r; place = k }

-- the bytes of run r
unfoldable pub run_bytes : List ℕ → ℕ → List Byte
run_bytes lengths r = map (byte r) (count_from 0 (get_or lengths r 0))

-- The bytes of all runs, in their order: there are as many runs as services [Q1].
unfoldable pub bytes_of : List ℕ → List ℕ → List Byte
bytes_of services lengths = flat_map (run_bytes lengths) (count_from 0 (length services))

-- the service of a run; 0 where there is no such run
abbrev pub service_of : List ℕ → ℕ → ℕ
service_of services r = get_or services r 0

-- those that pass a test, in their order
unfoldable pub those : {A : Type 0} → (A → Bool) → List A → List A
those test [] = []
those test (x ∷ xs) = cond (test x) (x ∷ those test xs) (those test xs)

-- whether every two pass a test, the earlier one first
unfoldable pub every_two : {A : Type 0} → (A → A → Bool) → List A → Bool
every_two test [] = true
every_two test (x ∷ xs) = every (test x) xs && every_two test xs

-- whether numbers do not come after others: the first place in which they differ decides
unfoldable pub not_after : List ℕ → List ℕ → Bool
not_after [] l = true
not_after (x ∷ l) [] = false
not_after (x ∷ l) (y ∷ m) = cond (eqb x y) (not_after l m) (ltb x y)

-- an element of a list
pub data In {A : Type 0} (x : A) : List A → Type 0 where
  here : {y : A} {l : List A} → x ≡ y → In x (y ∷ l)
  there : {y : A} {l : List A} → In x l → In x (y ∷ l)
