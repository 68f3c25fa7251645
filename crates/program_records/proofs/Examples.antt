-- What is found at a buffer's front, case by case. Assumes nothing.
use mathlib.Core.Path.{◌≡◌, refl}
use mathlib.Core.Bool.{true, false}
use mathlib.Core.List.{List, [], ◌∷◌, map}
use Prim.Native.Nat.{ℕ}
use Rattle.model.specs.Services.{among}
use Rattle.program_records.specs.declared.Found.TheVariants.{Record, More, WrongMark, Short, End}
use Rattle.program_records.specs.Reading.{can_be, found_in}

-- nothing, a part of the mark, the mark alone, a body cut short, a body without bytes, a body and more, both again for the other kind, and two
-- wrong marks
inputs : List (List ℕ)
inputs =
    []
    ∷ (0xCC ∷ [])
    ∷ (0xCC ∷ 0xDA ∷ [])
    ∷ (0xCC ∷ 0xDA ∷ 2 ∷ 0x41 ∷ [])
    ∷ (0xCC ∷ 0xDA ∷ 0 ∷ [])
    ∷ (0xCC ∷ 0xDA ∷ 1 ∷ 0x41 ∷ 0xCC ∷ [])
    ∷ (0xCC ∷ 0xCD ∷ 0 ∷ [])
    ∷ (0xCC ∷ 0xCD ∷ 1 ∷ 0x41 ∷ 0xCC ∷ [])
    ∷ (0x4D ∷ [])
    ∷ (0xCC ∷ 0x5C ∷ [])
    ∷ []

-- a mark of one kind, and one of two
one : List (List ℕ)
one = (0xCC ∷ []) ∷ (0xDA ∷ []) ∷ []

two : List (List ℕ)
two = (0xCC ∷ []) ∷ (0xDA ∷ 0xCD ∷ []) ∷ []

-- where the input goes on, and where it ends
goes_on : map (found_in one false 7) inputs
    ≡ More ∷ More ∷ More ∷ More ∷ Record 10 0 10 ∷ Record 10 1 11 ∷ WrongMark ∷ WrongMark ∷ WrongMark ∷ WrongMark ∷ []
unfolding inputs one found_in can_be among
goes_on = refl

ends : map (found_in one true 7) inputs
    ≡ End ∷ Short ∷ Short ∷ Short ∷ Record 10 0 10 ∷ Record 10 1 11 ∷ WrongMark ∷ WrongMark ∷ WrongMark ∷ WrongMark ∷ []
unfolding inputs one found_in can_be among
ends = refl

-- where it ends, with records of both kinds
ends_of_two : map (found_in two true 7) inputs
    ≡ End ∷ Short ∷ Short ∷ Short ∷ Record 10 0 10 ∷ Record 10 1 11 ∷ Record 10 0 10 ∷ Record 10 1 11 ∷ WrongMark ∷ WrongMark ∷ []
unfolding inputs two found_in can_be among
ends_of_two = refl
