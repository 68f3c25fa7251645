-- What an answer says, as numbers. Assumes nothing.
use Rattle.std.specs.Prelude.{[], ◌∷◌, length, take, get_or}
use Rattle.model.specs.Said.{Said}
use Rattle.program_answers.specs.declared.Numbers.{Numbers}

-- the number, how many values there are, and the first three; 0 where there is none
abbrev pub told_by : Said → Numbers
told_by s = record { number = s.number; count = length s.values; values = get_or s.values 0 0 ∷ get_or s.values 1 0 ∷ get_or s.values 2 0 ∷ [] }

-- what numbers say: the number, and as many of the three values as there are
abbrev pub said_by : Numbers → Said
said_by t = record { number = t.number; values = take t.count t.values }
