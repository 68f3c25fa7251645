-- The two budgets of a frame rate, rounded or carried from frame to frame: rules G of docs/RULES.md. Assumes nothing.
use Rattle.std.specs.Prelude.{Bool, cond, ◌&&◌, ◌||◌, List, [], ◌∷◌, ℕ, ◌+◌, ◌*◌, ◌/◌, ◌%◌, eqb, ltb}
use Rattle.model.specs.Said.{Outcome, gave, refused, and_then, mapped, bad_rate}

-- numer frames in denom seconds [G1]
pub record Rate : Type 0 where
  pub numer : ℕ
  pub denom : ℕ

-- the rate numer/denom
abbrev pub rate : ℕ → ℕ → Rate
rate numer denom = record { numer = numer; denom = denom }

-- the rates that have names [G3]
abbrev pub named_rates : List Rate
named_rates = rate 24 1 ∷ rate 25 1 ∷ rate 30000 1001 ∷ rate 50 1 ∷ rate 60000 1001 ∷ []

-- the most pairs and the most triples of a frame [G1]
pub record Budgets : Type 0 where
  pub pairs : ℕ
  pub triples : ℕ

-- k · denom / numer to the nearest whole number, halves up [G1]
unfoldable pub rounded : ℕ → ℕ → ℕ → ℕ
rounded k numer denom = (2 * (k * denom) + numer) / (2 * numer)

-- the pairs of a rate [G1]
abbrev pub pairs_at : ℕ → ℕ → ℕ
pairs_at numer denom = rounded 60 numer denom

-- its triples [G1]
abbrev pub triples_at : ℕ → ℕ → ℕ
triples_at numer denom = rounded 600 numer denom

-- the most triples of any frame [S5]
abbrev pub most_triples : ℕ
most_triples = 31

-- 8 if numer is 0, no pair is due or too many triples are; else the budgets [G2].
unfoldable pub budgets : ℕ → ℕ → Outcome Budgets
budgets numer denom =
    cond (eqb numer 0 || (eqb (pairs_at numer denom) 0 || ltb most_triples (triples_at numer denom))) (refused bad_rate)
    (gave (record { pairs = pairs_at numer denom; triples = triples_at numer denom }))

-- the two values that accepted budgets tell, in that order
abbrev pub pairs_then_triples : Budgets → List ℕ
pairs_then_triples b = b.pairs ∷ b.triples ∷ []

-- Carried parts [G5]: numer and denom of the running sum, and what the sum has left over of the pairs and of the triples, in parts of numer.
pub record Carry : Type 0 where
  pub numer : ℕ
  pub denom : ℕ
  pub pairs : ℕ
  pub triples : ℕ

-- all four are 0 when a sum is to start afresh [G5]
abbrev pub no_carry : Carry
no_carry = record { numer = 0; denom = 0; pairs = 0; triples = 0 }

-- both rests are below numer, or all four parts are 0 [G7]
unfoldable pub valid_carry : Carry → Bool
valid_carry c =
    (ltb c.pairs c.numer && ltb c.triples c.numer)
    || (eqb c.numer 0 && (eqb c.denom 0 && (eqb c.pairs 0 && eqb c.triples 0)))

-- the rests count as 0 if numer or denom differs from those kept [G5]
unfoldable pub going_on : ℕ → ℕ → Carry → Carry
going_on numer denom c = cond (eqb c.numer numer && eqb c.denom denom) c no_carry

-- with what is left over, k · denom / numer rounded down [G4]
unfoldable pub carried_budget : ℕ → ℕ → ℕ → ℕ → ℕ
carried_budget k numer denom rest = (rest + k * denom) / numer

-- and what that leaves over [G4]
unfoldable pub left_over : ℕ → ℕ → ℕ → ℕ → ℕ
left_over k numer denom rest = (rest + k * denom) % numer

-- what a frame gets of a rate: its budgets, and the parts that are kept
pub record Share : Type 0 where
  pub budgets : Budgets
  pub carry : Carry

-- a sum that goes on with these rests
unfoldable pub carried_on : ℕ → ℕ → Carry → Share
carried_on numer denom c =
    record {
      budgets = record { pairs = carried_budget 60 numer denom c.pairs; triples = carried_budget 600 numer denom c.triples };
      carry = record { numer = numer; denom = denom; pairs = left_over 60 numer denom c.pairs; triples = left_over 600 numer denom c.triples };
    }

-- in the carrying mode, of a rate that has budgets: 8 if 600 · denom exceeds 31 · numer [G6]
abbrev pub carried_at : ℕ → ℕ → Carry → Outcome Share
carried_at numer denom c = cond (ltb (most_triples * numer) (600 * denom)) (refused bad_rate) (gave (carried_on numer denom (going_on numer denom c)))

-- of any rate: 8 as without the mode, and then that
unfoldable pub carried_share : ℕ → ℕ → Carry → Outcome Share
carried_share numer denom c = and_then (budgets numer denom) (λ _. carried_at numer denom c)

-- by the mode; without it the budgets are the rounded ones, and the parts stay as they are
unfoldable pub share_by : Bool → ℕ → ℕ → Carry → Outcome Share
share_by carrying numer denom c = cond carrying (carried_share numer denom c) (mapped (λ b. record { budgets = b; carry = c }) (budgets numer denom))
