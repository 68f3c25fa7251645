-- What the budgets of the carrying mode add up to, and what the bytes of the frames show of them. Assumes nothing.
use Rattle.std.specs.Prelude.{◌≡◌, Bool, List, [], ◌∷◌, ℕ, suc, ◌+◌, ◌*◌, ◌/◌, get_or, drop}
use Rattle.model.specs.Frame.{Seen, first, second, start, more, void608, void708, seen_all, triples_in, count_in}
use Rattle.model.specs.Rate.{Rate, Budgets, Carry, no_carry}
use Rattle.model.specs.Mux.{Mux}
use Rattle.model.specs.Run.{Call}
use Rattle.model_journey.specs.Bounds.{budgets_in, writes_in}

-- the two kinds of budget
pub data Kind : Type 0 where
  of_pairs of_triples : Kind

-- what a second is due of it [G1]
abbrev pub due : Kind → ℕ
due of_pairs = 60
due of_triples = 600

-- the budget of that kind
abbrev pub budget_of : Kind → Budgets → ℕ
budget_of of_pairs b = b.pairs
budget_of of_triples b = b.triples

-- what is left over of it
abbrev pub rest_of : Kind → Carry → ℕ
rest_of of_pairs c = c.pairs
rest_of of_triples c = c.triples

-- the sum of budgets of a kind
abbrev pub total : Kind → List Budgets → ℕ
total k [] = 0
total k (b ∷ bs) = budget_of k b + total k bs

-- A sum starts afresh: all four parts are 0, or numer or denom differs from those kept [G5].
pub data Afresh (r : Rate) (c : Carry) : Type 0 where
  no_parts : c ≡ no_carry → Afresh r c
  other_numer : (c.numer ≡ r.numer → ⊥) → Afresh r c
  other_denom : (c.denom ≡ r.denom → ⊥) → Afresh r c

-- what so many writes at a rate are due of a kind, rounded down once [G4]
abbrev pub due_of : Kind → Rate → ℕ → ℕ
due_of k r n = due k * (n * r.denom) / r.numer

-- the budgets of a kind that writes get add up to what these are due
abbrev pub AddUp : Kind → Rate → List Call → Type 0
AddUp k r cs = total k (budgets_in cs) ≡ due_of k r (writes_in cs)

-- the padding that fills a budget: 608 padding that of the pairs, output padding that of the triples [W1] [W2]
abbrev pub fills : Kind → Mux → Bool
fills of_pairs s = s.pad608
fills of_triples s = s.pad_out

-- the 608 triples among those that a reader sees, valid or not
unfoldable pub pair_triples_in : List Seen → ℕ
pair_triples_in [] = 0
pair_triples_in (first a b ∷ ts) = suc (pair_triples_in ts)
pair_triples_in (second a b ∷ ts) = suc (pair_triples_in ts)
pair_triples_in (void608 ∷ ts) = suc (pair_triples_in ts)
pair_triples_in (start a b ∷ ts) = pair_triples_in ts
pair_triples_in (more a b ∷ ts) = pair_triples_in ts
pair_triples_in (void708 ∷ ts) = pair_triples_in ts

-- what the bytes of a frame show of a budget: the 608 triples, or the count in the first byte
abbrev pub shown : Kind → List ℕ → ℕ
shown of_pairs frame = pair_triples_in (seen_all (triples_in (drop 2 frame)))
shown of_triples frame = count_in (get_or frame 0 0)

-- the sum of that over frames
abbrev pub shown_all : Kind → List (List ℕ) → ℕ
shown_all k [] = 0
shown_all k (f ∷ fs) = shown k f + shown_all k fs
