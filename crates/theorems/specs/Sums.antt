-- What the frames of the carrying mode add up to: rules G of docs/RULES.md. Assumes nothing.
use Rattle.std.specs.Prelude.{◌≡◌, List, ℕ, length}
use Rattle.model.specs.Rate.{rate, no_carry}
use Rattle.model_journey.specs.Sums.{Kind, due_of, Afresh, shown_all}
use Rattle.caption.specs.declared.Framerate.{Framerate}
use Rattle.writer_shares.specs.Share.{carry_of}
use Rattle.writer.specs.declared.CCDataWriter.{CCDataWriter}

-- a sum starts afresh at a rate: nothing is carried, or another numer or denom [G5]
abbrev pub StartsAfresh : Framerate → CCDataWriter → Type 0
StartsAfresh speed w = Afresh (rate speed.numer speed.denom) (carry_of w.carry)

-- nothing is carried, so that a sum starts afresh at any rate
abbrev pub NothingCarried : CCDataWriter → Type 0
NothingCarried w = carry_of w.carry ≡ no_carry

-- what frames show of a kind of budget adds up to what so many are due at a rate, rounded down once [G4]
abbrev pub AddsUp : Kind → Framerate → List (List ℕ) → Type 0
AddsUp k speed fs = shown_all k fs ≡ due_of k (rate speed.numer speed.denom) (length fs)
