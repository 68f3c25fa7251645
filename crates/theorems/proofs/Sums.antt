-- With the padding that fills it, a budget that is carried is shown by the bytes of the frames, and over the writes at one rate it adds up to what these
-- are due. Assumes nothing.
use mathlib.Core.Path.{◌≡◌, sym, ap, ◌∙◌}
use mathlib.Core.Bool.{true, false}
use mathlib.Core.List.{List}
use Prim.Native.Nat.{ℕ}
use contract.Lifetimes.{Lfts}
use Rattle.std.specs.Prelude.{Result, Ok}
use Rattle.model.specs.Rate.{rate, Share, carried_on}
use Rattle.model.specs.Mux.{Mux, with_mode, flush_mux}
use Rattle.model.proofs.Carrying.{share_on}
use Rattle.model_journey.specs.Sums.{Kind, due_of, fills, shown_all}
use Rattle.model_journey.proofs.Sums as journey
use Rattle.caption.specs.declared.Framerate.{Framerate}
use Rattle.caption.specs.declared.Refusal.{Refusal}
use Rattle.writer.specs.Writer.{means}
use Rattle.writer.specs.declared.CCDataWriter.{CCDataWriter}
use Rattle.theorems.specs.Items.{Items}
use Rattle.theorems.specs.Allowed.{Output, Writer, Answer, SetCarrying, Flush, Write}
use Rattle.theorems.specs.Writing.{Calls, Reached, Tested, Stays}
use Rattle.theorems.specs.Sums.{StartsAfresh, NothingCarried, AddsUp}
use Rattle.theorems.proofs.Contracts.{carrying_says, flush_says}
use Rattle.theorems.proofs.Frames.{Wrote, wrote}
use Rattle.theorems.proofs.Sequences.{follows}
use Rattle.theorems.proofs.Answered.{given}
use Rattle.theorems.proofs.Reached.{holds}
use Rattle.theorems.proofs.Bounds.{carrying_means}

-- what an accepted write keeps
kept_by : {w w' : CCDataWriter} {speed : Framerate} {frame : List ℕ} → w.carrying ≡ true → Wrote w speed frame w' → (w'.carry.numer ≡ speed.numer) × (w'.carry.denom ≡ speed.denom)
unfolding means carried_on
kept_by {w} {speed} on k =
    let s = share_on speed.numer speed.denom (means w).carry (rw on at k.given) in (
      ap (λ (x : Mux). x.carry.numer) k.meant ∙ ap (λ (x : Share). x.carry.numer) s.is,
      ap (λ (x : Mux). x.carry.denom) k.meant ∙ ap (λ (x : Share). x.carry.denom) s.is,
    )

module _ {w : CCDataWriter} (d : Reached w) where
  -- Over the first accepted writes at an unchanged rate since the sum began afresh, whatever else is called between them (no flush, no change of mode):
  -- with output padding on at these writes the counts in the frames' first bytes add up to 600 · writes · denom / numer, rounded down once; with 608
  -- padding on the 608 triples add up to 60 · writes · denom / numer [G4].
  pub sums : (k : Kind) (speed : Framerate) {w' : CCDataWriter} {fs : List (List ℕ)} {is : Items} (c : Calls w fs is w')
      → w.carrying ≡ true → StartsAfresh speed w → Stays true speed c → Tested (fills k) c → AddsUp k speed fs
  unfolding means
  sums k speed {fs} c on afresh stay filled =
      let s = holds d in
      let f = follows c s.sound in
      let m = carrying_means w ∙ on in
      let a = journey.sums k (rate speed.numer speed.denom) f.calls (means w) m (f.steady true speed stay) afresh in
      let b = journey.run_shown k f.calls (means w) (f.allowed (fills k) filled) s.follow in
      ap (shown_all k) (sym f.frames) ∙ b ∙ a ∙ ap (due_of k (rate speed.numer speed.denom)) f.writes

-- a call, of a state that calls have reached
module _ (w w' : Writer) (d : Reached w.now) where
  -- the mode turned on from off: nothing is carried, so that every sum starts afresh (`no_parts`)
  pub turned_on : (κs : Lfts 1) (r : Answer) → SetCarrying κs w true r w' → w.now.carrying ≡ false → (w'.now.carrying ≡ true) × NothingCarried w'.now
  unfolding means
  turned_on κs r a off =
      let g = (given (carrying_says w w' r κs true a) (with_mode true (means w.now)) (rw (holds d).sound.valid)).1.0 in
      (ap (λ (s : Mux). s.carrying) g, ap (λ (s : Mux). s.carry) g ∙ rw off)

  -- turned off: the same
  pub turned_off : (κs : Lfts 1) (r : Answer) → SetCarrying κs w false r w' → (w'.now.carrying ≡ false) × NothingCarried w'.now
  unfolding means
  turned_off κs r a =
      let g = (given (carrying_says w w' r κs false a) (with_mode false (means w.now)) (rw (holds d).sound.valid)).1.0 in
      (ap (λ (s : Mux). s.carrying) g, ap (λ (s : Mux). s.carry) g)

  -- and with a flush, which leaves the mode
  pub flush_afresh : (κs : Lfts 1) (r : Answer) → Flush κs w r w' → (w'.now.carrying ≡ w.now.carrying) × NothingCarried w'.now
  unfolding means
  flush_afresh κs r a =
      let g = (given (flush_says w w' r κs a) (flush_mux (means w.now)) (rw (holds d).sound.valid)).1.0 in
      (ap (λ (s : Mux). s.carrying) g, ap (λ (s : Mux). s.carry) g)

  -- an accepted write in the mode keeps its numer and denom, so that at another rate a sum starts afresh (`other_numer`, `other_denom`)
  pub write_keeps : (κs : Lfts 2) (speed : Framerate) (out end : Output) (r : Result ℕ Refusal) → Write κs w speed out r w' end → w.now.carrying ≡ true → (n : ℕ) → r ≡ Ok n
      → (w'.now.carry.numer ≡ speed.numer) × (w'.now.carry.denom ≡ speed.denom)
  write_keeps κs speed out end r a on n e = kept_by on (wrote κs w w' speed out end r (holds d).sound a n e)
