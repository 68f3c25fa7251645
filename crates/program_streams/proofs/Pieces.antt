-- The pieces that a buffer is told in, one after another, and what is kept of it. Assumes nothing.
use Rattle.std.proofs.Common.{◌≡◌, ℕ, Bool, true, false, cond, List, ◌++◌, length, take, drop, sym, refl, ap, ◌∙◌, arith, length-append, take_at}
use Rattle.program_records.specs.Moved.{Moved, between}
use Rattle.program_streams.specs.Ahead.{held_at}
use Rattle.program_streams.specs.Ends.{goes_on}
use Rattle.std.specs.Prelude.{Option}
use Rattle.std.specs.Io.KnownBytes.{Appends}
use Rattle.program_streams.specs.Driven.{HandedOut}
use Rattle.program_streams.specs.Walk.{Walked, before, silent, done_at, Kept}
use Rattle.program_streams.proofs.Known.{appends_both}
use Rattle.program_streams.specs.declared.Ahead.{Ahead}
use Rattle.program_streams.specs.declared.Held.{Held}
use Rattle.program_streams.proofs.Stands.{before_before, rest_between}

-- one piece more is handed out,
module _ {S : Type 0} {all : Walked S} (out mid now : Option (List ℕ)) where
  pub one_piece : (text : List ℕ) {more rest : Walked S} → HandedOut out mid all more → Appends mid now text → more ≡ before text rest
      → HandedOut out now all rest
  one_piece text {more} {rest} i f e =
      (i.0 ++ text, appends_both out mid now i.0 text i.1 f, i.2 ∙ ap (before i.0) e ∙ before_before i.0 text rest)

-- and behind it the next one is told, or nothing
module _ {S : Type 0} {all : Walked S} (out now : Option (List ℕ)) (full : Bool) (more none : Walked S) (i : HandedOut out now all (cond full more none)) where
  pub next_piece : full ≡ true → HandedOut out now all more
  next_piece e = rw e at i

  pub last_piece : full ≡ false → HandedOut out now all none
  last_piece e = rw e at i

-- what is kept is what is behind the last whole record
pub moved_kept : {S : Type 0} {w : Walked S} (buf : List ℕ) (more : ℕ) {exit : List ℕ} {h : Held} {x : S} (a : Ahead)
    → silent w ≡ done_at (take more buf) a x
    → Moved (between a.place.at more buf) buf h.have exit → h ≡ held_at h.have a → Kept w exit h x
moved_kept {S} {w} buf more {exit} {h} a e m g =
    let l = between a.place.at more buf in
    let k : w.rest ≡ l = ap (λ (v : Walked S). v.rest) e ∙ rest_between a.place.at more buf in
    let taken : take h.have exit ≡ l = rw (m.bytes, m.count) (take_at l _ _ refl) in
    record {
      count = m.count ∙ ap length (sym k);
      within = omega (arith, m.count, ap length m.bytes ∙ length-append l (drop (length l) buf));
      bytes = taken ∙ sym k;
      reached = ap (λ (v : Held). v.passed) g ∙ sym (ap (λ (v : Walked S). v.place) e);
      number = ap (λ (v : Held). v.records) g ∙ sym (ap (λ (v : Walked S). v.number) e);
      state = sym (ap (λ (v : Walked S). v.state) e);
      goes = ap (λ (v : Held). v.going) g ∙ ap goes_on (sym (ap (λ (v : Walked S). v.left) e));
    }
