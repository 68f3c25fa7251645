-- What is ahead of a place, by what is found there. Assumes nothing.
use Rattle.std.proofs.Common.{◌≡◌, ℕ, ◌<◌, ◌≤◌, Bool, true, false, cond, leb, ◌⊎◌, List, length, get_or, take, drop, sym, refl, ap, ◌∙◌, inl, inr, arith, length-drop, take_all, le-leb, leb-false, leb-true}
use mathlib.Core.Bool.{false≢true}
use borrow.Author.Tests.{lt-leb}
use Rattle.program_records.specs.Reading.{found_in}
use Rattle.program_records.specs.declared.Found.{Found}
use Rattle.program_records.specs.declared.Found.TheVariants as found
use Rattle.program_streams.specs.Ahead.{past_record, standing, waiting, by_found, ahead_of}
use Rattle.program_streams.specs.Ends.{left_at}
use Rattle.program_streams.specs.Walk.{kind, body}
use Rattle.program_streams.specs.declared.Ahead.{Ahead}
use Rattle.program_streams.specs.declared.Left.{Left}
use Rattle.program_streams.specs.declared.Left.TheVariants.{More}
use Rattle.program_streams.specs.declared.Place.{Place}
use Rattle.program_streams.proofs.Walks.{NoRecord}

module _ (p : Place) where
  -- where no whole record is found
  pub stands_there : (f : Found) → NoRecord f → by_found p f ≡ standing p f
  unfolding by_found
  stands_there (found.Record start len next) none = absurd (none _ _ _ refl)
  stands_there found.More none = refl
  stands_there found.WrongMark none = refl
  stands_there found.Short none = refl
  stands_there found.End none = refl

  -- what is found, by whether a record is to be told
  pub no_whole : (f : Found) → (by_found p f).whole ≡ false → NoRecord f
  unfolding by_found
  no_whole (found.Record start len next) e = absurd (false≢true (sym e))
  no_whole found.More e = λ a l n (r : found.More ≡ found.Record a l n). cc
  no_whole found.WrongMark e = λ a l n (r : found.WrongMark ≡ found.Record a l n). cc
  no_whole found.Short e = λ a l n (r : found.Short ≡ found.Record a l n). cc
  no_whole found.End e = λ a l n (r : found.End ≡ found.Record a l n). cc

  one_whole : (f : Found) → (by_found p f).whole ≡ true → (start : ℕ) × (len : ℕ) × (next : ℕ) × (f ≡ found.Record start len next)
  unfolding by_found
  one_whole (found.Record start len next) e = (start, len, next, refl)
  one_whole found.More e = absurd (false≢true e)
  one_whole found.WrongMark e = absurd (false≢true e)
  one_whole found.Short e = absurd (false≢true e)
  one_whole found.End e = absurd (false≢true e)

module _ (mark : List (List ℕ)) (ended : Bool) (buf : List ℕ) (p : Place) where
  -- where there is no room
  pub room_wanting : {most : ℕ} → most < p.laid → waiting p ≡ ahead_of mark ended most buf p
  unfolding ahead_of
  room_wanting {most} h = rw (lt-leb p.laid most h)

  -- where there is room, by what is found
  module _ {most : ℕ} {f : Found} (r : p.laid ≤ most) (h : f ≡ found_in mark ended p.at (drop p.at buf)) where
    pub none_ahead : {left : Left} → NoRecord f → left ≡ left_at f → record { whole = false; full = false; left = left; place = p } ≡ ahead_of mark ended most buf p
    unfolding ahead_of
    none_ahead none e = rw (le-leb p.laid most r, ← h, stands_there p f none, e)

    pub one_ahead : {start len next : ℕ} {q : Place} → f ≡ found.Record start len next → q ≡ past_record p len next
        → record { whole = true; full = false; left = More; place = q } ≡ ahead_of mark ended most buf p
    unfolding ahead_of by_found
    one_ahead e g = rw (le-leb p.laid most r, ← h, e, g)

  -- a record that is to be told is found, and there is room for what it tells
  pub record Passed (most : ℕ) (q : Place) : Type 0 where
    pub roomy : p.laid ≤ most
    pub start : ℕ
    pub len : ℕ
    pub next : ℕ
    pub there : found_in mark ended p.at (drop p.at buf) ≡ found.Record start len next
    pub reached : q ≡ past_record p len next

  -- nothing is told: for want of room, or where no whole record is found
  abbrev pub AtRest : ℕ → Ahead → Type 0
  AtRest most a =
      ((most < p.laid) × (a ≡ waiting p))
      ⊎ ((p.laid ≤ most) × NoRecord (found_in mark ended p.at (drop p.at buf)) × (a ≡ standing p (found_in mark ended p.at (drop p.at buf))))

  pub at_rest : (most : ℕ) → (ahead_of mark ended most buf p).whole ≡ false → AtRest most (ahead_of mark ended most buf p)
  unfolding ahead_of
  at_rest most = by_room (leb p.laid most) refl
    where
      by_room : (room : Bool) → leb p.laid most ≡ room → (cond room (by_found p (found_in mark ended p.at (drop p.at buf))) (waiting p)).whole ≡ false
          → AtRest most (cond room (by_found p (found_in mark ended p.at (drop p.at buf))) (waiting p))
      by_room false r e = inl (leb-false _ _ r, refl)
      by_room true r e = let none = no_whole p (found_in mark ended p.at (drop p.at buf)) e in inr (leb-true _ _ r, none, stands_there p _ none)

  pub is_passed : (most : ℕ) → (ahead_of mark ended most buf p).whole ≡ true → Passed most (ahead_of mark ended most buf p).place
  unfolding ahead_of by_found
  is_passed most = by_room (leb p.laid most) refl
    where
      by_what : p.laid ≤ most → (start : ℕ) × (len : ℕ) × (next : ℕ) × (found_in mark ended p.at (drop p.at buf) ≡ found.Record start len next)
          → Passed most (by_found p (found_in mark ended p.at (drop p.at buf))).place
      by_what r w = record { roomy = r; start = w.0; len = w.1; next = w.2; there = w.3; reached = ap (λ (f : Found). (by_found p f).place) w.3 }

      by_room : (room : Bool) → leb p.laid most ≡ room → (cond room (by_found p (found_in mark ended p.at (drop p.at buf))) (waiting p)).whole ≡ true
          → Passed most (cond room (by_found p (found_in mark ended p.at (drop p.at buf))) (waiting p)).place
      by_room false r e = absurd (false≢true e)
      by_room true r e = by_what (leb-true _ _ r) (one_whole p (found_in mark ended p.at (drop p.at buf)) e)

-- a record stands at the front of what is behind its place: its kind, and the bytes behind its head
module _ (buf : List ℕ) (at : ℕ) {rest : List ℕ} (h : rest ≡ take (length buf) (drop at buf)) where
  all_behind : rest ≡ drop at buf
  all_behind = let d = length-drop at buf in h ∙ take_all (length buf) (drop at buf) (omega arith)

  pub kind_taken : {which : ℕ} → which ≡ get_or rest 1 0 → which ≡ kind (drop at buf)
  kind_taken e = e ∙ rw all_behind

  pub record_taken : {bytes : List ℕ} {len : ℕ} → len ≡ get_or rest 2 0 → bytes ≡ take len (drop 3 rest) → bytes ≡ body (drop at buf)
  record_taken k e = e ∙ rw (k, all_behind)
