-- What a program tells of an input of records, one after another, and where it stands behind the last whole one. Assumes nothing.
use Rattle.std.specs.Prelude.{◌≡◌, ℕ, zero, suc, ◌+◌, ◌%◌, ◌^◌, ◌≤◌, Bool, cond, List, [], ◌++◌, length, take, drop, slice_index}
use Rattle.program_records.specs.Reading.{record_length, found_in}
use Rattle.program_records.specs.declared.Found.{Found}
use Rattle.program_records.specs.declared.Found.TheVariants as found
use Rattle.program_streams.specs.Ends.{left_at, goes_on, last_line}
use Rattle.program_streams.specs.declared.Left.{Left}
use Rattle.program_streams.specs.declared.Left.TheVariants.{More, Stopped, Ended}
use Rattle.program_streams.specs.declared.Place.{Place}
use Rattle.program_streams.specs.declared.Ahead.{Ahead}
use Rattle.program_streams.specs.declared.Held.{Held}

-- what is told of a record, and what the program has behind it
pub record Told (S : Type 0) : Type 0 where
  pub text : List ℕ
  pub next : S

-- what is told of some bytes, those of them behind the last whole record, the place and the number of the next one, how it goes on, and what
-- the program has
pub record Walked (S : Type 0) : Type 0 where
  pub text : List ℕ
  pub rest : List ℕ
  pub place : ℕ
  pub number : ℕ
  pub left : Left
  pub state : S

-- the kind of the record at the front, which is the second byte of its mark
abbrev pub kind : List ℕ → ℕ
kind s = slice_index s 1

-- the bytes of the record at the front
abbrev pub body : List ℕ → List ℕ
body s = take (slice_index s 2) (drop 3 s)

module _ {S : Type 0} where
  -- a text, and behind it what else is told
  abbrev pub before : List ℕ → Walked S → Walked S
  before t w = record { text = t ++ w.text; rest = w.rest; place = w.place; number = w.number; left = w.left; state = w.state }

  -- the same without its text
  abbrev pub silent : Walked S → Walked S
  silent w = record { text = []; rest = w.rest; place = w.place; number = w.number; left = w.left; state = w.state }

  -- no whole record stands at the front: nothing but the last line, if the input ends here
  abbrev pub stop : List ℕ → ℕ → ℕ → S → Left → Walked S
  stop s place n x left = record { text = last_line left place n; rest = s; place = place; number = n; left = left; state = x }

  -- the same where the last line is told
  abbrev pub done : List ℕ → ℕ → ℕ → S → Left → Walked S
  done s place n x left = silent (stop s place n x left)

  -- and where it is told of a buffer, behind which nothing is told
  abbrev pub done_at : List ℕ → Ahead → S → Walked S
  done_at buf a x = done (drop a.place.at buf) a.place.passed a.place.records x a.left

  -- a record, and then the bytes behind it; places and numbers are of 64 bits
  abbrev pub and_on : (List ℕ → ℕ → ℕ → S → Walked S) → List ℕ → ℕ → ℕ → Told S → Walked S
  and_on rest s place n t = before t.text (rest (drop (record_length s) s) ((place + record_length s) % 2 ^ 64) ((n + 1) % 2 ^ 64) t.next)

  -- by whether a whole record is found
  unfoldable pub if_record : Found → Walked S → Walked S → Walked S
  if_record (found.Record start len next) w none = w
  if_record found.More w none = none
  if_record found.WrongMark w none = none
  if_record found.Short w none = none
  if_record found.End w none = none

-- records of a mark, of each of which something is told by its number, what the program has, its kind and its bytes; `ended` says that no more
-- bytes follow
module _ {S : Type 0} (mark : List (List ℕ)) (tell : ℕ → S → ℕ → List ℕ → Told S) (ended : Bool) where
  -- at most k records
  unfoldable pub walked : ℕ → List ℕ → ℕ → ℕ → S → Walked S
  walked zero s place n x = stop s place n x (left_at (found_in mark ended 0 s))
  walked (suc k) s place n x =
      if_record (found_in mark ended 0 s) (and_on (walked k) s place n (tell n x (kind s) (body s)))
      (stop s place n x (left_at (found_in mark ended 0 s)))

  -- all that some bytes tell: they hold no more records than bytes
  unfoldable pub told : List ℕ → ℕ → ℕ → S → Walked S
  told s place n x = walked (length s) s place n x

  -- what a buffer tells from a place on
  abbrev pub told_from : List ℕ → Place → S → Walked S
  told_from buf p x = told (drop p.at buf) p.passed p.records x

  -- what is left to tell of a buffer where no record was told: nothing, unless it was room that was wanting
  abbrev pub left_to_tell : List ℕ → Ahead → S → Walked S
  left_to_tell buf a x = cond a.full (told_from buf a.place x) (done_at buf a x)

  -- behind what some bytes tell, what is told once the bytes c follow: of those kept and of these, unless the input has ended
  abbrev pub resumed : List ℕ → Walked S → Left → Walked S
  resumed c w More = before w.text (told (w.rest ++ c) w.place w.number w.state)
  resumed c w Stopped = record { text = w.text; rest = w.rest ++ c; place = w.place; number = w.number; left = w.left; state = w.state }
  resumed c w Ended = record { text = w.text; rest = w.rest ++ c; place = w.place; number = w.number; left = w.left; state = w.state }

-- what a program keeps for its next read, at the front of a buffer and beside it, once some bytes are told
pub record Kept {S : Type 0} (w : Walked S) (buf : List ℕ) (h : Held) (x : S) : Type 0 where
  pub count : h.have ≡ length w.rest
  pub within : h.have ≤ length buf
  pub bytes : take h.have buf ≡ w.rest
  pub reached : h.passed ≡ w.place
  pub number : h.records ≡ w.number
  pub state : x ≡ w.state
  pub goes : h.going ≡ goes_on w.left

-- r bytes follow the first `have` of a buffer, which stay
pub record Follow (before : List ℕ) (have r : ℕ) (after : List ℕ) : Type 0 where
  pub stay : take have after ≡ take have before
  pub within : have + r ≤ length after
