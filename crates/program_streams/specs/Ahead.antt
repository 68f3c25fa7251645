-- What is ahead of a place in a buffer, and what is held from one read to the next. Assumes nothing.
use Rattle.std.specs.Prelude.{ℕ, ◌+◌, ◌%◌, ◌^◌, Bool, true, false, cond, List, drop, nat_le}
use Rattle.program_records.specs.Reading.{found_in}
use Rattle.program_records.specs.declared.Found.{Found}
use Rattle.program_records.specs.declared.Found.TheVariants as found
use Rattle.program_streams.specs.Ends.{left_at, goes_on}
use Rattle.program_streams.specs.declared.Left.TheVariants.{More}
use Rattle.program_streams.specs.declared.Place.{Place}
use Rattle.program_streams.specs.declared.Ahead.{Ahead}
use Rattle.program_streams.specs.declared.Held.{Held}

-- the place behind a record; places and numbers are of 64 bits
abbrev pub past_record : Place → ℕ → ℕ → Place
past_record p len next = record { at = next; passed = (p.passed + (3 + len)) % 2 ^ 64; records = (p.records + 1) % 2 ^ 64; laid = p.laid }

-- a whole record is to be told
abbrev pub passing : Place → ℕ → ℕ → Ahead
passing p len next = record { whole = true; full = false; left = More; place = past_record p len next }

-- no whole record is found
abbrev pub standing : Place → Found → Ahead
standing p f = record { whole = false; full = false; left = left_at f; place = p }

-- by what is found at a place
unfoldable pub by_found : Place → Found → Ahead
by_found p (found.Record start len next) = passing p len next
by_found p found.More = standing p found.More
by_found p found.WrongMark = standing p found.WrongMark
by_found p found.Short = standing p found.Short
by_found p found.End = standing p found.End

-- there may be more to tell, once what is laid has been handed out: there is no room for what a record tells, or nothing is looked at yet
abbrev pub waiting : Place → Ahead
waiting p = record { whole = false; full = true; left = More; place = p }

-- what is ahead of a place, where records have a mark, and there is room where no more than `most` bytes are laid
unfoldable pub ahead_of : List (List ℕ) → Bool → ℕ → List ℕ → Place → Ahead
ahead_of mark ended most buf p = cond (nat_le p.laid most) (by_found p (found_in mark ended p.at (drop p.at buf))) (waiting p)

-- the place ahead, where so many bytes are laid
abbrev pub reached : Ahead → ℕ → Place
reached a laid = record { at = a.place.at; passed = a.place.passed; records = a.place.records; laid = laid }

-- the same that is ahead, where so many bytes are laid
abbrev pub with_laid : Ahead → ℕ → Ahead
with_laid a laid = record { whole = a.whole; full = a.full; left = a.left; place = reached a laid }

-- the front of a buffer
abbrev pub front_of : Held → Place
front_of h = record { at = 0; passed = h.passed; records = h.records; laid = 0 }

-- what is held behind the last record, beside so many bytes
abbrev pub held_at : ℕ → Ahead → Held
held_at have a = record { have = have; passed = a.place.passed; records = a.place.records; going = goes_on a.left }

-- nothing is read
abbrev pub nothing_read : Held
nothing_read = record { have = 0; passed = 0; records = 0; going = true }
