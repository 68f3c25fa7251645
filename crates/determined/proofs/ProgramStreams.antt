-- The functions of a program that reads records. Assumes nothing.
use mathlib.Core.Path.{◌≡◌, refl, sym, ap, ◌∙◌}
use mathlib.Core.Bool.{true, false, true≢false}
use mathlib.Core.List.{List, [], ◌++◌}
use Prim.Native.Nat.{ℕ}
use lib.ListN.{length}
use contract.Lifetimes.{Lfts}
use denote.RattleType.{RattleType}
use Rattle.std.specs.Prelude.{Result, Ok, Err, IsOk, IfOk, OnErr, Option, Some, None}
use Rattle.std.specs.Io.KnownBytes.{Consumes, Appends}
use Rattle.std.proofs.lemmas.List.{append_cancel_right}
use Rattle.std.proofs.lemmas.Option.{none-some}
use Rattle.program_records.specs.Moved.{Moved}
use Rattle.program_text.specs.Laid.{Laid}
use Rattle.program_streams.specs.Ends.{goes_on}
use Rattle.program_streams.specs.Ahead.{with_laid, held_at}
use Rattle.program_streams.specs.Walk.{Told, Walked, told, Kept}
use Rattle.program_streams.specs.Driven.{mark_of, TakenIn, Driven, Broken}
use Rattle.program_streams.specs.declared.Ahead.{Ahead}
use Rattle.program_streams.specs.declared.Held.{Held}
use Rattle.program_streams.proofs.unread.Reads as Unread
use Rattle.program_streams.proofs.front.Reads as Front
use Rattle.program_streams.proofs.look.Reads as Look
use Rattle.program_streams.proofs.kind_at.Reads as KindAtReads
use Rattle.program_streams.proofs.body_at.Reads as BodyAtReads
use Rattle.program_streams.proofs.onward.Reads as Onward
use Rattle.program_streams.proofs.put_last.Reads as PutLastReads
use Rattle.program_streams.proofs.keep.Reads as Keep
use Rattle.program_streams.proofs.run.Reads as Run
use Rattle.determined.specs.Determines.{Determines, DeterminesLent, DeterminesPart, DeterminesRun, Alike}
use Rattle.determined.proofs.Ways.{equal, part_equal}

-- text laid into a lent buffer, and the same ahead where so many bytes are laid
lays_ahead : {A E : Type 0} {lent : E → List ℕ} {text before : A → List ℕ} {at : A → ℕ} (ahead : A → Ahead)
    → DeterminesLent lent (λ (a : A) (r : Ahead) (e : E). Laid (text a) (before a) (at a) r.place.laid (lent e) × (r ≡ with_laid (ahead a) r.place.laid))
lays_ahead ahead =
    record {
      result = λ a r q e f h k. h.1 ∙ ap (with_laid (ahead a)) (h.0.place ∙ sym k.0.place) ∙ sym k.1;
      contents = λ a r q e f h k. h.0.bytes ∙ sym k.0.bytes;
    }

-- bytes moved to the front of a lent buffer, and what is held beside so many
keeps : {A E : Type 0} {lent : E → List ℕ} {kept before : A → List ℕ} (ahead : A → Ahead)
    → DeterminesLent lent (λ (a : A) (r : Held) (e : E). Moved (kept a) (before a) r.have (lent e) × (r ≡ held_at r.have (ahead a)))
keeps ahead =
    record {
      result = λ a r q e f h k. h.1 ∙ ap (λ (n : ℕ). held_at n (ahead a)) (h.0.count ∙ sym k.0.count) ∙ sym k.1;
      contents = λ a r q e f h k. h.0.bytes ∙ sym k.0.bytes;
    }

-- `unread()`
pub unread : Determines (Unread.Post (tt {0}))
unread = equal

-- `front(held)`
pub front : Determines (Front.Post (tt {0}))
front = equal

-- `look(buf, place, ended, kinds, most)`
pub look : (κs : Lfts 2) → Determines (Look.Post κs)
look κs = equal

-- `kind_at(buf, at)`
pub kind_at : (κs : Lfts 1) → Determines (KindAtReads.Post κs)
kind_at κs = equal

-- `body_at(buf, at)`
pub body_at : (κs : Lfts 1) → DeterminesPart (BodyAtReads.Post κs)
body_at κs = part_equal

-- `onward(ahead, end)`
pub onward : Determines (Onward.Post (tt {0}))
onward = equal

-- `put_last(out, ahead)`
pub put_last : (κs : Lfts 1) → DeterminesLent (λ e. e.0.now) (PutLastReads.Post κs)
put_last κs = lays_ahead (λ a. a.1.0)

-- `keep(buf, more, ahead)`
pub keep : (κs : Lfts 1) → DeterminesLent (λ e. e.0.now) (Keep.Post κs)
keep κs = keeps (λ a. a.1.1.0)

-- two answers of a call that gives nothing back
same_units : {F : Type 0} (r q : Result (Unit {0}) F) → IsOk r → IsOk q → r ≡ q
same_units (Ok x) (Ok y) f g = refl
same_units (Err x) q f g = absurd (true≢false (sym f))
same_units (Ok x) (Err y) f g = absurd (true≢false (sym g))

-- bytes that are known
known : Option (List ℕ) → List ℕ
known None = []
known (Some x) = x

-- what is taken of a known input, where the same is left
same_input : (given left rest : Option (List ℕ)) (bytes i j : List ℕ) → given ≡ Some bytes → left ≡ rest → Consumes given left i → Consumes given rest j → i ≡ j
unfolding known
same_input None left rest bytes i j k e f g = absurd (none-some bytes k)
same_input (Some x) None rest bytes i j k e f g = absurd f
same_input (Some x) (Some y) None bytes i j k e f g = absurd g
same_input (Some x) (Some y) (Some z) bytes i j k e f g = append_cancel_right i j y (sym f ∙ g ∙ ap (λ (l : List ℕ). j ++ l) (sym (ap known e)))

-- what is put behind known bytes
same_output : (before now after : Option (List ℕ)) (bytes t : List ℕ) → before ≡ Some bytes → Appends before now t → Appends before after t → now ≡ after
same_output None now after bytes t k f g = absurd (none-some bytes k)
same_output (Some x) None after bytes t k f g = absurd f
same_output (Some x) (Some y) None bytes t k f g = absurd g
same_output (Some x) (Some y) (Some z) bytes t k f g = ap Some (f ∙ sym g)

-- what is held, the bytes that wait and the state, where the same is told
held_of : {S : Type 0} {w : Walked S} {buf : List ℕ} {h : Held} {x : S} → Kept w buf h x
    → h ≡ record { have = length w.rest; passed = w.place; records = w.number; going = goes_on w.left }
held_of k = rw (← k.count, ← k.reached, ← k.number, ← k.goes) refl

-- what a call that ended answers for
is_done : {F P : Type 0} (r : Result (Unit {0}) F) → IsOk r → IfOk r (λ _. P) → P
is_done (Ok x) f g = g
is_done (Err x) f g = absurd (true≢false (sym f))

-- a program that reads its input to the end, and answers `broke` where a read or a write fails
module _ {A E S F : Type 0} (input output : A → Option (List ℕ)) (unread written : E → Option (List ℕ)) (buf : E → List ℕ) (held : E → Held) (state : E → S)
    (mark : List (List ℕ)) (tell : ℕ → S → ℕ → List ℕ → Told S) (fresh : A → S) (broke : A → Result (Unit {0}) F → E → Type 0) where
  abbrev Tells : A → E → Type 0
  Tells a e = Driven mark tell true (fresh a) (input a) (unread e) (output a) (written e) (buf e) (held e) (state e)

  abbrev Drives : A → Result (Unit {0}) F → E → Type 0
  Drives a r e = IfOk r (λ _. (held e).going ≡ false → Tells a e) × broke a r e

  module _ (a : A) (r q : Result (Unit {0}) F) (e f : E) (h : Alike input output unread written buf held state Drives a r q e f) where
    first : Tells a e
    first = is_done r h.first_ok h.first.0 h.first_ended

    second : Tells a f
    second = is_done q h.second_ok h.second.0 h.second_ended

    -- the same input is told by both
    same : first.0 ≡ second.0
    same = same_input (input a) (unread e) (unread f) h.known.0 first.0 second.0 h.known.1 h.same_left first.1 second.1

    one : TakenIn (told mark tell true first.0 0 0 (fresh a)) (output a) (written e) (buf e) (held e) (state e)
    one = first.2

    other : TakenIn (told mark tell true first.0 0 0 (fresh a)) (output a) (written f) (buf f) (held f) (state f)
    other = rw same second.2

  drives : DeterminesRun input output unread written buf held state Drives
  drives =
      record {
        result = λ a r q e f h. same_units r q h.first_ok h.second_ok;
        place = λ a r q e f h. held_of (one a r q e f h).kept ∙ sym (held_of (other a r q e f h).kept);
        waiting = λ a r q e f h. (one a r q e f h).kept.bytes ∙ sym (other a r q e f h).kept.bytes;
        left = λ a r q e f h. (one a r q e f h).kept.state ∙ sym (other a r q e f h).kept.state;
        handed_out = λ a r q e f h k. same_output (output a) (written e) (written f) k.0 _ k.1 (one a r q e f h).text (other a r q e f h).text;
      }

-- `run::<T, R, W>(input, output, buf, out, held, teller)`, of calls that came to the end of what they read
pub run : (T : RattleType) (R : RattleType) (W : RattleType) (T-laws : _) (R-laws : _) (W-laws : _) (copies : _) (Teller : _) (tell : _) (Clone : _) (clone : _)
    (Read : _) (read : _) (Write : _) (write : _) (κs : Lfts 9)
    → DeterminesRun (λ a. Read.remaining a.0.now) (λ a. Write.contents a.1.0.now) (λ e. Read.remaining e.0.now) (λ e. Write.contents e.1.0.now)
    (λ e. e.1.1.0.now) (λ e. e.1.1.1.1.0.now) (λ e. e.1.1.1.1.1.0.now)
    (Run.Post T R W T-laws R-laws W-laws copies Teller tell Clone clone Read read Write write κs)
run T R W T-laws R-laws W-laws copies Teller tell Clone clone Read read Write write κs =
    drives (λ a. Read.remaining a.0.now) (λ a. Write.contents a.1.0.now) (λ e. Read.remaining e.0.now) (λ e. Write.contents e.1.0.now)
    (λ e. e.1.1.0.now) (λ e. e.1.1.1.1.0.now) (λ e. e.1.1.1.1.1.0.now) (mark_of Teller.kinds) Teller.telling (λ a. a.1.1.1.1.1.0.now)
    (λ a r e. OnErr r (Broken (mark_of Teller.kinds) Teller.telling a.1.1.1.1.1.0.now e.1.1.0.now e.1.1.1.1.0.now e.1.1.1.1.1.0.now))
