-- A program that reads its input to the end, one read after another. Assumes nothing.
use Rattle.std.proofs.Common.{◌≡◌, ℕ, zero, suc, ◌+◌, ◌<◌, ◌≤◌, Bool, true, false, cond, eqb, ltb, List, [], ◌++◌, length, get_or, take, drop, sym, refl, ap, ◌∙◌, append-nil, arith, length-drop, length-take, length-take-le, take-add}
use mathlib.Core.Bool.{false≢true}
use Rattle.program_records.proofs.Cuts.{whole}
use Rattle.program_records.specs.Reading.{can_be, record_length, missing, found_in}
use Rattle.program_records.specs.declared.Found.{Found}
use Rattle.program_records.specs.declared.Found.TheVariants as found
use Rattle.program_streams.specs.Ends.{left_at, goes_on}
use Rattle.program_streams.specs.Ahead.{nothing_read}
use Rattle.program_streams.specs.Walk.{Told, Walked, before, if_record, walked, told, resumed, Kept, Follow}
use Rattle.program_streams.specs.Driven.{TakenIn, Turned, Driven}
use Rattle.std.specs.Prelude.{Option}
use Rattle.std.specs.Io.KnownBytes.{Consumes}
use Rattle.program_streams.proofs.Known.{appends_none, appends_both, consumes_none, consumes_both}
use Rattle.program_streams.specs.declared.Held.{Held}
use Rattle.program_streams.specs.declared.Left.{Left}
use Rattle.program_streams.specs.declared.Left.TheVariants.{More, Stopped, Ended}
use Rattle.program_streams.proofs.Walks.{by_front}
use Rattle.program_streams.proofs.Cut.{cut_anywhere}

-- the bytes that a read gave
pub given : {before after : List ℕ} {have n : ℕ} → Follow before have n after
    → (length (take n (drop have after)) ≡ n) × (take (have + n) after ≡ take have before ++ take n (drop have after))
given {before} {after} {have} {n} f =
    let d = length-drop have after in
    let k : n ≤ length (drop have after) = omega (arith, f.within) in
    (length-take-le n (drop have after) k, take-add have n after ∙ rw f.stay)

-- what is kept does not tell what was told
kept_before : {S : Type 0} (t : List ℕ) (w : Walked S) {buf : List ℕ} {h : Held} {x : S} → Kept w buf h x → Kept (before t w) buf h x
kept_before t w k = record { count = k.count; within = k.within; bytes = k.bytes; reached = k.reached; number = k.number; state = k.state; goes = k.goes }

-- at the end of the input nothing more is waited for
abbrev waits : Found → ℕ
waits (found.Record start len next) = 0
waits found.More = 1
waits found.WrongMark = 0
waits found.Short = 0
waits found.End = 0

none_waits : (a b c : Bool) (p q n : ℕ) → waits (cond a (missing true found.End) (cond b (cond c (missing true found.Short) (found.Record p q n)) found.WrongMark)) ≡ 0
none_waits true b c p q n = refl
none_waits false false c p q n = refl
none_waits false true true p q n = refl
none_waits false true false p q n = refl

no_more : (mark : List (List ℕ)) (s : List ℕ) → waits (found_in mark true 0 s) ≡ 0
unfolding found_in
no_more mark s = none_waits (eqb (length s) 0) (can_be mark s) (ltb (length s) (record_length s)) (0 + 3) (get_or s 2 0) (0 + record_length s)

module _ {S : Type 0} (mark : List (List ℕ)) (tell : ℕ → S → ℕ → List ℕ → Told S) where
  ends_by : (s : List ℕ) (b n : ℕ) (x : S) → ((r : List ℕ) (a m : ℕ) (y : S) → length r < length s → goes_on (told mark tell true r a m y).left ≡ false)
      → (f : Found) → found_in mark true 0 s ≡ f → waits f ≡ 0 → goes_on (told mark tell true s b n x).left ≡ false
  unfolding if_record left_at
  ends_by s b n x rest (found.Record start len next) e l =
      let w = whole mark true 0 s e in
      let fewer : length (drop (record_length s) s) < length s = rw length-drop (omega (arith, w.there)) in
      rw (by_front mark tell true s b n x, e) (rest (drop (record_length s) s) _ _ _ fewer)
  ends_by s b n x rest found.More e l = absurd (omega arith)
  ends_by s b n x rest found.WrongMark e l = rw (by_front mark tell true s b n x, e)
  ends_by s b n x rest found.Short e l = rw (by_front mark tell true s b n x, e)
  ends_by s b n x rest found.End e l = rw (by_front mark tell true s b n x, e)

  ends_in : (k : ℕ) (s : List ℕ) (b n : ℕ) (x : S) → length s ≤ k → goes_on (told mark tell true s b n x).left ≡ false
  ends_in zero s b n x h = ends_by s b n x (λ r a m y l. absurd (omega arith)) (found_in mark true 0 s) refl (no_more mark s)
  ends_in (suc k) s b n x h = ends_by s b n x (λ r a m y l. ends_in k r a m y (omega arith)) (found_in mark true 0 s) refl (no_more mark s)

  -- a program that has read nothing
  pub starts : (buf : List ℕ) (x : S) (given out : Option (List ℕ)) → Driven mark tell false x given given out out buf nothing_read x
  unfolding told walked found_in left_at
  starts buf x given out = (
    [],
    consumes_none given,
    record {
      text = appends_none out;
      kept = record { count = refl; within = omega arith; bytes = refl; reached = refl; number = refl; state = refl; goes = refl };
    },
  )

  -- what is told stays so while the bytes that wait stay at the front of the buffer
  pub still_told : {w : Walked S} {buf after : List ℕ} {h : Held} {y : S} → Kept w buf h y → take h.have after ≡ take h.have buf → Kept w after h y
  still_told {w} {buf} {after} {h} k e =
      record {
        count = k.count;
        within = omega (arith, k.within, length-take h.have after, length-take h.have buf, ap length e);
        bytes = e ∙ k.bytes;
        reached = k.reached;
        number = k.number;
        state = k.state;
        goes = k.goes;
      }

  -- one read after another: the program stands where the bytes read so far leave it
  module _ (short : length mark ≤ 3) (x : S) (given left rest out now then : Option (List ℕ)) {buf after : List ℕ} {h k : Held} {y z : S}
      (i : Driven mark tell false x given left out now buf h y) (going : h.going ≡ true) (g : Turned mark tell buf h y left rest now then after k z) where
    -- what all of them tell
    all_read : TakenIn (told mark tell (eqb (length g.0) 0) (i.0 ++ g.0) 0 0 x) out then after k z
    all_read =
        let w = told mark tell false i.0 0 0 x in
        let j = i.2.kept in
        let m : w.left ≡ More = only_more w.left (sym j.goes ∙ going) in
        let v = told mark tell (eqb (length g.0) 0) (w.rest ++ g.0) w.place w.number w.state in
        let e : TakenIn v now then after k z = rw (j.bytes, j.reached, j.number, j.state) at g.2 in
        rw (cut_anywhere mark tell (eqb (length g.0) 0) g.0 short i.0 0 0 x, m)
        (record { text = appends_both out now then w.text v.text i.2.text e.text; kept = kept_before w.text v e.kept })
      where
        only_more : (l : Left) → goes_on l ≡ true → l ≡ More
        only_more More e = refl
        only_more Stopped e = absurd (false≢true e)
        only_more Ended e = absurd (false≢true e)

    goes_further : k.going ≡ true → (ended : Bool) (input : List ℕ) → Consumes given rest input → TakenIn (told mark tell ended input 0 0 x) out then after k z
        → Driven mark tell false x given rest out then after k z
    goes_further e false input c q = (input, c, q)
    goes_further e true input c q = absurd (false≢true (sym (ends_in (length input) input 0 0 x (omega arith)) ∙ sym q.kept.goes ∙ e))

    is_told : k.going ≡ false → (ended : Bool) (input : List ℕ) → Consumes given rest input → TakenIn (told mark tell ended input 0 0 x) out then after k z
        → Driven mark tell true x given rest out then after k z
    is_told e true input c q = (input, c, q)
    is_told e false input c q =
        let w = told mark tell false input 0 0 x in
        let r : TakenIn (told mark tell true (input ++ []) 0 0 x) out then after k z =
        rw (cut_anywhere mark tell true [] short input 0 0 x) (nothing_follows w q w.left (sym q.kept.goes ∙ e)) in
        (input, c, rw (append-nil input) at r)
      where
        nothing_follows : (w : Walked S) → TakenIn w out then after k z → (l : Left) → goes_on l ≡ false → TakenIn (resumed mark tell true [] w l) out then after k z
        nothing_follows w q More e = absurd (false≢true (sym e))
        nothing_follows w q Stopped e = rw (append-nil w.rest) q
        nothing_follows w q Ended e = rw (append-nil w.rest) q

    taken : Consumes given rest (i.0 ++ g.0)
    taken = consumes_both given left rest i.0 g.0 i.1 g.1

    -- more is to be read
    pub reads_on : k.going ≡ true → Driven mark tell false x given rest out then after k z
    reads_on e = goes_further e (eqb (length g.0) 0) (i.0 ++ g.0) taken all_read

    -- the input is told whole
    pub reads_all : k.going ≡ false → Driven mark tell true x given rest out then after k z
    reads_all e = is_told e (eqb (length g.0) 0) (i.0 ++ g.0) taken all_read
