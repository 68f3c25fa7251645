-- It does not matter how an input is cut: what some bytes tell, and then what is told of those kept of them and of the bytes that follow, is what
-- all of them tell. Assumes nothing.
use Rattle.std.proofs.Common.{◌≡◌, ℕ, zero, suc, ◌+◌, ◌%◌, ◌^◌, ◌<◌, ◌≤◌, Bool, true, false, cond, eqb, ltb, List, ◌++◌, length, get_or, take, drop, refl, ap, ◌∙◌, arith, length-drop}
use lib.ListN.{get_or-append}
use lib.Seq.{take-append-le, drop-append-le}
use Rattle.program_records.proofs.Cuts.{whole, stays_record, stays_wrong}
use Rattle.program_records.specs.Reading.{can_be, record_length, missing, found_in}
use Rattle.program_records.specs.declared.Found.{Found}
use Rattle.program_records.specs.declared.Found.TheVariants as found
use Rattle.program_streams.specs.Ends.{left_at}
use Rattle.program_streams.specs.Walk.{Told, Walked, kind, body, before, if_record, told, resumed}
use Rattle.program_streams.specs.declared.Left.{Left}
use Rattle.program_streams.specs.declared.Left.TheVariants.{More, Stopped, Ended}
use Rattle.program_streams.proofs.Walks.{by_front, told_on}
use Rattle.program_streams.proofs.Stands.{before_before}

-- before the end of the input nothing is short, and nothing is its end
abbrev late : Found → ℕ
late (found.Record start len next) = 0
late found.More = 0
late found.WrongMark = 0
late found.Short = 1
late found.End = 1

early : (a b c : Bool) (p q n : ℕ) → late (cond a (missing false found.End) (cond b (cond c (missing false found.Short) (found.Record p q n)) found.WrongMark)) ≡ 0
early true b c p q n = refl
early false false c p q n = refl
early false true true p q n = refl
early false true false p q n = refl

not_late : (mark : List (List ℕ)) (s : List ℕ) → late (found_in mark false 0 s) ≡ 0
unfolding found_in
not_late mark s = early (eqb (length s) 0) (can_be mark s) (ltb (length s) (record_length s)) (0 + 3) (get_or s 2 0) (0 + record_length s)

module _ {S : Type 0} (mark : List (List ℕ)) (tell : ℕ → S → ℕ → List ℕ → Told S) (later : Bool) (c : List ℕ) where
  -- a text stands before what follows, wherever the cut is
  resumed_before : (t : List ℕ) (w : Walked S) → before t (resumed mark tell later c w w.left) ≡ resumed mark tell later c (before t w) w.left
  resumed_before t w = by_left w.left
    where
      by_left : (l : Left) → before t (resumed mark tell later c w l) ≡ resumed mark tell later c (before t w) l
      by_left More = before_before t w.text _
      by_left Stopped = refl
      by_left Ended = refl

  -- what a cut behind the bytes s leaves
  abbrev Cut : List ℕ → ℕ → ℕ → S → Type 0
  Cut s b n x = told mark tell later (s ++ c) b n x ≡ resumed mark tell later c (told mark tell false s b n x) (told mark tell false s b n x).left

  -- a cut behind the bytes of a record and some more
  module _ (s : List ℕ) (b n : ℕ) (x : S) {start len next : ℕ} (e : found_in mark false 0 s ≡ found.Record start len next)
      (g : found_in mark later 0 (s ++ c) ≡ found.Record start len next) where
    same_record : (kind (s ++ c) ≡ kind s) × (get_or (s ++ c) 2 0 ≡ get_or s 2 0) × (drop (record_length s) (s ++ c) ≡ drop (record_length s) s ++ c) × (take (get_or s 2 0) (drop 3 (s ++ c)) ≡ body s)
    same_record =
        let w = whole mark false 0 s e in
        let d = length-drop 3 s in
        let k : get_or s 2 0 ≤ length (drop 3 s) = omega (arith, w.there, w.says) in
        let j : 3 ≤ length s = omega (arith, w.there) in
        let m : record_length s ≤ length s = omega (arith, w.there, w.says) in
        (get_or-append s c 0 1 (omega arith), get_or-append s c 0 2 (omega arith), drop-append-le (record_length s) s c m, rw (drop-append-le 3 s c j) (take-append-le (get_or s 2 0) (drop 3 s) c k))

    behind_record : ((r : List ℕ) (a m : ℕ) (y : S) → length r < length s → Cut r a m y) → Cut s b n x
    behind_record rest =
        let w = whole mark false 0 s e in
        let q = same_record in
        let t = tell n x (kind s) (body s) in
        let r = drop (record_length s) s in
        let fewer : length r < length s = rw length-drop (omega (arith, w.there)) in
        rw (told_on mark tell false 0 s b n x refl e)
        (told_on mark tell later 0 (s ++ c) b n x refl g
        ∙ rw (q.0, q.1, q.2, q.3) (ap (before t.text) (rest r ((b + record_length s) % 2 ^ 64) ((n + 1) % 2 ^ 64) t.next fewer))
        ∙ resumed_before t.text (told mark tell false r ((b + record_length s) % 2 ^ 64) ((n + 1) % 2 ^ 64) t.next))

  module _ (short : length mark ≤ 3) where
    cut_by : (s : List ℕ) (b n : ℕ) (x : S) → ((r : List ℕ) (a m : ℕ) (y : S) → length r < length s → Cut r a m y)
        → (f : Found) → found_in mark false 0 s ≡ f → late f ≡ 0 → Cut s b n x
    unfolding if_record left_at
    cut_by s b n x rest (found.Record start len next) e l = behind_record s b n x e (stays_record mark false later 0 s c short e) rest
    cut_by s b n x rest found.More e l = rw (by_front mark tell false s b n x, e)
    cut_by s b n x rest found.WrongMark e l = rw (by_front mark tell false s b n x, e) (by_front mark tell later (s ++ c) b n x ∙ rw (stays_wrong mark false later 0 s c e))
    cut_by s b n x rest found.Short e l = absurd (omega arith)
    cut_by s b n x rest found.End e l = absurd (omega arith)

    cut_in : (k : ℕ) (s : List ℕ) (b n : ℕ) (x : S) → length s ≤ k → Cut s b n x
    cut_in zero s b n x h = cut_by s b n x (λ r a m y l. absurd (omega arith)) (found_in mark false 0 s) refl (not_late mark s)
    cut_in (suc k) s b n x h = cut_by s b n x (λ r a m y l. cut_in k r a m y (omega arith)) (found_in mark false 0 s) refl (not_late mark s)

    pub cut_anywhere : (s : List ℕ) (b n : ℕ) (x : S) → Cut s b n x
    cut_anywhere s b n x = cut_in (length s) s b n x (omega arith)
