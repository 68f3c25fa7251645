-- A read is refused exactly where a test fails, with the number of the first that does, and a write likewise, whatever results the contracts of `read` and
-- `write` allow. Assumes nothing.
use mathlib.Core.Path.{◌≡◌, refl, sym, ap, ◌∙◌}
use mathlib.Core.Bool.{true, false, cond, ◌&&◌}
use mathlib.Core.List.{List, [], ◌∷◌, ◌++◌}
use mathlib.Core.Option.{Option}
use Prim.Native.Nat.{ℕ}
use contract.Lifetimes.{Lfts}
use lib.Dec.{ltb}
use lib.ListN.{length}
use Rattle.model.specs.Lists.{every}
use Rattle.std.specs.Prelude.{Result, Err}
use Rattle.model.specs.Said.{Outcome, gave, refused, says, mapped, put_into}
use Rattle.model.specs.Distribution.{is_coded, distribution_bytes, has_mark, sections_in_order, sums_up, counters_agree, held_in, opened, takes, frame_of, received_into, receive, is_whole, distribution_of, packed, Distributed, sent_into, distribute}
use Rattle.model.proofs.Cases.{by_test, both, and_both}
use Rattle.caption.specs.Answers.{said_refusal, outcome}
use Rattle.caption.specs.declared.Refusal.{Refusal}
use Rattle.caption.proofs.Answers.{refusal_numbered}
use Rattle.distribution.specs.States.{last_of}
use Rattle.distribution.specs.Calls.{read_by, told_of, written_by}
use Rattle.distribution.specs.declared.Received.{Received}
use Rattle.distribution.proofs.Trips.{Lent, Output, Reader, Writer, Read, Write}
use Rattle.distribution.proofs.Tests.{Test, read_tests, write_tests}

-- the number of the first that fails; 0 if none does
unfoldable pub first_failing : List Test → ℕ
first_failing [] = 0
first_failing (t ∷ ts) = cond t.passes (first_failing ts) t.number

-- where one fails and all before it pass, its number is given,
pub fails_here : (before : List Test) (t : Test) (behind : List Test) → every (λ (x : Test). x.passes) before ≡ true → t.passes ≡ false
    → first_failing (before ++ t ∷ behind) ≡ t.number
unfolding every first_failing
fails_here [] t behind p e = rw e refl
fails_here (x ∷ before) t behind p e = let q = both x.passes (every (λ (y : Test). y.passes) before) p in rw q.0 (fails_here before t behind q.1 e)

-- one test fails, those before it pass, and it has this number
abbrev pub FirstIs : List Test → ℕ → Type 0
FirstIs ts n =
    (before : List Test) × (t : Test) × (behind : List Test) × (ts ≡ before ++ t ∷ behind) × (every (λ (x : Test). x.passes) before ≡ true) × (t.passes ≡ false) × (t.number ≡ n)

-- and a number that is given, other than 0, is that of such a one
pub fails_so : (ts : List Test) (n : ℕ) → first_failing ts ≡ n → (n ≡ 0 → ⊥) → FirstIs ts n
unfolding every first_failing
fails_so [] n e z = absurd (z (sym e))
fails_so (t ∷ ts) n e z =
    by_test t.passes
    (λ p. let r = fails_so ts n (rw p at e) z in
    (t ∷ r.0, r.1, r.2, ap (λ (l : List Test). t ∷ l) r.3, and_both t.passes (every (λ (x : Test). x.passes) r.0) p r.4, r.5, r.6))
    (λ p. ([], t, ts, refl, refl, p, rw p at e))

-- what is told of what is given does not change a number
told_number : {A B : Type 0} (f : A → B) (o : Outcome A) → (says (mapped f o)).number ≡ (says o).number
told_number f (gave x) = refl
told_number f (refused why) = refl

received_number : (last : Option ℕ) (s out : List ℕ) → (says (receive last s out)).number ≡ first_failing (read_tests last s out)
unfolding first_failing receive opened received_into put_into
received_number last s out =
    by_test (has_mark s)
    (λ m. by_test (sections_in_order s)
    (λ o. by_test (sums_up s)
    (λ t. by_test (counters_agree s)
    (λ c. by_test (takes last (held_in s).counter)
    (λ n. by_test (ltb (length out) (length (frame_of (held_in s)))) (λ l. rw (m, o, t, c, n, l) refl) (λ l. rw (m, o, t, c, n, l) refl))
    (λ n. rw (m, o, t, c, n) refl))
    (λ c. rw (m, o, t, c) refl))
    (λ t. rw (m, o, t) refl))
    (λ o. rw (m, o) refl))
    (λ m. rw m refl)

sent_number : (counter code : ℕ) (f out : List ℕ) → (says (distribute counter code f out)).number ≡ first_failing (write_tests counter code f out)
unfolding first_failing distribute packed sent_into put_into
sent_number counter code f out =
    by_test (is_whole f && is_coded code)
    (λ w. by_test (ltb (length out) (length (distribution_bytes (distribution_of counter code f)))) (λ l. rw (w, l) refl) (λ l. rw (w, l) refl))
    (λ w. rw w refl)

-- the first test that fails, by where it stands
first_is : (ts : List Test) (n : ℕ) → FirstIs ts n → first_failing ts ≡ n
first_is ts n f = ap first_failing f.3 ∙ fails_here f.0 f.1 f.2 f.4 f.5 ∙ f.6

module _ (κs : Lfts 3) (reader next : Reader) (packet : Lent) (out end : Output) (r : Result Received Refusal) (told : Read κs reader next packet out end r) where
  -- the tests of this read
  abbrev tests_read : List Test
  tests_read = read_tests (last_of reader.now.last) packet.now out.now

  read_number : (says (outcome r)).number ≡ first_failing tests_read
  read_number = ap (λ (o : Outcome Received). (says o).number) told.0 ∙ told_number told_of (read_by reader.now packet.now out.now) ∙ received_number (last_of reader.now.last) packet.now out.now

  -- A read that is refused is refused with the number of the first test that fails,
  pub read_refused : (why : Refusal) → r ≡ Err why → FirstIs tests_read (said_refusal why).number
  read_refused why e = fails_so tests_read (said_refusal why).number (sym read_number ∙ ap (λ (x : Result Received Refusal). (says (outcome x)).number) e) (refusal_numbered why)

  -- and where a test is the first that fails its number is told.
  pub read_told : (n : ℕ) → FirstIs tests_read n → (says (outcome r)).number ≡ n
  read_told n f = read_number ∙ first_is tests_read n f

module _ (κs : Lfts 3) (w v : Writer) (code : ℕ) (frame : Lent) (out end : Output) (r : Result ℕ Refusal) (told : Write κs w v code frame out end r) where
  -- the tests of this write
  abbrev tests_write : List Test
  tests_write = write_tests w.now.next code frame.now out.now

  write_number : (says (outcome r)).number ≡ first_failing tests_write
  write_number =
      ap (λ (o : Outcome ℕ). (says o).number) told.0 ∙ told_number (λ (x : Distributed). length x.bytes) (written_by w.now code frame.now out.now) ∙ sent_number w.now.next code frame.now out.now

  -- So it is with a write that is refused,
  pub write_refused : (why : Refusal) → r ≡ Err why → FirstIs tests_write (said_refusal why).number
  write_refused why e = fails_so tests_write (said_refusal why).number (sym write_number ∙ ap (λ (x : Result ℕ Refusal). (says (outcome x)).number) e) (refusal_numbered why)

  -- and with its tests.
  pub write_told : (n : ℕ) → FirstIs tests_write n → (says (outcome r)).number ≡ n
  write_told n f = write_number ∙ first_is tests_write n f
