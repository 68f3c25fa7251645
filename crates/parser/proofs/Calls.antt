-- What the public calls answer, and what they keep. Assumes nothing.
use mathlib.Core.Path.{◌≡◌, sym, ◌∙◌}
use mathlib.Core.List.{List, map}
use mathlib.Core.Bool.{true, false, true≢false}
use Prim.Native.Nat.{ℕ}
use native.Mathlib.Omega.{arith}
use lib.ListN.{length, length-map}
use Rattle.std.specs.Prelude.{Result, Ok, Err}
use Rattle.caption.specs.declared.Refusal.{Refusal}
use Rattle.caption.specs.declared.Refusal.TheVariants.{BadValue}
use Rattle.caption.specs.Answers.{outcome}
use Rattle.model.specs.Said.{gave, says}
use Rattle.model.specs.Demux.{Demux, Taken, quiet}
use Rattle.parser_lists.specs.Pairs.{placed_all}
use Rattle.parser_rings.specs.Ring.{with_runs}
use Rattle.parser.specs.Means.{means}
use Rattle.parser.specs.Valid.{valid}
use Rattle.parser.specs.Calls.{laid_in, laid_after}
use Rattle.parser.specs.After.{said_of, left_by, asked, turned_on}
use Rattle.parser.specs.declared.CCDataParser.{CCDataParser}
use Rattle.parser.proofs.Valids.{valid_fine, waiting_count}
use Rattle.parser_lists.proofs.Fields.{pairs_length}
use Rattle.parser.proofs.Laid.{Sound, pending_many, pending_same}
use Rattle.parser.proofs.Firsts.{head_stays}
use Rattle.parser.proofs.Kept.{sound_fine}

-- the length of an array of slots
pub length_mapped : {A B : Type 0} (f : A → B) (l : List A) (n : ℕ) → length (map f l) ≡ n → length l ≡ n
length_mapped f l n e = sym (length-map l f) ∙ e

-- what is promised of a call that gives t, answers r and leaves q
pub record Answers (t : Taken) (placed : Taken → CCDataParser) (p : CCDataParser) (r : Result (Unit {0}) Refusal) (q : CCDataParser) : Type 0 where
  pub answer : says (outcome r) ≡ said_of p t
  pub state : valid p ≡ true → means q ≡ t.next
  pub places : q ≡ left_by placed p t

-- a call that is accepted, or refused with 11
module _ (p : CCDataParser) (placed : Taken → CCDataParser) where
  -- refused, whatever it would give
  pub call_refused : (t : Taken) → false ≡ valid p → Answers t placed p (Err BadValue) p
  call_refused t v = record { answer = rw (← v); state = λ z. absurd (true≢false (sym z ∙ sym v)); places = rw (← v) }

  -- accepted
  pub call_accepted : (d : Demux) (n : CCDataParser) → true ≡ valid p → n ≡ placed (quiet d) → means n ≡ d → Answers (quiet d) placed p (Ok tt) n
  call_accepted d n v w m = record { answer = rw (← v); state = λ _. m; places = rw (← v) w }

-- 608 turned on: one flag and one count
pub turned_is : (p : CCDataParser) → Sound p
    → record {
      cea608_on = true;
      pair_count = 0;
      pairs = p.pairs;
      pending_len = p.pending_len;
      pending = p.pending;
      waiting_first = p.waiting_first;
      waiting_count = p.waiting_count;
      waiting = p.waiting;
    }
    ≡ turned_on p
unfolding laid_after laid_in with_runs means placed_all
turned_is p s =
    let v = sound_fine p s in
    let stays = head_stays p.waiting_first p.waiting_count (length (means p).waiting) (omega (arith, waiting_count p v)) in
    rw (pending_many p v s.shaped, pending_same p v s.shaped, stays, waiting_count p v)

-- what is asked of a state within the limits
module _ (p : CCDataParser) (v : true ≡ valid p) where
  -- the pairs
  pub counts_pairs : gave p.pair_count ≡ asked p (λ d. length d.pairs)
  unfolding means
  counts_pairs = rw (← v, pairs_length p.pair_count p.pairs)

  -- the packets
  pub counts_packets : gave p.waiting_count ≡ asked p (λ d. length d.waiting)
  counts_packets = rw (← v, waiting_count p (valid_fine p (sym v)))
