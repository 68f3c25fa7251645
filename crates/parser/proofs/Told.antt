-- A frame does to a state what it does to the model's demultiplexer: what the code puts together is what is laid over the places. Assumes nothing.
use mathlib.Core.Path.{◌≡◌, refl, sym, ap, ◌∙◌}
use mathlib.Core.List.{List, [], ◌++◌, append-nil}
use mathlib.Core.Bool.{Bool, true, false, cond}
use mathlib.Core.Option.{Option, none, some}
use Prim.Native.Nat.{ℕ, ◌+◌, ◌*◌, ◌/◌, ◌≤◌, ◌<◌}
use native.Mathlib.Omega.{arith}
use lib.ListN.{length, get_or, length-append}
use lib.Dec.{eqb}
use borrow.Author.Tests.{le-leb, eqb-true}
use Rattle.model.specs.Said.{Said, cea608_after_cea708, full}
use Rattle.model.specs.Frame.{Cea608, count_in}
use Rattle.model.specs.Demux as model
use Rattle.model.specs.Demux.{Demux, Taken, packets_of, with_pairs, pairs_in, late_from, carries708, ended, take_gathered, take_triples, unread, take_frame}
use Rattle.model.proofs.Frames.{Read, packets_many, gathered_read, kept_pending, take_full, take_room, few_packets}
use Rattle.model.proofs.Frames as frames
use Rattle.parser_triples.specs.Walk.{seen_from}
use Rattle.parser_triples.specs.Plan.{plan_found, plan_of}
use Rattle.parser_triples.specs.declared.Plan.{Plan}
use Rattle.parser_triples.specs.declared.Plan.TheVariants.{Unread, LengthWrong, Packets}
use Rattle.parser_triples.proofs.Plans.{packets_carry}
use Rattle.parser_triples.proofs.Found.{triples_within}
use Rattle.parser_lists.specs.Listing.{Listing, listed_by}
use Rattle.parser_rings.specs.Ring.{with_runs}
use Rattle.parser_gather.specs.Tests.{ready_for}
use Rattle.parser_gather.specs.Gather.{Left, left_after}
use Rattle.parser_gather.specs.Gather as gather
use Rattle.parser_gather.proofs.Pending.{fine_pending}
use Rattle.parser.specs.Means.{means, Shaped}
use Rattle.parser.specs.Calls.{laid_in}
use Rattle.parser.specs.Push.{left_of, with_list, with_left, plan_says, plan_lists, kept, plan_leaves}
use Rattle.parser.specs.declared.CCDataParser.{CCDataParser}
use Rattle.parser.proofs.Valids.{Fine, waiting_count}
use Rattle.parser.proofs.Laid.{pending_many, pending_same, laid_same}
use Rattle.parser.proofs.Listed.{listed, listed_none, listed_by_lem}

-- a test that decides nothing
cond_same : {A : Type 0} (b : Bool) (x : A) → cond b x x ≡ x
cond_same true x = refl
cond_same false x = refl

-- what is laid after a frame
abbrev pub after : CCDataParser → Taken → CCDataParser
after p t = laid_in p.pairs p.pending p.waiting_first (with_runs p.waiting_first p.waiting_count p.waiting t.runs) t.next

-- a state with another list, other pending bytes and another ring
abbrev pub joined : CCDataParser → Listing → Left → CCDataParser
joined p l g = with_list (with_left p g) l

-- what is told of a frame where there is a place, and where there is none: the answer, and what is laid after it
pub record Tells (p : CCDataParser) (a : Said) (l : Listing) (g : Left) (t : Taken) : Type 0 where
  pub room : g.count ≤ 32 → (a ≡ t.answer) × (joined p l g ≡ after p t)
  pub none : 32 < g.count → (full ≡ t.answer) × (p ≡ after p t)

-- the frame by its plan
abbrev pub Told : CCDataParser → Plan → List ℕ → Taken → Type 0
Told p q f t = Tells p (plan_says q) (plan_lists p f q) (plan_leaves p f q) t

module _ (p : CCDataParser) (v : Fine p) (s : Shaped p) where
  -- what is gathered, in the places of the state
  abbrev leaves : model.Gathered → Left
  leaves o = gather.left_of p.waiting_first p.waiting_count p.waiting p.pending o

  -- all stays but the list
  abbrev stays : model.Gathered
  stays = record { runs = []; bytes = (means p).pending }

  stays_left : kept p ≡ leaves stays
  unfolding means with_runs
  stays_left =
      let z : p.waiting_count + 0 ≡ p.waiting_count = omega arith in
      rw (z, pending_many p v s, pending_same p v s)

  -- the state with pairs qs and what is gathered is that
  join : (l : Listing) (qs : List Cea608) (g : Left) (o : model.Gathered) (d : Demux) → l ≡ listed p.pairs qs → g ≡ leaves o → Read o.runs
      → d ≡ record { on608 = p.cea608_on; pairs = qs; pending = o.bytes; waiting = (means p).waiting ++ packets_of o.runs }
      → joined p l g ≡ laid_in p.pairs p.pending p.waiting_first (with_runs p.waiting_first p.waiting_count p.waiting o.runs) d
  unfolding laid_in
  join l qs g o d e q r w =
      let many : length ((means p).waiting ++ packets_of o.runs) ≡ p.waiting_count + length o.runs =
      omega (arith, length-append (means p).waiting (packets_of o.runs), packets_many r, waiting_count p v) in
      ap (λ (x : Left). joined p l x) q ∙ rw (e, w, many)

  -- an answer that leaves all as it is but the list
  told_kept : (a : Said) (l : Listing) (qs : List Cea608) (g : Left) (t : Taken) → l ≡ listed p.pairs qs → g ≡ leaves stays → a ≡ t.answer → t.runs ≡ []
      → t.next ≡ record { on608 = p.cea608_on; pairs = qs; pending = (means p).pending; waiting = (means p).waiting } → Tells p a l g t
  unfolding packets_of
  told_kept a l qs g t e q y n w =
      let count : g.count ≡ p.waiting_count + 0 = ap (λ (x : Left). x.count) q in
      record {
        room = λ _. (y, rw n (join l qs g stays t.next e q frames.none (w ∙ rw (append-nil (means p).waiting))));
        none = λ h. absurd (omega (arith, v.ring.count));
      }

  -- a frame that is accepted or for which no place is left
  told_gathered : (l : Listing) (qs : List Cea608) (g : Left) (o : model.Gathered) → l ≡ listed p.pairs (cond p.cea608_on qs []) → g ≡ leaves o → Read o.runs
      → Tells p (plan_says Packets) l g (take_gathered qs o (means p))
  unfolding means with_runs
  told_gathered l qs g o e q r =
      let count : g.count ≡ p.waiting_count + length o.runs = ap (λ (x : Left). x.count) q in
      let many : length (means p).waiting + length (packets_of o.runs) ≡ g.count = omega (arith, waiting_count p v, packets_many r) in
      record {
        room = λ h. rw (take_room qs o (means p) (omega arith)) (refl, join l _ g o _ e q r refl);
        none = λ h. rw (take_full qs o (means p) (omega arith)) (refl, sym (laid_same p v s));
      }

  -- packets can be gathered
  ready_here : ready_for p.waiting_first p.waiting_count p.pending_len p.pending ≡ true
  unfolding ready_for
  ready_here = rw (le-leb _ _ v.ring.first, le-leb _ _ v.ring.count, fine_pending p.pending_len p.pending s.pending, le-leb _ _ v.short) v.waits

  -- a frame with triples
  module _ (f : List ℕ) (short : length f ≤ 95) where
    -- with a valid 708 triple all is gathered
    all_of : (g : List ℕ) → carries708 (seen_from 0 f) ≡ true → model.gathered g (seen_from 0 f) ≡ ended (model.gather g (seen_from 0 f))
    unfolding model.gathered
    all_of g e = rw e

    -- what is gathered of it
    abbrev all : model.Gathered
    all = model.gathered (means p).pending (seen_from 0 f)

    -- no late triple, by what is gathered
    told_all : (g : Left) → g ≡ leaves all
        → Tells p (plan_says Packets) (listed_by p.cea608_on p.pairs f) g (take_gathered (pairs_in (seen_from 0 f)) all (means p))
    told_all g e =
        told_gathered _ (pairs_in (seen_from 0 f)) g all (listed_by_lem p.cea608_on p.pairs f short) e (gathered_read (means p).pending (seen_from 0 f))

    -- with a valid 708 triple or without
    told_bytes : (b : Bool) → carries708 (seen_from 0 f) ≡ b → Told p (plan_found none b) f (take_gathered (pairs_in (seen_from 0 f)) all (means p))
    unfolding left_after means
    told_bytes true e = told_all _ (rw ready_here (ap leaves (sym (all_of (means p).pending e))))
    told_bytes false e = told_all _ (stays_left ∙ ap leaves (sym (kept_pending (means p).pending (seen_from 0 f) e)))

    -- a late triple
    told_late : (at : ℕ) (b : Bool) → Told p (plan_found (some at) b) f (record { answer = cea608_after_cea708 at; runs = []; next = with_pairs (pairs_in (seen_from 0 f)) (means p) })
    unfolding means
    told_late at b = told_kept (cea608_after_cea708 at) _ _ _ _ (listed_by_lem p.cea608_on p.pairs f short) stays_left refl refl refl

    -- either way
    told_triples : (o : Option ℕ) → Told p (plan_found o (carries708 (seen_from 0 f))) f (take_triples (seen_from 0 f) o (means p))
    unfolding take_triples
    told_triples none = told_bytes (carries708 (seen_from 0 f)) refl
    told_triples (some at) = told_late at (carries708 (seen_from 0 f))

  -- a frame that is not read, or whose length is wrong
  told_emptied : (a : Said) (f : List ℕ) → Tells p a (record { count = 0; places = p.pairs }) (kept p) (record { answer = a; runs = []; next = with_pairs [] (means p) })
  unfolding means
  told_emptied a f = told_kept a _ [] _ _ (listed_none p.pairs) stays_left refl refl (rw (cond_same {A = List Cea608} p.cea608_on []))

  -- any frame, by its header
  module _ (f : List ℕ) where
    -- triples, or a wrong length
    abbrev wrong : Plan
    wrong = LengthWrong (3 * count_in (get_or f 0 0) + 2) (length f)

    told_length : (b : Bool) → eqb (length f) (3 * count_in (get_or f 0 0) + 2) ≡ b
        → Told p (cond b (plan_found (late_from 0 (seen_from 0 f)) (carries708 (seen_from 0 f))) wrong) f
        (cond b (take_triples (seen_from 0 f) (late_from 0 (seen_from 0 f)) (means p)) (record { answer = plan_says wrong; runs = []; next = with_pairs [] (means p) }))
    told_length true e = told_triples f (omega (arith, eqb-true (length f) (3 * count_in (get_or f 0 0) + 2) e)) (late_from 0 (seen_from 0 f))
    told_length false e = told_emptied (plan_says wrong) f

    -- or nothing to read
    told_frame : (u : Bool) → unread f ≡ u → Told p (plan_of f) f (take_frame f (means p))
    unfolding plan_of take_frame
    told_frame true e = rw e (told_emptied (plan_says Unread) f)
    told_frame false e = rw e (told_length (eqb (length f) (3 * count_in (get_or f 0 0) + 2)) refl)

    pub told : Told p (plan_of f) f (take_frame f (means p))
    told = told_frame (unread f) refl

    -- places are left where fewer packets wait than there could be triples: a frame delivers at most one a triple and one at its end
    pub few_left : plan_of f ≡ Packets → 3 * p.waiting_count + length f < 96 → (left_of p f).count ≤ 32
    unfolding left_after means model.gathered
    few_left e h =
        let c = packets_carry f e in
        let runs : List (List ℕ) = (model.gathered (means p).pending (seen_from 0 f)).runs in
        let many : length (packets_of runs) ≡ length runs = packets_many (gathered_read (means p).pending (seen_from 0 f)) in
        let few : length runs ≤ length (seen_from 0 f) + 1 = omega (arith, many, few_packets (means p).pending (seen_from 0 f)) in
        rw ready_here (omega (arith, rw c at few, triples_within f))
