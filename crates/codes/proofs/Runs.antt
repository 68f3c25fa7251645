-- What is answered of runs and of the payloads of blocks. Assumes nothing.
use mathlib.Core.Path.{◌≡◌, refl, sym, ap, ◌∙◌}
use mathlib.Core.Bool.{Bool, true, false}
use mathlib.Core.List.{List, [], ◌∷◌, map}
use Prim.Native.Nat.{ℕ, zero, suc, ◌+◌, ◌-◌, ◌≤◌, ◌<◌, min}
use native.Mathlib.Omega.{arith}
use borrow.Author.Tests.{lt-ltb, le-ltb, leb-true, leb-false}
use lib.Dec.{ltb, leb}
use lib.ListN.{length, get_or, take, drop, length-drop, drop_of_length-le}
use lib.Seq.{get_or-drop, drop-drop, take_all}
use Rattle.model.specs.Said.{Said, Outcome, gave, refused, mapped, says, checked, accepted, bad_value, bad_number}
use Rattle.model.specs.Block.{Block}
use Rattle.model.specs.Packet.{Packet, push_run_by}
use Rattle.model.specs.Codes.{codes_of, codes_of_each, push_codes_by}
use Rattle.model.proofs.Cases.{by_test, NotAccepted, Refuses}
use Rattle.model.proofs.Codes.{codes_numbered}
use Rattle.model.proofs.CodedPackets.{whole_pushed, refused_pushed}
use Rattle.caption.specs.declared.Refusal.{Refusal}
use Rattle.caption.specs.Answers.{said_refusal}
use Rattle.caption.proofs.Answers.{refusal_numbered, refused_with, given_with}
use Rattle.codes_cuts.proofs.Outcomes.{told_gave, told_refused}
use Rattle.service.specs.declared.Service.{Service}
use Rattle.service.specs.Service.{block_of}
use Rattle.packet_entries.specs.Fields.{blocks_held}
use Rattle.codes_cuts.specs.Cuts.{how_many}
use Rattle.codes.specs.Payloads.{payloads_held, stopped, screened}

module _ (d : List ℕ) where
  -- a run whose codes were counted
  pub run_accepted : (n : ℕ) → gave n ≡ mapped how_many (codes_of d) → accepted [] ≡ says (codes_of d)
  run_accepted n e = rw (told_gave how_many (codes_of d) n e).1

  -- and one that has none
  pub run_refused : (why : Refusal) → refused (said_refusal why) ≡ mapped how_many (codes_of d) → said_refusal why ≡ says (codes_of d)
  run_refused why e = rw (told_refused how_many (codes_of d) (said_refusal why) e)

  -- the same of what is told
  pub is_cut : accepted [] ≡ says (codes_of d) → (cs : List (List ℕ)) × (codes_of d ≡ gave cs)
  is_cut e = let g = given_with (λ _. []) [] (codes_of d) (codes_numbered d) e in (g.0, g.1)

  pub is_not : (why : Refusal) → said_refusal why ≡ says (codes_of d) → codes_of d ≡ refused (said_refusal why)
  is_not why e = refused_with (λ _. []) why (codes_of d) e

-- the payload of a block, which is a part of its places
pub block_part : (s : Service) (said : Said) → said ≡ says (codes_of (take (s.len - 0) (drop 0 s.payload))) → said ≡ says (codes_of (block_of s).payload)
block_part s said h = let none : s.len - 0 ≡ s.len = omega arith in rw none at h

-- 11 where a limit is broken, and else what is told
module _ {A : Type 0} (o : Outcome A) (valid v : Bool) (is : v ≡ valid) where
  pub broken : v ≡ false → bad_value ≡ says (checked valid o)
  broken e = rw (← is, e)

  pub unbroken : (s : Said) → v ≡ true → s ≡ says o → s ≡ says (checked valid o)
  unbroken s e h = rw (← is, e) h

-- what is told before a push
module _ (valid : Bool) (n : ℕ) (run : List ℕ) where
  -- of a run that has codes,
  pub let_through : accepted [] ≡ says (codes_of run) → accepted [] ≡ screened valid n (codes_of run)
  let_through e = rw (is_cut run e).1

  module _ (why : Refusal) (e : said_refusal why ≡ says (codes_of run)) where
    -- of one that has none, where the packet breaks a limit,
    pub stopped_broken : valid ≡ false → bad_value ≡ screened valid n (codes_of run)
    stopped_broken v = rw (is_not run why e, v)

    -- where the number is that of no service,
    pub stopped_number : valid ≡ true → 63 < n → bad_number ≡ screened valid n (codes_of run)
    unfolding stopped
    stopped_number v h = rw (is_not run why e, v, lt-ltb 63 n h)

    -- and else
    pub stopped_why : valid ≡ true → n ≤ 63 → said_refusal why ≡ screened valid n (codes_of run)
    unfolding stopped
    stopped_why v h = rw (is_not run why e, v, le-ltb 63 n h)

-- a push under the profile, by what is told before it
module _ (needs_room valid : Bool) (n : ℕ) (run : List ℕ) (p : Packet) where
  -- it is the push without the profile,
  pub pushed_on : accepted [] ≡ screened valid n (codes_of run) → checked valid (push_codes_by needs_room n run p) ≡ checked valid (push_run_by needs_room n run p)
  unfolding stopped
  pushed_on e = by (codes_of run) refl (codes_numbered run) e
    where
      by : (o : Outcome (List (List ℕ))) → codes_of run ≡ o → Refuses NotAccepted o → accepted [] ≡ screened valid n o
          → checked valid (push_codes_by needs_room n run p) ≡ checked valid (push_run_by needs_room n run p)
      by (gave cs) q m h = rw (whole_pushed needs_room n run p cs q)
      by (refused why) q m h =
          by_test valid
          (λ v. by_test (ltb 63 n)
          (λ k. absurd (told_not bad_number (λ z. omega arith) (h ∙ rw (v, k))))
          (λ k. absurd (told_not why m (h ∙ rw (v, k)))))
          (λ v. absurd (told_not bad_value (λ z. omega arith) (h ∙ rw v)))
        where
          told_not : (w : Said) → NotAccepted w → accepted [] ≡ w → ⊥
          told_not w f g = f (sym (ap (λ (x : Said). x.number) g))

  -- or it is refused
  pub pushed_not : (why : Refusal) → said_refusal why ≡ screened valid n (codes_of run) → checked valid (push_codes_by needs_room n run p) ≡ refused (said_refusal why)
  unfolding stopped
  pushed_not why e = by (codes_of run) refl e
    where
      by : (o : Outcome (List (List ℕ))) → codes_of run ≡ o → said_refusal why ≡ screened valid n o → checked valid (push_codes_by needs_room n run p) ≡ refused (said_refusal why)
      by (gave cs) q h = absurd (refusal_numbered why (ap (λ (x : Said). x.number) h))
      by (refused w) q h =
          let r = refused_pushed needs_room n run p w q in
          by_test valid
          (λ v. by_test (ltb 63 n) (λ k. rw (r, v, k) (ap (λ (x : Said). refused x) (sym (h ∙ rw (v, k))))) (λ k. rw (r, v, k) (ap (λ (x : Said). refused x) (sym (h ∙ rw (v, k))))))
          (λ v. rw v (ap (λ (x : Said). refused x) (sym (h ∙ rw v))))

-- the payloads of blocks that are held in places
pub held_payloads : (k : ℕ) (ns ss d : List ℕ) → map (λ (b : Block). b.payload) (blocks_held k ns ss d) ≡ payloads_held k ss d
unfolding blocks_held payloads_held
held_payloads zero ns ss d = refl
held_payloads (suc k) ns ss d = ap (λ (ps : List (List ℕ)). take (get_or ss 0 0) d ∷ ps) (held_payloads k (drop 1 ns) (drop 1 ss) (drop (get_or ss 0 0) d))

-- what is left to be checked
abbrev pub checked_from : ℕ → List ℕ → List ℕ → Said
checked_from k ss d = says (codes_of_each (payloads_held k ss d))

-- one of them, that is cut
pub each_next : (k : ℕ) (ss d : List ℕ) → 1 ≤ k → (cs : List (List ℕ)) → codes_of (take (get_or ss 0 0) d) ≡ gave cs → checked_from k ss d ≡ checked_from (k - 1) (drop 1 ss) (drop (get_or ss 0 0) d)
unfolding payloads_held blocks_held codes_of_each
each_next zero ss d h cs e = absurd (omega arith)
each_next (suc k) ss d h cs e = let one : suc k - 1 ≡ k = omega arith in rw (e, one) (mapped_says (codes_of_each (payloads_held k (drop 1 ss) (drop (get_or ss 0 0) d))))
  where
    mapped_says : (o : Outcome (List (List (List ℕ)))) → says (mapped (λ css. cs ∷ css) o) ≡ says o
    mapped_says (gave css) = refl
    mapped_says (refused why) = refl

-- or refused
pub each_refused : (k : ℕ) (ss d : List ℕ) → 1 ≤ k → (why : Said) → codes_of (take (get_or ss 0 0) d) ≡ refused why → checked_from k ss d ≡ why
unfolding payloads_held blocks_held codes_of_each
each_refused zero ss d h why e = absurd (omega arith)
each_refused (suc k) ss d h why e = rw e

-- a part that ends with the payloads' own end at the latest
module _ (d : List ℕ) (at k end : ℕ) (is : end ≡ min (at + k) (length d)) (within : at ≤ length d) where
  pub part_as : take (end - at) (drop at d) ≡ take k (drop at d)
  part_as =
      by_test (leb (at + k) (length d))
      (λ e. let q : end - at ≡ k = omega (arith, leb-true (at + k) (length d) e) in rw q)
      (λ e. let l = length-drop at d in
      let m : length d < at + k = leb-false (at + k) (length d) e in
      take_all (end - at) (drop at d) (omega arith) ∙ sym (take_all k (drop at d) (omega arith)))

  pub rest_as : drop end d ≡ drop k (drop at d)
  rest_as =
      by_test (leb (at + k) (length d))
      (λ e. let q : end ≡ at + k = omega (arith, leb-true (at + k) (length d) e) in rw q (sym (drop-drop k at d)))
      (λ e. let m : length d < at + k = leb-false (at + k) (length d) e in
      drop_of_length-le d {i = end} (omega arith) ∙ sym (drop-drop k at d ∙ drop_of_length-le d {i = at + k} (omega arith)))

-- the payloads from place i on, which begin at `at`
module _ (count : ℕ) (ss d : List ℕ) (i at : ℕ) (so : checked_from count ss d ≡ checked_from (count - i) (drop i ss) (drop at d)) where
  -- none is left
  pub all_checked : count ≤ i → accepted [] ≡ checked_from count ss d
  unfolding payloads_held blocks_held codes_of_each
  all_checked h = let z : count - i ≡ 0 = omega arith in sym (so ∙ rw z)

  module _ (more : i < count) (size end : ℕ) (sized : size ≡ get_or ss i 0) (is : end ≡ min (at + size) (length d)) (within : at ≤ length d) where
    here : get_or (drop i ss) 0 0 ≡ size
    here = let e : i + 0 ≡ i = omega arith in get_or-drop i ss 0 0 ∙ rw (e, sized)

    part : take (end - at) (drop at d) ≡ take (get_or (drop i ss) 0 0) (drop at d)
    part = rw here (part_as d at size end is within)

    -- the next is cut
    pub one_cut : accepted [] ≡ says (codes_of (take (end - at) (drop at d))) → checked_from count ss d ≡ checked_from (count - (i + 1)) (drop (i + 1) ss) (drop end d)
    one_cut e =
        let g = is_cut (take (end - at) (drop at d)) e in
        let n : count - i - 1 ≡ count - (i + 1) = omega arith in
        so ∙ each_next (count - i) (drop i ss) (drop at d) (omega arith) g.0 (rw (← part) g.1) ∙ rw (n, drop-drop 1 i ss, here, ← rest_as d at size end is within)

    -- or refused
    pub one_not : (why : Refusal) → said_refusal why ≡ says (codes_of (take (end - at) (drop at d))) → said_refusal why ≡ checked_from count ss d
    one_not why e =
        let g = is_not (take (end - at) (drop at d)) why e in
        sym (so ∙ each_refused (count - i) (drop i ss) (drop at d) (omega arith) (said_refusal why) (rw (← part) g))
