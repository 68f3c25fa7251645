-- Laws of reading a frame, one for each way out of the function. Assumes nothing.
use mathlib.Core.Path.{◌≡◌, refl, sym, ap, ◌∙◌, subst}
use mathlib.Core.List.{List, []}
use mathlib.Core.Bool.{Bool, true, false, cond}
use Prim.Native.Nat.{ℕ, ◌≤◌, ◌<◌}
use native.Mathlib.Omega.{arith}
use lib.Dec.{ltb}
use borrow.Author.Tests.{ltb-true, ltb-false}
use Rattle.std.specs.Prelude.{Result, Ok, Err}
use Rattle.caption.specs.declared.Refusal.{Refusal}
use Rattle.caption.specs.declared.Refusal.TheVariants.{Full, FrameLengthWrong, Cea608AfterCea708}
use Rattle.caption.specs.Answers.{outcome, said_refusal}
use Rattle.caption.proofs.Answers.{refusal_numbered}
use Rattle.model.specs.Said.{Said, says, full, accepted}
use Rattle.model.specs.Demux.{take_frame}
use Rattle.model.proofs.Cases.{by_test}
use Rattle.parser_triples.specs.Plan.{plan_of}
use Rattle.parser_triples.specs.declared.Plan.{Plan}
use Rattle.parser_triples.specs.declared.Plan.TheVariants.{Unread, LengthWrong, Late, Pairs, Packets}
use Rattle.parser.specs.Means.{means, Shaped}
use Rattle.parser.specs.Valid.{valid}
use Rattle.parser.specs.Calls.{laid_after}
use Rattle.parser.specs.After.{pushed}
use Rattle.parser.specs.Push.{plan_says, plan_lists, plan_leaves, over, gather_says, gathered, listing_of, with_list}
use Rattle.parser.specs.declared.CCDataParser.{CCDataParser}
use Rattle.parser.proofs.Valids.{valid_fine}
use Rattle.parser.proofs.Laid.{Sound}
use Rattle.parser.proofs.Kept.{means_pushed, frame_head}
use Rattle.parser.proofs.Calls.{Answers}
use Rattle.parser.proofs.Told.{after, joined, Told, told}

-- what is promised of a frame
abbrev pub Pushed : CCDataParser → List ℕ → Result (Unit {0}) Refusal → CCDataParser → Type 0
Pushed p f r q = Answers (take_frame f (means p)) (laid_after p) p r q

-- by what the model says of a state within the limits
pub pushed_by : (p : CCDataParser) (f : List ℕ) (r : Result (Unit {0}) Refusal) (q : CCDataParser) → Shaped p → (v : valid p ≡ true)
    → says (outcome r) ≡ (take_frame f (means p)).answer → q ≡ pushed p f → Pushed p f r q
pushed_by p f r q s v a e = record { answer = rw v a; state = λ _. rw e (means_pushed p f (record { valid = v; shaped = s })); places = e }

-- an answer that says what a plan does
planned : (q : Plan) → (r : Result (Unit {0}) Refusal) × (says (outcome r) ≡ plan_says q)
planned Unread = (Ok (tt {0}), refl)
planned (LengthWrong expected actual) = (Err (FrameLengthWrong expected actual), refl)
planned (Late at) = (Err (Cea608AfterCea708 at), refl)
planned Pairs = (Ok (tt {0}), refl)
planned Packets = (Ok (tt {0}), refl)

-- there is an answer that is allowed
pub frame_answer : (p : CCDataParser) (f : List ℕ) → Sound p → (r : Result (Unit {0}) Refusal) × Pushed p f r (pushed p f)
frame_answer p f s =
    let t = told p (valid_fine p s.valid) s.shaped f in
    let q = planned (plan_of f) in
    by_test (ltb 32 (plan_leaves p f (plan_of f)).count)
    (λ e. (Err Full, pushed_by p f (Err Full) _ s.shaped s.valid (t.none (ltb-true _ _ e)).0 refl))
    (λ e. (q.0, pushed_by p f q.0 _ s.shaped s.valid (q.1 ∙ (t.room (ltb-false _ _ e)).0) refl))

-- a frame, from a state within the limits, by its plan
module _ (p : CCDataParser) (f : List ℕ) (shaped : Shaped p) (good : true ≡ valid p) (q : Plan) (planned_so : plan_of f ≡ q) where
  within : valid p ≡ true
  within = sym good

  here : Told p q f (take_frame f (means p))
  here = subst (λ (x : Plan). Told p x f (take_frame f (means p))) planned_so (told p (valid_fine p within) shaped f)

  -- what is laid is the state afterwards
  laid : after p (take_frame f (means p)) ≡ pushed p f
  unfolding laid_after
  laid = rw (within, frame_head p f (record { valid = within; shaped = shaped }))

  -- places are left
  pub push_done : (plan_leaves p f q).count ≤ 32 → (r : Result (Unit {0}) Refusal) → says (outcome r) ≡ plan_says q
      → Pushed p f r (joined p (plan_lists p f q) (plan_leaves p f q))
  push_done h r e = let t = here.room h in pushed_by p f r _ shaped within (e ∙ t.0) (t.1 ∙ laid)

  -- no place is left
  pub push_full : 32 < (plan_leaves p f q).count → (r : Result (Unit {0}) Refusal) → says (outcome r) ≡ full → Pushed p f r p
  push_full h r e = let t = here.none h in pushed_by p f r _ shaped within (e ∙ t.0) (t.1 ∙ laid)

-- no refusal says that a call is accepted
never : (why : Refusal) → said_refusal why ≡ accepted [] → ⊥
never why e = refusal_numbered why (ap (λ (s : Said). s.number) e)

-- a frame of which nothing is gathered
module _ (p : CCDataParser) (f : List ℕ) (shaped : Shaped p) (good : true ≡ valid p) where
  few : p.waiting_count ≤ 32
  few = (valid_fine p (sym good)).ring.count

  pub push_unread : plan_of f ≡ Unread → Pushed p f (Ok tt) (record p { pair_count = 0 })
  push_unread e = push_done p f shaped good Unread e few (Ok tt) refl

  pub push_wrong : (x y : ℕ) → plan_of f ≡ LengthWrong x y → Pushed p f (Err (FrameLengthWrong x y)) (record p { pair_count = 0 })
  push_wrong x y e = push_done p f shaped good (LengthWrong x y) e few (Err (FrameLengthWrong x y)) refl

  pub push_late : (x : ℕ) → plan_of f ≡ Late x → (k : CCDataParser) → k ≡ with_list p (listing_of p f) → Pushed p f (Err (Cea608AfterCea708 x)) k
  push_late x e k q = rw q (push_done p f shaped good (Late x) e few (Err (Cea608AfterCea708 x)) refl)

  pub push_pairs : plan_of f ≡ Pairs → (k : CCDataParser) → k ≡ with_list p (listing_of p f) → Pushed p f (Ok tt) k
  push_pairs e k q = rw q (push_done p f shaped good Pairs e few (Ok tt) refl)

  -- or packets are, and all of them have places, by what gathering answers and leaves
  module _ (e : plan_of f ≡ Packets) (r : Result (Unit {0}) Refusal) (says_so : says (outcome r) ≡ gather_says p f) (g : CCDataParser) (left : g ≡ gathered p f) where
    -- it is accepted where there are places
    not_full : r ≡ Ok tt → over p f ≡ false
    not_full o = by_test (over p f) (λ t. let z : accepted [] ≡ full = (rw o at says_so) ∙ rw t in absurd (never Full (sym z))) (λ t. t)

    pub push_packets : r ≡ Ok tt → (k : CCDataParser) → k ≡ with_list g (listing_of g f) → Pushed p f (Ok tt) k
    push_packets o k q =
        let t = not_full o in
        rw (q, left, t) (push_done p f shaped good Packets e (ltb-false _ _ t) (Ok tt) refl)

    -- and refused where there are none
    is_full : (why : Refusal) → r ≡ Err why → over p f ≡ true
    is_full why o = by_test (over p f) (λ t. t) (λ t. let z : said_refusal why ≡ accepted [] = (rw o at says_so) ∙ rw t in absurd (never why z))

    pub push_no_place : (why : Refusal) → r ≡ Err why → (x : Result (Unit {0}) Refusal) → x ≡ Err why → Pushed p f x g
    push_no_place why o x y =
        let t = is_full why o in
        let z : said_refusal why ≡ full = (rw o at says_so) ∙ rw t in
        let s : says (outcome x) ≡ full = rw y z in
        rw (left, t) (push_full p f shaped good Packets e (ltb-true _ _ t) x s)
