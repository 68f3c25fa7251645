-- Frames fed to a demultiplexer that is emptied after each: what each answers, what each draw tells and what is given are the model's, refusals
-- included. Assumes nothing.
use mathlib.Core.Path.{◌≡◌, refl, ap, ◌∙◌}
use mathlib.Core.Bool.{false≢true}
use mathlib.Core.List.{List, [], ◌∷◌, ◌++◌, map}
use Prim.Native.Nat.{ℕ, zero, suc}
use native.Mathlib.Omega.{arith}
use lib.ListN.{length, replicate}
use Rattle.std.specs.Prelude.{Ok, Err}
use Rattle.model.specs.Said.{Said, accepted, says}
use Rattle.model.specs.Packet.{Packet}
use Rattle.model.specs.Frame.{Cea608}
use Rattle.model.specs.Demux.{Demux, Item, take_frame}
use Rattle.model.specs.Run.{Read, read_frames, emptied, of_field1, of_field2, others}
use Rattle.model.proofs.DemuxStates.{demux_facts}
use Rattle.model_journey.specs.Bounds.{one, two}
use Rattle.model_journey.proofs.Turns.{others_append}
use Rattle.model_journey.proofs.Carried.{field_append}
use Rattle.caption.specs.Answers.{outcome}
use Rattle.caption.specs.declared.Refusal.{Refusal}
use Rattle.caption.proofs.Outcomes.{says_injective}
use Rattle.parser.specs.Means.{means}
use Rattle.parser.proofs.Laid.{Sound}
use Rattle.parser.proofs.Kept.{sound_demux, pushed_sound}
use Rattle.parser.specs.declared.CCDataParser.{CCDataParser}
use Rattle.theorems.specs.Items.{Items, and_then}
use Rattle.theorems.specs.Allowed.{Answer}
use Rattle.theorems.specs.Reading.{Told, Feeds, no_frame, feed, NoRefusal}
use Rattle.theorems.proofs.Contracts.{push_says}
use Rattle.theorems.proofs.Emptying.{items_in, told_for, none_refused, told_of, empties_from}

-- what an answer says
abbrev pub says_of : Answer → Said
says_of r = says (outcome r)

-- the items that the model reads
abbrev pub items_read : Read → Items
items_read o = items_in o.pairs o.packets

-- the items that the model draws: after each frame all that it holds, and that there is nothing left
abbrev pub told_by : List (List ℕ) → Demux → List Item
told_by [] d = []
told_by (f ∷ fs) d = let t = (take_frame f d).next in told_of t ++ told_by fs (emptied t)

-- what frames answer and give, and the demultiplexer that they leave
pub record Fed (fs : List (List ℕ)) (d : Demux) (answers : List Answer) (told : List Told) (is : Items) (p : CCDataParser) : Type 0 where
  pub said : map says_of answers ≡ (read_frames fs d).answers
  pub tells : told ≡ map told_for (told_by fs d)
  pub items : is ≡ items_read (read_frames fs d)
  pub sound : Sound p
  pub means : means p ≡ (read_frames fs d).last

-- what was read before, and what after
items_append : (xs ys : List Cea608) (ps qs : List Packet) → and_then (items_in xs ps) (items_in ys qs) ≡ items_in (xs ++ ys) (ps ++ qs)
items_append xs ys ps qs = rw (field_append one xs ys, field_append two xs ys, others_append (of_field1 xs) (of_field1 ys), others_append (of_field2 xs) (of_field2 ys))

-- two lists of items told
map_append : (a b : List Item) → map told_for a ++ map told_for b ≡ map told_for (a ++ b)
map_append [] b = refl
map_append (x ∷ a) b = ap (λ (l : List Told). told_for x ∷ l) (map_append a b)

-- by the demultiplexer of the model
feeds_at : {p p' : CCDataParser} {fs : List (List ℕ)} {answers : List Answer} {told : List Told} {is : Items} → Feeds p fs answers told is p'
    → (d : Demux) → Sound p → means p ≡ d → Fed fs d answers told is p'
unfolding read_frames of_field1 of_field2 others
feeds_at no_frame d s e = record { said = refl; tells = refl; items = refl; sound = s; means = e }
feeds_at (feed {fs} {told'} κs p q frame r a c k) d s e =
    let f : List ℕ = frame.now in
    let t : Demux = (take_frame f d).next in
    let b = push_says p q r κs frame a in
    let next : means q.now ≡ t = b.means s.valid ∙ ap (λ (x : Demux). (take_frame f x).next) e in
    let sound : Sound q.now = rw b.places (pushed_sound p.now f s) in
    let m = empties_from c sound t next (demux_facts t (rw next at (sound_demux q.now sound))).packets in
    let first : says_of r ≡ (take_frame f d).answer = rw (s.valid, e) at b.answer in
    let n = feeds_at k (emptied t) m.sound m.means in
    let later = n.said in
    record {
      said = (cc);
      tells = rw (m.tells, n.tells) (map_append (told_of t) (told_by fs (emptied t)));
      items = rw (m.items, n.items) (items_append t.pairs (read_frames fs (emptied t)).pairs t.waiting (read_frames fs (emptied t)).packets);
      sound = n.sound;
      means = n.means;
    }

-- from any state within the limits
pub feeds : {p p' : CCDataParser} {fs : List (List ℕ)} {answers : List Answer} {told : List Told} {is : Items} → Feeds p fs answers told is p'
    → Sound p → Fed fs (means p) answers told is p'
feeds {p} c s = feeds_at c (means p) s refl

-- answers that all say that they are accepted are
said_accepted : (answers : List Answer) (n : ℕ) → map says_of answers ≡ replicate n (accepted []) → answers ≡ replicate n (Ok tt)
said_accepted [] zero e = refl
said_accepted [] (suc n) e = absurd (omega (arith, ap length e))
said_accepted (a ∷ answers) zero e = absurd (omega (arith, ap length e))
said_accepted (a ∷ answers) (suc n) e =
    let h : says_of a ≡ accepted [] = (cc) in
    let t : map says_of answers ≡ replicate n (accepted []) = (cc) in
    rw (says_injective a (Ok tt) h, said_accepted answers n t)

-- where the model refuses no frame, none is refused, and never a draw
pub no_refusal : {fs : List (List ℕ)} {d : Demux} {answers : List Answer} {told : List Told} {is : Items} {p : CCDataParser} → Fed fs d answers told is p
    → (read_frames fs d).answers ≡ replicate (length fs) (accepted []) → NoRefusal fs answers told
no_refusal {fs} {d} {answers} k e = record { all_accepted = said_accepted answers (length fs) (k.said ∙ e); none_refused = rw k.tells (none_refused (told_by fs d)) }

-- a refused frame is a refusal
pub frame_judged : {fs : List (List ℕ)} {answers : List Answer} {told : List Told} (why : Refusal) → NoRefusal fs (Err why ∷ answers) told → ⊥
frame_judged {fs} {answers} why k = by fs k.all_accepted
  where
    by : (fs : List (List ℕ)) → Err why ∷ answers ≡ replicate (length fs) (Ok tt) → ⊥
    by [] e = omega (arith, ap length e)
    by (f ∷ fs) e = let z : ◌≡◌ {A = Answer} (Err why) (Ok tt) = (cc) in false≢true (cc)

-- and so is a refused draw
pub draw_judged : {fs : List (List ℕ)} {answers : List Answer} {told : List Told} (why : Refusal) → NoRefusal fs answers (Err why ∷ told) → ⊥
draw_judged why k = k.none_refused 0 why refl
