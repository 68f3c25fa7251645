-- A pair that has left its queue has been given. Assumes nothing.
use mathlib.Core.Path.{◌≡◌, refl, sym, ap, subst, ◌∙◌}
use mathlib.Core.Bool.{Bool}
use mathlib.Core.List.{List, [], ◌∷◌, ◌++◌}
use Prim.Native.Nat.{ℕ, ◌≤◌}
use native.Mathlib.Omega.{arith}
use lib.ListN.{length, take, drop, replicate, length-append, take-append-drop}
use Rattle.model.specs.Said as said
use Rattle.model.specs.Frame.{Pair}
use Rattle.model.specs.Demux.{Demux, fresh_demux, turn608_on}
use Rattle.model.specs.Mux.{Mux, fresh_mux}
use Rattle.model.specs.Run.{Read, Run, run, exact_count, read_frames, others}
use Rattle.model_journey.specs.Bounds.{Field, one, two, accepted_of, Left}
use Rattle.model_journey.specs.Bounds as journey
use Rattle.model_journey.proofs.Turns.{of_field}
use Rattle.model_journey.proofs.Round.{ready_fresh}
use Rattle.model_journey.proofs.Taking.{holding}
use Rattle.model_journey.proofs.Carried.{Carried, carried}
use Rattle.model_journey.proofs.Leaves.{leaves, first_gone}
use Rattle.caption.specs.declared.Framerate.{Framerate}
use Rattle.writer.specs.Writer.{means}
use Rattle.writer.specs.declared.CCDataWriter.{CCDataWriter}
use Rattle.parser.specs.Means as parser
use Rattle.parser.specs.declared.CCDataParser.{CCDataParser}
use Rattle.theorems.specs.Items.{Items}
use Rattle.theorems.specs.Allowed.{Answer, NewWriter}
use Rattle.theorems.specs.Writing.{Calls, Exact, Stays}
use Rattle.theorems.specs.Reading.{Turned, Told, Feeds, NoRefusal}
use Rattle.theorems.specs.Bounds.{pairs_at, BeginsWith, GivenInTime}
use Rattle.theorems.proofs.Sequences.{follows, from_fresh}
use Rattle.theorems.proofs.Queued.{others_twice, others_left, queue_others}
use Rattle.theorems.proofs.Feeding.{items_read, feeds, no_refusal}
use Rattle.theorems.proofs.Trip.{given_fed}
use Rattle.theorems.proofs.Bounds.{queue_means, carrying_means}

-- lists before the same list
same_front : {A : Type 0} (xs ys z : List A) → xs ++ z ≡ ys ++ z → xs ≡ ys
same_front [] [] z e = refl
same_front [] (y ∷ ys) z e = let n = ap length e in absurd (omega (arith, n, length-append ys z))
same_front (x ∷ xs) [] z e = let n = ap length e in absurd (omega (arith, n, length-append xs z))
same_front (x ∷ xs) (y ∷ ys) z e =
    let h : x ≡ y = (cc) in
    let t : xs ++ z ≡ ys ++ z = (cc) in
    rw (h, same_front xs ys z t)

-- what is read of a field
read_pairs : (f : Field) (o : Read) → pairs_at f (items_read o) ≡ others (of_field f o.pairs)
read_pairs one o = refl
read_pairs two o = refl

-- Calls from s, whose frames are read by a demultiplexer that holds g: what is read of a field begins with the pairs at the first i places of
-- its queue, once these have left it.
read_begins : {s : Mux} {g : List ℕ} {r : Run} {o : Read} (f : Field) (i : ℕ) → i ≤ length (journey.queue_of f s) → others (journey.queue_of f s) ≡ journey.queue_of f s
    → Carried s g r o → Left i (journey.queue_of f s) (others (accepted_of f r)) (journey.queue_of f r.last) → BeginsWith (take i (journey.queue_of f s)) (others (of_field f o.pairs))
read_begins {s} {r} {o} f i there such c w =
    let q = journey.queue_of f s in
    let q' = journey.queue_of f r.last in
    let still = others_left such (others_twice (accepted_of f r)) w in
    let same : q ++ others (accepted_of f r) ≡ others (of_field f o.pairs) ++ q' = rw (such, still) at (c.pairs f).same in
    let read : others (of_field f o.pairs) ≡ w.gone = same_front _ _ q' (sym same ∙ w.cut) in
    let parts : w.gone ≡ take i q ++ drop i w.gone = sym (take-append-drop i w.gone) ∙ ap (λ (l : List Pair). l ++ drop i w.gone) (first_gone w there) in
    record { rest = drop i w.gone; whole = read ∙ parts }

-- the frames by another name
framed : {s : Mux} {g : List ℕ} (r : Run) (d : Demux) (fs : List (List ℕ)) → r.frames ≡ fs → Carried s g r (read_frames r.frames d) → Carried s g r (read_frames fs d)
framed {s} {g} r d fs e c = subst (λ (x : List (List ℕ)). Carried s g r (read_frames x d)) e c

-- the pair at place i has left after 2i accepted writes, or 4i with the carrying mode on [J3], and a demultiplexer that was fed every frame before
-- has given it by then: of what it gives from there on each field's pairs begin with those at the first i places.
pub pair_given : (mode : Bool) (speed : Framerate) {w₀ w w' : CCDataWriter} {p₀ p p' : CCDataParser} {on : Answer} {fs₀ fs : List (List ℕ)} {is₀ is given₀ given : Items} {answers₀ answers : List Answer} {told₀ told : List Told}
    → NewWriter w₀ → (before : Calls w₀ fs₀ is₀ w) → Exact before → (behind : Calls w fs is w') → Exact behind → w.carrying ≡ mode → Stays mode speed behind
    → Turned on p₀ → Feeds p₀ fs₀ answers₀ told₀ given₀ p → Feeds p fs answers told given p'
    → NoRefusal fs answers told × ((f : Field) → GivenInTime mode f w fs given)
pair_given mode speed {w} {p} {fs₀} {fs} {given} new before exact behind exact' set stay turned read₀ read =
    let k = from_fresh new before in
    let o : Read = read_frames fs₀ (turn608_on fresh_demux) in
    let t = framed (run k.calls fresh_mux) (turn608_on fresh_demux) fs₀ k.frames (carried k.calls fresh_mux [] (k.allowed exact_count exact) ready_fresh) in
    let d = (given_fed turned read₀).1 in
    let m = follows behind k.sound in
    let g : List ℕ = o.last.pending in
    let c = framed (run m.calls (means w)) (holding g) fs m.frames (carried m.calls (means w) g (m.allowed exact_count exact') (rw k.last at t.ready)) in
    let at : parser.means p ≡ holding g = d.means ∙ t.held in
    let e = feeds read d.sound in
    let fine = ap (λ (x : Demux). (read_frames fs x).answers) at ∙ c.answers ∙ ap (λ (x : List (List ℕ)). replicate (length x) (said.accepted [])) m.frames in
    let z : given ≡ items_read (read_frames fs (holding g)) = e.items ∙ ap (λ (x : Demux). items_read (read_frames fs x)) at in (
      no_refusal e fine,
      λ f i there writes.
          let h : i ≤ length (journey.queue_of f (means w)) = rw (queue_means f w) there in
          let b = read_begins f i h (queue_others new before f) c (leaves mode _ f m.calls (means w) (carrying_means w ∙ set) (m.steady mode speed stay) i h (rw m.writes writes)) in
          rw (z, read_pairs f (read_frames fs (holding g)), ← queue_means f w) b,
    )
