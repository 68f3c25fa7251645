-- There is a way to feed any frames to a demultiplexer: at each step some result is allowed, and drawing comes to an end. Assumes nothing.
use mathlib.Core.Path.{◌≡◌, refl, sym, ap, ◌∙◌}
use mathlib.Core.Bool.{Bool}
use mathlib.Core.List.{List, [], ◌∷◌}
use mathlib.Core.Option.{Option, none, some}
use Prim.Native.Nat.{ℕ, ◌+◌, ◌*◌}
use lib.Dec.{eqb}
use lib.ListN.{length, get_or}
use contract.Lifetimes.{Lfts}
use Rattle.std.specs.Prelude.{Result, Ok, Err}
use Rattle.model.specs.Said.{accepted, says}
use Rattle.model.specs.Packet.{Packet}
use Rattle.model.specs.Frame.{pair, Cea608, field1, field2, Seen, count_in}
use Rattle.model.specs.Demux as model
use Rattle.model.specs.Demux.{Demux, Taken, a_pair, a_packet, no_item, item_values, take_gathered, take_triples, take_frame, unread, packets_of}
use Rattle.model.proofs.Cases.{by_cond}
use Rattle.caption.specs.Answers.{outcome}
use Rattle.caption.specs.declared.Refusal.{Refusal}
use Rattle.caption.specs.declared.Refusal.TheVariants.{Cea608AfterCea708, Full, FrameLengthWrong}
use Rattle.parser.specs.Means.{means}
use Rattle.parser.specs.Items.{said_item, pair_of, item_of, drawn_of}
use Rattle.parser.specs.After.{pushed, drawn}
use Rattle.parser.proofs.Laid.{Sound}
use Rattle.parser.proofs.Kept.{pushed_sound, means_pushed, means_drawn}
use Rattle.parser.specs.declared.CCDataParser.{CCDataParser}
use Rattle.parser.specs.declared.Drawn.{Drawn}
use Rattle.theorems.specs.Items.{Items}
use Rattle.theorems.specs.Allowed.{Lent, Parser, Answer, Draw, Push}
use Rattle.theorems.specs.Reading.{Turned, Told, told_in, Empties, nothing_left, draw, Feeds, no_frame, feed, Feedable}
use Rattle.theorems.proofs.Trip.{given_fed}
use Rattle.theorems.proofs.Emptying.{drew, packet_some, pair_some}

-- bytes that are lent
abbrev bytes_at : List ℕ → Lent
bytes_at bytes = record { ref_ptr = (0, 0); now = bytes }

-- a state that is lent
abbrev state_at : CCDataParser → Parser
state_at p = record { ref_ptr = (0, 0); ghost_name = 0; now = p }

-- an answer that says what a frame is answered
abbrev SaysOf : Taken → Type 0
SaysOf t = (r : Answer) × (says (outcome r) ≡ t.answer)

-- where bytes are gathered
gathered_answer : (ps : List Cea608) (o : model.Gathered) (d : Demux) → SaysOf (take_gathered ps o d)
unfolding take_gathered
gathered_answer ps o d = by_cond SaysOf _ (λ e. (Err Full, refl)) (λ e. (Ok tt, refl))

-- where triples are read
triples_answer : (ts : List Seen) (late : Option ℕ) (d : Demux) → SaysOf (take_triples ts late d)
unfolding take_triples
triples_answer ts (some at) d = (Err (Cea608AfterCea708 at), refl)
triples_answer ts none d = gathered_answer _ _ d

-- there is one for any frame
frame_answer : (f : List ℕ) (d : Demux) → SaysOf (take_frame f d)
unfolding take_frame
frame_answer f d =
    by_cond SaysOf (unread f) (λ e. (Ok tt, refl))
    (λ e. by_cond SaysOf (eqb (length f) (3 * count_in (get_or f 0 0) + 2)) (λ k. triples_answer _ _ d)
    (λ k. (Err (FrameLengthWrong (3 * count_in (get_or f 0 0) + 2) (length f)), refl)))

-- a push that the contract allows
push_allowed : (κs : Lfts 2) (p : CCDataParser) (f : List ℕ) → Sound p → (r : Answer) × Push κs (state_at p) (bytes_at f) r (state_at (pushed p f))
push_allowed κs p f s =
    let a = frame_answer f (means p) in
    (a.0, (rw s.valid a.1, (λ _. means_pushed p f s, refl)))

-- a draw that the contract allows: what the model draws
abbrev drawing : CCDataParser → Result Drawn Refusal
drawing p = Ok (drawn_of (model.draw (means p)).item)

-- an item says what the model's says
item_says : (i : model.Item) → said_item (item_of i) ≡ item_values i
item_says (a_pair (field1 (pair a b))) = refl
item_says (a_pair (field2 (pair a b))) = refl
item_says (a_packet p) = refl
item_says no_item = refl

-- the contract allows it
draw_allowed : (κs : Lfts 1) (p : CCDataParser) → Sound p → Draw κs (state_at p) (drawing p) (state_at (drawn p))
draw_allowed κs p s = (rw s.valid (ap accepted (item_says (model.draw (means p)).item)), (rw s.valid, (λ _. means_drawn p s, refl)))

-- draws until there is nothing left
record Emptiable (p : CCDataParser) : Type 0 where
  told : List Told
  items : Items
  last : CCDataParser
  draws : Empties p told items last
  sound : Sound last

module _ (κs : Lfts 1) (on : Bool) (pending : List ℕ) where
  -- by what there is
  empties_to : (pairs : List Cea608) (waiting : List Packet) (p : CCDataParser) → Sound p
      → means p ≡ record { on608 = on; pairs = pairs; pending = pending; waiting = waiting } → Emptiable p
  unfolding model.draw
  empties_to [] [] p s e =
      let a = draw_allowed κs p s in
      let k = drew κs (state_at p) (state_at (drawn p)) (drawing p) _ s e a in
      record { told = _; items = _; last = _; draws = nothing_left κs (state_at p) (state_at (drawn p)) (drawing p) a (ap told_in k.answer); sound = k.sound }
  empties_to [] (q ∷ waiting) p s e =
      let a = draw_allowed κs p s in
      let k = drew κs (state_at p) (state_at (drawn p)) (drawing p) _ s e a in
      let m = empties_to [] waiting (drawn p) k.sound k.means in
      record {
        told = _;
        items = _;
        last = m.last;
        draws = draw κs (state_at p) (state_at (drawn p)) (drawing p) a (λ z. packet_some (sym (ap told_in k.answer) ∙ z)) m.draws;
        sound = m.sound;
      }
  empties_to (x ∷ pairs) waiting p s e =
      let a = draw_allowed κs p s in
      let k = drew κs (state_at p) (state_at (drawn p)) (drawing p) _ s e a in
      let m = empties_to pairs waiting (drawn p) k.sound k.means in
      record {
        told = _;
        items = _;
        last = m.last;
        draws = draw κs (state_at p) (state_at (drawn p)) (drawing p) a (λ z. pair_some (pair_of x) (sym (ap told_in k.answer) ∙ z)) m.draws;
        sound = m.sound;
      }

-- any frames can be fed to any state within the limits
feeds_from : (κs : Lfts 2) (κs' : Lfts 1) (frames : List (List ℕ)) (p : CCDataParser) → Sound p → Feedable p frames
feeds_from κs κs' [] p s = record { answers = []; told = []; given = _; last = p; feeds = no_frame }
feeds_from κs κs' (f ∷ frames) p s =
    let q : CCDataParser = pushed p f in
    let a = push_allowed κs p f s in
    let m = empties_to κs' (means q).on608 (means q).pending (means q).pairs (means q).waiting q (pushed_sound p f s) refl in
    let k = feeds_from κs κs' frames m.last m.sound in
    record {
      answers = _;
      told = _;
      given = _;
      last = k.last;
      feeds = feed κs (state_at p) (state_at q) (bytes_at f) a.0 a.1 m.draws k.feeds;
    }

-- and so to a fresh one with 608 on, and then any others
pub feedable : {p p' : CCDataParser} {on : Answer} {frames : List (List ℕ)} {answers : List Answer} {told : List Told} {given : Items} (κs : Lfts 2) (κs' : Lfts 1)
    → Turned on p → Feeds p frames answers told given p' → (more : List (List ℕ)) → Feedable p' more
feedable {p'} κs κs' turned read more = feeds_from κs κs' more p' (given_fed turned read).1.sound
