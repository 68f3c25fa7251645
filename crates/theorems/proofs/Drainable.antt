-- Every sequence of calls goes on to one that ends drained, so that the round trip speaks of each of them. Assumes nothing.
use mathlib.Core.Path.{◌≡◌, refl, ap, ◌∙◌}
use mathlib.Core.Bool.{Bool, true, false, or-true}
use mathlib.Core.List.{List, [], ◌++◌, append_assoc, append-nil}
use Prim.Native.Nat.{ℕ, zero, suc, ◌+◌, ◌*◌, ◌≤◌}
use native.Mathlib.Omega.{arith}
use lib.ListN.{length, drop, replicate}
use contract.Lifetimes.{Lfts}
use denote.Ref.{MutBor}
use Rattle.std.specs.Prelude.{Result, Ok}
use Rattle.model.specs.Said.{is_given}
use Rattle.model.specs.Frame.{most_frame, frame_bytes}
use Rattle.model.specs.Rate.{rounded, budgets, carried_share, share_by}
use Rattle.model.specs.Mux.{Mux, with_true_count, true_counting, framed, write_frame, share_at, write_share}
use Rattle.model.proofs.Cases.{by_test}
use Rattle.model_journey.specs.Bounds.{pace}
use Rattle.caption.specs.Pairs.{cea608_of}
use Rattle.caption.specs.declared.Framerate.{Framerate}
use Rattle.caption.specs.declared.Refusal.{Refusal}
use Rattle.packet.specs.Packet.{packet_of}
use Rattle.writer.specs.Writer.{means, stored, moved}
use Rattle.writer.proofs.Valid.{share_within}
use Rattle.writer.proofs.Laws.{write_given}
use Rattle.writer.proofs.Builds.{means_frame}
use Rattle.writer.proofs.Stored.{Grows, grows_switch, means_stored}
use Rattle.writer.proofs.Kept.{Sound, sound_ok, sound_order, sound_mux, stored_sound, moved_sound}
use Rattle.writer.specs.declared.CCDataWriter.{CCDataWriter}
use Rattle.theorems.specs.Items.{Items, no_items, and_then, if_nonempty, one_pair}
use Rattle.theorems.specs.Allowed.{Output, Writer, NewWriter, SetTrueCount, Write}
use Rattle.theorems.specs.Writing.{if_accepted, Calls, no_call, push_packet, push_cea608, set_cea608_padding, set_padding, set_carrying, set_true_count, write, frame_in, Exact, Stays, Drained, Drains}
use Rattle.theorems.specs.Writing as writing
use Rattle.theorems.specs.Bounds.{unsent_of}
use Rattle.theorems.proofs.Following.{items_same}
use Rattle.theorems.proofs.Sequences.{from_fresh}
use Rattle.theorems.proofs.Bounds.{given_by, writes_drain}

-- 25 frames a second
abbrev rate : Framerate
rate = record { numer = 25; denom = 1 }

-- what is lent to be changed
abbrev lent : {A : Type 0} → A → MutBor A
lent x = record { ref_ptr = (0, 0); ghost_name = 0; now = x }

-- room for the longest frame
abbrev out : Output
out = lent (replicate most_frame 0)

-- the rate is accepted in either mode
rate_given : (s : Mux) → is_given (share_at rate.numer rate.denom s) ≡ true
unfolding share_by carried_share budgets rounded
rate_given s = by_test s.carrying (λ e. rw e refl) (λ e. rw e refl)

-- a write that the contract allows and that is accepted
record Writable (κs : Lfts 2) (w : CCDataWriter) : Type 0 where
  left : Writer
  end : Output
  result : Result ℕ Refusal
  allowed : Write κs (lent w) rate out result left end
  number : ℕ
  counts : result ≡ Ok number
  sound : Sound left.now
  counting : left.now.true_count ≡ w.true_count
  same_608 : left.now.output_cea608_padding ≡ w.output_cea608_padding
  same_output : left.now.output_padding ≡ w.output_padding

-- there is one
writable : (κs : Lfts 2) (w : CCDataWriter) → Sound w → Writable κs w
unfolding means write_frame framed
writable κs w s =
    given_by (share_at rate.numer rate.denom (means w)) (rate_given (means w))
    (λ h e. let g = write_given w s.valid rate out.now e (omega arith) in
    let v = (share_within w s.valid rate e).valid in
    let frame : List ℕ = frame_bytes (write_share h (means w)).frame in
    record {
      left = lent (moved w (write_share h (means w)).next);
      end = lent (frame ++ drop (length frame) out.now);
      number = length frame;
      result = Ok (length frame);
      allowed = (rw g, (rw g (means_frame w h (sound_ok w s) (sound_mux w s) v), (rw g, (rw g, (tt, tt)))));
      counts = refl;
      sound = moved_sound w s h v;
      counting = refl;
      same_608 = refl;
      same_output = refl;
    })

-- n writes at the rate, each accepted and with the true count on, the mode and the paddings left as they are
record Written (n : ℕ) (w : CCDataWriter) : Type 0 where
  frames : List (List ℕ)
  last : CCDataWriter
  calls : Calls w frames no_items last
  exact : Exact calls
  steady : (mode : Bool) → Stays mode rate calls
  number : length frames ≡ n
  same_608 : last.output_cea608_padding ≡ w.output_cea608_padding
  same_output : last.output_padding ≡ w.output_padding

-- there are such
written_all : (κs : Lfts 2) (n : ℕ) (w : CCDataWriter) → Sound w → w.true_count ≡ true → Written n w
unfolding means
written_all κs zero w s on = record { frames = []; last = w; calls = no_call; exact = tt; steady = λ mode. tt; number = refl; same_608 = refl; same_output = refl }
written_all κs (suc n) w s on =
    let k = writable κs w s in
    let m = written_all κs n k.left.now k.sound (k.counting ∙ on) in
    record {
      frames = frame_in k.result k.end.now ++ m.frames;
      last = m.last;
      calls = write κs (lent w) k.left rate out k.end k.result k.allowed m.calls;
      exact = (λ n e. rw (on, or-true w.output_padding, or-true w.output_cea608_padding), m.exact);
      steady = λ mode. (λ n e on'. refl, m.steady mode);
      number = rw k.counts (ap suc m.number);
      same_608 = m.same_608 ∙ k.same_608;
      same_output = m.same_output ∙ k.same_output;
    }

-- calls that go on from w and end drained
record Draining (w : CCDataWriter) : Type 0 where
  frames : List (List ℕ)
  last : CCDataWriter
  calls : Calls w frames no_items last
  exact : Exact calls
  drained : Drained last
  same_608 : last.output_cea608_padding ≡ w.output_cea608_padding
  same_output : last.output_padding ≡ w.output_padding

-- the true count turned on, and as many writes as drain what is there
draining : {w₀ w : CCDataWriter} {fs₀ : List (List ℕ)} {is₀ : Items} (κs : Lfts 1) (κs' : Lfts 2) → NewWriter w₀ → Calls w₀ fs₀ is₀ w → Draining w
unfolding means
draining {w} κs κs' new before =
    let s = (from_fresh new before).sound in
    let x : Mux = with_true_count true (means w) in
    let g : Grows (means w) x = grows_switch (means w) (sound_mux w s) (true_counting true) in
    let kept = means_stored w (sound_order w s) (sound_ok w s) x g in
    let on : Writer = lent (stored w x) in
    let allowed : SetTrueCount κs (lent w) true (Ok tt) on = (rw s.valid, (rw s.valid kept, (rw s.valid, tt))) in
    let n : ℕ = 4 * w.field1.count + 4 * w.field2.count + unsent_of w in
    let m = written_all κs' n on.now (stored_sound w s x g) refl in
    let c : Calls w m.frames no_items m.last = set_true_count κs (lent w) on true (Ok tt) allowed m.calls in
    let k = m.number in
    let enough : (mode : Bool) (x : ℕ) → 4 * x ≤ length m.frames → pace mode * x ≤ length m.frames = elim [ true ↦ λ x h. h | false ↦ λ x h. omega arith ] in
    record {
      frames = m.frames;
      last = m.last;
      calls = c;
      exact = m.exact;
      drained = writes_drain (writing.called (writing.fresh new) before) w.carrying rate c refl (m.steady w.carrying) (enough w.carrying w.field1.count (omega arith)) (enough w.carrying w.field2.count (omega arith))
          (omega arith);
      same_608 = m.same_608;
      same_output = m.same_output;
    }

-- items in three parts
then_assoc : (a b c : Items) → and_then (and_then a b) c ≡ and_then a (and_then b c)
then_assoc a b c = rw (append_assoc a.packets b.packets c.packets, append_assoc a.pairs1 b.pairs1 c.pairs1, append_assoc a.pairs2 b.pairs2 c.pairs2)

-- calls with a padding or the true count on at each write, if `both` holds
record Joined (w : CCDataWriter) (fs : List (List ℕ)) (is : Items) (w' : CCDataWriter) (both : Type 0) : Type 0 where
  calls : Calls w fs is w'
  exact : both → Exact calls

-- items and frames that are said in another way
again : {w w₂ : CCDataWriter} {fs gs : List (List ℕ)} {is js : Items} {both : Type 0} → gs ≡ fs → js ≡ is → Joined w fs is w₂ both → Joined w gs js w₂ both
again e f d = rw (e, f) d

-- calls, and then others
join : {w w₁ w₂ : CCDataWriter} {fs fs' : List (List ℕ)} {is is' : Items} (c : Calls w fs is w₁) (k : Calls w₁ fs' is' w₂) → Joined w (fs ++ fs') (and_then is is') w₂ (Exact c × Exact k)
join no_call k = record { calls = k; exact = λ p. p.1 }
join {is'} (push_packet {is} κs w w' d r t a c) k =
    let m = join c k in
    again refl (then_assoc (if_accepted r (if_nonempty (packet_of d.now))) is is') (record { calls = push_packet κs w w' d r t a m.calls; exact = m.exact })
join {is'} (push_cea608 {is} κs w w' x r a c) k =
    let m = join c k in
    again refl (then_assoc (if_accepted r (one_pair (cea608_of x))) is is') (record { calls = push_cea608 κs w w' x r a m.calls; exact = m.exact })
join (set_cea608_padding κs w w' on r a c) k = let m = join c k in record { calls = set_cea608_padding κs w w' on r a m.calls; exact = m.exact }
join (set_padding κs w w' on r a c) k = let m = join c k in record { calls = set_padding κs w w' on r a m.calls; exact = m.exact }
join (set_carrying κs w w' on r a c) k = let m = join c k in record { calls = set_carrying κs w w' on r a m.calls; exact = m.exact }
join (set_true_count κs w w' on r a c) k = let m = join c k in record { calls = set_true_count κs w w' on r a m.calls; exact = m.exact }
join {fs'} (write {fs} κs w w' rate out end r a c) k =
    let m = join c k in
    again (append_assoc (frame_in r end.now) fs fs') refl (record { calls = write κs w w' rate out end r a m.calls; exact = λ p. (p.0.0, m.exact (p.0.1, p.1)) })

-- no items behind others
then_none : (a : Items) → and_then a no_items ≡ a
then_none a = items_same (and_then a no_items) a (append-nil a.packets) (append-nil a.pairs1) (append-nil a.pairs2)

-- any calls go on to drained ones
pub drainable : {w₀ w : CCDataWriter} {fs : List (List ℕ)} {is : Items} (κs : Lfts 1) (κs' : Lfts 2) → NewWriter w₀ → (c : Calls w₀ fs is w) → Exact c → Drains w₀ w fs is
drainable {w₀} {fs} {is} κs κs' new c exact =
    let d = draining κs κs' new c in
    let j = rw (then_none is) at (join c d.calls) in
    record {
      more = d.frames;
      last = d.last;
      rest = d.calls;
      rest_exact = d.exact;
      whole = j.calls;
      exact = j.exact (exact, d.exact);
      drained = d.drained;
      same_608 = d.same_608;
      same_output = d.same_output;
    }
