-- One law for each way out of a call. Assumes nothing.
use mathlib.Core.Path.{◌≡◌, refl, sym, ap, ◌∙◌}
use mathlib.Core.Bool.{true}
use mathlib.Core.List.{List, ◌∷◌, ◌++◌}
use Prim.Native.Nat.{ℕ, ◌+◌, ◌*◌, ◌≤◌, ◌<◌, min}
use native.Mathlib.Omega.{arith}
use borrow.Author.Tests.{lt-ltb, le-ltb, le-leb}
use lib.Dec.{leb}
use lib.ListN.{length, take, drop}
use lib.Seq.{sets-eq, take_at}
use Rattle.model.specs.Said.{Said, Outcome, gave, refused, out_short, says, after, checked, mapped, put_into}
use Rattle.model.specs.Frame as model
use Rattle.model.specs.Frame.{Cea608, field1, field2, Pair, pair, flat, frame_bytes}
use Rattle.model.specs.Rate.{valid_carry, Share, share_by}
use Rattle.model.specs.Mux.{Mux, share_at, write_share, write_at, Switch, with_switch, with_queues, flush_mux, push_pair, push_cea608, most_queued}
use Rattle.model.specs.Duration.{pairs_duration, bytes_duration, bytes_left, field1_duration, field2_duration, packet_duration}
use Rattle.model.proofs.Cases.{Gives}
use Rattle.model.proofs.Frames.{flat_length, frame_length}
use Rattle.model.proofs.Carrying.{Shared}
use Rattle.model.proofs.MuxStates.{frame_most}
use Rattle.std.specs.Prelude.{Result}
use Rattle.std.specs.Prelude as std
use Rattle.caption.specs.Answers.{outcome}
use Rattle.caption.specs.declared.Refusal.{Refusal}
use Rattle.caption.specs.declared.Cea608 as caption
use Rattle.caption.specs.declared.Cea608.TheVariants.{Field1, Field2}
use Rattle.caption.specs.declared.Framerate.{Framerate}
use Rattle.writer_frames.specs.Frame.{headed, emitted}
use Rattle.writer_frames.proofs.Stores.{emitted_whole}
use Rattle.writer_queues.specs.Queue.{queue_of, queue_over, push_outcome}
use Rattle.writer.specs.Writer.{means, valid_writer, stored, emptied, moved}
use Rattle.writer.specs.Calls.{switch_outcome, pair_outcome, flush_outcome, written}
use Rattle.writer.specs.Making.{joined, built_from, switched, with_fields}
use Rattle.writer_queues.proofs.Queues.{Sized, queue_length}
use Rattle.writer_queues.specs.declared.PairQueue.{PairQueue}
use Rattle.writer_shares.specs.Share.{carry_of, carry_in}
use Rattle.writer_sending.specs.Slots.{triples_left, lengths_in}
use Rattle.writer_sending.proofs.Triples.{left_length, left_triples}
use Rattle.writer_sending.proofs.Sends.{lengths_queued}
use Rattle.writer.proofs.Valid.{Shaped, Ok, Order, valid_order, valid_ok, valid_carry_of, valid_mux_means, share_within}
use Rattle.writer.proofs.Builds.{laid, Builds, built_is, means_frame}
use Rattle.writer.proofs.Stored.{Grows, grows_switch, grows_pair, stored_switch, stored_first, stored_second, means_stored, means_emptied}
use Rattle.writer.specs.declared.CCDataWriter.{CCDataWriter}
use Rattle.writer_building.specs.declared.Made.{Made}

-- what a call comes to: what it answers, what the state that it leaves means, and where that stands
pub record Answers (o : Outcome Mux) (f : Mux → CCDataWriter) (w : CCDataWriter) (r : Result (Unit {0}) Refusal) (y : CCDataWriter) : Type 0 where
  pub answer : says (outcome r) ≡ says o
  pub state : means y ≡ after (means w) o
  pub places : y ≡ after w (mapped f o)

-- it is told by what it answers and where the state stands, if the places of what the model gives mean it
pub answered : (o : Outcome Mux) {f : Mux → CCDataWriter} {w y : CCDataWriter} {r : Result (Unit {0}) Refusal} → says (outcome r) ≡ says o → y ≡ after w (mapped f o)
    → Gives (λ (x : Mux). means (f x) ≡ x) o → Answers o f w r y
answered (gave x) a e g = record { answer = a; state = ap means e ∙ g; places = e }
answered (refused why) a e g = record { answer = a; state = ap means e; places = e }

-- accepted
abbrev pub done : Result (Unit {0}) Refusal
done = std.Ok (tt {0})

-- what a mapped outcome says
pub says_mapped : {A B : Type 0} (f : A → B) (o : Outcome A) → says (mapped f o) ≡ says o
says_mapped f (gave x) = refl
says_mapped f (refused why) = refl

-- the calls that change the switches and the queues, on a state within its limits
module _ (w : CCDataWriter) (h : Shaped w) (valid : valid_writer w ≡ true) where
  -- its places are in order
  order : Order w
  order = valid_order w h valid

  -- the limits as facts
  ok : Ok w
  ok = valid_ok w h valid

  -- one that is accepted
  accepted : (x : Mux) (f : Mux → CCDataWriter) (y : CCDataWriter) → y ≡ f x → means (f x) ≡ x → Answers (checked (valid_writer w) (gave x)) f w done y
  accepted x f y q m = rw valid (answered (gave x) refl q m)

  -- a switch is set
  pub switch_set : (x : Switch) (y : CCDataWriter) → y ≡ switched x w → Answers (switch_outcome x w) (stored w) w done y
  switch_set x y z = accepted (with_switch x (means w)) (stored w) y (z ∙ sym (stored_switch w order x)) (means_stored w order ok _ (grows_switch (means w) (valid_mux_means w valid) x))

  -- flush
  pub flushes : (y : CCDataWriter) → y ≡ emptied w (flush_mux (means w)) → Answers (flush_outcome w) (emptied w) w done y
  flushes y z = accepted (flush_mux (means w)) (emptied w) y z (means_emptied w)

  -- a pair that goes to its field's queue
  pushes : (y : Cea608) {r : Result (Unit {0}) Refusal} {x : CCDataWriter} → says (outcome r) ≡ says (push_cea608 y (means w)) → x ≡ after w (mapped (stored w) (push_cea608 y (means w)))
      → Answers (checked (valid_writer w) (push_cea608 y (means w))) (stored w) w r x
  pushes y a z = rw valid (answered (push_cea608 y (means w)) a z (given_means (push_cea608 y (means w)) (grows_pair (means w) (valid_mux_means w valid) y)))
    where
      -- what it gives is meant
      given_means : (o : Outcome Mux) → Gives (Grows (means w)) o → Gives (λ (x : Mux). means (stored w x) ≡ x) o
      given_means (gave x) g = means_stored w order ok x g
      given_means (refused why) g = tt

  -- where the queues stand after it
  first_stands : (o : Outcome (List Pair))
      → with_fields (after w.field1 (mapped (queue_over w.field1) o)) w.field2 w ≡ after w (mapped (stored w) (mapped (λ q. with_queues q (queue_of w.field2) (means w)) o))
  first_stands (gave q) = sym (stored_first w order q)
  first_stands (refused why) = refl

  -- the same for field 2
  second_stands : (o : Outcome (List Pair))
      → with_fields w.field1 (after w.field2 (mapped (queue_over w.field2) o)) w ≡ after w (mapped (stored w) (mapped (λ q. with_queues (queue_of w.field1) q (means w)) o))
  second_stands (gave q) = sym (stored_second w order q)
  second_stands (refused why) = refl

  -- a pair pushed to its queue, which answers so
  module _ {x : caption.Cea608} (a b : ℕ) (r : Result (Unit {0}) Refusal) (t : Outcome PairQueue) (told : says (outcome r) ≡ says t) where
    -- field 1
    pub pushed_first : x ≡ Field1 a b → t ≡ mapped (queue_over w.field1) (push_outcome w.field1 a b) → Answers (pair_outcome x w) (stored w) w r (with_fields (after w.field1 t) w.field2 w)
    unfolding means push_cea608
    pushed_first is e =
        let k : leb w.field1.count 64 ≡ true = le-leb _ _ ok.first.few in
        let o : Outcome (List Pair) = push_pair (pair a b) (queue_of w.field1) in
        let u : t ≡ mapped (queue_over w.field1) o = rw k at e in
        rw is (pushes (field1 (pair a b)) (told ∙ ap says u ∙ says_mapped _ o ∙ sym (says_mapped _ o)) (rw u (first_stands o)))

    -- field 2
    pub pushed_second : x ≡ Field2 a b → t ≡ mapped (queue_over w.field2) (push_outcome w.field2 a b) → Answers (pair_outcome x w) (stored w) w r (with_fields w.field1 (after w.field2 t) w)
    unfolding means push_cea608
    pushed_second is e =
        let k : leb w.field2.count 64 ≡ true = le-leb _ _ ok.second.few in
        let o : Outcome (List Pair) = push_pair (pair a b) (queue_of w.field2) in
        let u : t ≡ mapped (queue_over w.field2) o = rw k at e in
        rw is (pushes (field2 (pair a b)) (told ∙ ap says u ∙ says_mapped _ o ∙ sym (says_mapped _ o)) (rw u (second_stands o)))

-- the durations of a state within its limits
module _ (w : CCDataWriter) (h : Shaped w) (valid : valid_writer w ≡ true) (m : ℕ) where
  -- what is asked is given
  asked : (n : ℕ) → m ≡ n → gave m ≡ checked (valid_writer w) (gave n)
  asked n q = rw (valid, q)

  -- field 1
  pub first_duration : m ≡ pairs_duration (min w.field1.count most_queued) → gave m ≡ checked (valid_writer w) (gave (field1_duration (means w)))
  unfolding means
  first_duration d =
      let k : Sized w.field1 = (valid_ok w h valid).first in
      let n : min w.field1.count most_queued ≡ w.field1.count = omega (arith, k.few) in
      asked _ (d ∙ rw (n, queue_length w.field1 k))

  -- field 2
  pub second_duration : m ≡ pairs_duration (min w.field2.count most_queued) → gave m ≡ checked (valid_writer w) (gave (field2_duration (means w)))
  unfolding means
  second_duration d =
      let k : Sized w.field2 = (valid_ok w h valid).second in
      let n : min w.field2.count most_queued ≡ w.field2.count = omega (arith, k.few) in
      asked _ (d ∙ rw (n, queue_length w.field2 k))

  -- packets
  pub packet_duration_is : m ≡ bytes_duration (lengths_in (take w.packet_count w.packets) + 3 * triples_left w.sending.len w.sent)
      → gave m ≡ checked (valid_writer w) (gave (packet_duration (means w)))
  unfolding means bytes_left
  packet_duration_is d =
      let ok = valid_ok w h valid in
      let k = ok.held in
      asked _
      (d ∙ rw (lengths_queued (take w.packet_count w.packets) ok.slots, left_triples w.sending w.sent k, ← left_length w.sending w.sent k))

-- a frame in its places
laid_length : (f : model.Frame) → (laid f).len ≡ length (frame_bytes f)
unfolding headed
laid_length f = omega (arith, flat_length f.triples, frame_length f)

-- the bytes of the frame
laid_bytes : (f : model.Frame) → length f.triples ≤ 31 → take (laid f).len (laid f).bytes ≡ frame_bytes f
unfolding headed frame_bytes
laid_bytes f h =
    let n : ℕ = 2 + length (flat f.triples) in
    rw (sets-eq (flat f.triples) (headed f.count).bytes 2 (omega (arith, flat_length f.triples)))
    (take_at ((0xC0 + f.count) ∷ 0xFF ∷ flat f.triples) (drop n (headed f.count).bytes) n (omega arith))

-- what a write that is accepted comes to
pub record Writes (rate : Framerate) (out : List ℕ) (w : CCDataWriter) (n : ℕ) (y : CCDataWriter) (end : List ℕ) : Type 0 where
  pub answer : gave n ≡ mapped (λ x. length x.frame) (written rate out w)
  pub state : means y ≡ after (means w) (mapped (λ x. x.next) (written rate out w))
  pub places : y ≡ after w (mapped (λ x. moved w x.next) (written rate out w))
  pub output : end ≡ after out (mapped (λ x. x.out) (written rate out w))

-- writing a frame
module _ (w : CCDataWriter) (rate : Framerate) (out : List ℕ) where
  module _ (within : valid_writer w ≡ true) where
    -- what the code asks of the rate is what the model does
    shares : {o : Outcome Share} → o ≡ checked (valid_carry (carry_of w.carry)) (share_by w.carrying rate.numer rate.denom (carry_of w.carry)) → share_at rate.numer rate.denom (means w) ≡ o
    unfolding means
    shares e = sym (rw (valid_carry_of w within) at e)

    -- there is no share of the rate
    pub wrote_unshared : {why : Said} → refused why ≡ checked (valid_carry (carry_of w.carry)) (share_by w.carrying rate.numer rate.denom (carry_of w.carry)) → written rate out w ≡ refused why
    unfolding written write_at
    wrote_unshared e = rw (within, shares e)

    module _ (shaped : Shaped w) (h : Share) (got : gave h ≡ checked (valid_carry (carry_of w.carry)) (share_by w.carrying rate.numer rate.denom (carry_of w.carry))) (f : Made)
        (found : f ≡ built_from h.budgets.pairs h.budgets.triples (carry_in h.carry) w) where
      -- the share is the model's
      given : share_at rate.numer rate.denom (means w) ≡ gave h
      given = shares got

      -- what an accepted write gets
      shared : Shared h
      shared = share_within w within rate given

      -- what its budgets are
      sane : (h.budgets.pairs ≤ h.budgets.triples) × (h.budgets.triples ≤ 31)
      sane = (omega (arith, shared.accepted.apart), shared.accepted.most)

      -- what was built is the model's
      pub made : Builds h w f
      made = built_is w h (valid_ok w shaped within) sane.0 sane.1 f found

      -- the bytes of the frame
      abbrev bytes : List ℕ
      bytes = frame_bytes (write_share h (means w)).frame

      -- their number
      length_is : f.frame.len ≡ length bytes
      length_is = rw made.frame (laid_length (write_share h (means w)).frame)

      -- no more triples than a frame may have
      triples_most : length (write_share h (means w)).frame.triples ≤ 31
      triples_most = omega (arith, frame_most h.budgets (means w) shared.accepted (valid_mux_means w within), frame_length (write_share h (means w)).frame)

      -- an output that is too short
      pub wrote_short : length out < f.frame.len → written rate out w ≡ refused (out_short f.frame.len)
      unfolding written write_at put_into
      wrote_short e = rw (within, given, lt-ltb (length out) (length bytes) (omega (arith, length_is)), length_is)

      -- the write is accepted
      wrote : f.frame.len ≤ length out → written rate out w ≡ gave (record { frame = bytes; out = bytes ++ drop (length bytes) out; next = (write_share h (means w)).next })
      unfolding written write_at put_into
      wrote e = rw (within, given, le-ltb (length out) (length bytes) (omega (arith, length_is)))

      -- the frame is in the output
      pub wrote_done : f.frame.len ≤ length out → Writes rate out w f.frame.len (joined w f) (emitted f.frame out)
      wrote_done e =
          let few : f.frame.len ≤ 95 = omega (arith, length_is, frame_length (write_share h (means w)).frame, triples_most) in
          let d : take f.frame.len f.frame.bytes ≡ bytes = rw made.frame (laid_bytes (write_share h (means w)).frame triples_most) in
          let o : emitted f.frame out ≡ bytes ++ drop (length bytes) out = sym (emitted_whole f.frame out few e) ∙ rw (d, length_is) in
          record {
            answer = rw (wrote e, length_is);
            state = rw (wrote e, made.writer) (means_frame w h (valid_ok w shaped within) (valid_mux_means w within) shared.valid);
            places = rw (wrote e) made.writer;
            output = rw (wrote e) o;
          }
