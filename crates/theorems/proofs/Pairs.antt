-- A pair that is pushed is a push of the model, or changes nothing. Assumes nothing.
use mathlib.Core.Path.{◌≡◌, refl, sym, ap, ◌∙◌}
use mathlib.Core.List.{[], ◌∷◌, ◌++◌}
use native.Mathlib.Omega.{arith}
use lib.Dec.{leb}
use lib.ListN.{length}
use contract.Lifetimes.{Lfts}
use Rattle.model.specs.Said.{gave, refused, after, full}
use Rattle.model.specs.Frame.{Cea608, field1, field2}
use Rattle.model.specs.Mux.{Mux, is_null, with_queues, push_pair, push_cea608, queued, most_queued}
use Rattle.model.specs.Run.{pushes608, call, others}
use Rattle.model.proofs.Cases.{by_test, gives_at}
use Rattle.model_journey.proofs.Calls.{quiet_608}
use Rattle.caption.specs.Pairs.{cea608_of}
use Rattle.caption.specs.declared.Refusal.TheVariants.{Full}
use Rattle.caption.specs.declared.Cea608 as caption
use Rattle.writer.specs.Writer.{means, stored}
use Rattle.writer.specs.Calls.{pair_outcome}
use Rattle.writer.proofs.Stored.{Grows, grows_pair, stored_self}
use Rattle.writer.proofs.Kept.{Sound, sound_order, sound_mux, stored_sound}
use Rattle.writer.specs.declared.CCDataWriter.{CCDataWriter}
use Rattle.theorems.specs.Items.{Items, no_items, one_pair}
use Rattle.theorems.specs.Allowed.{Writer, Answer, PushCea608}
use Rattle.theorems.specs.Writing.{if_accepted}
use Rattle.theorems.specs.Trip.{sending_of}
use Rattle.theorems.proofs.Contracts.{Answers, pair_says}
use Rattle.theorems.proofs.Passing.{passed_quiet}
use Rattle.theorems.proofs.Following.{no_test, no_stay, Moved, unmoved, moves}
use Rattle.theorems.proofs.Answered.{given, stays_denied}

-- a push of a pair: it is 0x80,0x80 and dropped, it finds no place, or it is one of the items
data Pushed (y : Cea608) (s : Mux) : Type 0 where
  dropped : push_cea608 y s ≡ gave s → one_pair y ≡ no_items → Pushed y s
  over : push_cea608 y s ≡ refused full → Pushed y s
  placed : (m : Mux) → push_cea608 y s ≡ gave m → others (call (pushes608 y) s).pairs1 ≡ (one_pair y).pairs1 → others (call (pushes608 y) s).pairs2 ≡ (one_pair y).pairs2
      → (one_pair y ≡ no_items → ⊥) → Pushed y s

-- one of these
pushed_by : (y : Cea608) (s : Mux) → Pushed y s
unfolding call push_cea608 push_pair queued others
pushed_by (field1 x) s =
    by_test (is_null x) (λ e. dropped (rw e) (rw e))
    (λ e. by_test (leb most_queued (length s.queue1)) (λ f. over (rw (e, f)))
    (λ f. placed (with_queues (s.queue1 ++ (x ∷ [])) s.queue2 s) (rw (e, f)) (rw (e, f, e)) refl (λ z. omega (arith, ap (λ (i : Items). length i.pairs1) (rw e at z)))))
pushed_by (field2 x) s =
    by_test (is_null x) (λ e. dropped (rw e) (rw e))
    (λ e. by_test (leb most_queued (length s.queue2)) (λ f. over (rw (e, f)))
    (λ f. placed (with_queues s.queue1 (s.queue2 ++ (x ∷ [])) s) (rw (e, f)) refl (rw (e, f, e)) (λ z. omega (arith, ap (λ (i : Items). length i.pairs2) (rw e at z)))))

-- a pair is no packet
no_packet : (y : Cea608) → (one_pair y).packets ≡ []
no_packet (field1 x) = refl
no_packet (field2 x) = refl

-- what a push of a pair does beside
pair_call : (y : Cea608) (s : Mux) → ((call (pushes608 y) s).last ≡ after s (push_cea608 y s)) × (((call (pushes608 y) s).frames ≡ []) × ((call (pushes608 y) s).packets ≡ []))
unfolding call
pair_call (field1 x) s = (refl, (refl, refl))
pair_call (field2 x) s = (refl, (refl, refl))

-- a pair
module _ (w : CCDataWriter) (s : Sound w) where
  -- by what the push does
  pair_by : (x : caption.Cea608) (r : Answer) (w' : CCDataWriter) → Answers (pair_outcome x w) (stored w) w r w'
      → Pushed (cea608_of x) (means w) → Moved w [] (if_accepted r (one_pair (cea608_of x))) w' no_test no_stay
  pair_by x r w' a (dropped g n) = let k = given a (means w) (rw (s.valid, g)) in rw (k.0, n) (unmoved refl refl (k.1.1 ∙ stored_self w (sound_order w s)))
  pair_by x r w' a (over g) = stays_denied a (one_pair (cea608_of x)) Full (rw (s.valid, g))
  pair_by x r w' a (placed m g p q n) =
      let k = given a m (rw (s.valid, g)) in
      let c = pair_call (cea608_of x) (means w) in
      let last : (call (pushes608 (cea608_of x)) (means w)).last ≡ means w' = c.0 ∙ rw g (sym k.1.0) in
      let packets = c.1.1 ∙ sym (no_packet (cea608_of x)) in
      rw k.0
      (moves (pushes608 (cea608_of x)) (record {
        last = last;
        frames = c.1.0;
        packets = packets;
        pairs1 = p;
        pairs2 = q;
        allowed = λ passes p'. tt;
        steady = λ mode speed q'. tt;
        rates = λ cs t. t;
        writes = λ cs. omega arith;
        quiet = λ e cs t. absurd (n e);
        passed = passed_quiet w w' (quiet_608 (cea608_of x) (means w)) last packets (ap sending_of k.1.1);
        sound = rw k.1.1 (stored_sound w s m (gives_at (Grows (means w)) (push_cea608 (cea608_of x) (means w)) g (grows_pair (means w) (sound_mux w s) (cea608_of x))));
      }))

-- by its contract
pub pair_moves : (κs : Lfts 1) (w w' : Writer) (x : caption.Cea608) (r : Answer) → Sound w.now → PushCea608 κs w x r w'
    → Moved w.now [] (if_accepted r (one_pair (cea608_of x))) w'.now no_test no_stay
pair_moves κs w w' x r s a = pair_by w.now s x r w'.now (pair_says w w' r κs x a) (pushed_by (cea608_of x) (means w.now))
