-- With a padding or the true count on a frame has as many triples as its first byte says, and no demultiplexer refuses it for its length or its order.
-- Assumes nothing.
use mathlib.Core.Path.{◌≡◌, sym, ap, ◌∙◌}
use mathlib.Core.Bool.{true, or-true, false≢true}
use mathlib.Core.List.{List, []}
use Prim.Native.Nat.{ℕ, ◌≤◌}
use native.Mathlib.Omega.{arith}
use lib.ListN.{length, get_or, take}
use contract.Lifetimes.{Lfts}
use Rattle.std.specs.Prelude.{Result, Ok, Err}
use Rattle.model.specs.Said.{Said, accepted, full, says}
use Rattle.model.specs.Frame as model
use Rattle.model.specs.Frame.{count_in, frame_bytes}
use Rattle.model.specs.Mux.{count_due, framed, write_frame, write_share}
use Rattle.model.specs.Run.{exact_count}
use Rattle.model.proofs.Frames.{frame_length, frame_triples}
use Rattle.model.proofs.MuxStates.{count_most}
use Rattle.model_journey.specs.Trip.{OnlyFull}
use Rattle.model_journey.proofs.Count as journey
use Rattle.model_journey.proofs.Count.{fits}
use Rattle.model_journey.proofs.Round.{round_any}
use Rattle.caption.specs.Answers.{outcome}
use Rattle.caption.specs.declared.Framerate.{Framerate}
use Rattle.caption.specs.declared.Refusal.{Refusal}
use Rattle.caption.specs.declared.Refusal.TheVariants.{Full}
use Rattle.caption.proofs.Outcomes.{says_injective}
use Rattle.writer.specs.Writer as writer
use Rattle.parser.specs.Means as parser
use Rattle.parser.specs.Valid.{valid}
use Rattle.parser.proofs.Valids.{waiting_count, valid_fine}
use Rattle.parser.specs.declared.CCDataParser.{CCDataParser}
use Rattle.theorems.specs.Allowed.{Lent, Output, Writer, Parser, Answer, Write, Push}
use Rattle.theorems.specs.Writing.{Reached}
use Rattle.theorems.specs.Count.{TrueCount, Takes}
use Rattle.theorems.proofs.Contracts.{push_says}
use Rattle.theorems.proofs.Frames.{Wrote, wrote}
use Rattle.theorems.proofs.Reached.{holds}

-- a frame of the model whose count is true
true_frame : (f : model.Frame) → length f.triples ≡ f.count → f.count ≤ 31 → TrueCount (frame_bytes f)
unfolding frame_bytes
true_frame f e h = record { counts = rw (frame_triples f) (omega arith); all = rw (frame_triples f) (omega (arith, frame_length f)) }

-- an answer that says no more than 10 is no other refusal
only_by : (p : CCDataParser) (frame : List ℕ) (a : Answer) {n : ℕ} {x : Said} → valid p ≡ true → count_in (get_or frame 0 0) ≡ n → n ≤ 31 → says (outcome a) ≡ x → OnlyFull (parser.means p) n x
    → Takes p frame a
only_by p frame a within c most e o =
    let k = waiting_count p (valid_fine p within) in
    record {
      only_full = λ why z. said_full why (sym (ap (λ (x : Answer). says (outcome x)) z) ∙ e ∙ o.only (λ y. refused_is why (sym (ap (λ (x : Answer). says (outcome x)) z) ∙ e ∙ y)));
      taken = λ z. says_injective a (Ok tt) (e ∙ o.taken (omega arith));
      none_waits = λ z. says_injective a (Ok tt) (e ∙ o.taken (omega arith));
    }
  where
    -- a refusal does not say that it is accepted
    refused_is : (why : Refusal) → says (outcome {A = Unit {0}} (Err why)) ≡ accepted [] → ⊥
    refused_is why y = let k = says_injective (Err why) (Ok tt) y in absurd (false≢true (cc))

    -- one that says 10 is 10
    said_full : (why : Refusal) → says (outcome {A = Unit {0}} (Err why)) ≡ full → why ≡ Full
    said_full why y = let k = says_injective (Err why) (Err Full) y in (cc)

-- a write that is accepted, of a state that calls have reached, flushes among them
module _ (w w' : Writer) (d : Reached w.now) (κs : Lfts 2) (rate : Framerate) (out end : Output) (r : Result ℕ Refusal) (a : Write κs w rate out r w' end) (n : ℕ) (e : r ≡ Ok n) where
  -- what it gives
  gives : Wrote w.now rate (take n end.now) w'.now
  gives = wrote κs w w' rate out end r (holds d).sound a n e

  -- with a padding or the true count on the count is the number of triples
  pub count_exact : exact_count (writer.means w.now) ≡ true → TrueCount (take n end.now)
  unfolding write_frame framed
  count_exact on =
      let f = gives in
      let s = writer.means w.now in
      let b = f.share.budgets in
      let fit = fits f.accepted in
      rw f.bytes (true_frame (write_share f.share s).frame (journey.counted b s fit on) (omega (arith, count_most b s, fit.triples)))

  -- so it is with the true count on, whatever the paddings are
  pub count_true : w.now.true_count ≡ true → TrueCount (take n end.now)
  unfolding writer.means
  count_true on = count_exact (rw (on, or-true w.now.output_padding, or-true w.now.output_cea608_padding))

  -- and no demultiplexer within its limits refuses the frame, whatever it holds, unless too many packets would wait
  pub never_refused : exact_count (writer.means w.now) ≡ true → (κs' : Lfts 2) (p p' : Parser) (frame : Lent) (q : Answer) → valid p.now ≡ true → Push κs' p frame q p'
      → frame.now ≡ take n end.now → Takes p.now frame.now q
  unfolding write_frame framed frame_bytes
  never_refused on κs' p p' frame q within c same =
      let f = gives in
      let s = writer.means w.now in
      let b = f.share.budgets in
      let k = push_says p p' q κs' frame c in
      let fit = fits f.accepted in
      let bytes : frame.now ≡ frame_bytes (write_share f.share s).frame = same ∙ f.bytes in
      let most : count_due b s ≤ 31 = omega (arith, count_most b s, fit.triples) in
      let says : count_in (get_or frame.now 0 0) ≡ count_due b s = rw bytes (omega arith) in
      only_by p.now frame.now q within says most (rw (within, bytes) at k.answer)
      (round_any b s (parser.means p.now) fit (journey.counted b s fit on) (holds d).follow)
