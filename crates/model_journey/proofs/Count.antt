-- With a padding or the true count on, a frame has as many triples as its count says. Assumes nothing.
use mathlib.Core.Path.{◌≡◌, refl, sym, ◌∙◌}
use mathlib.Core.Bool.{Bool, true, false, cond, ◌||◌, or-false}
use mathlib.Core.List.{◌++◌}
use Prim.Native.Nat.{ℕ, ◌+◌, ◌-◌, ◌≤◌, min}
use native.Mathlib.Omega.{arith}
use lib.ListN.{length, length-append}
use Rattle.model.specs.Rate.{Budgets}
use Rattle.model.specs.Mux.{Mux, turns_due, turned, unsent, turns_sending, turns_counted, count_due, padding, framed, write_frame}
use Rattle.model.specs.Run.{Accepted, exact_count}
use Rattle.model.proofs.Cases.{by_cond}
use Rattle.model.proofs.MuxStates.{turns_most}
use Rattle.model.proofs.Turns.{turns_count}
use Rattle.model_journey.proofs.Padding.{padding_length}
use Rattle.model_journey.proofs.Sending.{numbers, sent_by}

-- what a frame asks of its budgets: no more pairs than triples, and no more triples than its count can say
pub record Fits (b : Budgets) : Type 0 where
  pub pairs : b.pairs ≤ b.triples
  pub triples : b.triples ≤ 31

-- an accepted rate's budgets are such
pub fits : {b : Budgets} → Accepted b → Fits b
fits a = record { pairs = omega (arith, a.apart); triples = a.most }

-- one of three that is on is the first, where the others are off
only_first : (a b c : Bool) → a || (b || c) ≡ true → b ≡ false → c ≡ false → a ≡ true
only_first a b c e f g = rw (f, g, or-false a) at e

-- with a padding or the true count on [J0] the turns that are counted are those that send, unless padding fills the frame
counts_sent : (p : ℕ) (s : Mux) → exact_count s ≡ true → s.pad_out ≡ false → turns_counted p s ≡ length (turned (turns_due p s) s).out
unfolding turns_counted turns_sending
counts_sent p s on off =
    let n : ℕ = turns_due p s in
    by_cond (λ k. k ≡ length (turned n s).out) s.true_count (λ _. refl)
    (λ f. sym ((turns_count n s).all (only_first s.pad608 s.pad_out s.true_count on off f)))

-- the three parts of a frame make up its count
total : (b : Bool) (t k u x y : ℕ) → x ≤ t → (b ≡ false → k ≡ x) → (let c : ℕ = cond b t (min t (k + u)) in y ≡ min (c - x) u → x + (y + cond b (c - x - y) 0) ≡ c)
total true t k u x y h all sent = omega arith
total false t k u x y h all sent = omega (arith, all refl)

-- then the count that the first byte tells is the number of triples that follow
pub counted : (b : Budgets) (s : Mux) → Fits b → exact_count s ≡ true → length (write_frame b s).frame.triples ≡ count_due b s
unfolding write_frame framed count_due
counted b s f on =
    let n : ℕ = turns_due b.pairs s in
    let c : ℕ = count_due b s in
    let t = turned n s in
    let o = sent_by b s in
    let free : ℕ = c - length t.out - length o.out in
    let l : length (t.out ++ (o.out ++ padding s.pad_out free)) ≡ length t.out + (length o.out + cond s.pad_out free 0) = simp (length-append, padding_length) in
    let few : length t.out ≤ b.triples = omega (arith, (turns_count n s).most, turns_most b.pairs s, f.pairs) in
    l ∙ total s.pad_out b.triples (turns_counted b.pairs s) (unsent s) (length t.out) (length o.out) few (counts_sent b.pairs s on) (numbers _ s.sending s.packets).sent
