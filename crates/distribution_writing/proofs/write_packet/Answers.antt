-- Each refusal where what comes before it has passed; else all of the packet is laid. Assumes nothing.
use mathlib.Core.Path.{refl, sym, ap, ◌∙◌}
use Rattle.model.specs.Said.{gave}
use Rattle.distribution_writing.proofs.Laid.{bytes_length, wrote_broken, wrote_short, wrote_whole}
use Rattle.distribution_writing.proofs.write_packet.Goals as goal

pub returns-then-not-is_whole-clause-answer : goal.returns-then-not-is_whole-clause-answer
returns-then-not-is_whole-clause-answer c =
    let e = sym c.is_whole.ensures ∙ c.if-not-is_whole.true in let s = c.args in rw (wrote_broken s.counter s.code s.frame.now s.out.now (rw e refl)) (refl)

pub returns-then-not-is_whole-clause-output : goal.returns-then-not-is_whole-clause-output
returns-then-not-is_whole-clause-output c =
    let e = sym c.is_whole.ensures ∙ c.if-not-is_whole.true in let s = c.args in rw (wrote_broken s.counter s.code s.frame.now s.out.now (rw e refl)) (refl)

pub returns-then-not-is_coded-clause-answer : goal.returns-then-not-is_coded-clause-answer
returns-then-not-is_coded-clause-answer c =
    let w = sym c.is_whole.ensures ∙ c.if-not-is_whole.false in let e = sym c.is_coded.ensures ∙ c.if-not-is_coded.true in let s = c.args in rw (wrote_broken s.counter s.code s.frame.now s.out.now (rw (w, e) refl)) (refl)

pub returns-then-not-is_coded-clause-output : goal.returns-then-not-is_coded-clause-output
returns-then-not-is_coded-clause-output c =
    let w = sym c.is_whole.ensures ∙ c.if-not-is_whole.false in let e = sym c.is_coded.ensures ∙ c.if-not-is_coded.true in let s = c.args in rw (wrote_broken s.counter s.code s.frame.now s.out.now (rw (w, e) refl)) (refl)

pub returns-then-out-needed-clause-answer : goal.returns-then-out-needed-clause-answer
returns-then-out-needed-clause-answer c =
    let w = sym c.is_whole.ensures ∙ c.if-not-is_whole.false in let k = sym c.is_coded.ensures ∙ c.if-not-is_coded.false in let s = c.args in rw (wrote_short s.counter s.code s.frame.now w s.out.now k c.if-out-needed.true) (refl)

pub returns-then-out-needed-clause-output : goal.returns-then-out-needed-clause-output
returns-then-out-needed-clause-output c =
    let w = sym c.is_whole.ensures ∙ c.if-not-is_whole.false in let k = sym c.is_coded.ensures ∙ c.if-not-is_coded.false in let s = c.args in rw (wrote_short s.counter s.code s.frame.now w s.out.now k c.if-out-needed.true) (refl)

pub returns-clause-answer : goal.returns-clause-answer
returns-clause-answer c =
    let w = sym c.is_whole.ensures ∙ c.if-not-is_whole.false in let k = sym c.is_coded.ensures ∙ c.if-not-is_coded.false in let s = c.args in rw (wrote_whole s.counter s.code s.frame.now w s.out.now k c.if-out-needed.false) (ap gave (sym (bytes_length s.counter s.code s.frame.now w)))

pub returns-clause-output : goal.returns-clause-output
returns-clause-output c =
    let w = sym c.is_whole.ensures ∙ c.if-not-is_whole.false in let k = sym c.is_coded.ensures ∙ c.if-not-is_coded.false in let s = c.args in rw (wrote_whole s.counter s.code s.frame.now w s.out.now k c.if-out-needed.false) (c.lay_out.ensures)
