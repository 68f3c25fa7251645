-- The program stands where the bytes read so far leave it, also where a read or a write fails. Assumes nothing.
use Rattle.std.proofs.Common.{◌≡◌, ℕ, ◌≤◌, true, false, List, length, refl, arith, rules}
use Rattle.std.specs.Prelude.{Result, Ok, Err, OnErr, Option}
use Rattle.program_streams.specs.Ahead.{nothing_read}
use Rattle.program_streams.specs.Walk.{Told}
use Rattle.program_streams.specs.Driven.{mark_of, Driven}
use Rattle.program_streams.specs.declared.Held.{Held}
use Rattle.program_streams.proofs.Inputs.{starts, reads_on, reads_all}
use Rattle.program_streams.proofs.run.Goals as goal

-- what holds holds where there is an error
on_any : {T E P : Type 0} (r : Result T E) → P → OnErr r P
on_any (Ok x) p = tt
on_any (Err e) p = p

-- before the first read
begins : {S : Type 0} (mark : List (List ℕ)) (tell : ℕ → S → ℕ → List ℕ → Told S) (buf : List ℕ) (x : S) (given out : Option (List ℕ)) (h : Held) → h ≡ nothing_read
    → (h.going ≡ true) × Driven mark tell false x given given out out buf h x
begins mark tell buf x given out h e = rw e (refl, starts mark tell buf x given out)

-- the mark is shorter than a record's head
short : (kinds : List ℕ) → length (mark_of kinds) ≤ 3
short kinds = omega arith

pub loop-init : goal.loop-init
loop-init g c = begins (mark_of g.T.Teller.kinds) g.T.Teller.telling _ _ _ _ _ c.unread.ensures

pub step-requires-clause-within : goal.step-requires-clause-within
step-requires-clause-within g c = search (rules, c.loop.invariant.1.2.kept.within)

pub loop-preserved : goal.loop-preserved
loop-preserved g c =
    let l = c.loop.invariant in
    let e = c.if-not-held.false in
    (e, reads_on (mark_of g.T.Teller.kinds) g.T.Teller.telling (short g.T.Teller.kinds) _ _ _ _ _ _ _ l.1 l.0 c.in_ok-held.ensures.ok e)

pub returns-then-not-held-clause-ok : goal.returns-then-not-held-clause-ok
returns-then-not-held-clause-ok g c =
    let l = c.loop.invariant in
    λ e. reads_all (mark_of g.T.Teller.kinds) g.T.Teller.telling (short g.T.Teller.kinds) _ _ _ _ _ _ _ l.1 l.0 c.in_ok-held.ensures.ok e
