-- Each refusal where what comes before it has passed; else the pieces of all runs are put. Assumes nothing.
use mathlib.Core.Path.{refl}
use Rattle.packing.proofs.Calls.{too_many, one_unfit, all_fit, needed, short_of_room, made}
use Rattle.packing.proofs.propose.Goals as goal

pub returns-then-n-gt-MOST_RUNS : goal.returns-then-n-gt-MOST_RUNS
returns-then-n-gt-MOST_RUNS c =
    let e = too_many c.args.services.now c.args.lengths.now c.args.out.now c.if-n-gt-MOST_RUNS.true in
    record { answer = rw e; output = rw e; kept = refl }

pub returns-then-not-runs_fit : goal.returns-then-not-runs_fit
returns-then-not-runs_fit c =
    let e = one_unfit c.args.services.now c.args.lengths.now c.args.out.now c.if-n-gt-MOST_RUNS.false _ c.runs_fit.ensures c.if-not-runs_fit.true in
    record { answer = rw e; output = rw e; kept = refl }

pub returns-then-out-needed : goal.returns-then-out-needed
returns-then-out-needed c =
    let e = short_of_room c.args.services.now c.args.lengths.now c.args.out.now c.if-n-gt-MOST_RUNS.false _ c.runs_fit.ensures c.if-not-runs_fit.false c.if-out-needed.true in
    record { answer = rw e; output = rw e; kept = refl }

pub put_pieces-packets-requires : goal.put_pieces-packets-requires
put_pieces-packets-requires c =
    all_fit _ _ c.if-n-gt-MOST_RUNS.false _ c.runs_fit.ensures c.if-not-runs_fit.false

pub returns : goal.returns
returns c =
    let s = c.args in
    let e = made s.services.now s.lengths.now s.out.now c.if-n-gt-MOST_RUNS.false _ c.runs_fit.ensures c.if-not-runs_fit.false c.if-out-needed.false in
    let n = needed s.services.now s.lengths.now s.out.now c.if-n-gt-MOST_RUNS.false _ c.runs_fit.ensures c.if-not-runs_fit.false in
    record { answer = rw (e, n, c.put_pieces-packets.ensures.value); output = rw e c.put_pieces-packets.ensures.output; kept = tt }
