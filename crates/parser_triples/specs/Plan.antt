-- What is to be done with a frame: rules F of docs/RULES.md. No public contract of `parser` reaches this file. Assumes nothing.
use Rattle.std.specs.Prelude.{List, Bool, cond, ℕ, ◌+◌, ◌*◌, length, get_or, eqb}
use Rattle.std.proofs.Math.Option.{Option, none, some}
use Rattle.model.specs.Frame.{count_in}
use Rattle.model.specs.Demux.{unread, late_from, carries708}
use Rattle.parser_triples.specs.Walk.{seen_from}
use Rattle.parser_triples.specs.declared.Plan.{Plan}
use Rattle.parser_triples.specs.declared.Plan.TheVariants.{Unread, LengthWrong, Late, Pairs, Packets}

-- [A3] a frame with a late triple lists the pairs before it and gathers nothing; [F8] nor does one without a valid triple of type 2 or 3
abbrev pub plan_found : Option ℕ → Bool → Plan
plan_found (some at) carries = Late at
plan_found none carries = cond carries Packets Pairs

-- a frame with triples
abbrev pub plan_walked : List ℕ → Plan
plan_walked f = plan_found (late_from 0 (seen_from 0 f)) (carries708 (seen_from 0 f))

-- the plan of a frame, by [F2] and [F3] and then by its triples
unfoldable pub plan_of : List ℕ → Plan
plan_of f =
    let n = count_in (get_or f 0 0) in
    cond (unread f) Unread (cond (eqb (length f) (3 * n + 2)) (plan_walked f) (LengthWrong (3 * n + 2) (length f)))
