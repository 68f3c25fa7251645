-- The operations of a script by their letters, on the reader and the writer of distribution packets. Assumes nothing.
use mathlib.Core.List.{List}
use Prim.Native.Nat.{ℕ}
use contract.Lifetimes.{Lfts}
use Rattle.script_answers.specs.Rows.{sought}
use Rattle.script_answers.proofs.Rows.{tried_settled}
use Rattle.script_distribution.specs.Links.{link_rows}
use Rattle.script_distribution.specs.declared.Link.{Link}
use Rattle.script_distribution.proofs.fresh.Reads as Fresh
use Rattle.script_distribution.proofs.on_link.Reads as OnLinkReads
use Rattle.determined.specs.Determines.{Determines, DeterminesLent}
use Rattle.determined.proofs.Ways.{equal, two, at_once}

-- `fresh()`
pub fresh : Determines (Fresh.Post (tt {0}))
fresh = equal

-- `on_link(out, at, link, op, args)`
pub on_link : (κs : Lfts 3) → DeterminesLent {X = List ℕ × Link} (λ e. (e.0.now, e.1.1.0.now)) (OnLinkReads.Post κs)
on_link κs =
    at_once
    (λ a r q e g h k. let s = tried_settled (sought (link_rows a.1.1.0.now) a.1.1.1.0 a.1.1.1.1.0.now) a.1.1.0.now e.1.1.0.now g.1.1.0.now a.0.now e.0.now
    g.0.now a.1.0 r q h k in (s.0, two (λ x y. (x, y)) s.1.0 s.1.1))
