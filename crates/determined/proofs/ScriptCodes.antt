-- The operations of a script that cut payloads into codes, and behind them those on its packet. Assumes nothing.
use mathlib.Core.List.{List}
use Prim.Native.Nat.{ℕ}
use contract.Lifetimes.{Lfts}
use Rattle.packet.specs.declared.DTVCCPacket.{DTVCCPacket}
use Rattle.script_answers.specs.Rows.{sought}
use Rattle.script_answers.proofs.Rows.{tried_settled}
use Rattle.script_codes.specs.Operations.{codes_rows}
use Rattle.script_codes.proofs.on_codes.Reads as OnCodesReads
use Rattle.determined.specs.Determines.{DeterminesLent}
use Rattle.determined.proofs.Ways.{two, at_once}

-- `on_codes(out, at, block, packet, op, args)`
pub on_codes : (κs : Lfts 4) → DeterminesLent {X = List ℕ × DTVCCPacket} (λ e. (e.0.now, e.1.1.1.0.now)) (OnCodesReads.Post κs)
on_codes κs =
    at_once
    (λ a r q e g h k. let s = tried_settled (sought (codes_rows a.1.1.0.now a.1.1.1.0.now) a.1.1.1.1.0 a.1.1.1.1.1.0.now) a.1.1.1.0.now e.1.1.1.0.now g.1.1.1.0.now
    a.0.now e.0.now g.0.now a.1.0 r q h k in (s.0, two (λ x y. (x, y)) s.1.0 s.1.1))
