-- The functions that read a packet's blocks, whichever way W they go. Assumes nothing.
use mathlib.Core.Path.{◌≡◌, refl, sym, ap, ◌∙◌}
use mathlib.Core.Bool.{true≢false}
use denote.RattleType.{RattleType}
use Rattle.std.specs.Prelude.{Result, Ok, Err, OnErr}
use Rattle.caption.specs.declared.Refusal.{Refusal}
use Rattle.caption.specs.Answers.{said_refusal, outcome}
use Rattle.caption.proofs.Outcomes.{outcome_injective}
use Rattle.model.specs.Said.{Outcome, gave, refused, is_given, mapped}
use Rattle.packet_blocks.specs.declared.Filled.{Filled}
use Rattle.packet_blocks.specs.Reading as reading
use Rattle.packet_blocks.proofs.fill.Reads as Fill
use Rattle.packet_blocks.proofs.fill_into.Reads as FillInto
use Rattle.packet_blocks.proofs.unfilled.Reads as UnfilledReads
use Rattle.determined.specs.Determines.{Determines, DeterminesLent}
use Rattle.determined.proofs.Ways.{equal, said, at_once}

-- two answers of one outcome, each with the lent places that it leaves
pub one_reading : (o : Outcome Filled) (r q : Result (Unit {0}) Refusal) (x y : Filled) → mapped (λ _. x) (outcome r) ≡ o → OnErr r (x ≡ reading.unfilled)
    → mapped (λ _. y) (outcome q) ≡ o → OnErr q (y ≡ reading.unfilled) → (r ≡ q) × (x ≡ y)
one_reading o (Ok u) (Ok v) x y a z b w = let e : gave x ≡ gave y = a ∙ sym b in (refl, cc)
one_reading o (Ok u) (Err v) x y a z b w = absurd (true≢false (ap is_given (a ∙ sym b)))
one_reading o (Err u) (Ok v) x y a z b w = absurd (true≢false (ap is_given (b ∙ sym a)))
one_reading o (Err u) (Err v) x y a z b w =
    let e : ◌≡◌ {A = Outcome Filled} (refused (said_refusal u)) (refused (said_refusal v)) = a ∙ sym b in
    let k : said_refusal u ≡ said_refusal v = cc in
    (outcome_injective (Err u) (Err v) (ap refused k), z ∙ sym w)

-- `fill::<W>(data)`
pub fill : (W : RattleType) (laws : _) (Way : _) (dict : _) (κs : _) → Determines (Fill.Post W laws Way dict κs)
fill W laws Way dict κs = said outcome_injective

-- `fill_into::<W>(data, packet)`
pub fill_into : (W : RattleType) (laws : _) (Way : _) (dict : _) (κs : _) → DeterminesLent (λ e. e.1.0.now) (FillInto.Post W laws Way dict κs)
fill_into W laws Way dict κs = at_once (λ a r q e g h k. one_reading _ r q _ _ h.0 h.1 k.0 k.1)

-- `unfilled()`
pub unfilled : Determines (UnfilledReads.Post (tt {0}))
unfilled = equal
