-- What is told of a call, and what is left of the demultiplexer after it. Assumes nothing.
use mathlib.Core.Path.{◌≡◌, sym, ap, ◌∙◌}
use mathlib.Core.Bool.{true, false, true≢false}
use mathlib.Core.List.{List, []}
use Prim.Native.Nat.{ℕ}
use Rattle.std.specs.Prelude.{Result}
use Rattle.caption.specs.declared.Refusal.{Refusal}
use Rattle.caption.specs.Answers.{outcome, said, said_refusal}
use Rattle.caption.proofs.Outcomes.{given_valid}
use Rattle.model.specs.Said.{Said, Outcome, gave, refused, says, accepted, bad_value, is_given, after}
use Rattle.model.specs.Said as model
use Rattle.model.specs.Demux.{draw}
use Rattle.model.proofs.Cases.{by_test}
use Rattle.parser.specs.declared.CCDataParser.{CCDataParser}
use Rattle.parser.specs.declared.Drawn.{Drawn}
use Rattle.parser.specs.Valid.{valid}
use Rattle.parser.specs.Means.{means}
use Rattle.parser.specs.After.{asked, drawn}
use Rattle.parser.specs.Items.{drawn_values, drawn_of}
use Rattle.parser.proofs.Items.{item_says}
use Rattle.program_text.specs.Laid.{Laid}
use Rattle.script_answers.specs.Script.{answer_line}
use Rattle.script_answers.specs.Steps.{Did, tells}
use Rattle.script_parsers.specs.Lines.{item_line}
use Rattle.script_parsers.specs.Parsers.{draws}

module _ {out now : List ℕ} {at laid : ℕ} where
  -- a call that only accepts or refuses
  pub did_call : {S : Type 0} (state next : S) (s : Said) (r : Result (Unit {0}) Refusal) → says (outcome r) ≡ s → state ≡ next
      → Laid (answer_line (said (λ _. []) r)) out at laid now → Did (tells s next) out at laid state now
  did_call state next s r e f l = record { told = rw (← e) l; left = f }

  -- an item drawn,
  module _ (r state : CCDataParser) (places : state ≡ drawn r) where
    pub did_draw : (d : Drawn) → gave d ≡ asked r (λ m. drawn_of (draw m).item) → Laid (item_line (accepted (drawn_values d)) d.packet) out at laid now
        → Did (draws r) out at laid state now
    did_draw d e l =
        let v : valid r ≡ true = given_valid (valid r) d (drawn_of (draw (means r)).item) e in
        let u : gave d ≡ gave (drawn_of (draw (means r)).item) = e ∙ rw v in
        let w : d ≡ drawn_of (draw (means r)).item = ap (after d) u in
        record { told = rw (v, ← item_says (draw (means r)).item) (rw w at l); left = places }

    -- or refused
    pub did_not_draw : (why : Refusal) → refused (said_refusal why) ≡ asked r (λ m. drawn_of (draw m).item) → Laid (answer_line (said_refusal why)) out at laid now
        → Did (draws r) out at laid state now
    unfolding item_line
    did_not_draw why e l =
        let v : valid r ≡ false = by_test (valid r) (λ t. let q : refused (said_refusal why) ≡ gave (drawn_of (draw (means r)).item) = e ∙ rw t in absurd (true≢false (sym (ap is_given q)))) (λ t. t) in
        let w : said_refusal why ≡ bad_value = let q : refused (said_refusal why) ≡ refused bad_value = e ∙ rw v in ap says q in
        record { told = rw v (rw w at l); left = places }
