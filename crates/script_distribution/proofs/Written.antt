-- What is told of a frame that is written as a packet, and what is left of the writer. Assumes nothing.
use mathlib.Core.Path.{◌≡◌, refl, ap, ◌∙◌}
use mathlib.Core.List.{List, [], ◌∷◌}
use Prim.Native.Nat.{ℕ}
use lib.ListN.{length}
use Rattle.std.specs.Prelude.{Result}
use Rattle.model.specs.Said.{Outcome, gave, refused, says_with, mapped, after}
use Rattle.caption.specs.declared.Refusal.{Refusal}
use Rattle.caption.specs.Answers.{outcome, said}
use Rattle.distribution.specs.declared.DistributionWriter.{DistributionWriter}
use Rattle.distribution.specs.States.{writer_at}
use Rattle.distribution.specs.Calls.{written_by}
use Rattle.program_text.specs.Laid.{Laid}
use Rattle.script_answers.specs.Script.{lent_line}
use Rattle.script_answers.specs.Steps.{Did, lent_out}
use Rattle.script_distribution.specs.Links.{with_writer, sends}
use Rattle.script_distribution.specs.declared.Link.{Link}

-- a number that is told of what is given
number_told : {A : Type 0} (f : A → ℕ) (o : Outcome A) → says_with (λ n. n ∷ []) (mapped f o) ≡ says_with (λ x. f x ∷ []) o
number_told f (gave x) = refl
number_told f (refused why) = refl

-- a frame written
pub did_write : {out now lent lent' : List ℕ} {at laid : ℕ} (frame : List ℕ) (code len : ℕ) (link : Link) (r : Result ℕ Refusal) (next : DistributionWriter) → lent ≡ lent_out len
    → outcome r ≡ mapped (λ x. length x.bytes) (written_by link.writer code frame lent) → next ≡ after link.writer (mapped (λ x. writer_at x.next) (written_by link.writer code frame lent))
    → lent' ≡ after lent (mapped (λ x. x.out) (written_by link.writer code frame lent)) → Laid (lent_line (said (λ n. n ∷ []) r) lent') out at laid now
    → Did (sends code frame (lent_out len) link) out at laid (with_writer link next) now
did_write {out} {now} {lent} {lent'} {at} {laid} frame code len link r next t answer places output l =
    let told : said (λ n. n ∷ []) r ≡ says_with (λ x. length x.bytes ∷ []) (written_by link.writer code frame lent) =
    ap (says_with (λ n. n ∷ [])) answer ∙ number_told (λ x. length x.bytes) (written_by link.writer code frame lent) in
    rw (← t) (record { told = rw (← told, ← output) l; left = ap (with_writer link) places })
