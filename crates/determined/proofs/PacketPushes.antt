-- The functions that push to a packet's arrays. Assumes nothing.
use mathlib.Core.Path.{sym, ap, ◌∙◌}
use mathlib.Core.List.{List, [], ◌∷◌}
use Prim.Native.Nat.{ℕ}
use contract.Lifetimes.{Lfts}
use Rattle.std.specs.Prelude.{Result}
use Rattle.caption.specs.declared.Refusal.{Refusal}
use Rattle.caption.proofs.Outcomes.{outcome_injective}
use Rattle.model.specs.Said.{Outcome}
use Rattle.packet_entries.specs.Fields.{Fields, arrays}
use Rattle.packet_pushes.specs.Pushing.{Stores, spills, pushed_run, pushed_block}
use Rattle.packet_pushes.proofs.push_run.Reads as PushRunReads
use Rattle.packet_pushes.proofs.push_block.Reads as PushBlockReads
use Rattle.determined.specs.Determines.{DeterminesLent}

-- a push into three arrays
pushes_into : {A E : Type 0} {f : A → Fields} {n s p : E → List ℕ} (push : A → Fields → Outcome Fields)
    → DeterminesLent (λ e. n e ∷ s e ∷ p e ∷ []) (λ (a : A) (r : Result ℕ Refusal) (e : E). Stores (push a) (f a) r (arrays (n e) (s e) (p e)))
pushes_into push =
    record {
      result = λ a r q x y h k. outcome_injective r q (h.answer ∙ sym k.answer);
      contents = λ a r q x y h k. ap (λ (l : Fields). l.numbers ∷ l.sizes ∷ l.payload ∷ []) (h.places ∙ sym k.places);
    }

-- `push_run(form, service_no, code, seq_no, count, numbers, sizes, payload)`
pub push_run : (κs : Lfts 4) → DeterminesLent (λ e. e.1.1.1.1.1.0.now ∷ e.1.1.1.1.1.1.0.now ∷ e.1.1.1.1.1.1.1.0.now ∷ []) (PushRunReads.Post κs)
push_run κs = pushes_into (λ a. pushed_run (spills a.0) a.1.0 a.1.1.0.now)

-- `push_block(service, seq_no, count, numbers, sizes, payload)`
pub push_block : (κs : Lfts 4) → DeterminesLent (λ e. e.1.1.1.0.now ∷ e.1.1.1.1.0.now ∷ e.1.1.1.1.1.0.now ∷ []) (PushBlockReads.Post κs)
push_block κs = pushes_into (λ a. pushed_block a.0.now)
