-- The functions that run the records of a script. Assumes nothing.
use mathlib.Core.Path.{sym, ◌∙◌}
use mathlib.Core.List.{List}
use Prim.Native.Nat.{ℕ}
use contract.Lifetimes.{Lfts}
use Rattle.script_operations.specs.declared.Machine.{Machine}
use Rattle.script_operations.proofs.fresh.Reads as Fresh
use Rattle.script_operations.proofs.run_record.Reads as Run
use Rattle.determined.specs.Determines.{Determines, DeterminesLent}
use Rattle.determined.proofs.Ways.{equal, two}

-- `fresh()`
pub fresh : Determines (Fresh.Post (tt {0}))
fresh = equal

-- `run_record(out, at, m, record)`
pub run_record : (κs : Lfts 3) → DeterminesLent {X = List ℕ × Machine} (λ e. (e.0.now, e.1.1.0.now)) (Run.Post κs)
run_record κs =
    record {
      result = λ a r q e g h k. h.told.place ∙ sym k.told.place;
      contents = λ a r q e g h k. two (λ x y. (x, y)) (h.told.bytes ∙ sym k.told.bytes) (h.left ∙ sym k.left);
    }
