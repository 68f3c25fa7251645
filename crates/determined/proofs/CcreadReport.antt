-- The functions that lay the lines of a frame and of a record. Assumes nothing.
use mathlib.Core.Path.{◌≡◌, refl, sym, ◌∙◌}
use mathlib.Core.List.{List}
use Prim.Native.Nat.{ℕ}
use contract.Lifetimes.{Lfts}
use Rattle.parser.specs.declared.CCDataParser.{CCDataParser}
use Rattle.program_text.specs.Laid.{Laid}
use Rattle.ccread_report.specs.declared.Told.{Told}
use Rattle.ccread_report.specs.declared.Capture.{Capture}
use Rattle.ccread_report.specs.declared.Recorded.{Recorded}
use Rattle.ccread_report.proofs.put_frame.Reads as PutFrameReads
use Rattle.ccread_report.proofs.put_record.Reads as PutRecord
use Rattle.determined.specs.Determines.{DeterminesLent}
use Rattle.determined.proofs.Ways.{two}

-- text laid into a lent buffer, and a result that is made of the place behind it and a state
lays_and_leaves : {A E R S : Type 0} {text before : A → List ℕ} {at : A → ℕ} {next : A → S} {lent : E → List ℕ} (make : ℕ → S → R) (laid : R → ℕ) (left : R → S)
    → ((r : R) → make (laid r) (left r) ≡ r) → DeterminesLent lent (λ (a : A) (r : R) (e : E). Laid (text a) (before a) (at a) (laid r) (lent e) × (left r ≡ next a))
lays_and_leaves make laid left whole =
    record {
      result = λ a r q e f h k. sym (whole r) ∙ two make (h.0.place ∙ sym k.0.place) (h.1 ∙ sym k.1) ∙ whole q;
      contents = λ a r q e f h k. h.0.bytes ∙ sym k.0.bytes;
    }

-- `put_frame(out, at, number, frame, before)`
pub put_frame : (κs : Lfts 2) → DeterminesLent (λ e. e.0.now) (PutFrameReads.Post κs)
put_frame κs = lays_and_leaves (λ (x : ℕ) (p : CCDataParser). record { laid = x; parser = p }) (λ (r : Told). r.laid) (λ (r : Told). r.parser) (λ r. refl)

-- `put_record(out, at, number, kind, bytes, before)`
pub put_record : (κs : Lfts 2) → DeterminesLent (λ e. e.0.now) (PutRecord.Post κs)
put_record κs = lays_and_leaves (λ (x : ℕ) (c : Capture). record { laid = x; capture = c }) (λ (r : Recorded). r.laid) (λ (r : Recorded). r.capture) (λ r. refl)
