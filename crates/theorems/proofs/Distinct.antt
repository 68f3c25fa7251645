-- Two drained sequences of calls that make the same frames accepted the same items. Assumes nothing.
use mathlib.Core.Path.{◌≡◌, sym, ap, ◌∙◌}
use mathlib.Core.List.{List}
use Prim.Native.Nat.{ℕ}
use Rattle.model.specs.Demux.{fresh_demux, turn608_on}
use Rattle.model.specs.Run.{read_frames}
use Rattle.writer.specs.declared.CCDataWriter.{CCDataWriter}
use Rattle.theorems.specs.Items.{Items}
use Rattle.theorems.specs.Allowed.{NewWriter}
use Rattle.theorems.specs.Writing.{Calls, Exact, Drained}
use Rattle.theorems.proofs.Feeding.{items_read}
use Rattle.theorems.proofs.Trip.{carried}

-- the items are told by the frames
pub same_items : {w₀ w v₀ v : CCDataWriter} {frames frames' : List (List ℕ)} {items items' : Items}
    → NewWriter w₀ → (c : Calls w₀ frames items w) → Exact c → Drained w
    → NewWriter v₀ → (k : Calls v₀ frames' items' v) → Exact k → Drained v
    → frames ≡ frames' → items ≡ items'
same_items a c p d a' k p' d' e =
    sym (carried a c p d).exactly ∙ ap (λ (fs : List (List ℕ)). items_read (read_frames fs (turn608_on fresh_demux))) e ∙ (carried a' k p' d').exactly

-- two drained sequences of calls with different items never make the same frames [J2]
pub distinct : {w₀ w v₀ v : CCDataWriter} {frames frames' : List (List ℕ)} {items items' : Items}
    → NewWriter w₀ → (c : Calls w₀ frames items w) → Exact c → Drained w
    → NewWriter v₀ → (k : Calls v₀ frames' items' v) → Exact k → Drained v
    → (items ≡ items' → ⊥) → frames ≡ frames' → ⊥
distinct a c p d a' k p' d' differ e = differ (same_items a c p d a' k p' d' e)
