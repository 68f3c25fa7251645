-- The rate of a code, at its place among the eight. Assumes nothing.
use mathlib.Core.Path.{◌≡◌, refl, sym, ap, ◌∙◌}
use mathlib.Core.Bool.{Bool, false, not}
use mathlib.Core.List.{List, [], ◌∷◌, map}
use Prim.Native.Nat.{ℕ, zero, suc, ◌-◌, ◌≤◌}
use lib.Dec.{leb}
use lib.ListN.{get_or}
use borrow.Author.Tests.{leb-true, not-false}
use Rattle.model.specs.Said.{gave, mapped}
use Rattle.model.specs.Rate as model
use Rattle.model.specs.Distribution.{is_coded, rate_of}
use Rattle.model.specs.Distribution as packets
use Rattle.model.proofs.Cases.{both}
use Rattle.caption.specs.declared.Framerate.{Framerate}
use Rattle.caption.specs.Rates.{rate}
use Rattle.distribution.specs.Rates.{coded_rate, coded_rates}

rates_at : (rs : List model.Rate) (i : ℕ) → get_or (map coded_rate rs) i (rate 0 0) ≡ coded_rate (get_or rs i (model.rate 0 0))
rates_at [] i = refl
rates_at (r ∷ rs) zero = refl
rates_at (r ∷ rs) (suc i) = rates_at rs i

-- a code lies within 1 to 8
pub coded_within : (code : ℕ) (r : Bool) → r ≡ is_coded code → not r ≡ false → (1 ≤ code) × (code ≤ 8)
unfolding is_coded
coded_within code r e n = let t = both (leb 1 code) (leb code 8) (sym e ∙ not-false r n) in (leb-true 1 code t.0, leb-true code 8 t.1)

-- its rate is told
pub rate_told : (code : ℕ) (r : Bool) (rs : List Framerate) → r ≡ is_coded code → not r ≡ false → rs ≡ coded_rates
    → gave (get_or rs (code - 1) (rate 0 0)) ≡ mapped coded_rate (rate_of code)
unfolding rate_of
rate_told code r rs e n q =
    let at : get_or rs (code - 1) (rate 0 0) ≡ coded_rate (get_or packets.coded_rates (code - 1) (model.rate 0 0)) = ap (λ (l : List Framerate). get_or l (code - 1) (rate 0 0)) q ∙ rates_at packets.coded_rates (code - 1) in
    simp (sym e ∙ not-false r n, at)
