-- How many writes have a pair: all of them while the carrying mode is off; and while it is on and the rate stays, one of any two. Assumes nothing.
use mathlib.Core.Path.{◌≡◌, refl, ◌∙◌}
use mathlib.Core.Bool.{Bool, true, false, cond}
use mathlib.Core.List.{List, [], ◌∷◌}
use Prim.Native.Nat.{ℕ, zero, suc, ◌+◌, ◌*◌, ◌≤◌, ◌<◌}
use native.Mathlib.Nat.{zero-mul}
use native.Mathlib.Omega.{arith}
use lib.ListN.{length}
use Rattle.model.specs.Rate.{Rate, Budgets, Carry, going_on, Share, carried_on}
use Rattle.model.specs.Mux.{Mux, most_queued}
use Rattle.model.specs.Run.{Call, pushes, pushes608, sets, writes, call, PairBeside, OneOfTwo, AllPaired, StaysCall, Stays}
use Rattle.model.proofs.Carrying.{whole, least, Carries, share_on, share_off, going_on_same}
use Rattle.model_journey.specs.Bounds.{budgets_in, writes_in, paired_in, pace}
use Rattle.model_journey.proofs.Calls.{sum_push, sum_608, sum_switch, mode_switch}

-- each write has a pair while the mode stays off
off_paired : (r : Rate) (cs : List Call) (s : Mux) → s.carrying ≡ false → Stays false r cs s → AllPaired (budgets_in cs)
unfolding call
off_paired r [] s m st = tt
off_paired r (pushes p ∷ cs) s m st = off_paired r cs _ ((sum_push p s).carrying ∙ m) st.1
off_paired r (pushes608 x ∷ cs) s m st = off_paired r cs _ ((sum_608 x s).carrying ∙ m) st.1
off_paired r (sets x ∷ cs) s m st = off_paired r cs _ (mode_switch false x s st.0 m) st.1
off_paired r (writes h ∷ cs) s m st = ((share_off st.0.0.numer st.0.0.denom s.carry (rw m at st.0.1)).rated.sane.some_pair, off_paired r cs _ m st.1)

-- what a write gets while the mode stays on
pub on_share : (r : Rate) (h : Share) (s : Mux) → s.carrying ≡ true → StaysCall true r (writes h) s → Carries r.numer r.denom s.carry h
on_share r h s m st = rw (st.2 refl) at (share_on st.0.numer st.0.denom s.carry (rw m at st.1))

-- a pair is due where what is left over and what comes is one
pair_due : (n d : ℕ) (c : Carry) → 0 < n → n ≤ c.pairs + 60 * d → 1 ≤ (carried_on n d c).budgets.pairs
unfolding carried_on
pair_due n d c pos h = least 60 n d c.pairs 1 pos (omega arith)

-- with n pairs of the write before, the first write has one, if what is left over and what comes is one
first_paired : (n : ℕ) (r : Rate) (cs : List Call) (s : Mux) → s.carrying ≡ true → Stays true r cs s
    → r.numer ≤ n * r.numer + ((going_on r.numer r.denom s.carry).pairs + 60 * r.denom) → PairBeside n (budgets_in cs)
unfolding call
first_paired n r [] s m st h = tt
first_paired n r (pushes p ∷ cs) s m st h = let e = sum_push p s in first_paired n r cs _ (e.carrying ∙ m) st.1 (rw e.carry h)
first_paired n r (pushes608 x ∷ cs) s m st h = let e = sum_608 x s in first_paired n r cs _ (e.carrying ∙ m) st.1 (rw e.carry h)
first_paired n r (sets x ∷ cs) s m st h = let e = sum_switch x s st.0 m in first_paired n r cs _ (e.carrying ∙ m) st.1 (rw e.carry h)
first_paired zero r (writes b ∷ cs) s m st h =
    let k = on_share r b s m st.0 in
    rw k.is (omega (arith, pair_due r.numer r.denom (going_on r.numer r.denom s.carry) k.some (omega (arith, zero-mul r.numer))))
first_paired (suc n) r (writes b ∷ cs) s m st h = omega arith

-- a write without a pair leaves so much over that the next has one
left_due : (n d : ℕ) (c : Carry) → n ≤ 120 * d → n ≤ (carried_on n d c).budgets.pairs * n + ((carried_on n d c).carry.pairs + 60 * d)
unfolding carried_on
left_due n d c slow = omega (arith, whole 60 n d c.pairs)

-- so one of two has a pair while the mode stays on and the rate stays
on_paired : (r : Rate) (cs : List Call) (s : Mux) → s.carrying ≡ true → Stays true r cs s → OneOfTwo (budgets_in cs)
unfolding call
on_paired r [] s m st = tt
on_paired r (pushes p ∷ cs) s m st = on_paired r cs _ ((sum_push p s).carrying ∙ m) st.1
on_paired r (pushes608 x ∷ cs) s m st = on_paired r cs _ ((sum_608 x s).carrying ∙ m) st.1
on_paired r (sets x ∷ cs) s m st = on_paired r cs _ (mode_switch true x s st.0 m) st.1
on_paired r (writes b ∷ cs) s m st =
    let k = on_share r b s m st.0 in
    let c : Carry = going_on r.numer r.denom s.carry in
    let enough : r.numer ≤ b.budgets.pairs * r.numer + ((going_on r.numer r.denom b.carry).pairs + 60 * r.denom) =
    rw (k.is, going_on_same r.numer r.denom c) (left_due r.numer r.denom c k.slow) in
    (first_paired b.budgets.pairs r cs _ m st.1 enough, on_paired r cs _ m st.1)

-- beside a pair there is one
beside : (n : ℕ) → 1 ≤ n → (bs : List Budgets) → PairBeside n bs
beside n h [] = tt
beside n h (b ∷ bs) = omega arith

-- where each has one, so have two
all_two : (bs : List Budgets) → AllPaired bs → OneOfTwo bs
all_two [] w = tt
all_two (b ∷ bs) w = (beside b.pairs w.0 bs, all_two bs w.1)

-- in either mode one of any two writes has a pair, while it stays and the rate stays
pub one_of_two : (on : Bool) (r : Rate) (cs : List Call) (s : Mux) → s.carrying ≡ on → Stays on r cs s → OneOfTwo (budgets_in cs)
one_of_two true r cs s m st = on_paired r cs s m st
one_of_two false r cs s m st = all_two (budgets_in cs) (off_paired r cs s m st)

-- half of them, but for one
half : (bs : List Budgets) → OneOfTwo bs → length bs ≤ 2 * paired_in bs + 1
half [] w = omega arith
half (b ∷ []) w = omega arith
half (b ∷ c ∷ bs) w = let i = half (c ∷ bs) w.1 in let j = half bs w.1.1 in let k = w.0 in omega arith

-- all of them
every : (bs : List Budgets) → AllPaired bs → length bs ≤ paired_in bs
every [] w = omega arith
every (b ∷ bs) w = let i = every bs w.1 in let k = w.0 in omega arith

-- so many writes have so many pairs
pub paced : (on : Bool) (r : Rate) (cs : List Call) (s : Mux) → s.carrying ≡ on → Stays on r cs s → (i : ℕ) → pace on * i ≤ writes_in cs → 2 * i ≤ paired_in (budgets_in cs)
paced true r cs s m st i h = omega (arith, half (budgets_in cs) (one_of_two true r cs s m st))
paced false r cs s m st i h = omega (arith, every (budgets_in cs) (off_paired r cs s m st))

-- the 64 places of a queue take 128 writes while the mode stays off, and 256 while it stays on [S2] [J3]
pub places : (on : Bool) (i n : ℕ) → i ≤ most_queued → cond on 256 128 ≤ n → pace on * i ≤ n
places true i n few many = omega arith
places false i n few many = omega arith
