-- One law of `Services` for each refusal, in the order 7, 4, 3, and the run is laid behind the payload. 11 comes first, by `check`. Assumes nothing.
use mathlib.Core.Path.{◌≡◌, refl, ap, ◌∙◌}
use Prim.Native.Nat.{◌+◌, ◌-◌, ◌≤◌}
use native.Mathlib.Nat.{add-sub_cancel_left}
use native.Mathlib.Omega.{arith}
use lib.ListN.{length}
use borrow.Author.Rules.{rules}
use borrow.Rule.Slice.PartMut.{put_mid}
use Rattle.model.specs.Said.{gave, refused, bad_run, read_only}
use Rattle.model.specs.Block.{with_run}
use Rattle.service.specs.declared.Service.{Service}
use Rattle.service.specs.Service.{block_of, over, pushed}
use Rattle.caption.proofs.Outcomes.{given_valid}
use Rattle.basics.proofs.Runs.{part_laid}
use Rattle.service.proofs.Services.{valid_len, push_empty, push_null, push_over, push_fits, push_small, pushed_as, over_means}
use Rattle.service.proofs.Service.push_code.Goals as goal

-- 7: the run has no bytes
empty : (c : goal.Then-n-eq0) → pushed c.args.code.now c.args.self.now ≡ refused bad_run
empty c = push_empty _ _ refl (search rules) _ (given_valid _ _ _ c.in_ok-check.ensures) c.if-n-eq0.true

pub returns-then-n-eq0-clause-answer : goal.returns-then-n-eq0-clause-answer
returns-then-n-eq0-clause-answer c = rw (empty c)

pub returns-then-n-eq0-clause-state : goal.returns-then-n-eq0-clause-state
returns-then-n-eq0-clause-state c = rw (empty c)

pub returns-then-n-eq0-clause-places : goal.returns-then-n-eq0-clause-places
returns-then-n-eq0-clause-places c = rw (empty c)

-- 4: the run is for service 0
null : (c : goal.Then-self-eq0) → pushed c.args.code.now c.args.self.now ≡ refused read_only
null c = push_null _ _ refl (search rules) _ (given_valid _ _ _ c.in_ok-check.ensures) c.if-n-eq0.false c.if-self-eq0.true

pub returns-then-self-eq0-clause-answer : goal.returns-then-self-eq0-clause-answer
returns-then-self-eq0-clause-answer c = rw (null c)

pub returns-then-self-eq0-clause-state : goal.returns-then-self-eq0-clause-state
returns-then-self-eq0-clause-state c = rw (null c)

pub returns-then-self-eq0-clause-places : goal.returns-then-self-eq0-clause-places
returns-then-self-eq0-clause-places c = rw (null c)

pub overflow_sub-room : goal.overflow_sub-room
overflow_sub-room c = valid_len _ (given_valid _ _ _ c.in_ok-check.ensures)

-- 3: the run does not fit
pub returns-then-room-n-clause-answer : goal.returns-then-room-n-clause-answer
returns-then-room-n-clause-answer c = rw (push_over _ _ refl (search rules) _ (given_valid _ _ _ c.in_ok-check.ensures) c.if-n-eq0.false c.if-self-eq0.false c.if-room-n.true)

pub returns-then-room-n-clause-state : goal.returns-then-room-n-clause-state
returns-then-room-n-clause-state c = rw (push_over _ _ refl (search rules) _ (given_valid _ _ _ c.in_ok-check.ensures) c.if-n-eq0.false c.if-self-eq0.false c.if-room-n.true)

pub returns-then-room-n-clause-places : goal.returns-then-room-n-clause-places
returns-then-room-n-clause-places c = rw (push_over _ _ refl (search rules) _ (given_valid _ _ _ c.in_ok-check.ensures) c.if-n-eq0.false c.if-self-eq0.false c.if-room-n.true)

-- it fits
fits : (c : goal.After-self-1) → pushed c.args.code.now c.args.self.now ≡ gave (with_run c.args.code.now (block_of c.args.self.now))
fits c = push_fits _ _ refl (search rules) _ (given_valid _ _ _ c.in_ok-check.ensures) c.if-n-eq0.false c.if-self-eq0.false c.if-room-n.false

-- in the places behind the payload
room : (c : goal.After-self-1) → c.args.self.now.len + length c.args.code.now ≤ length c.args.self.now.payload
room c =
    let places : length c.args.self.now.payload ≡ 31 = search rules in
    omega (arith, places, valid_len _ (given_valid _ _ _ c.in_ok-check.ensures), c.if-room-n.false)

-- and is laid behind the payload
laid : (c : goal.After-self-1)
    → ◌≡◌ {A = Service} (record { number = c.args.self.now.number; len = c.args.self.now.len + length c.args.code.now; payload = put_mid c.args.self.now.len (c.args.self.now.len + length c.args.code.now - c.args.self.now.len) c.args.self.now.payload c.copy_from_slice.new.self }) (over c.args.self.now (with_run c.args.code.now (block_of c.args.self.now)))
laid c = pushed_as _ _ refl (search rules) _ (given_valid _ _ _ c.in_ok-check.ensures) _
    (part_laid c.args.self.now.payload _ c.args.code.now _ _ c.copy_from_slice.ensures.after
    (add-sub_cancel_left c.args.self.now.len (length c.args.code.now)) (room c))

pub returns-clause-answer : goal.returns-clause-answer
returns-clause-answer c = rw (fits c)

pub returns-clause-state : goal.returns-clause-state
returns-clause-state c =
    rw (fits c) (ap block_of (laid c) ∙ over_means c.args.self.now (with_run c.args.code.now (block_of c.args.self.now)) (search rules) (push_small c.args.self.now _ refl (search rules) c.args.code.now (given_valid _ _ _ c.in_ok-check.ensures) c.if-room-n.false))

pub returns-clause-places : goal.returns-clause-places
returns-clause-places c = rw (fits c) (laid c)
