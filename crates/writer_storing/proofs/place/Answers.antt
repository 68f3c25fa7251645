-- `writer_storing::place` meets its contract: one law of `Packs` for each way out. Assumes nothing.
use mathlib.Core.Path.{◌≡◌, sym, ap}
use mathlib.Core.List.{[], ◌∷◌}
use native.Mathlib.Nat.{add-zero}
use Rattle.model.specs.Said.{gave, refused, full}
use borrow.Author.Rules.{rules}
use Rattle.caption.specs.Answers.{said_refusal}
use Rattle.writer_storing.specs.Placing.{placing}
use Rattle.writer_storing.proofs.Packs.{places_bad, places_empty, places_full, places_next}
use Rattle.writer_storing.proofs.place.Goals as goal
use Rattle.writer_storing.proofs.place.Goals.{In_err-len}

-- the packet breaks a limit
bad : (c : In_err-len) → placing c.args.count c.args.packet.now ≡ refused (said_refusal c.in_err-len.field-0.0)
bad c = places_bad _ _ c.in_err-len.ensures

pub returns-in_err-len-clause-taken : goal.returns-in_err-len-clause-taken
returns-in_err-len-clause-taken c = let told = bad (goal.at.returns-in_err-len-clause-taken c).In_err-len in rw told (search rules)

pub returns-in_err-len-clause-places : goal.returns-in_err-len-clause-places
returns-in_err-len-clause-places c = rw (bad (goal.at.returns-in_err-len-clause-places c).In_err-len)

-- it has no blocks
empty : (c : goal.Then-len-eq0) → placing c.args.count c.args.packet.now ≡ gave []
empty c = places_empty _ _ c.in_ok-len.ensures c.if-len-eq0.true

pub returns-then-len-eq0-clause-taken : goal.returns-then-len-eq0-clause-taken
returns-then-len-eq0-clause-taken c = rw (empty c) (ap gave (sym (add-zero c.args.count)))

pub returns-then-len-eq0-clause-places : goal.returns-then-len-eq0-clause-places
returns-then-len-eq0-clause-places c = rw (empty c)

-- no slot is free
none : (c : goal.Then-count-ge-MOST_PACKETS) → placing c.args.count c.args.packet.now ≡ refused full
none c = places_full _ _ c.in_ok-len.ensures c.if-len-eq0.false c.if-count-ge-MOST_PACKETS.true

pub returns-then-count-ge-MOST_PACKETS-clause-taken : goal.returns-then-count-ge-MOST_PACKETS-clause-taken
returns-then-count-ge-MOST_PACKETS-clause-taken c = rw (none c)

pub returns-then-count-ge-MOST_PACKETS-clause-places : goal.returns-then-count-ge-MOST_PACKETS-clause-places
returns-then-count-ge-MOST_PACKETS-clause-places c = rw (none c)

-- one is
next : (c : goal.After-write) → placing c.args.count c.args.packet.now ≡ gave (record { len = c.in_ok-len.len; bytes = c.write.new.out } ∷ [])
next c = places_next _ _ c.in_ok-len.ensures c.if-len-eq0.false c.if-count-ge-MOST_PACKETS.false _ c.write.ensures.output

pub returns-clause-taken : goal.returns-clause-taken
returns-clause-taken c = rw (next c)

pub returns-clause-places : goal.returns-clause-places
returns-clause-places c = rw (next c)
