-- What the calls of a build give, one after another. Assumes nothing.
use mathlib.Core.Path.{◌≡◌}
use mathlib.Core.List.{List}
use Prim.Native.Nat.{ℕ, ◌%◌}
use lib.ListN.{take}
use Rattle.writer_shares.specs.declared.Carry.{Carry}
use Rattle.writer_frames.specs.Frame.{headed}
use Rattle.writer_frames.specs.declared.Frame.{Frame}
use Rattle.writer_turns.specs.declared.Turns.{Turns}
use Rattle.slots.specs.declared.Slot.{Slot}
use Rattle.writer_sending.specs.Slots.{count_of, filled}
use Rattle.writer_sending.specs.declared.Sending.{Sending}
use Rattle.writer_building.specs.Building.{turns_of, counted_of, takes, made_of, built_by, built}
use Rattle.writer_building.specs.declared.Source.{Source}
use Rattle.writer_building.specs.declared.Made.{Made}

module _ (n counted triples : ℕ) (k : Carry) (l : List Slot) (s : Source) (m : Made) where
  -- each gives what it says, and so do all together
  pub built_by_lem : (c : ℕ) (h : Frame) (t : Turns) (o : Sending) → c ≡ count_of s.padding triples counted (take s.queued l) s.slot s.sent → h ≡ headed (c % 32)
      → t ≡ takes n s.pad (record { field1 = s.field1; field2 = s.field2; field2_next = s.field2_next; frame = h })
      → o ≡ filled (take s.queued l) s.slot s.sent t.frame c s.padding → m ≡ made_of t o k → m ≡ built_by n counted triples k l s
  unfolding built_by
  built_by_lem c h t o counts heads takes fills made = rw (made, fills, takes, heads, counts)

  -- at the budgets that give these turns
  pub built_at : (pairs : ℕ) → n ≡ turns_of s.pad pairs s.field1.count s.field2.count
      → counted ≡ counted_of s.true_count s.pad n s.field2_next s.field1.count s.field2.count → m ≡ built_by n counted triples k l s
      → m ≡ built pairs triples k l s
  unfolding built
  built_at pairs turns counts made = rw (made, counts, turns)
