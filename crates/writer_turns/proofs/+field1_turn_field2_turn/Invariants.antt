-- The turns left fall. Assumes nothing.
use Rattle.writer_turns.proofs.+field1_turn_field2_turn.Given as goal

abbrev pub decreases-field1_turn : goal.decreases-field1_turn
decreases-field1_turn l = l.left

abbrev pub decreases-field2_turn : goal.decreases-field2_turn
decreases-field2_turn l = l.left
