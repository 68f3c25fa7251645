-- What functions of this crate that are not public go by: no public contract reaches this file. Assumes nothing.
use Rattle.std.specs.Prelude.{Bool, cond, List, [], map, ℕ, ltb}
use Rattle.model.specs.Said.{Said, Outcome, gave, refused, says, checked, accepted, bad_number}
use Rattle.model.specs.Block.{Block}
use Rattle.model.specs.Packet.{Packet}
use Rattle.packet_entries.specs.Fields.{blocks_held}

-- the payloads of the first k blocks of sizes, one behind the other: their numbers say nothing of them
unfoldable pub payloads_held : ℕ → List ℕ → List ℕ → List (List ℕ)
payloads_held k ss d = map (λ (b : Block). b.payload) (blocks_held k [] ss d)

-- a push of a run that the profile refuses
unfoldable pub stopped : ℕ → Said → Outcome Packet
stopped n why = cond (ltb 63 n) (refused bad_number) (refused why)

-- what is told before a push, by the codes of its run: nothing where it has them, and else 11, 6, or why it has none
abbrev pub screened : Bool → ℕ → Outcome (List (List ℕ)) → Said
screened valid n (gave cs) = accepted []
screened valid n (refused why) = says (checked valid (stopped n why))
