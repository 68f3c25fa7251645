-- What the shared answers say [A1]: the number of a refusal in the table R, and the values that it carries. Assumes nothing.
use Rattle.std.specs.Prelude.{Result, Ok, Err, List, ℕ, cond, [], ◌∷◌}
use Rattle.model.specs.Said.{Said, Outcome, gave, refused, says_with, accepted, cea608_after_cea708, would_overflow, read_only, empty_service, bad_number, bad_run, bad_rate, out_short, full, bad_value, frame_length_wrong, packet_length_wrong, block_header_short, block_body_short, bad_mark, bad_section, bad_sum, counters_differ, not_newer, unknown_length, code_cut_short, bad_cover, out_of_order, run_split, over_limit}
use Rattle.caption.specs.declared.Refusal.{Refusal}
use Rattle.caption.specs.declared.Refusal.TheVariants.{Cea608AfterCea708, WouldOverflow, ReadOnly, EmptyService, BadNumber, BadRun, BadRate, OutShort, Full, BadValue, FrameLengthWrong, PacketLengthWrong, BlockHeaderShort, BlockBodyShort, BadMark, BadSection, BadSum, CountersDiffer, NotNewer, UnknownLength, CodeCutShort, BadCover, OutOfOrder, RunSplit, OverLimit}

-- the table, row by row
abbrev pub said_refusal : Refusal → Said
said_refusal (Cea608AfterCea708 byte_pos) = cea608_after_cea708 byte_pos
said_refusal (WouldOverflow bytes_over) = would_overflow bytes_over
said_refusal ReadOnly = read_only
said_refusal EmptyService = empty_service
said_refusal BadNumber = bad_number
said_refusal BadRun = bad_run
said_refusal BadRate = bad_rate
said_refusal (OutShort needed) = out_short needed
said_refusal Full = full
said_refusal BadValue = bad_value
said_refusal (FrameLengthWrong expected actual) = frame_length_wrong expected actual
said_refusal (PacketLengthWrong expected actual offset) = packet_length_wrong expected actual offset
said_refusal (BlockHeaderShort expected actual offset) = block_header_short expected actual offset
said_refusal (BlockBodyShort expected actual offset) = block_body_short expected actual offset
said_refusal BadMark = bad_mark
said_refusal BadSection = bad_section
said_refusal BadSum = bad_sum
said_refusal CountersDiffer = counters_differ
said_refusal NotNewer = not_newer
said_refusal UnknownLength = unknown_length
said_refusal CodeCutShort = code_cut_short
said_refusal BadCover = bad_cover
said_refusal OutOfOrder = out_of_order
said_refusal RunSplit = run_split
said_refusal OverLimit = over_limit

-- What a call answers, as an outcome of the model: `Ok` gives its value, and `Err` refuses with the number and the values of its row.
abbrev pub outcome : {A : Type 0} → Result A Refusal → Outcome A
outcome (Ok x) = gave x
outcome (Err why) = refused (said_refusal why)

-- what an answer says, where the value given is told by `values`
abbrev pub said : {A : Type 0} → (A → List ℕ) → Result A Refusal → Said
said values r = says_with values (outcome r)
