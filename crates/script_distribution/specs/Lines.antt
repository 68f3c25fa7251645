-- The line of a script that tells of a distribution packet which is read. Assumes nothing.
use Rattle.std.specs.Prelude.{List, [], ◌∷◌, ℕ, take, Result, Ok, Err}
use Rattle.model.specs.Said.{Outcome, gave, refused, accepted}
use Rattle.model.specs.Distribution.{frame_of}
use Rattle.model.specs.Distribution as packets
use Rattle.caption.specs.Answers.{said_refusal}
use Rattle.distribution.specs.declared.Received.{Received}
use Rattle.caption.specs.declared.Refusal.{Refusal}
use Rattle.script_answers.specs.Script.{answer_line, lent_line}

-- the code of its rate, its counter and its frame
abbrev pub packet_line : ℕ → ℕ → List ℕ → List ℕ
packet_line code counter frame = lent_line (accepted (code ∷ counter ∷ [])) frame

-- these of a packet that is read, or why it is refused
abbrev pub received_line : Outcome packets.Received → List ℕ
received_line (gave x) = packet_line x.packet.code x.packet.counter (frame_of x.packet)
received_line (refused why) = answer_line why

-- The same as it is laid, by what a reader answers and the output that it was lent: the frame is at its front.
abbrev pub front_line : Result Received Refusal → List ℕ → List ℕ
front_line (Ok x) lent = packet_line x.code x.counter (take x.len lent)
front_line (Err why) lent = answer_line (said_refusal why)
