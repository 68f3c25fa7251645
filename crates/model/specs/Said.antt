-- What a call answers [A1]. Of several refusals that a call could give, the first of a fixed order is given [A4]. The calls of this folder are of
-- values within the limits, and test in that order from 6 on. That 11 comes before is `checked`: a contract puts it round the call; round a call of the
-- demultiplexer, which tells its state after a refusal too, it puts the same choice of the answer and of the state. The test is that of this folder
-- (`valid_block`, `valid_packet`, `valid_demux`, `valid_mux`) of what a value means, beside the test that its places are in order. Assumes nothing.
use Rattle.std.specs.Prelude.{Bool, true, false, cond, List, [], ◌∷◌, ◌++◌, ℕ, ltb, length, drop}

-- What an answer says: the number of the refusal and the values that it carries, in order; 0 says accepted [A1].
pub record Said : Type 0 where
  pub number : ℕ
  pub values : List ℕ

-- 0: accepted, with the values that the call gives
abbrev pub accepted : List ℕ → Said
accepted values = record { number = 0; values = values }

-- 2: a pair behind packet data [R2]
abbrev pub cea608_after_cea708 : ℕ → Said
cea608_after_cea708 byte_pos = record { number = 2; values = byte_pos ∷ [] }

-- 3: a run or a block does not fit [R3]
abbrev pub would_overflow : ℕ → Said
would_overflow bytes_over = record { number = 3; values = bytes_over ∷ [] }

-- 4: a run for service 0 [R4]
abbrev pub read_only : Said
read_only = record { number = 4; values = [] }

-- 5: a block without payload is pushed [R5]
abbrev pub empty_service : Said
empty_service = record { number = 5; values = [] }

-- 6: no number of its kind, where the Rust panics [R6]
abbrev pub bad_number : Said
bad_number = record { number = 6; values = [] }

-- 7: nothing to push [R7]
abbrev pub bad_run : Said
bad_run = record { number = 7; values = [] }

-- 8: a rate without budgets [R8]
abbrev pub bad_rate : Said
bad_rate = record { number = 8; values = [] }

-- 9: fewer lent bytes than would be written [R9]
abbrev pub out_short : ℕ → Said
out_short needed = record { number = 9; values = needed ∷ [] }

-- 10: there is no place [R10]
abbrev pub full : Said
full = record { number = 10; values = [] }

-- 11: a value that breaks a limit [R11]
abbrev pub bad_value : Said
bad_value = record { number = 11; values = [] }

-- 12: a frame has another length than its count asks for [R12]
abbrev pub frame_length_wrong : ℕ → ℕ → Said
frame_length_wrong expected actual = record { number = 12; values = expected ∷ actual ∷ [] }

-- 13: a packet has another length than its header allows; the offset is that of the packet [R13]
abbrev pub packet_length_wrong : ℕ → ℕ → ℕ → Said
packet_length_wrong expected actual offset = record { number = 13; values = expected ∷ actual ∷ offset ∷ [] }

-- 14: a block's header is cut short; the offset is that of the block's first byte in its packet [R14]
abbrev pub block_header_short : ℕ → ℕ → ℕ → Said
block_header_short expected actual offset = record { number = 14; values = expected ∷ actual ∷ offset ∷ [] }

-- 15: a block's body is cut short; the offset is that of the block's first byte too [R15]
abbrev pub block_body_short : ℕ → ℕ → ℕ → Said
block_body_short expected actual offset = record { number = 15; values = expected ∷ actual ∷ offset ∷ [] }

-- 16: what is read does not begin as a distribution packet does [R16]
abbrev pub bad_mark : Said
bad_mark = record { number = 16; values = [] }

-- 17: the length, a section or the rate of a distribution packet is wrong [R17]
abbrev pub bad_section : Said
bad_section = record { number = 17; values = [] }

-- 18: the sum of its bytes is wrong [R18]
abbrev pub bad_sum : Said
bad_sum = record { number = 18; values = [] }

-- 19: its two counters differ [R19]
abbrev pub counters_differ : Said
counters_differ = record { number = 19; values = [] }

-- 20: it is not newer than the last one [R20]
abbrev pub not_newer : Said
not_newer = record { number = 20; values = [] }

-- 21: the byte that would tell the length of a code tells none [R21]
abbrev pub unknown_length : Said
unknown_length = record { number = 21; values = [] }

-- 22: the bytes end within a code [R22]
abbrev pub code_cut_short : Said
code_cut_short = record { number = 22; values = [] }

-- 23: a byte is in no piece of a proposal or in more than one, or a piece holds none or one that is no byte of a run [R23]
abbrev pub bad_cover : Said
bad_cover = record { number = 23; values = [] }

-- 24: the bytes of a service do not keep their order [R24]
abbrev pub out_of_order : Said
out_of_order = record { number = 24; values = [] }

-- 25: a run is split across blocks [R25]
abbrev pub run_split : Said
run_split = record { number = 25; values = [] }

-- 26: a limit on runs, blocks or packets is broken [R26]
abbrev pub over_limit : Said
over_limit = record { number = 26; values = [] }

-- A call gives its value, or refuses and gives none.
pub data Outcome (A : Type 0) : Type 0 where
  gave : A → Outcome A
  refused : Said → Outcome A

module _ {A : Type 0} where
  -- what an outcome says, where the value given is told by `values`
  abbrev pub says_with : (A → List ℕ) → Outcome A → Said
  says_with values (gave x) = accepted (values x)
  says_with values (refused why) = why

  -- what an outcome says whose value is not told
  abbrev pub says : Outcome A → Said
  says o = says_with (λ _. []) o

  -- whether a call is accepted
  abbrev pub is_given : Outcome A → Bool
  is_given (gave x) = true
  is_given (refused why) = false

  -- what is there after a call, if `old` was before: a refusal changes nothing [A2]
  abbrev pub after : A → Outcome A → A
  after old (gave new) = new
  after old (refused why) = old

  -- 11 before all others [A4]: a call on a value that breaks a limit is refused, whatever else it would answer
  abbrev pub checked : Bool → Outcome A → Outcome A
  checked valid o = cond valid o (refused bad_value)

-- a number that is asked of a value: 11 where the value breaks a limit
abbrev pub measured : Bool → ℕ → Said
measured valid n = says_with (λ k. k ∷ []) (checked valid (gave n))

module _ {A B : Type 0} where
  -- the second call is made with what the first gives; a refusal of the first is the refusal of both
  abbrev pub and_then : Outcome A → (A → Outcome B) → Outcome B
  and_then (gave x) next = next x
  and_then (refused why) next = refused why

  -- what a call gives, made into another value; a refusal stays what it is
  abbrev pub mapped : (A → B) → Outcome A → Outcome B
  mapped f (gave x) = gave (f x)
  mapped f (refused why) = refused why

-- Bytes written to a lent output: 9 where it is too short, with the length that is needed [R9]; else the bytes behind them stay [A5].
unfoldable pub put_into : List ℕ → List ℕ → Outcome (List ℕ)
put_into out bytes = cond (ltb (length out) (length bytes)) (refused (out_short (length bytes))) (gave (bytes ++ drop (length bytes) out))
