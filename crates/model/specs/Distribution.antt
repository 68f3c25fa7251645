-- Caption distribution packets: rules L of docs/RULES.md, the layout of SMPTE ST 334-2. Assumes nothing.
use Rattle.std.specs.Prelude.{Bool, true, cond, not, ◌&&◌, List, [], ◌∷◌, ◌++◌, ℕ, ◌+◌, ◌-◌, ◌*◌, ◌/◌, ◌%◌, ◌^◌, eqb, leb, length, get_or, take, drop}
use Rattle.std.proofs.Math.Option.{Option, none, some}
use Rattle.model.specs.Said.{Outcome, gave, refused, and_then, mapped, put_into, bad_mark, bad_section, bad_sum, counters_differ, not_newer}
use Rattle.model.specs.Frame.{Triple, flat, triples_in, count_in, frame_bytes}
use Rattle.model.specs.Rate.{Rate, rate}

-- the code of a rate, the packet's counter, and its triples
pub record Distribution : Type 0 where
  pub code : ℕ
  pub counter : ℕ
  pub triples : List Triple

-- the rates that have codes, from 1 on [L2]
abbrev pub coded_rates : List Rate
coded_rates = rate 24000 1001 ∷ rate 24 1 ∷ rate 25 1 ∷ rate 30000 1001 ∷ rate 30 1 ∷ rate 50 1 ∷ rate 60000 1001 ∷ rate 60 1 ∷ []

-- whether a rate has this code [L2]
unfoldable pub is_coded : ℕ → Bool
is_coded code = leb 1 code && leb code (length coded_rates)

-- the rate of a code; 17 if there is none [L2]
unfoldable pub rate_of : ℕ → Outcome Rate
rate_of code = cond (is_coded code) (gave (get_or coded_rates (code - 1) (rate 0 0))) (refused bad_section)

-- how many bytes a packet of n triples has [L1]
abbrev pub length_with : ℕ → ℕ
length_with n = 13 + 3 * n

-- a counter in two bytes, the higher first [L1]
abbrev pub two_bytes : ℕ → List ℕ
two_bytes n = n / 256 ∷ n % 256 ∷ []

-- the sum of bytes [L1]
unfoldable pub sum_of : List ℕ → ℕ
sum_of [] = 0
sum_of (b ∷ d) = b + sum_of d

-- the byte that makes a sum 0 modulo 256 [L1]
unfoldable pub closing : ℕ → ℕ
closing s = (256 - s % 256) % 256

-- what a reader leaves unread [L4]: the lower half of the rate's byte, the flags but for two of them, and what stands beside the count
pub record Unread : Type 0 where
  pub beside_code : ℕ
  pub flags : ℕ
  pub beside_count : ℕ

-- and what is written there [L3]: ones, 0x43 and ones
abbrev pub as_written : Unread
as_written = record { beside_code = 15; flags = 0x43; beside_count = 7 }

-- the three sections of a packet: the head, the captions and the footer [L1]
unfoldable pub sections : Unread → Distribution → List ℕ
sections u d =
    let n = length d.triples in
    0x96 ∷ 0x69 ∷ length_with n ∷ (16 * d.code + u.beside_code) ∷ u.flags ∷ two_bytes d.counter
    ++ 0x72 ∷ (32 * u.beside_count + n) ∷ flat d.triples
    ++ 0x74 ∷ two_bytes d.counter

-- a packet: its sections, and the byte that closes their sum [L1]
unfoldable pub laid_out : Unread → Distribution → List ℕ
laid_out u d = sections u d ++ (closing (sum_of (sections u d)) ∷ [])

-- a packet as it is written [L3]
abbrev pub distribution_bytes : Distribution → List ℕ
distribution_bytes d = laid_out as_written d

-- 0x96 0x69 stand first [L4]
unfoldable pub has_mark : List ℕ → Bool
has_mark s = eqb (get_or s 0 0) 0x96 && eqb (get_or s 1 0) 0x69

-- the two flags that announce a section: 0x80 time code, 0x20 service information [L4]
unfoldable pub announces_more : ℕ → Bool
announces_more flags = not (eqb (flags / 128 % 2) 0 && eqb (flags / 32 % 2) 0)

-- the count behind the mark of the captions [L1]
abbrev pub count_of : List ℕ → ℕ
count_of s = count_in (get_or s 8 0)

-- the length is told, the rate has a code, no other section is announced, both sections have their marks where they must be, and the length is that
-- of so many triples [L4]
unfoldable pub sections_in_order : List ℕ → Bool
sections_in_order s =
    leb 13 (length s)
    && (eqb (get_or s 2 0) (length s)
    && (is_coded (get_or s 3 0 / 16)
    && (not (announces_more (get_or s 4 0))
    && (eqb (get_or s 7 0) 0x72
    && (eqb (get_or s (length s - 4) 0) 0x74
    && eqb (length s) (length_with (count_of s)))))))

-- the counter in the two bytes from a place on [L1]
abbrev pub counter_at : ℕ → List ℕ → ℕ
counter_at at s = 256 * get_or s at 0 + get_or s (at + 1) 0

-- the sum of all bytes is 0 modulo 256 [L4]
unfoldable pub sums_up : List ℕ → Bool
sums_up s = eqb (sum_of s % 256) 0

-- head and footer have the same counter [L4]
unfoldable pub counters_agree : List ℕ → Bool
counters_agree s = eqb (counter_at 5 s) (counter_at (length s - 3) s)

-- the packet that stands in bytes which pass those tests [L6]
abbrev pub held_in : List ℕ → Distribution
held_in s = record { code = get_or s 3 0 / 16; counter = counter_at 5 s; triples = triples_in (take (3 * count_of s) (drop 9 s)) }

-- The packet in some bytes, whatever came before: 16, 17, 18, 19 in this order [L4].
unfoldable pub opened : List ℕ → Outcome Distribution
opened s =
    cond (has_mark s)
    (cond (sections_in_order s)
    (cond (sums_up s) (cond (counters_agree s) (gave (held_in s)) (refused counters_differ)) (refused bad_sum))
    (refused bad_section))
    (refused bad_mark)

-- how far a counter lies ahead of the last one, counting on from 65,535 at 0 [L5]
unfoldable pub ahead : ℕ → ℕ → ℕ
ahead last counter = (counter + (2 ^ 16 - last)) % 2 ^ 16

-- newer is 1 to 32,767 ahead [L5]
unfoldable pub newer : ℕ → ℕ → Bool
newer last counter = leb 1 (ahead last counter) && leb (ahead last counter) 32767

-- what a reader takes that has last accepted this counter, or none yet [L5]
unfoldable pub takes : Option ℕ → ℕ → Bool
takes none counter = true
takes (some last) counter = newer last counter

-- the frame of a packet: C0 and the count, FF, and its triples [L6]
abbrev pub frame_of : Distribution → List ℕ
frame_of d = frame_bytes (record { count = length d.triples; triples = d.triples })

-- a packet that is read, the lent output with its frame, and the counter accepted last
pub record Received : Type 0 where
  pub packet : Distribution
  pub out : List ℕ
  pub last : Option ℕ

-- a packet that is taken, its frame written to a lent output [L6]
unfoldable pub received_into : List ℕ → Distribution → Outcome Received
received_into out d = mapped (λ o. record { packet = d; out = o; last = some d.counter }) (put_into out (frame_of d))

-- A packet read: 16 to 19, then 20, then 9 [A4] [L5] [L6].
unfoldable pub receive : Option ℕ → List ℕ → List ℕ → Outcome Received
receive last s out = and_then (opened s) (λ d. cond (takes last d.counter) (received_into out d) (refused not_newer))

-- the counter behind a counter [L5]
unfoldable pub counter_after : ℕ → ℕ
counter_after counter = (counter + 1) % 2 ^ 16

-- a frame with as many triples as its first byte says [L3]
unfoldable pub is_whole : List ℕ → Bool
is_whole f = eqb (length f) (3 * count_in (get_or f 0 0) + 2)

-- the packet of a frame's triples [L3]
abbrev pub distribution_of : ℕ → ℕ → List ℕ → Distribution
distribution_of counter code f = record { code = code; counter = counter; triples = triples_in (drop 2 f) }

-- a frame as a packet: 17 if it is not whole or the rate has no such code [L3]
unfoldable pub packed : ℕ → ℕ → List ℕ → Outcome Distribution
packed counter code f = cond (is_whole f && is_coded code) (gave (distribution_of counter code f)) (refused bad_section)

-- the packet's bytes, the lent output with them, and the counter of the next
pub record Distributed : Type 0 where
  pub bytes : List ℕ
  pub out : List ℕ
  pub next : ℕ

-- a packet written to a lent output; the next has the counter behind its own [L5]
unfoldable pub sent_into : List ℕ → Distribution → Outcome Distributed
sent_into out d = mapped (λ o. record { bytes = distribution_bytes d; out = o; next = counter_after d.counter }) (put_into out (distribution_bytes d))

-- A frame written as a packet: 17, then 9 [A4] [L3].
unfoldable pub distribute : ℕ → ℕ → List ℕ → List ℕ → Outcome Distributed
distribute counter code f out = and_then (packed counter code f) (sent_into out)
