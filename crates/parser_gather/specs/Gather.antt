-- What gathering leaves in places, and its steps. No public contract of `parser` reaches this file. Assumes nothing.
use Rattle.std.specs.Prelude.{◌≡◌, List, [], ◌∷◌, ◌++◌, Bool, false, cond, ℕ, ◌+◌, ◌-◌, ◌*◌, ◌%◌, ◌≤◌, length, get_or, set, take, replicate, eqb}
use Rattle.std.proofs.lemmas.List.Edits.{sets}
use Rattle.model.specs.Frame.{Seen, first, second, start, more, void608, void708}
use Rattle.model.specs.Packet.{packet_size, reads}
use Rattle.model.specs.Demux.{Gathered, wants, gather, ended}
use Rattle.slots.specs.declared.Slot.{Slot}
use Rattle.parser_triples.specs.Walk.{seen_from}
use Rattle.parser_gather.specs.declared.Run.{Run}
use Rattle.parser_gather.specs.declared.Triple.{Triple}
use Rattle.parser_gather.specs.declared.Remains.{Remains}
use Rattle.parser_rings.specs.Ring.{cleared_for, with_runs}
use Rattle.parser_gather.specs.Tests.{ready_for}

-- what a frame leaves: pending bytes in their places, and the waiting slots
pub record Left : Type 0 where
  pub pending : ℕ
  pub bytes : List ℕ
  pub count : ℕ
  pub slots : List Slot

-- what the code gives, with the places of the pending bytes and the slots
abbrev pub left_in : Remains → List ℕ → List Slot → Left
left_in g l slots = record { pending = g.pending; bytes = l; count = g.waiting; slots = slots }

-- bytes laid into the slot behind the n that wait from f on; cleared ones where none does
abbrev pub kept_slots : ℕ → ℕ → List Slot → ℕ → List ℕ → List Slot
kept_slots f n slots len bytes = set (cleared_for n slots) ((f + n) % 32) (record { len = len; bytes = bytes })

-- what is gathered: its bytes laid over the places, and its runs behind the slots that wait
abbrev pub left_of : ℕ → ℕ → List Slot → List ℕ → Gathered → Left
left_of f n slots l o =
    record { pending = length o.bytes; bytes = sets l 0 o.bytes; count = n + length o.runs; slots = with_runs f n slots o.runs }

-- what a frame leaves whose triples are all gathered, of n pending bytes and count slots
abbrev pub left_gathered : ℕ → ℕ → List Slot → ℕ → List ℕ → List ℕ → Left
left_gathered f count slots n l frame = left_of f count slots l (ended (gather (take n l) (seen_from 0 frame)))

-- the frame is gathered where the places are within their limits; else all stays
unfoldable pub left_after : ℕ → ℕ → List Slot → ℕ → List ℕ → List ℕ → Left
left_after f count slots n l frame =
    cond (ready_for f count n l) (left_gathered f count slots n l frame)
    (record { pending = n; bytes = l; count = count; slots = slots })

-- the triple at a place of a frame
abbrev pub triple_at : ℕ → List ℕ → Triple
triple_at i d = record { kind = get_or d (3 * i + 2) 0; x = get_or d (3 * i + 3) 0; y = get_or d (3 * i + 4) 0 }

-- the bytes still wanted, the bytes gathered, and the places that they stand in
pub record Held : Type 0 where
  pub need : ℕ
  pub len : ℕ
  pub bytes : List ℕ

-- a run and its places
abbrev pub held_by : Run → List ℕ → Held
held_by s l = record { need = s.need; len = s.len; bytes = l }

-- two bytes more, while any are wanted
unfoldable pub put_two : ℕ → ℕ → Held → Held
put_two x y h =
    cond (eqb h.need 0) h
    (record { need = h.need - 2; len = h.len + 2; bytes = set (set h.bytes h.len x) (h.len + 1) y })

-- the bytes g as they are gathered: zeros stand behind them, and `need` is what they still want
pub record Holds (h : Held) (g : List ℕ) : Type 0 where
  pub size : h.len ≡ length g
  pub laid : h.bytes ≡ sets (replicate 128 0) 0 g
  pub need : h.need ≡ wants g
  pub even : length g % 2 ≡ 0
  pub most : length g ≤ packet_size (get_or g 0 0)

-- what is gathered and what is wanted have room, and triples bring two bytes each
pub record Sized (s : Run) : Type 0 where
  pub even : s.need % 2 ≡ 0
  pub room : s.need + s.len ≤ 128

-- the bytes gathered after a triple
abbrev pub put : Seen → List ℕ → List ℕ
put (start x y) g = take (packet_size x) (x ∷ y ∷ [])
put (more x y) g = g ++ take (wants g) (x ∷ y ∷ [])
put (first x y) g = g
put (second x y) g = g
put void608 g = g
put void708 g = g

-- whether a triple closes bytes that read
unfoldable pub closes_by : Seen → List ℕ → Bool
closes_by (start x y) g = reads g
closes_by (more x y) g = false
closes_by (first x y) g = false
closes_by (second x y) g = false
closes_by void608 g = false
closes_by void708 g = false
