-- Drawing until there is none left gives all that is there, in order. Assumes nothing.
use mathlib.Core.Path.{◌≡◌, refl}
use mathlib.Core.Bool.{Bool}
use mathlib.Core.List.{List, [], ◌∷◌, ◌++◌, map}
use Prim.Native.Nat.{ℕ, suc, ◌+◌}
use native.Mathlib.Omega.{arith}
use lib.ListN.{length}
use Rattle.model.specs.Packet.{Packet}
use Rattle.model.specs.Frame.{Cea608}
use Rattle.model.specs.Demux.{Demux, Item, a_pair, a_packet, no_item, draw}
use Rattle.model.specs.Run.{draw_times, emptied}

-- the items of a demultiplexer
abbrev pub items_in : Demux → List Item
items_in d = map a_pair d.pairs ++ map a_packet d.waiting

-- by the lists of pairs and packets
draws : (on : Bool) (pending : List ℕ) (pairs : List Cea608) (waiting : List Packet)
    → (let d : Demux = record { on608 = on; pairs = pairs; pending = pending; waiting = waiting } in draw_times (length pairs + length waiting) d ≡ record { items = items_in d; last = emptied d })
unfolding draw_times draw
draws on pending [] [] = refl
draws on pending [] (p ∷ waiting) = let e : 0 + suc (length waiting) ≡ suc (0 + length waiting) = omega arith in rw (e, draws on pending [] waiting)
draws on pending (x ∷ pairs) waiting = let e : suc (length pairs) + length waiting ≡ suc (length pairs + length waiting) = omega arith in rw (e, draws on pending pairs waiting)

-- the pairs in order, then the packets, each removed [F14]
pub draws_all : (d : Demux) → draw_times (length d.pairs + length d.waiting) d ≡ record { items = items_in d; last = emptied d }
draws_all d = draws d.on608 d.pending d.pairs d.waiting

-- with nothing left the draw says so [F14]
pub draws_none : (d : Demux) → draw (emptied d) ≡ record { item = no_item; next = emptied d }
unfolding draw
draws_none d = refl
