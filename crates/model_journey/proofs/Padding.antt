-- Output padding, as a reader sees it. Assumes nothing.
use mathlib.Core.Path.{◌≡◌, refl}
use mathlib.Core.Bool.{Bool, true, false, cond}
use mathlib.Core.List.{List, []}
use Prim.Native.Nat.{ℕ, zero, suc}
use lib.ListN.{length, length-replicate}
use Rattle.model.specs.Frame.{tri, seen, seen_all}
use Rattle.model.specs.Demux.{gather}
use Rattle.model.specs.Mux.{padding}
use Rattle.model_journey.specs.Bounds.{packet_triples_in}
use Rattle.model_journey.proofs.Parts.{In708, end7, void7}

-- as many triples as are left, if it is on
pub padding_length : (on : Bool) (n : ℕ) → length (padding on n) ≡ cond on n 0
unfolding padding
padding_length true n = length-replicate n (tri 0xFA 0x00 0x00)
padding_length false n = refl

-- it is a 708 part
pub padding_seen : (on : Bool) (n : ℕ) → In708 (seen_all (padding on n))
unfolding padding seen_all seen
padding_seen false n = end7
padding_seen true zero = end7
padding_seen true (suc n) = void7 (padding_seen true n)

-- of which nothing is gathered
pub padding_inert : (on : Bool) (n : ℕ) (g : List ℕ) → gather g (seen_all (padding on n)) ≡ record { runs = []; bytes = g }
unfolding padding seen_all seen gather
padding_inert false n g = refl
padding_inert true zero g = refl
padding_inert true (suc n) g = padding_inert true n g

-- and which has no packet triple
pub padding_none : (on : Bool) (n : ℕ) → packet_triples_in (seen_all (padding on n)) ≡ 0
unfolding padding seen_all seen packet_triples_in
padding_none false n = refl
padding_none true zero = refl
padding_none true (suc n) = padding_none true n
