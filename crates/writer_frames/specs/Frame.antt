-- A frame under construction, whatever is laid into it: [W3], [W7] and [W8]. No public contract of `writer` reaches this file. Assumes nothing.
use Rattle.std.specs.Prelude.{Bool, cond, ◌&&◌, List, [], ◌∷◌, ◌++◌, ℕ, zero, suc, ◌+◌, ◌-◌, ◌*◌, eqb, leb, length, get_or, take, drop, replicate}
use Rattle.std.proofs.lemmas.List.Edits.{sets}
use Rattle.model.specs.Frame.{Triple, tri, most_frame}
use Rattle.model.specs.Rate.{most_triples}
use Rattle.writer_frames.specs.declared.Frame.{Frame}

-- the first two bytes of a frame [W3]
unfoldable pub headed : ℕ → Frame
headed count = record { bytes = (0xC0 + count) ∷ 0xFF ∷ replicate 93 0; len = 2 }

-- a frame with more bytes behind those that it has
abbrev pub appended : Frame → List ℕ → Frame
appended f x = record { bytes = sets f.bytes f.len x; len = f.len + length x }

-- room for n triples in a frame [S5]
unfoldable pub fits : Frame → ℕ → Bool
fits f n = leb n most_triples && leb f.len (most_frame - 3 * n)

-- the first triple of a packet, and any other [W7]
abbrev pub mark : ℕ → ℕ
mark at = cond (eqb at 0) 0xFF 0xFE

-- n packet triples, with the bytes from `at` on [W7]
unfoldable pub triples_at : ℕ → ℕ → List ℕ → List Triple
triples_at zero at d = []
triples_at (suc n) at d = tri (mark at) (get_or d at 0) (get_or d (at + 1) 0) ∷ triples_at n (at + 2) d

-- so many bytes are there
unfoldable pub carries : ℕ → ℕ → Bool
carries at n = leb at 128 && leb (2 * n) (128 - at)

-- n triples of padding [W8]
abbrev pub fillers : ℕ → List Triple
fillers n = replicate n (tri 0xFA 0x00 0x00)

-- the frame's bytes at the front of a lent output, what stands behind them as it was [A5]. Nothing where they do not fit
unfoldable pub emitted : Frame → List ℕ → List ℕ
emitted f out = cond (leb f.len most_frame && leb f.len (length out)) (take f.len f.bytes ++ drop f.len out) out
