-- The triples of a frame, from one of them to the last. No public contract of `parser` reaches this file. Assumes nothing.
use Rattle.std.specs.Prelude.{List, ℕ, ◌+◌, ◌*◌, drop}
use Rattle.model.specs.Frame.{Seen, seen_all, triples_in}

-- [F4] triples begin at the third byte: what a reader sees in those from the i-th on
abbrev pub seen_from : ℕ → List ℕ → List Seen
seen_from i f = seen_all (triples_in (drop (3 * i + 2) f))
