-- The list of pairs after a frame, and the test of such a list. No public contract of `parser` reaches this file. Assumes nothing.
use Rattle.std.specs.Prelude.{List, Bool, true, cond, ◌&&◌, ℕ, zero, suc, ◌+◌, ◌*◌, length, get_or, drop, eqb, leb}
use Rattle.std.proofs.lemmas.List.Edits.{sets}
use Rattle.model.specs.Frame.{Seen}
use Rattle.model.specs.Demux.{pairs_in}
use Rattle.parser_triples.specs.Walk.{seen_from}
use Rattle.parser_lists.specs.Pairs.{placed_all}

-- a list that holds so many pairs, and its places
pub record Listing : Type 0 where
  pub count : ℕ
  pub places : List ℕ

-- [F7] the pairs of triples, laid behind the n that are there; places further on stay
unfoldable pub listing : ℕ → List ℕ → List Seen → Listing
listing n l ts = record { count = n + length (pairs_in ts); places = sets l (3 * n) (placed_all (pairs_in ts)) }

-- [F1] the list is emptied, and then the pairs of the frame are listed where that is asked; [S5] a frame has at most 95 bytes
unfoldable pub listed_by : Bool → List ℕ → List ℕ → Listing
listed_by lists l f = cond (lists && leb (length f) 95) (listing 0 l (seen_from 0 f)) (record { count = 0; places = l })

-- each of the first n pairs is marked as one of field 1 (0) or 2 (1)
unfoldable pub fields_fine : ℕ → List ℕ → Bool
fields_fine zero l = true
fields_fine (suc n) l = leb (get_or l 0 0) 1 && fields_fine n (drop 3 l)

-- n pairs have places, and there are none while 608 is off
unfoldable pub list_fine : Bool → ℕ → List ℕ → Bool
list_fine on n l = leb n 31 && cond on (fields_fine n l) (eqb n 0)
