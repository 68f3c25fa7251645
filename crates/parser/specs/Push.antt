-- The steps of reading a frame. No public contract reaches this file. Assumes nothing.
use Rattle.std.specs.Prelude.{List, [], Bool, cond, ℕ, ltb}
use Rattle.model.specs.Said.{Said, accepted, cea608_after_cea708, full, frame_length_wrong}
use Rattle.parser_triples.specs.declared.Plan.{Plan}
use Rattle.parser_triples.specs.declared.Plan.TheVariants.{Unread, LengthWrong, Late, Pairs, Packets}
use Rattle.parser_lists.specs.Listing.{Listing, listed_by}
use Rattle.parser_gather.specs.Gather.{Left, left_after}
use Rattle.parser.specs.declared.CCDataParser.{CCDataParser}

-- the list of pairs after a frame, and what is gathered of it
abbrev pub listing_of : CCDataParser → List ℕ → Listing
listing_of p f = listed_by p.cea608_on p.pairs f

abbrev pub left_of : CCDataParser → List ℕ → Left
left_of p f = left_after p.waiting_first p.waiting_count p.waiting p.pending_len p.pending f

-- the state with another list of pairs
abbrev pub with_list : CCDataParser → Listing → CCDataParser
with_list p l = record p { pair_count = l.count; pairs = l.places }

-- the state with other pending bytes and another ring
abbrev pub with_left : CCDataParser → Left → CCDataParser
with_left p g = record p { pending_len = g.pending; pending = g.bytes; waiting_count = g.count; waiting = g.slots }

-- more packets would wait than there are places [F13]
abbrev pub over : CCDataParser → List ℕ → Bool
over p f = ltb 32 (left_of p f).count

-- what gathering answers then, and what it leaves: all as it was
abbrev pub gather_says : CCDataParser → List ℕ → Said
gather_says p f = cond (over p f) full (accepted [])

abbrev pub gathered : CCDataParser → List ℕ → CCDataParser
gathered p f = cond (over p f) p (with_left p (left_of p f))

-- what a plan answers, unless no place is left
abbrev pub plan_says : Plan → Said
plan_says Unread = accepted []
plan_says (LengthWrong expected actual) = frame_length_wrong expected actual
plan_says (Late at) = cea608_after_cea708 at
plan_says Pairs = accepted []
plan_says Packets = accepted []

-- the list of pairs after it
abbrev pub plan_lists : CCDataParser → List ℕ → Plan → Listing
plan_lists p f Unread = record { count = 0; places = p.pairs }
plan_lists p f (LengthWrong expected actual) = record { count = 0; places = p.pairs }
plan_lists p f (Late at) = listing_of p f
plan_lists p f Pairs = listing_of p f
plan_lists p f Packets = listing_of p f

-- pending bytes and a ring that stay
abbrev pub kept : CCDataParser → Left
kept p = record { pending = p.pending_len; bytes = p.pending; count = p.waiting_count; slots = p.waiting }

-- the pending bytes and the ring after it
abbrev pub plan_leaves : CCDataParser → List ℕ → Plan → Left
plan_leaves p f Unread = kept p
plan_leaves p f (LengthWrong expected actual) = kept p
plan_leaves p f (Late at) = kept p
plan_leaves p f Pairs = kept p
plan_leaves p f Packets = left_of p f
