-- The functions that list the pairs of a frame and test a list of pairs. Assumes nothing.
use mathlib.Core.Path.{◌≡◌, sym, ap, ◌∙◌}
use mathlib.Core.List.{List}
use Prim.Native.Nat.{ℕ}
use contract.Lifetimes.{Lfts}
use Rattle.parser_lists.specs.Listing.{Listing}
use Rattle.parser_lists.proofs.list_frame.Reads as ListFrameReads
use Rattle.parser_lists.proofs.list_good.Reads as ListGoodReads
use Rattle.determined.specs.Determines.{Determines, DeterminesLent}
use Rattle.determined.proofs.Ways.{equal}

-- pairs laid into a lent list, and how many
lists : {A E : Type 0} {list : A → Listing} {lent : E → List ℕ} → DeterminesLent lent (λ (a : A) (r : ℕ) (e : E). record { count = r; places = lent e } ≡ list a)
lists = record { result = λ a r q e f h k. ap (λ (x : Listing). x.count) (h ∙ sym k); contents = λ a r q e f h k. ap (λ (x : Listing). x.places) (h ∙ sym k) }

-- `list_frame(on, pairs, frame)`
pub list_frame : (κs : Lfts 2) → DeterminesLent (λ e. e.1.0.now) (ListFrameReads.Post κs)
list_frame κs = lists

-- `list_good(on, pairs, n)`
pub list_good : (κs : Lfts 1) → Determines (ListGoodReads.Post κs)
list_good κs = equal
