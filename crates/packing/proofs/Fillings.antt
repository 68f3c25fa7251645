-- The packet that is being filled: what a push to it leaves is what the model's push leaves, and breaks no limit. Assumes nothing.
use mathlib.Core.Path.{◌≡◌, refl, sym, ap, ◌∙◌}
use mathlib.Core.Bool.{Bool, true, false, true≢false}
use mathlib.Core.List.{List, []}
use Prim.Native.Nat.{ℕ, ◌+◌}
use native.Mathlib.Numerals.{add-one}
use Rattle.std.specs.Prelude.{Option, Some, None, Result, Ok, Err, is_ok}
use Rattle.caption.specs.declared.Refusal.{Refusal}
use Rattle.caption.specs.Answers.{outcome}
use Rattle.caption.proofs.Answers.{refused_as, given_with}
use Rattle.model.specs.Said.{Said, Outcome, gave, refused, is_given, says, after}
use Rattle.model.proofs.Cases.{given_is}
use Rattle.model.specs.Packet.{Packet, no_packet, latest, push_run}
use Rattle.packet_entries.specs.Fields.{blocks_held}
use Rattle.packet_entries.specs.Extent.{latest_of}
use Rattle.packet_pushes.proofs.Outcomes.{place_of, latest_held}
use Rattle.packet.specs.declared.DTVCCPacket.{DTVCCPacket}
use Rattle.packet.specs.Packet.{packet_of, valid_dtvcc, left, pushed_run}
use Rattle.packet.specs.Packet as packet
use Rattle.packet.specs.Replies.{fields_of}
use Rattle.packet.proofs.Holds.{Places, blank_places, within_facts, entries_within}
use Rattle.packet.proofs.Keeps.{blank_valid, run_held}
use Rattle.model_packing.specs.Proposals.{zeros}
use Rattle.model_packing.specs.FirstCome.{placed, place_or0}
use Rattle.packing.specs.declared.Filling.{Filling}
use Rattle.packing.specs.Fillings.{BeginsWith, PlacesRun}
use Rattle.packing.proofs.Pushes.{run_numbered}

-- a packet of zeros holds no block
pub blank_holds : packet_of packet.blank ≡ no_packet
unfolding blocks_held
blank_holds = refl

-- it has its places
pub empty_places : (p : DTVCCPacket) → p ≡ packet.blank → Places p
empty_places p e = rw e blank_places

-- and breaks no limit
pub empty_valid : (p : DTVCCPacket) → p ≡ packet.blank → valid_dtvcc p ≡ true
empty_valid p e = rw e blank_valid

-- a run pushed to a packet that breaks no limit
module _ (p : DTVCCPacket) (v : valid_dtvcc p ≡ true) where
  module _ (places : Places p) (s : ℕ) (run : List ℕ) (q : DTVCCPacket) (put : q ≡ left p (pushed_run s run p)) where
    -- it leaves one
    pub pushed_valid : valid_dtvcc q ≡ true
    pushed_valid = by (push_run s run (packet_of p)) refl (rw v at put)
      where
        by : (o : Outcome Packet) → push_run s run (packet_of p) ≡ o → q ≡ left p o → valid_dtvcc q ≡ true
        by (gave x) e b = rw b (run_held p v places true s run e).valid
        by (refused why) e b = rw b v

    -- in its places
    pub pushed_places : Places q
    pushed_places = by (push_run s run (packet_of p)) refl (rw v at put)
      where
        by : (o : Outcome Packet) → push_run s run (packet_of p) ≡ o → q ≡ left p o → Places q
        by (gave x) e b = rw b (run_held p v places true s run e).places
        by (refused why) e b = rw b places

  module _ (s : ℕ) (run : List ℕ) where
    -- which holds what the model's push leaves,
    pub pushed_means : (q : DTVCCPacket) → packet_of q ≡ after (packet_of p) (pushed_run s run p) → packet_of q ≡ after (packet_of p) (push_run s run (packet_of p))
    pushed_means q means = rw v at means

    -- and tells whether that gives something
    pub ok_given : (r : Result (Unit {0}) Refusal) → says (outcome r) ≡ says (pushed_run s run p) → is_ok r ≡ is_given (push_run s run (packet_of p))
    ok_given r said = by r (rw v at said)
      where
        by : (x : Result (Unit {0}) Refusal) → says (outcome x) ≡ says (push_run s run (packet_of p)) → is_ok x ≡ is_given (push_run s run (packet_of p))
        by (Ok x) h = rw (given_with (λ _. []) [] (push_run s run (packet_of p)) (run_numbered s run (packet_of p) true) h).1
        by (Err why) h = rw (refused_as why (push_run s run (packet_of p)) h)

-- the next packet, with a run
pub run_begins : (before s : ℕ) (run : List ℕ) (p q : DTVCCPacket) → p ≡ packet.blank → packet_of q ≡ after (packet_of p) (push_run s run (packet_of p)) → valid_dtvcc q ≡ true
    → Places q → BeginsWith before s run (record { before = before + 1; packet = q })
run_begins before s run p q is means valid places =
    let k : packet_of q ≡ after no_packet (push_run s run no_packet) = rw (is, blank_holds) at means in
    record { means = rw (k, add-one before); valid = valid; places = places }

-- what gives nothing is refused
none_given : {A : Type 0} (o : Outcome A) → is_given o ≡ false → (why : Said) × (o ≡ refused why)
none_given (gave x) e = absurd (true≢false e)
none_given (refused why) e = (why, refl)

-- a run of so many zeros placed
module _ (at : Filling) (s n : ℕ) (run : List ℕ) (is : run ≡ zeros n) (q : DTVCCPacket) (given : Bool) (gives : given ≡ is_given (push_run s run (packet_of at.packet)))
    (means : packet_of q ≡ after (packet_of at.packet) (push_run s run (packet_of at.packet))) where
  -- in the packet that is being filled, where that takes it
  pub placed_here : given ≡ true → valid_dtvcc q ≡ true → Places q → PlacesRun s n at (record { before = at.before; packet = q })
  unfolding placed
  placed_here e valid places =
      let g = given_is (push_run s run (packet_of at.packet)) (sym gives ∙ e) in
      let k : push_run s run (packet_of at.packet) ≡ gave (packet_of q) = g.1 ∙ ap gave (sym (means ∙ ap (after (packet_of at.packet)) g.1)) in
      record { means = rw (← is, k); valid = valid; places = places }

  -- else in the next one
  pub placed_next : given ≡ false → (to : Filling) → BeginsWith at.before s run to → PlacesRun s n at to
  unfolding placed
  placed_next e to b = record { means = b.means ∙ rw (← is, (none_given (push_run s run (packet_of at.packet)) (sym gives ∙ e)).1); valid = b.valid; places = b.places }

-- the latest block of a service, as it is found
module _ (p : DTVCCPacket) (v : valid_dtvcc p ≡ true) (places : Places p) (s : ℕ) (found : Option ℕ) (e : found ≡ latest_of p.count p.numbers s) where
  -- it is that of the packet that is held,
  block_found : place_or0 (place_of found) ≡ place_or0 (latest s (packet_of p))
  block_found =
      ap (λ (f : Option ℕ). place_or0 (place_of f)) e ∙ ap place_or0 (sym (latest_held (fields_of p) (entries_within p (within_facts p v) places) places s))

  -- at a place
  pub block_at : (place : ℕ) → found ≡ Some place → place ≡ place_or0 (latest s (packet_of p))
  block_at place q = ap (λ (f : Option ℕ). place_or0 (place_of f)) (sym q) ∙ block_found

  -- or nowhere
  pub block_none : found ≡ None → 0 ≡ place_or0 (latest s (packet_of p))
  block_none q = ap (λ (f : Option ℕ). place_or0 (place_of f)) (sym q) ∙ block_found
