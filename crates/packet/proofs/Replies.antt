-- What a push leaves of a packet and what a reading gives, by what was stored in the places. Assumes nothing.
use mathlib.Core.Path.{◌≡◌, refl, sym, ap, ◌∙◌}
use mathlib.Core.Bool.{Bool, true, ◌&&◌, true≢false}
use mathlib.Core.List.{List}
use Prim.Native.Nat.{ℕ}
use Rattle.std.specs.Prelude.{Result, Ok, Err, OnErr}
use Rattle.caption.specs.declared.Refusal.{Refusal}
use Rattle.caption.specs.Answers.{said_refusal, outcome}
use Rattle.model.specs.Said.{Said, Outcome, gave, refused, is_given, says, after, mapped}
use Rattle.model.specs.Packet.{Packet}
use Rattle.model.proofs.Cases.{by_cond, both, Gives}
use Rattle.model.proofs.Packets.{Valid}
use Rattle.model.proofs.Pushing.{block_valid, run_valid}
use Rattle.service.specs.declared.Service.{Service}
use Rattle.service.specs.Service.{block_of, valid_service}
use Rattle.service.proofs.Services.{valid_block_of}
use Rattle.packet_entries.specs.Fields.{Fields, Arrays, fields, laid_over, valid_fields}
use Rattle.packet_entries.proofs.Holds.{held_facts}
use Rattle.packet_blocks.specs.declared.Filled.{Filled}
use Rattle.packet_blocks.specs.Reading.{filled_with}
use Rattle.packet_pushes.specs.Pushing.{Stores}
use Rattle.packet_pushes.specs.Pushing as pushes
use Rattle.packet.specs.declared.DTVCCPacket.{DTVCCPacket}
use Rattle.packet.specs.Packet.{packet_of, over, blank, laid, left, pushed_block}
use Rattle.packet.specs.Replies.{fields_of, packet_at, packet_from, agrees, filled_from, pushed_by}
use Rattle.packet.proofs.Holds.{Places, blank_places, over_holds, over_from, agreed_valid}

-- what a push answers, and the packet that it leaves
pub record Pushed (o : Outcome Packet) (old : DTVCCPacket) (r : Result (Unit {0}) Refusal) (now : DTVCCPacket) : Type 0 where
  pub answer : says (outcome r) ≡ says o
  pub state : packet_of now ≡ after (packet_of old) o
  pub places : now ≡ left old o
  pub kept : OnErr r (now ≡ old)

-- one that is refused
pub refuses : (o : Outcome Packet) (old : DTVCCPacket) (why : Refusal) (now : DTVCCPacket) → o ≡ refused (said_refusal why) → now ≡ old → Pushed o old (Err why) now
refuses o old why now e k = record { answer = rw e; state = rw e (ap packet_of k); places = rw e k; kept = k }

-- one that is accepted
pub gives : (o : Outcome Packet) (old : DTVCCPacket) (q : Packet) (now : DTVCCPacket) → Places old → Valid q → o ≡ gave q → now ≡ over old q → Pushed o old (Ok (tt {0})) now
gives o old q now full v e k = record { answer = rw e; state = rw e (ap packet_of k ∙ over_holds old full q v); places = rw e k; kept = tt }

-- a packet that was read: its blocks are in their places, over zeros
pub read_gives : (o : Outcome Packet) (x : Filled) (a : DTVCCPacket) → Gives Valid o → gave x ≡ mapped filled_with o → a ≡ filled_from x
    → (mapped packet_of (gave a) ≡ o) × (gave a ≡ mapped laid o)
read_gives (gave q) x a v e is =
    let same : x ≡ filled_with q = cc in
    let there : a ≡ laid q = is ∙ ap filled_from same ∙ over_from blank blank_places q v in
    (ap gave (ap packet_of there ∙ over_holds blank blank_places q v), ap gave there)
read_gives (refused why) x a v e is = absurd (true≢false (ap is_given e))

-- one that was not
pub read_refuses : (o : Outcome Packet) (why : Said) → refused why ≡ mapped filled_with o → o ≡ refused why
read_refuses (gave q) why e = absurd (true≢false (sym (ap is_given e)))
read_refuses (refused w) why e = let k : w ≡ why = cc in ap refused k

-- what a push into the places of a packet leaves, where the set is that of the services
module _ (p : DTVCCPacket) (full : Places p) (agreed : agrees p ≡ true) where
  within : valid_fields (fields_of p) ≡ true → Valid (packet_of p)
  within v = (held_facts (fields_of p) v).packet

  -- a push of the leaf crates is one of this crate
  pub record Same (push : Fields → Outcome Fields) (o : Outcome Packet) : Type 0 where
    pub same : push (fields_of p) ≡ mapped (laid_over (fields_of p)) o
    pub within : Gives Valid o

  pub run_same : (needs_room : Bool) (number : ℕ) (run : List ℕ) → Same (pushes.pushed_run needs_room number run) (pushed_by needs_room number run p)
  unfolding pushes.pushed_run
  run_same needs_room number run =
      let v = agreed_valid p full agreed in
      record {
        same = rw v;
        within = rw v (by_cond (Gives Valid) (valid_fields (fields_of p)) (λ e. run_valid (packet_of p) (within e) needs_room number run) (λ _. tt));
      }

  pub block_same : (b : Service) → Same (pushes.pushed_block b) (pushed_block b p)
  unfolding pushes.pushed_block
  block_same b =
      let v = agreed_valid p full agreed in
      record {
        same = rw v;
        within = rw v (by_cond (Gives Valid) (valid_fields (fields_of p) && valid_service b)
            (λ e. let g = both (valid_fields (fields_of p)) (valid_service b) e in block_valid (packet_of p) (within g.0) (block_of b) (valid_block_of b g.1))
            (λ _. tt));
      }

  module _ (push : Fields → Outcome Fields) (x : Arrays) where
    -- accepted
    pub stored : (o : Outcome Packet) (count : ℕ) (now : DTVCCPacket) → Same push o → Stores push (fields_of p) (Ok count) x
        → now ≡ packet_from (fields p.seq_no count x.numbers x.sizes x.payload) → Pushed o p (Ok (tt {0})) now
    stored (gave q) count now s k e =
        let there : fields p.seq_no count x.numbers x.sizes x.payload ≡ laid_over (fields_of p) q = k.places ∙ rw s.same in
        gives (gave q) p q now full s.within refl (e ∙ ap packet_from there ∙ over_from p full q s.within)
    stored (refused why) count now s k e =
        let given : ◌≡◌ {A = Outcome ℕ} (gave count) (refused why) = k.answer ∙ rw s.same in absurd (true≢false (ap is_given given))

    -- refused
    pub unstored : (o : Outcome Packet) (why : Refusal) (now : DTVCCPacket) → Same push o → Stores push (fields_of p) (Err why) x
        → now ≡ packet_at p.services (fields p.seq_no p.count x.numbers x.sizes x.payload) → Pushed o p (Err why) now
    unstored (gave q) why now s k e =
        let given : ◌≡◌ {A = Outcome ℕ} (refused (said_refusal why)) (gave (laid_over (fields_of p) q).count) = k.answer ∙ rw s.same in absurd (true≢false (sym (ap is_given given)))
    unstored (refused w) why now s k e =
        let same : ◌≡◌ {A = Outcome ℕ} (refused (said_refusal why)) (refused w) = k.answer ∙ rw s.same in
        let there : fields p.seq_no p.count x.numbers x.sizes x.payload ≡ fields_of p = k.places ∙ rw s.same in
        let said : w ≡ said_refusal why = cc in
        refuses (refused w) p why now (ap refused said) (e ∙ ap (packet_at p.services) there)
