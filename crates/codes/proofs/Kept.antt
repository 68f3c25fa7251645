-- What the profile keeps, whatever results the contracts allow. Assumes nothing.
use mathlib.Core.Path.{◌≡◌, refl, sym, ap, ◌∙◌}
use mathlib.Core.Bool.{Bool, true, false, ◌&&◌}
use mathlib.Core.List.{List}
use Prim.Native.Nat.{ℕ}
use native.Mathlib.Omega.{arith}
use borrow.Author.Tests.{ltb-false}
use lib.Dec.{leb, ltb}
use Rattle.model.specs.Lists.{every}
use Rattle.model.specs.Said.{Outcome, gave, refused, mapped, checked}
use Rattle.model.specs.Block.{valid_block}
use Rattle.model.specs.Packet.{Packet, new_packet, push_block}
use Rattle.model.specs.Codes.{push_codes_by}
use Rattle.model.proofs.Cases.{both, by_cond, Gives}
use Rattle.model.proofs.Packets.{Valid}
use Rattle.model.proofs.Pushing.{block_valid}
use Rattle.model.proofs.CodedPackets.{is_cut, all_cut, codes_kept, codes_valid}
use Rattle.model.proofs.CodedPackets as coded
use contract.Lifetimes.{Lfts}
use denote.Ref.{Bor, MutBor}
use Rattle.std.specs.Prelude.{Result, Ok, Err, is_ok}
use Rattle.caption.specs.declared.Refusal.{Refusal}
use Rattle.service.specs.declared.Service.{Service}
use Rattle.service.specs.Service.{block_of, valid_service}
use Rattle.packet.specs.declared.DTVCCPacket.{DTVCCPacket}
use Rattle.packet.specs.Packet.{packet_of, valid_dtvcc, blank, laid, left}
use Rattle.packet.proofs.DTVCCPacket.new.Reads as new
use Rattle.packet.proofs.DTVCCPacket.push_service.Reads as PushServiceReads
use Rattle.packet_entries.specs.Fields.{blocks_held}
use Rattle.packet.proofs.Holds.{Places, blank_places, within_facts, held_valid}
use Rattle.packet.proofs.Measures.{new_valid}
use Rattle.packet.proofs.Keeps.{laid_over, blank_valid}
use Rattle.codes.proofs.Exactly.{Answer, CheckService, CheckPacket, block_exactly, packet_exactly}
use Rattle.codes.proofs.Pushes.{PushesRun, by_codes, into_single}

-- `DTVCCPacket::new(seq_no)`
abbrev pub NewPacket : ℕ → Result DTVCCPacket Refusal → Type 0
NewPacket q r = new.Post (tt {0}) (q, tt) r (q, tt)

-- `packet.push_service(&service)`, and the packet then
abbrev pub PushService : DTVCCPacket → Service → Answer → DTVCCPacket → Type 0
PushService p s r q =
    (κs : Lfts 2) × (b : MutBor DTVCCPacket) × (c : MutBor DTVCCPacket) × (d : Bor Service) × (b.now ≡ p) × (c.now ≡ q) × (d.now ≡ s) × PushServiceReads.Post κs (b, (d, tt)) r (c, (d, tt))

-- a packet within the limits, in its places, each of whose blocks is cut
pub record Profiled (p : DTVCCPacket) : Type 0 where
  pub places : Places p
  pub valid : valid_dtvcc p ≡ true
  pub cut : all_cut (packet_of p) ≡ true

-- is what the profile accepts
pub profiled_accepted : (p : DTVCCPacket) → Profiled p → (r : Answer) → CheckPacket p r → r ≡ Ok tt
profiled_accepted p w r told = is_accepted r (packet_exactly p r told ∙ rw (w.valid, w.cut))
  where
    is_accepted : (a : Answer) → is_ok a ≡ true → a ≡ Ok tt
    is_accepted (Ok x) e = refl
    is_accepted (Err why) e = let z : ◌≡◌ {A = ℕ} 0 1 = cc in absurd (omega arith)

-- and of arrays of the lengths that their types give them nothing else is
pub accepted_profiled : (p : DTVCCPacket) → Places p → (r : Answer) → CheckPacket p r → r ≡ Ok tt → Profiled p
accepted_profiled p places r told e =
    let t = both (valid_dtvcc p) (all_cut (packet_of p)) (sym (packet_exactly p r told) ∙ rw e) in
    record { places = places; valid = t.0; cut = t.1 }

-- what a push leaves of one: what it gives, laid over the places, or the packet as it was
left_profiled : (p : DTVCCPacket) → Profiled p → (o : Outcome Packet) → Gives Valid o → Gives (λ q. all_cut q ≡ true) o → (q : DTVCCPacket) → q ≡ left p o → Profiled q
left_profiled p w (gave x) v c q a =
    let l = laid_over p w.places x v in
    rw a (record { places = l.places; valid = l.valid; cut = ap all_cut l.holds ∙ c })
left_profiled p w (refused why) v c q a = rw a w

module _ (p : DTVCCPacket) (w : Profiled p) where
  held : Valid (packet_of p)
  held = held_valid p (within_facts p w.valid)

  run_left : (needs_room : Bool) (n : ℕ) (run : List ℕ) (q : DTVCCPacket) → q ≡ left p (checked (valid_dtvcc p) (push_codes_by needs_room n run (packet_of p))) → Profiled q
  run_left needs_room n run q a =
      left_profiled p w (push_codes_by needs_room n run (packet_of p)) (codes_valid (packet_of p) held needs_room n run) (codes_kept (packet_of p) w.cut needs_room n run) q (rw w.valid at a)

  -- such a push, accepted or refused, leaves what the profile accepts
  runs_left : (r : Answer) (q : DTVCCPacket) → PushesRun p r q → Profiled q
  runs_left r q (by_codes κs b c n run e f a) = run_left true n run.now q (sym f ∙ rw e at a.1.1.0)
  runs_left r q (into_single κs b c n run e f a) = run_left false n run.now q (sym f ∙ rw e at a.1.1.0)

  -- and so does one of a block that the profile accepts
  block_left : (s : Service) (t : Answer) → CheckService s t → t ≡ Ok tt → (r : Answer) (q : DTVCCPacket) → PushService p s r q → Profiled q
  unfolding valid_service
  block_left s t told e r q a =
      let f = both (valid_service s) (is_cut (block_of s)) (sym (block_exactly s t told) ∙ rw e) in
      let put : q ≡ left p (checked (valid_dtvcc p && valid_service s) (push_block (block_of s) (packet_of p))) = sym a.5 ∙ rw (a.4, a.6) at a.7.1.1.0 in
      left_profiled p w (push_block (block_of s) (packet_of p)) (block_valid (packet_of p) held (block_of s) (both (leb s.len 31) (valid_block (block_of s)) f.0).1)
      (coded.block_kept (packet_of p) w.cut (block_of s) f.1) q (rw (w.valid, f.0) at put)

-- A packet that the profile accepts is accepted after every push of a run under it, in either form, and after that of a block that it accepts [K7].
module _ (p : DTVCCPacket) (places : Places p) (first : Answer) (told : CheckPacket p first) (e : first ≡ Ok tt) (r : Answer) (q : DTVCCPacket) (t : Answer) (then : CheckPacket q t) where
  pub run_kept : PushesRun p r q → t ≡ Ok tt
  run_kept a = profiled_accepted q (runs_left p (accepted_profiled p places first told e) r q a) t then

  pub block_kept : (s : Service) (u : Answer) → CheckService s u → u ≡ Ok tt → PushService p s r q → t ≡ Ok tt
  block_kept s u told_s f a = profiled_accepted q (block_left p (accepted_profiled p places first told e) s u told_s f r q a) t then

-- a packet made by `new` and such pushes
pub data Built : DTVCCPacket → Type 0 where
  begun : (n : ℕ) (p : DTVCCPacket) → NewPacket n (Ok p) → Built p
  with_run : (p : DTVCCPacket) (r : Answer) (q : DTVCCPacket) → Built p → PushesRun p r q → Built q
  with_block : (p : DTVCCPacket) (s : Service) (t : Answer) (r : Answer) (q : DTVCCPacket) → Built p → CheckService s t → t ≡ Ok tt → PushService p s r q → Built q

-- nothing stands in a blank one
blank_profiled : Profiled blank
unfolding every blocks_held
blank_profiled = record { places = blank_places; valid = blank_valid; cut = refl }

new_profiled : (n : ℕ) (p : DTVCCPacket) → NewPacket n (Ok p) → Profiled p
unfolding new_packet every
new_profiled n p a =
    left_profiled blank blank_profiled (new_packet n) (by_cond (Gives Valid) (ltb 3 n) (λ _. tt) (λ e. new_valid n (ltb-false 3 n e)))
    (by_cond (Gives (λ x. all_cut x ≡ true)) (ltb 3 n) (λ _. tt) (λ _. refl)) p (given (new_packet n) a.1)
  where
    given : (o : Outcome Packet) → gave p ≡ mapped laid o → p ≡ left blank o
    given (gave x) e = cc
    given (refused why) e = cc

built_profiled : (p : DTVCCPacket) → Built p → Profiled p
built_profiled _ (begun n p a) = new_profiled n p a
built_profiled _ (with_run p r q b a) = runs_left p (built_profiled p b) r q a
built_profiled _ (with_block p s t r q b told e a) = block_left p (built_profiled p b) s t told e r q a

-- is accepted at any time, whatever was refused on the way: its blocks are cut only between codes.
pub built_accepted : (p : DTVCCPacket) → Built p → (r : Answer) → CheckPacket p r → r ≡ Ok tt
built_accepted p b r told = profiled_accepted p (built_profiled p b) r told
