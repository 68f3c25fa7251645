-- What a reader tells of a packet: its frame stands at the front of the output, and where that has room for every frame, 9 is not told. Assumes nothing.
use mathlib.Core.Path.{◌≡◌, refl, sym, ap, subst, ◌∙◌}
use mathlib.Core.List.{List, [], ◌++◌}
use mathlib.Core.Option.{Option}
use Prim.Native.Nat.{ℕ, ◌/◌, ◌≤◌}
use native.Mathlib.Omega.{arith}
use lib.Dec.{leb}
use lib.ListN.{length, get_or, take, drop}
use lib.Seq.{take_at}
use borrow.Author.Tests.{leb-true, le-ltb}
use Rattle.std.specs.Prelude.{Result, Ok, Err}
use Rattle.model.specs.Said.{Said, Outcome, gave, refused, and_then, mapped, after, put_into}
use Rattle.model.specs.Distribution.{Distribution, is_coded, has_mark, sections_in_order, counter_at, sums_up, counters_agree, held_in, opened, takes, frame_of, received_into, receive}
use Rattle.model.specs.Distribution as packets
use Rattle.model.proofs.Cases.{by_cond, both, Gives, gives_at, Refuses}
use Rattle.model.proofs.Frames.{frame_length}
use Rattle.model.proofs.Distribution.{passes_ordered, held_count, Passed, opened_passed}
use Rattle.caption.specs.Answers.{said_refusal, outcome}
use Rattle.caption.specs.declared.Refusal.{Refusal}
use Rattle.distribution.specs.States.{last_of}
use Rattle.distribution.specs.Calls.{read_by, told_of}
use Rattle.distribution.specs.declared.Received.{Received}
use Rattle.distribution.specs.declared.DistributionReader.{DistributionReader}
use Rattle.distribution.proofs.Outcomes.{told_gave, told_refused}
use Rattle.distribution.proofs.Trips.{TakenAs, taken}

-- a packet that is opened: its code is one of a rate, its counter stands behind the flags, and its frame is none of more than 95 bytes
pub record OpenedAs (s : List ℕ) (d : Distribution) : Type 0 where
  pub code : d.code ≤ 8
  pub counter : d.counter ≡ counter_at 5 s
  pub few : length (frame_of d) ≤ 95

passed_as : (s : List ℕ) (d : Distribution) → Passed s d → OpenedAs s d
unfolding is_coded
passed_as s d p =
    let o = passes_ordered s p.order in
    let code = both (leb 1 (get_or s 3 0 / 16)) (leb (get_or s 3 0 / 16) 8) o.code in
    let held : OpenedAs s (held_in s) =
    record {
      code = leb-true (get_or s 3 0 / 16) 8 code.1;
      counter = refl;
      few = omega (arith, frame_length (record { count = length (held_in s).triples; triples = (held_in s).triples }), held_count s o);
    } in
    subst (OpenedAs s) (sym p.held) held

-- of what a call gives all that follows from P holds
gives_weaker : {A : Type 0} {P Q : A → Type 0} → ((x : A) → P x → Q x) → (o : Outcome A) → Gives P o → Gives Q o
gives_weaker h (gave x) p = h x p
gives_weaker h (refused why) p = tt

opened_as : (s : List ℕ) → Gives (OpenedAs s) (opened s)
opened_as s = gives_weaker (passed_as s) (opened s) (opened_passed s)

-- a refusal of a packet: 16 to 20, which carry no values
pub record OfPacket (why : Said) : Type 0 where
  pub least : 16 ≤ why.number
  pub most : why.number ≤ 20
  pub bare : why.values ≡ []

-- one of these numbers
of_number : (n : ℕ) → 16 ≤ n → n ≤ 20 → OfPacket (record { number = n; values = [] })
of_number n h k = record { least = h; most = k; bare = refl }

opened_refused : (s : List ℕ) → Refuses OfPacket (opened s)
unfolding opened
opened_refused s =
    by_cond (Refuses OfPacket) (has_mark s)
    (λ _. by_cond (Refuses OfPacket) (sections_in_order s)
    (λ _. by_cond (Refuses OfPacket) (sums_up s)
    (λ _. by_cond (Refuses OfPacket) (counters_agree s) (λ _. tt) (λ _. of_number 19 (omega arith) (omega arith)))
    (λ _. of_number 18 (omega arith) (omega arith)))
    (λ _. of_number 17 (omega arith) (omega arith)))
    (λ _. of_number 16 (omega arith) (omega arith))

-- what the first of two calls is refused with, or the second with what the first gives
refuses_given : {A B : Type 0} (P : Said → Type 0) (Q : A → Type 0) (o : Outcome A) (f : A → Outcome B) → Refuses P o → Gives Q o
    → ((x : A) → Q x → Refuses P (f x)) → Refuses P (and_then o f)
refuses_given P Q (gave x) f p q h = h x q
refuses_given P Q (refused why) f p q h = p

-- a packet that is read, and its frame in the output
pub record ReceivedAs (s out : List ℕ) (x : packets.Received) : Type 0 where
  pub packet : OpenedAs s x.packet
  pub there : x.out ≡ frame_of x.packet ++ drop (length (frame_of x.packet)) out

module _ (last : Option ℕ) (s out : List ℕ) where
  pub received_as : Gives (ReceivedAs s out) (receive last s out)
  received_as =
      gives_weaker (λ (x : packets.Received) (t : TakenAs last s out x). record { packet = gives_at (OpenedAs s) (opened s) t.whole (opened_as s); there = t.there })
      (receive last s out) (taken last s out)

  -- where there is room for 95 bytes, 9 is not told
  module _ (room : 95 ≤ length out) where
    into_refused : (d : Distribution) → OpenedAs s d → Refuses OfPacket (received_into out d)
    unfolding received_into put_into
    into_refused d o = rw (le-ltb (length out) (length (frame_of d)) (omega (arith, o.few))) tt

    pub received_refused : Refuses OfPacket (receive last s out)
    unfolding receive
    received_refused =
        refuses_given OfPacket (OpenedAs s) (opened s) _ (opened_refused s) (opened_as s)
        (λ d o. by_cond (Refuses OfPacket) (takes last d.counter) (λ _. into_refused d o) (λ _. of_number 20 (omega arith) (omega arith)))

-- the front of an output
front : (f rest end : List ℕ) (k : ℕ) → end ≡ f ++ rest → k ≡ length f → take k end ≡ f
front f rest end k e n = rw e (take_at f rest k (sym n))

-- what is told of a packet that is accepted, the packet, and its frame at the front of the output
pub record Gave (x : Received) (end : List ℕ) (o : Outcome packets.Received) : Type 0 where
  pub read : packets.Received
  pub whole : o ≡ gave read
  pub code : x.code ≡ read.packet.code
  pub counter : x.counter ≡ read.packet.counter
  pub frame : take x.len end ≡ frame_of read.packet

module _ (reader : DistributionReader) (s out : List ℕ) (r : Result Received Refusal) (h : outcome r ≡ mapped told_of (read_by reader s out)) where
  -- why a packet is refused is told
  pub reads_why : (why : Refusal) → r ≡ Err why → read_by reader s out ≡ refused (said_refusal why)
  reads_why why e = told_refused told_of (read_by reader s out) (said_refusal why) (sym (ap outcome e) ∙ h)

  -- and what it is where it is accepted
  pub reads_gave : (end : List ℕ) → end ≡ after out (mapped (λ y. y.out) (read_by reader s out)) → (x : Received) → r ≡ Ok x → Gave x end (read_by reader s out)
  reads_gave end output x e =
      let o = read_by reader s out in
      let g = told_gave told_of o x (sym (ap outcome e) ∙ h) in
      let there = (gives_at (ReceivedAs s out) o g.1 (received_as (last_of reader.last) s out)).there in
      let put : end ≡ g.0.out = output ∙ ap (λ (q : Outcome packets.Received). after out (mapped (λ y. y.out) q)) g.1 in
      record {
        read = g.0;
        whole = g.1;
        code = ap (λ (y : Received). y.code) g.2;
        counter = ap (λ (y : Received). y.counter) g.2;
        frame = front (frame_of g.0.packet) _ end x.len (put ∙ there) (ap (λ (y : Received). y.len) g.2);
      }
