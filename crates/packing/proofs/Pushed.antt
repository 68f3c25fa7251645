-- What the first-come packer proposes is carried out by `push_code`: whatever results its contract allows, every push is accepted, and then each packet
-- has exactly the blocks that the proposal describes. Assumes nothing.
use mathlib.Core.Path.{◌≡◌, refl, sym, ap, ◌∙◌}
use mathlib.Core.Bool.{true}
use mathlib.Core.List.{List, [], ◌∷◌, ◌++◌, append-nil, append_assoc, map}
use Prim.Native.Nat.{ℕ, ◌≤◌}
use lib.Dec.{eqb}
use lib.ListN.{length}
use contract.Lifetimes.{Lfts}
use denote.Ref.{Bor}
use borrow.Author.Tests.{eqb-true, eqb-false, le-ltb}
use Rattle.std.specs.Prelude.{Ok, OnErr}
use Rattle.model.specs.Said.{gave, says, after}
use Rattle.model.specs.Packet.{Packet, new_packet, push_run}
use Rattle.model.proofs.Cases.{by_cond}
use Rattle.caption.specs.Answers.{outcome}
use Rattle.caption.proofs.Outcomes.{says_injective}
use Rattle.packet.specs.declared.DTVCCPacket.{DTVCCPacket}
use Rattle.packet.specs.Packet.{packet_of, over, blank, valid_dtvcc, left, pushed_run}
use Rattle.packet.proofs.Holds.{Places, blank_places}
use Rattle.packet.proofs.Measures.{new_valid}
use Rattle.packet.proofs.Keeps.{Laid, laid_over, run_held}
use Rattle.model_packing.specs.Pieces.{Piece, service_of, In, here, there}
use Rattle.model_packing.specs.Proposals.{blocks_in}
use Rattle.model_packing.specs.FirstCome.{first_come, packable}
use Rattle.model_packing.specs.Carrying.{bytes_in}
use Rattle.model_packing.proofs.Lists.{nothing_in}
use Rattle.model_packing.proofs.Accepted.{accepted_passes}
use Rattle.model_packing.proofs.Carried.{piece_length}
use Rattle.model_packing.proofs.AsProposed.{CarriedOut, pushed_as_proposed}
use Rattle.model_packing.proofs.Passing.{passes}
use Rattle.packing.specs.Pushing.{Answer, Lent, NewPacket, Packets, Fresh, replaced, Pushes, no_piece, push_piece, AllPushed}

-- bytes that are lent
abbrev lent : List ℕ → Bor (List ℕ)
lent bytes = record { ref_ptr = (0, 0); now = bytes }

-- a packet that is lent
abbrev lent_packet : DTVCCPacket → Lent
lent_packet p = record { ref_ptr = (0, 0); ghost_name = 0; now = p }

-- a packet that holds a packet of the model, within the limits
pub record Keeps (p : DTVCCPacket) (m : Packet) : Type 0 where
  pub places : Places p
  pub valid : valid_dtvcc p ≡ true
  pub means : packet_of p ≡ m

-- one made anew has no blocks
fresh_keeps : (n : ℕ) → n ≤ 3 → (p : DTVCCPacket) → NewPacket n (Ok p) → Keeps p (record { sequence = n; blocks = [] })
unfolding new_packet
fresh_keeps n few p a =
    let l : Laid blank (record { sequence = n; blocks = [] }) = laid_over blank blank_places _ (new_valid n few) in
    let g : gave p ≡ gave (over blank (record { sequence = n; blocks = [] })) = rw (le-ltb 3 n few) at a.1 in
    let e : p ≡ over blank (record { sequence = n; blocks = [] }) = cc in
    rw e (record { places = l.places; valid = l.valid; means = l.holds })

-- what the contract of a push allows
abbrev pub Pushed : DTVCCPacket → ℕ → List ℕ → Answer → DTVCCPacket → Type 0
Pushed p s run r q =
    (says (outcome r) ≡ says (pushed_run s run p))
    × ((packet_of q ≡ after (packet_of p) (pushed_run s run p)) × ((q ≡ left p (pushed_run s run p)) × OnErr r (q ≡ p)))

-- a push that the model accepts
module _ (p : DTVCCPacket) (m : Packet) (k : Keeps p m) (s : ℕ) (run : List ℕ) (to : Packet) (takes : push_run s run m ≡ gave to) where
  pushed_to : pushed_run s run p ≡ gave to
  pushed_to = rw (k.valid, k.means, takes)

  laid_there : Laid p to
  laid_there = run_held p k.valid k.places true s run (rw k.means takes)

  -- has a result that is allowed
  pub push_some : Pushed p s run (Ok tt) (over p to)
  push_some = rw pushed_to (refl, (laid_there.holds, (refl, tt)))

  module _ (r : Answer) (q : DTVCCPacket) (a : Pushed p s run r q) where
    -- any that is allowed accepts it,
    pub push_accepted : r ≡ Ok tt
    push_accepted = says_injective r (Ok tt) (a.0 ∙ ap says pushed_to)

    -- and leaves what the model gives
    pub push_keeps : Keeps q to
    push_keeps = let l = laid_there in rw (a.1.1.0, pushed_to) (record { places = l.places; valid = l.valid; means = l.holds })

-- packets that keep what pieces describe
abbrev Described : List ℕ → List (List ℕ) → (ℕ → ℕ) → List Piece → Packets → Type 0
Described services runs sequence ps packets = (p : ℕ) → Keeps (packets p) (record { sequence = sequence p; blocks = blocks_in services (bytes_in runs) ps p })

module _ (services : List ℕ) (runs : List (List ℕ)) (sequence : ℕ → ℕ) (proposal : List Piece) (out : CarriedOut services (bytes_in runs) proposal) where
  -- one push more
  one_more : (ps : List Piece) (q : Piece) (qs : List Piece) → proposal ≡ ps ++ (q ∷ qs) → (packets : Packets) → Described services runs sequence ps packets
      → (r : Answer) (to : DTVCCPacket) → Pushed (packets q.packet) (service_of services q.run) (bytes_in runs q) r to
      → (r ≡ Ok tt) × Described services runs sequence (ps ++ (q ∷ [])) (replaced packets q.packet to)
  unfolding replaced
  one_more ps q qs e packets keeps r to a =
      let takes = out.taken ps q qs e (sequence q.packet) in
      let k = keeps q.packet in (
        push_accepted _ _ k _ _ _ takes r to a,
        λ p. by_cond (λ (d : DTVCCPacket). Keeps d (record { sequence = sequence p; blocks = blocks_in services (bytes_in runs) (ps ++ (q ∷ [])) p })) (eqb p q.packet)
            (λ t. let z : p ≡ q.packet = eqb-true p q.packet t in rw z (push_keeps _ _ k _ _ _ takes r to a))
            (λ f. rw (out.others ps q qs e p (λ z. eqb-false p q.packet f (sym z))) (keeps p)),
      )

  -- all of them
  pushes_on : (ps qs : List Piece) → proposal ≡ ps ++ qs → (packets : Packets) → Described services runs sequence ps packets → (told : List Answer) (end : Packets)
      → Pushes services runs qs packets told end → AllPushed services runs sequence proposal told end
  pushes_on ps [] e packets keeps told end no_piece =
      let all : proposal ≡ ps = e ∙ append-nil ps in
      record {
        all_accepted = λ a i. absurd (nothing_in [] refl i);
        as_described = λ p. rw all (keeps p).means;
        within_limits = λ p. (keeps p).valid;
      }
  pushes_on ps (q ∷ qs) e packets keeps told end (push_piece κs code before after r from is a rest) =
      let t = one_more ps q qs e packets keeps r after.now (rw (from, is) at a) in
      let more = pushes_on (ps ++ (q ∷ [])) qs (e ∙ sym (append_assoc ps (q ∷ []) qs)) _ t.1 _ end rest in
      record {
        all_accepted = λ a i. first_or r t.0 more.all_accepted a i;
        as_described = more.as_described;
        within_limits = more.within_limits;
      }
    where
      first_or : (r : Answer) → r ≡ Ok tt → {l : List Answer} → ((a : Answer) → In a l → a ≡ Ok tt) → (a : Answer) → In a (r ∷ l) → a ≡ Ok tt
      first_or r z f a (here i) = i ∙ z
      first_or r z f a (there i) = f a i

  -- there are such calls
  pushes_some : (κs : Lfts 2) (ps qs : List Piece) → proposal ≡ ps ++ qs → (packets : Packets) → Described services runs sequence ps packets
      → (told : List Answer) × (end : Packets) × Pushes services runs qs packets told end
  pushes_some κs ps [] e packets keeps = ([], packets, no_piece)
  pushes_some κs ps (q ∷ qs) e packets keeps =
      let takes = out.taken ps q qs e (sequence q.packet) in
      let some = push_some _ _ (keeps q.packet) (service_of services q.run) (bytes_in runs q) _ takes in
      let t = one_more ps q qs e packets keeps (Ok tt) _ some in
      let more = pushes_some κs (ps ++ (q ∷ [])) qs (e ∙ sym (append_assoc ps (q ∷ []) qs)) (replaced packets q.packet _) t.1 in
      (Ok tt ∷ more.0, more.1, push_piece κs (lent (bytes_in runs q)) (lent_packet (packets q.packet)) (lent_packet _) (Ok tt) refl refl some more.2)

-- the packer's proposal, and packets made anew
module _ (services : List ℕ) (runs : List (List ℕ)) (ok : packable services (map length runs) ≡ true) (sequence : ℕ → ℕ) (packets : Packets) (fresh : Fresh sequence packets) where
  abbrev all : List Piece
  all = first_come services (map length runs)

  out : CarriedOut services (bytes_in runs) all
  out = pushed_as_proposed services (map length runs) ok (bytes_in runs) (piece_length services runs all (accepted_passes services (map length runs) all (passes services (map length runs) ok)))

  none_yet : Described services runs sequence [] packets
  none_yet p = rw (out.begins p) (fresh_keeps (sequence p) (fresh.known p) (packets p) (fresh.made p))

  -- A proposal of the first-come packer is carried out by `push_code`, whatever the bytes of the runs and the sequence numbers of the packets are;
  pub proposal_pushed : (told : List Answer) (end : Packets) → Pushes services runs all packets told end → AllPushed services runs sequence all told end
  proposal_pushed told end calls = pushes_on services runs sequence all out [] all refl packets none_yet told end calls

  -- and there are calls that do so.
  pub pushable : (κs : Lfts 2) → (told : List Answer) × (end : Packets) × Pushes services runs all packets told end
  pushable κs = pushes_some services runs sequence all out κs [] all refl packets none_yet
