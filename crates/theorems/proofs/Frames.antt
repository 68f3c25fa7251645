-- A write that is accepted is a frame of the model, with its share of the rate, and any other changes nothing. Assumes nothing.
use mathlib.Core.Path.{◌≡◌, refl, sym, ap}
use mathlib.Core.Bool.{true, false, false≢true}
use mathlib.Core.List.{List, [], ◌∷◌, ◌++◌}
use Prim.Native.Nat.{ℕ}
use native.Mathlib.Omega.{arith}
use lib.Dec.{ltb}
use lib.ListN.{length, take, drop}
use lib.Seq.{take_at}
use contract.Lifetimes.{Lfts}
use Rattle.std.specs.Prelude.{Result, Ok, Err}
use Rattle.model.specs.Said.{Outcome, gave, refused, put_into, bad_rate}
use Rattle.model.specs.Frame.{frame_bytes}
use Rattle.model.specs.Rate as model
use Rattle.model.specs.Rate.{Share}
use Rattle.model.specs.Mux.{share_at, write_share, write_at}
use Rattle.model.specs.Run.{writes, call, Accepted, others}
use Rattle.model.proofs.Cases.{by_test}
use Rattle.model.proofs.Carrying.{OnlyBadRate, share_refused}
use Rattle.caption.specs.Answers.{said_refusal}
use Rattle.caption.proofs.Outcomes.{outcome_injective}
use Rattle.caption.specs.declared.Refusal.{Refusal}
use Rattle.caption.specs.declared.Refusal.TheVariants.{BadRate, OutShort}
use Rattle.caption.specs.declared.Framerate.{Framerate}
use Rattle.writer.specs.Writer.{means, moved}
use Rattle.writer.specs.Calls.{written}
use Rattle.writer.proofs.Valid.{share_within}
use Rattle.writer.proofs.Kept.{Sound, moved_sound}
use Rattle.writer.specs.declared.CCDataWriter.{CCDataWriter}
use Rattle.theorems.specs.Items.{no_items}
use Rattle.theorems.specs.Allowed.{Output, Writer, Write}
use Rattle.theorems.specs.Writing.{frame_in, TestedAt}
use Rattle.theorems.proofs.Contracts as promise
use Rattle.theorems.proofs.Contracts.{write_says}
use Rattle.theorems.proofs.Passing.{passed_after}
use Rattle.theorems.proofs.Following.{Moved, unmoved, moves}

-- there is no share of a rate, or there is one
share_by : {P : Type 0} (o : Outcome Share) → OnlyBadRate o → (o ≡ refused bad_rate → P) → ((h : Share) → o ≡ gave h → P) → P
share_by (gave h) d f g = g h refl
share_by (refused why) d f g = f (ap refused d)

-- a write is refused, and changes nothing; or it is accepted, and its frame is the model's with its share of the rate
pub data Writes (w : CCDataWriter) (rate : Framerate) (end : List ℕ) (r : Result ℕ Refusal) (w' : CCDataWriter) : Type 0 where
  no_frame : (why : Refusal) → r ≡ Err why → w' ≡ w → Writes w rate end r w'
  one_frame : (h : Share) → share_at rate.numer rate.denom (means w) ≡ gave h → r ≡ Ok (length (frame_bytes (write_share h (means w)).frame))
      → take (length (frame_bytes (write_share h (means w)).frame)) end ≡ frame_bytes (write_share h (means w)).frame
      → means w' ≡ (write_share h (means w)).next → w' ≡ moved w (write_share h (means w)).next → Writes w rate end r w'

module _ (w : CCDataWriter) (rate : Framerate) (out end : List ℕ) (r : Result ℕ Refusal) (w' : CCDataWriter) (s : Sound w) (a : promise.Writes rate out w r w' end) where
  -- a refusal
  refuses : (why : Refusal) → written rate out w ≡ refused (said_refusal why) → Writes w rate end r w'
  refuses why e = no_frame why (outcome_injective r (Err why) (rw e at a.answer)) (rw e at a.places)

  module _ (h : Share) (given : share_at rate.numer rate.denom (means w) ≡ gave h) where
    -- the frame
    abbrev bytes : List ℕ
    bytes = frame_bytes (write_share h (means w)).frame

    -- the output is too short
    refuses_short : ltb (length out) (length bytes) ≡ true → Writes w rate end r w'
    unfolding written write_at put_into
    refuses_short e = refuses (OutShort (length bytes)) (rw (s.valid, given, e))

    module _ (room : ltb (length out) (length bytes) ≡ false) where
      -- the write is accepted
      accepts : written rate out w ≡ gave (record { frame = bytes; out = bytes ++ drop (length bytes) out; next = (write_share h (means w)).next })
      unfolding written write_at put_into
      accepts = rw (s.valid, given, room)

      -- the answer counts the frame's bytes, and they are the first of the output
      writes_frame : Writes w rate end r w'
      writes_frame =
          one_frame h given
          (outcome_injective r (Ok (length bytes)) (rw accepts at a.answer))
          (rw (rw accepts at a.output) (take_at bytes (drop (length bytes) out) (length bytes) refl))
          (rw accepts at a.means) (rw accepts at a.places)

  -- in all
  writes_by : Writes w rate end r w'
  unfolding written write_at
  writes_by =
      share_by (share_at rate.numer rate.denom (means w)) (share_refused (means w).carrying rate.numer rate.denom (means w).carry) (λ e. refuses BadRate (rw (s.valid, e)))
      (λ h e. by_test (ltb (length out) (length (frame_bytes (write_share h (means w)).frame))) (refuses_short h e) (writes_frame h e))

-- by its contract
pub write_does : (κs : Lfts 2) (w w' : Writer) (rate : Framerate) (out end : Output) (r : Result ℕ Refusal) → Sound w.now → Write κs w rate out r w' end
    → Writes w.now rate end.now r w'.now
write_does κs w w' rate out end r s a = writes_by w.now rate out.now end.now r w'.now s (write_says κs w w' rate out end r a)

-- what a write has given that counts the bytes of a frame: its share of the rate, the frame of the model, and what that leaves
pub record Wrote (w : CCDataWriter) (rate : Framerate) (frame : List ℕ) (w' : CCDataWriter) : Type 0 where
  pub share : Share
  pub given : share_at rate.numer rate.denom (means w) ≡ gave share
  pub accepted : Accepted share.budgets
  pub bytes : frame ≡ frame_bytes (write_share share (means w)).frame
  pub meant : means w' ≡ (write_share share (means w)).next

-- by its contract
pub wrote : (κs : Lfts 2) (w w' : Writer) (rate : Framerate) (out end : Output) (r : Result ℕ Refusal) → Sound w.now → Write κs w rate out r w' end → (n : ℕ) → r ≡ Ok n
    → Wrote w.now rate (take n end.now) w'.now
wrote κs w w' rate out end r s a n e = by (write_does κs w w' rate out end r s a)
  where
    -- a write that counts is not refused
    by : Writes w.now rate end.now r w'.now → Wrote w.now rate (take n end.now) w'.now
    by (no_frame why k same) = absurd (false≢true (cc))
    by (one_frame h given counts first meant next) =
        let z : n ≡ length (frame_bytes (write_share h (means w.now)).frame) = (cc) in
        record { share = h; given = given; accepted = (share_within w.now s.valid rate given).accepted; bytes = rw z first; meant = meant }

-- so a write is one of the model, or changes nothing
pub write_moves : (w : CCDataWriter) (rate : Framerate) (end : List ℕ) (r : Result ℕ Refusal) (w' : CCDataWriter) → Sound w → Writes w rate end r w'
    → Moved w (frame_in r end) no_items w' (λ passes. TestedAt passes r w) (λ mode speed. (n : ℕ) → r ≡ Ok n → mode ≡ true → rate ≡ speed)
unfolding call others
write_moves w rate end r w' s (no_frame why k e) = rw k (unmoved refl refl e)
write_moves w rate end r w' s (one_frame h given counts first meant next) =
    let g = share_within w s.valid rate given in
    rw counts
    (moves (writes h) (record {
      last = sym meant;
      frames = ap (λ (l : List ℕ). l ∷ []) (sym first);
      packets = refl;
      pairs1 = refl;
      pairs2 = refl;
      allowed = λ passes p. (g.accepted, p _ refl);
      steady = λ mode speed p. (model.rate rate.numer rate.denom, given, λ on. ap (λ (x : Framerate). model.rate x.numer x.denom) (p _ refl on));
      rates = λ cs t. (g.accepted, t);
      writes = λ cs. omega arith;
      quiet = λ e cs t. t;
      passed = rw next (passed_after w s h g.valid);
      sound = rw next (moved_sound w s h g.valid);
    }))
