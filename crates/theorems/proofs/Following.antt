-- What a sequence of real calls is in the model: calls of the model with the same frames and the same items. Assumes nothing.
use mathlib.Core.Path.{◌≡◌, refl, sym, ap, ◌∙◌}
use mathlib.Core.Bool.{Bool}
use mathlib.Core.List.{List, [], ◌∷◌, ◌++◌}
use Prim.Native.Nat.{ℕ, ◌+◌}
use lib.ListN.{length, length-append}
use Rattle.model.specs.Packet.{Packet}
use Rattle.model.specs.Frame.{Pair}
use Rattle.model.specs.Rate.{rate}
use Rattle.model.specs.Mux.{Mux}
use Rattle.model.specs.Run.{Call, Run, call, run, AllowedCall, Allowed, StaysCall, Stays, others}
use Rattle.model_journey.specs.Bounds.{writes_in, AtRates, NoPush}
use Rattle.model_journey.proofs.Turns.{others_append}
use Rattle.model_journey.proofs.Calls.{then_run}
use Rattle.caption.specs.declared.Framerate.{Framerate}
use Rattle.writer.specs.Writer.{means}
use Rattle.writer.proofs.Kept.{Sound}
use Rattle.writer.specs.declared.CCDataWriter.{CCDataWriter}
use Rattle.theorems.specs.Items.{Items, no_items, and_then}
use Rattle.theorems.proofs.Passing.{there_in, Passed, passed_none, passed_then}

-- what is asked of calls for a test of the multiplexers that they write from
abbrev pub Tests : Type 1
Tests = (Mux → Bool) → Type 0

-- what is asked of them for the mode and the rate to stay
abbrev pub Staying : Type 1
Staying = Bool → Framerate → Type 0

-- nothing, for any test
abbrev pub no_test : Tests
no_test passes = Unit {0}

-- nothing, for any mode and rate
abbrev pub no_stay : Staying
no_stay mode speed = Unit {0}

-- One call is one of the model, with the frames fs and the items is: allowed if what `test` asks holds, and staying if what `stay` asks does. It takes
-- part in calls that follow by what it adds to what is known of them.
pub record Step (w : CCDataWriter) (c : Call) (fs : List (List ℕ)) (is : Items) (w' : CCDataWriter) (test : Tests) (stay : Staying) : Type 0 where
  pub last : (call c (means w)).last ≡ means w'
  pub frames : (call c (means w)).frames ≡ fs
  pub packets : (call c (means w)).packets ≡ is.packets
  pub pairs1 : others (call c (means w)).pairs1 ≡ is.pairs1
  pub pairs2 : others (call c (means w)).pairs2 ≡ is.pairs2
  pub allowed : (passes : Mux → Bool) → test passes → AllowedCall passes c (means w)
  pub steady : (mode : Bool) (speed : Framerate) → stay mode speed → StaysCall mode (rate speed.numer speed.denom) c (means w)
  pub rates : (cs : List Call) → AtRates cs → AtRates (c ∷ cs)
  pub writes : (cs : List Call) → writes_in (c ∷ cs) ≡ length fs + writes_in cs
  pub quiet : is ≡ no_items → (cs : List Call) → NoPush cs → NoPush (c ∷ cs)
  pub passed : Passed (there_in w) is.packets (there_in w')
  pub sound : Sound w'

-- a call leaves the state as it was, with no frame and no item; or it is one of the model
pub data Moved (w : CCDataWriter) (fs : List (List ℕ)) (is : Items) (w' : CCDataWriter) (test : Tests) (stay : Staying) : Type 0 where
  unmoved : fs ≡ [] → is ≡ no_items → w' ≡ w → Moved w fs is w' test stay
  moves : (c : Call) → Step w c fs is w' test stay → Moved w fs is w' test stay

-- either way the limits are kept
pub moved_sound : {w w' : CCDataWriter} {fs : List (List ℕ)} {is : Items} {test : Tests} {stay : Staying} → Moved w fs is w' test stay → Sound w → Sound w'
moved_sound (unmoved f i e) s = rw e s
moved_sound (moves c k) s = k.sound

-- calls of the model from s to the multiplexer that w is, with the frames fs and the items is; `there` are the packets that were there
pub record Follows (s : Mux) (there : List Packet) (fs : List (List ℕ)) (is : Items) (w : CCDataWriter) (test : Tests) (stay : Staying) : Type 0 where
  pub calls : List Call
  pub last : (run calls s).last ≡ means w
  pub frames : (run calls s).frames ≡ fs
  pub packets : (run calls s).packets ≡ is.packets
  pub pairs1 : others (run calls s).pairs1 ≡ is.pairs1
  pub pairs2 : others (run calls s).pairs2 ≡ is.pairs2
  pub allowed : (passes : Mux → Bool) → test passes → Allowed passes calls s
  pub steady : (mode : Bool) (speed : Framerate) → stay mode speed → Stays mode (rate speed.numer speed.denom) calls s
  pub rates : AtRates calls
  pub writes : writes_in calls ≡ length fs
  pub quiet : is ≡ no_items → NoPush calls
  pub passed : Passed there is.packets (there_in w)
  pub sound : Sound w

-- no call
pub follows_none : (w : CCDataWriter) → Sound w → Follows (means w) (there_in w) [] no_items w no_test no_stay
unfolding run others
follows_none w s =
    record {
      calls = [];
      last = refl;
      frames = refl;
      packets = refl;
      pairs1 = refl;
      pairs2 = refl;
      allowed = λ passes p. tt;
      steady = λ mode speed p. tt;
      rates = tt;
      writes = refl;
      quiet = λ e. tt;
      passed = passed_none (there_in w);
      sound = s;
    }

-- a list behind another is empty only if both are
append_none : {A : Type 0} (xs ys : List A) → xs ++ ys ≡ [] → (xs ≡ []) × (ys ≡ [])
append_none [] ys e = (refl, e)
append_none (x ∷ xs) ys e = ((cc), (cc))

-- items that are the same list by list
pub items_same : (a b : Items) → a.packets ≡ b.packets → a.pairs1 ≡ b.pairs1 → a.pairs2 ≡ b.pairs2 → a ≡ b
items_same a b e f g = by a.packets a.pairs1 a.pairs2 e f g
  where
    by : (p : List Packet) (q r : List Pair) → p ≡ b.packets → q ≡ b.pairs1 → r ≡ b.pairs2 → ◌≡◌ {A = Items} (record { packets = p; pairs1 = q; pairs2 = r }) b
    by p q r e f g = rw (e, f, g)

-- items behind others are none only if both are
items_none : (a b : Items) → and_then a b ≡ no_items → (a ≡ no_items) × (b ≡ no_items)
items_none a b e =
    let p = append_none a.packets b.packets (ap (λ (x : Items). x.packets) e) in
    let q = append_none a.pairs1 b.pairs1 (ap (λ (x : Items). x.pairs1) e) in
    let r = append_none a.pairs2 b.pairs2 (ap (λ (x : Items). x.pairs2) e) in
    (items_same a no_items p.0 q.0 r.0, items_same b no_items p.1 q.1 r.1)

-- allowed and staying under less
pub reask : {s : Mux} {there : List Packet} {w : CCDataWriter} {fs : List (List ℕ)} {is : Items} {test less : Tests} {stay fewer : Staying}
    → ((passes : Mux → Bool) → less passes → test passes) → ((mode : Bool) (speed : Framerate) → fewer mode speed → stay mode speed)
    → Follows s there fs is w test stay → Follows s there fs is w less fewer
reask f g t =
    record {
      calls = t.calls;
      last = t.last;
      frames = t.frames;
      packets = t.packets;
      pairs1 = t.pairs1;
      pairs2 = t.pairs2;
      allowed = λ passes p. t.allowed passes (f passes p);
      steady = λ mode speed p. t.steady mode speed (g mode speed p);
      rates = t.rates;
      writes = t.writes;
      quiet = t.quiet;
      passed = t.passed;
      sound = t.sound;
    }

-- calls, where the first leaves s₁
run_next : (c : Call) (cs : List Call) (s s₁ : Mux) → (call c s).last ≡ s₁ → run (c ∷ cs) s ≡ then_run (call c s) (run cs s₁)
unfolding run
run_next c cs s s₁ e = ap (λ (x : Mux). then_run (call c s) (run cs x)) e

-- one call, and then those that follow
pub follow : {w w₁ w₂ : CCDataWriter} {fs₁ fs₂ : List (List ℕ)} {is₁ is₂ : Items} {test₁ test₂ : Tests} {stay₁ stay₂ : Staying}
    → Moved w fs₁ is₁ w₁ test₁ stay₁ → Follows (means w₁) (there_in w₁) fs₂ is₂ w₂ test₂ stay₂
    → Follows (means w) (there_in w) (fs₁ ++ fs₂) (and_then is₁ is₂) w₂ (λ passes. test₁ passes × test₂ passes) (λ mode speed. stay₁ mode speed × stay₂ mode speed)
follow (unmoved f i e) t = rw (f, i, ← e) (reask (λ passes p. p.1) (λ mode speed p. p.1) t)
follow {w} {w₁} {w₂} {fs₁} {fs₂} {is₁} {is₂} (moves c k) t =
    let a : Run = call c (means w) in
    let b : Run = run t.calls (means w₁) in
    let e = run_next c t.calls (means w) (means w₁) k.last in
    record {
      calls = c ∷ t.calls;
      last = rw e t.last;
      frames = rw (e, k.frames, t.frames);
      packets = rw (e, k.packets, t.packets);
      pairs1 = rw (e, others_append a.pairs1 b.pairs1, k.pairs1, t.pairs1);
      pairs2 = rw (e, others_append a.pairs2 b.pairs2, k.pairs2, t.pairs2);
      allowed = λ passes p. (k.allowed passes p.0, rw k.last (t.allowed passes p.1));
      steady = λ mode speed p. (k.steady mode speed p.0, rw k.last (t.steady mode speed p.1));
      rates = k.rates t.calls t.rates;
      writes = k.writes t.calls ∙ ap (λ n. length fs₁ + n) t.writes ∙ sym (length-append fs₁ fs₂);
      quiet = λ z. let n = items_none is₁ is₂ z in k.quiet n.0 t.calls (t.quiet n.1);
      passed = passed_then k.passed t.passed;
      sound = t.sound;
    }
