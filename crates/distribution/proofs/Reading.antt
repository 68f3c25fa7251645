-- What a read comes to in each case. Assumes nothing.
use mathlib.Core.Path.{◌≡◌, ap, ◌∙◌}
use mathlib.Core.Bool.{true, false}
use mathlib.Core.List.{List, ◌∷◌, ◌++◌}
use mathlib.Core.Option.{Option, some}
use Prim.Native.Nat.{ℕ, ◌+◌, ◌*◌, ◌≤◌, ◌<◌}
use native.Mathlib.Omega.{arith}
use lib.ListN.{length, take, drop, length-drop}
use lib.Seq.{length-take-le}
use borrow.Author.Tests.{lt-ltb, le-ltb}
use Rattle.model.specs.Said.{Said, gave, refused, mapped, put_into, out_short, not_newer}
use Rattle.model.specs.Frame.{frame_bytes}
use Rattle.model.specs.Distribution.{count_of, held_in, opened, takes, frame_of, received_into, receive}
use Rattle.model.proofs.Cases.{gives_at}
use Rattle.model.proofs.Distribution.{Ordered, passes_ordered, held_bytes, held_count, Passed, opened_passed}
use Rattle.distribution_reading.specs.Opened.{fields_of}
use Rattle.distribution_reading.specs.declared.Opened.{Opened}
use Rattle.distribution.specs.Frames.{frame_laid}
use Rattle.distribution.proofs.Outcomes.{told_gave, told_refused}

-- bytes that are a packet: which one it is
pub record Held (held : Opened) (s : List ℕ) : Type 0 where
  pub whole : opened s ≡ gave (held_in s)
  pub code : held.code ≡ (held_in s).code
  pub counter : held.counter ≡ (held_in s).counter
  pub count : held.count ≡ count_of s
  pub order : Ordered s

pub opens_held : (held : Opened) (s : List ℕ) → gave held ≡ mapped fields_of (opened s) → Held held s
opens_held held s h =
    let g = told_gave fields_of (opened s) held h in
    let p = gives_at (Passed s) (opened s) g.1 (opened_passed s) in
    let order = passes_ordered s p.order in
    let fields : held ≡ fields_of (held_in s) = g.2 ∙ ap fields_of p.held in
    record {
      whole = g.1 ∙ ap gave p.held;
      code = ap (λ (x : Opened). x.code) fields;
      counter = ap (λ (x : Opened). x.counter) fields;
      count = ap (λ (x : Opened). x.count) fields ∙ held_count s order;
      order = order;
    }

module _ (last : Option ℕ) (s out : List ℕ) where
  -- bytes that are no packet are refused as such
  pub receive_closed : (why : Said) → refused why ≡ mapped fields_of (opened s) → receive last s out ≡ refused why
  unfolding receive
  receive_closed why w = rw (told_refused fields_of (opened s) why w)

  module _ (held : Opened) (h : Held held s) where
    -- its frame
    frame_is : frame_of (held_in s) ≡ (0xC0 + held.count) ∷ 0xFF ∷ take (3 * held.count) (drop 9 s)
    unfolding frame_bytes
    frame_is = rw (held_bytes s h.order, held_count s h.order, h.count)

    pub few : held.count < 32
    few = omega (arith, h.count)

    pub captions_there : 9 + 3 * held.count ≤ length s
    captions_there = omega (arith, h.count, h.order.count)

    pub frame_count : length (frame_of (held_in s)) ≡ 3 * held.count + 2
    frame_count = omega (arith, ap length frame_is, length-take-le (3 * held.count) (drop 9 s) (omega (arith, length-drop 9 s, captions_there)))

    -- 20
    pub receive_old : takes last held.counter ≡ false → receive last s out ≡ refused not_newer
    unfolding receive
    receive_old e = simp (h.whole, ← h.counter, e)

    -- 9
    pub receive_short : takes last held.counter ≡ true → length out < 3 * held.count + 2 → receive last s out ≡ refused (out_short (3 * held.count + 2))
    unfolding receive received_into put_into
    receive_short e l = simp (h.whole, ← h.counter, e, frame_count, lt-ltb (length out) (3 * held.count + 2) l)

    put_given : 3 * held.count + 2 ≤ length out → put_into out (frame_of (held_in s)) ≡ gave (frame_laid held.count s out)
    unfolding put_into
    put_given l = simp (frame_count, le-ltb (length out) (3 * held.count + 2) l) (ap (λ (x : List ℕ). gave (x ++ drop (3 * held.count + 2) out)) frame_is)

    -- or its frame is given
    pub receive_given : takes last held.counter ≡ true → 3 * held.count + 2 ≤ length out
        → receive last s out ≡ gave (record { packet = held_in s; out = frame_laid held.count s out; last = some held.counter })
    unfolding receive received_into
    receive_given e l = simp (h.whole, ← h.counter, e, put_given l)
