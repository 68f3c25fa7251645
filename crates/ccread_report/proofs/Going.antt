-- The loop that draws every item: what is left to print, printed from here on, is the whole. Assumes nothing.
use mathlib.Core.Path.{◌≡◌, refl, sym, ap, ◌∙◌}
use mathlib.Core.List.{List}
use mathlib.Core.Bool.{true}
use Prim.Native.Nat.{ℕ, suc, ◌≤◌}
use native.Mathlib.Omega.{arith}
use lib.ListN.{length}
use Rattle.model.specs.Demux as model
use Rattle.packet.specs.Packet.{packet_of}
use Rattle.program_text.specs.Laid.{Laid}
use Rattle.program_text.proofs.Layings.{laid_within}
use Rattle.parser.specs.Means.{means}
use Rattle.model.specs.Said.{gave}
use Rattle.parser.specs.Valid.{valid}
use Rattle.parser.specs.After.{asked, drawn}
use Rattle.parser.specs.Items.{drawn_of}
use Rattle.parser.specs.declared.Item.TheVariants as item
use Rattle.parser.specs.declared.Drawn.{Drawn}
use Rattle.parser.specs.declared.CCDataParser.{CCDataParser}
use Rattle.parser.proofs.Laid.{Sound}
use Rattle.parser.proofs.Kept.{drawn_sound}
use Rattle.ccread_report.specs.Report.{waiting_lines, item_lines, drawn_out}
use Rattle.ccread_report.proofs.Lays.{Completes, completes_more, laid_nothing}
use Rattle.ccread_report.proofs.Draws.{items_in, none_lines, drawn_fewer, drawn_lines, drawn_none, items_few, stays}

-- n draws are left, of the demultiplexer p, and `laid` is the place in `out`
pub record Going (before : CCDataParser) (out₀ : List ℕ) (at : ℕ) (out : List ℕ) (p : CCDataParser) (laid n : ℕ) : Type 0 where
  pub sound : Sound p
  pub few : items_in (means p) ≤ n
  pub place : laid ≤ length out
  pub same : length out ≡ length out₀
  pub lines : Completes (waiting_lines (means p)) out laid (waiting_lines (means before)) out₀ at
  pub state : drawn_out 63 before ≡ drawn_out n p

-- what it comes to
pub record Done (before : CCDataParser) (out₀ : List ℕ) (at : ℕ) (out : List ℕ) (p : CCDataParser) (laid : ℕ) : Type 0 where
  pub lines : Laid (waiting_lines (means before)) out₀ at laid out
  pub state : p ≡ drawn_out 63 before

module _ {before : CCDataParser} {out₀ : List ℕ} {at : ℕ} where
  -- at first
  pub going_first : Sound before → at ≤ length out₀ → Going before out₀ at out₀ before at 63
  going_first s h = record { sound = s; few = items_few before s; place = h; same = refl; lines = λ r after w. w; state = refl }

  -- once nothing waits
  pub going_done : {out : List ℕ} {p : CCDataParser} {laid n : ℕ} → Going before out₀ at out p laid n → items_in (means p) ≡ 0
      → Done before out₀ at out p laid
  going_done {out} {p} {laid} {n} g z =
      record {
        lines = g.lines laid out (rw (none_lines (means p) z) (laid_nothing out laid g.place));
        state = sym (g.state ∙ stays p g.sound n z);
      }

  -- an item is drawn, and its lines are laid
  module _ {out mid : List ℕ} {p : CCDataParser} {laid q m : ℕ} (n : ℕ) (e : m ≡ suc n) (g : Going before out₀ at out p laid m) (r : Drawn) (h : gave r ≡ asked p (λ d. drawn_of (model.draw d).item))
      (x : CCDataParser) (state : valid p ≡ true → means x ≡ (model.draw (means p)).next) (places : x ≡ drawn p) (w : Laid (item_lines r.item (packet_of r.packet)) out laid q mid) where
    pub going_next : Going before out₀ at mid x q n
    unfolding drawn_out
    going_next =
        let d : means x ≡ (model.draw (means p)).next = state g.sound.valid in
        let l : length mid ≡ length out = (laid_within w).1 in
        record {
          sound = rw places (drawn_sound p g.sound);
          few = rw d (drawn_fewer (means p) n (omega (arith, g.few)));
          place = omega (arith, (laid_within w).0);
          same = l ∙ g.same;
          lines = rw d (completes_more (rw (drawn_lines p g.sound r h) at g.lines) w);
          state = rw places (g.state ∙ ap (λ (k : ℕ). drawn_out k p) e);
        }

    -- it was none
    pub going_none : r.item ≡ item.Nothing → Done before out₀ at mid x q
    going_none told =
        let z : items_in (means p) ≡ 0 = drawn_none p g.sound r h told in
        let y : items_in (model.draw (means p)).next ≤ 0 = drawn_fewer (means p) 0 (omega arith) in
        going_done going_next (omega (arith, y, ap items_in (state g.sound.valid)))
