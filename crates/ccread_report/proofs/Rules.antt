-- What is told of a packet, in the words of the rules [C5], with examples. Assumes nothing.
use mathlib.Core.Path.{◌≡◌, refl, sym, ap, subst, ◌∙◌}
use mathlib.Core.Bool.{false}
use mathlib.Core.List.{List, [], ◌∷◌, ◌++◌, map, append-nil, append_assoc}
use Prim.Native.Nat.{ℕ}
use native.Mathlib.Omega.{arith}
use lib.Dec.{eqb}
use borrow.Author.Tests.{ne_eqb}
use Rattle.model.specs.Said.{Said, refused, accepted, bad_sum, not_newer}
use Rattle.model.proofs.Cases.{Refuses}
use Rattle.distribution.specs.States.{last_of}
use Rattle.distribution.proofs.Given.{OfPacket, received_refused}
use Rattle.program_text.specs.Text.{word, digit, decimal_in, decimal}
use Rattle.program_lines.specs.Lines.{value_text, values_text, answer_text}
use Rattle.ccread_report.specs.Report.{lent, cdp_read, cdp_line, cdp_lines, cdp_taken}
use Rattle.ccread_report.specs.declared.Capture.{Capture}
use Rattle.ccread_report.proofs.Packets.{refused_alone}

-- the line of a packet that is accepted
pub accepted_line : (r code counter : ℕ)
    → cdp_line r (accepted (code ∷ counter ∷ [])) ≡ word "cdp " ++ decimal r ++ word " ok " ++ decimal code ++ word " " ++ decimal counter ++ word "\n"
unfolding cdp_line answer_text values_text value_text
accepted_line r code counter =
    let a = word "cdp " ++ decimal r in
    let v = decimal code ++ (word " " ++ decimal counter) in
    let front = append_assoc a (word " ") (word "ok " ++ v) in
    let back = append_assoc (a ++ word " ok " ++ decimal code) (word " ") (decimal counter) ∙ append_assoc (a ++ word " ok ") (decimal code) (word " " ++ decimal counter) ∙ append_assoc a (word " ok ") v in
    rw (append-nil (decimal counter)) (ap (λ (l : List ℕ). l ++ word "\n") (front ∙ sym back))

-- a packet that is refused
module _ (r : ℕ) (s : List ℕ) (c : Capture) (why : Said) (e : cdp_read s c.reader ≡ refused why) where
  -- is so by one of 16 to 20, never by 9,
  pub why_refused : OfPacket why
  unfolding cdp_read
  why_refused = subst (Refuses OfPacket) e (received_refused (last_of c.reader.last) s lent (omega arith))

  -- is one line,
  own_line : cdp_line r why ≡ word "cdp " ++ decimal r ++ word " refused " ++ decimal why.number ++ word "\n"
  unfolding cdp_line answer_text values_text
  own_line =
      let a = word "cdp " ++ decimal r in
      let d = decimal why.number in
      let some : eqb why.number 0 ≡ false = ne_eqb why.number 0 (λ z. omega (arith, why_refused.least, z)) in
      let none : values_text why.values ≡ [] = ap values_text why_refused.bare in
      rw (some, none, append-nil d)
      (ap (λ (l : List ℕ). l ++ word "\n") (append_assoc a (word " ") (word "refused " ++ d) ∙ sym (append_assoc a (word " refused ") d)))

  pub refused_line : cdp_lines r s c ≡ word "cdp " ++ decimal r ++ word " refused " ++ decimal why.number ++ word "\n"
  unfolding cdp_lines
  refused_line = rw (e, refused_alone r c.parser why) own_line

  -- and changes nothing
  pub refused_same : cdp_taken s c ≡ c
  unfolding cdp_taken
  refused_same = rw e

-- lines of packets
examples : map (cdp_line 12) (accepted (4 ∷ 65535 ∷ []) ∷ bad_sum ∷ not_newer ∷ []) ≡ word "cdp 12 ok 4 65535\n" ∷ word "cdp 12 refused 18\n" ∷ word "cdp 12 refused 20\n" ∷ []
unfolding cdp_line answer_text values_text value_text decimal decimal_in digit
examples = refl
