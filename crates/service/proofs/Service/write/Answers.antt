-- One law of `Services` for each way out, and header and payload laid one behind the other are the block as written. 11 comes first, by `check`.
-- Assumes nothing.
use mathlib.Core.Path.{◌≡◌, refl, sym, ap, ◌∙◌}
use Prim.Native.Nat.{◌+◌, ◌-◌}
use native.Mathlib.Nat.{add-sub_cancel_left, sub-zero}
use native.Mathlib.Omega.{arith}
use lib.ListN.{length, take}
use lib.Seq.{length-sets}
use borrow.Author.Rules.{rules}
use borrow.Rule.Slice.PartMut.{put_mid}
use Rattle.model.specs.Said.{gave, refused, out_short}
use Rattle.service.specs.Service.{written}
use Rattle.service_headers.proofs.Heads.{written_most}
use Rattle.caption.proofs.Outcomes.{given_valid}
use Rattle.basics.proofs.Runs.{part_laid}
use Rattle.service.proofs.Services.{valid_len, payload_length, payload_written, write_short, write_fits}
use Rattle.service.proofs.Service.write.Goals as goal

pub overflow_add-total : goal.overflow_add-total
overflow_add-total c =
    omega (arith, valid_len _ (given_valid _ _ _ c.in_ok-check.ensures), written_most c.args.self.now.number c.written_header_length-start.result c.written_header_length-start.ensures)

-- 9: the output is too short
short : (c : goal.Then-out-total) → written c.args.self.now c.args.out.now ≡ refused (out_short (c.written_header_length-start.result + c.args.self.now.len))
short c = write_short _ _ refl (search rules) _ _ (given_valid _ _ _ c.in_ok-check.ensures) c.written_header_length-start.ensures c.if-out-total.true

pub returns-then-out-total-clause-answer : goal.returns-then-out-total-clause-answer
returns-then-out-total-clause-answer c = rw (short c)

pub returns-then-out-total-clause-output : goal.returns-then-out-total-clause-output
returns-then-out-total-clause-output c = rw (short c)

pub overflow_cast-self : goal.overflow_cast-self
overflow_cast-self c = omega (arith, valid_len _ (given_valid _ _ _ c.in_ok-check.ensures))

pub slice_bounds-copy_from_slice-end-2 : goal.slice_bounds-copy_from_slice-end-2
slice_bounds-copy_from_slice-end-2 c = valid_len _ (given_valid _ _ _ c.in_ok-check.ensures)

-- header and payload are the block as written
wrote : (c : goal.After-slice_known-3-1)
    → written c.args.self.now c.args.out.now ≡ gave (put_mid c.written_header_length-start.result (c.written_header_length-start.result + c.args.self.now.len - c.written_header_length-start.result) c.put_header.new.out c.copy_from_slice.new.self)
wrote c =
    let places : length c.args.self.now.payload ≡ 31 = search rules in
    let valid = given_valid _ _ _ c.in_ok-check.ensures in
    let size : length (take c.args.self.now.len c.args.self.now.payload) ≡ c.args.self.now.len = payload_length c.args.self.now _ refl places valid in
    let same : length c.put_header.new.out ≡ length c.args.out.now = rw (c.put_header.ensures, length-sets) in
    write_fits _ _ refl places _ _ _ valid c.written_header_length-start.ensures c.if-out-total.false
    (part_laid c.put_header.new.out _ (take c.args.self.now.len c.args.self.now.payload) c.written_header_length-start.result _
    (c.copy_from_slice.ensures.after ∙ ap (λ n. take n c.args.self.now.payload) (sub-zero c.args.self.now.len))
    (add-sub_cancel_left c.written_header_length-start.result c.args.self.now.len ∙ sym size) (omega (arith, same, size, c.if-out-total.false))
    ∙ rw c.put_header.ensures)

pub returns-clause-answer : goal.returns-clause-answer
returns-clause-answer c =
    rw (wrote c)
    (ap gave (ap (λ k. k + c.args.self.now.len) c.written_header_length-start.ensures ∙ sym (payload_written _ _ refl (search rules) (given_valid _ _ _ c.in_ok-check.ensures))))

pub returns-clause-output : goal.returns-clause-output
returns-clause-output c = rw (wrote c)
