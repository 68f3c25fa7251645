-- `writer::CCDataWriter::write` meets its contract: one law for each way out. Assumes nothing.
use mathlib.Core.Path.{◌≡◌}
use borrow.Author.Rules.{rules}
use Prim.Native.Nat.{◌≤◌, ◌<◌}
use lib.ListN.{length}
use Rattle.model.specs.Said.{refused, out_short}
use Rattle.caption.specs.Answers.{said_refusal}
use Rattle.caption.proofs.Outcomes.{given_valid}
use Rattle.writer_frames.specs.Frame.{emitted}
use Rattle.writer_shares.specs.Share.{share_of}
use Rattle.writer.specs.Calls.{written}
use Rattle.writer.specs.Making.{built_from, joined}
use Rattle.writer.proofs.Builds.{Builds}
use Rattle.writer.proofs.Calls.{Writes, wrote_unshared, made, wrote_short, wrote_done}
use Rattle.writer.proofs.CCDataWriter.write.Goals as goal
use Rattle.writer.proofs.CCDataWriter.write.Goals.{In_err-share, After-make-made}

-- the rate gives no share
unshared : (c : In_err-share) → written c.args.rate c.args.out.now c.args.self.now ≡ refused (said_refusal c.in_err-share.field-0.0)
unshared c = wrote_unshared c.args.self.now c.args.rate c.args.out.now (given_valid _ _ _ c.in_ok-check.ensures.answer) c.in_err-share.ensures

pub returns-in_err-share-clause-answer : goal.returns-in_err-share-clause-answer
returns-in_err-share-clause-answer c = let told = unshared (goal.at.returns-in_err-share-clause-answer c).In_err-share in rw told (search rules)

pub returns-in_err-share-clause-state : goal.returns-in_err-share-clause-state
returns-in_err-share-clause-state c = rw (unshared (goal.at.returns-in_err-share-clause-state c).In_err-share)

pub returns-in_err-share-clause-places : goal.returns-in_err-share-clause-places
returns-in_err-share-clause-places c = rw (unshared (goal.at.returns-in_err-share-clause-places c).In_err-share)

pub returns-in_err-share-clause-output : goal.returns-in_err-share-clause-output
returns-in_err-share-clause-output c = rw (unshared (goal.at.returns-in_err-share-clause-output c).In_err-share)

-- what is made is the model's
found : (c : After-make-made) → (let h = c.in_ok-share.share in c.make-made.result ≡ built_from h.pairs h.triples h.carry c.args.self.now)
found c = rw c.source.ensures at c.make-made.ensures

builds : (c : After-make-made) → Builds (share_of c.in_ok-share.share) c.args.self.now c.make-made.result
builds c = made c.args.self.now c.args.rate c.args.out.now (given_valid _ _ _ c.in_ok-check.ensures.answer) c.in_ok-check.ensures.shaped (share_of c.in_ok-share.share) c.in_ok-share.ensures c.make-made.result (found c)

-- the output is too short
short : (c : After-make-made) → length c.args.out.now < c.make-made.result.frame.len → written c.args.rate c.args.out.now c.args.self.now ≡ refused (out_short c.make-made.result.frame.len)
short c = wrote_short c.args.self.now c.args.rate c.args.out.now (given_valid _ _ _ c.in_ok-check.ensures.answer) c.in_ok-check.ensures.shaped (share_of c.in_ok-share.share) c.in_ok-share.ensures c.make-made.result (found c)

pub returns-then-out-needed-clause-answer : goal.returns-then-out-needed-clause-answer
returns-then-out-needed-clause-answer c = rw (short (goal.at.returns-then-out-needed-clause-answer c).After-make-made c.if-out-needed.true)

pub returns-then-out-needed-clause-state : goal.returns-then-out-needed-clause-state
returns-then-out-needed-clause-state c = rw (short (goal.at.returns-then-out-needed-clause-state c).After-make-made c.if-out-needed.true)

pub returns-then-out-needed-clause-places : goal.returns-then-out-needed-clause-places
returns-then-out-needed-clause-places c = rw (short (goal.at.returns-then-out-needed-clause-places c).After-make-made c.if-out-needed.true)

pub returns-then-out-needed-clause-output : goal.returns-then-out-needed-clause-output
returns-then-out-needed-clause-output c = rw (short (goal.at.returns-then-out-needed-clause-output c).After-make-made c.if-out-needed.true)

pub overflow_sub-self : goal.overflow_sub-self
overflow_sub-self c = (builds (goal.at.overflow_sub-self c).After-make-made).few

-- it is not
wrote : (c : After-make-made) → c.make-made.result.frame.len ≤ length c.args.out.now
    → (let w = c.args.self.now in let m = c.make-made.result in Writes c.args.rate c.args.out.now w m.frame.len (joined w m) (emitted m.frame c.args.out.now))
wrote c = wrote_done c.args.self.now c.args.rate c.args.out.now (given_valid _ _ _ c.in_ok-check.ensures.answer) c.in_ok-check.ensures.shaped (share_of c.in_ok-share.share) c.in_ok-share.ensures c.make-made.result (found c)

pub returns-clause-answer : goal.returns-clause-answer
returns-clause-answer c = (wrote (goal.at.returns-clause-answer c).After-make-made c.if-out-needed.false).answer

pub returns-clause-state : goal.returns-clause-state
returns-clause-state c = rw c.move_down.ensures (wrote (goal.at.returns-clause-state c).After-make-made c.if-out-needed.false).state

pub returns-clause-places : goal.returns-clause-places
returns-clause-places c = rw c.move_down.ensures (wrote (goal.at.returns-clause-places c).After-make-made c.if-out-needed.false).places

pub returns-clause-output : goal.returns-clause-output
returns-clause-output c = rw c.emit.ensures (wrote (goal.at.returns-clause-output c).After-make-made c.if-out-needed.false).output
