-- `writer_frames::Frame::emit` meets its contract. Assumes nothing.
use mathlib.Core.Path.{ap, ◌∙◌}
use native.Mathlib.Nat.{sub-zero}
use lib.ListN.{take}
use lib.Seq.{sets}
use borrow.Author.Rules.{rules}
use Rattle.writer_frames.proofs.Stores.{emitted_long, emitted_short, emitted_laid}
use Rattle.writer_frames.proofs.Frame.emit.Goals as goal

pub returns-then-self-gt-MOST_FRAME : goal.returns-then-self-gt-MOST_FRAME
returns-then-self-gt-MOST_FRAME c = emitted_long c.args.self.now c.args.out.now c.if-self-gt-MOST_FRAME.true

pub returns-then-out-self : goal.returns-then-out-self
returns-then-out-self c = emitted_short c.args.self.now c.args.out.now c.if-self-gt-MOST_FRAME.false c.if-out-self.true

pub returns : goal.returns
returns c = c.put_bytes.ensures ∙ ap (λ n. sets c.args.out.now 0 (take n c.args.self.now.bytes)) (sub-zero c.args.self.now.len) ∙ emitted_laid c.args.self.now c.args.out.now c.if-self-gt-MOST_FRAME.false c.if-out-self.false (search rules)
