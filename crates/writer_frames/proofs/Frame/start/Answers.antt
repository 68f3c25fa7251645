-- `writer_frames::Frame::start` meets its contract: two stores into zeros. Assumes nothing.
use mathlib.Core.Path.{refl}
use Rattle.writer_frames.specs.Frame.{headed}
use Rattle.writer_frames.proofs.Frame.start.Goals as goal

pub returns : goal.returns
unfolding headed
returns c = refl
