-- The laws of a fresh state, and of a write that is accepted. Assumes nothing.
use mathlib.Core.Path.{◌≡◌, refl}
use mathlib.Core.Bool.{true}
use mathlib.Core.List.{List, ◌++◌}
use Prim.Native.Nat.{ℕ, ◌≤◌}
use native.Mathlib.Omega.{arith}
use borrow.Author.Tests.{le-ltb}
use lib.ListN.{length, drop}
use Rattle.model.specs.Said.{gave, put_into}
use Rattle.model.specs.Frame.{frame_bytes}
use Rattle.model.specs.Rate.{Share}
use Rattle.model.specs.Mux.{fresh_mux, started, share_at, write_share, write_at}
use Rattle.model.proofs.MuxStates.{frame_most}
use Rattle.caption.specs.declared.Framerate.{Framerate}
use Rattle.writer_queues.specs.Queue.{pairs_of, queue_of, pair_bytes, queue_over}
use Rattle.slots.specs.Slot.{written_bytes}
use Rattle.writer.specs.Writer.{means, valid_writer, fresh}
use Rattle.writer.specs.Calls.{written}
use Rattle.writer.proofs.Valid.{valid_mux_means, share_within}
use Rattle.writer.specs.declared.CCDataWriter.{CCDataWriter}

-- a fresh state
pub means_fresh : means fresh ≡ fresh_mux
unfolding means fresh written_bytes started queue_of pairs_of queue_over pair_bytes
means_fresh = refl

-- a write of it that gets a share of the rate, with 95 bytes of room, gives the model's frame
pub write_given : (w : CCDataWriter) → valid_writer w ≡ true → (rate : Framerate) (out : List ℕ) {h : Share} → share_at rate.numer rate.denom (means w) ≡ gave h → 95 ≤ length out
    → written rate out w ≡ (let f = frame_bytes (write_share h (means w)).frame in gave (record { frame = f; out = f ++ drop (length f) out; next = (write_share h (means w)).next }))
unfolding written write_at put_into
write_given w v rate out {h} e room =
    let most = frame_most h.budgets (means w) (share_within w v rate e).accepted (valid_mux_means w v) in
    rw (v, e, le-ltb (length out) (length (frame_bytes (write_share h (means w)).frame)) (omega arith))
