-- What a caller may rely on: a fresh state is within the limits with arrays of their lengths, and every call leaves such a state in such a
-- state. Assumes nothing.
use mathlib.Core.Path.{◌≡◌, refl}
use mathlib.Core.Bool.{true}
use Rattle.model.specs.Lists.{every}
use Rattle.model.specs.Rate.{valid_carry, Share}
use Rattle.model.specs.Mux.{Mux, valid_mux, write_share, flush_mux}
use Rattle.model.proofs.MuxStates.{fresh_mux_valid, flush_mux_valid}
use Rattle.writer_queues.specs.Queue.{pair_bytes, queue_over}
use Rattle.slots.specs.Row.{valid_sending}
use Rattle.writer.specs.Writer.{means, in_order, valid_writer, fresh, stored, emptied, moved}
use Rattle.writer.proofs.Valid.{Shaped, Ok, Order, facts_valid, valid_order, valid_ok, valid_mux_means}
use Rattle.writer.proofs.Builds.{next_valid, means_frame, order_frame, shaped_frame}
use Rattle.writer.proofs.Stored.{Grows, means_stored, order_stored, shaped_stored, means_emptied, order_emptied}
use Rattle.writer.proofs.Laws.{means_fresh}
use Rattle.writer.specs.declared.CCDataWriter.{CCDataWriter}

-- a state within the limits, its arrays of their lengths
pub record Sound (w : CCDataWriter) : Type 0 where
  pub valid : valid_writer w ≡ true
  pub shaped : Shaped w

-- a fresh state
pub fresh_sound : Sound fresh
unfolding fresh queue_over pair_bytes valid_writer in_order valid_sending every
fresh_sound =
    record {
      valid = rw means_fresh fresh_mux_valid;
      shaped = record { packets = refl; first = refl; second = refl };
    }

-- each call of a state that is sound
module _ (w : CCDataWriter) (s : Sound w) where
  -- the limits as facts
  pub sound_ok : Ok w
  sound_ok = valid_ok w s.shaped s.valid

  -- its places are in order
  pub sound_order : Order w
  sound_order = valid_order w s.shaped s.valid

  -- the multiplexer that it means is within its limits
  pub sound_mux : valid_mux (means w) ≡ true
  sound_mux = valid_mux_means w s.valid

  -- places in order that mean a multiplexer within its limits
  sound_by : (y : CCDataWriter) (x : Mux) → Order y → Shaped y → means y ≡ x → valid_mux x ≡ true → Sound y
  sound_by y x o h m v = record { valid = facts_valid y o (rw m v); shaped = h }

  -- a switch or a push
  pub stored_sound : (x : Mux) → Grows (means w) x → Sound (stored w x)
  stored_sound x g =
      sound_by (stored w x) x (order_stored w sound_order sound_ok x g) (shaped_stored w sound_order sound_ok x g) (means_stored w sound_order sound_ok x g) g.valid

  -- flush
  pub emptied_sound : Sound (emptied w (flush_mux (means w)))
  unfolding queue_over pair_bytes
  emptied_sound =
      sound_by (emptied w (flush_mux (means w))) (flush_mux (means w)) (order_emptied w)
      (record { packets = s.shaped.packets; first = s.shaped.first; second = s.shaped.second }) (means_emptied w) (flush_mux_valid (means w))

  -- a frame
  pub moved_sound : (h : Share) → valid_carry h.carry ≡ true → Sound (moved w (write_share h (means w)).next)
  moved_sound h c =
      sound_by (moved w (write_share h (means w)).next) (write_share h (means w)).next (order_frame w h sound_ok sound_mux c sound_order)
      (shaped_frame w h sound_ok sound_mux c) (means_frame w h sound_ok sound_mux c) (next_valid w h sound_ok sound_mux c)
