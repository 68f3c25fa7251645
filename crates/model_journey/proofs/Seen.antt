-- What a reader sees of a frame that is written: the turns as its 608 part, and packet triples and padding as its 708 part. Assumes nothing.
use mathlib.Core.Path.{◌≡◌, ap, ◌∙◌}
use mathlib.Core.List.{List, ◌++◌}
use Prim.Native.Nat.{◌-◌}
use lib.ListN.{length}
use Rattle.model.specs.Frame.{Triple, Seen, seen_all}
use Rattle.model.specs.Rate.{Budgets}
use Rattle.model.specs.Mux.{Mux, turns_due, turned, count_due, padding, framed, write_frame}
use Rattle.model_journey.proofs.Parts.{In608, In708, seen_append, join_708}
use Rattle.model_journey.proofs.Turns.{turns_seen}
use Rattle.model_journey.proofs.Padding.{padding_seen}
use Rattle.model_journey.proofs.Sending.{sent_by}
use Rattle.model_journey.proofs.Triples.{Follow, sent_only}

module _ (b : Budgets) (s : Mux) where
  -- the turns' triples
  abbrev pub turns_in : List Triple
  turns_in = (turned (turns_due b.pairs s) s).out

  -- the padding behind the packet triples
  abbrev pub pads_of : List Triple
  pads_of = padding s.pad_out (count_due b s - length turns_in - length (sent_by b s).out)

  -- the 708 part
  abbrev pub seen708 : List Seen
  seen708 = seen_all (sent_by b s).out ++ seen_all pads_of

  -- the two parts are all
  pub seen_parts : seen_all (write_frame b s).frame.triples ≡ seen_all turns_in ++ seen708
  unfolding write_frame framed
  seen_parts = seen_append turns_in ((sent_by b s).out ++ pads_of) ∙ ap (λ (l : List Seen). seen_all turns_in ++ l) (seen_append (sent_by b s).out pads_of)

  -- the first is one
  pub seen_608 : In608 (seen_all turns_in)
  seen_608 = turns_seen (turns_due b.pairs s) s

  -- and so is the second, where the triples left go on with a packet
  pub seen_708 : Follow s.sending → In708 seen708
  seen_708 f = join_708 (sent_only _ f s.packets).in708 (padding_seen s.pad_out _)
