-- Where a call leaves a demultiplexer in its places. Assumes nothing.
use Rattle.std.specs.Prelude.{List, [], cond, ℕ, ◌+◌, ◌%◌, length, replicate, eqb, ltb}
use Rattle.std.proofs.lemmas.List.Edits.{sets}
use Rattle.model.specs.Demux.{Demux, Taken, fresh_demux}
use Rattle.slots.specs.Slot.{slot_with}
use Rattle.slots.specs.declared.Slot.{Slot}
use Rattle.parser_lists.specs.Pairs.{placed_all}
use Rattle.parser_rings.specs.Ring.{with_runs}
use Rattle.parser.specs.declared.CCDataParser.{CCDataParser}

-- a demultiplexer of the model in places: its pairs and pending bytes over those that stand there, and the ring's head and slots
unfoldable pub laid_in : List ℕ → List ℕ → ℕ → List Slot → Demux → CCDataParser
laid_in pairs pending first slots d =
    record {
      cea608_on = d.on608;
      pair_count = length d.pairs;
      pairs = sets pairs 0 (placed_all d.pairs);
      pending_len = length d.pending;
      pending = sets pending 0 d.pending;
      waiting_first = first;
      waiting_count = length d.waiting;
      waiting = slots;
    }

-- [F16] fresh: zeros in every place
unfoldable pub fresh : CCDataParser
fresh = laid_in (replicate 93 0) (replicate 128 0) 0 (replicate 32 (slot_with 0 [])) fresh_demux

-- the ring's head where so many packets waited and n wait: with fewer it moves on, and a ring that is emptied starts again at its first place
unfoldable pub head_after : ℕ → ℕ → ℕ → ℕ
head_after first waited n = cond (ltb n waited) (cond (eqb n 0) 0 ((first + 1) % 32)) first

-- where a call leaves a demultiplexer: over its own places, and the runs that a frame delivers in the slots behind those that wait
unfoldable pub laid_after : CCDataParser → Taken → CCDataParser
laid_after p t =
    laid_in p.pairs p.pending (head_after p.waiting_first p.waiting_count (length t.next.waiting))
    (with_runs p.waiting_first p.waiting_count p.waiting t.runs) t.next
