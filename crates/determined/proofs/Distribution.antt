-- The functions of distribution packets. Assumes nothing.
use mathlib.Core.Path.{sym, ◌∙◌}
use mathlib.Core.List.{List}
use Prim.Native.Nat.{ℕ}
use contract.Lifetimes.{Lfts}
use Rattle.caption.proofs.Outcomes.{outcome_injective}
use Rattle.distribution.proofs.coded_rates.Reads as CodedRatesReads
use Rattle.distribution.proofs.rate_of.Reads as RateOfReads
use Rattle.distribution.proofs.DistributionReader.new.Reads as NewReader
use Rattle.distribution.proofs.DistributionReader.read.Reads as read
use Rattle.distribution.proofs.DistributionWriter.new.Reads as NewWriter
use Rattle.distribution.proofs.DistributionWriter.write.Reads as write
use Rattle.determined.specs.Determines.{Determines, DeterminesLent}
use Rattle.determined.proofs.Ways.{equal, two}

-- `coded_rates()`
pub coded_rates : Determines (CodedRatesReads.Post (tt {0}))
coded_rates = equal

-- `rate_of(code)`
pub rate_of : Determines (RateOfReads.Post (tt {0}))
rate_of = record { result = λ a r q e f h k. outcome_injective r q (h ∙ sym k) }

-- `DistributionReader::new()`
pub distribution_reader_new : Determines (NewReader.Post (tt {0}))
distribution_reader_new = record { result = λ a r q e f h k. h.1 ∙ sym k.1 }

-- a reader or a writer, and the bytes of an output
abbrev both_lent : {X : Type 0} → X → List ℕ → X × List ℕ
both_lent x out = (x, out)

-- `reader.read(packet, out)`: what is lent is the reader and the output
pub distribution_reader_read : (κs : Lfts 3) → DeterminesLent (λ e. both_lent e.0.now e.1.1.0.now) (read.Post κs)
distribution_reader_read κs =
    record {
      result = λ a r q e f h k. outcome_injective r q (h.0 ∙ sym k.0);
      contents = λ a r q e f h k. two both_lent (h.1.1.0 ∙ sym k.1.1.0) (h.1.1.1.0 ∙ sym k.1.1.1.0);
    }

-- `DistributionWriter::new()`
pub distribution_writer_new : Determines (NewWriter.Post (tt {0}))
distribution_writer_new = equal

-- `writer.write(code, frame, out)`: what is lent is the writer and the output
pub distribution_writer_write : (κs : Lfts 3) → DeterminesLent (λ e. both_lent e.0.now e.1.1.1.0.now) (write.Post κs)
distribution_writer_write κs =
    record {
      result = λ a r q e f h k. outcome_injective r q (h.0 ∙ sym k.0);
      contents = λ a r q e f h k. two both_lent (h.1.0 ∙ sym k.1.0) (h.1.1.0 ∙ sym k.1.1.0);
    }
