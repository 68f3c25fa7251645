-- What a reader and a writer of packets mean: any value of either is within the limits. Assumes nothing.
use Rattle.std.proofs.Math.Option as model
use Rattle.std.specs.Prelude.{ℕ, Option, None, Some}
use Rattle.distribution.specs.declared.DistributionReader.{DistributionReader}
use Rattle.distribution.specs.declared.DistributionWriter.{DistributionWriter}

-- the counter accepted last, or none yet [L5]
abbrev pub last_of : Option ℕ → model.Option ℕ
last_of None = model.none
last_of (Some n) = model.some n

-- a reader that has accepted none
abbrev pub fresh_reader : DistributionReader
fresh_reader = record { last = None }

-- one that has accepted this counter
abbrev pub reader_at : ℕ → DistributionReader
reader_at n = record { last = Some n }

-- a writer whose next packet has this counter
abbrev pub writer_at : ℕ → DistributionWriter
writer_at n = record { next = n }

-- its first has 0 [L5]
abbrev pub fresh_writer : DistributionWriter
fresh_writer = writer_at 0
