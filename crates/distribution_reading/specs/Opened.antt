-- What is told of a packet that is opened [L4]. Assumes nothing.
use Rattle.std.specs.Prelude.{length}
use Rattle.model.specs.Distribution.{Distribution}
use Rattle.distribution_reading.specs.declared.Opened.{Opened}

-- the code of its rate, its counter, and how many triples it has
abbrev pub fields_of : Distribution → Opened
fields_of d = record { code = d.code; counter = d.counter; count = length d.triples }
