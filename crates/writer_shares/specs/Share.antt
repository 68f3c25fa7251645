-- What a frame gets of a rate, in the model. Assumes nothing.
use Rattle.model.specs.Rate as model
use Rattle.writer_shares.specs.declared.Carry.{Carry}
use Rattle.writer_shares.specs.declared.Share.{Share}

-- the carried parts
abbrev pub carry_of : Carry → model.Carry
carry_of c = record { numer = c.numer; denom = c.denom; pairs = c.pairs; triples = c.triples }

-- and the parts that those of the model are
abbrev pub carry_in : model.Carry → Carry
carry_in c = record { numer = c.numer; denom = c.denom; pairs = c.pairs; triples = c.triples }

-- what is got: budgets and parts
abbrev pub share_of : Share → model.Share
share_of h = record { budgets = record { pairs = h.pairs; triples = h.triples }; carry = carry_of h.carry }

-- and what that of the model is
abbrev pub share_in : model.Share → Share
share_in h = record { pairs = h.budgets.pairs; triples = h.budgets.triples; carry = carry_in h.carry }
