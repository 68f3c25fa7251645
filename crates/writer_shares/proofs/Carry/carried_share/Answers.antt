-- `writer_shares::Carry::carried_share` meets its contract: a sum of fewer than 32 steps is cut into a budget and what it leaves over. Assumes nothing.
use native.Mathlib.Omega.{arith}
use Rattle.writer_shares.specs.Share.{carry_of}
use Rattle.writer_shares.proofs.Shares.{carried_is}
use Rattle.writer_shares.proofs.Carry.carried_share.Goals as goal

pub returns : goal.returns
returns c = carried_is c.args.rate.numer c.args.rate.denom (carry_of c.args.self) c.requires (omega (arith, c.if-numer-denom.false)) _ c.going_on-on.ensures _ _
    c.cut-pairs.ensures c.cut-triples.ensures
