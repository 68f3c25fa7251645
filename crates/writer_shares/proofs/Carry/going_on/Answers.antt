-- `writer_shares::Carry::going_on` meets its contract: one law of `Shares` for each way out. Assumes nothing.
use Rattle.writer_shares.specs.Share.{carry_of}
use Rattle.writer_shares.proofs.Shares.{goes_on, afresh_numer, afresh_denom}
use Rattle.writer_shares.proofs.Carry.going_on.Goals as goal

pub returns-then-self-rate-2 : goal.returns-then-self-rate-2
returns-then-self-rate-2 c = let a = c.args in
    goes_on a.rate.numer a.rate.denom (carry_of a.self) c.if-self-rate.true c.if-self-rate-2.true

pub returns-else-self-rate-2 : goal.returns-else-self-rate-2
returns-else-self-rate-2 c = let a = c.args in
    afresh_denom a.rate.numer a.rate.denom (carry_of a.self) c.if-self-rate.true c.if-self-rate-2.false

pub returns-else-self-rate : goal.returns-else-self-rate
returns-else-self-rate c = let a = c.args in
    afresh_numer a.rate.numer a.rate.denom (carry_of a.self) c.if-self-rate.false
