-- `writer_shares::Carry::share` meets its contract: one law of `Shares` for each way out. Assumes nothing.
use borrow.Author.Rules.{rules}
use mathlib.Core.Path.{sym, ◌∙◌}
use Rattle.writer_shares.specs.Share.{carry_of}
use Rattle.writer_shares.proofs.Shares.{no_share, some_frames, with_mode, without_mode}
use Rattle.writer_shares.proofs.Carry.share.Goals as goal

pub returns-in_err-budgets : goal.returns-in_err-budgets
returns-in_err-budgets c =
    let told = no_share c.args.carrying c.args.rate.numer c.args.rate.denom (carry_of c.args.self) (sym c.is_valid.ensures ∙ c.if-not-is_valid.false) _ c.in_err-budgets.ensures in
    search rules

pub carried_share-requires : goal.carried_share-requires
carried_share-requires c = let v = sym c.is_valid.ensures ∙ c.if-not-is_valid.false in
    (v, some_frames c.args.carrying c.args.rate.numer c.args.rate.denom (carry_of c.args.self) v _ c.in_ok-budgets.ensures)

pub returns-then-carrying : goal.returns-then-carrying
returns-then-carrying c = with_mode c.args.carrying c.args.rate.numer c.args.rate.denom (carry_of c.args.self) (sym c.is_valid.ensures ∙ c.if-not-is_valid.false) _ c.in_ok-budgets.ensures
    c.if-carrying.true c.carried_share.ensures

pub returns : goal.returns
returns c = without_mode c.args.carrying c.args.rate.numer c.args.rate.denom (carry_of c.args.self) (sym c.is_valid.ensures ∙ c.if-not-is_valid.false) _ c.in_ok-budgets.ensures c.if-carrying.false
