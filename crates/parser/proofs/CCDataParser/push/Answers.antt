-- `parser::CCDataParser::push` meets its contract: one law of `Pushes` for each plan. Assumes nothing.
use mathlib.Core.Path.{◌≡◌, sym, ◌∙◌}
use mathlib.Core.Bool.{true}
use borrow.Author.Rules.{rules}
use Rattle.std.specs.Prelude.{Err}
use Rattle.parser.specs.Means.{Shaped}
use Rattle.parser.specs.Valid.{valid}
use Rattle.parser.proofs.Calls.{length_mapped}
use Rattle.parser.proofs.Pushes.{push_unread, push_wrong, push_late, push_pairs, push_packets, push_no_place}
use Rattle.parser.proofs.CCDataParser.push.Goals as goal
use Rattle.parser.proofs.CCDataParser.push.Goals.{Start}

-- the arrays have their lengths
shaped : (s : Start) → Shaped s.args.self.now
shaped s = record { pairs = search rules; pending = search rules; waiting = search (rules, length_mapped, s.well_formed) }

pub returns-in-Unread-clause-answer : goal.returns-in-Unread-clause-answer
returns-in-Unread-clause-answer c =
    (push_unread _ _ (shaped (goal.at.returns-in-Unread-clause-answer c).Start) (sym c.if-not-is_valid.false ∙ c.is_valid.ensures) (sym c.plan_of.ensures ∙ c.in-Unread.is)).answer

pub returns-in-Unread-clause-state : goal.returns-in-Unread-clause-state
returns-in-Unread-clause-state c =
    (push_unread _ _ (shaped (goal.at.returns-in-Unread-clause-state c).Start) (sym c.if-not-is_valid.false ∙ c.is_valid.ensures) (sym c.plan_of.ensures ∙ c.in-Unread.is)).state

pub returns-in-Unread-clause-places : goal.returns-in-Unread-clause-places
returns-in-Unread-clause-places c =
    (push_unread _ _ (shaped (goal.at.returns-in-Unread-clause-places c).Start) (sym c.if-not-is_valid.false ∙ c.is_valid.ensures) (sym c.plan_of.ensures ∙ c.in-Unread.is)).places

pub returns-in-LengthWrong-clause-answer : goal.returns-in-LengthWrong-clause-answer
returns-in-LengthWrong-clause-answer c =
    (push_wrong _ _ (shaped (goal.at.returns-in-LengthWrong-clause-answer c).Start) (sym c.if-not-is_valid.false ∙ c.is_valid.ensures) _ _ (sym c.plan_of.ensures ∙ c.in-LengthWrong.is)).answer

pub returns-in-LengthWrong-clause-state : goal.returns-in-LengthWrong-clause-state
returns-in-LengthWrong-clause-state c =
    (push_wrong _ _ (shaped (goal.at.returns-in-LengthWrong-clause-state c).Start) (sym c.if-not-is_valid.false ∙ c.is_valid.ensures) _ _ (sym c.plan_of.ensures ∙ c.in-LengthWrong.is)).state

pub returns-in-LengthWrong-clause-places : goal.returns-in-LengthWrong-clause-places
returns-in-LengthWrong-clause-places c =
    (push_wrong _ _ (shaped (goal.at.returns-in-LengthWrong-clause-places c).Start) (sym c.if-not-is_valid.false ∙ c.is_valid.ensures) _ _ (sym c.plan_of.ensures ∙ c.in-LengthWrong.is)).places

pub returns-in-Late-clause-answer : goal.returns-in-Late-clause-answer
returns-in-Late-clause-answer c =
    (push_late _ _ (shaped (goal.at.returns-in-Late-clause-answer c).Start) (sym c.if-not-is_valid.false ∙ c.is_valid.ensures) _ (sym c.plan_of.ensures ∙ c.in-Late.is) _ c.list.ensures).answer

pub returns-in-Late-clause-state : goal.returns-in-Late-clause-state
returns-in-Late-clause-state c =
    (push_late _ _ (shaped (goal.at.returns-in-Late-clause-state c).Start) (sym c.if-not-is_valid.false ∙ c.is_valid.ensures) _ (sym c.plan_of.ensures ∙ c.in-Late.is) _ c.list.ensures).state

pub returns-in-Late-clause-places : goal.returns-in-Late-clause-places
returns-in-Late-clause-places c =
    (push_late _ _ (shaped (goal.at.returns-in-Late-clause-places c).Start) (sym c.if-not-is_valid.false ∙ c.is_valid.ensures) _ (sym c.plan_of.ensures ∙ c.in-Late.is) _ c.list.ensures).places

pub returns-in-Pairs-clause-answer : goal.returns-in-Pairs-clause-answer
returns-in-Pairs-clause-answer c =
    (push_pairs _ _ (shaped (goal.at.returns-in-Pairs-clause-answer c).Start) (sym c.if-not-is_valid.false ∙ c.is_valid.ensures) (sym c.plan_of.ensures ∙ c.in-Pairs.is) _ c.list-in-Pairs.ensures).answer

pub returns-in-Pairs-clause-state : goal.returns-in-Pairs-clause-state
returns-in-Pairs-clause-state c =
    (push_pairs _ _ (shaped (goal.at.returns-in-Pairs-clause-state c).Start) (sym c.if-not-is_valid.false ∙ c.is_valid.ensures) (sym c.plan_of.ensures ∙ c.in-Pairs.is) _ c.list-in-Pairs.ensures).state

pub returns-in-Pairs-clause-places : goal.returns-in-Pairs-clause-places
returns-in-Pairs-clause-places c =
    (push_pairs _ _ (shaped (goal.at.returns-in-Pairs-clause-places c).Start) (sym c.if-not-is_valid.false ∙ c.is_valid.ensures) (sym c.plan_of.ensures ∙ c.in-Pairs.is) _ c.list-in-Pairs.ensures).places

pub returns-in_ok-gather-in-Packets-clause-answer : goal.returns-in_ok-gather-in-Packets-clause-answer
returns-in_ok-gather-in-Packets-clause-answer c =
    (push_packets _ _ (shaped (goal.at.returns-in_ok-gather-in-Packets-clause-answer c).Start) (sym c.if-not-is_valid.false ∙ c.is_valid.ensures) (sym c.plan_of.ensures ∙ c.in-Packets.is) _ c.gather.ensures.answer _ c.gather.ensures.places c.in_ok-gather-in-Packets.was _ c.list-in-Packets.ensures).answer

pub returns-in_ok-gather-in-Packets-clause-state : goal.returns-in_ok-gather-in-Packets-clause-state
returns-in_ok-gather-in-Packets-clause-state c =
    (push_packets _ _ (shaped (goal.at.returns-in_ok-gather-in-Packets-clause-state c).Start) (sym c.if-not-is_valid.false ∙ c.is_valid.ensures) (sym c.plan_of.ensures ∙ c.in-Packets.is) _ c.gather.ensures.answer _ c.gather.ensures.places c.in_ok-gather-in-Packets.was _ c.list-in-Packets.ensures).state

pub returns-in_ok-gather-in-Packets-clause-places : goal.returns-in_ok-gather-in-Packets-clause-places
returns-in_ok-gather-in-Packets-clause-places c =
    (push_packets _ _ (shaped (goal.at.returns-in_ok-gather-in-Packets-clause-places c).Start) (sym c.if-not-is_valid.false ∙ c.is_valid.ensures) (sym c.plan_of.ensures ∙ c.in-Packets.is) _ c.gather.ensures.answer _ c.gather.ensures.places c.in_ok-gather-in-Packets.was _ c.list-in-Packets.ensures).places

-- the refusal is passed on
passed : (c : goal.After-from_residual) → c.from_residual.result ≡ Err c.in_err-gather-in-Packets.field-0.0
passed c = search rules

pub returns-in_err-gather-in-Packets-clause-answer : goal.returns-in_err-gather-in-Packets-clause-answer
returns-in_err-gather-in-Packets-clause-answer c =
    (push_no_place _ _ (shaped (goal.at.returns-in_err-gather-in-Packets-clause-answer c).Start) (sym c.if-not-is_valid.false ∙ c.is_valid.ensures) (sym c.plan_of.ensures ∙ c.in-Packets.is) _ c.gather.ensures.answer _ c.gather.ensures.places _ c.in_err-gather-in-Packets.was _ (passed c)).answer

pub returns-in_err-gather-in-Packets-clause-state : goal.returns-in_err-gather-in-Packets-clause-state
returns-in_err-gather-in-Packets-clause-state c =
    (push_no_place _ _ (shaped (goal.at.returns-in_err-gather-in-Packets-clause-state c).Start) (sym c.if-not-is_valid.false ∙ c.is_valid.ensures) (sym c.plan_of.ensures ∙ c.in-Packets.is) _ c.gather.ensures.answer _ c.gather.ensures.places _ c.in_err-gather-in-Packets.was _ (passed c)).state

pub returns-in_err-gather-in-Packets-clause-places : goal.returns-in_err-gather-in-Packets-clause-places
returns-in_err-gather-in-Packets-clause-places c =
    (push_no_place _ _ (shaped (goal.at.returns-in_err-gather-in-Packets-clause-places c).Start) (sym c.if-not-is_valid.false ∙ c.is_valid.ensures) (sym c.plan_of.ensures ∙ c.in-Packets.is) _ c.gather.ensures.answer _ c.gather.ensures.places _ c.in_err-gather-in-Packets.was _ (passed c)).places
