-- One law of `Frames` for each way out. Assumes nothing.
use mathlib.Core.Path.{◌∙◌}
use Rattle.parser.specs.Means.{Shaped}
use Rattle.parser.proofs.Calls.{length_mapped}
use Rattle.ccread_report.proofs.Frames.{pushed_valid, accepted_lines, accepted_state, refused_lines, refused_state}
use borrow.Author.Rules.{rules}
use Rattle.ccread_report.proofs.put_frame.Goals as goal
use Rattle.ccread_report.proofs.put_frame.Goals.{Start}

-- the arrays have their lengths
shaped : (s : Start) → Shaped s.args.before
shaped s = record { pairs = search rules; pending = search rules; waiting = search (rules, length_mapped) }

pub put_items-requires-clause-before_value : goal.put_items-requires-clause-before_value
put_items-requires-clause-before_value c =
    pushed_valid _ _ (shaped (goal.at.put_items-requires-clause-before_value c).Start) _ _ (record { answer = c.push-answer.ensures.answer; state = c.push-answer.ensures.state; places = c.push-answer.ensures.places }) c.in-Ok.is

pub returns-in-Ok-clause-laid : goal.returns-in-Ok-clause-laid
returns-in-Ok-clause-laid c =
    accepted_lines _ _ (shaped (goal.at.returns-in-Ok-clause-laid c).Start) _ _ (record { answer = c.push-answer.ensures.answer; state = c.push-answer.ensures.state; places = c.push-answer.ensures.places }) c.in-Ok.is _
    c.put_frame_line-laid.ensures c.put_items.ensures.laid

pub returns-in-Ok-clause-parser_value : goal.returns-in-Ok-clause-parser_value
returns-in-Ok-clause-parser_value c =
    c.put_items.ensures.parser_value ∙ accepted_state _ _ (shaped (goal.at.returns-in-Ok-clause-parser_value c).Start) _ _ (record { answer = c.push-answer.ensures.answer; state = c.push-answer.ensures.state; places = c.push-answer.ensures.places }) c.in-Ok.is

pub returns-in-Err-clause-laid : goal.returns-in-Err-clause-laid
returns-in-Err-clause-laid c =
    rw (← refused_lines _ _ (shaped (goal.at.returns-in-Err-clause-laid c).Start) _ _ (record { answer = c.push-answer.ensures.answer; state = c.push-answer.ensures.state; places = c.push-answer.ensures.places }) _ c.in-Err.is _)
    c.put_frame_line-laid.ensures

pub returns-in-Err-clause-parser_value : goal.returns-in-Err-clause-parser_value
returns-in-Err-clause-parser_value c =
    refused_state _ _ (shaped (goal.at.returns-in-Err-clause-parser_value c).Start) _ _ (record { answer = c.push-answer.ensures.answer; state = c.push-answer.ensures.state; places = c.push-answer.ensures.places }) _ c.in-Err.is
