-- Each switch keeps the limits, so that all are refused where the first was. Assumes nothing.
use Rattle.script_writers.proofs.Written.{did_switch}
use Rattle.script_writers.proofs.switch.Goals as goal

pub returns : goal.returns
returns c =
    let f = c.set_output_cea608_padding.ensures in
    let s = c.set_output_padding.ensures in
    let t = c.set_carrying.ensures in
    let u = c.set_true_count-answer.ensures in
    did_switch _ _ _ _ c.args.writer.now _ _ _ _ _ _ _ _ (record { answer = f.answer; state = f.state; places = f.places })
    (record { answer = s.answer; state = s.state; places = s.places }) (record { answer = t.answer; state = t.state; places = t.places })
    (record { answer = u.answer; state = u.state; places = u.places }) c.put_done_line.ensures
