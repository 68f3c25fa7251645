-- Both calls ask the same of the packet. Assumes nothing.
use Rattle.script_services.proofs.Lines.{told_both, told_none}
use Rattle.script_services.proofs.put_services_line.Goals as goal

pub returns-in-Ok : goal.returns-in-Ok
returns-in-Ok c = rw (told_both c.args.packet.now _ _ c.in-Ok.ensures) c.put_set_line.ensures

pub returns-in-Err : goal.returns-in-Err
returns-in-Err c = rw (told_none c.args.packet.now _ c.in-Err.ensures) c.put_refusal_line.ensures
