-- What is told of the packet decides between the line of the counts and that of a refusal. Assumes nothing.
use mathlib.Core.Path.{refl}
use Rattle.std.specs.Prelude.{Ok}
use Rattle.script_codes.proofs.Lines.{counts_given, counts_refused}
use Rattle.script_codes.proofs.put_counted_line.Goals as goal

pub returns-in-Ok : goal.returns-in-Ok
returns-in-Ok c = counts_given c.args.packet.now (Ok tt) (c.check_packet.lifetimes, c.args.packet, refl, c.in-Ok.ensures) refl c.put_counts_line.ensures

pub returns-in-Err : goal.returns-in-Err
returns-in-Err c = counts_refused c.args.packet.now _ c.in-Err.ensures c.put_refusal_line.ensures
