-- Each part stands behind the one before it. Assumes nothing.
use Rattle.script_services.proofs.Lines.{set_parts}
use borrow.Author.Rules.{rules}
use Rattle.script_services.proofs.put_set_line.Goals as goal

pub returns : goal.returns
returns c = search (rules, set_parts)
