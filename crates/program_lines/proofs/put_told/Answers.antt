-- The values stand behind the word. Assumes nothing.
use Rattle.program_lines.proofs.Tellings.{laid_answer}
use Rattle.program_lines.proofs.put_told.Goals as goal

pub returns : goal.returns
returns c = laid_answer c.args.told c.put_number-p.ensures c.put_numbers.ensures
