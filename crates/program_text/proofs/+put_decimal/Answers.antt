-- A number below 10 is one digit, any other its tenth and a digit. Assumes nothing.
use Rattle.program_text.proofs.Decimals.{laid_digit, laid_tenth}
use Rattle.program_text.proofs.+put_decimal.Goals as goal

pub returns-then-n-lt10 : goal.returns-then-n-lt10
returns-then-n-lt10 t c = laid_digit _ c.if-n-lt10.true c.digit_of.ensures c.put_byte.ensures

pub returns : goal.returns
returns t c = laid_tenth _ c.if-n-lt10.false c.put_decimal-end.ensures c.digit_of-2.ensures c.put_byte-2.ensures
