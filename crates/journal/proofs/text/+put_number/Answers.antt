use Rattle.std.proofs.Common.{rules, arith}
use Rattle.journal.proofs.Decimal.{digits_some, digits_tenth}
use Rattle.journal.proofs.Written.{wrote_digit, wrote_tenth}
use Rattle.journal.proofs.text.+put_number.Goals as goal

pub put_byte-requires : goal.put_byte-requires
put_byte-requires t c = omega (arith, digits_some c.args.n)

pub returns-then-n-lt10 : goal.returns-then-n-lt10
returns-then-n-lt10 t c = wrote_digit _ _ c.args.n _ _ _ c.if-n-lt10.true c.digit.ensures c.put_byte.ensures

pub put_number-last-requires : goal.put_number-last-requires
put_number-last-requires t c = (search rules, omega (arith, digits_tenth c.args.n c.if-n-lt10.false))

pub put_byte-requires-2 : goal.put_byte-requires-2
put_byte-requires-2 t c = omega (arith, digits_tenth c.args.n c.if-n-lt10.false, c.put_number-last.ensures.place, c.put_number-last.auto.out)

pub returns : goal.returns
returns t c = wrote_tenth _ _ c.args.n _ _ _ _ _ c.if-n-lt10.false (search rules) c.put_number-last.ensures c.digit-2.ensures c.put_byte-2.ensures
