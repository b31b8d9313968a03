-- The deviation's text is one of two. Assumes nothing.
use Rattle.std.proofs.Common.{sym, ap, arith, length}
use Rattle.journal.proofs.LineText.{deviation_none, deviation_some}
use Rattle.journal.proofs.Written.{retold}
use Rattle.journal.proofs.text.put_deviation.Goals as goal

pub put_byte-requires : goal.put_byte-requires
put_byte-requires c = omega (arith, ap length (deviation_none c.args.deviation c.if-deviation-eq-NO_STATE.true))

pub returns-then-deviation-eq-NO_STATE : goal.returns-then-deviation-eq-NO_STATE
returns-then-deviation-eq-NO_STATE c = retold (sym (deviation_none _ c.if-deviation-eq-NO_STATE.true)) c.put_byte.ensures

pub put_number-requires : goal.put_number-requires
put_number-requires c = omega (arith, ap length (deviation_some c.args.deviation c.if-deviation-eq-NO_STATE.false))

pub returns : goal.returns
returns c = retold (sym (deviation_some _ c.if-deviation-eq-NO_STATE.false)) c.put_number.ensures
