-- By the kind: every record has a first field, and the society is the last one. Assumes nothing.
use Rattle.std.proofs.Common.{◌≡◌, ◌+◌, arith}
use Rattle.rules.specs.Record.{day_at}
use Rattle.rules.specs.Journal.{journal_length, society_at, record_of}
use Rattle.journal.specs.Records.{kind_number}
use Rattle.journal.proofs.Records.{first_field}
use Rattle.journal.proofs.record.whole_at.Goals as goal

pub word_at-first-requires : goal.word_at-first-requires
word_at-first-requires c = omega (arith, c.requires, first_field c.args.kind)

pub word_at-requires : goal.word_at-requires
unfolding journal_length
word_at-requires c = let e : journal_length (kind_number c.args.kind) ≡ 8 = rw c.in-Fire.is in omega (arith, c.requires)

pub word_at-requires-in-Event : goal.word_at-requires-in-Event
unfolding journal_length
word_at-requires-in-Event c = let e : journal_length (kind_number c.args.kind) ≡ 12 = rw c.in-Event.is in omega (arith, c.requires)

pub word_at-requires-in-Event-2 : goal.word_at-requires-in-Event-2
unfolding journal_length
word_at-requires-in-Event-2 c = let e : journal_length (kind_number c.args.kind) ≡ 12 = rw c.in-Event.is in omega (arith, c.requires)

pub word_at-requires-in-Event-3 : goal.word_at-requires-in-Event-3
unfolding journal_length
word_at-requires-in-Event-3 c = let e : journal_length (kind_number c.args.kind) ≡ 12 = rw c.in-Event.is in omega (arith, c.requires)

pub returns-in-Signal : goal.returns-in-Signal
unfolding record_of society_at journal_length
returns-in-Signal c = rw (c.in-Signal.is, c.word_at-first.ensures)

pub returns-in-Fire : goal.returns-in-Fire
unfolding record_of society_at journal_length
returns-in-Fire c = rw (c.in-Fire.is, c.word_at-first.ensures, c.word_at.ensures)

pub returns-in-FireLowest : goal.returns-in-FireLowest
unfolding record_of society_at journal_length
returns-in-FireLowest c = rw (c.in-FireLowest.is, c.word_at-first.ensures)

pub returns-in-Event : goal.returns-in-Event
unfolding record_of day_at society_at journal_length
returns-in-Event c =
    let a = c.args in
    let e : a.at + 8 ≡ a.at + 6 + 2 = omega arith in
    rw (c.in-Event.is, c.word_at-first.ensures, c.word_at-in-Event.ensures, c.word_at-in-Event-2.ensures, c.word_at-in-Event-3.ensures, e)
