-- The words name the event's moves, and what is judged of them is the choice. Assumes nothing.
use Rattle.std.proofs.Common.{refl}
use borrow.Author.Tests.{not-true}
use Rattle.event_choice.proofs.Choosing.{in_range, chosen_early, chosen_all}
use Rattle.event_choice.proofs.choose_by.Goals as goal

pub moves-m-requires : goal.moves-m-requires
moves-m-requires c = (c.requires.0.checked.lent, in_range _ _ _ _ c.requires.0 c.args.asked c.requires.2)

pub returns-then-not-m : goal.returns-then-not-m
returns-then-not-m c =
    (chosen_early _ _ _ _ c.requires.0 c.args.asked c.requires.2 c.moves-m.ensures (not-true _ c.if-not-m.true), refl)

pub closing_scopes-closing-requires : goal.closing_scopes-closing-requires
closing_scopes-closing-requires c = (c.requires.0, in_range _ _ _ _ c.requires.0 c.args.asked c.requires.2, c.requires.1)

pub judge-v-requires : goal.judge-v-requires
judge-v-requires c = (c.requires.0, in_range _ _ _ _ c.requires.0 c.args.asked c.requires.2, c.closing_scopes-closing.ensures)

pub returns : goal.returns
returns c =
    (chosen_all _ _ _ _ c.requires.0 c.args.asked c.requires.2 c.moves-m.ensures.many c.closing_scopes-closing.ensures c.judge-v.ensures, refl)
