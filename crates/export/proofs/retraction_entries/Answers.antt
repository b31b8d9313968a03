-- A part that is not empty lies in the words of a track that exists, so its place and its count fit their bits. Assumes nothing.
use Rattle.std.proofs.Common.{sym, ap, ◌∙◌, arith, length}
use Rattle.rules.specs.Layout.{entry_width}
use Rattle.rules.proofs.SettingLaws.{limit_most}
use Rattle.export.proofs.Packing.{held, part_empty, part_packed, part_place, part_small}
use Rattle.export.proofs.retraction_entries.Goals as goal

pub returns-then-count-eq0 : goal.returns-then-count-eq0
returns-then-count-eq0 c = rw (sym c.setting_of-setting.ensures) (part_empty _ _ _ (ap length (sym c.entries-part.ensures.held_as) ∙ c.if-count-eq0.true))

pub entry_place-from-requires : goal.entry_place-from-requires
entry_place-from-requires c = (omega (arith, c.from.ensures, (held _ _ _ _ (λ e. c.if-count-eq0.false (ap length c.entries-part.ensures.held_as ∙ e))).exists), omega arith)

pub overflow_mul-result : goal.overflow_mul-result
overflow_mul-result c =
    let at = part_place c.setting_of-setting.result _ _ _ c.terms_of.ensures c.from.ensures c.entry_place-from.ensures in
    let part = held _ _ _ _ (λ e. c.if-count-eq0.false (ap length c.entries-part.ensures.held_as ∙ e)) in
    omega (arith, part_small _ _ _ part.exists at)

pub overflow_add-result : goal.overflow_add-result
unfolding entry_width
overflow_add-result c =
    let at = part_place c.setting_of-setting.result _ _ _ c.terms_of.ensures c.from.ensures c.entry_place-from.ensures in
    let part = held _ _ _ _ (λ e. c.if-count-eq0.false (ap length c.entries-part.ensures.held_as ∙ e)) in
    omega (arith, ap length c.entries-part.ensures.held_as, part.few, limit_most c.setting_of-setting.result, part_small _ _ _ part.exists at)

pub returns : goal.returns
returns c =
    let at = part_place c.setting_of-setting.result _ _ _ c.terms_of.ensures c.from.ensures c.entry_place-from.ensures in
    rw (sym c.setting_of-setting.ensures) (part_packed _ _ _ _ _ c.entries-part.ensures.held_as c.if-count-eq0.false at)
