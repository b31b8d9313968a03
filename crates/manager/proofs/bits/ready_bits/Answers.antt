use Rattle.std.proofs.Common.{rules, refl, sym, ◌∙◌, ◌≤◌, arith}
use Rattle.rules.proofs.Ready.{over_ready}
use Rattle.manager.proofs.BitLaws.{bits_none, twice, bit_small, bits_fit, bits_yes, bits_no, bits_ready}
use Rattle.manager.proofs.bits.ready_bits.Goals as goal

pub returns-then-is_over : goal.returns-then-is_over
returns-then-is_over c = sym (over_ready _ _ (sym c.is_over.ensures ∙ c.if-is_over.true))

pub loop-t-init : goal.loop-t-init
loop-t-init c = (refl, bits_none _)

pub is_ready-requires : goal.is_ready-requires
is_ready-requires c = (c.requires.0.lent, search rules, c.requires.1 (sym c.is_over.ensures ∙ c.if-is_over.false))

pub overflow_add-bits : goal.overflow_add-bits
overflow_add-bits c = let h : c.loop-t.t ≤ 32 = omega (arith, c.requires.0.lent.room.few) in omega (arith, bit_small _ _ c.loop-t.invariant.0 h, bits_fit _ _ _ c.loop-t.invariant.1 h)

pub overflow_mul-bit : goal.overflow_mul-bit
overflow_mul-bit c = let h : c.loop-t.t ≤ 32 = omega (arith, c.requires.0.lent.room.few) in omega (arith, bit_small _ _ c.loop-t.invariant.0 h)

pub loop-t-preserved : goal.loop-t-preserved
loop-t-preserved c = (
  twice _ _ c.loop-t.invariant.0,
  elim c.if-is_ready.branch [
    | goal.then-is_ready w ↦ w.bits-is ∙ bits_yes _ _ _ _ c.loop-t.invariant.1 c.loop-t.invariant.0 c.is_ready.ensures w.if-is_ready.true
    | goal.else-is_ready w ↦ w.bits-is ∙ bits_no _ _ _ c.loop-t.invariant.1 c.is_ready.ensures w.if-is_ready.false
  ],
)

pub overflow_cast-result : goal.overflow_cast-result
overflow_cast-result c = let h : c.loop-t.t ≤ 32 = omega (arith, c.requires.0.lent.room.few) in omega (arith, bits_fit _ _ _ c.loop-t.invariant.1 h)

pub returns : goal.returns
returns c = bits_ready _ _ _ _ _ _ c.loop-t.invariant.1 (search rules) (search rules)
