-- A signed number's 32 bits: below zero, -(m + 1) has the bits 4294967295 - m. Assumes nothing.
use Rattle.std.proofs.Common.{◌≡◌, refl, sym, ap, ◌∙◌, ⊎_elim, true, false, ℕ, ◌-◌, ◌<◌, arith, ℤ, pos, negsuc, ltb, ltb-true, ltb-false, w32, SFits, of_z, to_z}
use mir.ValLaws.{to_z-of_z, to_z_pos}
use Rattle.rules.specs.Signed.{signed_of, bits_of}
use Rattle.rules.proofs.Tests.{look}
use Rattle.rules.proofs.SignedLaws.{signed_low, signed_high}

pub unsigned_is : (z : ℤ) → SFits w32 z → of_z w32 z ≡ bits_of z
unfolding bits_of
unsigned_is (pos n) f = refl
unsigned_is (negsuc n) f = refl

-- a number by its bits
pub signed_is : (n : ℕ) → n < 4294967296 → to_z w32 n ≡ signed_of n
signed_is n k =
    ⊎_elim
    (λ (q : ltb n 2147483648 ≡ true). let h = ltb-true n 2147483648 q in to_z_pos w32 n (omega arith) ∙ sym (signed_low n h))
    (λ (q : ltb n 2147483648 ≡ false).
    let h = ltb-false n 2147483648 q in
    let e : n ≡ of_z w32 (negsuc (4294967295 - n)) = omega arith in
    ap (to_z w32) e ∙ to_z-of_z w32 (negsuc (4294967295 - n)) (record { sfits = omega arith }) ∙ sym (signed_high n h k))
    (look (ltb n 2147483648))
