-- The number whose bits are the tracks that may be fired, bit by bit. Assumes nothing.
use Rattle.std.proofs.Common.{◌≡◌, refl, sym, ap, ◌∙◌, Bool, true, false, cond, List, ℕ, zero, suc, ◌+◌, ◌*◌, ◌^◌, ◌≤◌, ◌<◌, arith, add-one, pow-suc, pow_mono}
use Rattle.rules.specs.Fold.{sum_below}
use Rattle.rules.specs.declared.Counts.{Counts}
use Rattle.rules.specs.declared.Terms.{Terms}
use Rattle.rules.specs.Plan.{plan_of, track_count}
use Rattle.rules.specs.Fire.{may_fire, ready}
use Rattle.rules.proofs.Folds.{sum_more}
use Rattle.plan.proofs.FieldLaws.{track_count_lem}
use Rattle.ledger.specs.Ladder.{ledger_of}

-- the bit of each number that passes
unfoldable pub bits_below : ℕ → (ℕ → Bool) → ℕ
bits_below n f = sum_below n (λ t. cond (f t) (2 ^ t) 0)

pub bits_none : (f : ℕ → Bool) → 0 ≡ bits_below 0 f
unfolding bits_below sum_below
bits_none f = refl

pub twice : (t b : ℕ) → b ≡ 2 ^ t → b * 2 ≡ 2 ^ (t + 1)
twice t b e = rw (add-one, pow-suc, e)

cond_le : (c : Bool) (x : ℕ) → cond c x 0 ≤ x
cond_le true x = omega arith
cond_le false x = omega arith

pub bits_small : (n : ℕ) (f : ℕ → Bool) → bits_below n f < 2 ^ n
unfolding bits_below sum_below
bits_small zero f = omega arith
bits_small (suc n) f = omega (arith, bits_small n f, cond_le (f n) (2 ^ n), pow-suc 2 n)

pub bit_small : (t b : ℕ) → b ≡ 2 ^ t → t ≤ 32 → b ≤ 2 ^ 32
bit_small t b e h = rw e (pow_mono h)

pub bits_fit : (t n : ℕ) (f : ℕ → Bool) → n ≡ bits_below t f → t ≤ 32 → n < 2 ^ 32
bits_fit t n f e h = let a = bits_small t f in let b = bit_small t (2 ^ t) refl h in omega arith

pub bits_yes : (t n b : ℕ) (f : ℕ → Bool) {r : Bool} → n ≡ bits_below t f → b ≡ 2 ^ t → r ≡ f t → r ≡ true → n + b ≡ bits_below (t + 1) f
unfolding bits_below
bits_yes t n b f e g i h = sym (sum_more t _ ∙ rw (sym i ∙ h, e, g))

pub bits_no : (t n : ℕ) (f : ℕ → Bool) {r : Bool} → n ≡ bits_below t f → r ≡ f t → r ≡ false → n ≡ bits_below (t + 1) f
unfolding bits_below
bits_no t n f e i h = sym (sum_more t _ ∙ rw (sym i ∙ h, e) (omega arith))

pub bits_ready : (terms : Terms) (bs : List ℕ) (c : Counts) (ws : List ℕ) (t n : ℕ) → n ≡ bits_below t (may_fire (plan_of bs c) (ledger_of terms c ws)) → t ≤ c.tracks → c.tracks ≤ t
    → n ≡ ready (plan_of bs c) (ledger_of terms c ws)
unfolding ready bits_below
bits_ready terms bs c ws t n e a b =
    let i : t ≡ track_count (plan_of bs c) = omega (arith, track_count_lem bs c) in
    e ∙ ap (λ (x : ℕ). sum_below x (λ t. cond (may_fire (plan_of bs c) (ledger_of terms c ws) t) (2 ^ t) 0)) i
