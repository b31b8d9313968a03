-- Kinds are the numbers from 1 to 6. Assumes nothing.
use Rattle.std.proofs.Common.{◌≡◌, refl, ap, true, ℕ, zero, suc, ◌<◌, ◌≤◌, arith, rules}
use denote.Enum.Bare.{sameb, same_true}
use Rattle.rules.specs.Record.{length_of, rank_of, end_kind}
use Rattle.plan_scan.specs.Kinds.{number_of}
use Rattle.plan_scan.specs.contracts.kinds.Kind.{the_type}
use Rattle.plan_scan.specs.declared.kinds.Kind.{Kind}
use Rattle.plan_scan.specs.declared.kinds.Kind.TheVariants as kind

pub no_kind : (k : ℕ) → ((k ≡ 0 → ⊥) → 6 < k) → length_of k ≡ 0
unfolding length_of
no_kind zero h = refl
no_kind (suc zero) h = let l = h (λ e. absurd (omega (arith, e))) in absurd (omega arith)
no_kind (suc (suc zero)) h = let l = h (λ e. absurd (omega (arith, e))) in absurd (omega arith)
no_kind (suc (suc (suc zero))) h = let l = h (λ e. absurd (omega (arith, e))) in absurd (omega arith)
no_kind (suc (suc (suc (suc zero)))) h = let l = h (λ e. absurd (omega (arith, e))) in absurd (omega arith)
no_kind (suc (suc (suc (suc (suc zero))))) h = let l = h (λ e. absurd (omega (arith, e))) in absurd (omega arith)
no_kind (suc (suc (suc (suc (suc (suc zero)))))) h = let l = h (λ e. absurd (omega (arith, e))) in absurd (omega arith)
no_kind (suc (suc (suc (suc (suc (suc (suc k))))))) h = refl

pub no_rank : (k : ℕ) → length_of k ≡ 0 → rank_of k ≡ 0
unfolding length_of rank_of
no_rank zero e = refl
no_rank (suc zero) e = absurd (omega (arith, e))
no_rank (suc (suc zero)) e = absurd (omega (arith, e))
no_rank (suc (suc (suc zero))) e = absurd (omega (arith, e))
no_rank (suc (suc (suc (suc zero)))) e = absurd (omega (arith, e))
no_rank (suc (suc (suc (suc (suc zero))))) e = absurd (omega (arith, e))
no_rank (suc (suc (suc (suc (suc (suc zero)))))) e = absurd (omega (arith, e))
no_rank (suc (suc (suc (suc (suc (suc (suc k))))))) e = refl

-- a kind whose records have a length is one of the six
pub by_kind : (C : ℕ → Type 0) → C 1 → C 2 → C 3 → C 4 → C 5 → C 6 → (k : ℕ) → (length_of k ≡ 0 → ⊥) → C k
unfolding length_of
by_kind C a b c d e f zero n = absurd (n refl)
by_kind C a b c d e f (suc zero) n = a
by_kind C a b c d e f (suc (suc zero)) n = b
by_kind C a b c d e f (suc (suc (suc zero))) n = c
by_kind C a b c d e f (suc (suc (suc (suc zero)))) n = d
by_kind C a b c d e f (suc (suc (suc (suc (suc zero))))) n = e
by_kind C a b c d e f (suc (suc (suc (suc (suc (suc zero)))))) n = f
by_kind C a b c d e f (suc (suc (suc (suc (suc (suc (suc k))))))) n = absurd (n refl)

pub long : (k : Kind) → 4 ≤ length_of (number_of k)
unfolding length_of
long kind.Track = omega arith
long kind.State = omega arith
long kind.Transition = omega arith
long kind.End = omega arith
long kind.Window = omega arith
long kind.Grant = omega arith

pub real : (k : Kind) → length_of (number_of k) ≡ 0 → ⊥
real k e = let l = long k in omega (arith, e)

-- the end is the one kind with its number
pub is_end : (k : Kind) → sameb the_type k kind.End ≡ true → number_of k ≡ end_kind
is_end k e = ap number_of (same_true the_type (search rules) k kind.End e)

pub end_is : (k : Kind) → number_of k ≡ end_kind → sameb the_type k kind.End ≡ true
end_is kind.Track e = absurd (omega (arith, e))
end_is kind.State e = absurd (omega (arith, e))
end_is kind.Transition e = absurd (omega (arith, e))
end_is kind.End e = refl
end_is kind.Window e = absurd (omega (arith, e))
end_is kind.Grant e = absurd (omega (arith, e))
