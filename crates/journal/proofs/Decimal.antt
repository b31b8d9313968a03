-- Laws of decimal numbers, which hide the fuel: a number below ten is its digit, another one the digits of a tenth of it and its last
-- digit. So a number below 10 ^ k has at most k digits. Assumes nothing.
use Rattle.std.proofs.Common.{◌≡◌, ap, inl, inr, List, [], ◌∷◌, ◌++◌, ℕ, zero, suc, ◌+◌, ◌*◌, ◌/◌, ◌%◌, ◌^◌, ◌<◌, ◌≤◌, pow-suc, arith, ltb, length, length-append, lt-ltb, le-ltb, ltb-true, ltb-false}
use Rattle.rules.specs.Text.{decimal_to, decimal}
use Rattle.rules.proofs.Tests.{look}

enough : (k m n : ℕ) → n < k → n < m → decimal_to k n ≡ decimal_to m n
unfolding decimal_to
enough zero m n a b = absurd (omega arith)
enough (suc k) zero n a b = absurd (omega arith)
enough (suc k) (suc m) n a b =
    elim (look (ltb n 10)) [
      | inl h ↦ rw (h, decimal_to)
      | inr h ↦ let l : 10 ≤ n = ltb-false n 10 h in
          rw (h, decimal_to) (ap (λ (l : List ℕ). l ++ ((48 + n % 10) ∷ [])) (enough k m (n / 10) (omega arith) (omega arith)))
    ]

pub decimal_digit : (n : ℕ) → n < 10 → decimal n ≡ (48 + n) ∷ []
unfolding decimal decimal_to
decimal_digit n h = rw (lt-ltb n 10 h, decimal_to)

pub decimal_tenth : (n : ℕ) → 10 ≤ n → decimal n ≡ decimal (n / 10) ++ ((48 + n % 10) ∷ [])
unfolding decimal decimal_to
decimal_tenth n h =
    rw (le-ltb n 10 h, decimal_to)
    (ap (λ (l : List ℕ). l ++ ((48 + n % 10) ∷ [])) (enough n (suc (n / 10)) (n / 10) (omega arith) (omega arith)))

pub digits_most : (k n : ℕ) → n < 10 ^ suc k → length (decimal n) ≤ suc k
digits_most zero n h = let m : n < 10 = h in rw (decimal_digit n m) (omega arith)
digits_most (suc k) n h =
    elim (look (ltb n 10)) [
      | inl e ↦ let l : n < 10 = ltb-true n 10 e in rw (decimal_digit n l) (omega arith)
      | inr e ↦
          let l : 10 ≤ n = ltb-false n 10 e in
          let p : 10 ^ suc (suc k) ≡ 10 ^ suc k * 10 = pow-suc 10 (suc k) in
          let d : length (decimal (n / 10)) ≤ suc k = digits_most k (n / 10) (omega arith) in
          rw (decimal_tenth n l, length-append) (omega arith)
    ]

pub digits_some : (n : ℕ) → 1 ≤ length (decimal n)
digits_some n =
    elim (look (ltb n 10)) [
      | inl e ↦ rw (decimal_digit n (ltb-true n 10 e)) (omega arith)
      | inr e ↦ rw (decimal_tenth n (ltb-false n 10 e), length-append) (omega arith)
    ]

pub digits_tenth : (n : ℕ) → 10 ≤ n → length (decimal n) ≡ length (decimal (n / 10)) + 1
digits_tenth n h = rw (decimal_tenth n h, length-append)
