-- The leading words as the code looks at them and writes them, one after the other. Assumes nothing.
use Rattle.std.proofs.Common.{◌≡◌, not, ◌||◌, List, [], ◌∷◌, ℕ, ◌≤◌, arith, length, get_or, set, eqb, ℤ}
use Rattle.rules.specs.Layout.{leading_words, length_place, sum_place, low_day_place, high_day_place}
use Rattle.rules.specs.Signed.{low_word, high_word}
use Rattle.rules.specs.Day.{earliest_day}
use Rattle.rules.specs.Leading.{plan_sum, dated, stamped, other_plan}
use Rattle.rules.proofs.LeadingLaws.{dated_steps}

-- two words compared
pub either_other : (bs ws : List ℕ) (n m : ℕ) → n ≡ get_or ws length_place 0 → m ≡ plan_sum bs
    → (not (eqb n (length bs)) || not (eqb (get_or ws sum_place 0) m)) ≡ other_plan bs ws
unfolding other_plan
either_other bs ws n m e f = rw (e, f)

-- two words set, and then the day
pub stamp_steps : (bs ws : List ℕ) (n m : ℕ) → leading_words ≤ length ws → n ≡ length bs → m ≡ plan_sum bs
    → dated earliest_day (set (set ws length_place n) sum_place m) ≡ stamped bs ws
unfolding leading_words stamped dated
stamp_steps bs [] n m h e f = absurd (omega arith)
stamp_steps bs (w ∷ []) n m h e f = absurd (omega arith)
stamp_steps bs (w ∷ v ∷ []) n m h e f = absurd (omega arith)
stamp_steps bs (w ∷ v ∷ u ∷ []) n m h e f = absurd (omega arith)
stamp_steps bs (w ∷ v ∷ u ∷ t ∷ vs) n m h e f = rw (e, f)

-- the day's two words set
pub day_steps : (ws : List ℕ) (day : ℤ) (n m : ℕ) → leading_words ≤ length ws → n ≡ low_word day → m ≡ high_word day
    → set (set ws low_day_place n) high_day_place m ≡ dated day ws
day_steps ws day n m h e f = rw (e, f) (dated_steps day ws h)
