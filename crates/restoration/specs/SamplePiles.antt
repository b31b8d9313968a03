-- Books for the sample plan P that see the order of changes: a pile of numbers for each track. A transition puts its own number on top of its
-- track's pile, and a code takes off what it undoes, newest first, where that lies on top. Assumes nothing.
use Rattle.std.specs.Prelude.{cond, not, ◌&&◌, List, [], ◌∷◌, ℕ, get_or, eqb}
use Rattle.rules.specs.Plan.{transition, mover}
use Rattle.restoration.specs.SampleAccount.{P}

-- a number taken off a pile if it lies on top, and several, one after the other
unfoldable pub without : ℕ → List ℕ → List ℕ
without x [] = []
without x (y ∷ pile) = cond (eqb x y) pile (y ∷ pile)

unfoldable pub without_all : List ℕ → List ℕ → List ℕ
without_all [] pile = pile
without_all (x ∷ xs) pile = without_all xs (without x pile)

-- what a code takes off each track's pile: replacement 90 takes off what a finished run of state 1 has put on
abbrev pub takes : ℕ → List (List ℕ)
takes c =
    cond (eqb c 50) ((0 ∷ []) ∷ [])
    (cond (eqb c 51) ([] ∷ (2 ∷ []) ∷ [])
    (cond (eqb c 52) ([] ∷ [] ∷ (3 ∷ []) ∷ [])
    (cond (eqb c 54) ([] ∷ [] ∷ (4 ∷ []) ∷ [])
    (cond (eqb c 90) ([] ∷ (2 ∷ []) ∷ (4 ∷ 3 ∷ []) ∷ [])
    []))))

-- the pile of track t, by a transition and by a code; a transition with code 0 can put nothing on it, since code 0 takes nothing off
unfoldable pub piled : ℕ → ℕ → List ℕ → List ℕ
piled t x pile = cond (eqb (mover P x) t && not (eqb (transition P x).code 0)) (x ∷ pile) pile

unfoldable pub unpiled : ℕ → ℕ → List ℕ → List ℕ
unpiled t c pile = without_all (get_or (takes c) t []) pile
