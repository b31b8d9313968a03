-- Tracks in open scopes, marked by those below n. Assumes nothing.
use Rattle.std.proofs.Common.{◌≡◌, refl, sym, ◌∙◌, Bool, true, false, cond, ◌&&◌, ◌||◌, List, ℕ, ◌+◌}
use Rattle.rules.specs.declared.Counts.{Counts}
use Rattle.rules.specs.Fold.{some_below}
use Rattle.rules.specs.Plan.{Plan, plan_of, is_hosted_by}
use Rattle.rules.specs.Ledger.{Ledger, is_awake}
use Rattle.rules.specs.Scope.{has_open_scope}
use Rattle.rules.proofs.Folds.{some_more}
use Rattle.plan.proofs.FieldLaws.{track_count_lem}
use Rattle.lookup.specs.Figures.{Figures}

-- a track is in the open scope of u, and some track below n is
abbrev pub is_inside : Plan → Ledger → ℕ → ℕ → Bool
is_inside p l u t = is_hosted_by p u t && is_awake (l t).mode

abbrev pub some_inside : Plan → Ledger → ℕ → ℕ → Bool
some_inside p l n u = some_below n (is_inside p l u)

pub inside_next : (p : Plan) (l : Ledger) (n u : ℕ) → cond (is_inside p l u n) true (some_inside p l n u) ≡ some_inside p l (n + 1) u
inside_next p l n u = or-last (is_inside p l u n) (some_inside p l n u) ∙ sym (some_more n (is_inside p l u))
  where
    or-last : (a b : Bool) → cond a true b ≡ (b || a)
    or-last true true = refl
    or-last true false = refl
    or-last false true = refl
    or-last false false = refl

-- all tracks together
pub all_inside : (bs : List ℕ) (c : Counts) (l : Ledger) {n : ℕ} {ms : List Bool} → n ≡ c.tracks → Figures false ms c.tracks (some_inside (plan_of bs c) l n)
    → Figures false ms c.tracks (has_open_scope (plan_of bs c) l)
unfolding has_open_scope
all_inside bs c l e m = rw (e ∙ sym (track_count_lem bs c)) at m
