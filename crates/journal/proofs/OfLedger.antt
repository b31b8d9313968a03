-- Laws of the tracks that may be fired by a society, as the code finds the lowest of them, and of the entries held. Assumes nothing.
use Rattle.std.proofs.Common.{◌≡◌, refl, sym, ap, ◌∙◌, Bool, true, false, ◌&&◌, List, ℕ, zero, suc, ◌+◌, ◌<◌, ◌≤◌, arith, get_or}
use Rattle.std.proofs.Math.Option.{none}
use Rattle.std.specs.Prelude as code
use Rattle.std.specs.Option.{MatchOption, unwrap_or}
use Rattle.rules.specs.declared.Counts.{Counts}
use Rattle.rules.specs.declared.Terms.{Terms}
use Rattle.rules.specs.Fold.{first_below, sum_below}
use Rattle.rules.specs.Plan.{plan_of, track_count}
use Rattle.rules.specs.Rights.{fire_right, is_permitted}
use Rattle.rules.specs.Fire.{may_fire, lowest_ready}
use Rattle.rules.specs.Call.{fire}
use Rattle.rules.specs.Journal.{fire_lowest_call}
use Rattle.rules.proofs.Folds.{sum_more}
use Rattle.plan.proofs.FieldLaws.{track_count_lem}
use Rattle.plan.proofs.Searches.{first_at, first_end}
use Rattle.ledger.specs.Ladder.{ledger_of}
use Rattle.lookup.specs.Figures.{Figures}

-- no number below n passes a test
none_below : (n : ℕ) (f : ℕ → Bool) → ((k : ℕ) → k < n → f k ≡ false) → first_below n f ≡ none
unfolding first_below
none_below zero f h = refl
none_below (suc n) f h = rw (none_below n f (λ k l. h k (omega arith)), first_below, h n (omega arith))

-- one more term of a sum
pub summed : (f : ℕ → ℕ) (t s k : ℕ) → s ≡ sum_below t f → k ≡ f t → s + k ≡ sum_below (t + 1) f
summed f t s k e g = rw (e, g) (sym (sum_more t f))

module _ (terms : Terms) (bs : List ℕ) (c : Counts) (ws : List ℕ) (society : ℕ) where
  -- a track may be fired and the society may fire it
  abbrev pub is_ready : ℕ → Bool
  is_ready t = is_permitted (plan_of bs c) fire_right society t && may_fire (plan_of bs c) (ledger_of terms c ws) t

  pub lowest_is : (t : ℕ) → t < c.tracks → first_below t is_ready ≡ none → is_ready t ≡ true
      → fire (record { track = t; society = society }) ≡ fire_lowest_call (plan_of bs c) (ledger_of terms c ws) society
  unfolding fire_lowest_call lowest_ready
  lowest_is t h e f = let n = track_count_lem bs c in rw (first_at is_ready t (track_count (plan_of bs c)) (omega arith) e f)

  pub lowest_lacks : (t : ℕ) → t ≤ c.tracks → c.tracks ≤ t → first_below t is_ready ≡ none
      → fire (record { track = c.tracks; society = society }) ≡ fire_lowest_call (plan_of bs c) (ledger_of terms c ws) society
  unfolding fire_lowest_call lowest_ready
  lowest_lacks t h k e =
      let n = track_count_lem bs c in
      rw (first_end is_ready t (track_count (plan_of bs c)) (omega arith) (omega arith) e, n)

  -- the search by the marks of the right, which comes to none or to the first that is ready
  module _ {may : List Bool} (m : Figures false may c.tracks (is_permitted (plan_of bs c) fire_right society)) where
    abbrev pub is_marked : ℕ → Bool
    is_marked t = get_or may t false && may_fire (plan_of bs c) (ledger_of terms c ws) t

    marked : (t : ℕ) → t < c.tracks → is_ready t ≡ is_marked t
    marked t b = ap (λ k. k && may_fire (plan_of bs c) (ledger_of terms c ws) t) (sym (m.at t b))

    pub lowest_found : (o : code.Option ℕ)
        → MatchOption o ((k : ℕ) → 0 ≤ k → k < c.tracks → is_marked k ≡ false)
        (λ i. (0 ≤ i) × (i < c.tracks) × (is_marked i ≡ true) × ((k : ℕ) → 0 ≤ k → k < i → is_marked k ≡ false))
        → fire (record { track = unwrap_or o c.tracks; society = society }) ≡ fire_lowest_call (plan_of bs c) (ledger_of terms c ws) society
    lowest_found code.None h = lowest_lacks c.tracks (omega arith) (omega arith) (none_below c.tracks is_ready (λ k l. marked k l ∙ h k (omega arith) l))
    lowest_found (code.Some i) (_, l, e, h) = lowest_is i l (none_below i is_ready (λ k b. marked k (omega arith) ∙ h k (omega arith) b)) (marked i l ∙ e)
