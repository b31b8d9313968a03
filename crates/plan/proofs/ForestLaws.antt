-- A plan's forest in chains, in the words that the code reads: a track more stands in its host's scope, a state that hosts a track stands with
-- its own track, and a walk along the chains has a track's height and a state's reach. Assumes nothing.
use Rattle.std.proofs.Common.{◌≡◌, refl, sym, ap, ◌∙◌, ◌⊎◌, inl, inr, Bool, true, false, cond, ◌&&◌, List, ℕ, zero, suc, ◌+◌, ◌-◌, ◌<◌, ◌≤◌, add-one, arith, ltb, length, get_or, set, replicate, length-set, eqb-true, eq-eqb}
use Rattle.std.proofs.Math.Bool.{and-false}
use Rattle.std.proofs.Math.ListN.{length-replicate}
use Rattle.std.specs.Option.{is_some}
use Rattle.rules.specs.declared.Counts.{Counts}
use Rattle.rules.specs.Fold.{some_below, greatest_below}
use Rattle.rules.specs.Plan.{Plan, plan_of, track_count, state_count, no_state, host_word, owner, is_in, is_state_of, is_hosting, reach_by, height_to}
use Rattle.rules.specs.Acceptance.{most_height, bad_host, too_high}
use Rattle.rules.proofs.Tests.{look, and_holds, and_both}
use Rattle.rules.proofs.Folds.{some_at, some_find, some_none, some_not, greatest_same, greatest_le}
use Rattle.rules.proofs.Heights.{reaches_by, is_high_root, height_suc, hosted_by, in_host, owner_is, nine_levels, roots_decide}
use Rattle.plan.specs.Passes.{slots, state_slots, is_host_of, Last, Chains}
use Rattle.plan.specs.Chains.{item_of}
use Rattle.plan.specs.Holds.{Holds}
use Rattle.plan.proofs.FieldLaws.{track_count_lem, state_count_lem}
use Rattle.plan.proofs.Hosting.{in_root, in_hosted, within}
use Rattle.plan.proofs.Members.{of_member, Walk, walk_end, chains_none, chains_add, chains_pass}
use Rattle.plan.proofs.PassedLaws.{host_low}

-- chains in arrays of so many owners and members
pub record Chained (is_of : ℕ → ℕ → Bool) (owners n m : ℕ) (last before : List ℕ) : Type 0 where
  pub chains : Chains is_of owners n last before
  pub owners_length : length last ≡ owners
  pub members_length : length before ≡ m

pub chained_add : (is_of : ℕ → ℕ → Bool) (owners n m a : ℕ) (last before : List ℕ) → a < owners → n < m → is_of a n ≡ true
    → ((b : ℕ) → is_of b n ≡ true → b ≡ a) → Chained is_of owners n m last before
    → Chained is_of owners (n + 1) m (set last a (n + 1)) (set before n (get_or last a 0))
chained_add is_of owners n m a last before la ln h one w =
    let e = w.members_length in
    record {
      chains = chains_add is_of owners n a last before w.owners_length la (omega arith) h one w.chains;
      owners_length = length-set last a (n + 1) ∙ w.owners_length;
      members_length = length-set before n (get_or last a 0) ∙ w.members_length;
    }

pub chained_pass : (is_of : ℕ → ℕ → Bool) (owners n m : ℕ) (last before : List ℕ) → ((a : ℕ) → is_of a n ≡ false)
    → Chained is_of owners n m last before → Chained is_of owners (n + 1) m last before
chained_pass is_of owners n m last before h w =
    record {
      chains = chains_pass is_of owners n last before h w.chains;
      owners_length = w.owners_length;
      members_length = w.members_length;
    }

pub chained_none : (is_of : ℕ → ℕ → Bool) (owners m : ℕ) → Chained is_of owners 0 m (replicate owners 0) (replicate m 0)
chained_none is_of owners m =
    record {
      chains = chains_none is_of owners m;
      owners_length = length-replicate {A = ℕ} owners 0;
      members_length = length-replicate {A = ℕ} m 0;
    }

module _ (p : Plan) where
  pub root_alone : (t h : ℕ) → h ≡ host_word p t → h ≡ no_state → (s : ℕ) → is_in p s t ≡ false
  root_alone t h e n s = in_root p s t (sym e ∙ n)

  pub in_scope : (t h : ℕ) → h ≡ host_word p t → (h ≡ no_state → ⊥) → is_in p h t ≡ true
  in_scope t h e n = in_hosted p h t (λ q. n (e ∙ q)) ∙ eq-eqb (host_word p t) h (sym e)

  pub one_host : (t h : ℕ) → h ≡ host_word p t → (h ≡ no_state → ⊥) → (s : ℕ) → is_in p s t ≡ true → s ≡ h
  one_host t h e n s i = sym (e ∙ eqb-true (host_word p t) s (sym (in_hosted p s t (λ q. n (e ∙ q))) ∙ i))

  -- a state hosts a track if its scope has a last one
  pub scope_some : (n s y : ℕ) → n ≡ track_count p → Last n (is_in p s) y → is_some (item_of y) ≡ is_hosting p s
  unfolding is_hosting
  scope_some n s zero e w = rw (← e) (sym (some_none n (is_in p s) (λ t l. w.none_after t (omega arith) l)))
  scope_some n s (suc t) e w =
      let l = w.within in rw (← e) (sym (some_at n (is_in p s) t (omega arith) (w.passes t refl)))

  pub no_host : (s : ℕ) → is_hosting p s ≡ false → (t : ℕ) → is_host_of p t s ≡ false
  unfolding is_host_of
  no_host s h t = rw h (and-false (is_state_of p t s))

  pub own_host : (s t : ℕ) → s < state_count p → t ≡ owner p s → is_hosting p s ≡ true → is_host_of p t s ≡ true
  unfolding is_host_of
  own_host s t l e h = and_both (is_state_of p t s) (is_hosting p s) (within p t s l ∙ eq-eqb (owner p s) t (sym e)) h

  pub one_track : (s t : ℕ) → t ≡ owner p s → (u : ℕ) → is_host_of p u s ≡ true → u ≡ t
  unfolding is_host_of
  one_track s t e u h = sym (owner_is p u s (and_holds (is_state_of p u s) (is_hosting p s) h).0) ∙ sym e

  pub hosting_owner : some_below (track_count p) (bad_host p) ≡ false → (s : ℕ) → is_hosting p s ≡ true → owner p s < track_count p
  unfolding is_hosting
  hosting_owner passed s h =
      let (t, l, i) = some_find (track_count p) (is_in p s) h in
      let q = (hosted_by p passed t s l (in_host p s t i)).1 in
      omega arith

  -- a state that hosts nothing has no reach
  reach_none : (heights : ℕ → ℕ) (s : ℕ) → is_hosting p s ≡ false → reach_by p heights s ≡ 0
  unfolding reach_by is_hosting
  reach_none heights s h =
      let q : greatest_below (track_count p) (λ t. cond (is_in p s t) (heights t) 0) ≤ 0 =
      greatest_le (track_count p) _ 0
      (λ t l. let i : cond (is_in p s t) (heights t) 0 ≡ 0 = rw (some_not (track_count p) (is_in p s) h t l) in omega arith) in
      omega arith

  -- so a track's hosting states have the greatest reach of its states
  hosts_enough : (heights : ℕ → ℕ) (t : ℕ) → greatest_below (state_count p) (of_member (is_host_of p t) (reach_by p heights)) ≡ reaches_by p heights t
  unfolding reaches_by of_member is_host_of
  hosts_enough heights t =
      greatest_same (state_count p) _ _ (λ s l. go s (is_state_of p t s) (look (is_hosting p s)))
    where
      go : (s : ℕ) (b : Bool) → ((is_hosting p s ≡ true) ⊎ (is_hosting p s ≡ false)) → cond (b && is_hosting p s) (reach_by p heights s) 0 ≡ cond b (reach_by p heights s) 0
      go s true (inl h) = rw h
      go s true (inr h) = rw (h, reach_none heights s h)
      go s false h = refl

  -- the ends of the two walks
  pub height_done : (k t n best s : ℕ) → n ≡ state_count p → (k ≡ 0 → ⊥) → s ≡ 0 → Walk (is_host_of p t) (reach_by p (height_to p (k - 1))) n best s
      → best + 1 ≡ height_to p k t
  height_done zero t n best s e z q w = absurd (z refl)
  height_done (suc k) t n best s e z q w =
      let d : suc k - 1 ≡ k = omega arith in
      let r = walk_end (is_host_of p t) (reach_by p (height_to p (suc k - 1))) n best s q w in
      add-one best
      ∙ ap suc
      (r
      ∙ ap (λ v. greatest_below v (of_member (is_host_of p t) (reach_by p (height_to p (suc k - 1))))) e
      ∙ hosts_enough (height_to p (suc k - 1)) t
      ∙ ap (λ v. reaches_by p (height_to p v) t) d)
      ∙ sym (height_suc p k t)

  pub reach_done : (k s n best t : ℕ) → n ≡ track_count p → t ≡ 0 → Walk (is_in p s) (height_to p k) n best t → best ≡ reach_by p (height_to p k) s
  unfolding reach_by of_member
  reach_done k s n best t e q w =
      walk_end (is_in p s) (height_to p k) n best t q w ∙ ap (λ v. greatest_below v (of_member (is_in p s) (height_to p k))) e

module _ (bs : List ℕ) (c : Counts) (holds : Holds bs c) (passed : some_below c.tracks (bad_host (plan_of bs c)) ≡ false) where
  no_bad_host : some_below (track_count (plan_of bs c)) (bad_host (plan_of bs c)) ≡ false
  no_bad_host = ap (λ v. some_below v (bad_host (plan_of bs c))) (track_count_lem bs c) ∙ passed

  -- nine levels decide of a track, and the roots of them all
  pub levels_decide : (t : ℕ) → t < c.tracks → ltb most_height (height_to (plan_of bs c) 9 t) ≡ too_high (plan_of bs c) t
  levels_decide t l = nine_levels (plan_of bs c) no_bad_host t (omega (arith, track_count_lem bs c))

  pub roots_enough : some_below c.tracks (is_high_root (plan_of bs c)) ≡ some_below c.tracks (too_high (plan_of bs c))
  roots_enough = rw track_count_lem at (roots_decide (plan_of bs c) no_bad_host)

  -- a hosting state's track is a track
  pub host_within : (s : ℕ) → is_hosting (plan_of bs c) s ≡ true → owner (plan_of bs c) s < slots
  host_within s h =
      let q = hosting_owner (plan_of bs c) no_bad_host s h in
      omega (arith, track_count_lem bs c, holds.tracks)

  -- a track's visit
  pub visit_hosted : (t h : ℕ) (last before : List ℕ) → t < c.tracks → h ≡ host_word (plan_of bs c) t → (h ≡ no_state → ⊥)
      → Chained (is_in (plan_of bs c)) state_slots t slots last before
      → Chained (is_in (plan_of bs c)) state_slots (t + 1) slots (set last h (t + 1)) (set before t (get_or last h 0))
  visit_hosted t h last before l e n w =
      let m = holds.tracks in
      chained_add (is_in (plan_of bs c)) state_slots t slots h last before
      (host_low bs c holds t h l e n (some_not c.tracks (bad_host (plan_of bs c)) passed t l)).1 (omega arith)
      (in_scope (plan_of bs c) t h e n) (one_host (plan_of bs c) t h e n) w

  -- a hosting state's visit
  pub visit_hosting : (s t : ℕ) (last before : List ℕ) → s < c.states → t ≡ owner (plan_of bs c) s → is_hosting (plan_of bs c) s ≡ true
      → Chained (is_host_of (plan_of bs c)) slots s state_slots last before
      → Chained (is_host_of (plan_of bs c)) slots (s + 1) state_slots (set last t (s + 1)) (set before s (get_or last t 0))
  visit_hosting s t last before l e h w =
      let m = holds.states in
      let q = host_within s h in
      chained_add (is_host_of (plan_of bs c)) slots s state_slots t last before (omega arith) (omega arith)
      (own_host (plan_of bs c) s t (omega (arith, state_count_lem bs c)) e h) (one_track (plan_of bs c) s t e) w
