-- Busy tracks, as the code finds them, counted for each host's track by one pass over the tracks. Assumes nothing.
use Rattle.std.proofs.Common.{◌≡◌, refl, sym, ap, ◌∙◌, subst, inl, inr, Bool, true, false, cond, not, ◌&&◌, List, ℕ, zero, suc, ◌+◌, ◌<◌, ◌≤◌, not-suc-le-zero, arith, eqb, length, get_or, set, replicate, length-set, get_or-set_same, get_or-set_other, eqb-true}
use Rattle.std.proofs.Math.Option.{Option, some}
use Rattle.std.proofs.Math.ListN.{length-replicate, get_or-replicate}
use borrow.Author.Tests.{eqb-false}
use Rattle.rules.specs.declared.Counts.{Counts}
use Rattle.rules.specs.declared.Track.{Track}
use Rattle.rules.specs.Fold.{count_below}
use Rattle.rules.specs.Plan.{Plan, plan_of, no_state, owner, is_hosted_by}
use Rattle.rules.specs.Ledger.{Ledger, is_awake, is_undoing, is_empty}
use Rattle.rules.specs.Scope.{has_open_scope, is_bare}
use Rattle.rules.proofs.Tests.{look, clash, none-some, refuted, and_not}
use Rattle.rules.proofs.Folds.{count_same, count_more, count_most as most}
use Rattle.rules.proofs.Scopes.{by_host, host_by}
use Rattle.plan.specs.Passes.{slots}
use Rattle.plan.proofs.FieldLaws.{track_count_lem}
use Rattle.ledger.specs.Ladder.{Accepts}
use Rattle.lookup.specs.HostTrack.{host_track}
use Rattle.ledger.specs.Words.{track_of}
use Rattle.ledger.proofs.ReadTracks.{mode_as, empty_as, held_as}
use Rattle.lookup.specs.Figures.{Figures}
use Rattle.lookup.proofs.Facts.{no_host_track, host_of_track, host_track_low}
use Rattle.withdrawal.specs.Scopes.{is_busy, busy_below, Counted}

-- Counts: none passes, and one that passes no longer.
pub count_none : (n : ℕ) (f : ℕ → Bool) → ((k : ℕ) → k < n → f k ≡ false) → count_below n f ≡ 0
unfolding count_below
count_none zero f h = refl
count_none (suc n) f h = rw (count_none n f (λ k b. h k (omega arith)), h n (omega arith))

pub count_zero : (n : ℕ) (f : ℕ → Bool) → count_below n f ≡ 0 → (k : ℕ) → k < n → f k ≡ false
unfolding count_below
count_zero zero f h k b = absurd (not-suc-le-zero b)
count_zero (suc n) f h k b =
    elim (look (f n)) [
      | inl e ↦ let q : count_below n f + 1 ≡ 0 = rw e at h in absurd (omega arith)
      | inr e ↦
          let q : count_below n f + 0 ≡ 0 = rw e at h in
          elim (look (eqb k n)) [
            | inl i ↦ ap f (eqb-true k n i) ∙ e
            | inr i ↦ let d : k ≡ n → ⊥ = eqb-false k n i in count_zero n f (omega arith) k (omega arith)
          ]
    ]

pub count_less : (n : ℕ) (f g : ℕ → Bool) (t : ℕ) → t < n → f t ≡ true → g t ≡ false → ((k : ℕ) → k < n → (k ≡ t → ⊥) → f k ≡ g k)
    → count_below n f ≡ count_below n g + 1
unfolding count_below
count_less zero f g t b x y h = absurd (not-suc-le-zero b)
count_less (suc n) f g t b x y h =
    elim (look (eqb t n)) [
      | inl e ↦
          let q = eqb-true t n e in
          let i : f n ≡ true = ap f (sym q) ∙ x in
          let j : g n ≡ false = ap g (sym q) ∙ y in
          let s = count_same n f g (λ k c. h k (omega arith) (λ (z : k ≡ t). omega arith)) in
          rw (i, j, s) (omega arith)
      | inr e ↦
          let q : t ≡ n → ⊥ = eqb-false t n e in
          let i = count_less n f g t (omega arith) x y (λ k c. h k (omega arith)) in
          let s = h n (omega arith) (λ z. q (sym z)) in
          rw s (omega arith)
    ]

pub same_host : {o : Option ℕ} {a b : ℕ} → o ≡ some a → o ≡ some b → a ≡ b
same_host d e = cc

-- a figure set at one place
pub set_figure : {A : Type 0} (xs : List A) (t : ℕ) (x d : A) (f : ℕ → A) → t < length xs → x ≡ f t → (u : ℕ) → ((u ≡ t → ⊥) → get_or xs u d ≡ f u)
    → get_or (set xs t x) u d ≡ f u
set_figure xs t x d f b e u h =
    elim (look (eqb u t)) [
      | inl i ↦ let z = eqb-true u t i in subst (λ v. get_or (set xs t x) v d ≡ f v) (sym z) (get_or-set_same xs t x d b ∙ e)
      | inr i ↦ let z = eqb-false u t i in get_or-set_other xs t u x d z ∙ h z
    ]

-- undoing and holding nothing, as the code reads it
module _ (l : Ledger) (t : ℕ) {k : Track} (e : k ≡ track_of (l t)) {r : Bool} (f : r ≡ is_undoing k.mode) where
  undoes : is_undoing (l t).mode ≡ r
  undoes = ap is_undoing (sym (mode_as (l t) e)) ∙ sym f

  pub back_not : r ≡ false → false ≡ (is_undoing (l t).mode && is_empty (l t).held)
  back_not n = let q = undoes ∙ n in rw q

  pub back_empty : r ≡ true → eqb k.count 0 ≡ (is_undoing (l t).mode && is_empty (l t).held)
  back_empty n =
      let q = undoes ∙ n in
      elim (look (eqb k.count 0)) [
        | inl z ↦ rw (q, z, empty_as (l t) e (eqb-true k.count 0 z))
        | inr z ↦ rw (q, z, held_as (l t) e (eqb-false k.count 0 z))
      ]

-- asleep, not taken back, and taken back
module _ (p : Plan) (l : Ledger) (t : ℕ) {r : Bool} (f : r ≡ is_awake (l t).mode) where
  pub busy_asleep : r ≡ false → false ≡ is_busy p l t
  unfolding is_busy
  busy_asleep n = let q = sym f ∙ n in rw q

  module _ (n : r ≡ true) {b : Bool} (g : b ≡ (is_undoing (l t).mode && is_empty (l t).held)) where
    awake : is_awake (l t).mode ≡ true
    awake = sym f ∙ n

    pub busy_holding : b ≡ false → true ≡ is_busy p l t
    unfolding is_busy is_bare
    busy_holding k = let q = sym g ∙ k in rw (awake, q)

    pub busy_open : b ≡ true → {o : Bool} → o ≡ has_open_scope p l t → o ≡ is_busy p l t
    unfolding is_busy is_bare
    busy_open k {o} h = let q = sym g ∙ k in rw (awake, q, ← h) (go o)
      where
        go : (o : Bool) → o ≡ not (not o)
        go true = refl
        go false = refl

-- the pass: after the tracks below n each count is the definition's at n
module _ (bs : List ℕ) (c : Counts) (acc : Accepts bs c) (l : Ledger) (opens : List Bool) where
  abbrev p : Plan
  p = plan_of bs c

  pub count_start : Figures false opens c.tracks (has_open_scope p l) → Counted p l opens (replicate slots 0) 0
  unfolding busy_below count_below
  count_start m =
      let q = track_count_lem bs c in
      let f = acc.holds.tracks in
      record {
        opens_size = m.size;
        busy_size = length-replicate {A = ℕ} slots 0;
        mark = λ u d. m.at u (omega arith);
        count = λ u d. get_or-replicate slots u 0 0 (omega arith);
      }

  module _ (busy : List ℕ) (t : ℕ) (k : Counted p l opens busy t) where
    pub count_mark : t < c.tracks → get_or opens t false ≡ has_open_scope p l t
    count_mark b = k.mark t (omega (arith, track_count_lem bs c))

    module _ {b : Bool} (f : b ≡ is_busy p l t) where
      -- the counts with the track's own
      abbrev added : ℕ → ℕ
      added u = get_or busy u 0 + cond (is_hosted_by p u t && is_busy p l t) 1 0

      count_next : (r : List ℕ) → length r ≡ slots → ((u : ℕ) → get_or r u 0 ≡ added u) → Counted p l opens r (t + 1)
      unfolding busy_below
      count_next r size h =
          record {
            opens_size = k.opens_size;
            busy_size = size;
            mark = k.mark;
            count = λ u d.
                h u ∙ ap (λ z. z + cond (is_hosted_by p u t && is_busy p l t) 1 0) (k.count u d)
                ∙ sym (count_more t (λ v. is_hosted_by p u v && is_busy p l v));
          }

      not_added : ((u : ℕ) → (is_hosted_by p u t && is_busy p l t) ≡ false) → Counted p l opens busy (t + 1)
      not_added h = count_next busy k.busy_size (λ u. let q = h u in rw q (omega arith))

      pub count_idle : b ≡ false → Counted p l opens busy (t + 1)
      count_idle n = not_added (λ u. and_not (is_hosted_by p u t) (is_busy p l t) (λ i j. clash (f ∙ j) n))

      module _ (n : b ≡ true) {v : ℕ} (g : v ≡ host_track p t) where
        pub count_root : v ≡ no_state → Counted p l opens busy (t + 1)
        count_root z =
            not_added
            (λ u.
            and_not (is_hosted_by p u t) (is_busy p l t)
            (λ i j. let (h, e, o) = by_host p u t i in none-some (no_host_track bs c t acc (sym g ∙ z)) e))

        module _ (z : v ≡ no_state → ⊥) where
          pub count_most : get_or busy v 0 ≤ t
          unfolding busy_below
          count_most =
              let q = k.count v (let w = host_track_low bs c t v acc g z in omega (arith, track_count_lem bs c)) in
              let r = most t (λ w. is_hosted_by p v w && is_busy p l w) in
              omega arith

          pub count_host : Counted p l opens (set busy v (get_or busy v 0 + 1)) (t + 1)
          count_host =
              let (h, e, o) = host_of_track p t (λ y. z (g ∙ y)) in
              let w : owner p h ≡ v = o ∙ sym g in
              let low : v < length busy = let q = host_track_low bs c t v acc g z in let r = acc.holds.tracks in let s = k.busy_size in omega arith in
              let here : is_hosted_by p v t ≡ true = subst (λ a. is_hosted_by p a t ≡ true) w (host_by p t h e) in
              count_next (set busy v (get_or busy v 0 + 1)) (length-set busy v (get_or busy v 0 + 1) ∙ k.busy_size)
              (λ u.
              set_figure busy v (get_or busy v 0 + 1) 0 added low (rw (here, ← f, n)) u
              (λ y.
              let q : is_hosted_by p u t ≡ false =
              refuted (is_hosted_by p u t) (λ j. let (r, d, a) = by_host p u t j in y (sym a ∙ ap (owner p) (same_host d e) ∙ w)) in
              rw q (omega arith)))
