-- Abandoning in closed form against "climbs from scope to host until nothing changes". A single step puts a scope to sleep whose tracks
-- were all spent, so it changes no one's being spent and leaves the closed form as it was; afterwards nothing is due; and where nothing
-- is due the closed form changes nothing. So the single steps in any order end in it. Assumes nothing.
use mathlib.Core.Path.{◌≡◌, refl, sym, ap, ap₂, ◌∙◌, subst, fun_ext}
use mathlib.Core.Logic.{inl, inr, ⊎_elim}
use mathlib.Core.Bool.{Bool, true, false, cond, not, ◌&&◌, ◌||◌}
use mathlib.Core.Option.{none, some}
use Prim.Native.Nat.{ℕ, zero, suc, ◌+◌, ◌<◌, ◌≤◌}
use native.Mathlib.Omega.{arith}
use borrow.Author.Tests.{not-true}
use Rattle.rules.specs.declared.Mode.{Mode}
use Rattle.rules.specs.declared.Mode.TheVariants.{Asleep, Forward, Undoing}
use Rattle.rules.specs.Fold.{every_below}
use Rattle.rules.specs.Plan.{Plan, track_count, host, owner, is_in, is_hosted_by, every_in}
use Rattle.rules.specs.Ledger.{Configuration, Ledger, is_awake, is_undoing, is_empty, sleeping}
use Rattle.rules.specs.Scope.{is_open, has_open_scope, is_bare}
use Rattle.rules.specs.Signal.{is_abandoning, is_spent_to, is_spent, is_left, is_abandoned, abandoned}
use Rattle.rules.proofs.Tests.{look, look_option, clash, refuted, and_holds, and_both, or_right, implies, implied}
use Rattle.rules.proofs.Folds.{every_at, every_of, every_same}
use Rattle.rules.proofs.Acceptance.{Accepted}
use Rattle.rules.proofs.Scopes.{in_host, host_in, by_host, host_by, every_in_at, every_in_of, every_in_same, some_in_same, open_at, open_find, busy_find, free_at}

pub undoing_awake : (m : Mode) → is_undoing m ≡ true → is_awake m ≡ true
unfolding is_undoing is_awake
undoing_awake Asleep h = h
undoing_awake Forward h = refl
undoing_awake Undoing h = refl

module _ (p : Plan) (ok : Accepted p) where
  -- what a track hosts has a higher number
  pub hosts_higher : (t u : ℕ) → is_hosted_by p t u ≡ true → t < u
  hosts_higher t u i = let (h, e, o) = by_host p t u i in subst (λ x. x < u) o (ok.lower u h e)

  module _ (l : Ledger) where
    abbrev inner : (ℕ → Bool) → ℕ → Bool
    inner f t = every_below (track_count p) (λ u. not (is_hosted_by p t u && is_awake (l u).mode) || f u)

    -- one more level changes nothing once all are looked at
    spent_more : (n t : ℕ) → t < track_count p → track_count p ≤ n + t → is_spent_to p l n t ≡ is_spent_to p l (suc n) t
    unfolding is_spent_to
    spent_more zero t b h = absurd (omega arith)
    spent_more (suc n) t b h =
        ap (λ x. is_undoing (l t).mode && is_empty (l t).held && x)
        (every_same (track_count p) _ _ (λ u c. go u c (is_hosted_by p t u) refl (λ k. spent_more n u c (let d = hosts_higher t u k in omega arith))))
      where
        go : (u : ℕ) → u < track_count p → (b : Bool) → is_hosted_by p t u ≡ b → (is_hosted_by p t u ≡ true → is_spent_to p l n u ≡ is_spent_to p l (suc n) u)
            → (not (is_hosted_by p t u && is_awake (l u).mode) || is_spent_to p l n u) ≡ (not (is_hosted_by p t u && is_awake (l u).mode) || is_spent_to p l (suc n) u)
        go u c true e ih = ap (λ x. not (is_hosted_by p t u && is_awake (l u).mode) || x) (ih e)
        go u c false e ih = rw e

    pub spent_law : (t : ℕ) → t < track_count p → is_spent p l t ≡ (is_undoing (l t).mode && is_empty (l t).held && inner (is_spent p l) t)
    unfolding is_spent is_spent_to
    spent_law t b = spent_more (track_count p) t b (omega arith)

    -- undoing, holding nothing, and what it hosts and is awake is spent
    pub record Spent (t : ℕ) : Type 0 where
      pub undoing : is_undoing (l t).mode ≡ true
      pub empty : is_empty (l t).held ≡ true
      pub hosted : (u : ℕ) → u < track_count p → is_hosted_by p t u ≡ true → is_awake (l u).mode ≡ true → is_spent p l u ≡ true

    pub spent_parts : (t : ℕ) → t < track_count p → is_spent p l t ≡ true → Spent t
    spent_parts t b h =
        let (x, y) = and_holds (is_undoing (l t).mode && is_empty (l t).held) (inner (is_spent p l) t) (sym (spent_law t b) ∙ h) in
        let (u, e) = and_holds (is_undoing (l t).mode) (is_empty (l t).held) x in
        record {
          undoing = u;
          empty = e;
          hosted = λ v c i a.
              implies (is_hosted_by p t v && is_awake (l v).mode) (is_spent p l v)
              (every_at (track_count p) (λ u. not (is_hosted_by p t u && is_awake (l u).mode) || is_spent p l u) y v c)
              (and_both (is_hosted_by p t v) (is_awake (l v).mode) i a);
        }

    pub spent_of : (t : ℕ) → t < track_count p → Spent t → is_spent p l t ≡ true
    spent_of t b s =
        spent_law t b
        ∙ and_both (is_undoing (l t).mode && is_empty (l t).held) (inner (is_spent p l) t)
        (and_both (is_undoing (l t).mode) (is_empty (l t).held) s.undoing s.empty)
        (every_of (track_count p) _
        (λ u c.
        implied (is_hosted_by p t u && is_awake (l u).mode) (is_spent p l u)
        (λ k. let (i, a) = and_holds (is_hosted_by p t u) (is_awake (l u).mode) k in s.hosted u c i a)))

    pub bare_parts : (t : ℕ) → is_bare p l t ≡ true → (is_undoing (l t).mode ≡ true) × (is_empty (l t).held ≡ true) × (has_open_scope p l t ≡ false)
    unfolding is_bare
    bare_parts t h =
        let (x, y) = and_holds (is_undoing (l t).mode && is_empty (l t).held) (not (has_open_scope p l t)) h in
        let (u, e) = and_holds (is_undoing (l t).mode) (is_empty (l t).held) x in
        (u, e, not-true (has_open_scope p l t) y)

    -- a bare track is spent
    pub bare_spent : (t : ℕ) → t < track_count p → is_bare p l t ≡ true → is_spent p l t ≡ true
    bare_spent t b h =
        let (u, e, n) = bare_parts t h in
        spent_of t b (record { undoing = u; empty = e; hosted = λ v c i a. clash a (free_at p l t v n c i) })

    pub abandoned_host : (t h : ℕ) → host p t ≡ some h → is_abandoned p l t ≡ is_left p l h
    unfolding is_abandoned
    abandoned_host t h e = rw (e, is_abandoned)

    pub abandoned_root : (t : ℕ) → host p t ≡ none → is_abandoned p l t ≡ false
    unfolding is_abandoned
    abandoned_root t e = rw (e, is_abandoned)

    pub left_asleep : (t : ℕ) → is_abandoned p l t ≡ true → abandoned p l t ≡ sleeping
    unfolding abandoned
    left_asleep t a = rw a

    pub left_kept : (t : ℕ) → is_abandoned p l t ≡ false → abandoned p l t ≡ l t
    unfolding abandoned
    left_kept t a = rw a

    -- what is awake afterwards was left as it was
    pub awake_kept : (t : ℕ) → is_awake (abandoned p l t).mode ≡ true → (is_abandoned p l t ≡ false) × (abandoned p l t ≡ l t)
    unfolding sleeping is_awake
    awake_kept t a =
        ⊎_elim
        (λ d. let z : is_awake sleeping.mode ≡ true = subst (λ (x : Configuration). is_awake x.mode ≡ true) (left_asleep t d) a in clash z refl)
        (λ d. (d, left_kept t d))
        (look (is_abandoned p l t))

    -- a hosted track in an abandoned scope is spent
    pub abandoned_spent : (t : ℕ) → is_abandoned p l t ≡ true → is_spent p l t ≡ true
    unfolding is_left
    abandoned_spent t a =
        elim (look_option (host p t)) [
          | inl e ↦ clash a (abandoned_root t e)
          | inr e ↦
              let q = (and_holds (is_open p l e.0) (every_in p e.0 (is_spent p l)) (sym (abandoned_host t e.0 e.1) ∙ a)).1 in
              every_in_at p e.0 (is_spent p l) q t (ok.hosted t e.0 e.1) (host_in p e.0 t e.1)
        ]

  -- Nothing is left to do afterwards.
  pub abandoned_done : (l : Ledger) (s : ℕ) → is_abandoning p (abandoned p l) s ≡ false
  unfolding is_abandoning is_left
  abandoned_done l s =
      refuted _
      (λ h.
      let (o, q) = and_holds (is_open p (abandoned p l) s) (every_in p s (is_bare p (abandoned p l))) h in
      let (t, b, e, a) = open_find p (abandoned p l) s o in
      let (n, k) = awake_kept l t a in
      let no : is_left p l s ≡ false = sym (abandoned_host l t s e) ∙ n in
      let all : every_in p s (is_spent p l) ≡ true =
      every_in_of p s (is_spent p l)
      (λ u c i. was_spent u c (in_host p s u i) no (every_in_at p s (is_bare p (abandoned p l)) q u c i)) in
      let op : is_open p l s ≡ true = open_at p l s t b e (ap (λ (x : Configuration). is_awake x.mode) (sym k) ∙ a) in
      clash (and_both (is_open p l s) (every_in p s (is_spent p l)) op all) no)
    where
      was_spent : (u : ℕ) → u < track_count p → host p u ≡ some s → is_left p l s ≡ false → is_bare p (abandoned p l) u ≡ true → is_spent p l u ≡ true
      was_spent u c e n h =
          let k = left_kept l u (abandoned_host l u s e ∙ n) in
          let (x, y, f) = bare_parts (abandoned p l) u h in
          spent_of l u c
          (record {
            undoing = ap (λ (v : Configuration). is_undoing v.mode) (sym k) ∙ x;
            empty = ap (λ (v : Configuration). is_empty v.held) (sym k) ∙ y;
            hosted = λ v d i a.
                elim (look (is_abandoned p l v)) [
                  | inl g ↦ abandoned_spent l v g
                  | inr g ↦ clash a (ap (λ (w : Configuration). is_awake w.mode) (sym (left_kept l v g)) ∙ free_at p (abandoned p l) u v f d i)
                ];
          })

  -- A scope is awake as a whole or asleep as a whole.
  abbrev pub Whole : Ledger → Type 0
  Whole l = (s t u : ℕ) → host p t ≡ some s → host p u ≡ some s → is_awake (l t).mode ≡ true → is_awake (l u).mode ≡ true

  -- where nothing is due, nothing changes
  module _ (l : Ledger) (whole : Whole l) (none_due : (s : ℕ) → is_abandoning p l s ≡ false) where
    -- from the highest number down: a spent track has no open scope, or the scope would be due
    spent_bare : (n t : ℕ) → t < track_count p → track_count p ≤ n + t → is_spent p l t ≡ true → is_bare p l t ≡ true
    unfolding is_bare is_abandoning
    spent_bare zero t b h s = absurd (omega arith)
    spent_bare (suc n) t b h s =
        let q = spent_parts l t b s in
        let shut : has_open_scope p l t ≡ false = refuted (has_open_scope p l t) (λ o. busy q (busy_find p l t o) (λ u c i. spent_bare n u c (let d = hosts_higher t u i in omega arith))) in
        rw (q.undoing, q.empty, shut)
      where
        busy : Spent l t → (u : ℕ) × (h : ℕ) × (u < track_count p) × (host p u ≡ some h) × (owner p h ≡ t) × (is_awake (l u).mode ≡ true)
            → ((u : ℕ) → u < track_count p → is_hosted_by p t u ≡ true → is_spent p l u ≡ true → is_bare p l u ≡ true) → ⊥
        busy q r ih =
            let (u, h', c, e, o, a) = r in
            let op = open_at p l h' u c e a in
            let all : every_in p h' (is_bare p l) ≡ true =
            every_in_of p h' (is_bare p l)
            (λ v d i.
            let f = in_host p h' v i in
            let k : is_hosted_by p t v ≡ true = subst (λ x. is_hosted_by p x v ≡ true) o (host_by p v h' f) in
            ih v d k (q.hosted v d k (whole h' u v e f a))) in
            clash (and_both (is_open p l h') (every_in p h' (is_bare p l)) op all) (none_due h')

    none_left : (s : ℕ) → is_left p l s ≡ false
    unfolding is_left is_abandoning
    none_left s =
        refuted (is_left p l s)
        (λ h.
        let (o, q) = and_holds (is_open p l s) (every_in p s (is_spent p l)) h in
        clash
        (and_both (is_open p l s) (every_in p s (is_bare p l)) o
        (every_in_of p s (is_bare p l) (λ t b i. spent_bare (track_count p) t b (omega arith) (every_in_at p s (is_spent p l) q t b i))))
        (none_due s))

    pub abandoned_steady : abandoned p l ≡ l
    abandoned_steady =
        fun_ext
        (λ t.
        left_kept l t
        (elim (look_option (host p t)) [ inl e ↦ abandoned_root l t e | inr e ↦ abandoned_host l t e.0 e.1 ∙ none_left e.0 ]))

  -- One scope goes to sleep.
  unfoldable pub abandoned_one : Ledger → ℕ → Ledger
  abandoned_one l s t = cond (is_in p s t) sleeping (l t)

  -- "until nothing changes", in any order
  pub data Climbs : Ledger → Ledger → Type 0 where
    stop : {l : Ledger} → Climbs l l
    leave : {l m : Ledger} (s : ℕ) → is_abandoning p l s ≡ true → Climbs (abandoned_one l s) m → Climbs l m

  module _ (l : Ledger) (s : ℕ) where
    one_asleep : (t : ℕ) → host p t ≡ some s → abandoned_one l s t ≡ sleeping
    unfolding abandoned_one
    one_asleep t e = rw (host_in p s t e)

    one_kept : (t : ℕ) → is_in p s t ≡ false → abandoned_one l s t ≡ l t
    unfolding abandoned_one
    one_kept t n = rw n

    module _ (due : is_abandoning p l s ≡ true) where
      due_spent : (t : ℕ) → t < track_count p → host p t ≡ some s → is_spent p l t ≡ true
      unfolding is_abandoning
      due_spent t b e =
          bare_spent l t b (every_in_at p s (is_bare p l) (and_holds (is_open p l s) (every_in p s (is_bare p l)) due).1 t b (host_in p s t e))

      -- outside the scope a track is spent afterwards exactly if it was before: from the highest number down
      same_spent : (n t : ℕ) → t < track_count p → track_count p ≤ n + t → is_in p s t ≡ false → is_spent p (abandoned_one l s) t ≡ is_spent p l t
      unfolding sleeping is_awake
      same_spent zero t b h i = absurd (omega arith)
      same_spent (suc n) t b h i =
          spent_law (abandoned_one l s) t b
          ∙ ap₂ (λ (x : Configuration) y. is_undoing x.mode && is_empty x.held && y) (one_kept t i)
          (every_same (track_count p) _ _ (λ u c. at u c (λ j k. same_spent n u c (let d = hosts_higher t u k in omega arith) j)))
          ∙ sym (spent_law l t b)
        where
          at : (u : ℕ) → u < track_count p → (is_in p s u ≡ false → is_hosted_by p t u ≡ true → is_spent p (abandoned_one l s) u ≡ is_spent p l u)
              → (not (is_hosted_by p t u && is_awake (abandoned_one l s u).mode) || is_spent p (abandoned_one l s) u) ≡ (not (is_hosted_by p t u && is_awake (l u).mode) || is_spent p l u)
          at u c ih =
              elim (look (is_hosted_by p t u)) [
                | inr k ↦ rw k
                | inl k ↦
                    elim (look (is_in p s u)) [
                      | inl j ↦
                          let e = in_host p s u j in
                          let x : is_awake (abandoned_one l s u).mode ≡ false = ap (λ (x : Configuration). is_awake x.mode) (one_asleep u e) in
                          let y = due_spent u c e in
                          rw (k, x) (sym (or_right (not (is_awake (l u).mode)) (is_spent p l u) y))
                      | inr j ↦ ap₂ (λ (x : Configuration) y. not (is_hosted_by p t u && is_awake x.mode) || y) (one_kept u j) (ih j k)
                    ]
              ]

      -- a track beside one that is not in the scope is not in it either
      beside : (t h u : ℕ) → host p t ≡ some h → host p u ≡ some h → is_in p s t ≡ false → is_in p s u ≡ false
      beside t h u e f i = refuted (is_in p s u) (λ j. clash (host_in p s t (e ∙ sym f ∙ in_host p s u j)) i)

      -- a scope beside it is open, and abandoned, as before
      same_open : (t h : ℕ) → host p t ≡ some h → is_in p s t ≡ false → is_open p (abandoned_one l s) h ≡ is_open p l h
      unfolding is_open
      same_open t h e i =
          some_in_same p h (λ u. is_awake (abandoned_one l s u).mode) (λ u. is_awake (l u).mode)
          (λ u c j. ap (λ (x : Configuration). is_awake x.mode) (one_kept u (beside t h u e (in_host p h u j) i)))

      same_left : (t h : ℕ) → host p t ≡ some h → is_in p s t ≡ false → is_abandoned p (abandoned_one l s) t ≡ is_abandoned p l t
      unfolding is_left
      same_left t h e i =
          abandoned_host (abandoned_one l s) t h e
          ∙ ap₂ (λ x y. x && y) (same_open t h e i)
          (every_in_same p h (is_spent p (abandoned_one l s)) (is_spent p l)
          (λ u c j. same_spent (track_count p) u c (omega arith) (beside t h u e (in_host p h u j) i)))
          ∙ sym (abandoned_host l t h e)

      scope_left : is_left p l s ≡ true
      unfolding is_left is_abandoning
      scope_left =
          and_both (is_open p l s) (every_in p s (is_spent p l)) (and_holds (is_open p l s) (every_in p s (is_bare p l)) due).0
          (every_in_of p s (is_spent p l) (λ u c j. due_spent u c (in_host p s u j)))

      -- a single step leaves the outcome as it was
      pub abandoned_one_lem : (t : ℕ) → abandoned p (abandoned_one l s) t ≡ abandoned p l t
      abandoned_one_lem t =
          elim (look (is_in p s t)) [
            | inl i ↦
                let f = in_host p s t i in
                asleep_stays f ∙ sym (left_asleep l t (abandoned_host l t s f ∙ scope_left))
            | inr i ↦
                let q : is_abandoned p (abandoned_one l s) t ≡ is_abandoned p l t =
                elim (look_option (host p t))
                [ inl e ↦ abandoned_root (abandoned_one l s) t e ∙ sym (abandoned_root l t e) | inr e ↦ same_left t e.0 e.1 i ] in
                elim (look (is_abandoned p l t)) [
                  | inl d ↦ left_asleep (abandoned_one l s) t (q ∙ d) ∙ sym (left_asleep l t d)
                  | inr d ↦ left_kept (abandoned_one l s) t (q ∙ d) ∙ one_kept t i ∙ sym (left_kept l t d)
                ]
          ]
        where
          asleep_stays : host p t ≡ some s → abandoned p (abandoned_one l s) t ≡ sleeping
          asleep_stays f =
              elim (look (is_abandoned p (abandoned_one l s) t))
              [ inl d ↦ left_asleep (abandoned_one l s) t d | inr d ↦ left_kept (abandoned_one l s) t d ∙ one_asleep t f ]

      whole_one : Whole l → Whole (abandoned_one l s)
      unfolding sleeping is_awake
      whole_one w r t u e f a =
          elim (look (is_in p s t)) [
            | inl i ↦ let z : is_awake sleeping.mode ≡ true = subst (λ (x : Configuration). is_awake x.mode ≡ true) (one_asleep t (in_host p s t i)) a in clash z refl
            | inr i ↦
                subst (λ (x : Configuration). is_awake x.mode ≡ true) (sym (one_kept u (beside t r u e f i)))
                (w r t u e f (subst (λ (x : Configuration). is_awake x.mode ≡ true) (one_kept t i) a))
          ]

  -- the single steps in any order, until none is due, end in the closed form
  pub climbs_end : {l m : Ledger} → Climbs l m → Whole l → ((s : ℕ) → is_abandoning p m s ≡ false) → m ≡ abandoned p l
  climbs_end (stop {l = l}) w n = sym (abandoned_steady l w n)
  climbs_end (leave {l = l} s d r) w n = climbs_end r (whole_one l s d w) n ∙ fun_ext (abandoned_one_lem l s d)
