-- One scope goes to sleep, in figures. The scope of a track whose busy tracks are none is due, and with its mark taken the figures are
-- those of the ledger with that scope asleep: only the track itself can be busy no longer, so that only its own scope can come due.
-- A climb is such steps, each to a lower track. Where nothing is due the ledger is the outcome of abandoning. Assumes nothing.
use Rattle.std.proofs.Common.{◌≡◌, refl, sym, ap, ap₂, ◌∙◌, subst, ◌⊎◌, inl, inr, ⊎_elim, Bool, true, false, not, ◌&&◌, List, ℕ, ◌+◌, ◌-◌, ◌<◌, ◌≤◌, arith, eqb, length, get_or, set, length-set, get_or-set_same, get_or-set_other, eqb-true}
use Rattle.std.proofs.Math.Path.{fun_ext}
use Rattle.std.proofs.Math.Bool.{and-true}
use Rattle.std.proofs.Math.Option.{none, some}
use borrow.Author.Tests.{eqb-false, not-true}
use Rattle.rules.specs.Plan.{Plan, track_count, host, owner, is_in, is_hosted_by, every_in}
use Rattle.rules.specs.Ledger.{Configuration, Ledger, is_awake, is_undoing, is_empty, sleeping}
use Rattle.rules.specs.Scope.{is_open, has_open_scope, is_bare}
use Rattle.rules.specs.Signal.{is_abandoning, abandoned}
use Rattle.rules.proofs.Tests.{look, look_option, clash, none-some, refuted, and_holds, and_both, and_not}
use Rattle.rules.proofs.Folds.{some_same, some_none, count_same}
use Rattle.rules.proofs.Acceptance.{Accepted}
use Rattle.rules.proofs.Scopes.{in_host, host_in, by_host, host_by, every_in_at, every_in_of, open_at, open_find, busy_at, busy_find, free_at}
use Rattle.rules.proofs.Abandoning.{bare_parts, abandoned_one, abandoned_one_lem, abandoned_steady}
use Rattle.plan.specs.Passes.{slots}
use Rattle.withdrawal.specs.declared.abandoning.Scopes.{Scopes}
use Rattle.withdrawal.specs.Scopes.{Nested, is_busy, busy_below, busy_tracks, Counted, kept_by, keeping, Figures, Due, Climbed, Cleared}
use Rattle.withdrawal.proofs.Counted.{count_none, count_zero, count_less, same_host, set_figure}

module _ (p : Plan) (l : Ledger) where
  -- a track is busy, and is not
  pub busy_of : (t : ℕ) → is_awake (l t).mode ≡ true → is_bare p l t ≡ false → is_busy p l t ≡ true
  unfolding is_busy
  busy_of t a b = rw (a, b)

  not_busy : (t : ℕ) → is_bare p l t ≡ true → is_busy p l t ≡ false
  unfolding is_busy
  not_busy t b = and_not (is_awake (l t).mode) (not (is_bare p l t)) (λ x y. clash b (not-true (is_bare p l t) y))

  pub asleep_free : (t : ℕ) → is_awake (l t).mode ≡ false → is_busy p l t ≡ false
  unfolding is_busy
  asleep_free t a = rw a

  idle_bare : (t : ℕ) → is_awake (l t).mode ≡ true → is_busy p l t ≡ false → is_bare p l t ≡ true
  idle_bare t a b = elim (look (is_bare p l t)) [ inl k ↦ k | inr k ↦ clash (busy_of t a k) b ]

  shut_bare : (t : ℕ) → has_open_scope p l t ≡ false → is_bare p l t ≡ (is_undoing (l t).mode && is_empty (l t).held)
  unfolding is_bare
  shut_bare t o = rw o (and-true (is_undoing (l t).mode && is_empty (l t).held))

  due_parts : (s : ℕ) → is_abandoning p l s ≡ true → (is_open p l s ≡ true) × (every_in p s (is_bare p l) ≡ true)
  unfolding is_abandoning
  due_parts s d = and_holds (is_open p l s) (every_in p s (is_bare p l)) d

  due_of : (s : ℕ) → is_open p l s ≡ true → ((t : ℕ) → t < track_count p → is_in p s t ≡ true → is_bare p l t ≡ true) → is_abandoning p l s ≡ true
  unfolding is_abandoning
  due_of s o q = and_both (is_open p l s) (every_in p s (is_bare p l)) o (every_in_of p s (is_bare p l) q)

  due_bare : (s : ℕ) → is_abandoning p l s ≡ true → (t : ℕ) → t < track_count p → is_in p s t ≡ true → is_bare p l t ≡ true
  due_bare s d = every_in_at p s (is_bare p l) (due_parts s d).1

  -- a due scope: its track's marks
  module _ (ok : Accepted p) (nest : Nested p l) where
    -- the awake tracks of one host track are in one scope
    one_scope : (t u g h : ℕ) → host p t ≡ some g → host p u ≡ some h → owner p g ≡ owner p h → is_awake (l t).mode ≡ true
        → is_awake (l u).mode ≡ true → g ≡ h
    one_scope t u g h e f o a b =
        sym (nest.hosting t g e a).0 ∙ ap (λ w. (l w).state) o ∙ (nest.hosting u h f b).0

    due_open : (s : ℕ) → is_abandoning p l s ≡ true → has_open_scope p l (owner p s) ≡ true
    due_open s d = let (t, b, e, a) = open_find p l s (due_parts s d).0 in busy_at p l t s b e a

    due_idle : (s : ℕ) → is_abandoning p l s ≡ true → busy_tracks p l (owner p s) ≡ 0
    unfolding busy_below
    due_idle s d =
        let (t, b, e, a) = open_find p l s (due_parts s d).0 in
        count_none (track_count p) (λ u. is_hosted_by p (owner p s) u && is_busy p l u)
        (λ u c.
        and_not (is_hosted_by p (owner p s) u) (is_busy p l u)
        (λ i k.
        let (h, f, r) = by_host p (owner p s) u i in
        elim (look (is_awake (l u).mode)) [
          | inr w ↦ clash k (asleep_free u w)
          | inl w ↦
              let z = one_scope u t h s f e r w a in
              clash k (not_busy u (due_bare s d u c (host_in p s u (f ∙ ap some z))))
        ]))

    -- an open scope without a busy track is due
    idle_due : (t : ℕ) → has_open_scope p l t ≡ true → busy_tracks p l t ≡ 0 → (s : ℕ) × (owner p s ≡ t) × (is_abandoning p l s ≡ true)
    unfolding busy_below
    idle_due t o n =
        let (u, h, b, e, r, a) = busy_find p l t o in
        let each : (v : ℕ) → v < track_count p → is_in p h v ≡ true → is_bare p l v ≡ true =
        λ v c i.
        let f = in_host p h v i in
        let w = nest.whole h u v e f a in
        idle_bare v w
        (refuted (is_busy p l v)
        (λ k.
        clash (and_both (is_hosted_by p t v) (is_busy p l v) (subst (λ x. is_hosted_by p x v ≡ true) r (host_by p v h f)) k)
        (count_zero (track_count p) (λ v. is_hosted_by p t v && is_busy p l v) n v c))) in
        (h, r, due_of h (open_at p l h u b e a) each)

-- The ledger with the scopes of the tracks without a mark asleep.
module _ (p : Plan) (opens : List Bool) (l : Ledger) where
  pub keep_root : (t : ℕ) → host p t ≡ none → keeping p opens l t ≡ l t
  unfolding keeping kept_by
  keep_root t e = rw (e, kept_by)

  pub keep_open : (t h : ℕ) → host p t ≡ some h → get_or opens (owner p h) false ≡ true → keeping p opens l t ≡ l t
  unfolding keeping kept_by
  keep_open t h e m = rw (e, kept_by, m)

  pub keep_shut : (t h : ℕ) → host p t ≡ some h → get_or opens (owner p h) false ≡ false → keeping p opens l t ≡ sleeping
  unfolding keeping kept_by
  keep_shut t h e m = rw (e, kept_by, m)

  pub keep_case : (t : ℕ) → (keeping p opens l t ≡ l t) ⊎ (keeping p opens l t ≡ sleeping)
  keep_case t =
      elim (look_option (host p t)) [
        | inl e ↦ inl (keep_root t e)
        | inr e ↦
            elim (look (get_or opens (owner p e.0) false)) [ inl m ↦ inl (keep_open t e.0 e.1 m) | inr m ↦ inr (keep_shut t e.0 e.1 m) ]
      ]

  pub keep_sleeping : (t : ℕ) → l t ≡ sleeping → keeping p opens l t ≡ sleeping
  keep_sleeping t z = ⊎_elim (λ e. e ∙ z) (λ e. e) (keep_case t)

  pub keep_awake : (t : ℕ) → is_awake (keeping p opens l t).mode ≡ true → keeping p opens l t ≡ l t
  unfolding sleeping is_awake
  keep_awake t a =
      elim (keep_case t) [
        | inl e ↦ e
        | inr e ↦ let z : is_awake sleeping.mode ≡ true = subst (λ (x : Configuration). is_awake x.mode ≡ true) e a in clash z refl
      ]

  -- what is asleep is all zeros
  module _ (blank : (t : ℕ) → is_awake (l t).mode ≡ false → l t ≡ sleeping) where
    keep_blank : (t : ℕ) → is_awake (keeping p opens l t).mode ≡ false → keeping p opens l t ≡ sleeping
    keep_blank t a =
        elim (keep_case t) [ inl e ↦ e ∙ blank t (subst (λ (x : Configuration). is_awake x.mode ≡ false) e a) | inr e ↦ e ]

    -- with a mark for each track that has an open scope nothing is asleep that was not
    pub keep_all : (ok : Accepted p) → ((u : ℕ) → u < track_count p → get_or opens u false ≡ has_open_scope p l u) → keeping p opens l ≡ l
    keep_all ok marks =
        fun_ext
        (λ t.
        elim (look_option (host p t)) [
          | inl e ↦ keep_root t e
          | inr e ↦
              let h = e.0 in
              elim (look (get_or opens (owner p h) false)) [
                | inl m ↦ keep_open t h e.1 m
                | inr m ↦
                    let b = ok.owned h (ok.host_state t h e.1) in
                    keep_shut t h e.1 m ∙ sym (blank t (free_at p l (owner p h) t (sym (marks (owner p h) b) ∙ m) (ok.hosted t h e.1) (host_by p t h e.1)))
              ]
        ])

-- The scope of a track is due.
pub record Step (p : Plan) (l : Ledger) (x : Scopes) (t : ℕ) : Type 0 where
  pub accepted : Accepted p
  pub few : track_count p ≤ slots
  pub blank : (t : ℕ) → is_awake (l t).mode ≡ false → l t ≡ sleeping
  pub due : Due p l x t

-- It goes to sleep: m is the ledger before, n the one after.
module _ {p : Plan} {l : Ledger} {x : Scopes} {t : ℕ} (step : Step p l x t) where
  ok : Accepted p
  ok = step.accepted

  low : t < track_count p
  low = step.due.low

  idle : get_or x.busy t 0 ≡ 0
  idle = step.due.idle

  st : Figures p l x
  st = step.due.figures

  abbrev m : Ledger
  m = keeping p x.opens l

  abbrev n : Ledger
  n = keeping p (set x.opens t false) l

  sized : t < length x.opens
  sized = let q = st.counted.opens_size in let f = step.few in let b = low in omega arith

  -- the tracks that it hosts are asleep, and no other changes
  asleep_now : (u : ℕ) → is_hosted_by p t u ≡ true → n u ≡ sleeping
  asleep_now u i =
      let (h, e, o) = by_host p t u i in
      keep_shut p (set x.opens t false) l u h e (subst (λ v. get_or (set x.opens t false) v false ≡ false) (sym o) (get_or-set_same x.opens t false false sized))

  as_before : (u : ℕ) → is_hosted_by p t u ≡ false → n u ≡ m u
  as_before u i =
      elim (look_option (host p u)) [
        | inl e ↦ keep_root p (set x.opens t false) l u e ∙ sym (keep_root p x.opens l u e)
        | inr e ↦
            let h = e.0 in
            let d : owner p h ≡ t → ⊥ = λ z. clash (subst (λ v. is_hosted_by p v u ≡ true) z (host_by p u h e.1)) i in
            let q = get_or-set_other x.opens t (owner p h) false false d in
            elim (look (get_or x.opens (owner p h) false)) [
              | inl k ↦ keep_open p (set x.opens t false) l u h e.1 (q ∙ k) ∙ sym (keep_open p x.opens l u h e.1 k)
              | inr k ↦ keep_shut p (set x.opens t false) l u h e.1 (q ∙ k) ∙ sym (keep_shut p x.opens l u h e.1 k)
            ]
      ]

  not_own : is_hosted_by p t t ≡ false
  not_own = refuted (is_hosted_by p t t) (λ i. let (h, e, o) = by_host p t t i in let d = ok.lower t h e in omega arith)

  -- a track that another hosts, it does not
  other : (u v : ℕ) → (u ≡ t → ⊥) → is_hosted_by p u v ≡ true → is_hosted_by p t v ≡ false
  other u v d i =
      refuted (is_hosted_by p t v)
      (λ k. let (h, e, o) = by_host p u v i in let (g, f, r) = by_host p t v k in d (sym o ∙ ap (owner p) (same_host e f) ∙ r))

  same_here : n t ≡ m t
  same_here = as_before t not_own

  awake_before : (u : ℕ) → is_awake (n u).mode ≡ true → (is_hosted_by p t u ≡ false) × (is_awake (m u).mode ≡ true)
  unfolding sleeping is_awake
  awake_before u a =
      elim (look (is_hosted_by p t u)) [
        | inl i ↦ let z : is_awake sleeping.mode ≡ true = subst (λ (y : Configuration). is_awake y.mode ≡ true) (asleep_now u i) a in clash z refl
        | inr i ↦ (i, subst (λ (y : Configuration). is_awake y.mode ≡ true) (as_before u i) a)
      ]

  open_here : has_open_scope p m t ≡ true
  open_here = sym (st.counted.mark t low) ∙ step.due.marked

  -- it had an open scope, so it was awake, and busy
  awake_here : is_awake (m t).mode ≡ true
  awake_here = let (u, h, b, e, o, a) = busy_find p m t open_here in subst (λ v. is_awake (m v).mode ≡ true) o (st.nested.hosting u h e a).1

  busy_here : is_busy p m t ≡ true
  busy_here = busy_of p m t awake_here (refuted (is_bare p m t) (λ b. clash open_here (bare_parts p ok m t b).2))

  -- who has an open scope
  shut_here : has_open_scope p n t ≡ false
  unfolding has_open_scope sleeping is_awake
  shut_here =
      some_none (track_count p) (λ u. is_hosted_by p t u && is_awake (n u).mode)
      (λ u b. and_not (is_hosted_by p t u) (is_awake (n u).mode) (λ i a. clash i (awake_before u a).0))

  same_open : (u : ℕ) → (u ≡ t → ⊥) → has_open_scope p n u ≡ has_open_scope p m u
  unfolding has_open_scope
  same_open u d =
      some_same (track_count p) (λ v. is_hosted_by p u v && is_awake (n v).mode) (λ v. is_hosted_by p u v && is_awake (m v).mode)
      (λ v b.
      elim (look (is_hosted_by p u v))
      [ inl i ↦ ap (λ (y : Configuration). is_hosted_by p u v && is_awake y.mode) (as_before v (other u v d i)) | inr i ↦ rw i ])

  -- who is bare, and busy
  bare_here : is_bare p n t ≡ (is_undoing (m t).mode && is_empty (m t).held)
  bare_here = shut_bare p n t shut_here ∙ ap (λ (y : Configuration). is_undoing y.mode && is_empty y.held) same_here

  same_bare : (u : ℕ) → (u ≡ t → ⊥) → is_hosted_by p t u ≡ false → is_bare p n u ≡ is_bare p m u
  unfolding is_bare
  same_bare u d i =
      ap₂ (λ (y : Configuration) z. is_undoing y.mode && is_empty y.held && not z) (as_before u i) (same_open u d)

  same_busy : (u : ℕ) → (u ≡ t → ⊥) → is_hosted_by p t u ≡ false → is_busy p n u ≡ is_busy p m u
  unfolding is_busy
  same_busy u d i =
      ap₂ (λ (y : Configuration) z. is_awake y.mode && not z) (as_before u i) (same_bare u d i)

  hosted_busy : (u v : ℕ) → (u ≡ t → ⊥) → (v ≡ t → ⊥) → (is_hosted_by p u v && is_busy p n v) ≡ (is_hosted_by p u v && is_busy p m v)
  hosted_busy u v d k =
      elim (look (is_hosted_by p u v)) [
        | inl i ↦ ap (λ z. is_hosted_by p u v && z) (same_busy v k (other u v d i))
        | inr i ↦ rw i
      ]

  none_busy : busy_tracks p m t ≡ 0
  none_busy = sym (st.counted.count t low) ∙ idle

  none_busy_now : busy_tracks p n t ≡ 0
  unfolding busy_below
  none_busy_now =
      count_none (track_count p) (λ u. is_hosted_by p t u && is_busy p n u)
      (λ u b.
      and_not (is_hosted_by p t u) (is_busy p n u)
      (λ i k. elim (look (is_awake (n u).mode)) [ inl a ↦ clash i (awake_before u a).0 | inr a ↦ clash k (asleep_free p n u a) ]))

  -- the scope that goes to sleep
  due_here : (s : ℕ) × (owner p s ≡ t) × (is_abandoning p m s ≡ true)
  due_here = idle_due p m ok st.nested t open_here none_busy

  abbrev s : ℕ
  s = due_here.0

  -- an awake track that it hosts is in that scope
  in_due : (u : ℕ) → is_hosted_by p t u ≡ true → is_awake (m u).mode ≡ true → is_in p s u ≡ true
  in_due u k a =
      let (h, e, o) = by_host p t u k in
      let (v, b, f, c) = open_find p m s (due_parts p m s due_here.2).0 in
      host_in p s u (e ∙ ap some (one_scope p m ok st.nested u v h s e f (o ∙ sym due_here.1) a c))

  step_is : n ≡ abandoned_one p ok m s
  unfolding abandoned_one
  step_is =
      fun_ext
      (λ u.
      elim (look (is_in p s u)) [
        | inl i ↦ rw i (asleep_now u (subst (λ v. is_hosted_by p v u ≡ true) due_here.1 (host_by p u s (in_host p s u i))))
        | inr i ↦
            rw i
            (elim (look (is_hosted_by p t u)) [
              | inr k ↦ as_before u k
              | inl k ↦ asleep_now u k ∙ sym (keep_blank p x.opens l step.blank u (refuted (is_awake (m u).mode) (λ a. clash (in_due u k a) i)))
            ])
      ])

  same_outcome : (u : ℕ) → abandoned p n u ≡ abandoned p m u
  same_outcome u = ap (λ (k : Ledger). abandoned p k u) step_is ∙ abandoned_one_lem p ok m s due_here.2 u

  -- a track that was bare had no open scope, so what is open still has its host awake
  nested_now : Nested p n
  nested_now =
      record {
        whole = λ r u v e f a.
            let (i, b) = awake_before u a in
            let k : is_hosted_by p t v ≡ false = refuted (is_hosted_by p t v) (λ j. beside u v r e f i j) in
            subst (λ (y : Configuration). is_awake y.mode ≡ true) (sym (as_before v k)) (st.nested.whole r u v e f b);
        hosting = λ u h e a.
            let (i, b) = awake_before u a in
            let q = st.nested.hosting u h e b in
            let k : is_hosted_by p t (owner p h) ≡ false = refuted (is_hosted_by p t (owner p h)) (λ j. bare_host u h e b q.1 j) in
            subst (λ (y : Configuration). (y.state ≡ h) × (is_awake y.mode ≡ true)) (sym (as_before (owner p h) k)) q;
      }
    where
      beside : (u v r : ℕ) → host p u ≡ some r → host p v ≡ some r → is_hosted_by p t u ≡ false → is_hosted_by p t v ≡ true → ⊥
      beside u v r e f i j =
          let (h, g, o) = by_host p t v j in
          clash (subst (λ w. is_hosted_by p w u ≡ true) (ap (owner p) (same_host f g) ∙ o) (host_by p u r e)) i

      bare_host : (u h : ℕ) → host p u ≡ some h → is_awake (m u).mode ≡ true → is_awake (m (owner p h)).mode ≡ true
          → is_hosted_by p t (owner p h) ≡ true → ⊥
      bare_host u h e b a j =
          let c = ok.owned h (ok.host_state u h e) in
          clash (busy_at p m u h (ok.hosted u h e) e b) (bare_parts p ok m (owner p h) (due_bare p m s due_here.2 (owner p h) c (in_due (owner p h) j a))).2

  -- what is due afterwards was due before, but for the track's own scope
  due_before : (r : ℕ) → is_abandoning p n r ≡ true → is_in p r t ≡ false → (is_abandoning p m r ≡ true) × (owner p r ≡ t → ⊥)
  due_before r d i =
      let (v, b, e, a) = open_find p n r (due_parts p n r d).0 in
      let (k, w) = awake_before v a in
      let far : owner p r ≡ t → ⊥ = λ z. clash (subst (λ y. is_hosted_by p y v ≡ true) z (host_by p v r e)) k in (
        due_of p m r (open_at p m r v b e w)
            (λ u c j.
            sym (same_bare u (λ z. clash (subst (λ y. is_in p r y ≡ true) z j) i) (other (owner p r) u far (host_by p u r (in_host p r u j))))
            ∙ due_bare p n r d u c j),
        far,
      )

  due_own : (r : ℕ) → is_abandoning p n r ≡ true → is_in p r t ≡ true → (is_undoing (m t).mode && is_empty (m t).held) ≡ true
  due_own r d i = sym bare_here ∙ due_bare p n r d t low i

  -- the mark taken: who has an open scope now
  open_marks : (u : ℕ) → u < track_count p → get_or (set x.opens t false) u false ≡ has_open_scope p n u
  open_marks u b =
      set_figure x.opens t false false (has_open_scope p n) sized (sym shut_here) u (λ d. st.counted.mark u b ∙ sym (same_open u d))

  opens_sized : length (set x.opens t false) ≡ slots
  opens_sized = length-set x.opens t false ∙ st.counted.opens_size

  abbrev taken_back : Bool
  taken_back = is_undoing (l t).mode && is_empty (l t).held

  as_read : (is_undoing (m t).mode && is_empty (m t).held) ≡ taken_back
  as_read = ap (λ (y : Configuration). is_undoing y.mode && is_empty y.held) (keep_awake p x.opens l t awake_here)

  busy_now : is_busy p n t ≡ not taken_back
  unfolding is_busy
  busy_now =
      ap₂ (λ (y : Configuration) z. is_awake y.mode && not z) same_here (bare_here ∙ as_read)
      ∙ (rw awake_here)

  -- a count changes only where the track itself is counted
  same_count : (u : ℕ) → u < track_count p → (is_hosted_by p u t ≡ true → is_busy p n t ≡ true) → get_or x.busy u 0 ≡ busy_tracks p n u
  unfolding busy_below
  same_count u b still =
      elim (look (eqb u t)) [
        | inl e ↦ subst (λ v. get_or x.busy v 0 ≡ busy_tracks p n v) (sym (eqb-true u t e)) (idle ∙ sym none_busy_now)
        | inr e ↦
            st.counted.count u b
            ∙ count_same (track_count p) (λ v. is_hosted_by p u v && is_busy p m v) (λ v. is_hosted_by p u v && is_busy p n v)
            (λ v c.
            elim (look (eqb v t)) [
              | inr i ↦ sym (hosted_busy u v (eqb-false u t e) (eqb-false v t i))
              | inl i ↦
                  subst (λ w. (is_hosted_by p u w && is_busy p m w) ≡ (is_hosted_by p u w && is_busy p n w)) (sym (eqb-true v t i))
                  (elim (look (is_hosted_by p u t)) [ inl k ↦ let q = still k in rw (busy_here, q) | inr k ↦ rw k ])
            ])
      ]

  -- the track is still busy, or is a root: the counts are as before
  module _ (still : (u : ℕ) → is_hosted_by p u t ≡ true → is_busy p n t ≡ true) where
    step_last : ((r : ℕ) → is_in p r t ≡ true → is_abandoning p n r ≡ true → ⊥) → Climbed p l x (record { opens = set x.opens t false; busy = x.busy }) t
    step_last none_due =
        record {
          figures = record {
            nested = nested_now;
            counted = record {
              opens_size = opens_sized;
              busy_size = st.counted.busy_size;
              mark = open_marks;
              count = λ u b. same_count u b (still u);
            };
          };
          same = same_outcome;
          due = λ r d. elim (look (is_in p r t)) [ inl i ↦ absurd (none_due r i d) | inr i ↦ due_before r d i ];
        }

  pub step_busy : taken_back ≡ false → Climbed p l x (record { opens = set x.opens t false; busy = x.busy }) t
  step_busy k = step_last (λ u i. busy_now ∙ ap not k) (λ r i d. clash (sym as_read ∙ due_own r d i) k)

  pub step_root : host p t ≡ none → Climbed p l x (record { opens = set x.opens t false; busy = x.busy }) t
  step_root e = step_last (λ u i. none-some e (by_host p u t i).1) (λ r i d. none-some e (in_host p r t i))

  -- Busy no longer: its host's track has one busy track fewer.
  module _ (h : ℕ) (e : host p t ≡ some h) (idle-now : taken_back ≡ true) where
    abbrev up : ℕ
    up = owner p h

    up_low : up < track_count p
    up_low = ok.owned h (ok.host_state t h e)

    up_other : up ≡ t → ⊥
    up_other z = let d = ok.lower t h e in omega arith

    one_less : busy_tracks p m up ≡ busy_tracks p n up + 1
    unfolding busy_below
    one_less =
        count_less (track_count p) (λ v. is_hosted_by p up v && is_busy p m v) (λ v. is_hosted_by p up v && is_busy p n v) t low
        (and_both (is_hosted_by p up t) (is_busy p m t) (host_by p t h e) busy_here)
        (and_not (is_hosted_by p up t) (is_busy p n t) (λ i k. clash k (busy_now ∙ ap not idle-now)))
        (λ v c d. sym (hosted_busy up v up_other d))

    pub some_busy : 0 < get_or x.busy up 0
    some_busy = let q = st.counted.count up up_low in omega (arith, one_less)

    module _ {k : ℕ} (less : k ≡ get_or x.busy up 0 - 1) where
      abbrev next : Scopes
      next = record { opens = set x.opens t false; busy = set x.busy up k }

      here_now : k ≡ busy_tracks p n up
      here_now = let q = st.counted.count up up_low in omega (arith, one_less)

      fewer_counts : (u : ℕ) → u < track_count p → get_or (set x.busy up k) u 0 ≡ busy_tracks p n u
      fewer_counts u b =
          set_figure x.busy up k 0 (busy_tracks p n)
          (let q = st.counted.busy_size in let f = step.few in let r = up_low in omega arith) here_now u
          (λ z. same_count u b (λ g. let (r, f, o) = by_host p u t g in absurd (z (sym o ∙ ap (owner p) (same_host f e)))))

      step_figures : Figures p l next
      step_figures =
          record {
            nested = nested_now;
            counted = record {
              opens_size = opens_sized;
              busy_size = length-set x.busy up k ∙ st.counted.busy_size;
              mark = open_marks;
              count = fewer_counts;
            };
          }

      own_scope : (r : ℕ) → is_in p r t ≡ true → owner p r ≡ up
      own_scope r i = ap (owner p) (same_host (in_host p r t i) e)

      -- others keep the host's scope open
      pub step_more : (k ≡ 0 → ⊥) → Climbed p l x next t
      step_more z =
          record {
            figures = step_figures;
            same = same_outcome;
            due = λ r d.
                elim (look (is_in p r t)) [
                  | inl i ↦ absurd (z (here_now ∙ ap (busy_tracks p n) (sym (own_scope r i)) ∙ due_idle p n ok nested_now r d))
                  | inr i ↦ due_before r d i
                ];
          }

      -- none does: it is due, and next
      pub step_due : k ≡ 0 → Due p l next up
      step_due z =
          record {
            low = up_low;
            figures = step_figures;
            marked = open_marks up up_low ∙ busy_at p n t h low e (ap (λ (y : Configuration). is_awake y.mode) same_here ∙ awake_here);
            idle = fewer_counts up up_low ∙ sym here_now ∙ z;
          }

      pub step_on : {y : Scopes} → Climbed p l next y up → Climbed p l x y t
      step_on c =
          record {
            figures = c.figures;
            same = λ u. c.same u ∙ same_outcome u;
            due = λ r d. let (q, o) = c.due r d in due_before r q (refuted (is_in p r t) (λ i. o (own_scope r i)));
          }

-- Track by track, each scope that is due at its track's visit.
module _ (p : Plan) (ok : Accepted p) (l : Ledger) where
  pub cleared_start : ((t : ℕ) → is_awake (l t).mode ≡ false → l t ≡ sleeping) → Nested p l → (x : Scopes) → Counted p l x.opens x.busy (track_count p) → Cleared p l x 0
  cleared_start blank nest x k =
      let e = keep_all p x.opens l blank ok k.mark in
      record {
        figures = record { nested = subst (Nested p) (sym e) nest; counted = subst (λ (m : Ledger). Counted p m x.opens x.busy (track_count p)) (sym e) k };
        same = λ u. ap (λ (m : Ledger). abandoned p m u) e;
        due = λ s d. omega arith;
      }

  module _ (x : Scopes) (t : ℕ) (low : t < track_count p) (k : Cleared p l x t) where
    abbrev at : Ledger
    at = keeping p x.opens l

    -- no scope of the track is due
    passed_by : ((s : ℕ) → owner p s ≡ t → is_abandoning p at s ≡ true → ⊥) → Cleared p l x (t + 1)
    passed_by none_due =
        record {
          figures = k.figures;
          same = k.same;
          due = λ s d. let q : owner p s ≡ t → ⊥ = λ z. none_due s z d in let b = k.due s d in omega arith;
        }

    pub cleared_shut : get_or x.opens t false ≡ false → Cleared p l x (t + 1)
    cleared_shut z =
        passed_by
        (λ s o d.
        clash (subst (λ v. has_open_scope p at v ≡ true) o (due_open p at ok k.figures.nested s d)) (sym (k.figures.counted.mark t low) ∙ z))

    pub cleared_busy : (get_or x.busy t 0 ≡ 0 → ⊥) → Cleared p l x (t + 1)
    cleared_busy z =
        passed_by
        (λ s o d. z (k.figures.counted.count t low ∙ ap (busy_tracks p at) (sym o) ∙ due_idle p at ok k.figures.nested s d))

    pub cleared_more : {y : Scopes} → Climbed p l x y t → Cleared p l y (t + 1)
    cleared_more c =
        record {
          figures = c.figures;
          same = λ u. c.same u ∙ k.same u;
          due = λ s d. let (q, o) = c.due s d in let f : owner p s ≡ t → ⊥ = o in let b = k.due s q in omega arith;
        }

  pub cleared_end : (x : Scopes) (n : ℕ) → track_count p ≤ n → Cleared p l x n → keeping p x.opens l ≡ abandoned p l
  cleared_end x n h k =
      let m : Ledger = keeping p x.opens l in
      sym (abandoned_steady p ok m k.figures.nested.whole
      (λ s.
      refuted (is_abandoning p m s)
      (λ d.
      let (t, b, e, a) = open_find p m s (due_parts p m s d).0 in
      let q = k.due s d in
      let r = ok.owned s (ok.host_state t s e) in
      omega arith)))
      ∙ fun_ext k.same
