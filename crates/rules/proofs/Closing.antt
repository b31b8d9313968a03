-- Closing as one pass. Closing one scope changes no mode and no state outside it, so it makes no other closing due and takes none
-- away; the single closings in any order, done until none is due, therefore end in the ledger that one pass gives. Assumes nothing.
use mathlib.Core.Path.{◌≡◌, refl, sym, ap, ap₂, ◌∙◌, subst, fun_ext}
use mathlib.Core.Logic.{◌⊎◌, inl, inr, ⊎_elim}
use mathlib.Core.Bool.{true, false, cond, ◌&&◌}
use mathlib.Core.Option.{none, some}
use Prim.Native.Nat.{ℕ, ◌<◌}
use lib.Dec.{eqb}
use borrow.Author.Tests.{eqb-true, eqb-false, eq-eqb, ne_eqb}
use Rattle.rules.specs.Plan.{Plan, track_count, no_state, host, owner, replacement, is_in, is_final}
use Rattle.rules.specs.Ledger.{Configuration, Ledger, is_awake, is_forward, sleeping}
use Rattle.rules.specs.Scope.{is_open}
use Rattle.rules.specs.Event.{installed, is_closing, is_closed, closes_scope, closed}
use Rattle.rules.proofs.Tests.{look, look_option, clash, refuted, and_holds}
use Rattle.rules.proofs.Acceptance.{Accepted}
use Rattle.rules.proofs.Scopes.{in_host, host_in, every_in_at, every_in_same, some_in_same, open_find}

-- mode and state alike: two configurations that differ in their entries at most
abbrev pub Alike : Configuration → Configuration → Type 0
Alike c d = (c.mode ≡ d.mode) × (c.state ≡ d.state)

alike_installed : (code deviation : ℕ) (c : Configuration) → Alike (installed code deviation c) c
unfolding installed
alike_installed code deviation c = (refl, refl)

module _ (p : Plan) where
  -- a scope's closing depends on the modes and states of its own tracks alone
  pub closing_alike : (l m : Ledger) (s : ℕ) → ((t : ℕ) → t < track_count p → host p t ≡ some s → Alike (l t) (m t)) → is_closing p l s ≡ is_closing p m s
  unfolding is_closing is_open
  closing_alike l m s h =
      ap₂ (λ a b. a && b)
      (some_in_same p s (λ t. is_awake (l t).mode) (λ t. is_awake (m t).mode) (λ t b i. ap is_awake (h t b (in_host p s t i)).0))
      (every_in_same p s (λ t. is_forward (l t).mode && is_final p (l t).state) (λ t. is_forward (m t).mode && is_final p (m t).state)
      (λ t b i. let q = h t b (in_host p s t i) in ap₂ (λ x y. is_forward x && is_final p y) q.0 q.1))

  -- a scope whose tracks are asleep is not due
  pub closing_asleep : (l : Ledger) (s : ℕ) → ((t : ℕ) → t < track_count p → host p t ≡ some s → l t ≡ sleeping) → is_closing p l s ≡ false
  unfolding is_closing sleeping is_awake
  closing_asleep l s h =
      refuted (is_closing p l s)
      (λ c.
      let (o, e) = and_holds (is_open p l s) _ c in
      let (t, b, i, a) = open_find p l s o in
      let q : is_awake sleeping.mode ≡ true = rw (h t b i) at a in
      clash q refl)

  pub closing_final : (l : Ledger) (s t : ℕ) → is_closing p l s ≡ true → t < track_count p → host p t ≡ some s
      → (is_forward (l t).mode ≡ true) × (is_final p (l t).state ≡ true)
  unfolding is_closing
  closing_final l s t c b e =
      let q = (and_holds (is_open p l s) _ c).1 in
      and_holds (is_forward (l t).mode) (is_final p (l t).state) (every_in_at p s (λ t. is_forward (l t).mode && is_final p (l t).state) q t b (host_in p s t e))

  pub closed_host : (l : Ledger) (t h : ℕ) → host p t ≡ some h → is_closed p l t ≡ is_closing p l h
  unfolding is_closed
  closed_host l t h e = rw (e, is_closed)

  pub closed_root : (l : Ledger) (t : ℕ) → host p t ≡ none → is_closed p l t ≡ false
  unfolding is_closed
  closed_root l t e = rw (e, is_closed)

  -- the three cases of a closing
  pub closed_asleep : (l : Ledger) (t : ℕ) → is_closed p l t ≡ true → closed p l t ≡ sleeping
  unfolding closed
  closed_asleep l t c = rw c

  pub closed_replaced : (l : Ledger) (t : ℕ) → is_closed p l t ≡ false → closes_scope p l t ≡ true
      → closed p l t ≡ installed (replacement p (l t).state) no_state (l t)
  unfolding closed
  closed_replaced l t c o = rw (c, o)

  pub closed_kept : (l : Ledger) (t : ℕ) → is_closed p l t ≡ false → closes_scope p l t ≡ false → closed p l t ≡ l t
  unfolding closed
  closed_kept l t c o = rw (c, o)

  -- what is not put to sleep keeps its mode and state
  pub closed_alike : (l : Ledger) (t : ℕ) → is_closed p l t ≡ false → Alike (closed p l t) (l t)
  closed_alike l t c =
      ⊎_elim (λ o. subst (λ x. Alike x (l t)) (sym (closed_replaced l t c o)) (alike_installed (replacement p (l t).state) no_state (l t)))
      (λ o. subst (λ x. Alike x (l t)) (sym (closed_kept l t c o)) (refl, refl))
      (look (closes_scope p l t))

  -- One pass does all: no closing is due afterwards.
  pub closed_done : (l : Ledger) (s : ℕ) → is_closing p (closed p l) s ≡ false
  closed_done l s =
      ⊎_elim
      (λ c. closing_asleep (closed p l) s (λ t b e. closed_asleep l t (closed_host l t s e ∙ c)))
      (λ c. closing_alike (closed p l) l s (λ t b e. closed_alike l t (closed_host l t s e ∙ c)) ∙ c)
      (look (is_closing p l s))

  -- where none is due, nothing changes
  pub closed_steady : (l : Ledger) → ((s : ℕ) → is_closing p l s ≡ false) → closed p l ≡ l
  unfolding closes_scope
  closed_steady l n =
      fun_ext (λ t. closed_kept l t (not_closed t (look_option (host p t))) (refuted (closes_scope p l t) (λ k. clash (and_holds (is_awake (l t).mode) _ k).1 (n (l t).state))))
    where
      not_closed : (t : ℕ) → (host p t ≡ none) ⊎ ((h : ℕ) × (host p t ≡ some h)) → is_closed p l t ≡ false
      not_closed t (inl e) = closed_root l t e
      not_closed t (inr e) = closed_host l t e.0 e.1 ∙ n e.0

  -- One scope closes: its tracks go to sleep, and its host's track installs the replacement.
  unfoldable pub closed_one : Ledger → ℕ → Ledger
  closed_one l s t = cond (is_in p s t) sleeping (cond (eqb t (owner p s)) (installed (replacement p s) no_state (l t)) (l t))

  -- "until nothing changes", in any order
  pub data Closings : Ledger → Ledger → Type 0 where
    stop : {l : Ledger} → Closings l l
    close : {l m : Ledger} (s : ℕ) → is_closing p l s ≡ true → Closings (closed_one l s) m → Closings l m

  one_asleep : (l : Ledger) (s t : ℕ) → host p t ≡ some s → closed_one l s t ≡ sleeping
  unfolding closed_one
  one_asleep l s t e = rw (host_in p s t e)

  outside : (s t : ℕ) → (host p t ≡ some s → ⊥) → is_in p s t ≡ false
  outside s t n = refuted (is_in p s t) (λ i. n (in_host p s t i))

  one_replaced : (l : Ledger) (s t : ℕ) → (host p t ≡ some s → ⊥) → t ≡ owner p s → closed_one l s t ≡ installed (replacement p s) no_state (l t)
  unfolding closed_one
  one_replaced l s t n e = rw (outside s t n, eq-eqb t (owner p s) e)

  one_kept : (l : Ledger) (s t : ℕ) → (host p t ≡ some s → ⊥) → (t ≡ owner p s → ⊥) → closed_one l s t ≡ l t
  unfolding closed_one
  one_kept l s t n e = rw (outside s t n, ne_eqb t (owner p s) e)

  one_alike : (l : Ledger) (s t : ℕ) → (host p t ≡ some s → ⊥) → Alike (closed_one l s t) (l t)
  one_alike l s t n =
      ⊎_elim
      (λ e. subst (λ x. Alike x (l t)) (sym (one_replaced l s t n (eqb-true t (owner p s) e))) (alike_installed (replacement p s) no_state (l t)))
      (λ e. subst (λ x. Alike x (l t)) (sym (one_kept l s t n (eqb-false t (owner p s) e))) (refl, refl))
      (look (eqb t (owner p s)))

  some_inj : (a b : ℕ) → some a ≡ some b → a ≡ b
  some_inj a b e = cc

  one_other : (l : Ledger) (s r : ℕ) → (r ≡ s → ⊥) → is_closing p (closed_one l s) r ≡ is_closing p l r
  one_other l s r n = closing_alike (closed_one l s) l r (λ t b e. one_alike l s t (λ f. n (some_inj r s (sym e ∙ f))))

  one_same : (l : Ledger) (s : ℕ) → is_closing p (closed_one l s) s ≡ false
  one_same l s = closing_asleep (closed_one l s) s (λ t b e. one_asleep l s t e)

  -- every awake track is in a state of its own, and its host's track is in the hosting state
  pub record Placed (l : Ledger) : Type 0 where
    pub low : (t : ℕ) → is_awake (l t).mode ≡ true → t < track_count p
    pub own : (t : ℕ) → is_awake (l t).mode ≡ true → owner p (l t).state ≡ t
    pub up : (t h : ℕ) → is_awake (l t).mode ≡ true → host p t ≡ some h → (is_awake (l (owner p h)).mode ≡ true) × ((l (owner p h)).state ≡ h)

  closing_host : (l : Ledger) → Placed l → (s : ℕ) → is_closing p l s ≡ true → (is_awake (l (owner p s)).mode ≡ true) × ((l (owner p s)).state ≡ s)
  unfolding is_closing
  closing_host l w s c =
      let (o, q) = and_holds (is_open p l s) _ c in
      let (t, b, e, a) = open_find p l s o in w.up t s a e

  -- a single closing leaves the outcome of the one pass as it was
  pub closed_one_lem : (l : Ledger) → Placed l → (s : ℕ) → is_closing p l s ≡ true → (t : ℕ) → closed p (closed_one l s) t ≡ closed p l t
  unfolding closes_scope sleeping is_awake
  closed_one_lem l w s c t =
      elim (look (is_in p s t)) [
        | inl i ↦
            let e = in_host p s t i in
            let a = one_asleep l s t e in
            closed_kept (closed_one l s) t (closed_host (closed_one l s) t s e ∙ one_same l s) (asleep_shut a) ∙ a ∙ sym (closed_asleep l t (closed_host l t s e ∙ c))
        | inr i ↦ out (λ e. clash (host_in p s t e) i)
      ]
    where
      asleep_shut : closed_one l s t ≡ sleeping → closes_scope p (closed_one l s) t ≡ false
      asleep_shut a = ap (λ (x : Configuration). is_awake x.mode && is_closing p (closed_one l s) x.state) a

      same_closed : (host p t ≡ some s → ⊥) → is_closed p (closed_one l s) t ≡ is_closed p l t
      same_closed n =
          elim (look_option (host p t)) [
            | inl e ↦ closed_root (closed_one l s) t e ∙ sym (closed_root l t e)
            | inr e ↦
                closed_host (closed_one l s) t e.0 e.1 ∙ one_other l s e.0 (λ f. n (e.1 ∙ ap some f)) ∙ sym (closed_host l t e.0 e.1)
          ]

      host_here : (host p t ≡ some s → ⊥) → is_closed p l t ≡ false → t ≡ owner p s → closed p (closed_one l s) t ≡ closed p l t
      host_here n d e =
          let k = closing_host l w s c in
          let st : (l t).state ≡ s = ap (λ u. (l u).state) e ∙ k.1 in
          let aw : is_awake (l t).mode ≡ true = ap (λ u. is_awake (l u).mode) e ∙ k.0 in
          let r = one_replaced l s t n e in
          let q = one_alike l s t n in
          let shut : closes_scope p (closed_one l s) t ≡ false =
          refuted _
          (λ z.
          clash (and_holds (is_awake (closed_one l s t).mode) _ z).1
          (ap (is_closing p (closed_one l s)) (q.1 ∙ st) ∙ one_same l s)) in
          let due : closes_scope p l t ≡ true = rw (aw, st) c in
          closed_kept (closed_one l s) t (same_closed n ∙ d) shut ∙ r
          ∙ ap (λ x. installed (replacement p x) no_state (l t)) (sym st) ∙ sym (closed_replaced l t d due)

      elsewhere : (host p t ≡ some s → ⊥) → is_closed p l t ≡ false → (t ≡ owner p s → ⊥) → closed p (closed_one l s) t ≡ closed p l t
      elsewhere n d e =
          let r = one_kept l s t n e in
          let away : is_awake (l t).mode ≡ true → (l t).state ≡ s → ⊥ = λ a f. e (sym (w.own t a) ∙ ap (owner p) f) in
          let same : closes_scope p (closed_one l s) t ≡ closes_scope p l t =
          ap (λ (x : Configuration). is_awake x.mode && is_closing p (closed_one l s) x.state) r
          ∙ elim (look (is_awake (l t).mode))
          [ inl a ↦ ap (λ b. is_awake (l t).mode && b) (one_other l s (l t).state (away a)) | inr a ↦ rw a ] in
          elim (look (closes_scope p l t)) [
            | inl o ↦
                closed_replaced (closed_one l s) t (same_closed n ∙ d) (same ∙ o)
                ∙ ap (λ (x : Configuration). installed (replacement p x.state) no_state x) r ∙ sym (closed_replaced l t d o)
            | inr o ↦ closed_kept (closed_one l s) t (same_closed n ∙ d) (same ∙ o) ∙ r ∙ sym (closed_kept l t d o)
          ]

      out : (host p t ≡ some s → ⊥) → closed p (closed_one l s) t ≡ closed p l t
      out n =
          elim (look (is_closed p l t)) [
            | inl d ↦ closed_asleep (closed_one l s) t (same_closed n ∙ d) ∙ sym (closed_asleep l t d)
            | inr d ↦ elim (look (eqb t (owner p s))) [ inl e ↦ host_here n d (eqb-true t (owner p s) e) | inr e ↦ elsewhere n d (eqb-false t (owner p s) e) ]
          ]

  -- a closing keeps the ledger placed: a host in a hosting state is not final, so no track with an open scope goes to sleep
  placed_one : Accepted p → (l : Ledger) → Placed l → (s : ℕ) → is_closing p l s ≡ true → Placed (closed_one l s)
  unfolding sleeping is_awake
  placed_one ok l w s c =
      record {
        low = λ t a. w.low t (was t a).1;
        own = λ t a. ap (owner p) (one_alike l s t (was t a).0).1 ∙ w.own t (was t a).1;
        up = λ t h a e.
            let (n, a') = was t a in
            let (x, y) = w.up t h a' e in
            let m : host p (owner p h) ≡ some s → ⊥ =
            λ f. clash (subst (λ z. is_final p z ≡ true) y (closing_final l s (owner p h) c (ok.hosted (owner p h) s f) f).1) (ok.host_open t h e) in
            let q = one_alike l s (owner p h) m in
            (ap is_awake q.0 ∙ x, q.1 ∙ y);
      }
    where
      was : (t : ℕ) → is_awake (closed_one l s t).mode ≡ true → (host p t ≡ some s → ⊥) × (is_awake (l t).mode ≡ true)
      was t a =
          let n : host p t ≡ some s → ⊥ = λ e. let z : is_awake sleeping.mode ≡ true = subst (λ (x : Configuration). is_awake x.mode ≡ true) (one_asleep l s t e) a in clash z refl in
          (n, ap is_awake (sym (one_alike l s t n).0) ∙ a)

  -- the single closings in any order, until none is due, end in what one pass gives
  pub closings_end : Accepted p → {l m : Ledger} → Closings l m → Placed l → ((s : ℕ) → is_closing p m s ≡ false) → m ≡ closed p l
  closings_end ok (stop {l = l}) w n = sym (closed_steady l n)
  closings_end ok (close {l = l} s c r) w n = closings_end ok r (placed_one ok l w s c) n ∙ fun_ext (closed_one_lem l w s c)
