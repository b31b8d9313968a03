-- Closing keeps a ledger nested: the tracks of a closing scope are in final states, which host nothing, so whole scopes
-- go to sleep with nothing awake below them, and no other mode or state changes. Assumes nothing.
use mathlib.Core.Path.{◌≡◌, refl, sym, ap, ◌∙◌, subst}
use mathlib.Core.Logic.{inl, inr}
use mathlib.Core.Bool.{true, false, ◌&&◌}
use mathlib.Core.Option.{some}
use Prim.Native.Nat.{ℕ}
use Rattle.rules.specs.Plan.{Plan, no_state, replacement, host, owner, is_state_of, is_final, is_above, every_in}
use Rattle.rules.specs.Ledger.{Ledger, is_awake, is_forward, is_undoing}
use Rattle.rules.specs.Scope.{is_open, has_open_scope}
use Rattle.rules.specs.Event.{is_closing, is_closed, closes_scope}
use Rattle.rules.proofs.Tests.{look, look_option, clash, refuted, and_holds, and_both, strong}
use Rattle.rules.proofs.Modes.{forward_awake, undoing_forward}
use Rattle.rules.proofs.Acceptance.{Accepted}
use Rattle.rules.proofs.Forest.{above_hosted}
use Rattle.rules.proofs.Scopes.{in_host, every_in_of, open_find, busy_find}
use Rattle.rules.proofs.Closing.{Alike, closing_alike, closing_asleep, closing_final, closed_host, closed_root}
use Rattle.rules.proofs.Abandoning.{undoing_awake}
use Rattle.theory.specs.Seams.{Seams}
use Rattle.theory.proofs.Nesting.{Awake, Sleeps, Nested, state_of, host_awake, host_busy, open_host}
use Rattle.theory.proofs.SoundParts.{sleeping_asleep}
use Rattle.theory.proofs.Laws.{Laws}
use Rattle.theory.proofs.Installing.{installed_mode, installed_state}

module _ (p : Plan) (l : Ledger) where
  -- closing is due: the scope is open, and each of its tracks is forward in a final state
  pub closing_open : (s : ℕ) → is_closing p l s ≡ true → is_open p l s ≡ true
  unfolding is_closing
  closing_open s c = (and_holds (is_open p l s) (every_in p s (λ t. is_forward (l t).mode && is_final p (l t).state)) c).0

  pub closing_of : (s : ℕ) → is_open p l s ≡ true
      → ((t : ℕ) → host p t ≡ some s → (is_forward (l t).mode ≡ true) × (is_final p (l t).state ≡ true))
      → is_closing p l s ≡ true
  unfolding is_closing
  closing_of s o f =
      and_both (is_open p l s) (every_in p s (λ t. is_forward (l t).mode && is_final p (l t).state)) o
      (every_in_of p s (λ t. is_forward (l t).mode && is_final p (l t).state)
      (λ t b i.
      let (x, y) = f t (in_host p s t i) in
      and_both (is_forward (l t).mode) (is_final p (l t).state) x y))

  pub closed_in : (t : ℕ) → is_closed p l t ≡ true → (h : ℕ) × (host p t ≡ some h) × (is_closing p l h ≡ true)
  closed_in t c =
      elim (look_option (host p t)) [
        | inl e ↦ clash c (closed_root p l t e)
        | inr e ↦ (e.0, e.1, sym (closed_host p l t e.0 e.1) ∙ c)
      ]

  pub closes_known : (t : ℕ) → closes_scope p l t ≡ true → Awake l t × (is_closing p l (l t).state ≡ true)
  unfolding closes_scope
  closes_known t c = and_holds (is_awake (l t).mode) (is_closing p l (l t).state) c

  pub closes_of : (t : ℕ) → Awake l t → is_closing p l (l t).state ≡ true → closes_scope p l t ≡ true
  unfolding closes_scope
  closes_of t a c = and_both (is_awake (l t).mode) (is_closing p l (l t).state) a c

module _ {σ : Seams} (ω : Laws σ) (p : Plan) (l : Ledger) (e : σ.Event) where
  open σ use {entry, closed}

  -- what is not put to sleep keeps its mode and state
  pub closed_alike : (t : ℕ) → is_closed p l t ≡ false → Alike (closed p l e t) (l t)
  closed_alike t c =
      elim (look (closes_scope p l t)) [
        | inl o ↦
            subst (λ x. Alike x (l t)) (sym (ω.closed_replaced p l e t c o))
            (installed_mode (entry e) (replacement p (l t).state) no_state (l t), installed_state (entry e) (replacement p (l t).state) no_state (l t))
        | inr o ↦ subst (λ x. Alike x (l t)) (sym (ω.closed_kept p l e t c o)) (refl, refl)
      ]

  pub closed_awake : (t : ℕ) → Awake (closed p l e) t → (is_closed p l t ≡ false) × Awake l t
  closed_awake t a =
      elim (look (is_closed p l t)) [
        | inl c ↦ clash a (ap (λ k. is_awake k.mode) (ω.closed_asleep p l e t c) ∙ sleeping_asleep)
        | inr c ↦ (c, ap is_awake (sym (closed_alike t c).0) ∙ a)
      ]

  -- one pass does all: no closing is due afterwards
  pub closed_done : (s : ℕ) → is_closing p (closed p l e) s ≡ false
  closed_done s =
      elim (look (is_closing p l s)) [
        | inl c ↦ closing_asleep p (closed p l e) s (λ t b h. ω.closed_asleep p l e t (closed_host p l t s h ∙ c))
        | inr c ↦ closing_alike p (closed p l e) l s (λ t b h. closed_alike t (closed_host p l t s h ∙ c)) ∙ c
      ]

module _ (p : Plan) (ok : Accepted p) (l : Ledger) (n : Nested p l) where
  -- a track in a final state has no open scope
  pub final_free : (t : ℕ) → is_final p (l t).state ≡ true → has_open_scope p l t ≡ false
  final_free t f =
      elim (look (has_open_scope p l t)) [
        | inr b ↦ b
        | inl b ↦
            let (u, h, x, e, o, a) = busy_find p l t b in
            let q : (l t).state ≡ h = ap (λ y. (l y).state) (sym o) ∙ (n.hosted u h a e).0 in
            clash f (ap (is_final p) q ∙ ok.host_open u h e)
      ]

  pub closed_free : (t : ℕ) → is_closed p l t ≡ true → has_open_scope p l t ≡ false
  closed_free t c = let (h, e, d) = closed_in p l t c in final_free t (closing_final p l h t d (ok.hosted t h e) e).1

  pub closed_was_awake : (t : ℕ) → is_closed p l t ≡ true → Awake l t
  closed_was_awake t c = let (h, e, d) = closed_in p l t c in forward_awake (l t).mode (closing_final p l h t d (ok.hosted t h e) e).0

  -- the track of a closing scope's host closes it, and is not closed itself
  pub closed_closes : (t h : ℕ) → is_closed p l t ≡ true → host p t ≡ some h → closes_scope p l (owner p h) ≡ true
  closed_closes t h c e =
      let d = sym (closed_host p l t h e) ∙ c in
      let (a, b, q) = open_host p ok l n h (closing_open p l h d) in
      closes_of p l (owner p h) a (subst (λ s. is_closing p l s ≡ true) (sym q) d)

  pub closing_busy : (t : ℕ) → closes_scope p l t ≡ true → has_open_scope p l t ≡ true
  closing_busy t d =
      let (a, c) = closes_known p l t d in
      let (u, b, e, w) = open_find p l (l t).state (closing_open p l (l t).state c) in
      let own : owner p (l t).state ≡ t = (state_of p t (l t).state (n.own t a)).1 in
      subst (λ x. has_open_scope p l x ≡ true) own (host_busy p ok l n u (l t).state w e)

  pub closing_open_track : (t : ℕ) → closes_scope p l t ≡ true → is_closed p l t ≡ false
  closing_open_track t d = refuted (is_closed p l t) (λ c. clash (closing_busy t d) (closed_free t c))

  -- all that is awake below a track whose scope closes is in that scope
  pub closing_direct : (t : ℕ) → closes_scope p l t ≡ true → (k : ℕ) → is_above p t k ≡ true → Awake l k → is_closed p l k ≡ true
  closing_direct t d =
      strong (λ k. is_above p t k ≡ true → Awake l k → is_closed p l k ≡ true)
      (λ k ih i a.
      let (h, e, r) = above_hosted p ok t k i in
      elim r [
        | inl q ↦
            let st : (l t).state ≡ h = ap (λ y. (l y).state) q ∙ (n.hosted k h a e).0 in
            closed_host p l k h e ∙ subst (λ s. is_closing p l s ≡ true) st (closes_known p l t d).1
        | inr q ↦
            clash (host_busy p ok l n k h a e) (closed_free (owner p h) (ih (owner p h) (ok.lower k h e) q (host_awake p ok l n k h a e)))
      ])

  -- an awake track's host's track does not go to sleep
  pub closed_host_stays : (t h : ℕ) → Awake l t → host p t ≡ some h → is_closed p l (owner p h) ≡ false
  closed_host_stays t h a e = refuted (is_closed p l (owner p h)) (λ c. clash (host_busy p ok l n t h a e) (closed_free (owner p h) c))

  -- the tracks of a scope close together
  pub closed_together : (t u h : ℕ) → host p t ≡ some h → host p u ≡ some h → is_closed p l t ≡ is_closed p l u
  closed_together t u h e f = closed_host p l t h e ∙ sym (closed_host p l u h f)

module _ {σ : Seams} (ω : Laws σ) (p : Plan) (ok : Accepted p) (l : Ledger) (n : Nested p l) (x : σ.Event) where
  open σ use {closed}

  asleep_after : (t : ℕ) → is_closed p l t ≡ true → Sleeps (closed p l x) t
  asleep_after t c = ap (λ k. is_awake k.mode) (ω.closed_asleep p l x t c) ∙ sleeping_asleep

  awake_after : (t : ℕ) → is_closed p l t ≡ false → is_awake (closed p l x t).mode ≡ is_awake (l t).mode
  awake_after t c = ap is_awake (closed_alike ω p l x t c).0

  pub closed_nested : Nested p (closed p l x)
  closed_nested =
      record {
        below = λ t a. n.below t (closed_awake ω p l x t a).1;
        own =
            λ t a.
            let (c, b) = closed_awake ω p l x t a in
            ap (is_state_of p t) (closed_alike ω p l x t c).1 ∙ n.own t b;
        hosted =
            λ t h a e.
            let (c, b) = closed_awake ω p l x t a in
            let u = n.hosted t h b e in
            let q = closed_alike ω p l x (owner p h) (closed_host_stays p ok l n t h b e) in
            (q.1 ∙ u.0, q.0 ∙ u.1 ∙ sym (closed_alike ω p l x t c).0);
        whole =
            λ t u h e f.
            elim (look (is_closed p l t)) [
              | inl c ↦ asleep_after t c ∙ sym (asleep_after u (sym (closed_together p ok l n t u h e f) ∙ c))
              | inr c ↦ awake_after t c ∙ n.whole t u h e f ∙ sym (awake_after u (sym (closed_together p ok l n t u h e f) ∙ c))
            ];
        blank =
            λ t a.
            elim (look (is_closed p l t)) [
              | inl c ↦ ω.closed_asleep p l x t c
              | inr c ↦
                  let b = sym (awake_after t c) ∙ a in
                  elim (look (closes_scope p l t)) [
                    | inl d ↦ clash (closes_known p l t d).0 b
                    | inr d ↦ ω.closed_kept p l x t c d ∙ n.blank t b
                  ]
            ];
      }

  -- what is undoing stays as it is
  pub closed_undoing : (t : ℕ) → is_undoing (l t).mode ≡ true → closed p l x t ≡ l t
  closed_undoing t u =
      ω.closed_kept p l x t
      (refuted (is_closed p l t)
      (λ c. let (h, e, d) = closed_in p l t c in clash (closing_final p l h t d (ok.hosted t h e) e).0 (undoing_forward (l t).mode u)))
      (refuted (closes_scope p l t)
      (λ d.
      let (a, c) = closes_known p l t d in
      let (v, b, e, w) = open_find p l (l t).state (closing_open p l (l t).state c) in
      let own : owner p (l t).state ≡ t = (state_of p t (l t).state (n.own t a)).1 in
      let m : (l t).mode ≡ (l v).mode = ap (λ y. (l y).mode) (sym own) ∙ (n.hosted v (l t).state w e).1 in
      clash (ap is_forward m ∙ (closing_final p l (l t).state v c b e).0) (undoing_forward (l t).mode u)))

  pub closed_undoing_back : (t : ℕ) → is_undoing (closed p l x t).mode ≡ true → closed p l x t ≡ l t
  closed_undoing_back t u =
      let (c, a) = closed_awake ω p l x t (undoing_awake (closed p l x t).mode u) in
      closed_undoing t (ap is_undoing (sym (closed_alike ω p l x t c).0) ∙ u)
