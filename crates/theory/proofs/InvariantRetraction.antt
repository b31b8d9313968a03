-- A signal, abandoning and a firing keep the invariant: what is abandoned holds nothing and so has no word; and the track that is fired has
-- no open scope, so its newest block may be done last, where the code undoes it. Assumes nothing.
use mathlib.Core.Path.{◌≡◌, refl, sym, ap, ◌∙◌, subst, fun_ext}
use mathlib.Core.Logic.{inl, inr}
use mathlib.Core.Bool.{true, false, cond}
use mathlib.Core.List.{List, [], ◌∷◌, ◌++◌, append-nil}
use Prim.Native.Nat.{ℕ, ◌<◌}
use native.Mathlib.Omega.{arith}
use lib.Dec.{eqb}
use borrow.Author.Tests.{eqb-true, eq-eqb, ne_eqb}
use Rattle.rules.specs.Plan.{Plan, track_count, host, owner, is_inside}
use Rattle.rules.specs.Ledger.{Entry, Configuration, Ledger, is_forward, is_empty}
use Rattle.rules.specs.Scope.{is_open, has_open_scope}
use Rattle.rules.specs.Opening.{enter}
use Rattle.rules.specs.Signal.{is_abandoned, abandoned}
use Rattle.rules.specs.Fire.{newest, older, may_fire, removed, deviates_to, fired}
use Rattle.rules.proofs.Tests.{look, look_option, clash}
use Rattle.rules.proofs.Modes.{undoing_forward}
use Rattle.rules.proofs.Acceptance.{Accepted}
use Rattle.rules.proofs.Scopes.{open_at, open_find}
use Rattle.rules.proofs.Abandoning.{spent_parts, abandoned_root, abandoned_spent, left_asleep, left_kept}
use Rattle.rules.proofs.Ready.{may_fire_lem}
use Rattle.theory.specs.Seams.{Seams, turned}
use Rattle.theory.specs.Runs.{act, Books}
use Rattle.theory.proofs.Composition.{when, join, All, Swap, nil_swap, join_same, join_single, put_behind}
use Rattle.theory.proofs.Nesting.{Awake, Nested, open_same, mode_inside}
use Rattle.theory.proofs.FiringNested.{fired_is, removed_mode, removed_awake, removed_here, removed_other, removed_nested, deviates_free}
use Rattle.theory.proofs.SoundParts.{Sound, sleeping_held}
use Rattle.theory.proofs.Entries.{empty_nil}
use Rattle.theory.proofs.Laws.{Laws}
use Rattle.theory.proofs.Turning.{turned_awake, turned_held, scope_untouched}
use Rattle.theory.proofs.SignalNested.{left_awake, left_host_stays}
use Rattle.theory.proofs.SoundRetraction.{fired_awake}
use Rattle.theory.proofs.Invariant.{Undoes, Below, Held, inner, Blocks, swap_free, enter_blocks}
use Rattle.rules.specs.declared.Terms.{Terms}

module _ {σ : Seams} (ω : Laws σ) (terms : Terms) (p : Plan) (ok : Accepted p) (k : Books σ p terms) (l : Ledger) (n : Nested p l)
    (W R : ℕ → List σ.Change) (g : Blocks terms p ok k l W R) where
  pub turned_blocks : (a : σ.Signal) → Blocks terms p ok k (turned σ p l a) W R
  turned_blocks a =
      record {
        held = λ t. rw (turned_held ω p l a t) (g.held t);
        runs = λ s o f. g.runs s (sym (open_same p (turned σ p l a) l (turned_awake ω p l a) s) ∙ o) (scope_untouched ω p l a ok s f).0;
      }

  -- an abandoned track held nothing
  abandoned_nil : (t : ℕ) → is_abandoned p l t ≡ true → W t ≡ []
  abandoned_nil t c =
      elim (look_option (host p t)) [
        | inl e ↦ clash c (abandoned_root p ok l t e)
        | inr e ↦
            let s = spent_parts p ok l t (ok.hosted t e.0 e.1) (abandoned_spent p ok l t c) in
            subst (λ es. Held terms p ok k t es (W t)) (empty_nil (l t).held s.empty) (g.held t)
      ]

  pub abandoned_blocks : Blocks terms p ok k (abandoned p l) W R
  abandoned_blocks =
      record {
        held =
            λ t.
            elim (look (is_abandoned p l t)) [
              | inl c ↦
                  subst (λ es. Held terms p ok k t es (W t)) (sym (ap (λ (x : Configuration). x.held) (left_asleep p ok l t c) ∙ sleeping_held))
                  (abandoned_nil t c)
              | inr c ↦ subst (λ (x : Configuration). Held terms p ok k t x.held (W t)) (sym (left_kept p ok l t c)) (g.held t)
            ];
        runs =
            λ s o f.
            let (u, b, e, a) = open_find p (abandoned p l) s o in
            let (c, w) = left_awake p ok l n u a in
            let q = left_kept p ok l (owner p s) (left_host_stays p ok l n u s w e c) in
            g.runs s (open_at p l s u b e w) (ap (λ (x : Configuration). is_forward x.mode) (sym q) ∙ f);
      }

module _ {σ : Seams} (ω : Laws σ) (terms : Terms) (p : Plan) (ok : Accepted p) (k : Books σ p terms) (l : Ledger) (s : Sound σ terms p l)
    (W R : ℕ → List σ.Change) (g : Blocks terms p ok k l W R) (t : ℕ) (may : may_fire p l t ≡ true) where
  open σ use {Change, retraction}

  abbrev N : ℕ
  N = track_count p

  abbrev n : Nested p l
  n = s.formed.nested

  free : has_open_scope p l t ≡ false
  free = (may_fire_lem p l t may).3

  awake : Awake l t
  awake = fired_awake ω terms p ok l s t may

  -- the word without the newest block, and that block
  pub record Split : Type 0 where
    pub old : List Change
    pub new : List Change
    pub held : Held terms p ok k t (older (l t).held) old
    pub below : All (Below terms p ok k t) new
    pub undone : Undoes terms p ok k (retraction (newest (l t).held)) new
    pub whole : W t ≡ old ++ new

  pub split : Split
  unfolding is_empty older newest
  split = go (l t).held refl (may_fire_lem p l t may).2 (g.held t)
    where
      go : (es : List Entry) → (l t).held ≡ es → is_empty es ≡ false → Held terms p ok k t es (W t) → Split
      go [] q e h = clash refl e
      go (x ∷ es) q e h =
          let (old, new, i, a, u, w) = h in
          record {
            old = old;
            new = new;
            held = rw q i;
            below = a;
            undone = rw q u;
            whole = w;
          }

  abbrev pub shorter : ℕ → List Change
  shorter u = cond (eqb u t) split.old (W u)

  abbrev last : ℕ → List Change
  last u = when (eqb u t) split.new

  parts : (u : ℕ) → W u ≡ shorter u ++ last u
  parts u =
      elim (look (eqb u t)) [
        | inl e ↦ rw e (ap W (eqb-true u t e) ∙ split.whole)
        | inr e ↦ rw (e, append-nil (W u))
      ]

  last_swaps : (u v : ℕ) → u < v → v < N → Swap k.changed (last u) (shorter v)
  last_swaps u v b c =
      elim (look (eqb u t)) [
        | inr e ↦ rw e (nil_swap k.changed (shorter v))
        | inl e ↦
            let q = eqb-true u t e in
            rw (e, ne_eqb v t (λ f. omega arith)) (swap_free terms p ok k l n W R g t v split.new free (omega arith) split.below)
      ]

  -- the retraction takes the newest block off the whole word
  pub fired_books : (b : k.State) → k.retracted (retraction (newest (l t).held)) (act k.changed (join N W) b) ≡ act k.changed (join N shorter) b
  fired_books b =
      ap (k.retracted (retraction (newest (l t).held)))
      (ap (λ w. act k.changed w b) (join_same N W (λ u. shorter u ++ last u) (λ u c. parts u))
      ∙ put_behind k.changed N shorter last last_swaps b
      ∙ ap (λ w. act k.changed w (act k.changed (join N shorter) b)) only)
      ∙ split.undone (act k.changed (join N shorter) b)
    where
      only : join N last ≡ split.new
      only =
          join_single N t last (n.below t awake) (λ u c d. rw (ne_eqb u t d))
          ∙ (rw (eq-eqb t t refl))

  removed_blocks : Blocks terms p ok k (removed l t) shorter R
  removed_blocks =
      record {
        held =
            λ u.
            elim (look (eqb u t)) [
              | inl e ↦
                  let q = eqb-true u t e in
                  rw (removed_here p l t u e, e) (subst (λ x. Held terms p ok k x (older (l x).held) split.old) (sym q) split.held)
              | inr e ↦ rw (removed_other p l t u e, e) (g.held u)
            ];
        runs =
            λ z o f.
            let o' = sym (open_same p (removed l t) l (removed_awake p l t) z) ∙ o in
            let f' = ap is_forward (sym (removed_mode p l t (owner p z))) ∙ f in
            let (a, q) = g.runs z o' f' in
            (a, λ b. q b ∙ ap (λ w. act k.changed w b) (inner_same z f'));
      }
    where
      -- the fired track is undoing, so it is inside no forward scope
      inner_same : (z : ℕ) → is_forward (l (owner p z)).mode ≡ true → inner terms p ok k W z ≡ inner terms p ok k shorter z
      inner_same z f =
          join_same N (λ u. when (is_inside p z u) (W u)) (λ u. when (is_inside p z u) (shorter u))
          (λ u c.
          elim (look (eqb u t)) [
            | inr e ↦ rw e
            | inl e ↦
                elim (look (is_inside p z u)) [
                  | inr i ↦ rw i
                  | inl i ↦
                      let i' = subst (λ x. is_inside p z x ≡ true) (eqb-true u t e) i in
                      clash f (ap is_forward (mode_inside p ok l n z t i' awake) ∙ undoing_forward (l t).mode (may_fire_lem p l t may).1)
                ]
          ])

  pub fired_blocks : Blocks terms p ok k (fired p l t) shorter (λ z. when (is_open p l z) (R z))
  fired_blocks =
      subst (λ m. Blocks terms p ok k m shorter (λ z. when (is_open p l z) (R z))) (sym (fired_is p l t))
      (subst (λ r. Blocks terms p ok k (enter p (deviates_to l t) (removed l t)) shorter r)
      (fun_ext (λ z. ap (λ b. when b (R z)) (open_same p (removed l t) l (removed_awake p l t) z)))
      (enter_blocks terms p ok k (removed l t) (removed_nested p l t ok n (s.formed.good t) free awake) shorter R removed_blocks
      (deviates_to l t) (deviates_free p l t ok n (s.formed.good t) free awake)))
