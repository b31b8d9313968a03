-- Closing keeps the invariant, all scopes in one pass. A closing scope's words give way to its run as one block on the host. The words of
-- closing tracks commute with one another and with every higher word, so they may be done last and gathered scope by scope; each group
-- comes to the same as the scope's run; and the runs may stand behind the hosts' words again. Assumes nothing.
use mathlib.Core.Path.{◌≡◌, refl, sym, ap, ◌∙◌, subst}
use mathlib.Core.Logic.{◌⊎◌, inl, inr}
use mathlib.Core.Bool.{Bool, true, false, not}
use mathlib.Core.List.{List, [], ◌++◌, append-nil}
use mathlib.Core.Option.{none, some}
use Prim.Native.Nat.{ℕ, ◌<◌}
use native.Mathlib.Omega.{arith}
use lib.Dec.{eqb}
use borrow.Author.Tests.{eqb-true, eq-eqb, ne_eqb}
use Rattle.rules.specs.Plan.{Plan, track_count, no_state, host, owner, replacement, is_inside, is_above}
use Rattle.rules.specs.Ledger.{Configuration, Ledger, is_awake, is_forward}
use Rattle.rules.specs.Event.{is_closing, is_closed, closes_scope}
use Rattle.rules.proofs.Tests.{look, clash, refuted}
use Rattle.rules.proofs.Acceptance.{Accepted}
use Rattle.rules.proofs.Forest.{inside_host, inside_above, above_up}
use Rattle.rules.proofs.Scopes.{open_at, open_find}
use Rattle.rules.proofs.Closing.{closing_final, closed_host}
use Rattle.theory.specs.Seams.{Seams}
use Rattle.theory.specs.Runs.{act, replacement_of, Books}
use Rattle.theory.proofs.Composition.{when, join, All, all_when, Same, Swap, when_nil, join_same, join_nil, swap_when, swap_nil, nil_swap, same_join, put_behind_of, gather}
use Rattle.theory.proofs.Nesting.{Nested, state_of, open_host}
use Rattle.theory.proofs.SoundParts.{sleeping_held}
use Rattle.theory.proofs.Laws.{Laws}
use Rattle.theory.proofs.Installing.{installed_held}
use Rattle.theory.proofs.ClosingNested.{closing_open, closed_in, closes_known, closed_alike, closed_awake, closed_free, closed_was_awake, closed_closes, closing_open_track, closing_direct, closed_host_stays}
use Rattle.theory.proofs.Invariant.{Undoes, Below, Held, inner, Blocks, quiet, word_below, swap_below, swap_free}
use Rattle.theory.proofs.InvariantMoving.{keep, keep_all, keep_same, held_install}
use Rattle.rules.specs.declared.Terms.{Terms}

-- the track that hosts a track; a root counts as its own
unfoldable pub host_or_self : Plan → ℕ → ℕ
host_or_self p t = elim (host p t) [ none ↦ t | some h ↦ owner p h ]

host_or_self_lem : (p : Plan) (t h : ℕ) → host p t ≡ some h → host_or_self p t ≡ owner p h
unfolding host_or_self
host_or_self_lem p t h e = rw (e, host_or_self)

module _ {σ : Seams} (ω : Laws σ) (terms : Terms) (p : Plan) (ok : Accepted p) (k : Books σ p terms) (l : Ledger) (n : Nested p l)
    (W R : ℕ → List σ.Change) (g : Blocks terms p ok k l W R) (v : σ.Event)
    (und : (s : ℕ) → is_closing p l s ≡ true → Undoes terms p ok k (replacement_of σ p v s) (R s)) where
  open σ use {Change, entry, closed}

  abbrev N : ℕ
  N = track_count p

  abbrev B : ℕ → Change → Type 0
  B = Below terms p ok k

  -- what stays of a track's word, what goes, and the block that its closing scope leaves it
  abbrev rest : ℕ → List Change
  rest t = when (not (is_closed p l t)) (W t)

  abbrev gone : ℕ → List Change
  gone t = when (is_closed p l t) (W t)

  abbrev left : ℕ → List Change
  left t = when (closes_scope p l t) (keep (replacement p (l t).state) (R (l t).state))

  abbrev pub settled : ℕ → List Change
  settled t = rest t ++ left t

  parts : (t : ℕ) → W t ≡ rest t ++ gone t
  parts t = elim (look (is_closed p l t)) [ inl c ↦ rw c | inr c ↦ rw (c, append-nil (W t)) ]

  -- a closing scope's run, on its host's track
  closing_run : (t : ℕ) → closes_scope p l t ≡ true
      → (owner p (l t).state ≡ t) × All (B t) (R (l t).state) × Same k.changed (R (l t).state) (inner terms p ok k W (l t).state)
  closing_run t d =
      let (a, c) = closes_known p l t d in
      let s = (l t).state in
      let own : owner p s ≡ t = (state_of p t s (n.own t a)).1 in
      let (u, b, e, w) = open_find p l s (closing_open p l s c) in
      let m = (n.hosted u s w e).1 in
      let f : is_forward (l (owner p s)).mode ≡ true = ap is_forward m ∙ (closing_final p l s u c b e).0 in
      let (x, y) = g.runs s (closing_open p l s c) f in
      (own, subst (λ v. All (B v) (R s)) own x, y)

  left_below : (t : ℕ) → All (B t) (left t)
  left_below t =
      all_when (closes_scope p l t)
      (λ d. keep_all (replacement p (l t).state) (closing_run t d).1)

  left_same : (t : ℕ) → closes_scope p l t ≡ true → Same k.changed (left t) (inner terms p ok k W (l t).state)
  left_same t d =
      rw d
      (λ b.
      keep_same terms p ok k v (replacement p (l t).state) no_state (R (l t).state) (und (l t).state (closes_known p l t d).1) b
      ∙ (closing_run t d).2 b)

  -- below a track whose scope closes, only what closes with it has a word
  below_nil : (t u : ℕ) → closes_scope p l t ≡ true → is_above p t u ≡ true → is_closed p l u ≡ false → W u ≡ []
  below_nil t u d i c =
      quiet terms p ok k l n W R g u
      (refuted (is_awake (l u).mode) (λ a. clash (closing_direct p ok l n t d u i a) c))

  -- the words of closing tracks commute with all higher words
  swap_gone : (t u : ℕ) → t < u → is_closed p l t ≡ true → Swap k.changed (W t) (W u)
  swap_gone t u b c = swap_free terms p ok k l n W R g t u (W t) (closed_free p ok l n t c) b (word_below terms p ok k l n W R g t)

  gone_rest : (t u : ℕ) → t < u → u < N → Swap k.changed (gone t) (rest u)
  gone_rest t u b j = swap_when k.changed (is_closed p l t) (not (is_closed p l u)) (W t) (W u) (λ c d. swap_gone t u b c)

  left_rest : (t u : ℕ) → t < u → u < N → Swap k.changed (left t) (rest u)
  left_rest t u b j =
      elim (look (closes_scope p l t)) [
        | inr d ↦ rw d (nil_swap k.changed (rest u))
        | inl d ↦
            elim (look (is_closed p l u)) [
              | inl c ↦ rw c (swap_nil k.changed (left t))
              | inr c ↦
                  elim (look (is_above p t u)) [
                    | inl i ↦ rw (below_nil t u d i c, when_nil (not (is_closed p l u))) (swap_nil k.changed (left t))
                    | inr i ↦
                        rw c (swap_below terms p ok k t u (left t) (W u) b i (left_below t) (word_below terms p ok k l n W R g u))
                  ]
            ]
      ]

  -- a test on tracks that does not tell a closing track from its host's
  module _ (S : ℕ → Bool) (agree : (u h : ℕ) → is_closed p l u ≡ true → host p u ≡ some h → S u ≡ S (owner p h)) where
    abbrev going : ℕ → List Change
    going u = when (S u) (gone u)

    abbrev group : ℕ → List Change
    group t = join N (λ u. when (eqb (host_or_self p u) t) (going u))

    stays_nil : (u : ℕ) → is_closed p l u ≡ false → going u ≡ []
    stays_nil u c = rw (c, when_nil (S u))

    swap_going : (t u : ℕ) → t < u → u < N → Swap k.changed (going t) (going u)
    swap_going t u b j =
        swap_when k.changed (S t) (S u) (gone t) (gone u)
        (λ x y. swap_when k.changed (is_closed p l t) (is_closed p l u) (W t) (W u) (λ c d. swap_gone t u b c))

    -- the group of a track that passes, whose scope closes: the words inside that scope
    inner_group : (t : ℕ) → closes_scope p l t ≡ true → S t ≡ true → inner terms p ok k W (l t).state ≡ group t
    inner_group t d f =
        let s = (l t).state in
        let own = (closing_run t d).0 in
        let apart : (u : ℕ) → is_inside p s u ≡ true → is_above p t u ≡ true = λ u i. subst (λ x. is_above p x u ≡ true) own (inside_above p ok s u i) in
        join_same N (λ u. when (is_inside p s u) (W u)) (λ u. when (eqb (host_or_self p u) t) (going u))
        (λ u b.
        elim (look (is_closed p l u)) [
          | inr c ↦
              rw (stays_nil u c, when_nil (eqb (host_or_self p u) t))
              (elim (look (is_inside p s u)) [
                | inr i ↦ rw i
                | inl i ↦ rw (below_nil t u d (apart u i) c, when_nil (is_inside p s u))
              ])
          | inl c ↦
              let (h, e, q) = closed_in p l u c in
              let o = open_host p ok l n h (closing_open p l h q) in
              let a = closed_was_awake p ok l n u c in
              elim (look (eqb (owner p h) t)) [
                | inl z ↦
                    let w = eqb-true (owner p h) t z in
                    let st : h ≡ s = sym o.2 ∙ ap (λ x. (l x).state) w in
                    let i : is_inside p s u ≡ true = inside_host p ok s u h e ∙ (rw (eq-eqb h s st)) in
                    let v : S u ≡ true = agree u h c e ∙ ap S w ∙ f in
                    rw (i, host_or_self_lem p u h e, z, v, c)
                | inr z ↦
                    let i : is_inside p s u ≡ false =
                    refuted (is_inside p s u)
                    (λ i.
                    elim (above_up p ok t u h e (apart u i)) [
                      | inl w ↦ clash (eq-eqb (owner p h) t (sym w)) z
                      | inr w ↦ clash (closing_direct p ok l n t d (owner p h) w o.0) (closed_host_stays p ok l n u h a e)
                    ]) in
                    rw (i, host_or_self_lem p u h e, z)
              ]
        ])

    -- where no scope closes, or the track does not pass, there is no group
    group_nil : (t : ℕ) → (closes_scope p l t ≡ false) ⊎ (S t ≡ false) → group t ≡ []
    group_nil t r =
        join_nil N (λ u. when (eqb (host_or_self p u) t) (going u))
        (λ u b.
        elim (look (is_closed p l u)) [
          | inr c ↦ rw (stays_nil u c, when_nil (eqb (host_or_self p u) t))
          | inl c ↦
              let (h, e, q) = closed_in p l u c in
              elim (look (eqb (owner p h) t)) [
                | inr z ↦ rw (host_or_self_lem p u h e, z)
                | inl z ↦
                    let w = eqb-true (owner p h) t z in
                    elim r [
                      | inl d ↦ clash (subst (λ x. closes_scope p l x ≡ true) w (closed_closes p ok l n u h c e)) d
                      | inr f ↦ rw (agree u h c e ∙ ap S w ∙ f, when_nil (eqb (host_or_self p u) t))
                    ]
              ]
        ])

    left_group : (t : ℕ) → t < N → Same k.changed (when (S t) (left t)) (group t)
    left_group t b =
        elim (look (closes_scope p l t)) [
          | inr d ↦ rw (d, when_nil (S t), group_nil t (inl d)) (λ x. refl)
          | inl d ↦
              elim (look (S t)) [
                | inr f ↦ rw (f, group_nil t (inr f)) (λ x. refl)
                | inl f ↦
                    λ x.
                    ap (λ w. act k.changed w x) (ap (λ c. when c (left t)) f)
                    ∙ left_same t d x ∙ ap (λ w. act k.changed w x) (inner_group t d f)
              ]
        ]

    -- after the closings the words come to the same
    pub closed_same : Same k.changed (join N (λ t. when (S t) (settled t))) (join N (λ t. when (S t) (W t)))
    closed_same b =
        let b' = act k.changed (join N (λ t. when (S t) (rest t))) b in
        put_behind_of k.changed S N rest left left_rest b
        ∙ same_join k.changed N (λ t. when (S t) (left t)) group left_group b'
        ∙ gather k.changed N (host_or_self p) going swap_going within b'
        ∙ sym (put_behind_of k.changed S N rest gone gone_rest b)
        ∙ ap (λ w. act k.changed w b)
        (join_same N (λ t. when (S t) (rest t ++ gone t)) (λ t. when (S t) (W t)) (λ t i. ap (when (S t)) (sym (parts t))))
      where
        within : (u : ℕ) → u < N → (host_or_self p u < N) ⊎ (going u ≡ [])
        within u b =
            elim (look (is_closed p l u)) [
              | inr c ↦ inr (stays_nil u c)
              | inl c ↦
                  let (h, e, q) = closed_in p l u c in
                  let w = ok.lower u h e in
                  inl (rw (host_or_self_lem p u h e) (omega arith))
            ]

  not_closing : (t : ℕ) → is_closed p l t ≡ true → closes_scope p l t ≡ false
  not_closing t c = refuted (closes_scope p l t) (λ d. clash c (closing_open_track p ok l n t d))

  closed_held : (t : ℕ) → Held terms p ok k t (closed p l v t).held (settled t)
  closed_held t =
      elim (look (is_closed p l t)) [
        | inl c ↦
            subst (λ es. Held terms p ok k t es (settled t)) (sym (ap (λ (x : Configuration). x.held) (ω.closed_asleep p l v t c) ∙ sleeping_held))
            (rw (c, not_closing t c))
        | inr c ↦
            elim (look (closes_scope p l t)) [
              | inr d ↦
                  subst (λ (x : Configuration). Held terms p ok k t x.held (settled t)) (sym (ω.closed_kept p l v t c d))
                  (rw (c, d, append-nil (W t)) (g.held t))
              | inl d ↦
                  let s = (l t).state in
                  subst (λ es. Held terms p ok k t es (settled t))
                  (sym (ap (λ (x : Configuration). x.held) (ω.closed_replaced p l v t c d) ∙ installed_held (entry v) (replacement p s) no_state (l t)))
                  (rw (c, d)
                  (held_install terms p ok k v t (replacement p s) no_state (l t).held (W t) (R s) (g.held t) (closing_run t d).1
                  (und s (closes_known p l t d).1)))
            ]
      ]

  pub closed_blocks : Blocks terms p ok k (closed p l v) settled R
  closed_blocks =
      record {
        held = closed_held;
        runs =
            λ z o f.
            let (u, b, e, a) = open_find p (closed p l v) z o in
            let (c, w) = closed_awake ω p l v u a in
            let nz : is_closing p l z ≡ false = sym (closed_host p l u z e) ∙ c in
            let q = (closed_alike ω p l v (owner p z) (closed_host_stays p ok l n u z w e)).0 in
            let (x, y) = g.runs z (open_at p l z u b e w) (ap is_forward (sym q) ∙ f) in (
              x,
              λ b.
                  y b
                  ∙ sym
                  (closed_same (is_inside p z)
                  (λ v h d i.
                  inside_host p ok z v h i
                  ∙ (rw
                  (ne_eqb h z (λ j. clash (subst (λ r. is_closing p l r ≡ true) j (sym (closed_host p l v h i) ∙ d)) nz))))
                  b),
            );
      }

  -- the whole word is the same
  pub closed_whole : Same k.changed (join N settled) (join N W)
  closed_whole b = closed_same (λ t. true) (λ u h c e. refl) b
