-- The moves of an event keep the invariant: each mover's word grows by its change, if that has a code; the mover has no open scope, so its
-- change commutes with every higher track's word and may as well be done last, as the books do it. A change with code 0 changes
-- nothing. The run of each open scope grows by the moves inside it. Assumes nothing.
use mathlib.Core.Path.{◌≡◌, refl, sym, ap, ◌∙◌, subst, fun_ext}
use mathlib.Core.Logic.{inl, inr}
use mathlib.Core.Bool.{Bool, true, not}
use mathlib.Core.List.{List, [], ◌∷◌, ◌++◌, append-nil}
use mathlib.Core.Option.{Option, none, some}
use Prim.Native.Nat.{ℕ, ◌<◌}
use lib.Dec.{eqb}
use borrow.Author.Tests.{eqb-true}
use Rattle.rules.specs.Plan.{Plan, track_count, transition_count, transition, owner, is_inside, is_above}
use Rattle.rules.specs.Ledger.{Entry, Ledger, is_forward}
use Rattle.rules.specs.Scope.{is_open}
use Rattle.rules.specs.Opening.{enter}
use Rattle.rules.proofs.Tests.{look, look_option}
use Rattle.rules.proofs.Acceptance.{Accepted}
use Rattle.rules.proofs.Forest.{inside_above}
use Rattle.theory.specs.Seams.{Seams, install, recorded, goes, change_of}
use Rattle.theory.specs.Runs.{act, Books}
use Rattle.theory.proofs.Composition as all
use Rattle.theory.proofs.Composition.{when, join, All, all_append, all_when, all_join, Same, nil_swap, act_append, same_join, same_when, put_behind_of}
use Rattle.theory.proofs.Nesting.{Nested, open_same}
use Rattle.theory.proofs.Laws.{Laws}
use Rattle.theory.proofs.Installing.{install_none, install_one, by_none, by_some}
use Rattle.theory.proofs.MovingNested.{moved_is, recorded_mode, recorded_awake, mover_is, recorded_nested, goes_free}
use Rattle.theory.proofs.Invariant.{Undoes, Below, below, Held, Blocks, swap_free, enter_blocks}
use Rattle.rules.specs.declared.Terms.{Terms}

-- a word that a code other than 0 undoes
abbrev pub keep : {C : Type 0} → ℕ → List C → List C
keep c w = when (not (eqb c 0)) w

pub keep_all : {C : Type 0} {P : C → Type 0} (c : ℕ) {w : List C} → All P w → All P (keep c w)
keep_all c a = all_when (not (eqb c 0)) (λ h. a)

module _ {σ : Seams} (terms : Terms) (p : Plan) (ok : Accepted p) (k : Books σ p terms) (e : σ.Event) where
  open σ use {entry, Change, retraction}

  -- what a code 0 undoes changes nothing, and may be left out
  pub keep_same : (c d : ℕ) (w : List Change) → Undoes terms p ok k (retraction (entry e c d)) w → Same k.changed (keep c w) w
  unfolding act
  keep_same c d w u b =
      elim (look (eqb c 0)) [
        | inr z ↦ rw z
        | inl z ↦
            let q : k.retracted (retraction (entry e 0 d)) (act k.changed w b) ≡ b = rw (eqb-true c 0 z) at (u b) in
            rw z (sym q ∙ k.nothing e d (act k.changed w b))
      ]

  -- an entry more, and its block
  pub held_install : (t c d : ℕ) (es : List Entry) (w v : List Change) → Held terms p ok k t es w → All (Below terms p ok k t) v
      → Undoes terms p ok k (retraction (entry e c d)) v → Held terms p ok k t (install (entry e) c d es) (w ++ keep c v)
  held_install t c d es w v h a u =
      elim (look (eqb c 0)) [
        | inl i ↦ rw (i, append-nil w, install_none (entry e) c d es i) h
        | inr i ↦ rw (i, install_one (entry e) c d es i) (w, v, h, a, u, refl)
      ]

module _ {σ : Seams} (ω : Laws σ) (terms : Terms) (p : Plan) (ok : Accepted p) (k : Books σ p terms) (l : Ledger) (n : Nested p l)
    (W R : ℕ → List σ.Change) (g : Blocks terms p ok k l W R) (e : σ.Event) where
  open σ use {move, moved, entry, Change, change, moves_of, retraction}

  abbrev B : ℕ → Change → Type 0
  B = Below terms p ok k

  abbrev n' : ℕ
  n' = track_count p

  -- the block of a mover
  abbrev block_of : Option ℕ → List Change
  block_of none = []
  block_of (some x) = keep (transition p x).code (change e x ∷ [])

  abbrev pub block : ℕ → List Change
  block t = block_of (move p l e t)

  undo_one : (x : ℕ) → x < transition_count p → Undoes terms p ok k (retraction (entry e (transition p x).code (transition p x).deviation)) (change e x ∷ [])
  unfolding act
  undo_one x b = k.undo e x b

  own_letter : (t x : ℕ) → move p l e t ≡ some x → B t (change e x)
  own_letter t x h = below e x (inl (sym (mover_is ω p l e ok n t x h))) (ω.move_takes p l e t x h).real

  block_below : (t : ℕ) → All (B t) (block t)
  block_below t =
      elim (look_option (move p l e t)) [
        | inl h ↦ rw h all.none
        | inr h ↦ rw h.1 (keep_all (transition p h.0).code (all.one (own_letter t h.0 h.1) all.none))
      ]

  block_same : (t : ℕ) → Same k.changed (block t) (change_of σ e (move p l e t))
  unfolding change_of
  block_same t =
      elim (look_option (move p l e t)) [
        | inl h ↦ rw h (λ b. refl)
        | inr h ↦
            rw h.1
            (keep_same terms p ok k e (transition p h.0).code (transition p h.0).deviation (change e h.0 ∷ []) (undo_one h.0 (ω.move_takes p l e t h.0 h.1).real))
      ]

  -- the tracks' words with the movers' blocks, against the moves done after all words
  pub moves_last : (S : ℕ → Bool) (b : k.State) → act k.changed (join n' (λ t. when (S t) (W t ++ block t))) b
      ≡ act k.changed (moves_of p S l e) (act k.changed (join n' (λ t. when (S t) (W t))) b)
  moves_last S b =
      let b' = act k.changed (join n' (λ t. when (S t) (W t))) b in
      put_behind_of k.changed S n' W block
      (λ t u i j.
      elim (look_option (move p l e t)) [
        | inl h ↦ rw h (nil_swap k.changed (W u))
        | inr h ↦ swap_free terms p ok k l n W R g t u (block t) (ω.move_takes p l e t h.0 h.1).free i (block_below t)
      ]) b
      ∙ same_join k.changed n' (λ t. when (S t) (block t)) (λ t. when (S t) (change_of σ e (move p l e t)))
      (λ t i. same_when k.changed (S t) (block t) (change_of σ e (move p l e t)) (block_same t)) b'
      ∙ ap (λ w. act k.changed w b') (sym (ω.moves_are p S l e))

  moves_below_lem : (s : ℕ) → All (B (owner p s)) (moves_of p (is_inside p s) l e)
  unfolding change_of
  moves_below_lem s =
      rw (ω.moves_are p (is_inside p s) l e)
      (all_join n' (λ t. when (is_inside p s t) (change_of σ e (move p l e t)))
      (λ t i.
      all_when (is_inside p s t)
      (λ c.
      elim (look_option (move p l e t)) [
        | inl h ↦ rw h all.none
        | inr h ↦
            rw h.1
            (all.one
            (below e h.0 (inr (subst (λ x. is_above p (owner p s) x ≡ true) (sym (mover_is ω p l e ok n t h.0 h.1)) (inside_above p ok s t c)))
            (ω.move_takes p l e t h.0 h.1).real)
            all.none)
      ])))

  abbrev pub grown : ℕ → List Change
  grown t = W t ++ block t

  abbrev pub ran : ℕ → List Change
  ran s = R s ++ moves_of p (is_inside p s) l e

  recorded_blocks : Blocks terms p ok k (recorded σ p l e) grown ran
  recorded_blocks =
      record {
        held =
            λ t.
            elim (look_option (move p l e t)) [
              | inl h ↦ rw (by_none (entry e) p (move p l e t) (l t) h, h, append-nil (W t)) (g.held t)
              | inr h ↦
                  let x = h.0 in
                  rw (by_some (entry e) p (move p l e t) (l t) x h.1, h.1)
                  (held_install terms p ok k e t (transition p x).code (transition p x).deviation (l t).held (W t) (change e x ∷ []) (g.held t)
                  (all.one (own_letter t x h.1) all.none) (undo_one x (ω.move_takes p l e t x h.1).real))
            ];
        runs =
            λ s o f.
            let o' = sym (open_same p (recorded σ p l e) l (recorded_awake ω p l e) s) ∙ o in
            let f' = ap is_forward (sym (recorded_mode ω p l e (owner p s))) ∙ f in
            let (a, q) = g.runs s o' f' in (
              all_append a (moves_below_lem s),
              λ b.
                  act_append k.changed (R s) (moves_of p (is_inside p s) l e) b
                  ∙ ap (act k.changed (moves_of p (is_inside p s) l e)) (q b)
                  ∙ sym (moves_last (is_inside p s) b),
            );
      }

  -- a scope that was not open has an empty run
  abbrev pub fresher : ℕ → List Change
  fresher s = when (is_open p l s) (ran s)

  pub moved_blocks : Blocks terms p ok k (moved p l e) grown fresher
  moved_blocks =
      subst (λ m. Blocks terms p ok k m grown fresher) (sym (moved_is ω p l e))
      (subst (λ r. Blocks terms p ok k (enter p (goes σ p l e) (recorded σ p l e)) grown r)
      (fun_ext (λ s. ap (λ b. when b (ran s)) (open_same p (recorded σ p l e) l (recorded_awake ω p l e) s)))
      (enter_blocks terms p ok k (recorded σ p l e) (recorded_nested ω p l e ok n) grown ran recorded_blocks (goes σ p l e) (goes_free ω p l e ok n)))
