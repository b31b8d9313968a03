-- A view with some tracks' configurations replaced. Two that differ at one track alone, where the one steps to the other, are a step of the
-- whole apart: by NEST and VECT from that track up to its root, everything beside the way up being the same. Assumes nothing.
use mathlib.Core.Path.{◌≡◌, refl, sym, ap, ap₂, ◌∙◌, subst}
use mathlib.Core.Logic.{inl, inr}
use mathlib.Core.Bool.{true, false, cond, ◌&&◌}
use mathlib.Core.Option.{Option, none, some}
use Prim.Native.Nat.{ℕ, zero, suc, ◌+◌, ◌<◌, ◌≤◌}
use native.Mathlib.Omega.{arith}
use lib.Dec.{ltb}
use borrow.Author.Tests.{ltb-true, ltb-false}
use Rattle.rules.specs.Plan.{Plan, track_count, host, owner, is_root, is_hosted_by, is_above}
use Rattle.rules.specs.Ledger.{Ledger, is_awake, is_forward}
use Rattle.rules.specs.Scope.{has_open_scope}
use Rattle.rules.proofs.Tests.{look, look_option, none-some, and_holds, and_both, strong}
use Rattle.rules.proofs.Folds.{some_same}
use Rattle.rules.proofs.Acceptance.{Accepted}
use Rattle.rules.proofs.Scopes.{by_host, host_by, root_of_lem, root_none}
use Rattle.rules.proofs.Forest.{Reaches, above_up, above_down, above_hosted, above_lower, reaches_above, in_line}
use Rattle.rules.proofs.Abandoning.{hosts_higher}
use Rattle.theory.proofs.Nesting.{Awake, Nested, host_awake, host_busy}
use Rattle.automaton.specs.Listing.{listed}
use Rattle.automaton.specs.Configuration.{NConf, Basic, Nest, Conf, Vect}
use Rattle.automaton.specs.Semantics.{FailReading, Act, Step, NEST, VStep}
use Rattle.automaton.specs.View.{stack_of, direction_of, facing, is_within, basic, nested, shown, view_to, view_of, is_on_top, view}
use Rattle.automaton.proofs.Listings.{listed_same, listed_step}

-- from the highest number down
pub down : (n : ℕ) (C : ℕ → Type 0) → ((t : ℕ) → t < n → ((u : ℕ) → u < n → t < u → C u) → C t) → (t : ℕ) → t < n → C t
down n C f t b = go n t b (omega arith)
  where
    go : (k t : ℕ) → t < n → n ≤ k + t → C t
    go zero t b h = absurd (omega arith)
    go (suc k) t b h = f t b (λ u c d. go k u c (omega arith))

-- A track is above those in its scopes, and above what they are above.
module _ (p : Plan) (ok : Accepted p) where
  pub hosted_above : (t v : ℕ) → is_hosted_by p t v ≡ true → is_above p t v ≡ true
  hosted_above t v i = let (h, e, q) = by_host p t v i in above_down p ok t v h e (inl (sym q))

  pub reach_up : (t v u : ℕ) → is_hosted_by p t v ≡ true → Reaches p ok v u → Reaches p ok t u
  reach_up t v u i (inl e) = inr (subst (λ z. is_above p t z ≡ true) e (hosted_above t v i))
  reach_up t v u i (inr a) = inr (reaches_above p ok t v u (inr (hosted_above t v i)) a)

  -- of two tracks in one track's scopes neither is above the other
  not_above : (x k t : ℕ) → is_hosted_by p x k ≡ true → is_hosted_by p x t ≡ true → is_above p k t ≡ true → ⊥
  not_above x k t i j a =
      let (h, e, q) = by_host p x t j in
      let b = hosts_higher p ok x k i in
      elim (above_up p ok k t h e a) [
        | inl f ↦ let z : k ≡ x = f ∙ q in omega arith
        | inr f ↦ let c = above_lower p ok k (owner p h) f in let z : owner p h ≡ x = q in omega arith
      ]

  pub beside : (x k t u : ℕ) → is_hosted_by p x k ≡ true → is_hosted_by p x t ≡ true → (k ≡ t → ⊥) → Reaches p ok t u → Reaches p ok k u → ⊥
  beside x k t u i j n r s =
      elim (look (ltb k t)) [
        | inl b ↦ not_above x k t i j (in_line p ok k t u (ltb-true k t b) s r)
        | inr b ↦ let c = ltb-false k t b in not_above x t k j i (in_line p ok t k u (omega arith) r s)
      ]

  root_not_below : (k t : ℕ) → host p t ≡ none → is_above p k t ≡ true → ⊥
  root_not_below k t e a = let (h, f, r) = above_hosted p ok k t a in none-some e f

  pub roots_beside : (k t u : ℕ) → host p k ≡ none → host p t ≡ none → (k ≡ t → ⊥) → Reaches p ok t u → Reaches p ok k u → ⊥
  roots_beside k t u e f n r s =
      elim (look (ltb k t)) [
        | inl b ↦ root_not_below k t f (in_line p ok k t u (ltb-true k t b) s r)
        | inr b ↦ let c = ltb-false k t b in root_not_below t k e (in_line p ok t k u (omega arith) r s)
      ]

-- two that are put in place of one
pub same_conf : (a b : NConf) → some a ≡ some b → a ≡ b
same_conf a b h = cc

-- what is put in place of a configuration
unfoldable pub instead : Option NConf → NConf → NConf
instead none c = c
instead (some d) c = d

pub instead_none : (o : Option NConf) (c : NConf) → o ≡ none → instead o c ≡ c
unfolding instead
instead_none o c e = rw (e, instead)

pub instead_some : (o : Option NConf) (c d : NConf) → o ≡ some d → instead o c ≡ d
unfolding instead
instead_some o c d e = rw (e, instead)

module _ (p : Plan) (l : Ledger) where
  -- within a track's open scope
  pub within_parts : (t u : ℕ) → is_within p l t u ≡ true → (is_hosted_by p t u ≡ true) × Awake l u
  unfolding is_within
  within_parts t u h = and_holds (is_hosted_by p t u) (is_awake (l u).mode) h

  pub within_of : (t u : ℕ) → is_hosted_by p t u ≡ true → Awake l u → is_within p l t u ≡ true
  unfolding is_within
  within_of t u i a = and_both (is_hosted_by p t u) (is_awake (l u).mode) i a

  pub top_parts : (t : ℕ) → is_on_top p l t ≡ true → (host p t ≡ none) × Awake l t
  unfolding is_on_top
  top_parts t h = let (r, a) = and_holds (is_root p t) (is_awake (l t).mode) h in (root_none p t r, a)

  pub top_of : (t : ℕ) → host p t ≡ none → Awake l t → is_on_top p l t ≡ true
  unfolding is_on_top
  top_of t e a = and_both (is_root p t) (is_awake (l t).mode) (root_of_lem p t e) a

module _ (p : Plan) (ρ : FailReading) (l : Ledger) where
  -- the view in which the tracks of o are shown as it says
  unfoldable pub frame_to : (ℕ → Option NConf) → ℕ → ℕ → NConf
  frame_to o zero t = instead (o t) (basic p l t)
  frame_to o (suc n) t = instead (o t) (shown p ρ l t (frame_to o n))

  unfoldable pub frame : (ℕ → Option NConf) → ℕ → NConf
  frame o t = frame_to o (track_count p) t

  unfoldable pub frames : (ℕ → Option NConf) → Conf
  frames o = Vect (listed (track_count p) (is_on_top p l) (frame o))

  pub shown_free : (t : ℕ) (g : ℕ → NConf) → has_open_scope p l t ≡ false → shown p ρ l t g ≡ basic p l t
  unfolding shown
  shown_free t g h = rw h

  pub shown_busy : (t : ℕ) (g : ℕ → NConf) → has_open_scope p l t ≡ true → shown p ρ l t g ≡ nested p ρ l t (Vect (listed (track_count p) (is_within p l t) g))
  unfolding shown
  shown_busy t g h = rw h

  pub shown_same : (t : ℕ) (g g' : ℕ → NConf) → ((u : ℕ) → u < track_count p → is_hosted_by p t u ≡ true → Awake l u → g u ≡ g' u) → shown p ρ l t g ≡ shown p ρ l t g'
  unfolding shown
  shown_same t g g' h =
      ap (λ x. cond (has_open_scope p l t) (nested p ρ l t (Vect x)) (basic p l t))
      (listed_same (track_count p) (is_within p l t) (is_within p l t) g g' (λ k b. refl) (λ k b y. let (i, a) = within_parts p l t k y in h k b i a))

  -- a view has nothing replaced
  view_frame_to : (n t : ℕ) → view_to p ρ l n t ≡ frame_to (λ u. none) n t
  unfolding view_to frame_to instead
  view_frame_to zero t = refl
  view_frame_to (suc n) t = shown_same t (view_to p ρ l n) (frame_to (λ u. none) n) (λ u b i a. view_frame_to n u)

  pub view_frame : (t : ℕ) → view_of p ρ l t ≡ frame (λ u. none) t
  unfolding view_of frame
  view_frame t = view_frame_to (track_count p) t

  pub view_frames : view p ρ l ≡ frames (λ u. none)
  unfolding view frames
  view_frames = ap Vect (listed_same (track_count p) (is_on_top p l) (is_on_top p l) (view_of p ρ l) (frame (λ u. none)) (λ k b. refl) (λ k b y. view_frame k))

  module _ (ok : Accepted p) where
    -- one more level changes nothing once all are looked at
    frame_more : (o : ℕ → Option NConf) (n t : ℕ) → t < track_count p → track_count p ≤ n + t → frame_to o n t ≡ frame_to o (suc n) t
    unfolding frame_to
    frame_more o zero t b h = absurd (omega arith)
    frame_more o (suc n) t b h =
        ap (instead (o t)) (shown_same t (frame_to o n) (frame_to o (suc n)) (λ u c i a. frame_more o n u c (let d = hosts_higher p ok t u i in omega arith)))

    pub frame_law : (o : ℕ → Option NConf) (t : ℕ) → t < track_count p → frame o t ≡ instead (o t) (shown p ρ l t (frame o))
    unfolding frame frame_to
    frame_law o t b = frame_more o (track_count p) t b (omega arith)

    pub view_law : (t : ℕ) → t < track_count p → view_of p ρ l t ≡ shown p ρ l t (view_of p ρ l)
    unfolding instead
    view_law t b =
        view_frame t ∙ frame_law (λ u. none) t b
        ∙ shown_same t (frame (λ u. none)) (view_of p ρ l) (λ u c i a. sym (view_frame u))

    -- two that replace the same
    frame_same : (o o' : ℕ → Option NConf) → ((t : ℕ) → o t ≡ o' t) → (t : ℕ) → t < track_count p → frame o t ≡ frame o' t
    frame_same o o' h =
        down (track_count p) (λ t. frame o t ≡ frame o' t)
        (λ t b ih.
        frame_law o t b
        ∙ ap₂ instead (h t) (shown_same t (frame o) (frame o') (λ u c i a. ih u c (hosts_higher p ok t u i)))
        ∙ sym (frame_law o' t b))

    pub frames_same : (o o' : ℕ → Option NConf) → ((t : ℕ) → o t ≡ o' t) → frames o ≡ frames o'
    unfolding frames
    frames_same o o' h =
        ap Vect (listed_same (track_count p) (is_on_top p l) (is_on_top p l) (frame o) (frame o') (λ k b. refl) (λ k b y. frame_same o o' h k b))

    -- two that differ at u alone, nothing above it being replaced
    module _ (n : Nested p l) (o o' : ℕ → Option NConf) (u : ℕ) (same : (t : ℕ) → (t ≡ u → ⊥) → o t ≡ o' t)
        (clear : (t : ℕ) → is_above p t u ≡ true → o t ≡ none) (a : Act) where
      aside : (t : ℕ) → t < track_count p → (Reaches p ok t u → ⊥) → frame o t ≡ frame o' t
      aside =
          down (track_count p) (λ t. (Reaches p ok t u → ⊥) → frame o t ≡ frame o' t)
          (λ t b ih r.
          frame_law o t b
          ∙ ap₂ instead (same t (λ e. r (inl e)))
          (shown_same t (frame o) (frame o') (λ v c i w. ih v c (hosts_higher p ok t v i) (λ q. r (reach_up p ok t v u i q))))
          ∙ sym (frame_law o' t b))

      upwards : (t : ℕ) → Awake l t → Reaches p ok t u → Step p ρ (frame o t) a (frame o' t) → VStep p ρ (frames o) a (frames o')
      unfolding frames nested
      upwards =
          strong (λ t. Awake l t → Reaches p ok t u → Step p ρ (frame o t) a (frame o' t) → VStep p ρ (frames o) a (frames o'))
          (λ t ih w r s.
          elim (look_option (host p t)) [
            | inl e ↦
                listed_step p ρ a (track_count p) (is_on_top p l) (frame o) (frame o') t (n.below t w) (top_of p l t e w) s
                (λ k b y d. let (f, v) = top_parts p l k y in aside k b (roots_beside p ok k t u f e d r))
            | inr q ↦
                let h = q.0 in
                let e = q.1 in
                let x = owner p h in
                let j = host_by p t h e in
                let up : is_above p x u ≡ true = elim (reach_up p ok x t u j r) [ inl z ↦ impossible t r x j z | inr z ↦ z ] in
                let free : (x ≡ u → ⊥) = λ z. let c = above_lower p ok x u up in absurd (omega arith) in
                let aw = host_awake p ok l n t h w e in
                let by = host_busy p ok l n t h w e in
                let b = n.below x aw in
                let one : frame o x ≡ nested p ρ l x (Vect (listed (track_count p) (is_within p l x) (frame o))) =
                frame_law o x b ∙ instead_none (o x) (shown p ρ l x (frame o)) (clear x up) ∙ shown_busy x (frame o) by in
                let two : frame o' x ≡ nested p ρ l x (Vect (listed (track_count p) (is_within p l x) (frame o'))) =
                frame_law o' x b ∙ instead_none (o' x) (shown p ρ l x (frame o')) (sym (same x free) ∙ clear x up) ∙ shown_busy x (frame o') by in
                ih x (ok.lower t h e) aw (inr up)
                (subst (λ z. Step p ρ z a (frame o' x)) (sym one)
                (subst (λ z. Step p ρ (nested p ρ l x (Vect (listed (track_count p) (is_within p l x) (frame o)))) a z) (sym two)
                (NEST x _ _ _
                (listed_step p ρ a (track_count p) (is_within p l x) (frame o) (frame o') t (n.below t w) (within_of p l x t j w) s
                (λ k c y d. let (i, v) = within_parts p l x k y in aside k c (λ z. beside p ok x k t u i j d r z))))))
          ])
        where
          impossible : (t : ℕ) → Reaches p ok t u → (x : ℕ) → is_hosted_by p x t ≡ true → x ≡ u → is_above p x u ≡ true
          impossible t (inl e) x j z = let c = hosts_higher p ok x t j in absurd (omega arith)
          impossible t (inr e) x j z = let c = hosts_higher p ok x t j in let d = above_lower p ok t u e in absurd (omega arith)

      -- the step at u is a step of the whole
      pub replaced : Awake l u → Step p ρ (frame o u) a (frame o' u) → VStep p ρ (frames o) a (frames o')
      replaced w s = upwards u w (inl refl) s

-- A track shown alike on two ledgers: the same state, entries and direction, and the same tracks within.
module _ (p : Plan) (l m : Ledger) (t : ℕ) (within : (u : ℕ) → u < track_count p → is_within p l t u ≡ is_within p m t u) where
  pub busy_alike : has_open_scope p l t ≡ has_open_scope p m t
  unfolding has_open_scope is_within
  busy_alike = some_same (track_count p) (λ u. is_hosted_by p t u && is_awake (l u).mode) (λ u. is_hosted_by p t u && is_awake (m u).mode) within

  pub shown_alike : (ρ : FailReading) (g g' : ℕ → NConf) → (l t).state ≡ (m t).state → (l t).held ≡ (m t).held
      → (has_open_scope p l t ≡ false → is_forward (l t).mode ≡ is_forward (m t).mode)
      → (has_open_scope p l t ≡ true → facing ρ (l t).mode ≡ facing ρ (m t).mode) → ((u : ℕ) → u < track_count p → is_within p l t u ≡ true → g u ≡ g' u) → shown p ρ l t g ≡ shown p ρ m t g'
  unfolding nested basic
  shown_alike ρ g g' st hd way host inner =
      elim (look (has_open_scope p l t)) [
        | inl b ↦
            shown_busy p ρ l t g b
            ∙ ap₂ (λ q S. Nest t q (facing ρ (l t).mode) (stack_of S) (Vect (listed (track_count p) (is_within p l t) g))) st hd
            ∙ ap₂ (λ d x. Nest t (m t).state d (stack_of (m t).held) (Vect x)) (host b)
            (listed_same (track_count p) (is_within p l t) (is_within p m t) g g' within inner)
            ∙ sym (shown_busy p ρ m t g' (sym busy_alike ∙ b))
        | inr b ↦
            shown_free p ρ l t g b
            ∙ ap₂ (λ q S. Basic t q (direction_of (is_forward (l t).mode)) (stack_of S)) st hd
            ∙ ap (λ x. Basic t (m t).state (direction_of x) (stack_of (m t).held)) (way b)
            ∙ sym (shown_free p ρ m t g' (sym busy_alike ∙ b))
      ]
