-- The invariant of restoration: the books' state is that of the begin, changed by one word for each track, in rising track order; a track's
-- word falls into blocks, one for each entry held, that the entry's code undoes; and of each open forward scope, the moves since its
-- opening come to the same as the words inside it. A track without an open scope has nothing awake below it, so its changes commute with
-- every higher track's word. Assumes nothing.
use mathlib.Core.Path.{◌≡◌, refl, sym, ap, ◌∙◌, subst}
use mathlib.Core.Logic.{inl, inr}
use mathlib.Core.Bool.{true, false}
use mathlib.Core.List.{List, [], ◌∷◌, ◌++◌}
use mathlib.Core.Option.{Option, none}
use Prim.Native.Nat.{ℕ, ◌<◌}
use Rattle.rules.specs.Plan.{Plan, track_count, transition_count, owner, mover, is_inside, is_above}
use Rattle.rules.specs.Ledger.{Entry, Configuration, Ledger, is_forward}
use Rattle.rules.specs.Scope.{is_open, has_open_scope}
use Rattle.rules.specs.Opening.{enter}
use Rattle.rules.specs.Books.{Apart}
use Rattle.rules.proofs.Tests.{look}
use Rattle.rules.proofs.Acceptance.{Accepted}
use Rattle.rules.proofs.Forest.{Reaches, apart}
use Rattle.theory.specs.Seams.{Seams}
use Rattle.theory.specs.Runs.{act, Books}
use Rattle.theory.proofs.Composition.{when, join, All, none, all_append, all_map, Same, Swap, Commute, swap_words, swap_nil, join_nil}
use Rattle.theory.proofs.Nesting.{Sleeps, Nested, free_below, shut_inside, open_host}
use Rattle.theory.proofs.EnteringNested.{Enterable, Fate, enters, wakens, stays, fate, fresh_held, woken_asleep, kept_busy}
use Rattle.theory.proofs.SoundParts.{sleeping_held}
use Rattle.rules.specs.declared.Terms.{Terms}

module _ {σ : Seams} (terms : Terms) (p : Plan) (ok : Accepted p) (k : Books σ p terms) where
  open σ use {Event, Change, change, Retraction, retraction}

  -- done right after the word, the retraction gives the state back
  abbrev pub Undoes : Retraction → List Change → Type 0
  Undoes c w = (b : k.State) → k.retracted c (act k.changed w b) ≡ b

  -- a change of t, or of a track that t hosts
  pub data Below (t : ℕ) : Change → Type 0 where
    below : (a : Event) (x : ℕ) → Reaches p ok t (mover p x) → x < transition_count p → Below t (change a x)

  -- a word in blocks, one for each entry
  abbrev pub Held : ℕ → List Entry → List Change → Type 0
  Held t [] w = w ≡ []
  Held t (e ∷ es) w = (old : List Change) × (new : List Change) × Held t es old × All (Below t) new × Undoes (retraction e) new × (w ≡ old ++ new)

  pub held_below : (t : ℕ) (es : List Entry) (w : List Change) → Held t es w → All (Below t) w
  held_below t [] w h = rw h none
  held_below t (e ∷ es) w h =
      let (old, new, i, a, u, q) = h in
      rw q (all_append (held_below t es old i) a)

  -- the words of the tracks inside a scope, in rising order
  abbrev pub inner : (ℕ → List Change) → ℕ → List Change
  inner W s = join (track_count p) (λ t. when (is_inside p s t) (W t))

  pub record Blocks (l : Ledger) (W R : ℕ → List Change) : Type 0 where
    pub held : (t : ℕ) → Held t (l t).held (W t)
    pub runs : (s : ℕ) → is_open p l s ≡ true → is_forward (l (owner p s)).mode ≡ true
        → All (Below (owner p s)) (R s) × Same k.changed (R s) (inner W s)

  -- changes below two tracks commute where the lower does not host the higher
  below_commute : (t u : ℕ) → t < u → is_above p t u ≡ false → (x y : Change) → Below t x → Below u y → Commute k.changed x y
  below_commute t u l n x y (below a v i r) (below c w j q) b =
      commutes a c v w r q (apart p ok t u (mover p v) (mover p w) l n i j) b
    where
      commutes : (a c : Event) (v w : ℕ) → v < transition_count p → w < transition_count p → Apart p (mover p v) (mover p w)
          → Commute k.changed (change a v) (change c w)
      commutes a c v w r q d b = sym (k.commute a c v w r q d b)

  pub swap_below : (t u : ℕ) (v w : List Change) → t < u → is_above p t u ≡ false → All (Below t) v → All (Below u) w → Swap k.changed v w
  swap_below t u v w l n a b =
      swap_words k.changed v w (all_map (λ x i. all_map (λ y j. below_commute t u l n x y i j) b) a)

  module _ (l : Ledger) (n : Nested p l) (W R : ℕ → List Change) (g : Blocks l W R) where
    -- what sleeps has no word
    pub quiet : (t : ℕ) → Sleeps l t → W t ≡ []
    quiet t a = subst (λ es. Held t es (W t)) (ap (λ (c : Configuration). c.held) (n.blank t a) ∙ sleeping_held) (g.held t)

    pub word_below : (t : ℕ) → All (Below t) (W t)
    word_below t = held_below t (l t).held (W t) (g.held t)

    -- changes below a track without an open scope commute with every higher track's word
    pub swap_free : (t u : ℕ) (v : List Change) → has_open_scope p l t ≡ false → t < u → All (Below t) v → Swap k.changed v (W u)
    swap_free t u v f b a =
        elim (look (is_above p t u)) [
          | inl i ↦ rw (quiet u (free_below p ok l n t f u i)) (swap_nil k.changed v)
          | inr i ↦ swap_below t u v (W u) b i a (word_below u)
        ]

    -- inside a scope that is not open there are no words
    pub shut_nil : (s : ℕ) → is_open p l s ≡ false → inner W s ≡ []
    shut_nil s f =
        join_nil (track_count p) (λ t. when (is_inside p s t) (W t))
        (λ t b. elim (look (is_inside p s t)) [ inl i ↦ rw (i, quiet t (shut_inside p ok l n s f t i)) | inr i ↦ rw i ])

    -- Entering changes no word; a scope that opens has an empty run.
    pub enter_blocks : (to : ℕ → Option ℕ) → Enterable p l to → Blocks (enter p to l) W (λ s. when (is_open p l s) (R s))
    enter_blocks to e =
        record {
          held = λ t. held t (fate p ok l to t);
          runs =
              λ s o f.
              elim (look (is_open p l s)) [
                | inl x ↦
                    let (a, b, q) = open_host p ok l n s x in
                    let c = kept_busy p ok l to n e (owner p s) a b in
                    rw x (g.runs s x (subst (λ (c : Configuration). is_forward c.mode ≡ true) c f))
                | inr x ↦ rw (x, shut_nil s x) (none, λ b. refl)
              ];
        }
      where
        held : (t : ℕ) → Fate p ok l to t → Held t (enter p to l t).held (W t)
        held t (enters s h q) = subst (λ (c : Configuration). Held t c.held (W t)) (sym q) (g.held t)
        held t (wakens h w q) =
            subst (λ es. Held t es (W t)) (sym (ap (λ (c : Configuration). c.held) q ∙ fresh_held p t)) (quiet t (woken_asleep p ok l to n e t w))
        held t (stays h w q) = subst (λ (c : Configuration). Held t c.held (W t)) (sym q) (g.held t)
