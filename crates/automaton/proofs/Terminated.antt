-- A scope can close exactly if its vector has terminated, and be abandoned exactly if it has compensated; finish is due exactly if the vector of
-- the roots has terminated. A scope's tracks are all in one mode, so its vector is never mixed, as that of the roots may be; a track in a final
-- state has no open scope, so one that has is neither. Assumes nothing.
use mathlib.Core.Path.{◌≡◌, refl, sym, ap, ap₂, ◌∙◌, subst}
use mathlib.Core.Logic.{inl, inr}
use mathlib.Core.Bool as bool
use mathlib.Core.Bool.{Bool, true, false, and-false, and_comm, ◌&&◌, ◌||◌}
use mathlib.Core.List.{List, [], ◌∷◌}
use mathlib.Core.Option.{some}
use Prim.Native.Nat.{ℕ, ◌<◌}
use Rattle.rules.specs.declared.Mode.{Mode}
use Rattle.rules.specs.declared.Mode.TheVariants.{Asleep, Forward, Undoing}
use Rattle.rules.specs.Plan.{Plan, track_count, host, owner, is_final}
use Rattle.rules.specs.Ledger.{Entry, Ledger, is_awake, is_forward, is_undoing, is_empty}
use Rattle.rules.specs.Scope.{is_open, has_open_scope, is_ended, is_bare}
use Rattle.rules.specs.Finish.{is_finishing}
use Rattle.rules.specs.Event.{is_closing}
use Rattle.rules.specs.Signal.{is_abandoning}
use Rattle.rules.proofs.Tests.{look, clash, refuted, and_holds, and_both, or_holds}
use Rattle.rules.proofs.Acceptance.{Accepted}
use Rattle.rules.proofs.Scopes.{by_host, host_by, open_at, open_find, busy_find}
use Rattle.rules.proofs.Closing.{closing_final}
use Rattle.rules.proofs.Abandoning.{bare_parts}
use Rattle.rules.proofs.Finishing.{finishing_done, done_finishing}
use Rattle.rules.proofs.Modes.{undoing_forward}
use Rattle.theory.proofs.Nesting.{Awake, Nested, open_host}
use Rattle.theory.proofs.SoundParts.{RootsAwake}
use Rattle.theory.proofs.ClosingNested.{closing_of, final_free}
use Rattle.theory.proofs.SoundBegin.{abandoning_bare}
use Rattle.theory.proofs.SoundEvent.{abandoning_of}
use Rattle.automaton.specs.Listing.{listed, some_of, every_of}
use Rattle.automaton.specs.Configuration.{NConf, Conf, Vect, members, push_comp, is_forwards, is_backwards, is_empty_stack, is_terminated, is_compensated, has_terminated, has_compensated}
use Rattle.automaton.specs.Semantics.{FailReading}
use Rattle.automaton.specs.View.{stack_of, direction_of, is_within, is_on_top, basic, nested, view_of, view, scope_view}
use Rattle.automaton.proofs.Listings.{alike, listed_every, listed_every_at, listed_some, listed_some_find}
use Rattle.automaton.proofs.Frames.{within_parts, within_of, top_parts, top_of, shown_free, shown_busy, view_law}

pub members_vect : (xs : List NConf) → members (Vect xs) ≡ xs
unfolding members Vect
members_vect [] = refl
members_vect (x ∷ xs) = ap (λ z. x ∷ z) (members_vect xs)

pub bare_stack : (es : List Entry) → is_empty_stack (stack_of es) ≡ is_empty es
unfolding is_empty_stack stack_of is_empty push_comp
bare_stack [] = refl
bare_stack (e ∷ es) = refl

going : (m : Mode) → is_forwards (direction_of (is_forward m)) ≡ is_forward m
unfolding is_forwards direction_of is_forward
going Asleep = refl
going Forward = refl
going Undoing = refl

coming : (m : Mode) → is_awake m ≡ true → is_backwards (direction_of (is_forward m)) ≡ is_undoing m
unfolding is_backwards direction_of is_forward is_undoing is_awake
coming Asleep h = clash h refl
coming Forward h = refl
coming Undoing h = refl

module _ (p : Plan) where
  -- of a basic configuration
  basic_terminated : (l : Ledger) (t : ℕ) → is_terminated p (basic p l t) ≡ (is_forward (l t).mode && is_final p (l t).state)
  unfolding is_terminated basic
  basic_terminated l t = ap (λ x. is_final p (l t).state && x) (going (l t).mode) ∙ and_comm (is_final p (l t).state) (is_forward (l t).mode)

  pub basic_compensated : (l : Ledger) (t : ℕ) → Awake l t → is_compensated p (basic p l t) ≡ (is_undoing (l t).mode && is_empty (l t).held)
  unfolding is_compensated basic
  basic_compensated l t a = ap₂ (λ x y. x && y) (bare_stack (l t).held) (coming (l t).mode a) ∙ and_comm (is_empty (l t).held) (is_undoing (l t).mode)

  nested_terminated : (ρ : FailReading) (l : Ledger) (t : ℕ) (c : Conf) → is_terminated p (nested p ρ l t c) ≡ false
  unfolding is_terminated nested
  nested_terminated ρ l t c = refl

  nested_compensated : (ρ : FailReading) (l : Ledger) (t : ℕ) (c : Conf) → is_compensated p (nested p ρ l t c) ≡ false
  unfolding is_compensated nested
  nested_compensated ρ l t c = refl

  -- of the vector of some tracks
  module _ (f : ℕ → Bool) (g : ℕ → NConf) where
    abbrev v : Conf
    v = Vect (listed (track_count p) f g)

    terminated_of : ((u : ℕ) → u < track_count p → f u ≡ true → (is_terminated p (g u) || is_compensated p (g u)) ≡ true)
        → (w : ℕ) → w < track_count p → f w ≡ true → is_terminated p (g w) ≡ true → has_terminated p v ≡ true
    unfolding has_terminated
    terminated_of h w b y z =
        rw (members_vect (listed (track_count p) f g))
        (and_both (some_of (is_terminated p) (listed (track_count p) f g)) (every_of (λ n. is_terminated p n || is_compensated p n) (listed (track_count p) f g))
        (listed_some (is_terminated p) (track_count p) f g w b y z)
        (listed_every (λ n. is_terminated p n || is_compensated p n) (track_count p) f g h))

    pub terminated_at : has_terminated p v ≡ true
        → ((w : ℕ) × (w < track_count p) × (f w ≡ true) × (is_terminated p (g w) ≡ true))
        × ((u : ℕ) → u < track_count p → f u ≡ true → (is_terminated p (g u) || is_compensated p (g u)) ≡ true)
    unfolding has_terminated
    terminated_at h =
        let q : (some_of (is_terminated p) (listed (track_count p) f g) && every_of (λ n. is_terminated p n || is_compensated p n) (listed (track_count p) f g)) ≡ true =
        ap (λ z. some_of (is_terminated p) z && every_of (λ n. is_terminated p n || is_compensated p n) z) (sym (members_vect (listed (track_count p) f g))) ∙ h in
        let (x, y) = and_holds (some_of (is_terminated p) (listed (track_count p) f g)) (every_of (λ n. is_terminated p n || is_compensated p n) (listed (track_count p) f g)) q in
        (listed_some_find (is_terminated p) (track_count p) f g x, listed_every_at (λ n. is_terminated p n || is_compensated p n) (track_count p) f g y)

    pub compensated_of : ((u : ℕ) → u < track_count p → f u ≡ true → is_compensated p (g u) ≡ true) → has_compensated p v ≡ true
    unfolding has_compensated
    compensated_of h = rw (members_vect (listed (track_count p) f g)) (listed_every (is_compensated p) (track_count p) f g h)

    pub compensated_at : has_compensated p v ≡ true → (u : ℕ) → u < track_count p → f u ≡ true → is_compensated p (g u) ≡ true
    unfolding has_compensated
    compensated_at h =
        listed_every_at (is_compensated p) (track_count p) f g (ap (every_of (is_compensated p)) (sym (members_vect (listed (track_count p) f g))) ∙ h)

module _ (p : Plan) (ok : Accepted p) (l : Ledger) (n : Nested p l) where
  -- a track with an open scope has that of the state that it is in
  pub busy_open : (t : ℕ) → has_open_scope p l t ≡ true → is_open p l (l t).state ≡ true
  busy_open t b =
      let (u, h, c, e, o, a) = busy_find p l t b in
      subst (λ z. is_open p l z ≡ true) (sym (n.hosted u h a e).0 ∙ ap (λ y. (l y).state) o) (open_at p l h u c e a)

  -- the tracks within a track's open scope are those of the state that it is in
  module _ (s : ℕ) (open-s : is_open p l s ≡ true) where
    abbrev x : ℕ
    x = owner p s

    pub within_host : (u : ℕ) → is_within p l x u ≡ true → (host p u ≡ some s) × Awake l u
    within_host u h =
        let (i, a) = within_parts p l x u h in
        let (k, e, o) = by_host p x u i in
        let z : k ≡ s = sym (n.hosted u k a e).0 ∙ ap (λ y. (l y).state) o ∙ (open_host p ok l n s open-s).2 in
        (e ∙ ap some z, a)

    host_within : (u : ℕ) → host p u ≡ some s → is_within p l x u ≡ true
    host_within u e =
        let (t, b, f, a) = open_find p l s open-s in
        within_of p l x u (host_by p u s e) (n.whole u t s e f ∙ a)

    some_track : (w : ℕ) × (w < track_count p) × (host p w ≡ some s) × Awake l w
    some_track = open_find p l s open-s

module _ (p : Plan) (ρ : FailReading) (ok : Accepted p) (l : Ledger) (n : Nested p l) where
  -- a track's configuration is terminated exactly if the track is forward in a final state, compensated exactly if it is bare
  pub view_terminated : (t : ℕ) → Awake l t → is_terminated p (view_of p ρ l t) ≡ is_ended p l t
  view_terminated t a =
      ap (is_terminated p) (view_law p ρ l ok t (n.below t a))
      ∙ elim (look (has_open_scope p l t)) [
        | inr b ↦ ap (is_terminated p) (shown_free p ρ l t (view_of p ρ l) b) ∙ basic_terminated p l t
        | inl b ↦
            ap (is_terminated p) (shown_busy p ρ l t (view_of p ρ l) b) ∙ nested_terminated p ρ l t (scope t)
            ∙ sym (refuted (is_forward (l t).mode && is_final p (l t).state)
            (λ h. clash b (final_free p ok l n t (and_holds (is_forward (l t).mode) (is_final p (l t).state) h).1)))
      ]
    where
      scope : ℕ → Conf
      scope t = Vect (listed (track_count p) (is_within p l t) (view_of p ρ l))

  pub view_compensated : (t : ℕ) → Awake l t → is_compensated p (view_of p ρ l t) ≡ is_bare p l t
  unfolding is_bare
  view_compensated t a =
      ap (is_compensated p) (view_law p ρ l ok t (n.below t a))
      ∙ elim (look (has_open_scope p l t)) [
        | inr b ↦ ap (is_compensated p) (shown_free p ρ l t (view_of p ρ l) b) ∙ basic_compensated p l t a ∙ sym (rw b (bool.and-true (is_undoing (l t).mode && is_empty (l t).held)))
        | inl b ↦
            ap (is_compensated p) (shown_busy p ρ l t (view_of p ρ l) b) ∙ nested_compensated p ρ l t (scope t)
            ∙ sym (rw b (and-false (is_undoing (l t).mode && is_empty (l t).held)))
      ]
    where
      scope : ℕ → Conf
      scope t = Vect (listed (track_count p) (is_within p l t) (view_of p ρ l))

  module _ (s : ℕ) (open-s : is_open p l s ≡ true) where
    -- A scope can close exactly if its vector has terminated
    pub closing_terminated : is_closing p l s ≡ has_terminated p (scope_view p ρ l (owner p s))
    unfolding scope_view
    closing_terminated =
        alike (is_closing p l s) (has_terminated p (Vect (listed (track_count p) (is_within p l (owner p s)) (view_of p ρ l))))
        (λ c.
        let (w, b, e, a) = some_track p ok l n s open-s in
        let y = host_within p ok l n s open-s w e in
        let all : (u : ℕ) → u < track_count p → is_within p l (owner p s) u ≡ true → is_terminated p (view_of p ρ l u) ≡ true =
        λ u d y.
        let (f, v) = within_host p ok l n s open-s u y in
        let (i, j) = closing_final p l s u c d f in
        view_terminated u v ∙ and_both (is_forward (l u).mode) (is_final p (l u).state) i j in
        terminated_of p (is_within p l (owner p s)) (view_of p ρ l) (λ u d y. ap (λ x. x || is_compensated p (view_of p ρ l u)) (all u d y)) w b y (all w b y))
        (λ h.
        let (q, all) = terminated_at p (is_within p l (owner p s)) (view_of p ρ l) h in
        let (w, b, y, k) = q in
        let (e, a) = within_host p ok l n s open-s w y in
        let fw = (and_holds (is_forward (l w).mode) (is_final p (l w).state) (sym (view_terminated w a) ∙ k)).0 in
        closing_of p l s open-s
        (λ u f.
        let y' = host_within p ok l n s open-s u f in
        let a' = (within_host p ok l n s open-s u y').1 in
        let same : (l u).mode ≡ (l w).mode = sym (n.hosted u s a' f).1 ∙ (n.hosted w s a e).1 in
        elim (or_holds (is_terminated p (view_of p ρ l u)) (is_compensated p (view_of p ρ l u)) (all u (ok.hosted u s f) y')) [
          | inl g ↦ and_holds (is_forward (l u).mode) (is_final p (l u).state) (sym (view_terminated u a') ∙ g)
          | inr g ↦ clash (ap is_forward same ∙ fw) (undoing_forward (l u).mode (bare_parts p ok l u (sym (view_compensated u a') ∙ g)).0)
        ]))

    -- and be abandoned exactly if it has compensated
    pub abandoning_compensated : is_abandoning p l s ≡ has_compensated p (scope_view p ρ l (owner p s))
    unfolding scope_view
    abandoning_compensated =
        alike (is_abandoning p l s) (has_compensated p (Vect (listed (track_count p) (is_within p l (owner p s)) (view_of p ρ l))))
        (λ c.
        compensated_of p (is_within p l (owner p s)) (view_of p ρ l)
        (λ u d y. let (f, v) = within_host p ok l n s open-s u y in view_compensated u v ∙ abandoning_bare p ok l s u c f))
        (λ h.
        abandoning_of p l s open-s
        (λ u f.
        let y = host_within p ok l n s open-s u f in
        sym (view_compensated u (within_host p ok l n s open-s u y).1) ∙ compensated_at p (is_within p l (owner p s)) (view_of p ρ l) h u (ok.hosted u s f) y))

  -- Finish is due exactly if the vector of the roots has terminated, which may be mixed
  pub finishing_terminated : RootsAwake p l → is_finishing p l ≡ has_terminated p (view p ρ l)
  unfolding view
  finishing_terminated roots =
      alike (is_finishing p l) (has_terminated p (Vect (listed (track_count p) (is_on_top p l) (view_of p ρ l))))
      (λ h.
      let d = finishing_done p l h in
      let r = d.root in
      let a = roots r d.low d.unhosted in
      terminated_of p (is_on_top p l) (view_of p ρ l)
      (λ t b y. let (e, w) = top_parts p l t y in ap₂ (λ x z. x || z) (view_terminated t w) (view_compensated t w) ∙ d.every t b e)
      r d.low (top_of p l r d.unhosted a) (view_terminated r a ∙ d.ended))
      (λ h.
      let (q, all) = terminated_at p (is_on_top p l) (view_of p ρ l) h in
      let (r, b, y, k) = q in
      let (e, w) = top_parts p l r y in
      done_finishing p l
      (record {
        every = λ t c f.
            let a = roots t c f in
            sym (ap₂ (λ x z. x || z) (view_terminated t a) (view_compensated t a)) ∙ all t c (top_of p l t f a);
        root = r;
        low = b;
        unhosted = e;
        ended = sym (view_terminated r w) ∙ k;
      }))
