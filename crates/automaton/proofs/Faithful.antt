-- A view shows its ledger whole: two ledgers with the same view are the same at every track. From the roots up to what they host the views of
-- the tracks are the same and the same tracks are awake; and from the highest track down the modes are, a host's being that of its
-- open scope. Assumes nothing.
use mathlib.Core.Path.{◌≡◌, refl, sym, ap, ap₂, ◌∙◌, subst, fun_ext}
use mathlib.Core.Logic.{inl, inr}
use mathlib.Core.Bool.{Bool, true, false, cond}
use mathlib.Core.List.{List, [], ◌∷◌}
use mathlib.Core.Option.{Option, none, some}
use Prim.Native.Nat.{ℕ, zero, suc, ◌+◌, ◌<◌, ◌≤◌}
use native.Mathlib.Omega.{arith}
use lib.Dec.{eqb}
use borrow.Author.Tests.{eqb-true, eqb-false}
use Rattle.rules.specs.declared.Mode.{Mode}
use Rattle.rules.specs.declared.Mode.TheVariants.{Asleep, Forward, Undoing}
use Rattle.rules.specs.declared.Terms.{Terms}
use Rattle.rules.specs.Plan.{Plan, track_count, no_state, optional, host, owner}
use Rattle.rules.specs.Ledger.{Entry, Configuration, Ledger, is_awake, is_forward}
use Rattle.rules.specs.Scope.{is_open, has_open_scope}
use Rattle.rules.proofs.Tests.{look, look_option, clash, strong}
use Rattle.rules.proofs.Acceptance.{Accepted}
use Rattle.rules.proofs.Scopes.{by_host, host_by, open_find, busy_find}
use Rattle.theory.proofs.Nesting.{Awake, Nested, host_awake, host_busy}
use Rattle.theory.proofs.SoundParts.{RootsAwake}
use Rattle.restoration.proofs.Theorems01.{Sound, Kept}
use Rattle.automaton.specs.Listing.{listed_from, listed, some_of}
use Rattle.automaton.specs.Configuration.{Direction, Dev, Stack, NConf, Basic, Nest, Conf, Vect, members, push_comp, push_dev}
use Rattle.automaton.specs.Semantics.{FailReading}
use Rattle.automaton.specs.View.{stack_of, direction_of, is_within, basic, nested, view_of, is_on_top, view}
use Rattle.automaton.proofs.Listings.{alike, listed_some}
use Rattle.automaton.proofs.Frames.{down, within_parts, within_of, top_parts, top_of, shown_free, shown_busy, view_law}
use Rattle.automaton.proofs.Terminated.{members_vect, busy_open}
use Rattle.automaton.proofs.CallSteps.{over_view}

-- Stacks tell the entries held.
optional_same : (a b : ℕ) → optional a ≡ optional b → a ≡ b
unfolding optional
optional_same a b h = go (eqb a no_state) refl (eqb b no_state) refl h
  where
    go : (x : Bool) → eqb a no_state ≡ x → (y : Bool) → eqb b no_state ≡ y → cond x none (some a) ≡ cond y none (some b) → a ≡ b
    go true e true f q = eqb-true a no_state e ∙ sym (eqb-true b no_state f)
    go true e false f q = let z : ◌≡◌ {A = ℕ} 0 1 = cc in absurd (omega arith)
    go false e true f q = let z : ◌≡◌ {A = ℕ} 0 1 = cc in absurd (omega arith)
    go false e false f q = cc

-- a deviation is never on top
dev_stack : (d : ℕ) (S : Stack) (es : List Entry) → Dev d ∷ S ≡ stack_of es → ⊥
unfolding stack_of push_comp
dev_stack d S [] h = let z : ◌≡◌ {A = ℕ} 0 1 = cc in absurd (omega arith)
dev_stack d S (e ∷ es) h = let z : ◌≡◌ {A = ℕ} 0 1 = cc in absurd (omega arith)

dev_same : (a b : Option ℕ) (es fs : List Entry) → push_dev a (stack_of es) ≡ push_dev b (stack_of fs) → (a ≡ b) × (stack_of es ≡ stack_of fs)
unfolding push_dev
dev_same none none es fs h = (refl, h)
dev_same none (some d) es fs h = absurd (dev_stack d (stack_of fs) es (sym h))
dev_same (some d) none es fs h = absurd (dev_stack d (stack_of es) fs h)
dev_same (some d) (some c) es fs h = (cc, cc)

stack_same : (es fs : List Entry) → stack_of es ≡ stack_of fs → es ≡ fs
unfolding stack_of push_comp
stack_same [] [] h = refl
stack_same [] (f ∷ fs) h = let z : ◌≡◌ {A = ℕ} 0 1 = cc in absurd (omega arith)
stack_same (e ∷ es) [] h = let z : ◌≡◌ {A = ℕ} 0 1 = cc in absurd (omega arith)
stack_same (e ∷ es) (f ∷ fs) h =
    let c : e.code ≡ f.code = cc in
    let (d, r) = dev_same (optional e.deviation) (optional f.deviation) es fs cc in
    ap₂ (λ x y. x ∷ y) (ap₂ (λ x y. record { code = x; deviation = y }) c (optional_same e.deviation f.deviation d)) (stack_same es fs r)

-- One sequence, two ways.
module _ {A : Type 0} where
  heads : (x y : A) (xs ys : List A) → x ∷ xs ≡ y ∷ ys → (x ≡ y) × (xs ≡ ys)
  heads x y xs ys h = (cc, cc)

  -- the same tests, the same sequence: the same members
  from_members : (n i : ℕ) (f f' : ℕ → Bool) (g g' : ℕ → A) → ((k : ℕ) → i ≤ k → k < i + n → f k ≡ f' k) → listed_from n i f g ≡ listed_from n i f' g'
      → (k : ℕ) → i ≤ k → k < i + n → f k ≡ true → g k ≡ g' k
  unfolding listed_from
  from_members zero i f f' g g' h e k b c y = absurd (omega arith)
  from_members (suc n) i f f' g g' h e k b c y =
      go (f i) refl (f' i) refl e (λ r d. from_members n (suc i) f f' g g' (λ k b c. h k (omega arith) (omega arith)) r k d (omega arith) y)
    where
      go : (x : Bool) → f i ≡ x → (z : Bool) → f' i ≡ z
          → cond x (g i ∷ listed_from n (suc i) f g) (listed_from n (suc i) f g) ≡ cond z (g' i ∷ listed_from n (suc i) f' g') (listed_from n (suc i) f' g')
          → (listed_from n (suc i) f g ≡ listed_from n (suc i) f' g' → suc i ≤ k → g k ≡ g' k) → g k ≡ g' k
      go true p true q r ih =
          let (s, t) = heads (g i) (g' i) (listed_from n (suc i) f g) (listed_from n (suc i) f' g') r in
          elim (look (eqb i k)) [
            | inl w ↦ subst (λ j. g j ≡ g' j) (eqb-true i k w) s
            | inr w ↦ let d = eqb-false i k w in ih t (omega arith)
          ]
      go true p false q r ih = clash (sym (h i (omega arith) (omega arith)) ∙ p) q
      go false p true q r ih = clash (h i (omega arith) (omega arith) ∙ q) (sym (sym p))
      go false p false q r ih =
          elim (look (eqb i k)) [
            | inl w ↦ clash y (subst (λ j. f j ≡ false) (eqb-true i k w) p)
            | inr w ↦ let d = eqb-false i k w in ih r (omega arith)
          ]

  listed_members : (n : ℕ) (f f' : ℕ → Bool) (g g' : ℕ → A) → ((k : ℕ) → k < n → f k ≡ f' k) → listed n f g ≡ listed n f' g'
      → (k : ℕ) → k < n → f k ≡ true → g k ≡ g' k
  unfolding listed
  listed_members n f f' g g' h e k b = from_members n 0 f f' g g' (λ j c d. h j (omega arith)) e k (omega arith) (omega arith)

vect_same : (xs ys : List NConf) → Vect xs ≡ Vect ys → xs ≡ ys
vect_same xs ys h = sym (members_vect xs) ∙ ap members h ∙ members_vect ys

same_way : (a b : Mode) → is_awake a ≡ true → is_awake b ≡ true → direction_of (is_forward a) ≡ direction_of (is_forward b) → a ≡ b
unfolding direction_of is_forward is_awake
same_way Asleep b x y h = clash x refl
same_way Forward Asleep x y h = clash y refl
same_way Forward Forward x y h = refl
same_way Forward Undoing x y h = let z : ◌≡◌ {A = ℕ} 0 1 = cc in absurd (omega arith)
same_way Undoing Asleep x y h = clash y refl
same_way Undoing Forward x y h = let z : ◌≡◌ {A = ℕ} 0 1 = cc in absurd (omega arith)
same_way Undoing Undoing x y h = refl

basic_parts : (A B q r : ℕ) (d e : Direction) (S T : Stack) → Basic A q d S ≡ Basic B r e T → (q ≡ r) × (d ≡ e) × (S ≡ T)
basic_parts A B q r d e S T h = (cc, cc, cc)

nest_parts : (A B q r : ℕ) (d e : Direction) (S T : Stack) (c k : Conf) → Nest A q d S c ≡ Nest B r e T k → (q ≡ r) × (S ≡ T) × (c ≡ k)
nest_parts A B q r d e S T c k h = (cc, cc, cc)

basic-nest {ℓ} : {Z : Type ℓ} (A B q r : ℕ) (d e : Direction) (S T : Stack) (c : Conf) → Basic A q d S ≡ Nest B r e T c → Z
basic-nest A B q r d e S T c h = let z : ◌≡◌ {A = ℕ} 0 1 = cc in absurd (omega arith)

module _ (p : Plan) (ρ : FailReading) (ok : Accepted p) where
  -- two tracks shown alike
  record Same (l m : Ledger) (t : ℕ) : Type 0 where
    busy : has_open_scope p l t ≡ has_open_scope p m t
    state : (l t).state ≡ (m t).state
    held : (l t).held ≡ (m t).held
    way : has_open_scope p l t ≡ false → direction_of (is_forward (l t).mode) ≡ direction_of (is_forward (m t).mode)
    within : has_open_scope p l t ≡ true → listed (track_count p) (is_within p l t) (view_of p ρ l) ≡ listed (track_count p) (is_within p m t) (view_of p ρ m)

  same_shown : (l m : Ledger) (t : ℕ) → t < track_count p → view_of p ρ l t ≡ view_of p ρ m t → Same l m t
  unfolding basic nested
  same_shown l m t b h =
      elim (look (has_open_scope p l t)) [
        | inl x ↦
            elim (look (has_open_scope p m t)) [
              | inl y ↦
                  let (q, S, c) = nest_parts t t (l t).state (m t).state _ _ (stack_of (l t).held) (stack_of (m t).held) _ _ (sym (one l x) ∙ h ∙ one m y) in
                  record { busy = x ∙ sym y; state = q; held = stack_same (l t).held (m t).held S; way = λ f. clash x f; within = λ f. vect_same _ _ c }
              | inr y ↦ basic-nest t t (m t).state (l t).state _ _ (stack_of (m t).held) (stack_of (l t).held) _ (sym (two m y) ∙ sym h ∙ one l x)
            ]
        | inr x ↦
            elim (look (has_open_scope p m t)) [
              | inl y ↦ basic-nest t t (l t).state (m t).state _ _ (stack_of (l t).held) (stack_of (m t).held) _ (sym (two l x) ∙ h ∙ one m y)
              | inr y ↦
                  let (q, d, S) = basic_parts t t (l t).state (m t).state _ _ (stack_of (l t).held) (stack_of (m t).held) (sym (two l x) ∙ h ∙ two m y) in
                  record { busy = x ∙ sym y; state = q; held = stack_same (l t).held (m t).held S; way = λ f. d; within = λ f. clash f x }
            ]
      ]
    where
      one : (k : Ledger) → has_open_scope p k t ≡ true → view_of p ρ k t ≡ nested p ρ k t (Vect (listed (track_count p) (is_within p k t) (view_of p ρ k)))
      one k x = view_law p ρ k ok t b ∙ shown_busy p ρ k t (view_of p ρ k) x

      two : (k : Ledger) → has_open_scope p k t ≡ false → view_of p ρ k t ≡ basic p k t
      two k x = view_law p ρ k ok t b ∙ shown_free p ρ k t (view_of p ρ k) x

  -- the tracks of an open scope
  module _ (k : Ledger) (n : Nested p k) where
    scope_awake : (x h u : ℕ) → has_open_scope p k x ≡ true → (k x).state ≡ h → host p u ≡ some h → Awake k u
    scope_awake x h u b s e =
        let (v, c, f, a) = open_find p k h (subst (λ z. is_open p k z ≡ true) s (busy_open p ok k n x b)) in n.whole u v h e f ∙ a

    within_state : (x h u : ℕ) → (k x).state ≡ h → is_within p k x u ≡ true → host p u ≡ some h
    within_state x h u s y =
        let (i, a) = within_parts p k x u y in
        let (j, e, o) = by_host p x u i in
        e ∙ ap some (sym (n.hosted u j a e).0 ∙ ap (λ z. (k z).state) o ∙ s)

  module _ (l m : Ledger) (nl : Nested p l) (nm : Nested p m) (rl : RootsAwake p l) (rm : RootsAwake p m) (same : view p ρ l ≡ view p ρ m) where
    top_same : (k : ℕ) → k < track_count p → is_on_top p l k ≡ is_on_top p m k
    top_same k b =
        alike (is_on_top p l k) (is_on_top p m k) (λ y. let (e, a) = top_parts p l k y in top_of p m k e (rm k b e))
        (λ y. let (e, a) = top_parts p m k y in top_of p l k e (rl k b e))

    listings : listed (track_count p) (is_on_top p l) (view_of p ρ l) ≡ listed (track_count p) (is_on_top p m) (view_of p ρ m)
    listings = unfold view in vect_same _ _ same

    -- what is awake on the one is awake on the other, and shown alike
    lifted : (t : ℕ) → Awake l t → Awake m t × (view_of p ρ l t ≡ view_of p ρ m t)
    lifted =
        strong (λ t. Awake l t → Awake m t × (view_of p ρ l t ≡ view_of p ρ m t))
        (λ t ih a.
        let b = nl.below t a in
        elim (look_option (host p t)) [
          | inl e ↦ (rm t b e, listed_members (track_count p) (is_on_top p l) (is_on_top p m) (view_of p ρ l) (view_of p ρ m) top_same listings t b (top_of p l t e a))
          | inr q ↦
              let h = q.0 in
              let e = q.1 in
              let x = owner p h in
              let aw = host_awake p ok l nl t h a e in
              let by = host_busy p ok l nl t h a e in
              let (am, v) = ih x (ok.lower t h e) aw in
              let s = same_shown l m x (nl.below x aw) v in
              let bm = sym s.busy ∙ by in
              let sl : (l x).state ≡ h = (nl.hosted t h a e).0 in
              let sm : (m x).state ≡ h = sym s.state ∙ sl in
              let tests : (k : ℕ) → k < track_count p → is_within p l x k ≡ is_within p m x k =
              λ k c.
              alike (is_within p l x k) (is_within p m x k)
              (λ y. within_of p m x k (within_parts p l x k y).0 (scope_awake m nm x h k bm sm (within_state l nl x h k sl y)))
              (λ y. within_of p l x k (within_parts p m x k y).0 (scope_awake l nl x h k by sl (within_state m nm x h k sm y))) in (
                scope_awake m nm x h t bm sm e,
                listed_members (track_count p) (is_within p l x) (is_within p m x) (view_of p ρ l) (view_of p ρ m) tests (s.within by) t b
                    (within_of p l x t (host_by p t h e) a),
              )
        ])

    -- their modes
    modes : (t : ℕ) → t < track_count p → Awake l t → (l t).mode ≡ (m t).mode
    modes =
        down (track_count p) (λ t. Awake l t → (l t).mode ≡ (m t).mode)
        (λ t b ih a.
        let (am, v) = lifted t a in
        let s = same_shown l m t b v in
        elim (look (has_open_scope p l t)) [
          | inr f ↦ same_way (l t).mode (m t).mode a am (s.way f)
          | inl f ↦
              let (u, k, c, e, o, w) = busy_find p l t f in
              let one : (l t).mode ≡ (l u).mode = ap (λ x. (l x).mode) (sym o) ∙ (nl.hosted u k w e).1 in
              let two : (m t).mode ≡ (m u).mode = ap (λ x. (m x).mode) (sym o) ∙ (nm.hosted u k (lifted u w).0 e).1 in
              one ∙ ih u c (subst (λ x. x < u) o (ok.lower u k e)) w ∙ sym two
        ])

    awake_same : (t : ℕ) → Awake l t → l t ≡ m t
    awake_same t a =
        let b = nl.below t a in
        let s = same_shown l m t b (lifted t a).1 in
        parts (l t) (m t) (modes t b a) s.state s.held
      where
        parts : (c d : Configuration) → c.mode ≡ d.mode → c.state ≡ d.state → c.held ≡ d.held → c ≡ d
        parts c d x y z =
            ap (λ (w : Mode). record { mode = w; state = c.state; held = c.held }) x
            ∙ ap₂ (λ (w : ℕ) (v : List Entry). record { mode = d.mode; state = w; held = v }) y z

  -- two ledgers with the same view are the same
  pub view_faithful : (l m : Ledger) → Nested p l → Nested p m → RootsAwake p l → RootsAwake p m → view p ρ l ≡ view p ρ m → l ≡ m
  view_faithful l m nl nm rl rm h =
      fun_ext
      (λ t.
      elim (look (is_awake (l t).mode)) [
        | inl a ↦ awake_same l m nl nm rl rm h t a
        | inr a ↦
            elim (look (is_awake (m t).mode)) [
              | inl c ↦ sym (awake_same m l nm nl rm rl (sym h) t c)
              | inr c ↦ nl.blank t a ∙ sym (nm.blank t c)
            ]
      ])

  -- as soundness has it
  pub sound_faithful : (terms : Terms) (l m : Ledger) → Sound terms p l → Sound terms p m → view p ρ l ≡ view p ρ m → l ≡ m
  sound_faithful terms l m s r h = view_faithful l m s.formed.nested r.formed.nested s.roots r.roots h

  -- one that is not over is not shown as one that is
  pub over_unlike : (terms : Terms) (l : Ledger) → Sound terms p l → view p ρ l ≡ Vect [] → ⊥
  over_unlike terms l s h =
      elim (look_option (host p 0)) [
        | inr q ↦ let c = ok.lower 0 q.0 q.1 in omega arith
        | inl e ↦
            let a = s.roots 0 ok.some_track e in
            let w : listed (track_count p) (is_on_top p l) (view_of p ρ l) ≡ [] = unfold view in vect_same _ [] h in
            clash (listed_some (λ c. true) (track_count p) (is_on_top p l) (view_of p ρ l) 0 ok.some_track (top_of p l 0 e a) refl)
            (ap (some_of (λ c. true)) w ∙ (unfold some_of in refl))
      ]

  -- sound or over
  pub kept_faithful : (terms : Terms) (l m : Ledger) → Kept terms p l → Kept terms p m → view p ρ l ≡ view p ρ m → l ≡ m
  kept_faithful terms l m (inl a) (inl b) h = fun_ext (λ t. a t ∙ sym (b t))
  kept_faithful terms l m (inl a) (inr b) h = absurd (over_unlike terms m b (sym h ∙ over_view p ρ ok l a))
  kept_faithful terms l m (inr a) (inl b) h = absurd (over_unlike terms l a (h ∙ over_view p ρ ok m b))
  kept_faithful terms l m (inr a) (inr b) h = sound_faithful terms l m a b h
