-- Begin's ledger is sound: what is awake is fresh, and first states are not final. Assumes nothing.
use mathlib.Core.Path.{◌≡◌, refl, ap, ◌∙◌, subst}
use mathlib.Core.Logic.{inl, inr}
use mathlib.Core.Bool.{true, false, ◌&&◌, ◌||◌, and-false}
use mathlib.Core.Option.{none, some}
use Prim.Native.Nat.{ℕ, ◌<◌}
use native.Mathlib.Omega.{arith}
use lib.Dec.{ltb}
use borrow.Author.Tests.{ltb-true}
use Rattle.rules.specs.Plan.{Plan, track_count, host, is_root, is_state_of, is_final, first_state, every_in}
use Rattle.rules.specs.Ledger.{Ledger, is_awake, is_forward, sleeping}
use Rattle.rules.specs.Scope.{is_open, has_open_scope, is_ended, is_bare}
use Rattle.rules.specs.Opening.{fresh, wakes, roots_first, begun}
use Rattle.rules.specs.Event.{is_closing}
use Rattle.rules.specs.Signal.{is_abandoning}
use Rattle.rules.proofs.Tests.{look, look_option, clash, none-some, refuted, and_holds}
use Rattle.rules.proofs.Modes.{is_forward_lem, undoing_forward}
use Rattle.rules.proofs.Acceptance.{Accepted}
use Rattle.rules.proofs.Scopes.{root_none, host_in, every_in_at, open_find, busy_find}
use Rattle.rules.proofs.Closing.{closing_final}
use Rattle.rules.proofs.Abandoning.{bare_parts}
use Rattle.rules.proofs.Opening.{begun_root, begun_woken, begun_asleep}
use Rattle.theory.specs.Seams.{Seams}
use Rattle.theory.proofs.Nesting.{Awake}
use Rattle.theory.proofs.EnteringNested.{Enterable, fresh_awake, fresh_mode, fresh_state}
use Rattle.theory.proofs.SoundParts.{Formed, RootsAwake, Sound, sleeping_held, sleeping_few, sleeping_good, sleeping_asleep}
use Rattle.theory.proofs.Laws.{Laws}
use Rattle.theory.proofs.ClosingNested.{closing_open}
use Rattle.theory.proofs.Forming.{enter_formed}
use Rattle.rules.specs.declared.Terms.{Terms}

-- abandoning is due: the scope is open, and each of its tracks is bare
pub abandoning_open : (p : Plan) (l : Ledger) (s : ℕ) → is_abandoning p l s ≡ true → is_open p l s ≡ true
unfolding is_abandoning
abandoning_open p l s h = (and_holds (is_open p l s) (every_in p s (is_bare p l)) h).0

pub abandoning_bare : (p : Plan) → Accepted p → (l : Ledger) (s t : ℕ) → is_abandoning p l s ≡ true → host p t ≡ some s → is_bare p l t ≡ true
unfolding is_abandoning
abandoning_bare p ok l s t h e =
    every_in_at p s (is_bare p l) (and_holds (is_open p l s) (every_in p s (is_bare p l)) h).1 t (ok.hosted t s e) (host_in p s t e)

-- track 0 is a root
pub root_zero : (p : Plan) → Accepted p → host p 0 ≡ none
root_zero p ok =
    elim (look_option (host p 0)) [ inl e ↦ e | inr e ↦ let l = ok.lower 0 e.0 e.1 in absurd (omega arith) ]

module _ (terms : Terms) (p : Plan) (ok : Accepted p) where
  abbrev pub all_asleep_lem : Ledger
  all_asleep_lem t = sleeping

  pub asleep_formed : Formed terms p all_asleep_lem
  asleep_formed =
      record {
        nested =
            record {
              below = λ t a. clash a sleeping_asleep;
              own = λ t a. clash a sleeping_asleep;
              hosted = λ t h a e. clash a sleeping_asleep;
              whole = λ t u h e f. refl;
              blank = λ t a. refl;
            };
        few = λ t. sleeping_few terms p sleeping sleeping_held;
        good = λ t. sleeping_good terms p t sleeping sleeping_held;
      }

  -- who enters at begin is a root
  roots_known : (t s : ℕ) → roots_first p t ≡ some s → (t < track_count p) × (host p t ≡ none) × (first_state p t ≡ s)
  unfolding roots_first
  roots_known t s h =
      elim (look (ltb t (track_count p) && is_root p t)) [
        | inl k ↦
            let (b, r) = and_holds (ltb t (track_count p)) (is_root p t) k in
            let q : some (first_state p t) ≡ some s = rw k at h in
            (ltb-true t (track_count p) b, root_none p t r, cc)
        | inr k ↦ let q : none ≡ some s = rw k at h in none-some refl q
      ]

  pub roots_free : Enterable p all_asleep_lem (roots_first p)
  roots_free =
      record {
        free =
            λ t s h.
            refuted (has_open_scope p all_asleep_lem t)
            (λ o. let (u, k, b, e, q, a) = busy_find p all_asleep_lem t o in clash a sleeping_asleep);
        own =
            λ t s h.
            let (b, e, q) = roots_known t s h in
            subst (λ y. is_state_of p t y ≡ true) q (ok.first_own t b);
        forward = λ t s h k e. none-some (roots_known t s k).1 e;
      }

  pub begun_formed : Formed terms p (begun p)
  unfolding begun
  begun_formed = enter_formed terms p ok all_asleep_lem asleep_formed (roots_first p) roots_free

  -- what is awake is fresh
  pub begun_fresh : (t : ℕ) → Awake (begun p) t → begun p t ≡ fresh p t
  begun_fresh t a =
      elim (look_option (host p t)) [
        | inl e ↦ begun_root p ok t (begun_formed.nested.below t a) e
        | inr e ↦
            elim (look (wakes p (roots_first p) t)) [
              | inl w ↦ begun_woken p ok t e.0 e.1 w
              | inr w ↦ clash a (ap (λ c. is_awake c.mode) (begun_asleep p ok t e.0 e.1 w) ∙ sleeping_asleep)
            ]
      ]

  begun_open : (t : ℕ) → Awake (begun p) t → is_final p (begun p t).state ≡ false
  begun_open t a =
      ap (is_final p) (ap (λ c. c.state) (begun_fresh t a) ∙ fresh_state p t) ∙ ok.first_open t (begun_formed.nested.below t a)

  begun_roots : RootsAwake p (begun p)
  begun_roots t b e = ap (λ c. is_awake c.mode) (begun_root p ok t b e) ∙ fresh_awake p t

  -- nothing is undone yet
  begun_not_bare : (t : ℕ) → Awake (begun p) t → is_bare p (begun p) t ≡ false
  begun_not_bare t a =
      refuted (is_bare p (begun p) t)
      (λ h.
      clash (is_forward_lem (begun p t).mode (ap (λ c. c.mode) (begun_fresh t a) ∙ fresh_mode p t))
      (undoing_forward (begun p t).mode (bare_parts p ok (begun p) t h).0))

  begun_going : (t : ℕ) → Awake (begun p) t → (is_ended p (begun p) t || is_bare p (begun p) t) ≡ false
  begun_going t a =
      rw (begun_open t a, and-false (is_forward (begun p t).mode)) (begun_not_bare t a)

module _ {σ : Seams} (ω : Laws σ) (terms : Terms) (p : Plan) (ok : Accepted p) where
  pub begun_sound : Sound σ terms p (begun p)
  begun_sound =
      record {
        formed = begun_formed terms p ok;
        roots = begun_roots terms p ok;
        closing =
            λ s.
            refuted (is_closing p (begun p) s)
            (λ c.
            let (t, b, e, a) = open_find p (begun p) s (closing_open p (begun p) s c) in
            clash (closing_final p (begun p) s t c b e).1 (begun_open terms p ok t a));
        finish =
            let z = root_zero p ok in
            ω.goes_on p (begun p) 0 ok.some_track z (begun_going terms p ok 0 (begun_roots terms p ok 0 ok.some_track z));
        abandoning =
            λ s.
            refuted (is_abandoning p (begun p) s)
            (λ c.
            let (t, b, e, a) = open_find p (begun p) s (abandoning_open p (begun p) s c) in
            clash (abandoning_bare p ok (begun p) s t c e) (begun_not_bare terms p ok t a));
      }
