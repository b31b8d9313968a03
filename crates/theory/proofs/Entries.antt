-- The entries that a track of a sound ledger may hold: a code other than 0, and a deviation, if any, to a non-final state of that root.
-- Removing keeps them so. Assumes nothing.
use mathlib.Core.Path.{◌≡◌, refl, subst}
use mathlib.Core.Logic.{inl, inr}
use mathlib.Core.Bool.{Bool, true, false, not, ◌&&◌, ◌||◌}
use mathlib.Core.List.{List, [], ◌∷◌}
use mathlib.Core.Option.{none, some}
use Prim.Native.Nat.{ℕ, suc, ◌<◌, ◌≤◌}
use native.Mathlib.Omega.{arith}
use lib.ListN.{length}
use lib.Dec.{eqb}
use borrow.Author.Tests.{not-true, eq-eqb}
use Rattle.rules.specs.Plan.{Plan, transition_count, no_state, optional, host, transition, mover, is_root, is_state_of, is_final}
use Rattle.rules.specs.Ledger.{Entry, Ledger, is_empty}
use Rattle.rules.specs.Fire.{newest, older}
use Rattle.rules.specs.Soundness.{every_held, good_deviation}
use Rattle.rules.proofs.Tests.{look, look_option, clash, and_holds, or_right}
use Rattle.rules.proofs.Acceptance.{Accepted, optional_some}
use Rattle.rules.proofs.Scopes.{root_none}

module _ (p : Plan) where
  abbrev pub is_real : Entry → Bool
  is_real e = not (eqb e.code 0)

  -- a deviation that a track may hold, whatever the ledger
  unfoldable pub may_deviate : ℕ → ℕ → Bool
  may_deviate t d = eqb d no_state || (is_root p t && is_state_of p t d && not (is_final p d))

  pub record Good (t : ℕ) (es : List Entry) : Type 0 where
    pub codes : every_held is_real es ≡ true
    pub deviations : every_held (λ e. may_deviate t e.deviation) es ≡ true

  pub may_deviate_lem : (l : Ledger) (t : ℕ) (es : List Entry) → every_held (λ e. good_deviation p t e.deviation) es ≡ every_held (λ e. may_deviate t e.deviation) es
  unfolding good_deviation may_deviate
  may_deviate_lem l t es = refl

  pub good_nil : (t : ℕ) → Good t []
  unfolding every_held
  good_nil t = record { codes = refl; deviations = refl }

  pub good_more : (t : ℕ) (x : Entry) (es : List Entry) → eqb x.code 0 ≡ false → may_deviate t x.deviation ≡ true → Good t es → Good t (x ∷ es)
  unfolding every_held
  good_more t x es h k g = record { codes = rw h g.codes; deviations = rw k g.deviations }

  pub good_older : (t : ℕ) (es : List Entry) → Good t es → Good t (older es)
  unfolding older every_held
  good_older t [] g = g
  good_older t (e ∷ es) g =
      record {
        codes = (and_holds (is_real e) (every_held is_real es) g.codes).1;
        deviations = (and_holds (may_deviate t e.deviation) (every_held (λ e. may_deviate t e.deviation) es) g.deviations).1;
      }

  -- no deviation may always be held, and a transition's own by its track
  pub may_none : (t : ℕ) → may_deviate t no_state ≡ true
  unfolding may_deviate
  may_none t = rw (eq-eqb no_state no_state refl)

  no_deviation : (w : ℕ) → optional w ≡ none → eqb w no_state ≡ true
  unfolding optional
  no_deviation w h =
      elim (look (eqb w no_state)) [
        | inl e ↦ e
        | inr e ↦ let q : some w ≡ none = rw e at h in let z : ◌≡◌ {A = ℕ} 0 1 = cc in absurd (omega arith)
      ]

  pub may_own : (ok : Accepted p) (x t : ℕ) → x < transition_count p → mover p x ≡ t → may_deviate t (transition p x).deviation ≡ true
  unfolding may_deviate
  may_own ok x t b m =
      elim (look_option (optional (transition p x).deviation)) [
        | inl h ↦ rw (no_deviation (transition p x).deviation h)
        | inr h ↦
            let d = (transition p x).deviation in
            let q : d ≡ h.0 = (optional_some d h.0 h.1).0 in
            or_right (eqb d no_state) (is_root p t && is_state_of p t d && not (is_final p d))
            (subst (λ y. (is_root p y && is_state_of p y d && not (is_final p d)) ≡ true) m
            (rw (q, ok.deviation_root x h.0 b h.1, ok.deviation_own x h.0 b h.1, ok.deviation_open x h.0 b h.1)))
      ]

  -- where the newest entry deviates to
  pub deviates : (t d : ℕ) (es : List Entry) → Good t es → optional (newest es).deviation ≡ some d
      → (host p t ≡ none) × (is_state_of p t d ≡ true) × (is_final p d ≡ false)
  unfolding newest every_held may_deviate
  deviates t d [] g h =
      let q = (optional_some no_state d h).1 in clash (eq-eqb no_state no_state refl) q
  deviates t d (e ∷ es) g h =
      let (q, n) = optional_some e.deviation d h in
      let (x, y) = and_holds (may_deviate t e.deviation) (every_held (λ e. may_deviate t e.deviation) es) g.deviations in
      let z : (is_root p t && is_state_of p t d && not (is_final p d)) ≡ true = rw (n, q) at x in
      let (u, f) = and_holds (is_root p t && is_state_of p t d) (not (is_final p d)) z in
      let (r, o) = and_holds (is_root p t) (is_state_of p t d) u in
      (root_none p t r, o, not-true (is_final p d) f)

-- how many entries
pub older_length : (es : List Entry) → length (older es) ≤ length es
unfolding older
older_length [] = omega arith
older_length (e ∷ es) = omega arith

pub older_less : (es : List Entry) → is_empty es ≡ false → suc (length (older es)) ≡ length es
unfolding older is_empty
older_less [] h = clash refl h
older_less (e ∷ es) h = refl

pub empty_nil : (es : List Entry) → is_empty es ≡ true → es ≡ []
unfolding is_empty
empty_nil [] h = refl
empty_nil (e ∷ es) h = clash h refl
