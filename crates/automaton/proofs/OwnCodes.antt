-- On the ledgers that lists of calls reach, a track holds codes of its own transitions, where replacements are 0: installing adds such a
-- code, and nothing else adds one. Part by part of a call. Assumes nothing.
use mathlib.Core.Path.{◌≡◌, refl, ap, ◌∙◌}
use mathlib.Core.Logic.{inl, inr}
use mathlib.Core.Bool.{Bool, true, false}
use mathlib.Core.List.{List, [], ◌∷◌}
use mathlib.Core.Option.{Option}
use Prim.Native.Nat.{ℕ}
use lib.Dec.{eqb}
use borrow.Author.Tests.{eqb-true, eqb-false, eq-eqb}
use Rattle.rules.specs.Names.{Day}
use Rattle.rules.specs.declared.Terms.{Terms}
use Rattle.rules.specs.Plan.{Plan, owner, transition, no_state, replacement}
use Rattle.rules.specs.Ledger.{Entry, Configuration, Ledger, is_empty, sleeping}
use Rattle.rules.specs.Opening.{begun, enter}
use Rattle.rules.specs.Event.{EventArguments, install, move, moved, is_closed, closes_scope, closed}
use Rattle.rules.specs.Signal.{turned, is_abandoned, abandoned}
use Rattle.rules.specs.Fire.{newest, older, removed, deviates_to, fired}
use Rattle.rules.specs.Soundness.{every_held}
use Rattle.rules.specs.Call.{Call, event, signal, fire, call_refusal, next}
use Rattle.rules.specs.FinishedRun.{Reached}
use Rattle.rules.specs.FinishedRun as run
use Rattle.rules.proofs.Tests.{look, look_option, clash, and_holds, and_both}
use Rattle.rules.proofs.Acceptance.{Accepted}
use Rattle.rules.proofs.Closing.{closed_asleep, closed_replaced, closed_kept}
use Rattle.rules.proofs.Abandoning.{left_asleep, left_kept}
use Rattle.theory.proofs.Nesting.{Nested}
use Rattle.theory.proofs.EnteringNested.{Fate, enters, wakens, stays, fate, fresh_held}
use Rattle.theory.proofs.FiringNested.{fired_is, removed_here, removed_other}
use Rattle.theory.proofs.SoundParts.{sleeping_held}
use Rattle.theory.proofs.SoundBegin.{all_asleep_lem}
use Rattle.restoration.proofs.Theorems01.{move_takes, installed_held, by_none, by_some, turned_held, work, next_cases, next_refused, reached_kept, over_refused, recorded, goes, moved_is, mover_is, Kept, over_is}
use Rattle.automaton.specs.SelfCancelling.{Perfect}
use Rattle.automaton.proofs.StringBooks.{is_code_of, code_of}

module _ (p : Plan) where
  own : ℕ → List Entry → Bool
  own t es = every_held (λ e. is_code_of p t e.code) es

  abbrev pub Own : Ledger → Type 0
  Own l = (t : ℕ) → every_held (λ e. is_code_of p t e.code) (l t).held ≡ true

  none_own : (t : ℕ) (es : List Entry) → es ≡ [] → own t es ≡ true
  unfolding own every_held
  none_own t es e = rw (e, every_held)

  older_own : (t : ℕ) (es : List Entry) → own t es ≡ true → own t (older es) ≡ true
  unfolding own every_held older
  older_own t [] h = h
  older_own t (e ∷ es) h = (and_holds (is_code_of p t e.code) (every_held (λ e. is_code_of p t e.code) es) h).1

  install_own : (t c d : ℕ) (es : List Entry) → (eqb c 0 ≡ false → is_code_of p t c ≡ true) → own t es ≡ true → own t (install c d es) ≡ true
  unfolding own every_held install
  install_own t c d es k h =
      elim (look (eqb c 0)) [
        | inl q ↦ rw q h
        | inr q ↦ rw q (and_both (is_code_of p t c) (every_held (λ e. is_code_of p t e.code) es) (k q) h)
      ]

  -- the newest entry's code is the track's own
  pub newest_own : (t : ℕ) (es : List Entry) → every_held (λ e. is_code_of p t e.code) es ≡ true → is_empty es ≡ false → is_code_of p t (newest es).code ≡ true
  unfolding every_held newest is_empty
  newest_own t [] h e = clash refl e
  newest_own t (x ∷ es) h e = (and_holds (is_code_of p t x.code) (every_held (λ e. is_code_of p t e.code) es) h).0

  module _ (ok : Accepted p) where
    enter_own : (l : Ledger) (to : ℕ → Option ℕ) → ((t : ℕ) → own t (l t).held ≡ true) → (t : ℕ) → own t (enter p to l t).held ≡ true
    enter_own l to h t = go (fate p ok l to t)
      where
        go : Fate p ok l to t → own t (enter p to l t).held ≡ true
        go (enters s e q) = ap (λ (c : Configuration). own t c.held) q ∙ h t
        go (wakens e w q) = none_own t (enter p to l t).held (ap (λ (c : Configuration). c.held) q ∙ fresh_held p t)
        go (stays e w q) = ap (λ (c : Configuration). own t c.held) q ∙ h t

    module _ (comp : ℕ → ℕ) (perfect : Perfect comp p) where
      recorded_own : (l : Ledger) → Nested p l → (e : EventArguments) → ((t : ℕ) → own t (l t).held ≡ true) → (t : ℕ) → own t (recorded p l e t).held ≡ true
      recorded_own l n e h t =
          elim (look_option (move p l e t)) [
            | inl q ↦ ap (λ (c : Configuration). own t c.held) (by_none p (move p l e t) (l t) q) ∙ h t
            | inr q ↦
                let x = q.0 in
                ap (own t) (by_some p (move p l e t) (l t) x q.1)
                ∙ install_own t (transition p x).code (transition p x).deviation (l t).held
                (λ z. code_of p t x (move_takes p l e t x q.1).real (mover_is p l e ok n t x q.1)) (h t)
          ]

      moved_own : (l : Ledger) → Nested p l → (e : EventArguments) → ((t : ℕ) → own t (l t).held ≡ true) → (t : ℕ) → own t (moved p l e t).held ≡ true
      moved_own l n e h t = ap (λ m. own t (m t).held) (moved_is p l e) ∙ enter_own (recorded p l e) (goes p l e) (recorded_own l n e h) t

      closed_own : (l : Ledger) → ((t : ℕ) → own t (l t).held ≡ true) → (t : ℕ) → own t (closed p l t).held ≡ true
      closed_own l h t =
          elim (look (is_closed p l t)) [
            | inl c ↦ none_own t (closed p l t).held (ap (λ (k : Configuration). k.held) (closed_asleep p l t c) ∙ sleeping_held)
            | inr c ↦
                elim (look (closes_scope p l t)) [
                  | inl d ↦
                      let r = replacement p (l t).state in
                      ap (λ (k : Configuration). own t k.held) (closed_replaced p l t c d) ∙ ap (own t) (installed_held r no_state (l t))
                      ∙ install_own t r no_state (l t).held (λ z. clash (eq-eqb r 0 ((perfect (owner p (l t).state)).replacements (l t).state refl)) z) (h t)
                  | inr d ↦ ap (λ (k : Configuration). own t k.held) (closed_kept p l t c d) ∙ h t
                ]
          ]

      left_own : (l : Ledger) → ((t : ℕ) → own t (l t).held ≡ true) → (t : ℕ) → own t (abandoned p l t).held ≡ true
      left_own l h t =
          elim (look (is_abandoned p l t)) [
            | inl c ↦ none_own t (abandoned p l t).held (ap (λ (k : Configuration). k.held) (left_asleep p ok l t c) ∙ sleeping_held)
            | inr c ↦ ap (λ (k : Configuration). own t k.held) (left_kept p ok l t c) ∙ h t
          ]

      removed_own : (l : Ledger) (t : ℕ) → ((u : ℕ) → own u (l u).held ≡ true) → (u : ℕ) → own u (removed l t u).held ≡ true
      removed_own l t h u =
          elim (look (eqb u t)) [
            | inl e ↦ ap (own u) (removed_here p l t u e) ∙ older_own u (l u).held (h u)
            | inr e ↦ ap (λ (k : Configuration). own u k.held) (removed_other p l t u e) ∙ h u
          ]

      work_own : (l : Ledger) → Nested p l → (c : Call) → ((t : ℕ) → own t (l t).held ≡ true) → (t : ℕ) → own t (work p l c t).held ≡ true
      work_own l n (event a) h = closed_own (moved p l a) (moved_own l n a h)
      work_own l n (signal a) h = left_own (turned p a.society l) (λ t. ap (own t) (turned_held p ok a l t) ∙ h t)
      work_own l n (fire a) h =
          left_own (fired p l a.track)
          (λ u. ap (λ m. own u (m u).held) (fired_is p l a.track) ∙ enter_own (removed l a.track) (deviates_to l a.track) (removed_own l a.track h) u)

      module _ (terms : Terms) where
        next_own : (d : Day) (l : Ledger) → Kept terms p l → (c : Call) → ((t : ℕ) → own t (l t).held ≡ true) → (t : ℕ) → own t (next terms p d l c t).held ≡ true
        next_own d l k c h t =
            elim (look (eqb (call_refusal terms p d l c) 0)) [
              | inr z ↦ ap (λ m. own t (m t).held) (next_refused terms p d l c (eqb-false (call_refusal terms p d l c) 0 z)) ∙ h t
              | inl z ↦
                  let e = eqb-true (call_refusal terms p d l c) 0 z in
                  elim (next_cases terms p ok d l c e) [
                    | inl q ↦ ap (λ m. own t (m t).held) q ∙ work_own l (nested k e) c h t
                    | inr o ↦ none_own t (next terms p d l c t).held (ap (λ (x : Configuration). x.held) (o t) ∙ sleeping_held)
                  ]
            ]
          where
            nested : Kept terms p l → call_refusal terms p d l c ≡ 0 → Nested p l
            nested (inl o) e = absurd (over_refused terms p d l (over_is p l o) c e)
            nested (inr s) e = s.formed.nested

        reached_held : {d : Day} {l : Ledger} → Reached p terms d l → (t : ℕ) → own t (l t).held ≡ true
        unfolding begun
        reached_held run.start t = enter_own (all_asleep_lem terms p ok) _ (λ u. none_own u sleeping.held sleeping_held) t
        reached_held (run.then {d = d} {l = l} r c) t = next_own d l (reached_kept terms p ok r) c (λ u. reached_held r u) t

        pub reached_own : {d : Day} {l : Ledger} → Reached p terms d l → Own l
        unfolding own
        reached_own r t = reached_held r t
