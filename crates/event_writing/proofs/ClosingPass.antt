-- The pass that closes scopes: the marks are the rules', so the visits together are the rules' closing. Assumes nothing.
use Rattle.std.proofs.Common.{◌≡◌, sym, ap, ap₂, ◌∙◌, inl, inr, Bool, true, false, cond, not, ◌&&◌, List, ℕ, ◌<◌, arith, eqb, length, get_or, ne_eqb}
use Rattle.std.proofs.Math.Option.{some}
use Rattle.rules.specs.declared.Counts.{Counts}
use Rattle.rules.specs.declared.Terms.{Terms}
use Rattle.rules.specs.Plan.{Plan, plan_of, track_count, no_state, host, owner, replacement}
use Rattle.rules.specs.Ledger.{Configuration, Ledger, is_awake, sleeping, written}
use Rattle.rules.specs.Event.{installed, is_closing, is_closed, closes_scope, closed, is_replaced}
use Rattle.rules.proofs.Modes.{forward_awake}
use Rattle.rules.proofs.Tests.{look, look_option, clash, refuted, and_holds, and_both}
use Rattle.rules.proofs.Stored.{written_same}
use Rattle.rules.proofs.Closing.{closed_host, closed_root, closing_final}
use Rattle.plan.proofs.FieldLaws.{track_count_lem, state_count_lem}
use Rattle.ledger.specs.Ladder.{Tidy, Accepts, ledger_of}
use Rattle.lookup.proofs.Facts.{plan_facts}
use Rattle.lookup.proofs.OneTrackLaws.{Stores, stores_sleeping, stores_at, holds, Fitting, through, passed, pass_start, pass_old}
use Rattle.event_writing.specs.EventParts.{Closings, is_closed_by, closed_by}
use Rattle.event_writing.proofs.InstallingPass.{installed_stores}

module _ (terms : Terms) (bs : List ℕ) (c : Counts) (acc : Accepts bs c) (ws : List ℕ) (o : Tidy terms ws c.tracks) (ms : List Bool)
    (k : Closings terms (plan_of bs c) (ledger_of terms c ws) ms) where
  abbrev p : Plan
  p = plan_of bs c

  abbrev l : Ledger
  l = ledger_of terms c ws

  low : {t : ℕ} → t < c.tracks → t < track_count p
  low b = omega (arith, track_count_lem bs c)

  -- a track is in a scope that closes if it is awake and its host's track is marked
  closed_is : (t : ℕ) → is_closed_by p ms t (is_awake (l t).mode) ≡ is_closed p l t
  unfolding is_closed_by closes_scope
  closed_is t =
      elim (look_option (host p t)) [
        | inl e ↦ (rw (e, is_closed_by)) ∙ sym (closed_root p l t e)
        | inr e ↦
            let ok = plan_facts bs c acc in
            let mark = k.marks.at (owner p e.0) (ok.owned e.0 (ok.host_state t e.0 e.1)) in
            (rw (e.1, is_closed_by)) ∙ ap (λ b. is_awake (l t).mode && b) mark ∙ by e.0 e.1 ∙ sym (closed_host p l t e.0 e.1)
      ]
    where
      by : (h : ℕ) → host p t ≡ some h → (is_awake (l t).mode && (is_awake (l (owner p h)).mode && is_closing p l (l (owner p h)).state)) ≡ is_closing p l h
      by h e =
          elim (look (is_awake (l t).mode)) [
            | inl a ↦ let (b, s) = k.hosting t h e a in rw (a, b, s)
            | inr a ↦
                rw a
                (sym (refuted (is_closing p l h) (λ q. clash (forward_awake (l t).mode (closing_final p l h t q ((plan_facts bs c acc).hosted t h e) e).0) a)))
          ]

  marked : {t : ℕ} → t < c.tracks → get_or ms t false ≡ closes_scope p l t
  marked {t} b = k.marks.at t (low b)

  marked_awake : {t : ℕ} → t < c.tracks → get_or ms t false ≡ true → is_awake (l t).mode ≡ true
  unfolding closes_scope
  marked_awake {t} b y = (and_holds (is_awake (l t).mode) _ (sym (marked b) ∙ y)).0

  abbrev pub closing : ℕ → Configuration → Configuration
  closing t x = closed_by p ms t x

  -- room for the replacement
  spare : {t : ℕ} → t < c.tracks → get_or ms t false ≡ true → not (eqb (replacement p (l t).state) 0) ≡ true → length (l t).held < terms.limit
  unfolding is_replaced
  spare {t} b y n = k.room t (low b) (and_both (closes_scope p l t) _ (sym (marked b) ∙ y) n)

  closing_stores : (t : ℕ) → t < c.tracks → Stores terms (closing t (l t))
  unfolding closed_by
  closing_stores t b =
      let s = stores_at terms c.tracks l (holds terms c ws o) t in
      elim (look (is_closed_by p ms t (is_awake (l t).mode))) [
        | inl q ↦ rw q (stores_sleeping terms)
        | inr q ↦
            elim (look (get_or ms t false)) [
              | inl y ↦ rw (q, y) (installed_stores terms (replacement p (l t).state) no_state (l t) s (marked_awake b y) (spare b y))
              | inr y ↦ rw (q, y) s
            ]
      ]

  pub closing_fits : Fitting terms c ws o closing
  closing_fits = record { fits = λ t b. (closing_stores t b).fits; blank = λ t b. (closing_stores t b).blank }

  pub closing_start : ws ≡ written terms c.tracks (through terms c ws o closing 0) ws
  closing_start = pass_start terms c ws o closing

  -- all visits together
  pub closing_all : written terms c.tracks (passed terms c ws o closing) ws ≡ written terms c.tracks (closed p l) ws
  unfolding closed closed_by
  closing_all =
      written_same terms c.tracks _ _ ws
      (λ t b. ap₂ (λ x y. cond x sleeping (cond y (installed (replacement p (l t).state) no_state (l t)) (l t))) (closed_is t) (marked b))

  module _ (i : ℕ) (b : i < c.tracks) {vs : List ℕ} (e : vs ≡ written terms c.tracks (through terms c ws o closing i) ws) (y : get_or ms i false ≡ true) where
    as_it_was : ledger_of terms c vs i ≡ l i
    as_it_was = pass_old terms c ws o closing closing_fits i (omega arith) e i (omega arith)

    -- what a visit needs
    pub closing_needs : ((ledger_of terms c vs i).state < c.states) × ((replacement p (ledger_of terms c vs i).state ≡ 0 → ⊥) → length (ledger_of terms c vs i).held < terms.limit)
    closing_needs =
        let n = state_count_lem bs c in
        let s = k.state i (low b) (sym (marked b) ∙ y) in (
          omega (arith, ap (λ (x : Configuration). x.state) as_it_was),
          λ z.
              let q = ap (λ (x : Configuration). replacement p x.state) as_it_was in
              let r = spare b y (ap not (ne_eqb (replacement p (l i).state) 0 (λ f. z (q ∙ f)))) in
              omega (arith, ap (λ (x : Configuration). length x.held) as_it_was),
        )
