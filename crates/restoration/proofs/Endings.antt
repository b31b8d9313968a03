-- How a link ends. Where finish is due only roots are awake: a scope would be open below one, and an ended root is in a final state, which hosts
-- nothing. So all that is dropped is held by ended roots. A signal finishes only where a root that it leaves has ended before and every root that
-- it turns holds nothing; no event that closes a scope finishes, and no firing that deviates: each leaves a root that neither has ended nor is bare.
-- Assumes nothing.
use mathlib.Core.Path.{◌≡◌, sym, ap, ◌∙◌, subst}
use mathlib.Core.Logic.{inl, inr}
use mathlib.Core.Bool.{Bool, true, false, not, and-false, ◌&&◌}
use mathlib.Core.Option.{none, some}
use Prim.Native.Nat.{ℕ, ◌<◌}
use lib.Dec.{eqb}
use borrow.Author.Tests.{eqb-true}
use Rattle.rules.specs.declared.Mode.TheVariants.{Forward}
use Rattle.rules.specs.declared.Terms.{Terms}
use Rattle.rules.specs.Fold.{some_below}
use Rattle.rules.specs.Plan.{Plan, track_count, no_state, optional, host, owner, is_root, is_final}
use Rattle.rules.specs.Rights.{signal_right, is_permitted}
use Rattle.rules.specs.Ledger.{Configuration, Ledger, is_awake, is_forward, is_undoing, is_empty, sleeping}
use Rattle.rules.specs.Scope.{has_open_scope, is_ended, is_bare}
use Rattle.rules.specs.Finish.{is_finishing}
use Rattle.rules.specs.Event.{EventArguments, moved, is_closing, is_closed, closed}
use Rattle.rules.specs.Signal.{turned, abandoned}
use Rattle.rules.specs.Call.{SignalArguments}
use Rattle.rules.specs.Fire.{newest, may_fire, removed, deviates_to, fired}
use Rattle.rules.proofs.Tests.{look, look_option, clash, refuted, and_holds, and_both, or_holds, strong}
use Rattle.rules.proofs.Folds.{some_find, some_not}
use Rattle.rules.proofs.Modes.{undoing_forward, forward_awake}
use Rattle.rules.proofs.Acceptance.{Accepted}
use Rattle.rules.proofs.Scopes.{open_find, busy_at, root_of_lem, root_none}
use Rattle.rules.proofs.Opening.{enter_to}
use Rattle.rules.proofs.Closing.{closing_final, closed_host, closed_root, closed_alike}
use Rattle.rules.proofs.Abandoning.{bare_parts, left_kept, abandoned_root}
use Rattle.rules.proofs.RightsLaws.{permitted_up}
use Rattle.rules.proofs.Finishing.{Done, finishing_done, goes_on}
use Rattle.rules.proofs.Ready.{may_fire_lem}
use Rattle.theory.proofs.Nesting.{Nested}
use Rattle.theory.proofs.Entries.{deviates}
use Rattle.theory.proofs.FiringNested.{fired_is, deviates_here}
use Rattle.theory.proofs.ClosingNested.{closing_open, final_free}
use Rattle.theory.proofs.SoundRetraction.{fired_root}
use Rattle.restoration.proofs.Document01.{laws01}
use Rattle.restoration.proofs.Theorems01.{Sound, moved_nested, closed_nested, turned_held, turned_same, signal_forward, steady}

module _ (p : Plan) (ok : Accepted p) (m : Ledger) (n : Nested p m) (f : is_finishing p m ≡ true) where
  done : Done p m
  done = finishing_done p m f

  root_free : (r : ℕ) → r < track_count p → host p r ≡ none → has_open_scope p m r ≡ false
  root_free r b e =
      elim (or_holds (is_ended p m r) (is_bare p m r) (done.every r b e)) [
        | inl x ↦ final_free p ok m n r (and_holds (is_forward (m r).mode) (is_final p (m r).state) x).1
        | inr x ↦ (bare_parts p ok m r x).2
      ]

  -- only roots are awake
  pub only_roots : (u h : ℕ) → host p u ≡ some h → is_awake (m u).mode ≡ false
  only_roots =
      strong (λ u. (h : ℕ) → host p u ≡ some h → is_awake (m u).mode ≡ false)
      (λ u ih h e.
      refuted (is_awake (m u).mode)
      (λ a.
      elim (look_option (host p (owner p h))) [
        | inl g ↦ clash (busy_at p m u h (ok.hosted u h e) e a) (root_free (owner p h) (ok.owned h (ok.host_state u h e)) g)
        | inr g ↦ clash (ap is_awake (n.hosted u h a e).1 ∙ a) (ih (owner p h) (ok.lower u h e) g.0 g.1)
      ]))

  -- who holds an entry is a root that has ended
  pub held_ended : (t : ℕ) → is_empty (m t).held ≡ false → (host p t ≡ none) × (is_ended p m t ≡ true)
  unfolding sleeping is_empty
  held_ended t h =
      elim (look (is_awake (m t).mode)) [
        | inr a ↦ clash (ap (λ (c : Configuration). is_empty c.held) (n.blank t a)) h
        | inl a ↦
            elim (look_option (host p t)) [
              | inr g ↦ clash a (only_roots t g.0 g.1)
              | inl g ↦ (
                g,
                elim (or_holds (is_ended p m t) (is_bare p m t) (done.every t (n.below t a) g))
                    [ inl x ↦ x | inr x ↦ clash (bare_parts p ok m t x).1 h ],
              )
            ]
      ]

module _ (terms : Terms) (p : Plan) (ok : Accepted p) (l : Ledger) (s : Sound terms p l) where
  -- an event that finishes closes no scope: its host would be awake, forward and in a hosting state, which is not final
  pub event_ends : (e : EventArguments) → is_finishing p (closed p (moved p l e)) ≡ true → (z : ℕ) → is_closing p (moved p l e) z ≡ false
  event_ends e f z =
      let M = moved p l e in
      let nm = moved_nested p l e ok s.formed.nested in
      let nc = closed_nested p ok M nm in
      refuted (is_closing p M z)
      (λ c.
      let (u, b, g, a) = open_find p M z (closing_open p M z c) in
      let (st, md) = nm.hosted u z a g in
      let o = owner p z in
      let open_state : is_final p (M o).state ≡ false = ap (is_final p) st ∙ ok.host_open u z g in
      let kept : is_closed p M o ≡ false =
      elim (look_option (host p o)) [
        | inl y ↦ closed_root p M o y
        | inr y ↦
            closed_host p M o y.0 y.1
            ∙ refuted (is_closing p M y.0) (λ k. clash (closing_final p M y.0 o k (ok.hosted o y.0 y.1) y.1).1 open_state)
      ] in
      let (i, j) = closed_alike p M o kept in
      elim (look_option (host p o)) [
        | inr y ↦ clash (ap is_awake (i ∙ md) ∙ a) (only_roots p ok (closed p M) nc f o y.0 y.1)
        | inl y ↦
            elim (or_holds (is_ended p (closed p M) o) (is_bare p (closed p M) o) ((finishing_done p (closed p M) f).every o (ok.owned z (ok.host_state u z g)) y)) [
              | inl x ↦ clash (and_holds (is_forward (closed p M o).mode) (is_final p (closed p M o).state) x).1 (ap (is_final p) j ∙ open_state)
              | inr x ↦
                  clash (ap is_forward (i ∙ md) ∙ (closing_final p M z u c b g).0)
                  (undoing_forward (closed p M o).mode (bare_parts p ok (closed p M) o x).0)
            ]
      ])

  module _ (a : SignalArguments) where
    abbrev S : Ledger
    S = abandoned p (turned p a.society l)

    -- a signal that finishes: the society has no right over a root that had ended, and turned one; every forward root that is its to turn held nothing
    pub record SignalEnds : Type 0 where
      pub left : ℕ
      pub left_root : (left < track_count p) × (host p left ≡ none)
      pub left_kept : is_permitted p signal_right a.society left ≡ false
      pub left_ended : is_ended p l left ≡ true
      pub taken : ℕ
      pub taken_root : (taken < track_count p) × (host p taken ≡ none)
      pub taken_turned : (is_permitted p signal_right a.society taken ≡ true) × (is_forward (l taken).mode ≡ true)
      pub empty : (t : ℕ) → t < track_count p → host p t ≡ none → is_permitted p signal_right a.society t ≡ true → is_empty (l t).held ≡ true

    root_stays : (t : ℕ) → host p t ≡ none → S t ≡ turned p a.society l t
    root_stays t e = left_kept p ok (turned p a.society l) t (abandoned_root p ok (turned p a.society l) t e)

    -- where no forward root is the society's to turn, nothing is turned: a hosted track has the mode of its host's track
    none_turned : ((t : ℕ) → t < track_count p → host p t ≡ none → is_permitted p signal_right a.society t ≡ true → is_forward (l t).mode ≡ false)
        → turned p a.society l ≡ l
    none_turned n = turned_same p ok a l unforward
      where
        unforward : (t : ℕ) → is_permitted p signal_right a.society t ≡ true → is_forward (l t).mode ≡ false
        unforward =
            strong (λ t. is_permitted p signal_right a.society t ≡ true → is_forward (l t).mode ≡ false)
            (λ t ih y.
            refuted (is_forward (l t).mode)
            (λ w.
            let k = s.formed.nested in
            let v = forward_awake (l t).mode w in
            elim (look_option (host p t)) [
              | inl e ↦ clash w (n t (k.below t v) e y)
              | inr e ↦
                  let (h, q) = e in
                  clash (ap is_forward (k.hosted t h v q).1 ∙ w) (ih (owner p h) (ok.lower t h q) (sym (permitted_up p ok signal_right a.society t h q) ∙ y))
            ]))

    pub signal_ends : is_finishing p S ≡ true → SignalEnds
    signal_ends f =
        let d = finishing_done p S f in
        let (kept, q) = signal_forward p ok a l d.root (and_holds (is_forward (S d.root).mode) _ d.ended).0 in
        let test : ℕ → Bool = λ t. is_root p t && (is_permitted p signal_right a.society t && is_forward (l t).mode) in
        elim (look (some_below (track_count p) test)) [
          | inl x ↦
              let (r, c, y) = some_find (track_count p) test x in
              let (i, j) = and_holds (is_root p r) _ y in
              record {
                left = d.root;
                left_root = (d.low, d.unhosted);
                left_kept = kept;
                left_ended = subst (λ (c : Configuration). (is_forward c.mode && is_final p c.state) ≡ true) q d.ended;
                taken = r;
                taken_root = (c, root_none p r i);
                taken_turned = and_holds (is_permitted p signal_right a.society r) (is_forward (l r).mode) j;
                empty = λ t b e y.
                    elim (or_holds (is_ended p S t) (is_bare p S t) (d.every t b e)) [
                      | inl z ↦ clash y (signal_forward p ok a l t (and_holds (is_forward (S t).mode) _ z).0).0
                      | inr z ↦
                          ap is_empty (sym (turned_held p ok a l t)) ∙ ap (λ (c : Configuration). is_empty c.held) (sym (root_stays t e)) ∙ (bare_parts p ok S t z).1
                    ];
              }
          | inr x ↦
              let same : S ≡ l =
              ap (abandoned p)
              (none_turned
              (λ t b e y.
              refuted (is_forward (l t).mode)
              (λ w.
              clash (and_both (is_root p t) _ (root_of_lem p t e) (and_both (is_permitted p signal_right a.society t) (is_forward (l t).mode) y w))
              (some_not (track_count p) test x t b))))
              ∙ steady terms p ok l s in
              clash (ap (is_finishing p) (sym same) ∙ f) s.finish
        ]

  module _ (t : ℕ) (may : may_fire p l t ≡ true) where
    -- a root that deviates is forward in that state, which is not final
    pub record Deviated (d : ℕ) : Type 0 where
      pub root : host p t ≡ none
      pub mode : (abandoned p (fired p l t) t).mode ≡ Forward
      pub state : (abandoned p (fired p l t) t).state ≡ d
      pub not_final : is_final p d ≡ false

    pub deviated : (d : ℕ) → optional (newest (l t).held).deviation ≡ some d → Deviated d
    deviated d q =
        let (e, o, f) = deviates p t d (l t).held (s.formed.good t) q in
        let k =
        fired_root laws01 terms p ok l s t may t e ∙ ap (λ m. m t) (fired_is p l t)
        ∙ enter_to p ok (deviates_to l t) (removed l t) t d (deviates_here p l t ∙ q) in
        record { root = e; mode = ap (λ (c : Configuration). c.mode) k; state = ap (λ (c : Configuration). c.state) k; not_final = f }

    pub deviated_unended : (d : ℕ) → optional (newest (l t).held).deviation ≡ some d → is_ended p (abandoned p (fired p l t)) t ≡ false
    deviated_unended d q =
        let v = deviated d q in
        ap (λ x. is_forward (abandoned p (fired p l t) t).mode && x) (ap (is_final p) v.state ∙ v.not_final)
        ∙ and-false (is_forward (abandoned p (fired p l t) t).mode)

    -- a firing that finishes does not deviate
    pub fire_ends : is_finishing p (abandoned p (fired p l t)) ≡ true → (newest (l t).held).deviation ≡ no_state
    unfolding optional is_bare is_undoing
    fire_ends f =
        let w = (newest (l t).held).deviation in
        elim (look (eqb w no_state)) [
          | inl k ↦ eqb-true w no_state k
          | inr k ↦
              let q : optional w ≡ some w = rw k in
              let v = deviated w q in
              let X = abandoned p (fired p l t) in
              let bare : is_bare p X t ≡ false = ap (λ x. (is_undoing x && is_empty (X t).held) && not (has_open_scope p X t)) v.mode in
              clash f (goes_on p X t (may_fire_lem p l t may).0 v.root (rw (deviated_unended w q, bare)))
        ]
