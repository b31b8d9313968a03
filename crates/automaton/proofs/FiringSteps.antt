-- A firing is COMP at the track fired, whose configuration is basic and in backward direction, NESTCOMP, DEV where the entry deviates, then
-- one step for each scope abandoned. Assumes nothing.
use mathlib.Core.Path.{◌≡◌, refl, sym, ap, ap₂, ◌∙◌, subst}
use mathlib.Core.Logic.{inl, inr}
use mathlib.Core.Bool.{true, false, cond, ◌&&◌}
use mathlib.Core.List.{List, [], ◌∷◌, ◌++◌}
use mathlib.Core.Option.{Option, none, some}
use Prim.Native.Nat.{ℕ, ◌<◌}
use native.Mathlib.Omega.{arith}
use lib.Dec.{eqb}
use borrow.Author.Tests.{eqb-true, eqb-false, eq-eqb, ne_eqb}
use Rattle.rules.specs.Setting.{main_terms}
use Rattle.rules.specs.Plan.{Plan, track_count, optional, host, is_hosted_by, is_above}
use Rattle.rules.specs.Ledger.{Entry, Configuration, Ledger, is_awake, is_forward, is_empty}
use Rattle.rules.specs.Scope.{has_open_scope}
use Rattle.rules.specs.Opening.{enter}
use Rattle.rules.specs.Signal.{abandoned}
use Rattle.rules.specs.Fire.{newest, older, may_fire, removed, deviates_to, fired}
use Rattle.rules.proofs.Tests.{look, look_option, clash, none-some}
use Rattle.rules.proofs.Acceptance.{Accepted}
use Rattle.rules.proofs.Forest.{above_lower}
use Rattle.rules.proofs.Opening.{wakes_root}
use Rattle.rules.proofs.Abandoning.{undoing_awake}
use Rattle.rules.proofs.Modes.{undoing_forward}
use Rattle.theory.proofs.Nesting.{Awake, Nested}
use Rattle.theory.proofs.Entries.{Good}
use Rattle.theory.proofs.EnteringNested.{Fate, enters, wakens, stays, fate, arrived_awake}
use Rattle.theory.proofs.FiringNested.{fired_is, removed_mode, removed_state, removed_here, removed_other, removed_awake, deviates_known, deviates_here, removed_nested, deviates_free, fired_nested, fired_still}
use Rattle.restoration.proofs.Theorems01.{may_fire_lem}
use Rattle.automaton.specs.Listing.{some_of, every_of}
use Rattle.automaton.specs.Configuration.{backward, Comp, Dev, Stack, NConf, Basic, Nest, end, members, push_comp, push_dev, has_terminated, has_compensated, goto}
use Rattle.automaton.specs.Semantics.{FailReading, comp_at, dev_at, nestcomp_at, Step, COMP, DEV, NESTCOMP, VStep, Run, stop, step}
use Rattle.automaton.specs.View.{stack_of, direction_of, is_within, basic, shown, view_of, is_on_top, view, abandonings, deviation_step}
use Rattle.automaton.proofs.Listings.{alike, run_then}
use Rattle.automaton.proofs.Frames.{same_conf, frame, frames, instead_some, top_parts, top_of, shown_free, busy_alike, view_frame, view_frames, view_law, frame_law, replaced}
use Rattle.automaton.proofs.Entered as entered
use Rattle.automaton.proofs.Replacing.{Alike, unchanged, frames_view}
use Rattle.automaton.proofs.AbandoningSteps.{abandoning_run}

-- the newest entry is on top of the stack: its compensation above its deviation
stack_newest : (es : List Entry) → is_empty es ≡ false → stack_of es ≡ Comp (newest es).code ∷ push_dev (optional (newest es).deviation) (stack_of (older es))
unfolding stack_of newest older is_empty push_comp
stack_newest [] h = clash refl h
stack_newest (e ∷ es) h = refl

module _ (p : Plan) (ρ : FailReading) (ok : Accepted p) (l : Ledger) (n : Nested p l) (t : ℕ) (g : Good p t (l t).held) (may : may_fire p l t ≡ true) where
  abbrev m : Ledger
  m = fired p l t

  abbrev code : ℕ
  code = (newest (l t).held).code

  abbrev leads : Option ℕ
  leads = optional (newest (l t).held).deviation

  abbrev rest : Stack
  rest = stack_of (older (l t).held)

  low : t < track_count p
  low = (may_fire_lem main_terms p l t may).0

  free : has_open_scope p l t ≡ false
  free = (may_fire_lem main_terms p l t may).3

  back : is_forward (l t).mode ≡ false
  back = undoing_forward (l t).mode (may_fire_lem main_terms p l t may).1

  awake : Awake l t
  awake = undoing_awake (l t).mode (may_fire_lem main_terms p l t may).1

  fired_on : Nested p m
  fired_on = fired_nested p l t ok n g free awake

  -- the view with another configuration of the track fired
  pub only : NConf → ℕ → Option NConf
  only c u = cond (eqb u t) (some c) none

  only_here : (c : NConf) → only c t ≡ some c
  unfolding only
  only_here c = rw (eq-eqb t t refl)

  only_other : (c : NConf) (u : ℕ) → (u ≡ t → ⊥) → only c u ≡ none
  unfolding only
  only_other c u d = rw (ne_eqb u t d)

  only_known : (c d : NConf) (u : ℕ) → only c u ≡ some d → (u ≡ t) × (d ≡ c)
  only_known c d u h =
      elim (look (eqb u t)) [
        | inl e ↦ let q = eqb-true u t e in (q, same_conf d c (sym h ∙ ap (only c) q ∙ only_here c))
        | inr e ↦ none-some (only_other c u (eqb-false u t e)) h
      ]

  only_frame : (c : NConf) → frame p ρ l (only c) t ≡ c
  only_frame c = frame_law p ρ l ok (only c) t low ∙ instead_some (only c t) (shown p ρ l t (frame p ρ l (only c))) c (only_here c)

  above_other : (u : ℕ) → is_above p u t ≡ true → u ≡ t → ⊥
  above_other u a e = let b = above_lower p ok u t a in absurd (omega arith)

  -- after COMP, after NESTCOMP, and after DEV
  pub begun : NConf
  begun = Nest t (l t).state backward (push_dev leads rest) end

  pub popped : NConf
  popped = Basic t (l t).state backward (push_dev leads rest)

  before : view_of p ρ l t ≡ Basic t (l t).state backward (Comp code ∷ push_dev leads rest)
  unfolding basic direction_of
  before =
      view_law p ρ l ok t low ∙ shown_free p ρ l t (view_of p ρ l) free
      ∙ ap₂ (λ x S. Basic t (l t).state (direction_of x) S) back (stack_newest (l t).held (may_fire_lem main_terms p l t may).2)

  pub comp_step : VStep p ρ (view p ρ l) (comp_at t code) (frames p ρ l (only begun))
  unfolding begun
  comp_step =
      subst (λ z. VStep p ρ z (comp_at t code) (frames p ρ l (only begun))) (sym (view_frames p ρ l))
      (replaced p ρ l ok n (λ u. none) (only begun) t (λ u d. sym (only_other begun u d)) (λ u a. refl) (comp_at t code) awake
      (subst (λ z. Step p ρ z (comp_at t code) (frame p ρ l (only begun) t)) (sym before ∙ view_frame p ρ l t)
      (subst (λ z. Step p ρ (Basic t (l t).state backward (Comp code ∷ push_dev leads rest)) (comp_at t code) z) (sym (only_frame begun))
      (COMP t (l t).state code (push_dev leads rest)))))

  -- the empty vector has compensated
  back_step : VStep p ρ (frames p ρ l (only begun)) (nestcomp_at t) (frames p ρ l (only popped))
  unfolding begun popped has_terminated has_compensated members some_of every_of
  back_step =
      replaced p ρ l ok n (only begun) (only popped) t (λ u x. only_other begun u x ∙ sym (only_other popped u x))
      (λ u a. only_other begun u (above_other u a)) (nestcomp_at t) awake
      (subst (λ z. Step p ρ z (nestcomp_at t) (frame p ρ l (only popped) t)) (sym (only_frame begun))
      (subst (λ z. Step p ρ (Nest t (l t).state backward (push_dev leads rest) end) (nestcomp_at t) z) (sym (only_frame popped))
      (NESTCOMP t (l t).state (push_dev leads rest) end refl)))

  dev_step : (d : ℕ) → leads ≡ some d → VStep p ρ (frames p ρ l (only popped)) (dev_at t d) (frames p ρ l (only (goto p t d rest)))
  unfolding popped push_dev
  dev_step d e =
      let one : frame p ρ l (only popped) t ≡ Basic t (l t).state backward (Dev d ∷ rest) =
      only_frame popped ∙ ap (λ x. Basic t (l t).state backward (push_dev x rest)) e in
      replaced p ρ l ok n (only popped) (only (goto p t d rest)) t (λ u x. only_other popped u x ∙ sym (only_other (goto p t d rest) u x))
      (λ u a. only_other popped u (above_other u a)) (dev_at t d) awake
      (subst (λ z. Step p ρ z (dev_at t d) (frame p ρ l (only (goto p t d rest)) t)) (sym one)
      (subst (λ z. Step p ρ (Basic t (l t).state backward (Dev d ∷ rest)) (dev_at t d) z) (sym (only_frame (goto p t d rest)))
      (DEV t (l t).state d rest)))

  -- the other tracks stay as they are
  to_other : (u : ℕ) → (u ≡ t → ⊥) → deviates_to l t u ≡ none
  to_other u d =
      elim (look_option (deviates_to l t u)) [ inl e ↦ e | inr e ↦ absurd (d (sym (deviates_known p l t u e.0 e.1).0)) ]

  removed_within : (u v : ℕ) → is_within p l u v ≡ is_within p (removed l t) u v
  unfolding is_within
  removed_within u v = ap (λ x. is_hosted_by p u v && x) (sym (removed_awake p l t v))

  same_within : (u : ℕ) → Awake l u → deviates_to l t u ≡ none → (v : ℕ) → is_within p l u v ≡ is_within p m u v
  same_within u a e v =
      removed_within u v
      ∙ entered.stays_within p ok (removed l t) (removed_nested p l t ok n g free awake) (deviates_to l t) (deviates_free p l t ok n g free awake) u (removed_awake p l t u ∙ a) e v
      ∙ ap (λ k. is_within p k u v) (sym (fired_is p l t))

  others : (u : ℕ) → (u ≡ t → ⊥) → Awake l u → Alike p ρ ok l m u
  others u d a =
      let e = to_other u d in
      let q : m u ≡ l u = fired_still p l t ok n g free awake u a e ∙ removed_other p l t u (ne_eqb u t d) in
      unchanged p ρ ok l m u (λ v b. same_within u a e v) q

  root_awake : (u : ℕ) → host p u ≡ none → is_awake (m u).mode ≡ is_awake (l u).mode
  root_awake u h = ap (λ (k : Ledger). is_awake (k u).mode) (fired_is p l t) ∙ go (fate p ok (removed l t) (deviates_to l t) u)
    where
      go : Fate p ok (removed l t) (deviates_to l t) u → is_awake (enter p (deviates_to l t) (removed l t) u).mode ≡ is_awake (l u).mode
      go (enters s f q) =
          ap (λ (c : Configuration). is_awake c.mode) q ∙ arrived_awake s (removed l t u)
          ∙ sym (subst (Awake l) (deviates_known p l t u s f).0 awake)
      go (wakens f w q) = clash w (wakes_root p ok (deviates_to l t) u h)
      go (stays f w q) = ap (λ (c : Configuration). is_awake c.mode) q ∙ removed_awake p l t u

  same_top : (u : ℕ) → is_on_top p l u ≡ is_on_top p m u
  same_top u =
      alike (is_on_top p l u) (is_on_top p m u)
      (λ y. let (h, a) = top_parts p l u y in top_of p m u h (root_awake u h ∙ a))
      (λ y. let (h, a) = top_parts p m u y in top_of p l u h (sym (root_awake u h) ∙ a))

  -- with this configuration of the track fired, all is as on the ledger after the firing
  in_place : (c : NConf) → c ≡ view_of p ρ m t → frames p ρ l (only c) ≡ view p ρ m
  in_place c h =
      frames_view p ρ ok l (only c) m (λ u b. same_top u)
      (λ u d b a w e. let (q, r) = only_known c d u e in r ∙ h ∙ ap (view_of p ρ m) (sym q))
      (λ u b a w e. others u (λ q. none-some e (ap (only c) q ∙ only_here c)) a)

  deviated : (d : ℕ) → leads ≡ some d → goto p t d rest ≡ view_of p ρ m t
  deviated d e =
      ap (λ es. goto p t d (stack_of es)) (sym (removed_here p l t t (eq-eqb t t refl)))
      ∙ sym ((entered.goes p ok (removed l t) (removed_nested p l t ok n g free awake) (deviates_to l t) (deviates_free p l t ok n g free awake) ρ t low).enters d (deviates_here p l t ∙ e))
      ∙ ap (λ k. view_of p ρ k t) (sym (fired_is p l t))

  stayed : leads ≡ none → popped ≡ view_of p ρ m t
  unfolding popped push_dev basic direction_of
  stayed e =
      let k = deviates_here p l t ∙ e in
      let q : m t ≡ removed l t t = fired_still p l t ok n g free awake t awake k in
      let st : (m t).state ≡ (l t).state = ap (λ (c : Configuration). c.state) q ∙ removed_state p l t t in
      let md : is_forward (m t).mode ≡ false = ap (λ (c : Configuration). is_forward c.mode) q ∙ ap is_forward (removed_mode p l t t) ∙ back in
      let hd : stack_of (m t).held ≡ rest = ap (λ (c : Configuration). stack_of c.held) q ∙ ap stack_of (removed_here p l t t (eq-eqb t t refl)) in
      ap (λ x. Basic t (l t).state backward (push_dev x rest)) e
      ∙ ap₂ (λ x S. Basic t x backward S) (sym st) (sym hd)
      ∙ ap (λ x. Basic t (m t).state (direction_of x) (stack_of (m t).held)) (sym md)
      ∙ sym (shown_free p ρ m t (view_of p ρ m) (sym (busy_alike p l m t (λ u b. same_within t awake k u)) ∙ free))
      ∙ sym (view_law p ρ m ok t low)

  firing_run : Run p ρ (view p ρ l) (comp_at t code ∷ nestcomp_at t ∷ deviation_step t leads) (view p ρ m)
  firing_run = go leads refl
    where
      go : (o : Option ℕ) → leads ≡ o → Run p ρ (view p ρ l) (comp_at t code ∷ nestcomp_at t ∷ deviation_step t o) (view p ρ m)
      go none e = unfold deviation_step in subst (λ z. Run p ρ (view p ρ l) (comp_at t code ∷ nestcomp_at t ∷ []) z) (in_place popped (stayed e)) (step comp_step (step back_step stop))
      go (some d) e =
          unfold deviation_step in
          subst (λ z. Run p ρ (view p ρ l) (comp_at t code ∷ nestcomp_at t ∷ dev_at t d ∷ []) z) (in_place (goto p t d rest) (deviated d e)) (step comp_step (step back_step (step (dev_step d e) stop)))

  -- and then the abandonings
  pub fire_run : Run p ρ (view p ρ l) (comp_at t code ∷ nestcomp_at t ∷ (deviation_step t leads ++ abandonings p ρ m)) (view p ρ (abandoned p (fired p l t)))
  fire_run = run_then p ρ firing_run (abandoning_run p ρ ok m fired_on)
