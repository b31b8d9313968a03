-- An accepted call's big steps end in the view of the ledger afterwards and nowhere else: there is one, since its steps are a run, and there is
-- one only, since SUC in any order, FAIL, COMP and silent steps each lead to one configuration. Assumes nothing.
use mathlib.Core.Path.{◌≡◌, refl, sym, ap, ◌∙◌, subst, fun_ext}
use mathlib.Core.Logic.{◌↔◌, inl, inr}
use mathlib.Core.Bool.{Bool, true, false, cond, not}
use mathlib.Core.List.{List, [], ◌∷◌, ◌++◌}
use mathlib.Core.Option.{Option, none, some}
use Prim.Native.Nat.{ℕ, zero, suc, ◌+◌, ◌<◌, ◌≤◌}
use native.Mathlib.Omega.{arith}
use lib.Dec.{eqb}
use borrow.Author.Tests.{eqb-true, eqb-false}
use Rattle.rules.specs.Names.{Day, Society}
use Rattle.rules.specs.declared.Terms.{Terms}
use Rattle.rules.specs.Plan.{Plan, track_count, optional}
use Rattle.rules.specs.Rights.{signal_right, is_permitted}
use Rattle.rules.specs.Ledger.{Ledger}
use Rattle.rules.specs.Event.{EventArguments, moves, moved, closes_scope, closed}
use Rattle.rules.specs.Signal.{turned, abandoned}
use Rattle.rules.specs.Fire.{newest, fired}
use Rattle.rules.specs.Call.{SignalArguments, FireArguments, Call, event, signal, fire, call_refusal, after}
use Rattle.rules.proofs.Tests.{look, clash, refuted, and_holds, and_both, or_holds, or_right}
use Rattle.rules.proofs.Acceptance.{Accepted}
use Rattle.rules.proofs.Closing.{closed_done}
use Rattle.theory.proofs.Nesting.{Nested}
use Rattle.restoration.proofs.Theorems01.{fire_accepted, moved_nested, closed_nested, turned_forward, turned_nested, mover_awake, Sound, event_abandoning, work, worked}
use Rattle.automaton.specs.Listing.{listed_from, listed, listed_down, every_of}
use Rattle.automaton.specs.Configuration.{Conf}
use Rattle.automaton.specs.Semantics.{FailReading, basic_alone, nested_too, Act, suc_at, fail_at, comp_at, dev_at, nestsuc_at, nestfail_at, nestcomp_at, trace, VStep, Run, stop, step}
use Rattle.automaton.specs.View.{view, leaves_scope, is_turning, leave_at, abandonings, deviation_step, movings, closers, turners}
use Rattle.automaton.specs.StepTests.{is_fail_for, is_mute, is_silent}
use Rattle.automaton.specs.BigSteps.{after_finish, acts_in, has, is_once_each, sucs, Exhausted, Exhausts, OnEvent, OnSignal, OnFiring, Big, Ends}
use Rattle.automaton.proofs.Listings.{alike, from_every}
use Rattle.automaton.proofs.Settled.{view_settled}
use Rattle.automaton.proofs.MovingSteps.{moves_some, apart, moving_run}
use Rattle.automaton.proofs.ClosingSteps.{closing_run}
use Rattle.automaton.proofs.AbandoningSteps.{abandoning_run}
use Rattle.automaton.proofs.TurningSteps.{going_forward, turning_run}
use Rattle.automaton.proofs.FiringSteps.{fire_run}
use Rattle.automaton.proofs.CallSteps.{after_view}
use Rattle.automaton.proofs.Enabled.{suc_enabled, fail_enabled}
use Rattle.automaton.proofs.Confluence.{silent_unique, fail_unique, run_steps, run_acts, settled_exhausted}
use Rattle.automaton.proofs.OnePlace.{comp_unique, suc_unique, view_once}

-- The automata of a sequence in track order.
module _ (f : ℕ → Bool) where
  from_has : (n i A : ℕ) → i ≤ A → A < i + n → f A ≡ true → has (listed_from n i f (λ t. t)) A ≡ true
  unfolding listed_from has
  from_has zero i A b c y = absurd (omega arith)
  from_has (suc n) i A b c y = go (f i) refl (λ d. from_has n (suc i) A d (omega arith) y)
    where
      go : (x : Bool) → f i ≡ x → (suc i ≤ A → has (listed_from n (suc i) f (λ t. t)) A ≡ true)
          → has (cond x (i ∷ listed_from n (suc i) f (λ t. t)) (listed_from n (suc i) f (λ t. t))) A ≡ true
      go true e ih =
          elim (look (eqb i A)) [
            | inl q ↦ rw q
            | inr q ↦ let d = eqb-false i A q in or_right (eqb i A) (has (listed_from n (suc i) f (λ t. t)) A) (ih (omega arith))
          ]
      go false e ih =
          elim (look (eqb i A)) [
            | inl q ↦ clash y (subst (λ z. f z ≡ false) (eqb-true i A q) e)
            | inr q ↦ let d = eqb-false i A q in ih (omega arith)
          ]

  has_from : (n i A : ℕ) → has (listed_from n i f (λ t. t)) A ≡ true → (i ≤ A) × (f A ≡ true)
  unfolding listed_from has
  has_from zero i A h = clash h refl
  has_from (suc n) i A h = go (f i) refl h (λ r. let (b, y) = has_from n (suc i) A r in (omega arith, y))
    where
      go : (x : Bool) → f i ≡ x → has (cond x (i ∷ listed_from n (suc i) f (λ t. t)) (listed_from n (suc i) f (λ t. t))) A ≡ true
          → (has (listed_from n (suc i) f (λ t. t)) A ≡ true → (i ≤ A) × (f A ≡ true)) → (i ≤ A) × (f A ≡ true)
      go true e r ih =
          elim (or_holds (eqb i A) (has (listed_from n (suc i) f (λ t. t)) A) r) [
            | inl q ↦ let z = eqb-true i A q in (omega arith, subst (λ w. f w ≡ true) z e)
            | inr q ↦ ih q
          ]
      go false e r ih = ih r

  from_once : (n i : ℕ) → is_once_each (listed_from n i f (λ t. t)) ≡ true
  unfolding listed_from is_once_each
  from_once zero i = refl
  from_once (suc n) i = go (f i) (from_once n (suc i))
    where
      go : (x : Bool) → is_once_each (listed_from n (suc i) f (λ t. t)) ≡ true → is_once_each (cond x (i ∷ listed_from n (suc i) f (λ t. t)) (listed_from n (suc i) f (λ t. t))) ≡ true
      go true r =
          and_both (not (has (listed_from n (suc i) f (λ t. t)) i)) (is_once_each (listed_from n (suc i) f (λ t. t)))
          (ap not (refuted (has (listed_from n (suc i) f (λ t. t)) i) (λ h. let (b, y) = has_from n (suc i) i h in omega arith))) r
      go false r = r

  from_sucs : (e : EventArguments) (n i : ℕ) → sucs e (listed_from n i f (λ t. t)) ≡ listed_from n i f (λ t. suc_at t e)
  unfolding listed_from sucs
  from_sucs e zero i = refl
  from_sucs e (suc n) i = go (f i) (from_sucs e n (suc i))
    where
      go : (x : Bool) → sucs e (listed_from n (suc i) f (λ t. t)) ≡ listed_from n (suc i) f (λ t. suc_at t e)
          → sucs e (cond x (i ∷ listed_from n (suc i) f (λ t. t)) (listed_from n (suc i) f (λ t. t)))
          ≡ cond x (suc_at i e ∷ listed_from n (suc i) f (λ t. suc_at t e)) (listed_from n (suc i) f (λ t. suc_at t e))
      go true r = ap (λ w. suc_at i e ∷ w) r
      go false r = r

down_every : {A : Type 0} (test : A → Bool) (n : ℕ) (f : ℕ → Bool) (g : ℕ → A) → ((k : ℕ) → f k ≡ true → test (g k) ≡ true) → every_of test (listed_down n f g) ≡ true
unfolding listed_down every_of
down_every test zero f g h = refl
down_every test (suc n) f g h = go (f n) refl (down_every test n f g h)
  where
    go : (x : Bool) → f n ≡ x → every_of test (listed_down n f g) ≡ true → every_of test (cond x (g n ∷ listed_down n f g) (listed_down n f g)) ≡ true
    go true e r = and_both (test (g n)) (every_of test (listed_down n f g)) (h n e) r
    go false e r = r

every_join : {A : Type 0} (test : A → Bool) (v w : List A) → every_of test v ≡ true → every_of test w ≡ true → every_of test (v ++ w) ≡ true
unfolding every_of
every_join test [] w h k = k
every_join test (x ∷ v) w h k =
    let (a, b) = and_holds (test x) (every_of test v) h in and_both (test x) (every_of test (v ++ w)) a (every_join test v w b k)

leave_silent : (ρ : FailReading) (k : ℕ) → is_silent (leave_at ρ k) ≡ true
unfolding leave_at is_silent is_mute trace
leave_silent basic_alone k = refl
leave_silent nested_too k = refl

deviation_silent : (t : ℕ) (o : Option ℕ) → every_of is_silent (deviation_step t o) ≡ true
unfolding deviation_step every_of is_silent is_mute trace
deviation_silent t none = refl
deviation_silent t (some d) = refl

module _ (p : Plan) (ρ : FailReading) where
  abandonings_silent : (l : Ledger) → every_of is_silent (abandonings p ρ l) ≡ true
  unfolding abandonings
  abandonings_silent l = down_every is_silent (track_count p) (leaves_scope p l) (leave_at ρ) (λ k y. leave_silent ρ k)

  closers_silent : (l : Ledger) → every_of is_silent (closers p l) ≡ true
  unfolding closers listed is_silent is_mute trace
  closers_silent l = from_every is_silent (track_count p) 0 (closes_scope p l) nestsuc_at (λ k b c y. refl)

  back_silent : (t : ℕ) (w : List Act) → every_of is_silent w ≡ true → every_of is_silent (nestcomp_at t ∷ w) ≡ true
  unfolding every_of is_silent is_mute trace
  back_silent t w h = h

  pub turners_fail : (society : Society) (l : Ledger) → every_of (is_fail_for p society) (turners p ρ society l) ≡ true
  unfolding turners is_fail_for is_turning
  turners_fail society l =
      down_every (is_fail_for p society) (track_count p) (is_turning p ρ society l) fail_at (λ k y. (and_holds (is_permitted p signal_right society k) _ y).0)

  first_of : {c d : Conf} {w : List Act} → Run p ρ c w d → (a : Act) (v : List Act) → w ≡ a ∷ v → (b : Conf) × VStep p ρ c a b × Run p ρ b v d
  first_of stop a v e = let z : ◌≡◌ {A = ℕ} 0 1 = cc in absurd (omega arith)
  first_of {c} {d} (step {d = b} {a = a'} {w = w} s r) a v e =
      let x : a' ≡ a = cc in let y : w ≡ v = cc in (b, subst (λ z. VStep p ρ c z b) x s, subst (λ z. Run p ρ b z d) y r)

module _ (p : Plan) (ρ : FailReading) (ok : Accepted p) (l : Ledger) (n : Nested p l) where
  -- after a signal nothing is forward that its society may turn
  pub none_going : (a : SignalArguments) → Exhausted p ρ (is_fail_for p a.society) (view p ρ (turned p a.society l))
  unfolding is_fail_for
  none_going a = go
    where
      m : Ledger
      m = turned p a.society l

      nt : Nested p m
      nt = turned_nested p ok l n a

      go : (b : Act) (d : Conf) → VStep p ρ (view p ρ m) b d → is_fail_for p a.society b ≡ true → ⊥
      go (fail_at A) d r h = clash (going_forward p m ρ A ((fail_enabled p ρ m ok nt A).0 (d, r))) (turned_forward p ok a l A h)
      go (suc_at A i) d r h = clash h refl
      go (comp_at A c) d r h = clash h refl
      go (dev_at A q) d r h = clash h refl
      go (nestsuc_at A) d r h = clash h refl
      go (nestfail_at A) d r h = clash h refl
      go (nestcomp_at A) d r h = clash h refl

module _ (p : Plan) (ρ : FailReading) (ok : Accepted p) (terms : Terms) (day : Day) (l : Ledger) (s : Sound terms p l) where
  abbrev n : Nested p l
  n = s.formed.nested

  -- An event.
  order : EventArguments → List ℕ
  order e = listed (track_count p) (moves p l e) (λ t. t)

  order_has : (e : EventArguments) (A : ℕ) → (has (order e) A ≡ true) ↔ (moves p l e A ≡ true)
  unfolding order listed
  order_has e A = (
    λ h. (has_from (moves p l e) (track_count p) 0 A h).1,
    λ h.
        let (x, q) = moves_some p l e A h in
        let b = n.below A (mover_awake p l e A x q) in
        from_has (moves p l e) (track_count p) 0 A (omega arith) (omega arith) h,
  )

  pub event_settling : (e : EventArguments) → Exhausts p ρ is_silent (view p ρ (moved p l e)) (view p ρ (closed p (moved p l e)))
  event_settling e =
      let m = moved p l e in
      let nm = moved_nested p l e ok n in (
        run_steps p ρ is_silent (closing_run p ρ ok m nm) (closers_silent p ρ m),
        settled_exhausted p ρ (view p ρ (closed p m))
            (view_settled p ρ ok (closed p m) (closed_nested p ok m nm) (closed_done p m) (event_abandoning terms p ok l s.formed e s.abandoning)),
      )

  pub event_settling_acts : (e : EventArguments) → acts_in p ρ (event_settling e).0 ≡ closers p (moved p l e)
  unfolding event_settling
  event_settling_acts e = run_acts p ρ is_silent (closing_run p ρ ok (moved p l e) (moved_nested p l e ok n)) (closers_silent p ρ (moved p l e))

  event_big : (e : EventArguments) → OnEvent p ρ e (view p ρ l) (view p ρ (closed p (moved p l e)))
  unfolding movings order listed
  event_big e =
      record {
        order = order e;
        once = from_once (moves p l e) (track_count p) 0;
        those = λ A. (λ c. (order_has e A).1 ((suc_enabled p ρ l ok n A e).0 c), λ h. (suc_enabled p ρ l ok n A e).1 ((order_has e A).0 h));
        between = view p ρ (moved p l e);
        moving = subst (λ w. Run p ρ (view p ρ l) w (view p ρ (moved p l e))) (sym (from_sucs (moves p l e) e (track_count p) 0)) (moving_run p l e ρ ok n);
        settling = event_settling e;
      }

  -- in any of them: the automata that move, and what is reached before the settling
  pub order_moves : (e : EventArguments) (d : Conf) (x : OnEvent p ρ e (view p ρ l) d) (A : ℕ) → has x.order A ≡ moves p l e A
  order_moves e d x A =
      alike (has x.order A) (moves p l e A) (λ h. (suc_enabled p ρ l ok n A e).0 ((x.those A).1 h)) (λ h. (x.those A).0 ((suc_enabled p ρ l ok n A e).1 h))

  pub event_between : (e : EventArguments) (d : Conf) (x : OnEvent p ρ e (view p ρ l) d) → x.between ≡ view p ρ (moved p l e)
  unfolding event_big
  event_between e d x =
      let y = event_big e in
      suc_unique p ρ ok e (view p ρ l) x.between y.between x.order y.order x.moving y.moving x.once y.once
      (fun_ext (λ A. order_moves e d x A ∙ sym (order_moves e (view p ρ (closed p (moved p l e))) y A)))
      (λ A. view_once p ρ ok l n A)
      (λ A B h k. apart p l e ρ ok n A B (sym (order_moves e d x A) ∙ h) (sym (order_moves e d x B) ∙ k))

  event_one : (e : EventArguments) (c d : Conf) → OnEvent p ρ e (view p ρ l) c → OnEvent p ρ e (view p ρ l) d → c ≡ d
  event_one e c d x y =
      silent_unique p ρ ok y.between c d
      (subst (λ z. Exhausts p ρ is_silent z c) (event_between e c x ∙ sym (event_between e d y)) x.settling) y.settling

  -- A signal.
  signal_big : (a : SignalArguments) → call_refusal terms p day l (signal a) ≡ 0 → OnSignal p ρ a.society (view p ρ l) (view p ρ (abandoned p (turned p a.society l)))
  signal_big a h =
      let k = worked terms p ok l s day (signal a) h in
      let m = turned p a.society l in
      record {
        between = view p ρ m;
        turning = (run_steps p ρ (is_fail_for p a.society) (turning_run p ρ ok l n a) (turners_fail p ρ a.society l), none_going p ρ ok l n a);
        settling = (
          run_steps p ρ is_silent (abandoning_run p ρ ok m (turned_nested p ok l n a)) (abandonings_silent p ρ m),
          settled_exhausted p ρ (view p ρ (abandoned p m)) (view_settled p ρ ok (abandoned p m) k.nested k.closing k.abandoning),
        );
      }

  signal_one : (society : Society) (c d e : Conf) → OnSignal p ρ society c d → OnSignal p ρ society c e → d ≡ e
  signal_one society c d e x y =
      let same = fail_unique p ρ society c x.between y.between x.turning y.turning in
      silent_unique p ρ ok y.between d e (subst (λ z. Exhausts p ρ is_silent z d) same x.settling) y.settling

  -- A firing.
  unfoldable pub firing_acts : ℕ → List Act
  firing_acts t = nestcomp_at t ∷ (deviation_step t (optional (newest (l t).held).deviation) ++ abandonings p ρ (fired p l t))

  -- after its COMP
  pub record Fired (t : ℕ) : Type 0 where
    pub between : Conf
    pub firing : VStep p ρ (view p ρ l) (comp_at t (newest (l t).held).code) between
    pub settling : Exhausts p ρ is_silent between (view p ρ (abandoned p (fired p l t)))
    pub acts : acts_in p ρ settling.0 ≡ firing_acts t

  pub fire_fired : (a : FireArguments) → call_refusal terms p day l (fire a) ≡ 0 → Fired a.track
  unfolding firing_acts
  fire_fired a h =
      let t = a.track in
      let may = (fire_accepted terms p day l a h).1 in
      let k = worked terms p ok l s day (fire a) h in
      let (b, v, r) = first_of p ρ (fire_run p ρ ok l n t (s.formed.good t) may) _ _ refl in
      let silent =
      back_silent p ρ t (deviation_step t (optional (newest (l t).held).deviation) ++ abandonings p ρ (fired p l t))
      (every_join is_silent (deviation_step t (optional (newest (l t).held).deviation)) (abandonings p ρ (fired p l t))
      (deviation_silent t (optional (newest (l t).held).deviation)) (abandonings_silent p ρ (fired p l t))) in
      record {
        between = b;
        firing = v;
        settling = (
          run_steps p ρ is_silent r silent,
          settled_exhausted p ρ (view p ρ (abandoned p (fired p l t)))
              (view_settled p ρ ok (abandoned p (fired p l t)) k.nested k.closing k.abandoning),
        );
        acts = run_acts p ρ is_silent r silent;
      }

  fire_big : (a : FireArguments) → call_refusal terms p day l (fire a) ≡ 0
      → OnFiring p ρ a.track (newest (l a.track).held).code (view p ρ l) (view p ρ (abandoned p (fired p l a.track)))
  fire_big a h = let x = fire_fired a h in record { between = x.between; firing = x.firing; settling = x.settling }

  fire_one : (A j k : ℕ) (c d : Conf) → OnFiring p ρ A j (view p ρ l) c → OnFiring p ρ A k (view p ρ l) d → c ≡ d
  fire_one A j k c d x y =
      let same = comp_unique p ρ A j k (view p ρ l) x.between y.between (view_once p ρ ok l n A) x.firing y.firing in
      silent_unique p ρ ok y.between c d (subst (λ z. Exhausts p ρ is_silent z c) same x.settling) y.settling

  -- what is reached before finish is looked for
  big : (c : Call) → call_refusal terms p day l c ≡ 0 → Big p ρ c (view p ρ l) (view p ρ (work p l c))
  unfolding Big
  big (event a) h = event_big a
  big (signal a) h = signal_big a h
  big (fire a) h = ((newest (l a.track).held).code, fire_big a h)

  -- the report's Proposition 1: only one configuration is reached
  pub one_only : (c : Call) (d e : Conf) → Big p ρ c (view p ρ l) d → Big p ρ c (view p ρ l) e → d ≡ e
  unfolding Big
  one_only (event a) d e x y = event_one a d e x y
  one_only (signal a) d e x y = signal_one a.society (view p ρ l) d e x y
  one_only (fire a) d e x y = fire_one a.track x.0 y.0 d e x.1 y.1

  -- an accepted call leads exactly where the automaton's big steps end
  pub exactly_big : (c : Call) → call_refusal terms p day l c ≡ 0 → (d : Conf) → Ends p ρ c (view p ρ l) d ↔ (d ≡ view p ρ (after p l c))
  unfolding Ends
  exactly_big c h d =
      let m = view p ρ (work p l c) in
      let left = after_view p ρ ok terms day l s c h in
      (λ x. let (e, b, q) = x in q ∙ ap (after_finish p) (one_only c e m b (big c h)) ∙ sym left, λ q. (m, big c h, q ∙ left))
