-- A live ledger, in facts: each clause of soundness holds at every track and every scope; and a sound ledger's words. Assumes nothing.
use mathlib.Core.Path.{◌≡◌, refl, sym, subst}
use mathlib.Core.Logic.{⊎_elim}
use mathlib.Core.Bool.{Bool, true, false, not, ◌&&◌, ◌||◌}
use mathlib.Core.List.{List}
use mathlib.Core.Option.{Option, none, some}
use Prim.Native.Nat.{ℕ, ◌<◌}
use lib.Dec.{eqb}
use borrow.Author.Tests.{eqb-true, eq-eqb, not-true}
use Rattle.rules.specs.declared.Mode.{Mode}
use Rattle.rules.specs.declared.Mode.TheVariants.{Asleep, Forward, Undoing}
use Rattle.rules.specs.declared.Terms.{Terms}
use Rattle.rules.specs.Fold.{some_below}
use Rattle.rules.specs.Plan.{Plan, track_count, state_count, host, owner, is_root, is_state_of, every_in}
use Rattle.rules.specs.Day.{is_day}
use Rattle.rules.specs.Leading.{last_day}
use Rattle.rules.specs.Ledger.{Ledger, is_awake, is_forward, is_undoing, ledger_at}
use Rattle.rules.specs.Scope.{is_open, is_over}
use Rattle.rules.specs.Event.{is_closing}
use Rattle.rules.specs.Finish.{is_finishing}
use Rattle.rules.specs.Signal.{is_abandoning}
use Rattle.rules.specs.Soundness.{every_held, same_mode, roots_awake, states_own, codes_real, good_deviation, deviations_good, is_whole, scopes_whole, is_hosted_well, hosts_awake, closing_done, finish_done, abandoning_done, is_live, are_tidy, is_sound}
use Rattle.rules.proofs.Tests.{look, clash, refuted, and_holds, and_both, or_holds, or_right, implies, implied}
use Rattle.rules.proofs.Folds.{every_at, every_of, some_not, some_none}
use Rattle.rules.proofs.Acceptance.{Accepted}
use Rattle.rules.proofs.Scopes.{in_host, host_in, root_of_lem, root_none, every_in_at, every_in_of, open_find, shut_at}

pub record Live (p : Plan) (l : Ledger) : Type 0 where
  pub roots : (t : ℕ) → t < track_count p → host p t ≡ none → is_awake (l t).mode ≡ true
  pub own : (t : ℕ) → t < track_count p → is_awake (l t).mode ≡ true → is_state_of p t (l t).state ≡ true
  pub codes : (t : ℕ) → t < track_count p → every_held (λ e. not (eqb e.code 0)) (l t).held ≡ true
  pub deviations : (t : ℕ) → t < track_count p → every_held (λ e. good_deviation p t e.deviation) (l t).held ≡ true
  pub whole : (s t u : ℕ) → host p t ≡ some s → host p u ≡ some s → is_awake (l t).mode ≡ true → is_awake (l u).mode ≡ true
  pub up : (t h : ℕ) → host p t ≡ some h → is_awake (l t).mode ≡ true → ((l (owner p h)).state ≡ h) × ((l (owner p h)).mode ≡ (l t).mode)
  pub closing : (s : ℕ) → is_closing p l s ≡ false
  pub finish : is_finishing p l ≡ false
  pub abandoning : (s : ℕ) → is_abandoning p l s ≡ false

pub same_mode_lem : (m n : Mode) → same_mode m n ≡ true → m ≡ n
unfolding same_mode is_awake is_forward is_undoing
same_mode_lem Asleep Asleep h = refl
same_mode_lem Asleep Forward h = clash h refl
same_mode_lem Asleep Undoing h = clash h refl
same_mode_lem Forward Asleep h = clash h refl
same_mode_lem Forward Forward h = refl
same_mode_lem Forward Undoing h = clash h refl
same_mode_lem Undoing Asleep h = clash h refl
same_mode_lem Undoing Forward h = clash h refl
same_mode_lem Undoing Undoing h = refl

pub mode_same : (m : Mode) → same_mode m m ≡ true
unfolding same_mode is_awake is_forward is_undoing
mode_same Asleep = refl
mode_same Forward = refl
mode_same Undoing = refl

module _ (p : Plan) (ok : Accepted p) (l : Ledger) where
  -- a scope with a track is that of a state
  no_track_lem : (s : ℕ) → (f : ℕ → Bool) → some_below (state_count p) f ≡ false → is_open p l s ≡ true → f s ≡ false
  no_track_lem s f n o = let (t, b, e, a) = open_find p l s o in some_not (state_count p) f n s (ok.host_state t s e)

  -- each clause taken from the conjunction
  pub live_facts : is_live p l ≡ true → Live p l
  unfolding is_live roots_awake states_own codes_real deviations_good scopes_whole is_whole hosts_awake is_hosted_well closing_done finish_done abandoning_done is_closing is_abandoning
  live_facts h =
      let q8 = and_holds (roots_awake p l && states_own p l && codes_real p l && deviations_good p l && scopes_whole p l && hosts_awake p l && closing_done p l && finish_done p l) (abandoning_done p l) h in
      let q7 = and_holds (roots_awake p l && states_own p l && codes_real p l && deviations_good p l && scopes_whole p l && hosts_awake p l && closing_done p l) (finish_done p l) q8.0 in
      let q6 = and_holds (roots_awake p l && states_own p l && codes_real p l && deviations_good p l && scopes_whole p l && hosts_awake p l) (closing_done p l) q7.0 in
      let q5 = and_holds (roots_awake p l && states_own p l && codes_real p l && deviations_good p l && scopes_whole p l) (hosts_awake p l) q6.0 in
      let q4 = and_holds (roots_awake p l && states_own p l && codes_real p l && deviations_good p l) (scopes_whole p l) q5.0 in
      let q3 = and_holds (roots_awake p l && states_own p l && codes_real p l) (deviations_good p l) q4.0 in
      let q2 = and_holds (roots_awake p l && states_own p l) (codes_real p l) q3.0 in
      let q1 = and_holds (roots_awake p l) (states_own p l) q2.0 in
      record {
        roots = λ t b e. implies (is_root p t) (is_awake (l t).mode) (every_at (track_count p) _ q1.0 t b) (root_of_lem p t e);
        own = λ t b a. implies (is_awake (l t).mode) (is_state_of p t (l t).state) (every_at (track_count p) _ q1.1 t b) a;
        codes = λ t b. every_at (track_count p) _ q2.1 t b;
        deviations = λ t b. every_at (track_count p) _ q3.1 t b;
        whole = λ s t u e f a.
            ⊎_elim (λ w. every_in_at p s (λ t. is_awake (l t).mode) w u (ok.hosted u s f) (host_in p s u f))
            (λ w. clash a (not-true _ (every_in_at p s (λ t. not (is_awake (l t).mode)) w t (ok.hosted t s e) (host_in p s t e))))
            (or_holds (every_in p s (λ t. is_awake (l t).mode)) (every_in p s (λ t. not (is_awake (l t).mode))) (every_at (state_count p) _ q4.1 s (ok.host_state t s e)));
        up = λ t h' e a.
            let x : is_hosted_well p l t ≡ true = every_at (track_count p) (is_hosted_well p l) q5.1 t (ok.hosted t h' e) in
            let y : (not (is_awake (l t).mode) || (eqb (l (owner p h')).state h' && same_mode (l (owner p h')).mode (l t).mode)) ≡ true = rw (e, is_hosted_well) at x in
            let (u, v) = and_holds (eqb (l (owner p h')).state h') (same_mode (l (owner p h')).mode (l t).mode) (implies (is_awake (l t).mode) _ y a) in
            (eqb-true _ _ u, same_mode_lem _ _ v);
        closing = λ s. settled s (is_closing p l) (not-true _ q6.1) (λ c. (and_holds (is_open p l s) _ c).0);
        finish = not-true _ q7.1;
        abandoning = λ s. settled s (is_abandoning p l) (not-true _ q8.1) (λ c. (and_holds (is_open p l s) _ c).0);
      }
    where
      settled : (s : ℕ) (f : ℕ → Bool) → some_below (state_count p) f ≡ false → (f s ≡ true → is_open p l s ≡ true) → f s ≡ false
      settled s f n o = refuted (f s) (λ c. clash c (no_track_lem s f n (o c)))

  -- and put together again
  pub live_of : Live p l → is_live p l ≡ true
  unfolding is_live roots_awake states_own codes_real deviations_good scopes_whole is_whole hosts_awake is_hosted_well closing_done finish_done abandoning_done
  live_of w =
      rw (
        every_of (track_count p) (λ t. not (is_root p t) || is_awake (l t).mode) (λ t b. implied (is_root p t) (is_awake (l t).mode) (λ r. w.roots t b (root_none p t r))),
        every_of (track_count p) (λ t. not (is_awake (l t).mode) || is_state_of p t (l t).state) (λ t b. implied (is_awake (l t).mode) (is_state_of p t (l t).state) (w.own t b)),
        every_of (track_count p) (λ t. every_held (λ e. not (eqb e.code 0)) (l t).held) w.codes,
        every_of (track_count p) (λ t. every_held (λ e. good_deviation p t e.deviation) (l t).held) w.deviations,
        every_of (state_count p) (is_whole p l) (λ s b. whole_of s),
        every_of (track_count p) (is_hosted_well p l) (λ t b. up_of t (host p t) refl),
        some_none (state_count p) (is_closing p l) (λ s b. w.closing s),
        w.finish,
        some_none (state_count p) (is_abandoning p l) (λ s b. w.abandoning s),
      )
    where
      whole_of : (s : ℕ) → is_whole p l s ≡ true
      whole_of s =
          ⊎_elim
          (λ o. let (t, b, e, a) = open_find p l s o in rw (every_in_of p s (λ t. is_awake (l t).mode) (λ u c i. w.whole s t u e (in_host p s u i) a)))
          (λ o.
          or_right (every_in p s (λ t. is_awake (l t).mode)) (every_in p s (λ t. not (is_awake (l t).mode)))
          (every_in_of p s (λ t. not (is_awake (l t).mode)) (λ u c i. rw (shut_at p l s u o c (in_host p s u i)))))
          (look (is_open p l s))

      up_of : (t : ℕ) (o : Option ℕ) → host p t ≡ o → is_hosted_well p l t ≡ true
      up_of t none e = rw (e, is_hosted_well)
      up_of t (some h) e =
          rw (e, is_hosted_well)
          (implied (is_awake (l t).mode) (eqb (l (owner p h)).state h && same_mode (l (owner p h)).mode (l t).mode)
          (λ a.
          let (x, y) = w.up t h e a in
          and_both (eqb (l (owner p h)).state h) (same_mode (l (owner p h)).mode (l t).mode) (eq-eqb _ _ x)
          (subst (λ m. same_mode m (l t).mode ≡ true) (sym y) (mode_same (l t).mode))))

-- A sound ledger's words: a day in range, tidy, and over or live.
pub record SoundWords (terms : Terms) (p : Plan) (ws : List ℕ) : Type 0 where
  pub day : is_day (last_day ws) ≡ true
  pub tidy : are_tidy terms ws (track_count p) ≡ true
  pub rest : (is_over p (ledger_at terms ws (track_count p)) || is_live p (ledger_at terms ws (track_count p))) ≡ true

module _ (terms : Terms) (p : Plan) (ws : List ℕ) where
  pub sound_words : is_sound terms p ws ≡ true → SoundWords terms p ws
  unfolding is_sound
  sound_words h =
      let (q, r) = and_holds (is_day (last_day ws) && are_tidy terms ws (track_count p)) _ h in
      let (d, t) = and_holds (is_day (last_day ws)) (are_tidy terms ws (track_count p)) q in
      record { day = d; tidy = t; rest = r }

  pub words_sound : SoundWords terms p ws → is_sound terms p ws ≡ true
  unfolding is_sound
  words_sound s = rw (s.day, s.tidy) s.rest
