-- What calls on words that pass the checks are answered: a firing that is allowed is done for every society with the right, and no call of a list
-- from an accepted begin is refused for the ledger that it got. The words hold the day and the ledger of the rules, and these refuse by 19 to 22, 26
-- and 28 alone. Assumes nothing.
use mathlib.Core.Path.{◌≡◌, refl, sym, ap, subst}
use mathlib.Core.Logic.{◌⊎◌, inl, inr}
use mathlib.Core.Bool.{Bool, true, false, cond, not, and-false}
use mathlib.Core.List.{List, [], ◌∷◌}
use Prim.Native.Nat.{ℕ, zero, suc, ◌≤◌}
use native.Mathlib.Omega.{arith}
use lib.Dec.{ltb, eqb}
use Rattle.rules.specs.declared.Counts.{Counts}
use Rattle.rules.specs.declared.Mode.TheVariants.{Undoing}
use Rattle.rules.specs.Names.{Day}
use Rattle.rules.specs.declared.Terms.{Terms}
use Rattle.rules.specs.Fold.{first_refusal}
use Rattle.rules.specs.Plan.{Plan, track_count, plan_of}
use Rattle.rules.specs.Acceptance.{accepted, read_plan}
use Rattle.rules.specs.Rights.{move_right, signal_right, fire_right, is_permitted, holds_somewhere}
use Rattle.rules.specs.Ledger.{Ledger, is_empty}
use Rattle.rules.specs.Scope.{is_over}
use Rattle.rules.specs.Event.{is_full}
use Rattle.rules.specs.Fire.{newest, may_fire}
use Rattle.rules.specs.Call.{refusal, done, SignalArguments, FireArguments, Call, event, signal, fire, bad_day, lacks_fire_right, call_refusals, call_refusal, figures, call_outcome, begin_outcome}
use Rattle.rules.specs.Leading.{last_day}
use Rattle.rules.specs.ReferenceRun.{words_after, ledger_after}
use Rattle.rules.proofs.LedgerChecks.{Passes}
use Rattle.rules.proofs.Ready.{fireable_not_over}
use Rattle.restoration.proofs.SoundWords.{the_ledger, Holds, passes_holds, call_accepted, call_refused}
use Rattle.restoration.proofs.Restoration.{history_holds, goes_on}

-- the numbers by which a ledger that passes the checks refuses: 19 to 22, 26 and 28
abbrev pub CallNumber : ℕ → Type 0
CallNumber m = ((19 ≤ m) × (m ≤ 22)) ⊎ ((m ≡ 26) ⊎ (m ≡ 28))

-- a table of them, its head taken off
head : (b : Bool) (n r m : ℕ) → CallNumber n → cond b n r ≡ m → (r ≡ m → (m ≡ 0) ⊎ CallNumber m) → (m ≡ 0) ⊎ CallNumber m
head true n r m h e f = inr (subst CallNumber e h)
head false n r m h e f = f e

module _ (terms : Terms) (p : Plan) (d : Day) (l : Ledger) where
  -- what is accepted: a signal where the ledger is not over, a firing where the track may be fired, each of a society with the right
  pub signal_allowed : (a : SignalArguments) → is_over p l ≡ false → holds_somewhere p signal_right a.society ≡ true → call_refusal terms p d l (signal a) ≡ 0
  unfolding call_refusal call_refusals first_refusal
  signal_allowed a o r = rw (o, r)

  pub fire_allowed : (a : FireArguments) → may_fire p l a.track ≡ true → is_permitted p fire_right a.society a.track ≡ true
      → call_refusal terms p d l (fire a) ≡ 0
  unfolding call_refusal call_refusals first_refusal lacks_fire_right
  fire_allowed a h r = rw (fireable_not_over p l a.track h, r, and-false (ltb a.track (track_count p)), h)

  pub refused_by_call : (c : Call) (m : ℕ) → call_refusal terms p d l c ≡ m → (m ≡ 0) ⊎ CallNumber m
  unfolding call_refusal call_refusals first_refusal
  refused_by_call (event a) m e =
      head (eqb a.event 0) 19 _ m (inl (omega arith, omega arith)) e
      (λ f. head (bad_day d a.day) 26 _ m (inr (inl refl)) f
      (λ g. head (is_over p l) 20 _ m (inl (omega arith, omega arith)) g
      (λ h. head (not (holds_somewhere p move_right a.society)) 28 _ m (inr (inr refl)) h
      (λ i. head (is_full p terms l a) 21 0 m (inl (omega arith, omega arith)) i (λ j. inl (sym j))))))
  refused_by_call (signal a) m e =
      head (is_over p l) 20 _ m (inl (omega arith, omega arith)) e
      (λ f. head (not (holds_somewhere p signal_right a.society)) 28 0 m (inr (inr refl)) f (λ h. inl (sym h)))
  refused_by_call (fire a) m e =
      head (is_over p l) 20 _ m (inl (omega arith, omega arith)) e
      (λ f. head (lacks_fire_right p a) 28 _ m (inr (inr refl)) f
      (λ g. head (not (may_fire p l a.track)) 22 0 m (inl (omega arith, omega arith)) g (λ h. inl (sym h))))

module _ (terms : Terms) (bs : List ℕ) (k : Counts) (read : read_plan bs ≡ accepted k) where
  abbrev p : Plan
  p = plan_of bs k

  -- "Answer: code and deviation." of the newest entry
  abbrev pub Done : List ℕ → Ledger → FireArguments → Type 0
  Done ws l a =
      (call_outcome terms bs ws (fire a)).answer ≡ done ((newest (l a.track).held).code ∷ (newest (l a.track).held).deviation ∷ [])

  -- done for each society that has the fire right for the track
  abbrev pub DoneForAll : List ℕ → Ledger → ℕ → Type 0
  DoneForAll ws l t = (society : ℕ) → is_permitted p fire_right society t ≡ true → Done ws l (record { track = t; society = society })

  pub fire_done : (ws : List ℕ) (d : Day) (l : Ledger) → Holds terms bs k read ws d l → (t : ℕ) → may_fire p l t ≡ true → DoneForAll ws l t
  unfolding figures
  fire_done ws d l h t m society r =
      let a : FireArguments = record { track = t; society = society } in
      ap (λ o. o.answer) (call_accepted terms bs k read ws d l h (fire a) (fire_allowed terms p d l a m r))

  -- "a firing is allowed where the rule under Fire lets that track be fired": on words that pass the checks such a call is done
  pub allowed_done : (ws : List ℕ) → Passes terms bs p ws
      → (t : ℕ) → may_fire p (the_ledger terms bs k read ws) t ≡ true → DoneForAll ws (the_ledger terms bs k read ws) t
  allowed_done ws h = fire_done ws (last_day ws) (the_ledger terms bs k read ws) (passes_holds terms bs k read ws h)

  -- so in a list from an accepted begin, "if any track is undoing and holds an entry", some firing would be done, by whoever has the right
  pub goes_on_done : (lent : List ℕ) → (begin_outcome terms bs lent).answer ≡ done [] → (cs : List Call)
      → (t : ℕ) → (ledger_after terms bs p lent cs t).mode ≡ Undoing → is_empty (ledger_after terms bs p lent cs t).held ≡ false
      → (u : ℕ) × DoneForAll (words_after terms bs lent cs) (ledger_after terms bs p lent cs) u
  goes_on_done lent h cs t d e =
      let (u, m) = goes_on terms bs k read lent cs h t d e in
      (u, fire_done (words_after terms bs lent cs) _ (ledger_after terms bs p lent cs) (history_holds terms bs k read lent cs h) u m)

  -- "Its first call gets the ledger as an accepted begin left it, each later one the ledger as the call before left it": that is long enough,
  -- the plan's own and sound, so no call of the list is refused by 17, 24 or 18, nor by the plan
  pub refused_for_the_call : (lent : List ℕ) → (begin_outcome terms bs lent).answer ≡ done [] → (cs : List Call) (c : Call) (m : ℕ)
      → (call_outcome terms bs (words_after terms bs lent cs) c).answer ≡ refusal m → CallNumber m
  refused_for_the_call lent h cs c m e = go (call_refusal terms p (last_day (words_after terms bs lent cs)) (ledger_after terms bs p lent cs) c) refl
    where
      go : (r : ℕ) → call_refusal terms p (last_day (words_after terms bs lent cs)) (ledger_after terms bs p lent cs) c ≡ r → CallNumber m
      go zero z =
          let q = ap (λ o. o.answer) (call_accepted terms bs k read _ _ _ (history_holds terms bs k read lent cs h) c z) in
          let y : ◌≡◌ {A = ℕ} 0 1 = cc in absurd (omega arith)
      go (suc r) z =
          let q = ap (λ o. o.answer) (call_refused terms bs k read _ _ _ (history_holds terms bs k read lent cs h) c r z) in
          let y : m ≡ suc r = cc in
          elim (refused_by_call terms p _ _ c (suc r) z) [ inl x ↦ absurd (omega arith) | inr x ↦ subst CallNumber (sym y) x ]
