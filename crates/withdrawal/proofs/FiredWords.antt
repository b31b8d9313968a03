-- A firing in words: the newest entry read and removed, the ledger after it, and what the call answers. Assumes nothing.
use Rattle.std.proofs.Common.{◌≡◌, refl, sym, ap, ◌∙◌, subst, inl, inr, Bool, true, false, not, List, [], ◌∷◌, ℕ, suc, ◌+◌, ◌*◌, ◌-◌, ◌<◌, ◌≤◌, arith, eqb, ltb, length, get_or, eqb-true, eq-eqb, lt-ltb, le-ltb}
use Rattle.std.proofs.Math.Option.{Option, none}
use borrow.Author.Tests.{eqb-false}
use Rattle.rules.specs.declared.Counts.{Counts}
use Rattle.rules.specs.declared.Track.{Track}
use Rattle.rules.specs.declared.Terms.{Terms}
use Rattle.rules.specs.Fold.{first_refusal}
use Rattle.rules.specs.Layout.{head_words, entry_width, track_place, entries_place}
use Rattle.rules.specs.Plan.{Plan, plan_of, track_count, host}
use Rattle.rules.specs.Rights.{fire_right, is_permitted}
use Rattle.rules.specs.Ledger.{Entry, Configuration, Ledger, is_awake, sleeping, entry_at, held_at, configuration_at, ledger_at, written}
use Rattle.rules.specs.Scope.{is_over}
use Rattle.rules.specs.Opening.{wakes, enter}
use Rattle.rules.specs.Finish.{finished}
use Rattle.rules.specs.Signal.{abandoned}
use Rattle.rules.specs.Fire.{newest, older, may_fire, removed, deviates_to, fired, after_fire}
use Rattle.rules.specs.Call.{refusal, done, FireArguments, fire, lacks_fire_right, call_refusal, call_refusals, figures, after, dated_by, fire_outcome, Meets}
use Rattle.rules.proofs.Tests.{look, look_option, clash}
use Rattle.rules.proofs.Acceptance.{Accepted}
use Rattle.rules.proofs.Opening.{wakes_root, enter_kept}
use Rattle.rules.proofs.Abandoning.{undoing_awake}
use Rattle.rules.proofs.Soundness.{Live}
use Rattle.rules.proofs.TrackWords.{length-held_at}
use Rattle.rules.proofs.Stored.{Storable, read_at, written_same}
use Rattle.plan.proofs.FieldLaws.{track_count_lem}
use Rattle.ledger.specs.Ladder.{Within, Tidy, Checked, ledger_of}
use Rattle.ledger.specs.Words.{track_of, track_at, entry_place, with_removed}
use Rattle.ledger.proofs.ReadTracks.{empty_count, count_as}
use Rattle.ledger.proofs.Words.{in_room}
use Rattle.lookup.specs.OneTrack.{with_configuration}
use Rattle.lookup.proofs.Facts.{plan_facts, live_of_going, track_read}
use Rattle.lookup.proofs.OneTrackLaws.{Stores, stores_at, storable_of, holds, put_removed, read_back, orderly_after, then}
use Rattle.opening.proofs.EnteringLaws.{entered_stores}
use Rattle.withdrawal.specs.Deviating.{deviating}
use Rattle.withdrawal.specs.Scopes.{Nested}
use Rattle.withdrawal.proofs.FireLaws.{Fires, fire_parts, to_other, removed_other, woken_asleep}
use Rattle.withdrawal.proofs.ScopesNested.{nested_fired}
use Rattle.withdrawal.proofs.Outcomes.{orderly, refused_call, done_call, going}

-- the newest entry stands last in the track's words
pub newest_read : (terms : Terms) (c : Counts) (ws : List ℕ) (t k : ℕ) → t < c.tracks → length (ledger_of terms c ws t).held ≡ suc k
    → (ledger_of terms c ws t).held ≡ entry_at ws (entry_place terms t k) ∷ older (ledger_of terms c ws t).held
unfolding ledger_of entry_place entries_place configuration_at held_at older
newest_read terms c ws t k b e =
    let q = read_at terms c.tracks ws t b in
    let h : (ledger_at terms ws c.tracks t).held ≡ held_at ws (track_place terms t + head_words) (get_or ws (track_place terms t + 2) 0) = ap (λ (x : Configuration). x.held) q in
    let n = sym (length-held_at ws (track_place terms t + head_words) (get_or ws (track_place terms t + 2) 0)) ∙ ap length (sym h) ∙ e in
    let z = h ∙ ap (held_at ws (track_place terms t + head_words)) n in
    z ∙ ap (λ (es : List Entry). entry_at ws (track_place terms t + head_words + entry_width * k) ∷ es) (sym (ap older z))

-- the rule under Fire, as the code takes it
module _ (terms : Terms) (bs : List ℕ) (c : Counts) (ws : List ℕ) (t : ℕ) where
  pub may_beyond : c.tracks ≤ t → false ≡ may_fire (plan_of bs c) (ledger_of terms c ws) t
  unfolding may_fire
  may_beyond h =
      let q : ltb t (track_count (plan_of bs c)) ≡ false = rw (track_count_lem bs c) (le-ltb t c.tracks h) in rw q

-- one entry less
less_one : Configuration → Configuration
less_one x = record { mode = x.mode; state = x.state; held = older x.held }

older_less : (es : List Entry) → length (older es) ≤ length es
unfolding older
older_less [] = omega arith
older_less (e ∷ es) = omega arith

less_stores : (terms : Terms) (x : Configuration) → Stores terms x → Stores terms (less_one x)
unfolding less_one
less_stores terms x s =
    record {
      fits = let a = s.fits in let b = older_less x.held in omega arith;
      blank = λ a. ap less_one (s.blank a) ∙ (unfold sleeping older in refl);
    }

module _ (p : Plan) (l : Ledger) (t : ℕ) where
  removed_here : (u : ℕ) → eqb u t ≡ true → removed l t u ≡ less_one (l u)
  unfolding removed less_one
  removed_here u e = rw e

  storable_removed : (terms : Terms) (n : ℕ) → t < n → Storable terms n l → Storable terms n (removed l t)
  storable_removed terms n b s =
      storable_of terms n (removed l t)
      (λ u.
      elim (look (eqb u t)) [
        | inl e ↦ subst (Stores terms) (sym (removed_here u e)) (less_stores terms (l u) (stores_at terms n l s u))
        | inr e ↦ subst (Stores terms) (sym (removed_other p l t u (eqb-false u t e))) (stores_at terms n l s u)
      ])
      (λ u h. removed_other p l t u (λ (z : u ≡ t). omega arith) ∙ s.beyond u h)

  storable_fired : (ok : Accepted p) (terms : Terms) (n : ℕ) → track_count p ≤ n → t < n → Storable terms n l → Storable terms n (fired p l t)
  unfolding fired enter
  storable_fired ok terms n few b s =
      let r = storable_removed terms n b s in
      storable_of terms n (fired p l t)
      (λ u. entered_stores terms p (removed l t u) u (deviates_to l t u) (wakes p (deviates_to l t) u) (stores_at terms n (removed l t) r u))
      (λ u h.
      enter_kept p ok (deviates_to l t) (removed l t) u (to_other p l t u (λ (z : u ≡ t). omega arith)) (wakes_root p ok (deviates_to l t) u (rootless u h))
      ∙ r.beyond u h)
    where
      rootless : (u : ℕ) → n ≤ u → host p u ≡ none
      rootless u h = elim (look_option (host p u)) [ inl e ↦ e | inr e ↦ let k = ok.hosted u e.0 e.1 in absurd (omega arith) ]

-- What the code found when it goes on to fire a track for a society.
pub record Fireable (terms : Terms) (bs : List ℕ) (c : Counts) (ws : List ℕ) (t society : ℕ) : Type 0 where
  pub checked : Checked terms bs c ws
  pub not_over_lem : is_over (plan_of bs c) (ledger_of terms c ws) ≡ false
  pub by_right : lacks_fire_right (plan_of bs c) (record { track = t; society = society }) ≡ false
  pub may : may_fire (plan_of bs c) (ledger_of terms c ws) t ≡ true

-- the three refusals, and what holds after them
module _ (terms : Terms) {bs : List ℕ} {c : Counts} {ws : List ℕ} (g : Checked terms bs c ws) {r : Bool} (e : r ≡ is_over (plan_of bs c) (ledger_of terms c ws)) where
  pub going_on : r ≡ false → is_over (plan_of bs c) (ledger_of terms c ws) ≡ false
  going_on h = sym e ∙ h

  module _ (t society : ℕ) where
    abbrev asked : FireArguments
    asked = record { track = t; society = society }

    pub fire_over : r ≡ true → Meets (fire_outcome terms bs ws asked) (refusal 20) ws
    unfolding fire_outcome call_refusal call_refusals first_refusal
    fire_over h =
        let o : is_over (plan_of bs c) (ledger_of terms c ws) ≡ true = sym e ∙ h in
        refused_call terms bs c ws g (fire asked) 19 (rw o)

    module _ (h : r ≡ false) {k : Bool} (l : k ≡ lacks_fire_right (plan_of bs c) asked) where
      pub fire_lacks : k ≡ true → Meets (fire_outcome terms bs ws asked) (refusal 28) ws
      unfolding fire_outcome call_refusal call_refusals first_refusal
      fire_lacks n = refused_call terms bs c ws g (fire asked) 27 (rw (going_on h, sym l ∙ n))

      module _ (i : k ≡ false) {q : Bool} (f : q ≡ may_fire (plan_of bs c) (ledger_of terms c ws) t) where
        pub fire_not : q ≡ false → Meets (fire_outcome terms bs ws asked) (refusal 22) ws
        unfolding fire_outcome call_refusal call_refusals first_refusal
        fire_not n =
            let m : may_fire (plan_of bs c) (ledger_of terms c ws) t ≡ false = sym f ∙ n in
            refused_call terms bs c ws g (fire asked) 21 (rw (going_on h, sym l ∙ i, m))

        pub fireable : q ≡ true → Fireable terms bs c ws t society
        fireable n = record { checked = g; not_over_lem = going_on h; by_right = sym l ∙ i; may = sym f ∙ n }

-- 28, as the code asks it: of a track beyond the plan's it is not asked
module _ (bs : List ℕ) (c : Counts) (t society : ℕ) where
  pub lacks_beyond : c.tracks ≤ t → false ≡ lacks_fire_right (plan_of bs c) (record { track = t; society = society })
  unfolding lacks_fire_right
  lacks_beyond h = sym (rw (le-ltb t (track_count (plan_of bs c)) (omega (arith, h, track_count_lem bs c))))

  pub lacks_at : t < c.tracks → {b : Bool} → b ≡ is_permitted (plan_of bs c) fire_right society t
      → not b ≡ lacks_fire_right (plan_of bs c) (record { track = t; society = society })
  unfolding lacks_fire_right
  lacks_at h e = sym (rw (lt-ltb t (track_count (plan_of bs c)) (omega (arith, h, track_count_lem bs c)), ← e))

-- A firing step by step: vs are the words with the entry removed, us those with the deviation entered.
module _ (terms : Terms) {bs : List ℕ} {c : Counts} {ws : List ℕ} {t society : ℕ} (a : Fireable terms bs c ws t society) where
  abbrev p : Plan
  p = plan_of bs c

  abbrev l : Ledger
  l = ledger_of terms c ws

  live : Live p l
  live = live_of_going terms bs c ws (going terms bs c ws a.checked a.not_over_lem)

  ok : Accepted p
  ok = plan_facts bs c a.checked.lent.accepts

  parts : Fires p l t
  parts = fire_parts p l t a.may

  in_order : Tidy terms ws c.tracks
  in_order = orderly terms bs c ws a.checked

  pub low : t < c.tracks
  low = rw (track_count_lem bs c) at parts.low

  few : track_count p ≤ c.tracks
  few = omega (arith, track_count_lem bs c)

  -- it holds an entry
  pub holding : {k : Track} → k ≡ track_of (l t) → length (l t).held ≡ suc (k.count - 1)
  unfolding track_of
  holding {k} e =
      let n : length (l t).held ≡ 0 → ⊥ = λ z. clash (empty_count (l t).held ∙ eq-eqb (length (l t).held) 0 z) parts.holding in
      let q : k.count ≡ length (l t).held = ap (λ (x : Track). x.count) e in
      omega arith

  pub removed_words : {k : Track} → k ≡ track_of (l t) → {vs : List ℕ} → vs ≡ with_removed terms ws t → vs ≡ written terms c.tracks (removed l t) ws
  unfolding with_configuration less_one
  removed_words {k} e d =
      d ∙ put_removed terms c ws in_order t low (entry_at ws (entry_place terms t (k.count - 1))) (older (l t).held) (newest_read terms c ws t (k.count - 1) low (holding e))
      ∙ written_same terms c.tracks _ _ ws
      (λ u h.
      elim (look (eqb u t)) [
        | inl q ↦ rw q (ap (λ (v : ℕ). less_one (l v)) (sym (eqb-true u t q)) ∙ sym (removed_here p l t u q))
        | inr q ↦ rw q (sym (removed_other p l t u (eqb-false u t q)))
      ])

  pub counted : {k : Track} → k ≡ track_of (l t) → (0 < k.count) × (k.count ≤ terms.limit)
  counted {k} e =
      let n = holding e in
      let q = count_as (l t) e in
      let f = (holds terms c ws in_order).fits t in
      (omega arith, omega arith)

  pub within_words : Within terms ws t
  within_words = in_room ws c.tracks t a.checked.lent.room low

  pub removable : (0 < (track_at terms ws t).count) × ((track_at terms ws t).count ≤ terms.limit)
  removable = counted (track_read terms c ws t low)

  -- its newest entry, read
  newest_is : {k : Track} → k ≡ track_of (l t) → newest (l t).held ≡ entry_at ws (entry_place terms t (k.count - 1))
  unfolding newest
  newest_is {k} e = ap newest (newest_read terms c ws t (k.count - 1) low (holding e))

  pub code_is : {k : Track} → k ≡ track_of (l t) → {r : ℕ} → r ≡ (entry_at ws (entry_place terms t (k.count - 1))).code → r ≡ (newest (l t).held).code
  code_is e f = f ∙ sym (ap (λ (x : Entry). x.code) (newest_is e))

  pub deviation_is : {k : Track} → k ≡ track_of (l t) → {r : ℕ} → r ≡ (entry_at ws (entry_place terms t (k.count - 1))).deviation
      → r ≡ (newest (l t).held).deviation
  deviation_is e f = f ∙ sym (ap (λ (x : Entry). x.deviation) (newest_is e))

  module _ {vs : List ℕ} (d : vs ≡ written terms c.tracks (removed l t) ws) {dev : ℕ} (e : dev ≡ (newest (l t).held).deviation) where
    stored : Storable terms c.tracks (removed l t)
    stored = storable_removed p l t terms c.tracks low (holds terms c ws in_order)

    pub removed_orderly : Tidy terms vs c.tracks
    removed_orderly = orderly_after terms c ws in_order (removed l t) stored d

    same_to : deviating t dev ≡ deviates_to l t
    unfolding deviating deviates_to
    same_to = rw e

    pub sleepers : (u : ℕ) → wakes p (deviating t dev) u ≡ true → ledger_of terms c vs u ≡ sleeping
    sleepers u w =
        let a = woken_asleep p ok l live t parts u (subst (λ (f : ℕ → Option ℕ). wakes p f u ≡ true) same_to w) in
        let n : u ≡ t → ⊥ = λ z. clash (undoing_awake (l t).mode parts.undoing) (subst (λ v. is_awake (l v).mode ≡ false) z a) in
        ap (λ (m : Ledger). m u) (read_back terms c ws in_order (removed l t) stored d) ∙ removed_other p l t u n ∙ (holds terms c ws in_order).blank u a

    module _ {us : List ℕ} (f : us ≡ written terms c.tracks (enter p (deviating t dev) (ledger_of terms c vs)) vs) where
      fired_words : us ≡ written terms c.tracks (fired p l t) ws
      unfolding fired
      fired_words =
          then terms c ws in_order (removed l t) stored d (enter p (deviating t dev)) f
          ∙ ap (λ (h : ℕ → Option ℕ). written terms c.tracks (enter p h (removed l t)) ws) same_to

      stored_fired : Storable terms c.tracks (fired p l t)
      stored_fired = storable_fired p l t ok terms c.tracks few low (holds terms c ws in_order)

      pub fired_orderly : Tidy terms us c.tracks
      fired_orderly = orderly_after terms c ws in_order (fired p l t) stored_fired fired_words

      pub fired_nested : Nested p (ledger_of terms c us)
      fired_nested = subst (Nested p) (sym (read_back terms c ws in_order (fired p l t) stored_fired fired_words)) (nested_fired p l live ok t parts)

      pub fire_done : {code : ℕ} → code ≡ (newest (l t).held).code → {xs : List ℕ}
          → xs ≡ written terms c.tracks (finished p (abandoned p (ledger_of terms c us))) us
          → Meets (fire_outcome terms bs ws (record { track = t; society = society })) (done (code ∷ dev ∷ [])) xs
      unfolding fire_outcome call_refusal call_refusals first_refusal figures after dated_by after_fire
      fire_done k h =
          done_call terms bs c ws a.checked (fire (record { track = t; society = society })) (rw (a.not_over_lem, a.by_right, a.may)) (rw (k, e))
          (then terms c ws in_order (fired p l t) stored_fired fired_words (λ m. finished p (abandoned p m)) h)
