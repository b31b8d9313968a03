-- The three passes one after the other: entries installed, states entered, scopes closed. Each is the rules' own step on the ledger that the one
-- before left, so together they are the event. Assumes nothing.
use Rattle.std.proofs.Common.{◌≡◌, sym, ap, ◌∙◌, subst, inl, inr, true, false, not, ◌&&◌, ◌||◌, List, ℕ, ◌<◌, ◌≤◌, arith, eqb, leb, ltb, length, leb-false, ltb-true, ltb-false}
use Rattle.std.proofs.Math.Option.{Option, none, some}
use Rattle.rules.specs.declared.Counts.{Counts}
use Rattle.rules.specs.Plan.{Plan, plan_of, track_count, no_state, host, replacement}
use Rattle.rules.specs.Ledger.{Configuration, Ledger, is_awake, is_forward, sleeping, written}
use Rattle.rules.specs.Opening.{fresh, wakes, entered, enter}
use Rattle.rules.specs.Event.{EventArguments, destination_of, installed_by, has_code, move, moved, is_closing, is_closed, closes_scope, closed, is_replaced, is_full}
use Rattle.rules.proofs.Modes.{forward_awake}
use Rattle.rules.proofs.Tests.{look, look_option, clash, refuted, and_holds, and_both, or_right}
use Rattle.rules.proofs.Folds.{some_not}
use Rattle.rules.proofs.Acceptance.{Accepted}
use Rattle.rules.proofs.Opening.{wakes_root, wakes_same}
use Rattle.rules.proofs.Closing.{closed_root, closed_asleep, closed_replaced, closed_kept}
use Rattle.rules.proofs.Soundness.{Live}
use Rattle.rules.proofs.Stored.{Storable, written_same}
use Rattle.plan.proofs.FieldLaws.{track_count_lem}
use Rattle.ledger.specs.Ladder.{Tidy, Going, ledger_of}
use Rattle.lookup.specs.Figures.{Numbers}
use Rattle.lookup.proofs.Facts.{plan_facts, live_of_going, tidy_words, storable, beyond}
use Rattle.lookup.proofs.OneTrackLaws.{Stores, stores_sleeping, stores_at, storable_of, read_back, orderly_after, then}
use Rattle.opening.specs.Entering.{states_of, Sleepers}
use Rattle.opening.proofs.EnteringLaws.{entered_stores}
use Rattle.event_choice.specs.declared.Choice.{Choice}
use Rattle.rules.specs.declared.Terms.{Terms}
use Rattle.event_choice.specs.Next.{InRange, moves_of}
use Rattle.event_choice.specs.Chosen.{arguments_of, Chosen}
use Rattle.event_choice.proofs.Visits.{own_low}
use Rattle.event_choice.proofs.Moved.{mover_facts, woken_asleep, moved_kept, moved_own, moved_up, closes_before, closing_still}
use Rattle.event_choice.proofs.Still.{none_close}
use Rattle.event_choice.proofs.Choosing as choosing
use Rattle.event_writing.specs.EventParts.{Movers, Closings}
use Rattle.event_writing.proofs.InstallingPass.{installed_stores, installing_stores}

module _ (terms : Terms) (bs : List ℕ) (c : Counts) (ws : List ℕ) (g : Going terms bs c ws) (r : Choice) (ch : Chosen terms (plan_of bs c) (ledger_of terms c ws) r) where
  abbrev p : Plan
  p = plan_of bs c

  abbrev l : Ledger
  l = ledger_of terms c ws

  abbrev e : EventArguments
  e = arguments_of r

  abbrev m : Ledger
  m = moved p l e

  abbrev to : ℕ → Option ℕ
  to t = destination_of p (move p l e t)

  ok : Accepted p
  ok = plan_facts bs c g.checked.lent.accepts

  live : Live p l
  live = live_of_going terms bs c ws g

  o : Tidy terms ws c.tracks
  o = tidy_words terms bs c ws g.checked

  took : Numbers r.taken c.tracks (move p l e)
  took = subst (λ n. Numbers r.taken n (move p l e)) (track_count_lem bs c) ch.taken

  pub in_range : InRange c r.taken
  in_range = choosing.in_range terms bs c ws g r.asked took

  moves_are : moves_of r.taken c.tracks ≡ move p l e
  moves_are = choosing.moves_are terms bs c ws g r.asked took

  module _ (free : r.full ≡ false) where
    -- a track that is given an entry has room for it
    spare : (t : ℕ) → t < track_count p → (has_code p (move p l e t) || is_replaced p m t) ≡ true → length (l t).held < terms.limit
    unfolding is_full
    spare t b h =
        let q = some_not (track_count p) (λ t. (has_code p (move p l e t) || is_replaced p m t) && leb terms.limit (length (l t).held)) (sym ch.full ∙ free) t b in
        leb-false terms.limit (length (l t).held) (refuted (leb terms.limit (length (l t).held)) (λ f. clash (and_both (has_code p (move p l e t) || is_replaced p m t) _ h f) q))

    mover_low : (t x : ℕ) → move p l e t ≡ some x → t < track_count p
    unfolding sleeping is_forward
    mover_low t x q =
        elim (look (ltb t (track_count p))) [
          | inl b ↦ ltb-true t (track_count p) b
          | inr b ↦ clash (mover_facts p ok l live e t x q).ahead (ap (λ (y : Configuration). is_forward y.mode) (beyond terms bs c ws t (ltb-false t (track_count p) b)))
        ]

    pub movers : Movers terms p l (moves_of r.taken c.tracks)
    unfolding has_code
    movers =
        subst (Movers terms p l) (sym moves_are)
        (record {
          awake = λ t x q. forward_awake (l t).mode (mover_facts p ok l live e t x q).ahead;
          room = λ t h.
              elim (look_option (move p l e t)) [
                | inl q ↦ clash h (ap (has_code p) q)
                | inr q ↦ spare t (mover_low t q.0 q.1) (ap (λ b. b || is_replaced p m t) h)
              ];
        })

    -- the entries are installed
    abbrev first : Ledger
    first t = installed_by p (moves_of r.taken c.tracks t) (l t)

    same : (t : ℕ) → first t ≡ installed_by p (move p l e t) (l t)
    same t = ap (λ goes. installed_by p (goes t) (l t)) moves_are

    idle : (t : ℕ) → move p l e t ≡ none → first t ≡ l t
    unfolding installed_by
    idle t q = same t ∙ (rw (q, installed_by))

    none_beyond : (t : ℕ) → c.tracks ≤ t → move p l e t ≡ none
    none_beyond t b =
        elim (look_option (move p l e t)) [ inl q ↦ q | inr q ↦ absurd (let k = mover_low t q.0 q.1 in let n = track_count_lem bs c in omega arith) ]

    asleep_beyond : (t : ℕ) → c.tracks ≤ t → l t ≡ sleeping
    asleep_beyond t b = beyond terms bs c ws t (omega (arith, track_count_lem bs c))

    stores_first : Storable terms c.tracks first
    stores_first =
        storable_of terms c.tracks first (installing_stores terms c ws o p r.taken movers) (λ t b. idle t (none_beyond t b) ∙ asleep_beyond t b)

    no_host : (t : ℕ) → c.tracks ≤ t → host p t ≡ none
    no_host t b = elim (look_option (host p t)) [ inl q ↦ q | inr q ↦ absurd (let k = ok.hosted t q.0 q.1 in let n = track_count_lem bs c in omega arith) ]

    -- the ledger after the moves can be written
    stores_second : Storable terms c.tracks m
    unfolding moved enter
    stores_second =
        storable_of terms c.tracks m
        (λ t.
        let s = subst (λ x. Stores terms x) (same t) (installing_stores terms c ws o p r.taken movers t) in
        entered_stores terms p (installed_by p (move p l e t) (l t)) t (to t) (wakes p to t) s)
        (λ t b. moved_kept p ok l live e t (none_beyond t b) (wakes_root p ok to t (no_host t b)) ∙ asleep_beyond t b)

    -- what is awake then is one of the plan's tracks
    awake_low : (t : ℕ) → is_awake (m t).mode ≡ true → t < track_count p
    unfolding sleeping is_awake
    awake_low t a =
        elim (look (ltb t (track_count p))) [
          | inl b ↦ ltb-true t (track_count p) b
          | inr b ↦ clash a (ap (λ (x : Configuration). is_awake x.mode) (stores_second.beyond t (omega (arith, ltb-false t (track_count p) b, track_count_lem bs c))))
        ]

    -- room for the replacement
    replaced_room : (t : ℕ) → t < track_count p → is_replaced p m t ≡ true → length (m t).held < terms.limit
    unfolding is_replaced
    replaced_room t b h =
        let s = closing_still p ok l live e t (sym (closes_before p ok l live e t b) ∙ (and_holds (closes_scope p m t) _ h).0) in
        let k = spare t b (or_right (has_code p (move p l e t)) (is_replaced p m t) h) in
        omega (arith, ap (λ (x : Configuration). length x.held) s)

    stores_closed : (t : ℕ) → Stores terms (closed p m t)
    unfolding closes_scope is_replaced
    stores_closed t =
        let s = stores_at terms c.tracks m stores_second t in
        elim (look (is_closed p m t)) [
          | inl q ↦ subst (Stores terms) (sym (closed_asleep p m t q)) (stores_sleeping terms)
          | inr q ↦
              elim (look (closes_scope p m t)) [
                | inr y ↦ subst (Stores terms) (sym (closed_kept p m t q y)) s
                | inl y ↦
                    let a = (and_holds (is_awake (m t).mode) _ y).0 in
                    subst (Stores terms) (sym (closed_replaced p m t q y))
                    (installed_stores terms (replacement p (m t).state) no_state (m t) s a
                    (λ n. replaced_room t (awake_low t a) (and_both (closes_scope p m t) (not (eqb (replacement p (m t).state) 0)) y n)))
              ]
        ]

    -- so can the ledger after the closings
    pub stores_all : Storable terms c.tracks (closed p m)
    unfolding closes_scope sleeping is_awake
    stores_all =
        storable_of terms c.tracks (closed p m) stores_closed
        (λ t b.
        let z = stores_second.beyond t b in
        let n : closes_scope p m t ≡ false = ap (λ (x : Configuration). is_awake x.mode && is_closing p m x.state) z in
        closed_kept p m t (closed_root p m t (no_host t b)) n ∙ z)

    module _ {vs : List ℕ} (d : vs ≡ written terms c.tracks first ws) where
      pub first_tidy : Tidy terms vs c.tracks
      first_tidy = orderly_after terms c ws o first stores_first d

      module _ {ts : List ℕ} (n : Numbers ts c.tracks (λ t. destination_of p (moves_of r.taken c.tracks t))) where
        goes_to : (t : ℕ) → t < track_count p → states_of ts t ≡ to t
        unfolding states_of
        goes_to t b = n.at t (omega (arith, track_count_lem bs c)) ∙ ap (λ goes. destination_of p (goes t)) moves_are

        -- what wakes was asleep
        pub sleepers : Sleepers p (states_of ts) (ledger_of terms c vs)
        sleepers u w =
            let a = woken_asleep p ok l live e u (sym (wakes_same p ok (states_of ts) to goes_to u) ∙ w) in
            ap (λ (k : Ledger). k u) (read_back terms c ws o first stores_first d)
            ∙ elim (look_option (move p l e u)) [
              | inl q ↦ idle u q ∙ (storable terms bs c ws g).blank u a
              | inr q ↦ clash (forward_awake (l u).mode (mover_facts p ok l live e u q.0 q.1).ahead) a
            ]

        -- the states are entered
        module _ {us : List ℕ} (f : us ≡ written terms c.tracks (enter p (states_of ts) (ledger_of terms c vs)) vs) where
          second : us ≡ written terms c.tracks m ws
          unfolding enter moved
          second =
              then terms c ws o first stores_first d (enter p (states_of ts)) f
              ∙ written_same terms c.tracks _ _ ws
              (λ t b.
              let h : t < track_count p = omega (arith, track_count_lem bs c) in
              (λ i. entered (same t i) (fresh p t) (goes_to t h i) (wakes_same p ok (states_of ts) to goes_to t i)))

          read_second : ledger_of terms c us ≡ m
          read_second = read_back terms c ws o m stores_second second

          pub second_tidy : Tidy terms us c.tracks
          second_tidy = orderly_after terms c ws o m stores_second second

          pub closings : Closings terms p (ledger_of terms c us) r.closing
          unfolding closes_scope
          closings =
              subst (λ (k : Ledger). Closings terms p k r.closing) (sym read_second)
              (record {
                marks = ch.closing;
                state = λ t b h. own_low p t (m t).state (moved_own p ok l live e t b (and_holds (is_awake (m t).mode) _ h).0);
                room = replaced_room;
                hosting = moved_up p ok l live e;
              })

          -- the scopes are closed, if any is due to
          pub none_closed : r.closed ≡ 0 → us ≡ written terms c.tracks (closed p m) ws
          none_closed n = second ∙ ap (λ (x : Ledger). written terms c.tracks x ws) (sym (none_close p ok m (sym ch.many_closed ∙ n)))

          pub all_written : {xs : List ℕ} → xs ≡ written terms c.tracks (closed p (ledger_of terms c us)) us
              → xs ≡ written terms c.tracks (closed p m) ws
          all_written x = then terms c ws o m stores_second second (closed p) x
