-- Where a step starts, in facts: the accepted plan's, the live ledger's, and what a track's words and host say. Assumes nothing.
use Rattle.std.proofs.Common.{◌≡◌, refl, sym, ap, ◌∙◌, inl, inr, Bool, true, false, not, ◌&&◌, ◌||◌, List, ℕ, ◌<◌, ◌≤◌, not-suc-le-zero, arith, eqb, ltb, length, eq-eqb, eqb-true, lt-ltb, le-ltb, ltb-false}
use Rattle.std.proofs.Math.Bool.{and-false}
use Rattle.std.proofs.Math.Option.{Option, none, some}
use Rattle.rules.specs.declared.Counts.{Counts}
use Rattle.rules.specs.declared.Terms.{Terms}
use Rattle.rules.specs.Plan.{Plan, plan_of, track_count, no_state, host_word, host, owner, is_hosted_by}
use Rattle.rules.specs.Layout.{word_count}
use Rattle.rules.specs.Ledger.{Ledger, is_awake, is_undoing, is_empty, sleeping, ledger_at}
use Rattle.rules.specs.Scope.{is_over, has_open_scope}
use Rattle.rules.specs.Fire.{may_fire}
use Rattle.rules.specs.Soundness.{are_tidy, is_live}
use Rattle.rules.specs.Call.{too_short}
use Rattle.rules.proofs.Tests.{look, look_option, clash, or_holds, same_test}
use Rattle.rules.proofs.Folds.{every_at}
use Rattle.rules.proofs.Acceptance.{Accepted, accepts}
use Rattle.rules.proofs.Soundness.{Live, live_facts, sound_words}
use Rattle.rules.proofs.LedgerChecks.{Passes}
use Rattle.rules.proofs.Stored.{Storable, read_at, read_beyond, storable_read}
use Rattle.plan.proofs.FieldLaws.{track_count_lem, state_count_lem}
use Rattle.plan.proofs.Hosting.{host_none, host_some}
use Rattle.ledger.specs.Ladder.{Room, Tidy, Accepts, Checked, Going, ledger_of}
use Rattle.lookup.specs.HostTrack.{host_track}
use Rattle.ledger.specs.Words.{track_of, track_at}
use Rattle.lookup.specs.Figures.{Only}
use Rattle.lookup.proofs.FiguresLaws.{only_none}

-- the plan's facts
pub plan_facts : (bs : List ℕ) (c : Counts) → Accepts bs c → Accepted (plan_of bs c)
plan_facts bs c a = accepts bs c a.read

pub few_tracks : (bs : List ℕ) (c : Counts) → Accepts bs c → track_count (plan_of bs c) ≤ 32
few_tracks bs c a = let h = a.holds.tracks in omega (arith, track_count_lem bs c)

-- what the checks of the ledger establish, in the rules' terms and in the ladder's
pub room_long : (terms : Terms) (bs : List ℕ) (c : Counts) (ws : List ℕ) → Room terms ws c.tracks → too_short terms (plan_of bs c) ws ≡ false
unfolding too_short
room_long terms bs c ws r = rw (track_count_lem bs c) (le-ltb (length ws) (word_count terms c.tracks) r.words)

pub long_room : (terms : Terms) (bs : List ℕ) (c : Counts) (ws : List ℕ) → Accepts bs c → too_short terms (plan_of bs c) ws ≡ false → Room terms ws c.tracks
unfolding too_short
long_room terms bs c ws a h = record { few = a.holds.tracks; words = ltb-false (length ws) (word_count terms c.tracks) (rw track_count_lem at h) }

pub checked_passes : (terms : Terms) (bs : List ℕ) (c : Counts) (ws : List ℕ) → Checked terms bs c ws → Passes terms bs (plan_of bs c) ws
checked_passes terms bs c ws k = record { long = room_long terms bs c ws k.lent.room; own = k.own; sound = k.sound }

pub passes_checked : (terms : Terms) (bs : List ℕ) (c : Counts) (ws : List ℕ) → Accepts bs c → Passes terms bs (plan_of bs c) ws → Checked terms bs c ws
passes_checked terms bs c ws a h = record { lent = record { accepts = a; room = long_room terms bs c ws a h.long }; own = h.own; sound = h.sound }

-- the ledger's facts
pub tidy_words : (terms : Terms) (bs : List ℕ) (c : Counts) (ws : List ℕ) → Checked terms bs c ws → Tidy terms ws c.tracks
tidy_words terms bs c ws k =
    record {
      room = k.lent.room;
      tidy = ap (are_tidy terms ws) (sym (track_count_lem bs c)) ∙ (sound_words terms (plan_of bs c) ws k.sound).tidy;
    }

pub live_of_going : (terms : Terms) (bs : List ℕ) (c : Counts) (ws : List ℕ) → Going terms bs c ws → Live (plan_of bs c) (ledger_of terms c ws)
unfolding ledger_of
live_of_going terms bs c ws g =
    let p = plan_of bs c in
    let l : ℕ → Ledger = ledger_at terms ws in
    let q = (sound_words terms p ws g.checked.sound).rest in
    let r : (is_over p (l c.tracks) || is_live p (l c.tracks)) ≡ true = ap (λ (m : ℕ). is_over p (l m) || is_live p (l m)) (sym (track_count_lem bs c)) ∙ q in
    live_facts p (plan_facts bs c g.checked.lent.accepts) (ledger_of terms c ws)
    (elim (or_holds (is_over p (l c.tracks)) (is_live p (l c.tracks)) r) [ inl o ↦ clash o g.goes_on | inr v ↦ v ])

-- a host is a state of a lower-numbered track, so the first track is a root; of a sound ledger it is awake unless all are asleep
pub first_track : (bs : List ℕ) (c : Counts) → Accepts bs c → 0 < c.tracks
first_track bs c a = rw (track_count_lem bs c) at (plan_facts bs c a).some_track

first_root : (bs : List ℕ) (c : Counts) → Accepts bs c → host (plan_of bs c) 0 ≡ none
first_root bs c a =
    elim (look_option (host (plan_of bs c) 0)) [ inl z ↦ z | inr z ↦ absurd (not-suc-le-zero ((plan_facts bs c a).lower 0 z.0 z.1)) ]

pub over_by_first : (terms : Terms) (bs : List ℕ) (c : Counts) (ws : List ℕ) → Checked terms bs c ws → {r : Bool} → r ≡ is_awake (ledger_of terms c ws 0).mode
    → not r ≡ is_over (plan_of bs c) (ledger_of terms c ws)
unfolding is_over
over_by_first terms bs c ws k e =
    let a = k.lent.accepts in
    let some_track = (plan_facts bs c a).some_track in
    elim (look (is_over (plan_of bs c) (ledger_of terms c ws))) [
      | inl o ↦ ap not e ∙ every_at (track_count (plan_of bs c)) _ o 0 some_track ∙ sym o
      | inr n ↦ ap not (e ∙ (live_of_going terms bs c ws (record { checked = k; goes_on = n })).roots 0 some_track (first_root bs c a)) ∙ sym n
    ]

pub storable : (terms : Terms) (bs : List ℕ) (c : Counts) (ws : List ℕ) → Going terms bs c ws → Storable terms c.tracks (ledger_of terms c ws)
unfolding ledger_of
storable terms bs c ws g = storable_read terms c.tracks ws (tidy_words terms bs c ws g.checked).tidy

pub beyond : (terms : Terms) (bs : List ℕ) (c : Counts) (ws : List ℕ) (t : ℕ) → track_count (plan_of bs c) ≤ t → ledger_of terms c ws t ≡ sleeping
unfolding ledger_of
beyond terms bs c ws t h = read_beyond terms c.tracks ws t (rw (track_count_lem bs c) at h)

-- a track's words
pub track_read : (terms : Terms) (c : Counts) (ws : List ℕ) (t : ℕ) → t < c.tracks → track_at terms ws t ≡ track_of (ledger_of terms c ws t)
unfolding track_at ledger_of
track_read terms c ws t b = ap track_of (sym (read_at terms c.tracks ws t b))

-- a track's host
pub host_root : (p : Plan) (t h : ℕ) → h ≡ host_word p t → h ≡ no_state → no_state ≡ host_track p t
unfolding host_track
host_root p t h e z = rw (host_none p t (sym e ∙ z), host_track)

pub host_track_lem : (p : Plan) (t h : ℕ) → h ≡ host_word p t → (h ≡ no_state → ⊥) → owner p h ≡ host_track p t
unfolding host_track
host_track_lem p t h e n = rw (host_some p t (λ z. n (e ∙ z)), host_track) (ap (owner p) e)

pub host_is : (p : Plan) (t h : ℕ) → h ≡ host_word p t → (h ≡ no_state → ⊥) → host p t ≡ some h
host_is p t h e n = host_some p t (λ z. n (e ∙ z)) ∙ ap some (sym e)

pub host_low : (bs : List ℕ) (c : Counts) (t h : ℕ) → Accepts bs c → h ≡ host_word (plan_of bs c) t → (h ≡ no_state → ⊥) → h < c.states
host_low bs c t h a e n = rw (state_count_lem bs c) at ((plan_facts bs c a).host_state t h (host_is (plan_of bs c) t h e n))

pub owner_low : (bs : List ℕ) (c : Counts) (s : ℕ) → Accepts bs c → s < c.states → owner (plan_of bs c) s < c.tracks
owner_low bs c s a b = rw (track_count_lem bs c) at ((plan_facts bs c a).owned s (rw (state_count_lem bs c) b))

-- a track whose host's track is none is a root; any other has its host there
pub no_host_track : (bs : List ℕ) (c : Counts) (t : ℕ) → Accepts bs c → host_track (plan_of bs c) t ≡ no_state → host (plan_of bs c) t ≡ none
unfolding host_track no_state
no_host_track bs c t a h = go (host (plan_of bs c) t) refl
  where
    go : (o : Option ℕ) → host (plan_of bs c) t ≡ o → host (plan_of bs c) t ≡ none
    go none e = e
    go (some s) e =
        let q : owner (plan_of bs c) s ≡ 65535 = rw (e, host_track) at h in
        let b = (plan_facts bs c a).owned s ((plan_facts bs c a).host_state t s e) in
        let n = few_tracks bs c a in
        absurd (omega arith)

pub host_of_track : (p : Plan) (t : ℕ) → (host_track p t ≡ no_state → ⊥) → (h : ℕ) × (host p t ≡ some h) × (owner p h ≡ host_track p t)
unfolding host_track
host_of_track p t n = go (host p t) refl
  where
    go : (o : Option ℕ) → host p t ≡ o → (h : ℕ) × (host p t ≡ some h) × (owner p h ≡ host_track p t)
    go none e = absurd (n (rw (e, host_track)))
    go (some h) e = (h, e, rw (e, host_track))

pub host_track_low : (bs : List ℕ) (c : Counts) (t u : ℕ) → Accepts bs c → u ≡ host_track (plan_of bs c) t → (u ≡ no_state → ⊥) → u < c.tracks
host_track_low bs c t u a e n =
    let (h, q, o) = host_of_track (plan_of bs c) t (λ z. n (e ∙ z)) in
    let b = (plan_facts bs c a).owned h ((plan_facts bs c a).host_state t h q) in
    let k = track_count_lem bs c in
    let w : u ≡ owner (plan_of bs c) h = e ∙ sym o in
    omega arith

-- it is the one track that hosts it, where a condition holds
module _ (bs : List ℕ) (c : Counts) (t : ℕ) (a : Accepts bs c) where
  pub host_unless : {b : Bool} → b ≡ false → Only c.tracks (λ v. is_hosted_by (plan_of bs c) v t && b) no_state
  host_unless e = only_none c.tracks a.holds.tracks _ (λ v l. rw e (and-false (is_hosted_by (plan_of bs c) v t)))

  pub host_if : {u : ℕ} → u ≡ host_track (plan_of bs c) t → {b : Bool} → b ≡ true → Only c.tracks (λ v. is_hosted_by (plan_of bs c) v t && b) u
  unfolding is_hosted_by host_track
  host_if {u} e y =
      elim (look_option (host (plan_of bs c) t)) [
        | inl z ↦
            let q : u ≡ no_state = e ∙ (rw (z, host_track)) in
            rw q (only_none c.tracks a.holds.tracks _ (λ v l. rw (z, is_hosted_by)))
        | inr z ↦
            record {
              low = host_track_low bs c t u a e;
              at = λ v b.
                  let q : u ≡ owner (plan_of bs c) z.0 = e ∙ (rw (z.1, host_track)) in
                  rw (z.1, is_hosted_by, q, y) (mathlib.Core.Bool.and-true (eqb (owner (plan_of bs c) z.0) v) ∙ eqb_turned (owner (plan_of bs c) z.0) v);
            }
      ]
    where
      eqb_turned : (i j : ℕ) → eqb i j ≡ eqb j i
      eqb_turned i j = same_test (eqb i j) (eqb j i) (λ h. eq-eqb j i (sym (eqb-true i j h))) (λ h. eq-eqb i j (sym (eqb-true j i h)))

-- whether a track may be fired
module _ (bs : List ℕ) (c : Counts) (l : Ledger) (t : ℕ) (low : t < c.tracks) where
  there : ltb t (track_count (plan_of bs c)) ≡ true
  there = lt-ltb t (track_count (plan_of bs c)) (rw (track_count_lem bs c) low)

  pub fire_not : is_undoing (l t).mode ≡ false → false ≡ may_fire (plan_of bs c) l t
  unfolding may_fire
  fire_not u = rw (there, u)

  pub fire_nothing : is_undoing (l t).mode ≡ true → is_empty (l t).held ≡ true → false ≡ may_fire (plan_of bs c) l t
  unfolding may_fire
  fire_nothing u e = rw (there, u, e)

  pub fire_free : is_undoing (l t).mode ≡ true → is_empty (l t).held ≡ false → {b : Bool} → b ≡ has_open_scope (plan_of bs c) l t
      → not b ≡ may_fire (plan_of bs c) l t
  unfolding may_fire
  fire_free u e o = rw (there, u, e, ← o)
