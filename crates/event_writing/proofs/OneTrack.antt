-- One track written: a code given, a move's entry installed, a closing done. Each branch of the code is a case of the definition. Assumes nothing.
use Rattle.std.proofs.Common.{◌≡◌, refl, sym, ap, ◌∙◌, Bool, true, false, not, List, ℕ, ◌<◌, arith, eqb, length, get_or, eq-eqb, ne_eqb}
use Rattle.std.proofs.Math.Option.{some}
use borrow.Author.Tests.{not-true, not-false}
use Rattle.rules.specs.declared.Counts.{Counts}
use Rattle.rules.specs.declared.Track.{Track}
use Rattle.rules.specs.declared.Terms.{Terms}
use Rattle.rules.specs.Plan.{Plan, plan_of, no_state, optional, transition, replacement}
use Rattle.rules.specs.Ledger.{Configuration, is_awake}
use Rattle.rules.specs.Event.{install, installed, destination_of, installed_by, has_code}
use Rattle.ledger.specs.Ladder.{Tidy, Accepts, ledger_of}
use Rattle.lookup.specs.HostTrack.{host_track}
use Rattle.ledger.specs.Words.{track_of, track_at, with_installed, with_asleep}
use Rattle.ledger.proofs.ReadTracks.{mode_as, state_as}
use Rattle.lookup.specs.OneTrack.{with_configuration}
use Rattle.lookup.proofs.Facts.{track_read, no_host_track, host_of_track}
use Rattle.lookup.proofs.OneTrackLaws.{kept_track, put_installed, put_asleep}
use Rattle.event_choice.proofs.Visits.{word_none, word_some, word_small}
use Rattle.event_writing.specs.EventParts.{is_closed_by, closed_by}

-- a code given
module _ (terms : Terms) (c : Counts) (ws : List ℕ) (o : Tidy terms ws c.tracks) (t : ℕ) (b : t < c.tracks) (code deviation : ℕ) where
  pub give_none : code ≡ 0 → ws ≡ with_configuration terms c ws t (installed code deviation (ledger_of terms c ws t))
  unfolding installed install
  give_none z = kept_track terms c ws o t _ (rw (eq-eqb code 0 z))

  module _ (room : length (ledger_of terms c ws t).held < terms.limit) where
    pub give_room : (track_at terms ws t).count < terms.limit
    unfolding track_of
    give_room = let e = ap (λ (k : Track). k.count) (track_read terms c ws t b) in omega (arith, e)

    pub give_some : (code ≡ 0 → ⊥) → {vs : List ℕ} → vs ≡ with_installed terms ws t code deviation
        → vs ≡ with_configuration terms c ws t (installed code deviation (ledger_of terms c ws t))
    unfolding installed install
    give_some n d = d ∙ put_installed terms c ws o t b (record { code = code; deviation = deviation }) room ∙ ap (with_configuration terms c ws t) (sym (rw (ne_eqb code 0 n)))

-- what a transition installs, and where it leads
module _ (p : Plan) (x : ℕ) where
  pub stays : x ≡ no_state → (y : Configuration) → installed_by p (optional x) y ≡ y
  unfolding installed_by
  stays z y = rw (word_none z, installed_by)

  pub enters_none : x ≡ no_state → optional no_state ≡ destination_of p (optional x)
  unfolding destination_of
  enters_none z = word_none refl ∙ sym (rw (word_none z, destination_of))

  module _ (n : x ≡ no_state → ⊥) where
    pub installs : {code deviation : ℕ} → code ≡ (transition p x).code → deviation ≡ (transition p x).deviation → (terms : Terms) (c : Counts) (ws : List ℕ) (t : ℕ) {vs : List ℕ}
        → vs ≡ with_configuration terms c ws t (installed code deviation (ledger_of terms c ws t))
        → vs ≡ with_configuration terms c ws t (installed_by p (optional x) (ledger_of terms c ws t))
    unfolding installed_by
    installs e f terms c ws t d = d ∙ ap (with_configuration terms c ws t) (rw (word_some n, installed_by, e, f))

    pub enters_some : {d : ℕ} → d ≡ (transition p x).destination → d < 256 → optional d ≡ destination_of p (optional x)
    unfolding destination_of
    enters_some e b = word_small b ∙ ap some e ∙ sym (rw (word_some n, destination_of))

    pub has_code_lem : {code : ℕ} → code ≡ (transition p x).code → (code ≡ 0 → ⊥) → has_code p (optional x) ≡ true
    unfolding has_code
    has_code_lem {code} e z = rw (word_some n, has_code) (ap not (ap (λ k. eqb k 0) (sym e) ∙ ne_eqb code 0 z))

-- whether a track is in a scope that closes
module _ (bs : List ℕ) (c : Counts) (ms : List Bool) (a : Bool) (t u : ℕ) (g : u ≡ host_track (plan_of bs c) t) where
  pub closed_root : Accepts bs c → u ≡ no_state → false ≡ is_closed_by (plan_of bs c) ms t a
  unfolding is_closed_by
  closed_root acc z = rw (no_host_track bs c t acc (sym g ∙ z), is_closed_by)

  module _ (n : u ≡ no_state → ⊥) {r : Bool} (e : r ≡ a) where
    pub closed_asleep : not r ≡ true → false ≡ is_closed_by (plan_of bs c) ms t a
    unfolding is_closed_by
    closed_asleep h = let (s, q, o) = host_of_track (plan_of bs c) t (λ w. n (g ∙ w)) in rw (q, is_closed_by, sym e ∙ not-true r h)

    pub closed_awake : not r ≡ false → get_or ms u false ≡ is_closed_by (plan_of bs c) ms t a
    unfolding is_closed_by
    closed_awake h =
        let (s, q, o) = host_of_track (plan_of bs c) t (λ w. n (g ∙ w)) in
        rw (q, is_closed_by, sym e ∙ not-false r h) (ap (λ (v : ℕ). get_or ms v false) (g ∙ sym o))

-- the closing of one track
module _ (terms : Terms) (c : Counts) (ws : List ℕ) (o : Tidy terms ws c.tracks) (t : ℕ) (b : t < c.tracks) (p : Plan) (ms : List Bool) {k : Track}
    (read : k ≡ track_of (ledger_of terms c ws t)) {q : Bool} (e : q ≡ is_closed_by p ms t (is_awake k.mode)) where
  is : is_closed_by p ms t (is_awake (ledger_of terms c ws t).mode) ≡ q
  is = sym (e ∙ ap (λ m. is_closed_by p ms t (is_awake m)) (mode_as _ read))

  pub put_closed : q ≡ true → {vs : List ℕ} → vs ≡ with_asleep terms ws t → vs ≡ with_configuration terms c ws t (closed_by p ms t (ledger_of terms c ws t))
  unfolding closed_by
  put_closed y d = d ∙ put_asleep terms c ws o t b ∙ ap (with_configuration terms c ws t) (sym (rw (is ∙ y)))

  module _ (n : q ≡ false) where
    pub put_kept : get_or ms t false ≡ false → ws ≡ with_configuration terms c ws t (closed_by p ms t (ledger_of terms c ws t))
    unfolding closed_by
    put_kept z = kept_track terms c ws o t _ (rw (is ∙ n, z))

    pub put_replaced : get_or ms t false ≡ true → {code : ℕ} → code ≡ replacement p k.state
        → {vs : List ℕ} → vs ≡ with_configuration terms c ws t (installed code no_state (ledger_of terms c ws t)) → vs ≡ with_configuration terms c ws t (closed_by p ms t (ledger_of terms c ws t))
    unfolding closed_by
    put_replaced y f d =
        d ∙ ap (λ i. with_configuration terms c ws t (installed i no_state (ledger_of terms c ws t))) (f ∙ ap (replacement p) (state_as _ read))
        ∙ ap (with_configuration terms c ws t) (sym (rw (is ∙ n, y)))
