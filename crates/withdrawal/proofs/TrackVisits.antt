-- One track's visit in a pass, as the code takes it: each branch is a case of the definition. Assumes nothing.
use Rattle.std.proofs.Common.{◌≡◌, refl, sym, ap, ◌∙◌, Bool, true, false, cond, ◌&&◌, List, ℕ, ◌+◌, ◌≤◌, arith, length}
use Rattle.rules.specs.declared.Counts.{Counts}
use Rattle.rules.specs.declared.Mode.TheVariants.{Undoing}
use Rattle.rules.specs.declared.Track.{Track}
use Rattle.rules.specs.declared.Terms.{Terms}
use Rattle.rules.specs.Fold.{count_below}
use Rattle.rules.specs.Plan.{Plan}
use Rattle.rules.specs.Rights.{signal_right, is_permitted}
use Rattle.rules.specs.Ledger.{Configuration, Ledger, is_forward, written}
use Rattle.rules.specs.Signal.{turned_track, turned}
use Rattle.rules.proofs.Folds.{count_more}
use Rattle.rules.proofs.Passes.{up_to}
use Rattle.ledger.specs.Ladder.{Tidy, ledger_of}
use Rattle.ledger.specs.Words.{track_of}
use Rattle.lookup.specs.OneTrack.{with_configuration, with_mode}
use Rattle.lookup.proofs.OneTrackLaws.{holds, kept_track, Fitting, pass_start, pass_orderly, pass_length, pass_old, pass_more, pass_end}
use Rattle.lookup.proofs.OneTrackLaws.{Stores, stores_at}
use Rattle.withdrawal.specs.Turning.{turned_if}
use Rattle.withdrawal.proofs.Storing.{stores_turned}

module _ (terms : Terms) (c : Counts) (ws : List ℕ) (o : Tidy terms ws c.tracks) (t : ℕ) where
  -- turning: not forward, forward
  module _ (k : Track) (e : k ≡ track_of (ledger_of terms c ws t)) {r : Bool} (f : r ≡ is_forward k.mode) where
    ahead : is_forward (ledger_of terms c ws t).mode ≡ r
    unfolding track_of
    ahead = ap (λ (x : Track). is_forward x.mode) (sym e) ∙ sym f

    pub turn_not : r ≡ false
        → (false ≡ is_forward (ledger_of terms c ws t).mode) × (ws ≡ with_configuration terms c ws t (turned_track (ledger_of terms c ws t)))
    unfolding turned_track
    turn_not n =
        let a : is_forward (ledger_of terms c ws t).mode ≡ false = ahead ∙ n in
        (rw a, kept_track terms c ws o t (turned_track (ledger_of terms c ws t)) (rw a))

    pub turn_done : r ≡ true → {vs : List ℕ} → vs ≡ with_configuration terms c ws t (with_mode Undoing k.state (ledger_of terms c ws t))
        → (true ≡ is_forward (ledger_of terms c ws t).mode) × (vs ≡ with_configuration terms c ws t (turned_track (ledger_of terms c ws t)))
    unfolding turned_track with_mode track_of
    turn_done n d =
        let a : is_forward (ledger_of terms c ws t).mode ≡ true = ahead ∙ n in
        let s : k.state ≡ (ledger_of terms c ws t).state = ap (λ (x : Track). x.state) e in
        (rw a, d ∙ ap (λ (z : ℕ). with_configuration terms c ws t (record { mode = Undoing; state = z; held = (ledger_of terms c ws t).held })) s ∙ (rw a))

  -- one that may not be turned, and one that may
  pub turn_barred : (may : Bool) → may ≡ false
      → (false ≡ (may && is_forward (ledger_of terms c ws t).mode)) × (ws ≡ with_configuration terms c ws t (turned_if may (ledger_of terms c ws t)))
  turn_barred may n = rw n (refl, kept_track terms c ws o t (ledger_of terms c ws t) refl)

  pub turn_may : (may : Bool) → may ≡ true → {b : Bool} {vs : List ℕ}
      → (b ≡ is_forward (ledger_of terms c ws t).mode) × (vs ≡ with_configuration terms c ws t (turned_track (ledger_of terms c ws t)))
      → (b ≡ (may && is_forward (ledger_of terms c ws t).mode)) × (vs ≡ with_configuration terms c ws t (turned_if may (ledger_of terms c ws t)))
  turn_may may n h = rw n h

-- the passes write what the words can hold
module _ (terms : Terms) (p : Plan) (society : ℕ) (c : Counts) (ws : List ℕ) (o : Tidy terms ws c.tracks) where
  abbrev may : ℕ → Bool
  may = is_permitted p signal_right society

  abbrev l : Ledger
  l = ledger_of terms c ws

  abbrev turns : ℕ → Bool
  turns t = may t && is_forward (l t).mode

  pub turning_fits : Fitting terms c ws o (λ t x. turned_if (may t) x)
  turning_fits =
      let s : (t : ℕ) → Stores terms (turned_if (may t) (l t)) = λ t. stores_turned terms c.tracks (may t) (l t) (stores_at terms c.tracks l (holds terms c ws o) t) in
      record { fits = λ t b. (s t).fits; blank = λ t b. (s t).blank }

  pub turning_start : ws ≡ written terms c.tracks (up_to (turned p society l) l 0) ws
  unfolding turned
  turning_start = pass_start terms c ws o (λ t x. turned_if (may t) x)

  module _ (i : ℕ) (b : i ≤ c.tracks) {vs : List ℕ} (e : vs ≡ written terms c.tracks (up_to (turned p society l) l i) ws) where
    pub turning_orderly : Tidy terms vs c.tracks
    unfolding turned
    turning_orderly = pass_orderly terms c ws o (λ t x. turned_if (may t) x) turning_fits i b e

    pub turning_length : length vs ≡ length ws
    unfolding turned
    turning_length = pass_length terms c ws o (λ t x. turned_if (may t) x) turning_fits i b e

    pub turning_old : ledger_of terms c vs i ≡ l i
    unfolding turned
    turning_old = pass_old terms c ws o (λ t x. turned_if (may t) x) turning_fits i b e i (omega arith)

    pub turning_more : {q : Bool} → q ≡ may i → {us : List ℕ} → us ≡ with_configuration terms c vs i (turned_if q (ledger_of terms c vs i))
        → us ≡ written terms c.tracks (up_to (turned p society l) l (i + 1)) ws
    unfolding turned
    turning_more q d =
        pass_more terms c ws o (λ t x. turned_if (may t) x) turning_fits i b e (d ∙ ap (λ k. with_configuration terms c vs i (turned_if k (ledger_of terms c vs i))) q)

    pub turning_end : c.tracks ≤ i → vs ≡ written terms c.tracks (turned p society l) ws
    unfolding turned
    turning_end h = pass_end terms c ws o (λ t x. turned_if (may t) x) turning_fits i b e h

  -- one more track counted
  pub turn_count : (t : ℕ) {q : Bool} → q ≡ may t → {n : ℕ} {r : Bool} {x : Configuration} → x ≡ l t → n ≡ count_below t turns
      → r ≡ (q && is_forward x.mode) → n + cond r 1 0 ≡ count_below (t + 1) turns
  turn_count t {q} k {n} {r} {x} e f g = rw (f, g, e, k) (sym (count_more t turns))
