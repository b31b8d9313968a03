-- Words in order hold a ledger. Words that a storable ledger was written over hold that ledger, and are in order; and a pass that replaces
-- each track in turn by what follows from the track itself writes the whole ledger. Assumes nothing.
use Rattle.std.proofs.Common.{◌≡◌, refl, sym, ap, ◌∙◌, inl, inr, false, List, ◌∷◌, ℕ, ◌+◌, ◌<◌, ◌≤◌, arith, ltb, length, ltb-true, ltb-false}
use Rattle.rules.specs.declared.Counts.{Counts}
use Rattle.rules.specs.declared.Mode.{Mode}
use Rattle.rules.specs.declared.Track.{Track}
use Rattle.rules.specs.declared.Terms.{Terms}
use Rattle.rules.specs.Ledger.{Entry, Configuration, Ledger, is_awake, sleeping, ledger_at, written}
use Rattle.rules.proofs.Tests.{look}
use Rattle.rules.proofs.Stored.{Storable, length-written_lem, read_written, tidy_written, written_twice, written_read, storable_read}
use Rattle.rules.proofs.Replaced.{updated, updated_same}
use Rattle.rules.proofs.Passes.{up_to, up_new, up_old, up_none, up_more, up_all}
use Rattle.ledger.specs.Ladder.{Tidy, ledger_of}
use Rattle.ledger.specs.Words.{track_of, with_track, with_asleep, with_installed, with_removed}
use Rattle.ledger.proofs.Words.{put_written, asleep_written, installed_written, removed_written}
use Rattle.lookup.specs.OneTrack.{with_configuration, with_mode}

-- what the words can hold of one track: no more entries than the limit, and asleep nothing
pub record Stores (terms : Terms) (x : Configuration) : Type 0 where
  pub fits : length x.held ≤ terms.limit
  pub blank : is_awake x.mode ≡ false → x ≡ sleeping

pub stores_sleeping : (terms : Terms) → Stores terms sleeping
unfolding sleeping
stores_sleeping terms = record { fits = omega arith; blank = λ a. refl }

module _ (terms : Terms) (n : ℕ) where
  pub stores_at : (l : Ledger) → Storable terms n l → (t : ℕ) → Stores terms (l t)
  stores_at l s t = record { fits = s.fits t; blank = s.blank t }

  pub storable_of : (l : Ledger) → ((t : ℕ) → Stores terms (l t)) → ((t : ℕ) → n ≤ t → l t ≡ sleeping) → Storable terms n l
  storable_of l s b = record { fits = λ t. (s t).fits; beyond = b; blank = λ t. (s t).blank }

module _ (terms : Terms) (c : Counts) (ws : List ℕ) (o : Tidy terms ws c.tracks) where
  pub holds : Storable terms c.tracks (ledger_of terms c ws)
  unfolding ledger_of
  holds = storable_read terms c.tracks ws o.tidy

  pub as_held : ws ≡ written terms c.tracks (ledger_of terms c ws) ws
  unfolding ledger_of
  as_held = sym (written_read terms c.tracks ws o.tidy o.room.words)

  -- a track that is left as it is
  pub kept_track : (t : ℕ) (x : Configuration) → x ≡ ledger_of terms c ws t → ws ≡ with_configuration terms c ws t x
  unfolding with_configuration updated
  kept_track t x e =
      as_held ∙ ap (λ (m : Ledger). written terms c.tracks m ws) (sym (updated_same (ledger_of terms c ws) t))
      ∙ ap (λ (y : Configuration). written terms c.tracks (updated (ledger_of terms c ws) t y) ws) (sym e)

  module _ (t : ℕ) (b : t < c.tracks) where
    -- its mode and state replaced, its words all zero, an entry more, its newest entry gone
    pub put_mode_lem : (k : Track) → k.count ≡ length (ledger_of terms c ws t).held
        → with_track terms ws t k ≡ with_configuration terms c ws t (record { mode = k.mode; state = k.state; held = (ledger_of terms c ws t).held })
    unfolding with_configuration updated
    put_mode_lem k e =
        ap (λ (v : List ℕ). with_track terms v t k) as_held
        ∙ put_written terms c.tracks (ledger_of terms c ws) ws t holds.fits b o.room.words k e

    -- the same of the track that was read
    pub mode_put : (m : Mode) (s : ℕ) (k : Track) → k ≡ track_of (ledger_of terms c ws t) → {vs : List ℕ}
        → vs ≡ with_track terms ws t (record { mode = m; state = s; count = k.count }) → vs ≡ with_configuration terms c ws t (with_mode m s (ledger_of terms c ws t))
    unfolding with_mode track_of
    mode_put m s k e d = d ∙ put_mode_lem (record { mode = m; state = s; count = k.count }) (ap (λ (x : Track). x.count) e)

    pub put_asleep : with_asleep terms ws t ≡ with_configuration terms c ws t sleeping
    unfolding with_configuration updated
    put_asleep =
        ap (λ (v : List ℕ). with_asleep terms v t) as_held ∙ asleep_written terms c.tracks (ledger_of terms c ws) ws t holds.fits b o.room.words

    pub put_installed : (e : Entry) → length (ledger_of terms c ws t).held < terms.limit
        → with_installed terms ws t e.code e.deviation
        ≡ with_configuration terms c ws t (record { mode = (ledger_of terms c ws t).mode; state = (ledger_of terms c ws t).state; held = e ∷ (ledger_of terms c ws t).held })
    unfolding with_configuration updated
    put_installed e r =
        ap (λ (v : List ℕ). with_installed terms v t e.code e.deviation) as_held
        ∙ installed_written terms c.tracks (ledger_of terms c ws) ws t holds.fits b o.room.words e r

    pub put_removed : (e : Entry) (es : List Entry) → (ledger_of terms c ws t).held ≡ e ∷ es
        → with_removed terms ws t
        ≡ with_configuration terms c ws t (record { mode = (ledger_of terms c ws t).mode; state = (ledger_of terms c ws t).state; held = es })
    unfolding with_configuration updated
    put_removed e es q =
        ap (λ (v : List ℕ). with_removed terms v t) as_held
        ∙ removed_written terms c.tracks (ledger_of terms c ws) ws t holds.fits b o.room.words e es q

-- a ledger was written over the words
module _ (terms : Terms) (c : Counts) (ws : List ℕ) (o : Tidy terms ws c.tracks) (m : Ledger) (s : Storable terms c.tracks m) {vs : List ℕ}
    (e : vs ≡ written terms c.tracks m ws) where
  pub read_back : ledger_of terms c vs ≡ m
  unfolding ledger_of
  read_back =
      ap (λ (v : List ℕ). ledger_at terms v c.tracks) e ∙ read_written terms c.tracks m ws s.fits o.room.words s.beyond

  pub length-after_lem : length vs ≡ length ws
  length-after_lem = ap length e ∙ length-written_lem terms c.tracks m ws s.fits o.room.words

  pub orderly_after : Tidy terms vs c.tracks
  orderly_after =
      record {
        room = record {
          few = o.room.few;
          words = let r = o.room.words in omega (arith, length-after_lem);
        };
        tidy = rw e (tidy_written terms c.tracks m ws s o.room.words);
      }

  pub twice : (k : Ledger) → written terms c.tracks k vs ≡ written terms c.tracks k ws
  twice k = ap (written terms c.tracks k) e ∙ written_twice terms c.tracks m ws s.fits o.room.words k

  -- what is worked out on the ledger written is worked out on the words' ledger
  pub then : (f : Ledger → Ledger) {us : List ℕ} → us ≡ written terms c.tracks (f (ledger_of terms c vs)) vs
      → us ≡ written terms c.tracks (f m) ws
  then f d = d ∙ ap (λ (k : Ledger). written terms c.tracks (f k) vs) read_back ∙ twice (f m)

-- A pass: each track in turn is replaced by what follows from it.
module _ (terms : Terms) (c : Counts) (ws : List ℕ) (o : Tidy terms ws c.tracks) (g : ℕ → Configuration → Configuration) where
  abbrev pub passed : Ledger
  passed t = g t (ledger_of terms c ws t)

  abbrev pub through : ℕ → Ledger
  through i = up_to passed (ledger_of terms c ws) i

  -- what the words can hold of the tracks that there are
  pub record Fitting : Type 0 where
    pub fits : (t : ℕ) → t < c.tracks → length (passed t).held ≤ terms.limit
    pub blank : (t : ℕ) → t < c.tracks → is_awake (passed t).mode ≡ false → passed t ≡ sleeping

  pub pass_start : ws ≡ written terms c.tracks (through 0) ws
  pass_start = as_held terms c ws o ∙ ap (λ (m : Ledger). written terms c.tracks m ws) (sym (up_none passed (ledger_of terms c ws)))

  module _ (w : Fitting) where
    through_storable : (i : ℕ) → i ≤ c.tracks → Storable terms c.tracks (through i)
    through_storable i b =
        let l = ledger_of terms c ws in
        record {
          fits = λ t.
              elim (look (ltb t i)) [
                | inl e ↦ let q = ltb-true t i e in rw (up_new passed l i t q) (w.fits t (omega arith))
                | inr e ↦ rw (up_old passed l i t (ltb-false t i e)) ((holds terms c ws o).fits t)
              ];
          beyond = λ t k. up_old passed l i t (omega arith) ∙ (holds terms c ws o).beyond t k;
          blank = λ t a.
              elim (look (ltb t i)) [
                | inl e ↦
                    let q = ltb-true t i e in
                    let z = up_new passed l i t q in
                    z ∙ w.blank t (omega arith) (ap (λ (x : Configuration). is_awake x.mode) (sym z) ∙ a)
                | inr e ↦
                    let z = up_old passed l i t (ltb-false t i e) in
                    z ∙ (holds terms c ws o).blank t (ap (λ (x : Configuration). is_awake x.mode) (sym z) ∙ a)
              ];
        }

    module _ (i : ℕ) (b : i ≤ c.tracks) {vs : List ℕ} (e : vs ≡ written terms c.tracks (through i) ws) where
      pub pass_orderly : Tidy terms vs c.tracks
      pass_orderly = orderly_after terms c ws o (through i) (through_storable i b) e

      pub pass_length : length vs ≡ length ws
      pass_length = length-after_lem terms c ws o (through i) (through_storable i b) e

      -- a track not yet passed is as it was
      pub pass_old : (t : ℕ) → i ≤ t → ledger_of terms c vs t ≡ ledger_of terms c ws t
      pass_old t h =
          ap (λ (m : Ledger). m t) (read_back terms c ws o (through i) (through_storable i b) e) ∙ up_old passed (ledger_of terms c ws) i t h

      pub pass_more : {us : List ℕ} → us ≡ with_configuration terms c vs i (g i (ledger_of terms c vs i)) → us ≡ written terms c.tracks (through (i + 1)) ws
      unfolding with_configuration updated
      pass_more d =
          then terms c ws o (through i) (through_storable i b) e (λ (m : Ledger). updated m i (g i (m i))) d
          ∙ ap (λ (x : Configuration). written terms c.tracks (updated (through i) i (g i x)) ws) (up_old passed (ledger_of terms c ws) i i (omega arith))
          ∙ ap (λ (m : Ledger). written terms c.tracks m ws) (up_more passed (ledger_of terms c ws) i)

      pub pass_end : c.tracks ≤ i → vs ≡ written terms c.tracks passed ws
      pass_end h =
          let q : i ≡ c.tracks = omega arith in
          e ∙ ap (λ (n : ℕ). written terms c.tracks (through n) ws) q ∙ up_all passed (ledger_of terms c ws) terms c.tracks ws
