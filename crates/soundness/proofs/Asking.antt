-- What is asked of a track and its entries, as the code asks it: entries by their numbers, a host by the word of its record. Assumes nothing.
use Rattle.std.proofs.Common.{◌≡◌, refl, sym, ap, ◌∙◌, inl, inr, Bool, true, false, not, ◌&&◌, ◌||◌, List, ℕ, zero, suc, ◌+◌, ◌*◌, ◌<◌, length, get_or, eqb}
use Rattle.std.proofs.Math.Bool.{and_comm, or-true}
use borrow.Author.Tests.{not-true, not-false}
use Rattle.rules.specs.declared.Counts.{Counts}
use Rattle.rules.specs.declared.Mode.{Mode}
use Rattle.rules.specs.declared.Track.{Track}
use Rattle.rules.specs.declared.Terms.{Terms}
use Rattle.rules.specs.Fold.{every_below}
use Rattle.rules.specs.Layout.{head_words, entry_width, track_place, entries_place}
use Rattle.rules.specs.Plan.{Plan, no_state, host_word, host, owner, is_root, is_state_of}
use Rattle.rules.specs.Ledger.{Entry, Configuration, Ledger, is_awake, sleeping, entry_at, held_at, configuration_at, ledger_at}
use Rattle.rules.specs.Soundness.{every_held, same_mode, good_deviation, is_hosted_well}
use Rattle.rules.proofs.Tests.{look_option}
use Rattle.rules.proofs.TrackWords.{length-held_at}
use Rattle.rules.proofs.Stored.{read_at}
use Rattle.plan.proofs.Hosting.{host_none}
use Rattle.ledger.specs.Ladder.{ledger_of}
use Rattle.ledger.specs.Words.{track_of, entry_place}
use Rattle.ledger.proofs.ReadTracks.{mode_as, state_as}
use Rattle.lookup.proofs.Facts.{host_is}
use Rattle.soundness.specs.Parts.{good_entry, sound_track}

-- the entries that a track holds, by their numbers
held_below : (f : Entry → Bool) (ws : List ℕ) (at n : ℕ) → every_below n (λ k. f (entry_at ws (at + entry_width * k))) ≡ every_held f (held_at ws at n)
unfolding every_below every_held held_at
held_below f ws at zero = refl
held_below f ws at (suc n) =
    ap (λ (b : Bool). b && f (entry_at ws (at + entry_width * n))) (held_below f ws at n)
    ∙ and_comm (every_held f (held_at ws at n)) (f (entry_at ws (at + entry_width * n)))

pub held_asked : (terms : Terms) (c : Counts) (ws : List ℕ) (t k : ℕ) (f : Entry → Bool) → t < c.tracks → k ≡ length (ledger_of terms c ws t).held
    → every_below k (λ j. f (entry_at ws (entry_place terms t j))) ≡ every_held f (ledger_of terms c ws t).held
unfolding entry_place entries_place ledger_of configuration_at
held_asked terms c ws t k f h e =
    let at = track_place terms t in
    let n = get_or ws (at + 2) 0 in
    let q : ledger_at terms ws c.tracks t ≡ configuration_at ws at = read_at terms c.tracks ws t h in
    let i : k ≡ n = e ∙ ap (λ (x : Configuration). length x.held) q ∙ length-held_at ws (at + head_words) n in
    held_below f ws (at + head_words) k ∙ ap (λ (i : ℕ). every_held f (held_at ws (at + head_words) i)) i ∙ sym (ap (λ (x : Configuration). every_held f x.held) q)

pub entry_asked : (p : Plan) (t : ℕ) (e : Entry) {a d : ℕ} {g : Bool} → a ≡ e.code → d ≡ e.deviation → g ≡ good_deviation p t d
    → (not (eqb a 0) && g) ≡ good_entry p t e
unfolding good_entry
entry_asked p t e h k m = rw (h, m ∙ ap (good_deviation p t) k)

module _ (p : Plan) (l : Ledger) (t : ℕ) where
  -- a host, by the word of its record
  pub root_well : {w : ℕ} → w ≡ host_word p t → w ≡ no_state → true ≡ is_hosted_well p l t
  unfolding is_hosted_well
  root_well e h = rw (host_none p t (sym e ∙ h), is_hosted_well)

  pub host_well : {w o : ℕ} {k : Track} {m : Mode} {r : Bool} → w ≡ host_word p t → (w ≡ no_state → ⊥) → o ≡ owner p w → k ≡ track_of (l o)
      → r ≡ same_mode k.mode m → m ≡ (l t).mode → is_awake m ≡ true → (eqb k.state w && r) ≡ is_hosted_well p l t
  unfolding is_hosted_well track_of
  host_well {w} e n i j f g a =
      let x : is_awake (l t).mode ≡ true = ap is_awake (sym g) ∙ a in
      rw (host_is p t w e n, is_hosted_well, x, f, j, i, g)

  asleep_well : is_awake (l t).mode ≡ false → is_hosted_well p l t ≡ true
  unfolding is_hosted_well
  asleep_well a = elim (look_option (host p t)) [ inl e ↦ rw (e, is_hosted_well) | inr e ↦ rw (e.1, is_hosted_well, a) ]

  module _ {k : Track} {q : Bool} (e : k ≡ track_of (l t)) (f : q ≡ is_awake k.mode) where
    -- a track asleep holds nothing, and has to be hosted
    pub asleep_asked : {r : Bool} → not q ≡ true → (is_awake (l t).mode ≡ false → l t ≡ sleeping) → r ≡ is_root p t → not r ≡ sound_track p l t
    unfolding sound_track every_held sleeping
    asleep_asked h z g =
        let a : is_awake (l t).mode ≡ false = ap is_awake (sym (mode_as (l t) e)) ∙ sym f ∙ not-true q h in
        rw (g, a, ap (λ (x : Configuration). x.held) (z a), asleep_well a) (hosted (is_root p t))
      where
        hosted : (b : Bool) → not b ≡ ((((not b || false) && true) && true) && true)
        hosted true = refl
        hosted false = refl

    pub awake_asked : {own good well : Bool} → not q ≡ false → own ≡ is_state_of p t k.state → good ≡ every_held (good_entry p t) (l t).held
        → well ≡ is_hosted_well p l t → ((own && good) && well) ≡ sound_track p l t
    unfolding sound_track
    awake_asked h o g w =
        let a : is_awake (l t).mode ≡ true = ap is_awake (sym (mode_as (l t) e)) ∙ sym f ∙ not-false q h in
        rw (a, or-true (not (is_root p t)), o ∙ ap (is_state_of p t) (state_as (l t) e), g, w)
