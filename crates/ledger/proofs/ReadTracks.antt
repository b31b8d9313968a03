-- A track read out of its words, said of its configuration. Assumes nothing.
use Rattle.std.proofs.Common.{◌≡◌, refl, sym, ap, ◌∙◌, true, false, List, [], ◌∷◌, ℕ, ◌≤◌, arith, eqb, length, eq-eqb, ne_eqb}
use Rattle.rules.specs.declared.Track.{Track}
use Rattle.rules.specs.declared.Terms.{Terms}
use Rattle.rules.specs.Ledger.{Entry, Configuration, is_empty, ledger_at}
use Rattle.rules.specs.Soundness.{are_tidy}
use Rattle.rules.proofs.Stored.{storable_read}
use Rattle.ledger.specs.Words.{track_of}

-- a track holds nothing where its count is 0
pub empty_count : (es : List Entry) → is_empty es ≡ eqb (length es) 0
unfolding is_empty
empty_count [] = refl
empty_count (e ∷ es) = sym (ne_eqb (length (e ∷ es)) 0 (λ (q : length (e ∷ es) ≡ 0). absurd (omega arith)))

module _ {k : Track} (x : Configuration) (e : k ≡ track_of x) where
  pub mode_as : k.mode ≡ x.mode
  unfolding track_of
  mode_as = ap (λ (k : Track). k.mode) e

  pub state_as : k.state ≡ x.state
  unfolding track_of
  state_as = ap (λ (k : Track). k.state) e

  pub count_as : k.count ≡ length x.held
  unfolding track_of
  count_as = ap (λ (k : Track). k.count) e

  pub empty_as : k.count ≡ 0 → is_empty x.held ≡ true
  empty_as h = empty_count x.held ∙ eq-eqb (length x.held) 0 (sym count_as ∙ h)

  pub held_as : (k.count ≡ 0 → ⊥) → is_empty x.held ≡ false
  held_as h = empty_count x.held ∙ ne_eqb (length x.held) 0 (λ q. h (count_as ∙ q))

-- a track of a tidy ledger holds no more than the limit
pub count_within : (terms : Terms) (n : ℕ) (ws : List ℕ) (t k : ℕ) → are_tidy terms ws n ≡ true → k ≡ length (ledger_at terms ws n t).held → k ≤ terms.limit
count_within terms n ws t k h e = omega (arith, (storable_read terms n ws h).fits t)
