-- The tests of a plan by the words of its records: a host word of 65535 is a root's, any other names the hosting state. Assumes nothing.
use Rattle.std.proofs.Common.{◌≡◌, refl, ap, ◌∙◌, Bool, true, false, ℕ, ◌<◌, ◌≤◌, eqb, eq-eqb, ne_eqb, lt-ltb, le-ltb}
use Rattle.std.proofs.Math.Option.{none, some}
use Rattle.rules.specs.Plan.{Plan, state_count, no_state, optional, host_word, host, owner, is_root, is_state_of, is_in}

module _ (p : Plan) where
  pub host_none : (t : ℕ) → host_word p t ≡ no_state → host p t ≡ none
  unfolding host optional
  host_none t h = rw (eq-eqb (host_word p t) no_state h)

  pub host_some : (t : ℕ) → (host_word p t ≡ no_state → ⊥) → host p t ≡ some (host_word p t)
  unfolding host optional
  host_some t h = rw (ne_eqb (host_word p t) no_state h)

  pub root_word_lem : (t w : ℕ) → w ≡ host_word p t → eqb w no_state ≡ is_root p t
  unfolding is_root host optional
  root_word_lem t w h = ap (λ (v : ℕ). eqb v no_state) h ∙ go (eqb (host_word p t) no_state) refl
    where
      go : (b : Bool) → eqb (host_word p t) no_state ≡ b → eqb (host_word p t) no_state ≡ is_root p t
      go true e = rw (e, is_root, host, optional)
      go false e = rw (e, is_root, host, optional)

  pub in_root : (s t : ℕ) → host_word p t ≡ no_state → is_in p s t ≡ false
  unfolding is_in
  in_root s t h = rw (host_none t h, is_in)

  pub in_hosted : (s t : ℕ) → (host_word p t ≡ no_state → ⊥) → is_in p s t ≡ eqb (host_word p t) s
  unfolding is_in
  in_hosted s t h = rw (host_some t h, is_in)

  pub beyond : (t s : ℕ) → state_count p ≤ s → is_state_of p t s ≡ false
  unfolding is_state_of
  beyond t s l = rw (le-ltb s (state_count p) l)

  pub within : (t s : ℕ) → s < state_count p → is_state_of p t s ≡ eqb (owner p s) t
  unfolding is_state_of
  within t s l = rw (lt-ltb s (state_count p) l)
