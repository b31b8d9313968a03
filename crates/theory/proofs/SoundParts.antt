-- Soundness in the form in which calls keep it: a ledger is formed (nested, its entries good and few), its roots are awake, and no
-- settling is left to do. When finish is due is a seam. Assumes nothing.
use mathlib.Core.Path.{◌≡◌, refl}
use mathlib.Core.Bool.{false}
use mathlib.Core.List.{[]}
use mathlib.Core.Option.{none}
use Prim.Native.Nat.{ℕ, ◌<◌, ◌≤◌}
use native.Mathlib.Omega.{arith}
use lib.ListN.{length}
use Rattle.rules.specs.Plan.{Plan, track_count, host}
use Rattle.rules.specs.Ledger.{Configuration, Ledger, is_awake, sleeping}
use Rattle.rules.specs.Event.{is_closing}
use Rattle.rules.specs.Signal.{is_abandoning}
use Rattle.theory.specs.Seams.{Seams}
use Rattle.theory.proofs.Nesting.{Awake, Nested}
use Rattle.theory.proofs.Entries.{Good, good_nil}
use Rattle.rules.specs.declared.Terms.{Terms}

pub record Formed (terms : Terms) (p : Plan) (l : Ledger) : Type 0 where
  pub nested : Nested p l
  pub few : (t : ℕ) → length (l t).held ≤ terms.limit
  pub good : (t : ℕ) → Good p t (l t).held

abbrev pub RootsAwake : Plan → Ledger → Type 0
RootsAwake p l = (t : ℕ) → t < track_count p → host p t ≡ none → Awake l t

pub record Sound (σ : Seams) (terms : Terms) (p : Plan) (l : Ledger) : Type 0 where
  pub formed : Formed terms p l
  pub roots : RootsAwake p l
  pub closing : (s : ℕ) → is_closing p l s ≡ false
  pub finish : σ.is_finishing p l ≡ false
  pub abandoning : (s : ℕ) → is_abandoning p l s ≡ false

-- all asleep
abbrev pub Over : Ledger → Type 0
Over l = (t : ℕ) → l t ≡ sleeping

pub sleeping_asleep : is_awake sleeping.mode ≡ false
unfolding sleeping is_awake
sleeping_asleep = refl

pub sleeping_held : sleeping.held ≡ []
unfolding sleeping
sleeping_held = refl

-- a configuration that sleeps holds good entries, and few
module _ (terms : Terms) (p : Plan) where
  pub sleeping_few : (c : Configuration) → c.held ≡ [] → length c.held ≤ terms.limit
  sleeping_few c e = rw e (omega arith)

  pub sleeping_good : (t : ℕ) (c : Configuration) → c.held ≡ [] → Good p t c.held
  sleeping_good t c e = rw e (good_nil p t)
