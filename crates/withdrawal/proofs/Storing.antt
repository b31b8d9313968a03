-- The ledgers of a backward step can be stored: no track holds more than before, and what is asleep holds nothing. So one step is worked out on
-- the words that the one before left. Assumes nothing.
use Rattle.std.proofs.Common.{◌≡◌, sym, ap, ◌∙◌, Bool, inl, inr, List, ℕ}
use Rattle.rules.specs.declared.Counts.{Counts}
use Rattle.rules.specs.declared.Terms.{Terms}
use Rattle.rules.specs.Plan.{Plan}
use Rattle.rules.specs.Ledger.{Configuration, Ledger, written}
use Rattle.rules.specs.Finish.{finished}
use Rattle.rules.specs.Rights.{signal_right, is_permitted}
use Rattle.rules.specs.Signal.{turned, is_abandoned, abandoned}
use Rattle.rules.proofs.Tests.{look}
use Rattle.rules.proofs.Stored.{Storable}
use Rattle.ledger.specs.Ladder.{Tidy, ledger_of}
use Rattle.lookup.proofs.OneTrackLaws.{Stores, stores_sleeping, stores_at, storable_of, holds, read_back, then}
use Rattle.withdrawal.specs.Turning.{turned_if}
use Rattle.withdrawal.proofs.SignalLaws.{turned_awake, turned_held, turned_sleeping}

module _ (terms : Terms) (n : ℕ) where
  -- turning
  pub stores_turned : (may : Bool) (x : Configuration) → Stores terms x → Stores terms (turned_if may x)
  stores_turned may x s =
      record {
        fits = rw (turned_held may x) s.fits;
        blank = λ a. ap (turned_if may) (s.blank (sym (turned_awake may x) ∙ a)) ∙ turned_sleeping may;
      }

  pub storable_turned : (p : Plan) (society : ℕ) (l : Ledger) → Storable terms n l → Storable terms n (turned p society l)
  unfolding turned
  storable_turned p society l s =
      let may : ℕ → Bool = is_permitted p signal_right society in
      storable_of terms n (turned p society l) (λ t. stores_turned (may t) (l t) (stores_at terms n l s t))
      (λ t b. ap (turned_if (may t)) (s.beyond t b) ∙ turned_sleeping (may t))

  -- abandoning
  pub storable_abandoned : (p : Plan) (l : Ledger) → Storable terms n l → Storable terms n (abandoned p l)
  unfolding abandoned
  storable_abandoned p l s =
      storable_of terms n (abandoned p l)
      (λ t. elim (look (is_abandoned p l t)) [ inl q ↦ rw q (stores_sleeping terms) | inr q ↦ rw q (stores_at terms n l s t) ])
      (λ t b. elim (look (is_abandoned p l t)) [ inl q ↦ rw q | inr q ↦ rw q (s.beyond t b) ])

-- abandoning, then finish
module _ (terms : Terms) (p : Plan) (c : Counts) {vs : List ℕ} (o : Tidy terms vs c.tracks) {us : List ℕ} (d : us ≡ written terms c.tracks (abandoned p (ledger_of terms c vs)) vs) where
  pub abandoned_read : ledger_of terms c us ≡ abandoned p (ledger_of terms c vs)
  abandoned_read = read_back terms c vs o (abandoned p (ledger_of terms c vs)) (storable_abandoned terms c.tracks p (ledger_of terms c vs) (holds terms c vs o)) d

  pub settled_words : {xs : List ℕ} → xs ≡ written terms c.tracks (finished p (ledger_of terms c us)) us
      → xs ≡ written terms c.tracks (finished p (abandoned p (ledger_of terms c vs))) vs
  settled_words x =
      then terms c vs o (abandoned p (ledger_of terms c vs)) (storable_abandoned terms c.tracks p (ledger_of terms c vs) (holds terms c vs o)) d (finished p) x
