-- Words after finish: all tracks asleep where it is due, and else as they were. Assumes nothing.
use Rattle.std.proofs.Common.{◌≡◌, sym, ap, ◌∙◌, Bool, true, false, not, List, ℕ}
use Rattle.rules.specs.declared.Counts.{Counts}
use Rattle.rules.specs.declared.Terms.{Terms}
use Rattle.rules.specs.Plan.{Plan}
use Rattle.rules.specs.Ledger.{Ledger, sleeping, written}
use Rattle.rules.specs.Finish.{is_finishing, finished}
use Rattle.rules.proofs.Stored.{written_same}
use Rattle.rules.proofs.Finishing.{finish_due, finish_not}
use Rattle.ledger.specs.Ladder.{Tidy, ledger_of}
use Rattle.ledger.proofs.Branches.{holds, fails}
use Rattle.lookup.proofs.OneTrackLaws.{as_held}

-- q is what the code found
module _ (terms : Terms) (p : Plan) (c : Counts) (ws : List ℕ) {q : Bool} (e : q ≡ is_finishing p (ledger_of terms c ws)) where
  pub stays_awake : Tidy terms ws c.tracks → not q ≡ true → ws ≡ written terms c.tracks (finished p (ledger_of terms c ws)) ws
  stays_awake o h = as_held terms c ws o ∙ ap (λ (l : Ledger). written terms c.tracks l ws) (sym (finish_not p (ledger_of terms c ws) (fails e h)))

  pub all_asleep_lem : not q ≡ false → {vs : List ℕ} → vs ≡ written terms c.tracks (λ t. sleeping) ws
      → vs ≡ written terms c.tracks (finished p (ledger_of terms c ws)) ws
  all_asleep_lem h d = d ∙ written_same terms c.tracks _ _ ws (λ t b. sym (finish_due p (ledger_of terms c ws) (holds e h) t))
