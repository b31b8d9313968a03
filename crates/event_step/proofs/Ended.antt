-- After the moves and the closings, finish: the words written are the ledger's, and which undoing tracks have an open scope is as before the call.
-- Assumes nothing.
use Rattle.std.proofs.Common.{◌≡◌, sym, ap, ◌∙◌, subst, inl, inr, Bool, false, List, ℕ, ◌≤◌, arith, length}
use Rattle.rules.specs.declared.Counts.{Counts}
use Rattle.rules.specs.Layout.{leading_words}
use Rattle.rules.specs.Plan.{Plan, plan_of}
use Rattle.rules.specs.Ledger.{Ledger, sleeping, written}
use Rattle.rules.specs.Scope.{has_open_scope}
use Rattle.rules.specs.Finish.{is_finishing, finished}
use Rattle.rules.specs.Event.{moved, closed, after_event}
use Rattle.rules.proofs.Tests.{look}
use Rattle.rules.proofs.Stored.{Storable, length-written_lem}
use Rattle.ledger.specs.Ladder.{Tidy, Going, ledger_of}
use Rattle.ledger.proofs.Words.{leading_room}
use Rattle.lookup.specs.Figures.{Figures}
use Rattle.lookup.proofs.Facts.{plan_facts, live_of_going, tidy_words}
use Rattle.lookup.proofs.OneTrackLaws.{read_back, orderly_after, then}
use Rattle.finish.specs.UndoingScopes.{UndoingScopes}
use Rattle.event_choice.specs.declared.Choice.{Choice}
use Rattle.rules.specs.declared.Terms.{Terms}
use Rattle.event_choice.specs.Chosen.{arguments_of, Chosen}
use Rattle.event_choice.proofs.Undoing.{open_as_before}
use Rattle.event_writing.proofs.EventWritten.{stores_all}

module _ (terms : Terms) (bs : List ℕ) (c : Counts) (ws : List ℕ) (g : Going terms bs c ws) (r : Choice) (ch : Chosen terms (plan_of bs c) (ledger_of terms c ws) r) (free : r.full ≡ false) where
  abbrev p : Plan
  p = plan_of bs c

  abbrev settled : Ledger
  settled = closed p (moved p (ledger_of terms c ws) (arguments_of r))

  stores : Storable terms c.tracks settled
  stores = stores_all terms bs c ws g r ch free

  o : Tidy terms ws c.tracks
  o = tidy_words terms bs c ws g.checked

  module _ {vs : List ℕ} (d : vs ≡ written terms c.tracks settled ws) where
    pub settled_tidy : Tidy terms vs c.tracks
    settled_tidy = orderly_after terms c ws o settled stores d

    pub settled_scopes : {opens : List Bool} → Figures false opens c.tracks (has_open_scope p (ledger_of terms c ws))
        → UndoingScopes p (ledger_of terms c vs) c.tracks opens
    settled_scopes {opens} f =
        subst (λ (l : Ledger). UndoingScopes p l c.tracks opens) (sym (read_back terms c ws o settled stores d))
        (record {
          size = f.size;
          at = λ t b u.
              f.at t b
              ∙ sym (open_as_before p (plan_facts bs c g.checked.lent.accepts) (ledger_of terms c ws) (live_of_going terms bs c ws g) (arguments_of r) t u);
        })

    pub event_ended : {us : List ℕ} → us ≡ written terms c.tracks (finished p (ledger_of terms c vs)) vs
        → us ≡ written terms c.tracks (after_event p (ledger_of terms c ws) (arguments_of r)) ws
    unfolding after_event
    event_ended x = then terms c ws o settled stores d (finished p) x

  -- the words stay as many
  fits : (t : ℕ) → length (after_event p (ledger_of terms c ws) (arguments_of r) t).held ≤ terms.limit
  unfolding after_event finished sleeping
  fits t = elim (look (is_finishing p settled)) [ inl q ↦ rw q (omega arith) | inr q ↦ rw q (stores.fits t) ]

  pub ended_room : {us : List ℕ} → us ≡ written terms c.tracks (after_event p (ledger_of terms c ws) (arguments_of r)) ws → leading_words ≤ length us
  ended_room e = omega (arith, ap length e, length-written_lem terms c.tracks (after_event p (ledger_of terms c ws) (arguments_of r)) ws fits o.room.words, leading_room o.room)
