-- A signal: turning (the report's FAIL), abandoning (NESTFAIL and NESTCOMP), and then finish. Assumes nothing.
use Rattle.std.specs.Prelude.{Bool, true, false, cond, not, ◌&&◌, ◌||◌, ℕ, zero, suc}
use Rattle.std.proofs.Math.Option.{none, some}
use Rattle.rules.specs.Names.{TrackNumber, StateNumber, Society}
use Rattle.rules.specs.declared.Mode.TheVariants.{Undoing}
use Rattle.rules.specs.Fold.{every_below, count_below}
use Rattle.rules.specs.Plan.{Plan, track_count, host, is_hosted_by, every_in}
use Rattle.rules.specs.Rights.{signal_right, is_permitted}
use Rattle.rules.specs.Ledger.{Configuration, Ledger, is_awake, is_forward, is_undoing, is_empty, sleeping}
use Rattle.rules.specs.Scope.{is_open, is_bare}
use Rattle.rules.specs.Finish.{finished}

-- "turns every forward track to undoing"
unfoldable pub turned_track : Configuration → Configuration
turned_track c = cond (is_forward c.mode) (record { mode = Undoing; state = c.state; held = c.held }) c

module _ (p : Plan) (society : Society) (l : Ledger) where
  -- "signals turn only tracks under roots where it has that right"
  unfoldable pub turned : Ledger
  turned t = cond (is_permitted p signal_right society t) (turned_track (l t)) (l t)

  -- how many turn
  unfoldable pub turnings : ℕ
  turnings = count_below (track_count p) (λ t. is_permitted p signal_right society t && is_forward (l t).mode)

module _ (p : Plan) (l : Ledger) where
  -- "an open scope goes to sleep, with nothing installed, if its tracks are all undoing, hold nothing and have no open scope": abandoning
  -- is due to the scope of s
  unfoldable pub is_abandoning : StateNumber → Bool
  is_abandoning s = is_open p l s && every_in p s (is_bare p l)

  -- Abandoning "climbs from scope to host until nothing changes". In the end each open scope is asleep whose tracks are all spent:
  -- undoing, holding nothing, and hosting no track awake that is not spent itself, as far as n levels show it.
  -- (That any order of single steps ends so is shown with the laws of abandoning)
  unfoldable pub is_spent_to : ℕ → TrackNumber → Bool
  is_spent_to zero t = true
  is_spent_to (suc n) t =
      let inner : Bool =
      every_below (track_count p) (λ u. let r : Bool = is_spent_to n u in not (is_hosted_by p t u && is_awake (l u).mode) || r) in
      is_undoing (l t).mode && is_empty (l t).held && inner

  -- a hosted track's number is above its host's, so as many levels as tracks are all there are
  unfoldable pub is_spent : TrackNumber → Bool
  is_spent t = is_spent_to (track_count p) t

  unfoldable pub is_left : StateNumber → Bool
  is_left s = is_open p l s && every_in p s is_spent

  -- the track is in a scope that is abandoned
  unfoldable pub is_abandoned : TrackNumber → Bool
  is_abandoned t = elim (host p t) [ none ↦ false | some h ↦ is_left h ]

  unfoldable pub abandoned : Ledger
  abandoned t = cond (is_abandoned t) sleeping (l t)

-- a signal, its settlings done: "after any accepted call, abandoning done"
unfoldable pub after_signal : Plan → Ledger → Society → Ledger
after_signal p l society = finished p (abandoned p (turned p society l))
