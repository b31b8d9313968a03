-- What the clauses of soundness ask of one entry, one track and one scope, the marks by which a scope is judged, and
-- the open scopes found on the way. Assumes nothing.
use Rattle.std.specs.Prelude.{◌≡◌, Bool, true, false, not, ◌&&◌, ◌||◌, List, ℕ, ◌<◌, eqb, length, get_or}
use Rattle.rules.specs.Names.{Bytes, Words}
use Rattle.rules.specs.declared.Counts.{Counts}
use Rattle.rules.specs.declared.Terms.{Terms}
use Rattle.rules.specs.Fold.{some_below}
use Rattle.rules.specs.Plan.{Plan, plan_of, is_root, is_state_of, is_final, is_in}
use Rattle.rules.specs.Ledger.{Entry, Ledger, is_awake, is_forward}
use Rattle.rules.specs.Scope.{is_over, has_open_scope, is_bare}
use Rattle.rules.specs.Event.{is_closing}
use Rattle.rules.specs.Signal.{is_abandoning}
use Rattle.rules.specs.Soundness.{every_held, good_deviation, is_whole, is_hosted_well}
use Rattle.plan.specs.Passes.{state_slots}
use Rattle.ledger.specs.Ladder.{ledger_of}
use Rattle.soundness.specs.declared.scopes.ScopeMark.{ScopeMark}
use Rattle.lookup.specs.Figures.{Figures}

-- of an entry of the track t: the code is not 0, and the deviation is good
unfoldable pub good_entry : Plan → ℕ → Entry → Bool
good_entry p t e = not (eqb e.code 0) && good_deviation p t e.deviation

module _ (p : Plan) (l : Ledger) where
  -- of a track: awake if a root, its state its own if awake, its entries good, its host awake in that hosting state and in the same mode
  unfoldable pub sound_track : ℕ → Bool
  sound_track t =
      (not (is_root p t) || is_awake (l t).mode) && (not (is_awake (l t).mode) || is_state_of p t (l t).state)
      && every_held (good_entry p t) (l t).held && is_hosted_well p l t

  -- of the scope of s: whole, and neither closing nor abandoning is left to do
  unfoldable pub sound_scope : ℕ → Bool
  sound_scope s = is_whole p l s && not (is_closing p l s) && not (is_abandoning p l s)

  -- a scope's mark, by the tracks below n: whether one in the scope is awake, asleep, not forward in a final state, not bare
  abbrev some_scoped : ℕ → ℕ → (ℕ → Bool) → Bool
  some_scoped n s f = some_below n (λ t. is_in p s t && f t)

  abbrev pub mark_at : ℕ → ℕ → ScopeMark
  mark_at n s =
      record {
        awake = some_scoped n s (λ t. is_awake (l t).mode);
        asleep = some_scoped n s (λ t. not (is_awake (l t).mode));
        unfinished = some_scoped n s (λ t. not (is_forward (l t).mode && is_final p (l t).state));
        busy = some_scoped n s (λ t. not (is_bare p l t));
      }

  -- for each state the mark of the scope that it hosts
  pub record Marked (n : ℕ) (ms : List ScopeMark) : Type 0 where
    pub size : length ms ≡ state_slots
    pub at : (s : ℕ) (d : ScopeMark) → s < state_slots → get_or ms s d ≡ mark_at n s

-- what is asked of a scope, by its mark
abbrev pub well_marked : ScopeMark → Bool
well_marked m = not m.awake || (not m.asleep && m.unfinished && m.busy)

-- of a ledger found sound that is not over, the tracks that have an open scope are marked
abbrev pub OpensFound : (terms : Terms) → Bytes → Counts → Words → Bool → List Bool → Type 0
OpensFound terms bs c ws r ms =
    r ≡ true → is_over (plan_of bs c) (ledger_of terms c ws) ≡ false → Figures false ms c.tracks (has_open_scope (plan_of bs c) (ledger_of terms c ws))
