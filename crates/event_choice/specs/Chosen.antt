-- An event's choice: what each of its fields says, by the rules. Assumes nothing.
use Rattle.std.specs.Prelude.{◌≡◌, false, not, ◌&&◌, List, ℕ, eqb, leb, length, get_or}
use Rattle.std.proofs.Math.Option.{Option}
use Rattle.rules.specs.Fold.{some_below, count_below}
use Rattle.rules.specs.Plan.{Plan, track_count, no_state, optional}
use Rattle.rules.specs.Ledger.{Ledger}
use Rattle.rules.specs.Event.{EventArguments, has_code, move, moves, moved, closes_scope, closings, is_full}
use Rattle.lookup.specs.Figures.{Figures, Numbers}
use Rattle.event_choice.specs.declared.Asked.{Asked}
use Rattle.event_choice.specs.declared.Choice.{Choice}
use Rattle.event_choice.specs.declared.judging.Survey.{Survey}
use Rattle.event_choice.specs.declared.judging.Verdict.{Verdict}
use Rattle.rules.specs.declared.Terms.{Terms}
use Rattle.event_choice.specs.Next.{is_last, closes_next, full_next}

-- what is known of the moves that words name for the tracks below n
pub record Surveyed (terms : Terms) (p : Plan) (l : Ledger) (ts : List ℕ) (n : ℕ) (r : Survey) : Type 0 where
  pub many : r.moved ≡ count_below n (λ t. not (eqb (get_or ts t 0) no_state))
  pub ends : r.ends ≡ some_below n (λ t. is_last p (optional (get_or ts t 0)))
  pub fills : r.full ≡ some_below n (λ t. has_code p (optional (get_or ts t 0)) && leb terms.limit (length (l t).held))

-- what is known from the moves of the tracks below n
pub record Judged (terms : Terms) (p : Plan) (l : Ledger) (goes : ℕ → Option ℕ) (n : ℕ) (r : Verdict) : Type 0 where
  pub closings : r.closed ≡ count_below n (closes_next p l goes)
  pub fills : r.full ≡ some_below n (full_next p l goes terms)

-- what the event was given
abbrev pub told : Asked → EventArguments
told a = record { event = a.event; day = a.day; society = a.society }

abbrev pub arguments_of : Choice → EventArguments
arguments_of r = told r.asked

-- the whole choice
pub record Chosen (terms : Terms) (p : Plan) (l : Ledger) (r : Choice) : Type 0 where
  pub taken : Numbers r.taken (track_count p) (move p l (arguments_of r))
  pub closing : Figures false r.closing (track_count p) (closes_scope p (moved p l (arguments_of r)))
  pub many_moved : r.moved ≡ count_below (track_count p) (moves p l (arguments_of r))
  pub many_closed : r.closed ≡ closings p (moved p l (arguments_of r))
  pub full : r.full ≡ is_full p terms l (arguments_of r)
