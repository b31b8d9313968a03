-- What turns an event back before its moves are chosen, and what it answers and leaves after that. Assumes nothing.
use Rattle.std.specs.Prelude.{not, [], ◌∷◌, eqb}
use Rattle.rules.specs.Names.{Words, Refusal, Day}
use Rattle.rules.specs.declared.Terms.{Terms}
use Rattle.rules.specs.Fold.{first_refusal}
use Rattle.rules.specs.Plan.{Plan, track_count}
use Rattle.rules.specs.Rights.{move_right, holds_somewhere}
use Rattle.rules.specs.Leading.{dated}
use Rattle.rules.specs.Ledger.{Ledger, ledger_at, written}
use Rattle.rules.specs.Scope.{is_over}
use Rattle.rules.specs.Event.{EventArguments, is_full, after_event}
use Rattle.rules.specs.Call.{Outcome, event, done, figures, bad_day, refused_or}

-- 19, 26, 20 and 28 in this order: the first that applies, 0 where none does. The day is the last accepted one
unfoldable pub early_refusal : Plan → Day → Ledger → EventArguments → Refusal
early_refusal p day l a =
    first_refusal
    ((19, eqb a.event 0) ∷ (26, bad_day day a.day) ∷ (20, is_over p l) ∷ (28, not (holds_somewhere p move_right a.society)) ∷ [])

-- An event that none of them turns back: 21, or the step.
unfoldable pub going_outcome : (terms : Terms) → Plan → Words → EventArguments → Outcome
going_outcome terms p ws a =
    refused_or ws
    (record {
      answer = done (figures p (ledger_at terms ws (track_count p)) (event a));
      words = written terms (track_count p) (after_event p (ledger_at terms ws (track_count p)) a) (dated a.day ws);
    })
    (first_refusal ((21, is_full p terms (ledger_at terms ws (track_count p)) a) ∷ []))
