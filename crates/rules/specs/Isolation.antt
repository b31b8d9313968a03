-- Isolation: what other societies do alters no answer that a society gets, and no entry or ready bit under its roots. Assumes nothing.
use Rattle.std.specs.Prelude.{◌≡◌, Bool, true, false, cond, not, ◌&&◌, ◌||◌, List, [], ◌∷◌, ◌/◌, ◌%◌, ◌^◌, get_or, eqb}
use Rattle.rules.specs.Names.{Bytes, Words, TrackNumber, Society}
use Rattle.rules.specs.declared.Terms.{Terms}
use Rattle.rules.specs.Plan.{Plan, track_count, root_of}
use Rattle.rules.specs.Rights.{move_right, signal_right, fire_right, holds}
use Rattle.rules.specs.Ledger.{ledger_at}
use Rattle.rules.specs.Scope.{is_over}
use Rattle.rules.specs.Call.{Answer, refusal, done, Call, event, signal, fire, call_outcome, ready_outcome, entries_part}

-- who makes a call
unfoldable pub society_of : Call → Society
society_of (event a) = a.society
society_of (signal a) = a.society
society_of (fire a) = a.society

module _ (p : Plan) where
  -- the society holds some right over a root: this is one of "its roots"
  unfoldable pub holds_any : Society → TrackNumber → Bool
  holds_any society root = holds p move_right society root || holds p signal_right society root || holds p fire_right society root

  -- "no other society hold a right over the roots where a society holds any"
  abbrev pub Alone : Society → Type 0
  Alone own = (other : Society) (root : TrackNumber) → (other ≡ own → ⊥) → holds_any own root ≡ true → holds_any other root ≡ false

  -- "under its roots"
  unfoldable pub is_under : Society → TrackNumber → Bool
  is_under own t = holds_any own (root_of p t)

-- Of the calls of a list, its own; and of the answers to the list, those to them
module _ (own : Society) where
  unfoldable pub own_calls : List Call → List Call
  own_calls [] = []
  own_calls (c ∷ cs) = cond (eqb (society_of c) own) (c ∷ own_calls cs) (own_calls cs)

  unfoldable pub own_answers : List Call → List Answer → List Answer
  own_answers [] rs = []
  own_answers (c ∷ cs) [] = []
  own_answers (c ∷ cs) (r ∷ rs) = cond (eqb (society_of c) own) (r ∷ own_answers cs rs) (own_answers cs rs)

-- "refuses a call for its day"
unfoldable pub is_for_day : Answer → Bool
is_for_day (refusal n) = eqb n 26
is_for_day (done figures) = false

-- bit t of what ready answers
unfoldable pub ready_bit : Answer → TrackNumber → Bool
ready_bit (refusal n) t = false
ready_bit (done figures) t = eqb (get_or figures 0 0 / 2 ^ t % 2) 1

module _ (terms : Terms) (bs : Bytes) (p : Plan) where
  unfoldable pub is_over_now : Words → Bool
  is_over_now ws = is_over p (ledger_at terms ws (track_count p))

  -- "as long as neither ledger is over and neither refuses a call for its day", of one of them, from its words ws on: no call is refused so,
  -- and before each call of the society the ledger is not over
  unfoldable pub lasts : Society → Words → List Call → Bool
  lasts own ws [] = true
  lasts own ws (c ∷ cs) =
      not (eqb (society_of c) own && is_over_now ws)
      && not (is_for_day (call_outcome terms bs ws c).answer)
      && lasts own (call_outcome terms bs ws c).words cs

  -- The claim about two lists of calls, answered rs and ss, that left the words end and end': "the same answers to its events, signals and
  -- fires, and the same ready bits and entries under its roots". Beginnings of lists are lists: so it is of every point of them
  pub record Isolated (own : Society) (cs : List Call) (rs : List Answer) (end : Words) (ds : List Call) (ss : List Answer) (end' : Words) : Type 0 where
    pub answers : own_answers own cs rs ≡ own_answers own ds ss
    pub ready : is_over_now end ≡ false → is_over_now end' ≡ false → (t : TrackNumber) → is_under p own t ≡ true
        → ready_bit (ready_outcome terms bs end).answer t ≡ ready_bit (ready_outcome terms bs end').answer t
    pub entries : is_over_now end ≡ false → is_over_now end' ≡ false → (t : TrackNumber) → is_under p own t ≡ true
        → entries_part terms bs end t ≡ entries_part terms bs end' t
