-- How many retractions are still due, "exactly, not at most": where no track is forward and no entry held carries a deviation, one firing for each entry
-- held, in whatever order. Assumes nothing.
use Rattle.std.specs.Prelude.{◌≡◌, Bool, true, false, not, ◌&&◌, ◌||◌, List, [], ◌∷◌, ◌++◌, ℕ, ◌+◌, length, eqb}
use Rattle.rules.specs.Names.{Bytes, Words, TrackNumber, Society}
use Rattle.rules.specs.declared.Terms.{Terms}
use Rattle.rules.specs.Fold.{every_below}
use Rattle.rules.specs.Plan.{Plan, track_count, no_state}
use Rattle.rules.specs.Rights.{signal_right, is_permitted}
use Rattle.rules.specs.Ledger.{Entry, Ledger, is_forward, ledger_at}
use Rattle.rules.specs.Soundness.{every_held}
use Rattle.rules.specs.Fire.{may_fire, ready, after_fire}
use Rattle.rules.specs.Call.{Answer, done, Call, fire, ready_outcome}
use Rattle.rules.specs.Transcript.{firings_of, firings_in, held_total}

-- none of these entries carries a deviation
unfoldable pub is_plain : List Entry → Bool
is_plain es = every_held (λ e. eqb e.deviation no_state) es

module _ (p : Plan) where
  -- "no entry held that carries a deviation"
  unfoldable pub holds_no_deviation : Ledger → Bool
  holds_no_deviation l = every_below (track_count p) (λ t. is_plain (l t).held)

  -- no track is forward
  unfoldable pub none_forward : Ledger → Bool
  none_forward l = every_below (track_count p) (λ t. not (is_forward (l t).mode))

  -- "a signal that turns every forward track": its society may turn each of them
  unfoldable pub turns_every : Society → Ledger → Bool
  turns_every society l = every_below (track_count p) (λ t. not (is_forward (l t).mode) || is_permitted p signal_right society t)

  -- "any allowed firing order", rights aside: each track may be fired on the ledger as the firings before it left it
  unfoldable pub is_order : Ledger → List TrackNumber → Bool
  is_order l [] = true
  is_order l (t ∷ ts) = may_fire p l t && is_order (after_fire p l t) ts

  unfoldable pub after_order : Ledger → List TrackNumber → Ledger
  after_order l [] = l
  after_order l (t ∷ ts) = after_order (after_fire p l t) ts

  -- The claim about a ledger, rights aside
  pub record FiresExactly (l : Ledger) : Type 0 where
    -- "any allowed firing order that goes on until ready is 0 has exactly as many firings as there were entries held"
    pub exactly : (ts : List TrackNumber) → is_order l ts ≡ true → ready p (after_order l ts) ≡ 0 → length ts ≡ held_total p l
    -- "the number of retractions still due", at any point of an order: so none has more firings, and one with as many has gone on until ready is 0
    pub still_due : (ts : List TrackNumber) → is_order l ts ≡ true → length ts + held_total p (after_order l ts) ≡ held_total p l
    pub none_due : (ts : List TrackNumber) → is_order l ts ≡ true → length ts ≡ held_total p l → ready p (after_order l ts) ≡ 0
    -- each order, the empty one too, goes on to one that has gone on until ready is 0
    pub goes_on : (ts : List TrackNumber) → is_order l ts ≡ true
        → (us : List TrackNumber) × (is_order l (ts ++ us) ≡ true) × (ready p (after_order l (ts ++ us)) ≡ 0)

-- An order as a list of calls: each is a firing and was accepted, whoever made it
unfoldable pub is_firing_order : List Call → List Answer → Bool
is_firing_order [] rs = true
is_firing_order (c ∷ cs) [] = false
is_firing_order (c ∷ cs) (r ∷ rs) = eqb (firings_of c r) 1 && is_firing_order cs rs

-- the calls of an order, for each track by this society
unfoldable pub firing_calls : (TrackNumber → Society) → List TrackNumber → List Call
firing_calls firer [] = []
firing_calls firer (t ∷ ts) = fire (record { track = t; society = firer t }) ∷ firing_calls firer ts

-- "entries held"
unfoldable pub held_by : Terms → Plan → Words → ℕ
held_by terms p ws = held_total p (ledger_at terms ws (track_count p))

-- "ready is 0"
abbrev pub NoneReady : Terms → Bytes → Words → Type 0
NoneReady terms bs ws = (ready_outcome terms bs ws).answer ≡ done (0 ∷ [])

-- The claim about a list of calls on the words ws, answered rs, that left the words end
pub record Counted (terms : Terms) (bs : Bytes) (p : Plan) (ws : Words) (cs : List Call) (rs : List Answer) (end : Words) : Type 0 where
  -- "any allowed firing order that goes on until ready is 0 has exactly as many firings as there were entries held"
  pub exactly : is_firing_order cs rs ≡ true → NoneReady terms bs end → length cs ≡ held_by terms p ws
  -- "the number of retractions still due", at any point: other calls between the firings, refused ones too, change nothing here
  pub still_due : firings_in cs rs + held_by terms p end ≡ held_by terms p ws
  -- ready, where it is not refused, is 0 exactly where none is due
  pub none_due : NoneReady terms bs end → held_by terms p end ≡ 0
  pub none_ready : (figures : List ℕ) → (ready_outcome terms bs end).answer ≡ done figures → held_by terms p end ≡ 0 → NoneReady terms bs end
  -- and what is asked of the ledger holds of the one that is left: so it can be counted from there again
  pub unforward : none_forward p (ledger_at terms end (track_count p)) ≡ true
  pub plain : holds_no_deviation p (ledger_at terms end (track_count p)) ≡ true
