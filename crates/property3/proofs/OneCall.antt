-- One call: its own promise with its answer encoded, and which call it is by the kind. Assumes nothing.
use Rattle.std.proofs.Common.{inl, inr, ◌≡◌, ap, ◌∙◌, subst, List, ℕ, eqb, w32, SFits, to_z, of_z}
use mir.ValLaws.{to_z-of_z}
use Rattle.rules.specs.Names.{Day}
use Rattle.rules.specs.Call.{Answer, Outcome, Call, event, signal, fire, call_outcome, event_outcome, signal_outcome, fire_outcome, Meets}
use Rattle.property3.specs.declared.EncodedAnswer.{EncodedAnswer}
use Rattle.rules.specs.declared.Terms.{Terms}
use Rattle.rules.proofs.Tests.{look}
use Rattle.property3.specs.declared.Kind.{Kind}
use Rattle.property3.specs.declared.Kind.TheVariants.{Signal, Fire, Event}
use Rattle.property3.specs.Encoding.{kind_read, decoded_call, encoded_answer, encoded_words, CallMade}

pub encoded : (o : Outcome) (told : Answer) (t : EncodedAnswer) (ws : List ℕ) → Meets o told ws → encoded_words t ≡ encoded_answer told → CallMade o t ws
encoded o told t ws m e = record { answered = e ∙ ap encoded_answer m.answered; left = m.left }

-- a day is read back from its bits: of an event, and of a call whose day was read off words
module _ (terms : Terms) (bs ws : List ℕ) (t : EncodedAnswer) (ws' : List ℕ) (day : Day) (f : SFits w32 day) where
  pub on_day : (x o : ℕ) → CallMade (event_outcome terms bs ws (record { event = x; day = to_z w32 (of_z w32 day); society = o })) t ws'
      → CallMade (event_outcome terms bs ws (record { event = x; day = day; society = o })) t ws'
  on_day x o m = subst (λ z. CallMade (event_outcome terms bs ws (record { event = x; day = z; society = o })) t ws') (to_z-of_z w32 day f) m

  pub on_read : (kind x o : ℕ) (d : Day) → day ≡ d → CallMade (call_outcome terms bs ws (decoded_call kind x (to_z w32 (of_z w32 day)) o)) t ws'
      → CallMade (call_outcome terms bs ws (decoded_call kind x d o)) t ws'
  on_read kind x o d e m = subst (λ z. CallMade (call_outcome terms bs ws (decoded_call kind x z o)) t ws') (to_z-of_z w32 day f ∙ e) m

-- by the kind
call_of : Kind → ℕ → Day → ℕ → Call
call_of Event x day o = event (record { event = x; day = day; society = o })
call_of Signal x day o = signal (record { society = o })
call_of Fire x day o = fire (record { track = x; society = o })

read_call : (kind x : ℕ) (day : Day) (o : ℕ) → decoded_call kind x day o ≡ call_of (kind_read kind) x day o
unfolding decoded_call call_of
read_call kind x day o =
    elim (look (eqb kind 20)) [
      | inl e ↦ rw e
      | inr e ↦ elim (look (eqb kind 17)) [ inl f ↦ rw (e, f) | inr f ↦ rw (e, f) ]
    ]

module _ (terms : Terms) (bs ws : List ℕ) (kind x : ℕ) (day : Day) (o : ℕ) (t : EncodedAnswer) (ws' : List ℕ) where
  made : (k : Kind) → k ≡ kind_read kind → CallMade (call_outcome terms bs ws (call_of k x day o)) t ws'
      → CallMade (call_outcome terms bs ws (decoded_call kind x day o)) t ws'
  made k e m = rw (read_call kind x day o, ← e) m

  pub made_event : Event ≡ kind_read kind → CallMade (event_outcome terms bs ws (record { event = x; day = day; society = o })) t ws'
      → CallMade (call_outcome terms bs ws (decoded_call kind x day o)) t ws'
  unfolding event_outcome call_of
  made_event e m = made Event e m

  pub made_signal : Signal ≡ kind_read kind → CallMade (signal_outcome terms bs ws (record { society = o })) t ws'
      → CallMade (call_outcome terms bs ws (decoded_call kind x day o)) t ws'
  unfolding signal_outcome call_of
  made_signal e m = made Signal e m

  pub made_fire : Fire ≡ kind_read kind → CallMade (fire_outcome terms bs ws (record { track = x; society = o })) t ws'
      → CallMade (call_outcome terms bs ws (decoded_call kind x day o)) t ws'
  unfolding fire_outcome call_of
  made_fire e m = made Fire e m
