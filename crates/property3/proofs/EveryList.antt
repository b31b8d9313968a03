-- Every list of calls has a history, from any words: what the rules answer to a call is an answer that the call can give. Assumes nothing.
use Rattle.std.proofs.Common.{◌≡◌, refl, List, [], ◌∷◌, ℕ}
use Rattle.rules.specs.declared.EventAnswer.{EventAnswer}
use Rattle.rules.specs.declared.SignalAnswer.{SignalAnswer}
use Rattle.rules.specs.declared.FireAnswer.{FireAnswer}
use Rattle.rules.specs.declared.EventAnswer.TheVariants as event-answer
use Rattle.rules.specs.declared.SignalAnswer.TheVariants as signal-answer
use Rattle.rules.specs.declared.FireAnswer.TheVariants as fire-answer
use Rattle.rules.specs.declared.Terms.{Terms}
use Rattle.rules.specs.Event.{EventArguments}
use Rattle.rules.specs.Call.{Answer, SignalArguments, FireArguments, Call, event, signal, fire, call_outcome, event_outcome, signal_outcome, fire_outcome}
use Rattle.rules.specs.Answers.{event_told, signal_told, fire_told}
use Rattle.rules.specs.History.{History, none, event_made, signal_made, fire_made}
use Rattle.property3.specs.Encoding.{decoded_figures}
use Rattle.property3.proofs.Shapes.{Shaped, refused, figured, shaped}

event_tells : (a : EventArguments) {x : Answer} → Shaped (event a) x → (r : EventAnswer) × (event_told r ≡ x)
unfolding decoded_figures event_told
event_tells a (refused n) = (event-answer.Refused n, refl)
event_tells a (figured x y) = (event-answer.Moved x y, refl)

signal_tells : (a : SignalArguments) {x : Answer} → Shaped (signal a) x → (r : SignalAnswer) × (signal_told r ≡ x)
unfolding decoded_figures signal_told
signal_tells a (refused n) = (signal-answer.Refused n, refl)
signal_tells a (figured x y) = (signal-answer.Turned x, refl)

fire_tells : (a : FireArguments) {x : Answer} → Shaped (fire a) x → (r : FireAnswer) × (fire_told r ≡ x)
unfolding decoded_figures fire_told
fire_tells a (refused n) = (fire-answer.Refused n, refl)
fire_tells a (figured x y) = (fire-answer.Fired x y, refl)

-- "for every list of events, signals and firings": `property3` is about each of them, not about those alone that happen to have a history
pub every_list : (terms : Terms) (bs : List ℕ) (cs : List Call) (ws : List ℕ) → (rs : List Answer) × (end : List ℕ) × History terms bs ws cs rs end
unfolding event_outcome signal_outcome fire_outcome
every_list terms bs [] ws = ([], ws, none)
every_list terms bs (event a ∷ cs) ws =
    let (r, e) = event_tells a (shaped terms bs ws (event a)) in
    let (rs, end, h) = every_list terms bs cs (call_outcome terms bs ws (event a)).words in
    (event_told r ∷ rs, end, event_made a r (record { answered = e; left = refl }) h)
every_list terms bs (signal a ∷ cs) ws =
    let (r, e) = signal_tells a (shaped terms bs ws (signal a)) in
    let (rs, end, h) = every_list terms bs cs (call_outcome terms bs ws (signal a)).words in
    (signal_told r ∷ rs, end, signal_made a r (record { answered = e; left = refl }) h)
every_list terms bs (fire a ∷ cs) ws =
    let (r, e) = fire_tells a (shaped terms bs ws (fire a)) in
    let (rs, end, h) = every_list terms bs cs (call_outcome terms bs ws (fire a)).words in
    (fire_told r ∷ rs, end, fire_made a r (record { answered = e; left = refl }) h)
