-- Calls and answers as words: five words for a call, three for its answer. Assumes nothing.
use Rattle.std.specs.Prelude.{◌≡◌, Bool, cond, List, [], ◌∷◌, ◌++◌, ℕ, zero, suc, ◌*◌, ◌/◌, length, pos, eqb, ltb}
use Rattle.rules.specs.Names.{Words, Day, Society}
use Rattle.rules.specs.Signed.{joined, low_word, high_word}
use Rattle.rules.specs.Call.{Answer, refusal, done, Outcome, Call, event, signal, fire}
use Rattle.rules.specs.Journal.{event_kind, signal_kind, fire_kind}
use Rattle.rules.specs.Isolation.{society_of}
use Rattle.property3.specs.declared.EncodedAnswer.{EncodedAnswer}
use Rattle.property3.specs.declared.Kind.{Kind}
use Rattle.property3.specs.declared.Kind.TheVariants.{Signal, Fire, Event}

-- A call is its kind, the journal's, its argument, an event's or a track's, an event's day, low word first, and the society; 0 stands where there is
-- no argument or day.
unfoldable pub kind_of : Call → ℕ
kind_of (event a) = event_kind
kind_of (signal a) = signal_kind
kind_of (fire a) = fire_kind

unfoldable pub argument_of : Call → ℕ
argument_of (event a) = a.event
argument_of (signal a) = 0
argument_of (fire a) = a.track

unfoldable pub day_of : Call → Day
day_of (event a) = a.day
day_of (signal a) = pos 0
day_of (fire a) = pos 0

unfoldable pub encoded_calls : List Call → List ℕ
encoded_calls [] = []
encoded_calls (c ∷ cs) = kind_of c ∷ argument_of c ∷ low_word (day_of c) ∷ high_word (day_of c) ∷ society_of c ∷ encoded_calls cs

-- the kind that a word stands for: one that is neither an event's nor a signal's is a firing's
abbrev pub kind_read : ℕ → Kind
kind_read word = cond (eqb word event_kind) Event (cond (eqb word signal_kind) Signal Fire)

-- and back: a kind that is neither an event's nor a signal's is a firing
unfoldable pub decoded_call : ℕ → ℕ → Day → Society → Call
decoded_call kind argument day society =
    cond (eqb kind event_kind) (event (record { event = argument; day = day; society = society }))
    (cond (eqb kind signal_kind) (signal (record { society = society })) (fire (record { track = argument; society = society })))

-- words left over are no call
unfoldable pub decoded_calls : List ℕ → List Call
decoded_calls [] = []
decoded_calls (kind ∷ []) = []
decoded_calls (kind ∷ argument ∷ []) = []
decoded_calls (kind ∷ argument ∷ low ∷ []) = []
decoded_calls (kind ∷ argument ∷ low ∷ high ∷ []) = []
decoded_calls (kind ∷ argument ∷ low ∷ high ∷ society ∷ ws) = decoded_call kind argument (joined low high) society ∷ decoded_calls ws

-- An answer is the refusal's number, 0 where accepted, and two figures, 0 where there is none.
unfoldable pub encoded_answer : Answer → List ℕ
encoded_answer (refusal n) = n ∷ 0 ∷ 0 ∷ []
encoded_answer (done []) = 0 ∷ 0 ∷ 0 ∷ []
encoded_answer (done (a ∷ [])) = 0 ∷ a ∷ 0 ∷ []
encoded_answer (done (a ∷ b ∷ _)) = 0 ∷ a ∷ b ∷ []

unfoldable pub encoded_answers : List Answer → List ℕ
encoded_answers [] = []
encoded_answers (r ∷ rs) = encoded_answer r ++ encoded_answers rs

-- and back, by the call that was answered: "tracks moved, scopes closed", "how many turned", "code and deviation"
unfoldable pub decoded_figures : Call → ℕ → ℕ → List ℕ
decoded_figures (event a) x y = x ∷ y ∷ []
decoded_figures (signal a) x y = x ∷ []
decoded_figures (fire a) x y = x ∷ y ∷ []

unfoldable pub decoded_answer : Call → ℕ → ℕ → ℕ → Answer
decoded_answer c zero x y = done (decoded_figures c x y)
decoded_answer c (suc n) x y = refusal (suc n)

unfoldable pub decoded_answers : List Call → List ℕ → List Answer
decoded_answers [] out = []
decoded_answers (c ∷ cs) [] = []
decoded_answers (c ∷ cs) (n ∷ []) = []
decoded_answers (c ∷ cs) (n ∷ x ∷ []) = []
decoded_answers (c ∷ cs) (n ∷ x ∷ y ∷ out) = decoded_answer c n x y ∷ decoded_answers cs out

-- the words that the answers to encoded calls take
unfoldable pub answer_room : List ℕ → ℕ
answer_room calls = 3 * (length calls / 5)

unfoldable pub lacks_room : List ℕ → List ℕ → Bool
lacks_room calls out = ltb (length out) (answer_room calls)

-- an answer's words, from the code's struct
unfoldable pub encoded_words : EncodedAnswer → List ℕ
encoded_words r = r.refusal ∷ r.first ∷ r.second ∷ []

-- What making one call promises: its answer, encoded, and every lent word afterwards.
pub record CallMade (o : Outcome) (told : EncodedAnswer) (words : Words) : Type 0 where
  pub answered : encoded_words told ≡ encoded_answer o.answer
  pub left : words ≡ o.words
