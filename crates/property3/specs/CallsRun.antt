-- What a begin and a list of calls after it promise: the answer, every word of the lent ledger and of the lent answers, and where the begin was
-- accepted property 3. Assumes nothing.
use Rattle.std.specs.Prelude.{◌≡◌, true, false, List, [], ◌++◌, ℕ, drop}
use Rattle.rules.specs.declared.Counts.{Counts}
use Rattle.rules.specs.Plan.{plan_of}
use Rattle.rules.specs.Acceptance.{accepted, read_plan}
use Rattle.rules.specs.Call.{refusal, done, begin_outcome}
use Rattle.rules.specs.ReferenceRun.{words_from, answers_from, answers_after}
use Rattle.property3.specs.declared.CallsAnswer.{CallsAnswer}
use Rattle.property3.specs.declared.CallsAnswer.TheVariants.{Begun, Refused, NoRoom}
use Rattle.rules.specs.declared.Terms.{Terms}
use Rattle.property3.specs.SmallProperty3.{SmallProperty3}
use Rattle.property3.specs.Encoding.{decoded_calls, decoded_answers, encoded_answers, answer_room, lacks_room}

-- Where nothing was done: the answer, and every lent word as it was.
pub record Untouched (told answer : CallsAnswer) (lent out end out' : List ℕ) : Type 0 where
  pub answered : told ≡ answer
  pub ledger : end ≡ lent
  pub answers : out' ≡ out

-- Where the begin was accepted: property 3 of the calls and of the answers that the lent words hold, and each of these words.
pub record BeginAccepted (terms : Terms) (bs lent calls out : List ℕ) (told : CallsAnswer) (end out' : List ℕ) : Type 0 where
  pub answered : told ≡ Begun
  pub counts : Counts
  pub read : read_plan bs ≡ accepted counts
  pub property3 : SmallProperty3 terms bs (plan_of bs counts) lent (decoded_calls calls) (decoded_answers (decoded_calls calls) out') end
  pub written : out' ≡ encoded_answers (answers_after terms bs lent (decoded_calls calls)) ++ drop (answer_room calls) out

-- The whole promise: too few words for the answers, a begin refused, a begin accepted.
pub record CallsRun (terms : Terms) (bs lent calls out : List ℕ) (told : CallsAnswer) (end out' : List ℕ) : Type 0 where
  pub short : lacks_room calls out ≡ true → Untouched told NoRoom lent out end out'
  pub refused : lacks_room calls out ≡ false → (n : ℕ) → (begin_outcome terms bs lent).answer ≡ refusal n
      → Untouched told (Refused n) lent out end out'
  pub begun : lacks_room calls out ≡ false → (begin_outcome terms bs lent).answer ≡ done []
      → BeginAccepted terms bs lent calls out told end out'

-- The calls alone, from the words that a begin left.
pub record CallsMade (terms : Terms) (bs ws calls out end out' : List ℕ) : Type 0 where
  pub left : end ≡ words_from terms bs ws (decoded_calls calls)
  pub written : out' ≡ encoded_answers (answers_from terms bs ws (decoded_calls calls)) ++ drop (answer_room calls) out
