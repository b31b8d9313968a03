-- The answer is the reading of the counts; an accepted plan leaves its first states. Assumes nothing.
use Rattle.std.proofs.Common.{◌≡◌, ℕ, arith}
use Rattle.rules.specs.declared.Counts.{Counts}
use Rattle.rules.specs.Acceptance.{accepted}
use Rattle.rules.specs.Answers.{plan_told}
use Rattle.plan_reader.proofs.read_plan_with.Goals as goal

same : (a b : Counts) → accepted a ≡ accepted b → a ≡ b
same a b e = cc

pub returns-in-Ok : goal.returns-in-Ok
unfolding plan_told
returns-in-Ok c = (c.in-Ok.ensures.reading, λ d e. rw (← same _ d e, ← c.in-Ok.ensures.bytes) c.in-Ok.ensures.firsts)

pub returns-in-Err : goal.returns-in-Err
unfolding plan_told
returns-in-Err c = (rw c.number.ensures c.in-Err.ensures.reading, λ d e. let z : ◌≡◌ {A = ℕ} 0 1 = cc in absurd (omega arith))
