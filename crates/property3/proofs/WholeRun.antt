-- What `run_calls` promises, in each of its three cases: no room, a begin refused, a begin accepted. Assumes nothing.
use Rattle.std.proofs.Common.{◌≡◌, refl, sym, ap, ◌∙◌, ◌⊎◌, inl, inr, List, [], ◌++◌, ℕ, zero, suc, ◌/◌, ◌≤◌, ◌<◌, arith, length, drop, ltb-true, ltb-false}
use Rattle.rules.proofs.Tests.{look}
use Rattle.rules.specs.declared.BeginAnswer.{BeginAnswer}
use Rattle.rules.specs.declared.BeginAnswer.TheVariants as begin
use Rattle.rules.specs.Plan.{plan_of}
use Rattle.rules.specs.Acceptance.{Reading, turned_back, accepted, read_plan}
use Rattle.rules.specs.Answers.{begin_told}
use Rattle.rules.specs.Call.{refusal, done, Outcome, Call, refused_or, under_plan, begin_outcome, Meets}
use Rattle.rules.specs.ReferenceRun.{words_from, words_after, answers_from, answers_after}
use Rattle.property3.specs.declared.CallsAnswer.{CallsAnswer}
use Rattle.property3.specs.declared.CallsAnswer.TheVariants.{Begun, Refused, NoRoom}
use Rattle.rules.specs.declared.Terms.{Terms}
use Rattle.property3.specs.Encoding.{decoded_calls, decoded_answers, encoded_answers, answer_room, lacks_room}
use Rattle.property3.specs.CallsRun.{BeginAccepted, CallsRun, CallsMade}
use Rattle.property3.proofs.Property3.{begin_reads, from_run}
use Rattle.property3.proofs.FreeBooks.{to_small}
use Rattle.property3.proofs.Decoding.{answers_back}

not_both : {A : Type 0} (n : ℕ) (fs : List ℕ) → refusal n ≡ done fs → A
not_both n fs e = let z : ◌≡◌ {A = ℕ} 0 1 = cc in absurd (omega arith)

-- a begin is refused and leaves every word, or is done
module _ (terms : Terms) (bs ws : List ℕ) where
  abbrev Either : Outcome → Type 0
  Either o = ((n : ℕ) × (o ≡ record { answer = refusal n; words = ws })) ⊎ (o.answer ≡ done [])

  refused_or_lem : (o : Outcome) → o.answer ≡ done [] → (k : ℕ) → Either (refused_or ws o k)
  unfolding refused_or
  refused_or_lem o d zero = inr d
  refused_or_lem o d (suc k) = inl (suc k, refl)

  begin_either : Either (begin_outcome terms bs ws)
  unfolding begin_outcome under_plan
  begin_either = go (read_plan bs) refl
    where
      go : (r : Reading) → read_plan bs ≡ r → Either (begin_outcome terms bs ws)
      go (turned_back k) e = rw (e, begin_outcome, under_plan) (inl (k, refl))
      go (accepted c) e = rw (e, begin_outcome, under_plan) (refused_or_lem _ refl _)

  begin_kept : (n : ℕ) → (begin_outcome terms bs ws).answer ≡ refusal n → (begin_outcome terms bs ws).words ≡ ws
  begin_kept n e =
      elim begin_either [
        | inl d ↦ ap (λ (o : Outcome). o.words) d.1
        | inr d ↦ not_both n [] (sym e ∙ d)
      ]

module _ (terms : Terms) (bs lent calls out : List ℕ) where
  pub run_short : length out / 3 < length calls / 5 → CallsRun terms bs lent calls out NoRoom lent out
  unfolding lacks_room answer_room
  run_short h =
      record {
        short = λ e. record { answered = refl; ledger = refl; answers = refl };
        refused = λ e n b. absurd (omega (arith, ltb-false (length out) (answer_room calls) e));
        begun = λ e b. absurd (omega (arith, ltb-false (length out) (answer_room calls) e));
      }

  module _ (room : length calls / 5 ≤ length out / 3) (r : BeginAnswer) (ws : List ℕ) (m : Meets (begin_outcome terms bs lent) (begin_told r) ws) where
    pub run_refused : (n : ℕ) → r ≡ begin.Refused n → CallsRun terms bs lent calls out (Refused n) ws out
    unfolding lacks_room answer_room begin_told
    run_refused n q =
        let a : refusal n ≡ (begin_outcome terms bs lent).answer = sym (ap begin_told q) ∙ m.answered in
        record {
          short = λ e. absurd (omega (arith, ltb-true (length out) (answer_room calls) e));
          refused = λ e k b.
              let f : refusal n ≡ refusal k = a ∙ b in
              let g : n ≡ k = cc in
              record { answered = ap (λ x. Refused x) g; ledger = m.left ∙ begin_kept terms bs lent n (sym a); answers = refl };
          begun = λ e b. not_both n [] (a ∙ b);
        }

    pub run_begun : (end out' : List ℕ) → r ≡ begin.Begun → CallsMade terms bs ws calls out end out' → CallsRun terms bs lent calls out Begun end out'
    unfolding lacks_room answer_room begin_told words_after answers_after
    run_begun end out' q w =
        let a : done [] ≡ (begin_outcome terms bs lent).answer = sym (ap begin_told q) ∙ m.answered in
        let (c, read) = begin_reads terms bs lent (sym a) in
        let cs : List Call = decoded_calls calls in
        let told : decoded_answers cs out' ≡ answers_from terms bs ws cs =
        ap (decoded_answers cs) w.written ∙ answers_back terms bs c read cs ws (drop (answer_room calls) out) in
        record {
          short = λ e. absurd (omega (arith, ltb-true (length out) (answer_room calls) e));
          refused = λ e k b. not_both k [] (sym b ∙ sym a);
          begun = λ e b.
              record {
                answered = refl;
                counts = c;
                read = read;
                property3 = to_small terms bs (plan_of bs c) lent cs (decoded_answers cs out') end
                    (from_run terms bs c read lent (sym a) cs (decoded_answers cs out') end
                    (w.left ∙ ap (λ x. words_from terms bs x cs) m.left)
                    (told ∙ ap (λ x. answers_from terms bs x cs) m.left));
                written = w.written ∙ ap (λ x. encoded_answers (answers_from terms bs x cs) ++ drop (answer_room calls) out) m.left;
              };
        }

-- where the answer is `Begun`, there was room and the begin was accepted
pub when_begun : (terms : Terms) (bs lent calls out : List ℕ) (told : CallsAnswer) (end out' : List ℕ) → CallsRun terms bs lent calls out told end out' → told ≡ Begun
    → BeginAccepted terms bs lent calls out told end out'
when_begun terms bs lent calls out told end out' p e =
    elim (look (lacks_room calls out)) [
      | inl h ↦ let f : NoRoom ≡ Begun = sym (p.short h).answered ∙ e in let z : ◌≡◌ {A = ℕ} 0 1 = cc in absurd (omega arith)
      | inr h ↦
          elim (begin_either terms bs lent) [
            | inl d ↦
                let f : Refused d.0 ≡ Begun = sym (p.refused h d.0 (ap (λ (o : Outcome). o.answer) d.1)).answered ∙ e in
                let z : ◌≡◌ {A = ℕ} 0 1 = cc in absurd (omega arith)
            | inr d ↦ p.begun h d
          ]
    ]
