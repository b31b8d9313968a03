-- Nothing is lost in words: every list of calls whose days are 32-bit numbers can be encoded, with the journal's kinds, and the words of the
-- answers give the answers back. Assumes nothing.
use Prim.{Unit}
use Rattle.std.proofs.Common.{◌≡◌, refl, ap, ap₂, ◌∙◌, List, [], ◌∷◌, ◌++◌, ℕ, zero, suc, arith, w32, SFits}
use Rattle.rules.specs.declared.Counts.{Counts}
use Rattle.rules.specs.declared.Terms.{Terms}
use Rattle.rules.specs.Plan.{Plan, plan_of, track_count}
use Rattle.rules.specs.Leading.{last_day}
use Rattle.rules.specs.Ledger.{Ledger, ledger_at, written}
use Rattle.rules.specs.Fold.{first_refusal}
use Rattle.rules.specs.Acceptance.{accepted, read_plan}
use Rattle.rules.specs.Call.{Answer, refusal, done, Outcome, Call, event, signal, fire, refused_or, under_plan, ledger_refusals, call_refusals, figures, after, dated_by, call_outcome}
use Rattle.rules.specs.Journal.{called, record_of}
use Rattle.rules.specs.Isolation.{society_of}
use Rattle.rules.specs.ReferenceRun.{answers_from}
use Rattle.rules.proofs.SignedLaws.{joined_words}
use Rattle.property3.specs.Encoding.{kind_of, argument_of, day_of, encoded_calls, decoded_call, decoded_calls, encoded_answer, encoded_answers, decoded_figures, decoded_answer, decoded_answers}
use Rattle.property3.proofs.Shapes.{Shaped, refused, figured, shaped}

call_back : (c : Call) → decoded_call (kind_of c) (argument_of c) (day_of c) (society_of c) ≡ c
unfolding kind_of argument_of day_of society_of decoded_call
call_back (event a) = refl
call_back (signal a) = refl
call_back (fire a) = refl

-- each call's day is a number of 32 bits
abbrev pub AllFit : List Call → Type 0
AllFit [] = Unit {0}
AllFit (c ∷ cs) = SFits w32 (day_of c) × AllFit cs

pub calls_back : (cs : List Call) → AllFit cs → decoded_calls (encoded_calls cs) ≡ cs
unfolding encoded_calls decoded_calls
calls_back [] h = refl
calls_back (c ∷ cs) h =
    ap₂ (λ x xs. x ∷ xs) (ap (λ d. decoded_call (kind_of c) (argument_of c) d (society_of c)) (joined_words (day_of c) h.0) ∙ call_back c)
    (calls_back cs h.1)

-- the kinds are the journal's
pub journal_kinds : (c : Call) → record_of (kind_of c) (argument_of c) (day_of c) (society_of c) ≡ called c
unfolding kind_of argument_of day_of society_of record_of
journal_kinds (event a) = refl
journal_kinds (signal a) = refl
journal_kinds (fire a) = refl

-- an answer that is no refusal by the number 0
one_back : (c : Call) (r : Answer) → Shaped c r → (r ≡ refusal 0 → ⊥) → (cs : List Call) (more rest : List ℕ)
    → decoded_answers (c ∷ cs) ((encoded_answer r ++ more) ++ rest) ≡ r ∷ decoded_answers cs (more ++ rest)
unfolding encoded_answer decoded_figures decoded_answer decoded_answers
one_back c r (refused zero) z cs more rest = absurd (z refl)
one_back c r (refused (suc n)) z cs more rest = refl
one_back (event a) r (figured x y) z cs more rest = refl
one_back (signal a) r (figured x y) z cs more rest = refl
one_back (fire a) r (figured x y) z cs more rest = refl

or_not_0 : (ws : List ℕ) (o : Outcome) (fs : List ℕ) → o.answer ≡ done fs → (n : ℕ) → (refused_or ws o n).answer ≡ refusal 0 → ⊥
unfolding refused_or
or_not_0 ws o fs d zero e = let z : ◌≡◌ {A = ℕ} 0 1 = cc in absurd (omega arith)
or_not_0 ws o fs d (suc n) e = let z : suc n ≡ 0 = cc in absurd (omega arith)

module _ (terms : Terms) (bs : List ℕ) (k : Counts) (read : read_plan bs ≡ accepted k) where
  not_0 : (ws : List ℕ) (c : Call) → (call_outcome terms bs ws c).answer ≡ refusal 0 → ⊥
  unfolding call_outcome under_plan
  not_0 ws c =
      let p : Plan = plan_of bs k in
      let l : Ledger = ledger_at terms ws (track_count p) in
      rw (read, call_outcome, under_plan)
      (or_not_0 ws (record { answer = done (figures p l c); words = written terms (track_count p) (after p l c) (dated_by c ws) })
      (figures p l c) refl (first_refusal (ledger_refusals terms bs p ws ++ call_refusals terms p (last_day ws) l c)))

  pub answers_back : (cs : List Call) (ws rest : List ℕ)
      → decoded_answers cs (encoded_answers (answers_from terms bs ws cs) ++ rest) ≡ answers_from terms bs ws cs
  unfolding answers_from encoded_answers decoded_answers
  answers_back [] ws rest = refl
  answers_back (c ∷ cs) ws rest =
      let o = call_outcome terms bs ws c in
      one_back c o.answer (shaped terms bs ws c) (not_0 ws c) cs (encoded_answers (answers_from terms bs o.words cs)) rest
      ∙ ap (λ rs. o.answer ∷ rs) (answers_back cs o.words rest)
