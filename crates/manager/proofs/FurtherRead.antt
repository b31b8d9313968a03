-- A plan that is read, and what a call then asks of the ledger: what an answer tells, and the outcome of a call by it. Each goes by the two
-- cases of the reading and the two of the refusal. Assumes nothing.
use Rattle.std.proofs.Common.{◌≡◌, refl, sym, ◌∙◌, ◌⊎◌, inl, inr, List, ℕ, zero, suc, arith}
use Rattle.rules.specs.declared.Counts.{Counts}
use Rattle.rules.specs.Plan.{Plan, plan_of}
use Rattle.rules.specs.Acceptance.{Reading, turned_back, accepted, read_plan}
use Rattle.rules.specs.Call.{refusal, Outcome, refused_or, under_plan}
use Rattle.rules.proofs.LedgerChecks.{unless_refused}
use Rattle.manager.specs.Checked.{cleared, further_read}

-- what is refused is not accepted
pub reading_clash : {a : Reading} {r : ℕ} {c : Counts} {A : Type 0} → turned_back r ≡ a → a ≡ accepted c → A
reading_clash {a} {r} {c} e f =
    let q : turned_back r ≡ accepted c = e ∙ f in let z : ◌≡◌ {A = ℕ} 0 1 = cc in absurd (omega arith)

module _ (bs : List ℕ) (f : Plan → ℕ) where
  pub read_refused : (r : ℕ) → turned_back r ≡ read_plan bs → turned_back r ≡ further_read bs f
  unfolding further_read
  read_refused r e = rw (sym e, further_read)

  pub read_stopped : (c : Counts) (r : ℕ) → accepted c ≡ read_plan bs → f (plan_of bs c) ≡ suc r → turned_back (suc r) ≡ further_read bs f
  unfolding further_read cleared
  read_stopped c r e h = rw (sym e, further_read, h)

  pub read_cleared : (c : Counts) → accepted c ≡ read_plan bs → f (plan_of bs c) ≡ 0 → accepted c ≡ further_read bs f
  unfolding further_read cleared
  read_cleared c e h = rw (sym e, further_read, h)

  -- why a plan or a ledger is refused: by the plan's own number, or by the test of an accepted plan
  pub record Stopped (r : ℕ) : Type 0 where
    pub counts : Counts
    pub number : ℕ
    pub read : read_plan bs ≡ accepted counts
    pub test : f (plan_of bs counts) ≡ suc number
    pub same : r ≡ suc number

  pub read_why : (r : ℕ) → turned_back r ≡ further_read bs f → (read_plan bs ≡ turned_back r) ⊎ Stopped r
  unfolding further_read cleared
  read_why r e = go (read_plan bs) refl
    where
      tested : (c : Counts) (n : ℕ) → read_plan bs ≡ accepted c → f (plan_of bs c) ≡ n → (read_plan bs ≡ turned_back r) ⊎ Stopped r
      tested c zero a h = reading_clash e (sym (read_cleared c (sym a) h))
      tested c (suc n) a h =
          let q : turned_back r ≡ turned_back (suc n) = e ∙ sym (read_stopped c n (sym a) h) in
          inr (record { counts = c; number = n; read = a; test = h; same = cc })

      go : (x : Reading) → read_plan bs ≡ x → (read_plan bs ≡ turned_back r) ⊎ Stopped r
      go (turned_back n) a =
          let q : turned_back r ≡ turned_back n = e ∙ sym (read_refused n (sym a)) in
          let w : r ≡ n = cc in
          inl (rw w a)
      go (accepted c) a = tested c (f (plan_of bs c)) a refl

  pub read_facts : (c : Counts) → accepted c ≡ further_read bs f → (read_plan bs ≡ accepted c) × (f (plan_of bs c) ≡ 0)
  read_facts c e = go (read_plan bs) refl
    where
      tested : (d : Counts) (n : ℕ) → read_plan bs ≡ accepted d → f (plan_of bs d) ≡ n → (read_plan bs ≡ accepted c) × (f (plan_of bs c) ≡ 0)
      tested d zero a h =
          let q : accepted c ≡ accepted d = e ∙ sym (read_cleared d (sym a) h) in
          let w : c ≡ d = cc in
          (rw w a, rw w h)
      tested d (suc n) a h = reading_clash (read_stopped d n (sym a) h) (sym e)

      go : (x : Reading) → read_plan bs ≡ x → (read_plan bs ≡ accepted c) × (f (plan_of bs c) ≡ 0)
      go (turned_back n) a = reading_clash (read_refused n (sym a)) (sym e)
      go (accepted d) a = tested d (f (plan_of bs d)) a refl

  -- The outcome of a call that asks this first, by what was answered.
  module _ (ws : List ℕ) (g o : Plan → Outcome) (rest : Plan → ℕ) (is : (p : Plan) → g p ≡ refused_or ws (o p) (unless_refused (f p) (rest p))) where
    pub refused_outcome : (r : ℕ) → turned_back r ≡ further_read bs f → record { answer = refusal r; words = ws } ≡ under_plan bs ws g
    unfolding under_plan refused_or unless_refused
    refused_outcome r e =
        elim (read_why r e) [
          | inl a ↦ rw (a, under_plan)
          | inr s ↦ rw (s.read, under_plan, is (plan_of bs s.counts), s.test, s.same)
        ]

    pub cleared_outcome : (c : Counts) → accepted c ≡ further_read bs f → refused_or ws (o (plan_of bs c)) (rest (plan_of bs c)) ≡ under_plan bs ws g
    unfolding under_plan unless_refused
    cleared_outcome c e = let (a, z) = read_facts c e in rw (a, under_plan, is (plan_of bs c), z)
