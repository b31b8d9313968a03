-- What the rules answer to a call is a refusal or as many figures as that call has. Assumes nothing.
use Rattle.std.proofs.Common.{◌≡◌, refl, List, ◌++◌, ℕ, zero, suc}
use Rattle.rules.specs.Fold.{first_refusal}
use Rattle.rules.specs.Plan.{Plan, track_count, plan_of}
use Rattle.rules.specs.Acceptance.{Reading, turned_back, accepted, read_plan}
use Rattle.rules.specs.Leading.{last_day}
use Rattle.rules.specs.Ledger.{Ledger, ledger_at, written}
use Rattle.rules.specs.Call.{Answer, refusal, done, Outcome, Call, event, signal, fire, refused_or, under_plan, ledger_refusals, call_refusals, figures, after, dated_by, call_outcome}
use Rattle.property3.specs.Encoding.{decoded_figures}
use Rattle.rules.specs.declared.Terms.{Terms}

pub data Shaped (c : Call) : Answer → Type 0 where
  refused : (n : ℕ) → Shaped c (refusal n)
  figured : (x y : ℕ) → Shaped c (done (decoded_figures c x y))

module _ (terms : Terms) where
  figures_shaped : (p : Plan) (l : Ledger) (c : Call) → Shaped c (done (figures p l c))
  unfolding figures decoded_figures
  figures_shaped p l (event a) = figured _ _
  figures_shaped p l (signal a) = figured _ 0
  figures_shaped p l (fire a) = figured _ _

  or_shaped : (ws : List ℕ) (o : Outcome) (c : Call) → Shaped c o.answer → (n : ℕ) → Shaped c (refused_or ws o n).answer
  unfolding refused_or
  or_shaped ws o c h zero = h
  or_shaped ws o c h (suc n) = refused (suc n)

  pub shaped : (bs ws : List ℕ) (c : Call) → Shaped c (call_outcome terms bs ws c).answer
  unfolding call_outcome under_plan
  shaped bs ws c = go (read_plan bs) refl
    where
      go : (r : Reading) → read_plan bs ≡ r → Shaped c (call_outcome terms bs ws c).answer
      go (turned_back r) e = rw (e, call_outcome, under_plan) (refused r)
      go (accepted k) e =
          let p : Plan = plan_of bs k in
          let l : Ledger = ledger_at terms ws (track_count p) in
          rw (e, call_outcome, under_plan)
          (or_shaped ws (record { answer = done (figures p l c); words = written terms (track_count p) (after p l c) (dated_by c ws) }) c
          (figures_shaped p l c) (first_refusal (ledger_refusals terms bs p ws ++ call_refusals terms p (last_day ws) l c)))
