-- Document 01's runs and books are the theory's at its instance: the same runs, the same deeds, and every books of the rules are books of the
-- theory. Assumes nothing.
use mathlib.Core.Path.{◌≡◌, refl, sym, ap, ◌∙◌, subst}
use mathlib.Core.Bool.{true}
use mathlib.Core.List.{List, [], ◌∷◌}
use Prim.Native.Nat.{ℕ, ◌<◌}
use Rattle.rules.specs.Names.{Day}
use Rattle.rules.specs.declared.Terms.{Terms}
use Rattle.rules.specs.Plan.{Plan, transition_count, replacement, mover}
use Rattle.rules.specs.Ledger.{Ledger}
use Rattle.rules.specs.Scope.{is_open}
use Rattle.rules.specs.Call.{Call, event, signal, fire, next, next_day}
use Rattle.rules.specs.FinishedRun as rule
use Rattle.rules.specs.Books as book
use Rattle.restoration.specs.LenientBooks.{freely_call}
use Rattle.theory.specs.Runs as theory
use Rattle.restoration.proofs.Document01.{document01, as_rules, as_theory, there_and_back}

-- changes done one after the other
pub same_act : {B : Type 0} (changed : ℕ → B → B) (w : List ℕ) (b : B) → book.act changed w b ≡ theory.act changed w b
unfolding book.act theory.act
same_act changed [] b = refl
same_act changed (x ∷ w) b = same_act changed w (changed x b)

module _ (p : Plan) (terms : Terms) where
  -- The theory's runs are the rules', and back.
  to_reached : {d : Day} {l : Ledger} → theory.Reached document01 p terms d l → rule.Reached p terms d l
  to_reached theory.start = rule.start
  to_reached (theory.then r c) = rule.then (to_reached r) (as_rules c)

  to_running : {s : ℕ} {d : Day} {l : Ledger} {w : List ℕ} → theory.Running document01 p terms s d l w → rule.Running p terms s d l w
  to_running (theory.by_begin o) = rule.by_begin o
  to_running (theory.by_call r c f o) = rule.by_call (to_reached r) (as_rules c) f o
  to_running (theory.over_event r a z o) = rule.over_event (to_running r) a z o
  to_running (theory.over_signal r a z f o) = rule.over_signal (to_running r) a z f o
  to_running (theory.over_fire r a z o) = rule.over_fire (to_running r) a z o

  pub to_finished : {s : ℕ} {a : document01.Event} {w : List ℕ} → theory.Finished document01 p terms s a w → rule.Finished p terms s w
  to_finished (theory.closed r a z c) = rule.closed (to_running r) a z c

  pub from_reached : {d : Day} {l : Ledger} → rule.Reached p terms d l → theory.Reached document01 p terms d l
  from_reached rule.start = theory.start
  from_reached (rule.then {d = d} {l = l} r c) =
      subst (λ e. theory.Reached document01 p terms (next_day terms p d l e) (next terms p d l e)) (there_and_back c)
      (theory.then (from_reached r) (as_theory c))

  pub from_running : {s : ℕ} {d : Day} {l : Ledger} {w : List ℕ} → rule.Running p terms s d l w → theory.Running document01 p terms s d l w
  from_running (rule.by_begin o) = theory.by_begin o
  from_running {s} (rule.by_call {d = d} {l = l} r c f o) =
      subst (λ e. is_open p (next terms p d l e) s ≡ true → theory.Running document01 p terms s (next_day terms p d l e) (next terms p d l e) []) (there_and_back c)
      (theory.by_call (from_reached r) (as_theory c) f) o
  from_running (rule.over_event r a z o) = theory.over_event (from_running r) a z o
  from_running (rule.over_signal r a z f o) = theory.over_signal (from_running r) a z f o
  from_running (rule.over_fire r a z o) = theory.over_fire (from_running r) a z o

  pub from_finished : {s : ℕ} {w : List ℕ} → rule.Finished p terms s w → (a : document01.Event) × theory.Finished document01 p terms s a w
  from_finished (rule.closed r a z c) = (a, theory.closed (from_running r) a z c)

  module _ (k : book.Books p terms) where
    pub same_changes : (x y : ℕ) → x < transition_count p → y < transition_count p → book.Apart p (mover p x) (mover p y) → (b : k.State)
        → k.changed x (k.changed y b) ≡ k.changed y (k.changed x b)
    unfolding book.does
    same_changes x y l m n b = k.commute (mover p x) (mover p y) n (book.change x l) (book.change y m) b

    -- books of the rules are books of the theory
    abbrev pub books01 : theory.Books document01 p terms
    books01 =
        record {
          State = k.State;
          changed = k.changed;
          retracted = k.retracted;
          nothing = λ a d b. k.nothing b;
          undo = λ a x l b. k.undo x l b;
          undo_run = λ s t h a w f b. ap (k.retracted (replacement p s)) (sym (same_act k.changed w b)) ∙ k.undo_run s t h w (to_finished f) b;
          commute = λ a c x y l m n b. same_changes x y l m n b;
        }

-- the reference run's books are kept as the theory says, with no condition on the changes of the rules
pub same_call : (p : Plan) (terms : Terms) (k : theory.Books document01 p terms) (bs : List ℕ) (l : Ledger) (c : Call) (b : k.State)
    → freely_call terms bs p k.changed k.retracted l c b ≡ theory.booked_call document01 p terms k l (as_theory c) b
unfolding freely_call theory.booked_call
same_call p terms k bs l (event a) b = same_act k.changed _ b
same_call p terms k bs l (signal a) b = refl
same_call p terms k bs l (fire a) b = refl
