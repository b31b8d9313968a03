-- The claim about the books at the free books alone gives it at all books: there is a map from the free books to any others that keeps changes
-- and retractions. So `SmallProperty3` and `Property3` say the same. Assumes nothing.
use Rattle.std.proofs.Common.{◌≡◌, refl, sym, ap, ◌∙◌, true, List, [], ◌∷◌, ℕ}
use Rattle.rules.specs.Plan.{Plan, track_count, transition, replacement}
use Rattle.rules.specs.Ledger.{Ledger, ledger_at}
use Rattle.rules.specs.Call.{Answer, refusal, done, Call, event, signal, fire, begin_outcome, call_outcome}
use Rattle.rules.specs.FinishedRun.{moves_of}
use Rattle.rules.specs.Books.{does, act, Books}
use Rattle.rules.specs.ReferenceRun.{booked_call, booked, books_from, books_after, ledger_after, AllWithdrawn}
use Rattle.rules.specs.History.{Property3}
use Rattle.property3.specs.FreeBooks.{FreeState, free_books}
use Rattle.property3.specs.FreeRun.{free_call, free_booked, free_from, free_after}
use Rattle.property3.specs.SmallProperty3.{FreeRestored, SmallProperty3}
use Rattle.rules.specs.declared.Terms.{Terms}

module _ (p : Plan) (terms : Terms) where
  abbrev Free : Type 0
  Free = FreeState p terms

  -- the books k, from their state b₀ at the begin
  module _ (k : Books p terms) (b₀ : k.State) where
    into : Free → k.State
    unfolding act does
    into FreeState.at_begin = b₀
    into (FreeState.changed x b) = k.changed x (into b)
    into (FreeState.retracted c b) = k.retracted c (into b)
    into (FreeState.acted w b) = act k.changed w (into b)
    into (FreeState.acted_none b i) = into b
    into (FreeState.acted_more x w b i) = act k.changed w (k.changed x (into b))
    into (FreeState.done d b) = does p k.changed k.retracted d (into b)
    into (FreeState.done_change x l b i) = k.changed x (into b)
    into (FreeState.done_retraction x l b i) = k.retracted (transition p x).code (into b)
    into (FreeState.done_replacing s t e b i) = k.retracted (replacement p s) (into b)
    into (FreeState.nothing b i) = k.nothing (into b) i
    into (FreeState.undo x l b i) = k.undo x l (into b) i
    into (FreeState.undo_run s t e w f b i) = k.undo_run s t e w f (into b) i
    into (FreeState.commute t u a d e b i) = k.commute t u a d e (into b) i

    into_act : (w : List ℕ) (b : Free) → into (act (free_books p terms).changed w b) ≡ act k.changed w (into b)
    unfolding into act
    into_act [] b = refl
    into_act (x ∷ w) b = into_act w (FreeState.changed x b)

    -- the clerk's books along a list of calls
    module _ (bs : List ℕ) where
      into_call : (l : Ledger) (c : Call) (b : Free) → into (booked_call terms bs p (free_books p terms) l c b) ≡ booked_call terms bs p k l c (into b)
      unfolding booked_call into
      into_call l (event a) b = into_act (moves_of p (λ t. true) l a) b
      into_call l (signal a) b = refl
      into_call l (fire a) b = refl

      into_booked : (l : Ledger) (c : Call) (r : Answer) (b : Free)
          → into (booked terms bs p (free_books p terms) l c r b) ≡ booked terms bs p k l c r (into b)
      unfolding booked
      into_booked l c (refusal n) b = refl
      into_booked l c (done figures) b = into_call l c b

      into_books : (cs : List Call) (ws : List ℕ) (b : Free)
          → into (books_from terms bs p (free_books p terms) ws cs b) ≡ books_from terms bs p k ws cs (into b)
      unfolding books_from
      into_books [] ws b = refl
      into_books (c ∷ cs) ws b =
          let l = ledger_at terms ws (track_count p) in
          let o = call_outcome terms bs ws c in
          into_books cs o.words (booked terms bs p (free_books p terms) l c o.answer b)
          ∙ ap (books_from terms bs p k o.words cs) (into_booked l c o.answer b)

  -- the run that a contract speaks of is the rules' run of the free books
  module _ (bs : List ℕ) where
    free_call_is : (l : Ledger) (c : Call) (b : Free) → free_call terms bs p l c b ≡ booked_call terms bs p (free_books p terms) l c b
    unfolding free_call booked_call
    free_call_is l (event a) b = refl
    free_call_is l (signal a) b = refl
    free_call_is l (fire a) b = refl

    free_booked_is : (l : Ledger) (c : Call) (r : Answer) (b : Free)
        → free_booked terms bs p l c r b ≡ booked terms bs p (free_books p terms) l c r b
    unfolding free_booked booked
    free_booked_is l c (refusal n) b = refl
    free_booked_is l c (done figures) b = free_call_is l c b

    free_from_is : (cs : List Call) (ws : List ℕ) (b : Free)
        → free_from terms bs p ws cs b ≡ books_from terms bs p (free_books p terms) ws cs b
    unfolding free_from books_from
    free_from_is [] ws b = refl
    free_from_is (c ∷ cs) ws b =
        let l = ledger_at terms ws (track_count p) in
        let o = call_outcome terms bs ws c in
        free_from_is cs o.words (free_booked terms bs p l c o.answer b)
        ∙ ap (books_from terms bs p (free_books p terms) o.words cs) (free_booked_is l c o.answer b)

    pub free_after_is : (lent : List ℕ) (cs : List Call) (b : Free)
        → free_after terms bs p lent cs b ≡ books_after terms bs p (free_books p terms) lent cs b
    unfolding free_after books_after
    free_after_is lent cs b = free_from_is cs (begin_outcome terms bs lent).words b

  from_free : (bs lent : List ℕ) (cs : List Call) → FreeRestored terms bs p lent cs
      → (k : Books p terms) (b : k.State) → AllWithdrawn p (ledger_after terms bs p lent cs) → books_after terms bs p k lent cs b ≡ b
  unfolding books_after into
  from_free bs lent cs h k b w =
      sym (into_books k b bs cs (begin_outcome terms bs lent).words FreeState.at_begin)
      ∙ ap (into k b) (sym (free_after_is bs lent cs FreeState.at_begin) ∙ h w)

module _ (terms : Terms) (bs : List ℕ) (p : Plan) (lent : List ℕ) (cs : List Call) (rs : List Answer) (end : List ℕ) where
  -- the claim at all books, from the form that a contract carries
  pub from_small : SmallProperty3 terms bs p lent cs rs end → Property3 terms bs p lent cs rs end
  from_small s =
      record {
        word_for_word = s.word_for_word;
        answered = s.answered;
        restored = λ k b w. from_free p terms bs lent cs s.restored k b w;
        progress = s.progress;
      }

  -- and back
  pub to_small : Property3 terms bs p lent cs rs end → SmallProperty3 terms bs p lent cs rs end
  to_small s =
      record {
        word_for_word = s.word_for_word;
        answered = s.answered;
        restored = λ w. free_after_is p terms bs lent cs FreeState.at_begin ∙ s.restored (free_books p terms) FreeState.at_begin w;
        progress = s.progress;
      }
