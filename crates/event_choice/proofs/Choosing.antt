-- From the passes to the choice: the words name the event's moves, so what was judged of those moves is what the rules say. Assumes nothing.
use Rattle.std.proofs.Common.{◌≡◌, sym, ap, ◌∙◌, subst, inl, inr, Bool, false, not, ◌&&◌, List, ℕ, arith, eqb, leb, ltb, length, get_or, replicate, ltb-true, ltb-false}
use Rattle.std.proofs.Math.Path.{fun_ext}
use Rattle.std.proofs.Math.Option.{none, some}
use Rattle.rules.specs.declared.Counts.{Counts}
use Rattle.rules.specs.Fold.{some_below, count_below}
use Rattle.rules.specs.Plan.{Plan, plan_of, track_count, no_state, optional, transition, is_final}
use Rattle.rules.specs.Ledger.{Configuration, Ledger, is_forward, sleeping}
use Rattle.rules.specs.Event.{EventArguments, is_move, has_code, move, moves}
use Rattle.rules.proofs.Tests.{look, clash}
use Rattle.rules.proofs.Folds.{some_not, some_same, count_same}
use Rattle.rules.proofs.Acceptance.{Accepted, transition_for_lem}
use Rattle.rules.proofs.Moves.{move_idle}
use Rattle.rules.proofs.Soundness.{Live}
use Rattle.plan.specs.Passes.{slots}
use Rattle.plan.proofs.FieldLaws.{track_count_lem, transition_count_lem}
use Rattle.ledger.specs.Ladder.{Going, ledger_of}
use Rattle.lookup.specs.Figures.{Figures, Numbers}
use Rattle.lookup.proofs.Facts.{plan_facts, few_tracks, live_of_going, beyond}
use Rattle.lookup.proofs.FiguresLaws.{figure_each}
use Rattle.event_choice.specs.declared.Asked.{Asked}
use Rattle.event_choice.specs.declared.judging.Survey.{Survey}
use Rattle.event_choice.specs.declared.judging.Verdict.{Verdict}
use Rattle.rules.specs.declared.Terms.{Terms}
use Rattle.event_choice.specs.Next.{InRange, moves_of, is_last, closes_next}
use Rattle.event_choice.specs.Chosen.{told, Surveyed, Judged, Chosen}
use Rattle.event_choice.proofs.Visits.{word_some, moves_at}
use Rattle.event_choice.proofs.Moved.{mover_facts, closes_before, closings_before, full_before}
use Rattle.event_choice.proofs.Ending.{none_closes, no_closings, full_moves}

is_move_lem : (p : Plan) (w : ℕ) → not (eqb w no_state) ≡ is_move (optional w)
unfolding optional is_move
is_move_lem p w = elim (look (eqb w no_state)) [ inl q ↦ rw (q, is_move) | inr q ↦ rw (q, is_move) ]

module _ (terms : Terms) (bs : List ℕ) (c : Counts) (ws : List ℕ) (g : Going terms bs c ws) (asked : Asked) {ts : List ℕ}
    (took : Numbers ts c.tracks (move (plan_of bs c) (ledger_of terms c ws) (told asked))) where
  abbrev event : EventArguments
  event = told asked

  abbrev p : Plan
  p = plan_of bs c

  abbrev l : Ledger
  l = ledger_of terms c ws

  ok : Accepted p
  ok = plan_facts bs c g.checked.lent.accepts

  live : Live p l
  live = live_of_going terms bs c ws g

  pub in_range : InRange c ts
  in_range =
      record {
        low = λ t b n.
            let (d, s, e) = transition_for_lem p (l t).state event.event (get_or ts t 0) (mover_facts p ok l live event t (get_or ts t 0) (sym (took.at t b) ∙ word_some n)).taken in
            omega (arith, transition_count_lem bs c);
      }

  -- the moves that the words name are the event's: beyond the plan's tracks none moves
  pub moves_are : moves_of ts c.tracks ≡ move p l event
  moves_are =
      fun_ext
      (λ t.
      elim (look (ltb t c.tracks)) [
        | inl q ↦ let b = ltb-true t c.tracks q in moves_at ts c.tracks t b ∙ took.at t b
        | inr q ↦ let b = ltb-false t c.tracks q in (unfold moves_of in rw q (sym (idle t (beyond terms bs c ws t (omega (arith, track_count_lem bs c))))))
      ])
    where
      idle : (t : ℕ) → l t ≡ sleeping → move p l event t ≡ none
      idle t s = move_idle p l event t (unfold is_forward sleeping in rw s)

  taken_all : Numbers ts (track_count p) (move p l event)
  taken_all = subst (λ n. Numbers ts n (move p l event)) (sym (track_count_lem bs c)) took

  count_all_lem : {n : ℕ} → n ≡ count_below c.tracks (λ t. not (eqb (get_or ts t 0) no_state)) → n ≡ count_below (track_count p) (moves p l event)
  unfolding moves
  count_all_lem e =
      e ∙ ap (λ k. count_below k (λ t. not (eqb (get_or ts t 0) no_state))) (sym (track_count_lem bs c))
      ∙ count_same (track_count p) _ _ (λ t b. is_move_lem p (get_or ts t 0) ∙ ap (is_move) (taken_all.at t b))

  -- no move leads to a final state
  pub chosen_early : {v : Survey} → Surveyed terms p l ts c.tracks v → v.ends ≡ false
      → Chosen terms p l (record { asked = asked; taken = ts; closing = replicate slots false; moved = v.moved; closed = 0; full = v.full })
  unfolding is_last sleeping is_forward
  chosen_early {v} s z =
      record {
        taken = taken_all;
        closing = figure_each false _ false (track_count p) (few_tracks bs c g.checked.lent.accepts) (λ t b. sym (none_closes p ok l live event stays t));
        many_moved = count_all_lem s.many;
        many_closed = sym (no_closings p ok l live event stays);
        full =
            s.fills ∙ ap (λ k. some_below k (λ t. has_code p (optional (get_or ts t 0)) && leb terms.limit (length (l t).held))) (sym (track_count_lem bs c))
            ∙ some_same (track_count p) _ _ (λ t b. ap (λ o. has_code p o && leb terms.limit (length (l t).held)) (taken_all.at t b))
            ∙ sym (full_moves p ok l live event stays terms);
      }
    where
      stays : (t x : ℕ) → move p l event t ≡ some x → is_final p (transition p x).destination ≡ false
      stays t x q =
          elim (look (ltb t c.tracks)) [
            | inl h ↦
                let b = ltb-true t c.tracks h in
                ap (is_last p) (sym (took.at t b ∙ q)) ∙ some_not c.tracks (λ t. is_last p (optional (get_or ts t 0))) (sym s.ends ∙ z) t b
            | inr h ↦
                let b = ltb-false t c.tracks h in
                clash (mover_facts p ok l live event t x q).ahead
                (ap (λ (y : Configuration). is_forward y.mode) (beyond terms bs c ws t (omega (arith, track_count_lem bs c))))
          ]

  -- some move may
  module _ {n : ℕ} (count : n ≡ count_below c.tracks (λ t. not (eqb (get_or ts t 0) no_state))) where
    pub chosen_all : {ms : List Bool} {v : Verdict} → Figures false ms c.tracks (closes_next p l (moves_of ts c.tracks))
        → Judged terms p l (moves_of ts c.tracks) c.tracks v
        → Chosen terms p l (record { asked = asked; taken = ts; closing = ms; moved = n; closed = v.closed; full = v.full })
    chosen_all {ms} {v} f j =
        let q = sym (track_count_lem bs c) in
        let h = subst (λ n. Judged terms p l (move p l event) n v) q (subst (λ goes. Judged terms p l goes c.tracks v) moves_are j) in
        let k = subst (λ n. Figures false ms n (closes_next p l (move p l event))) q (subst (λ goes. Figures false ms c.tracks (closes_next p l goes)) moves_are f) in
        record {
          taken = taken_all;
          closing = record { size = k.size; at = λ t b. k.at t b ∙ sym (closes_before p ok l live event t b) };
          many_moved = count_all_lem count;
          many_closed = h.closings ∙ sym (closings_before p ok l live event);
          full = h.fills ∙ sym (full_before p ok l live event terms);
        }
