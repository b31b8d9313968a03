-- Refusals 8 to 16, 25 and 27, judged over the whole plan, and the reading of a plan. Assumes nothing.
use Rattle.std.specs.Prelude.{Bool, true, not, ◌&&◌, ◌||◌, [], ◌∷◌, ℕ, zero, suc, leb, ltb, eqb}
use Rattle.std.proofs.Math.Option.{none, some}
use Rattle.std.specs.Int.Signed.{lt_z}
use Rattle.rules.specs.Names.{Bytes, Refusal, TrackNumber, StateNumber, TransitionNumber, WindowNumber, GrantNumber}
use Rattle.rules.specs.declared.Counts.{Counts}
use Rattle.rules.specs.Fold.{some_below, first_refusal}
use Rattle.rules.specs.Day.{is_day}
use Rattle.rules.specs.Record.{refused, counted, scan}
use Rattle.rules.specs.Plan.{Plan, track_count, state_count, transition_count, window_count, grant_count, no_state, host_word, state, transition, window, grant, owner, replacement, is_root, is_state_of, is_final, is_hosting, first, mover, height, plan_of}

-- "at most 64 such records"
abbrev pub most_grants : ℕ
most_grants = 64

-- "a sum outside 1 to 7"
abbrev pub most_rights : ℕ
most_rights = 7

-- "A track's height exceeds 8."
abbrev pub most_height : ℕ
most_height = 8

module _ (p : Plan) where
  -- 8 "There is no track."
  unfoldable pub no_track : Bool
  no_track = eqb (track_count p) 0

  -- 9 "A state names no track, or its final field exceeds 1."
  unfoldable pub bad_state : StateNumber → Bool
  bad_state s = leb (track_count p) (owner p s) || ltb 1 (state p s).final

  -- 10 "A host is neither 65535 nor a state of a lower-numbered track."
  unfoldable pub bad_host : TrackNumber → Bool
  bad_host t = not (is_root p t || (ltb (host_word p t) (state_count p) && ltb (owner p (host_word p t)) t))

  -- 11 "A track has no state, or its first state is final."
  unfoldable pub bad_first : TrackNumber → Bool
  bad_first t = elim (first p t) [ none ↦ true | some s ↦ is_final p s ]

  -- 12 "A final state hosts a track, or a state that hosts none has a replacement."
  unfoldable pub bad_hosting : StateNumber → Bool
  bad_hosting s = (is_final p s && is_hosting p s) || (not (is_hosting p s) && not (eqb (replacement p s) 0))

  -- 13 "A transition's source or destination does not exist, they lie in two tracks, the source is final, or the event is 0."
  unfoldable pub bad_transition : TransitionNumber → Bool
  bad_transition x =
      leb (state_count p) (transition p x).source
      || leb (state_count p) (transition p x).destination
      || not (eqb (owner p (transition p x).source) (owner p (transition p x).destination))
      || is_final p (transition p x).source
      || eqb (transition p x).event 0

  -- 14 "A deviation other than 65535 is no state of that track, is final, stands in a hosted track, or comes with code 0."
  unfoldable pub bad_deviation : TransitionNumber → Bool
  bad_deviation x =
      not (eqb (transition p x).deviation no_state)
      && (not (is_state_of p (mover p x) (transition p x).deviation)
      || is_final p (transition p x).deviation
      || not (is_root p (mover p x))
      || eqb (transition p x).code 0)

  -- 15 "Two transitions share source and event.": an earlier one has them too
  unfoldable pub repeats_event : TransitionNumber → Bool
  repeats_event x =
      some_below x
      (λ y. eqb (transition p y).source (transition p x).source && eqb (transition p y).event (transition p x).event)

  -- 16 "A track's height exceeds 8."
  unfoldable pub too_high : TrackNumber → Bool
  too_high t = ltb most_height (height p t)

  -- 25 "a window names no transition, repeats one, ends before it begins or leaves the day range": an earlier window names it too
  unfoldable pub repeats_window : WindowNumber → Bool
  repeats_window w = some_below w (λ v. eqb (window p v).transition (window p w).transition)

  unfoldable pub bad_window : WindowNumber → Bool
  bad_window w =
      leb (transition_count p) (window p w).transition
      || repeats_window w
      || lt_z (window p w).last (window p w).first
      || not (is_day (window p w).first)
      || not (is_day (window p w).last)

  -- 27 "a rights record names no root, a sum outside 1 to 7, a repeated pair, or is the 65th": an earlier one has the pair too
  unfoldable pub names_no_root : GrantNumber → Bool
  names_no_root g = leb (track_count p) (grant p g).root || not (is_root p (grant p g).root)

  unfoldable pub repeats_pair : GrantNumber → Bool
  repeats_pair g =
      some_below g (λ f. eqb (grant p f).society (grant p g).society && eqb (grant p f).root (grant p g).root)

  unfoldable pub bad_grant : GrantNumber → Bool
  bad_grant g =
      names_no_root g
      || eqb (grant p g).rights 0
      || ltb most_rights (grant p g).rights
      || repeats_pair g
      || leb most_grants g

  -- the first number that applies anywhere in the plan, 25 coming "after 16", and 27 "after 25"
  unfoldable pub judge_plan : Refusal
  judge_plan =
      first_refusal
      ((8, no_track)
      ∷ (9, some_below (state_count p) bad_state)
      ∷ (10, some_below (track_count p) bad_host)
      ∷ (11, some_below (track_count p) bad_first)
      ∷ (12, some_below (state_count p) bad_hosting)
      ∷ (13, some_below (transition_count p) bad_transition)
      ∷ (14, some_below (transition_count p) bad_deviation)
      ∷ (15, some_below (transition_count p) repeats_event)
      ∷ (16, some_below (track_count p) too_high)
      ∷ (25, some_below (window_count p) bad_window)
      ∷ (27, some_below (grant_count p) bad_grant)
      ∷ [])

-- a refusal, or the plan's counts: its records stand at places that follow from them
pub data Reading : Type 0 where
  turned_back : Refusal → Reading
  accepted : Counts → Reading

unfoldable pub judged : Bytes → Counts → Reading
judged bs c = elim (judge_plan (plan_of bs c)) [ zero ↦ accepted c | suc r ↦ turned_back (suc r) ]

-- Refusals 2 to 16, 25 and 27.
unfoldable pub read_plan : Bytes → Reading
read_plan bs = elim (scan bs) [ refused r ↦ turned_back r | counted c ↦ judged bs c ]
