-- What is told of one track and of one place, from the call's own promise about all of them. Assumes nothing.
use Rattle.std.proofs.Common.{◌≡◌, refl, sym, ap, ◌∙◌, false, List, [], ℕ, ◌+◌, ◌*◌, ◌<◌, ◌≤◌, arith, ltb, length, get_or, le-ltb}
use Rattle.rules.specs.declared.Counts.{Counts}
use Rattle.rules.specs.Plan.{plan_of, track_count}
use Rattle.rules.specs.Acceptance.{Reading, turned_back, accepted}
use Rattle.rules.specs.Call.{Answer, refusal, done}
use Rattle.rules.specs.Largest.{no_transition, read_bounded, largest, largest_answer, largest_of, Shows}
use Rattle.rules.proofs.Folds.{get_d_tabulate}
use Rattle.rules.proofs.Figures.{bounded_read}
use Rattle.plan.proofs.FieldLaws.{track_count_lem}
use Rattle.plan_reader.proofs.Reader.{accepted_holds}
use Rattle.largest.specs.Chosen.{shown_path}
use Rattle.largest.specs.Laid.{Laid}
use Rattle.export.specs.Packed.{bit16, bit32, packed}
use Rattle.export.specs.Shown.{track_shown, step_shown}

module _ (bs : List ℕ) (told : Answer) (figures lengths steps : List ℕ) (w : Shows bs (shown_path bs) told figures lengths steps) where
  -- a refusal stands alone
  module _ (n : ℕ) (e : told ≡ refusal n) where
    read_refused : read_bounded bs ≡ turned_back n
    unfolding largest_answer
    read_refused = go (read_bounded bs) refl
      where
        go : (r : Reading) → read_bounded bs ≡ r → read_bounded bs ≡ turned_back n
        go (turned_back m) q =
            let z : refusal n ≡ refusal m = sym e ∙ w.answered ∙ rw (q, largest_answer) in
            let k : n ≡ m = cc in
            q ∙ ap turned_back (sym k)
        go (accepted c) q =
            let z : refusal n ≡ done [] = sym e ∙ w.answered ∙ rw (q, largest_answer) in
            let y : ◌≡◌ {A = ℕ} 0 1 = cc in absurd (omega arith)

    pub track_refused : (t : ℕ) → n ≡ packed (track_shown bs t)
    unfolding track_shown packed
    track_refused t = rw (read_refused, track_shown)

    pub step_refused : (t place : ℕ) → n ≡ packed (step_shown bs t place)
    unfolding step_shown packed
    step_refused t place = rw (read_refused, step_shown)

  pub laid : Laid lengths steps (shown_path bs)
  laid = record { lengths_are = w.lengths_are; steps_are = w.steps_are; fits = w.fits }

  module _ (e : told ≡ done []) where
    -- the plan that was read
    record Read : Type 0 where
      counts : Counts
      is : read_bounded bs ≡ accepted counts

    read : Read
    unfolding largest_answer
    read = go (read_bounded bs) refl
      where
        go : (r : Reading) → read_bounded bs ≡ r → Read
        go (turned_back m) q =
            let z : refusal m ≡ done [] = sym (sym e ∙ w.answered ∙ rw (q, largest_answer)) in
            let y : ◌≡◌ {A = ℕ} 0 1 = cc in absurd (omega arith)
        go (accepted c) q = record { counts = c; is = q }

    -- a track that does not exist
    few : (t : ℕ) → 32 ≤ t → ltb t (track_count (plan_of bs read.counts)) ≡ false
    few t l =
        let h = (accepted_holds bs read.counts (bounded_read bs read.counts read.is).0).tracks in
        le-ltb t (track_count (plan_of bs read.counts)) (omega (arith, track_count_lem bs read.counts))

    no_figure : (t : ℕ) → 32 ≤ t → largest_of bs t ≡ 0
    unfolding largest_of largest
    no_figure t l = rw (read.is, largest_of, few t l)

    no_path : (t : ℕ) → 32 ≤ t → shown_path bs t ≡ []
    unfolding shown_path
    no_path t l = rw (read.is, shown_path, few t l)

    track_is : (t : ℕ) → packed (track_shown bs t) ≡ largest_of bs t * bit16 + length (shown_path bs t) * bit32
    unfolding track_shown packed
    track_is t = rw (read.is, track_shown)

    step_is : (t place : ℕ) → packed (step_shown bs t place) ≡ get_or (shown_path bs t) place no_transition * bit16
    unfolding step_shown packed
    step_is t place = rw (read.is, step_shown)

    pub track_told : (t u a b r : ℕ) → u ≡ t → t < 32 → a ≡ get_or figures u 0 → b ≡ get_or lengths u 0 → r ≡ a * bit16 + b * bit32
        → r ≡ packed (track_shown bs t)
    track_told t u a b r i l x y z =
        let f : get_or figures t 0 ≡ largest_of bs t = rw w.figures_are (get_d_tabulate 32 t (largest_of bs) 0 l) in
        let g : get_or lengths t 0 ≡ length (shown_path bs t) = rw w.lengths_are (get_d_tabulate 32 t (λ v. length (shown_path bs v)) 0 l) in
        z ∙ rw (x, y, i, f, g) (sym (track_is t))

    pub track_missing : (t : ℕ) → 32 ≤ t → 0 ≡ packed (track_shown bs t)
    track_missing t l = sym (track_is t ∙ rw (no_figure t l, no_path t l) (omega arith))

    pub step_told : (t u place x r : ℕ) → u ≡ t → x ≡ get_or (shown_path bs u) place no_transition → r ≡ x * bit16 → r ≡ packed (step_shown bs t place)
    step_told t u place x r i y z = z ∙ rw (y, i) (sym (step_is t place))

    pub step_missing : (t place r : ℕ) → 32 ≤ t → r ≡ no_transition * bit16 → r ≡ packed (step_shown bs t place)
    step_missing t place r l z = z ∙ sym (step_is t place ∙ rw (no_path t l))
