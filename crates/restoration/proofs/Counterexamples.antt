-- Which conditions are needed: that retractions commute is not. Without any other, or without it for code 0 alone or for the other codes alone,
-- there are a small plan, books that meet the others, and a list of calls after which the books are not given back, computed. Assumes nothing.
use mathlib.Core.Path.{◌≡◌, refl, sym, ap, ◌∙◌, subst}
use mathlib.Core.Logic.{◌⊎◌, inl, inr}
use mathlib.Core.Bool.{Bool, true, false, cond}
use mathlib.Core.List.{List, [], ◌∷◌}
use mathlib.Core.Option.{some}
use Prim.Native.Nat.{ℕ, zero, suc, ◌-◌, ◌<◌}
use native.Mathlib.Omega.{arith}
use lib.IntN.{pos}
use lib.ListN.{length}
use lib.Dec.{eqb}
use Rattle.rules.specs.declared.Counts.{Counts}
use Rattle.rules.specs.declared.Terms.{Terms}
use Rattle.rules.specs.Plan.{Plan, plan_of, transition, host, owner, replacement, mover, is_above}
use Rattle.rules.specs.Setting.{main_terms}
use Rattle.rules.specs.Call.{Call, event, signal, fire}
use Rattle.rules.specs.Books.{Apart, Deed, change, retraction, replacing, act}
use Rattle.rules.specs.ReferenceRun.{ledger_after, AllWithdrawn}
use Rattle.rules.proofs.Tests.{clash, none-some}
use Rattle.starred.specs.SamplePlan.{bytes_of, lent_for}
use Rattle.starred.specs.Computing.{computing}
use Rattle.restoration.specs.SamplePiles.{without}
use Rattle.restoration.specs.LenientBooks.{Lenient, freely_call, freely_booked, freely, Claim, none_of, only_real, only_zero, all_asked, without_nothing, undone_where, replaced_where, without_commuting, changes_alone}
use Rattle.restoration.proofs.Runs01.{same_act, to_finished}
use Rattle.restoration.proofs.Restoration.{freely_restored}

-- that retractions commute need not be asked: the claim holds without it, and so with it
pub retractions_free : (terms : Terms) → Claim terms changes_alone
retractions_free terms bs c read k lent cs h w b =
    freely_restored terms bs c read
    (record {
      State = k.State;
      changed = k.changed;
      retracted = k.retracted;
      nothing = λ a d b. k.nothing refl b;
      undo = λ a x l b. k.undo x l refl b;
      undo_run = λ s t e a w f b.
          ap (k.retracted (replacement (plan_of bs c) s)) (sym (same_act k.changed w b)) ∙ k.undo_run s t e refl w (to_finished (plan_of bs c) terms f) b;
      commute = λ a c x y l m n b. k.commute refl x y l m n b;
    })
    lent cs h b w

pub asked_of_all : (terms : Terms) → Claim terms all_asked
asked_of_all terms bs c read k =
    retractions_free terms bs c read
    (record {
      State = k.State;
      changed = k.changed;
      retracted = k.retracted;
      nothing = k.nothing;
      undo = k.undo;
      undo_run = k.undo_run;
      commute = k.commute;
      commute_all = λ h. clash h refl;
    })

-- one event, a signal and a firing, which is refused where nothing was installed
abbrev calls : List Call
calls = event (record { event = 1; day = pos 0; society = 1 }) ∷ signal (record { society = 1 }) ∷ fire (record { track = 0; society = 1 }) ∷ []

contrary : {A : Type 0} → false ≡ true → A
contrary h = clash h refl

-- A root with one state and a transition from it to itself, with a code: the event changes the books, and installs a code other than 0.
plan_c : ℕ → List ℕ
plan_c code = bytes_of (6 ∷ 1 ∷ 65535 ∷ 10 ∷ 2 ∷ 0 ∷ 0 ∷ 0 ∷ 14 ∷ 3 ∷ 0 ∷ 1 ∷ code ∷ 65535 ∷ 0 ∷ 10 ∷ 6 ∷ 1 ∷ 0 ∷ 7 ∷ 4 ∷ 4 ∷ [])

abbrev counts_c : Counts
counts_c = record { tracks = 1; states = 1; transitions = 1; windows = 0; grants = 1 }

abbrev C : ℕ → Plan
C code = plan_of (plan_c code) counts_c

module _ (code : ℕ) where
  hostless : {A : Type 0} (t s : ℕ) → host (C code) t ≡ some s → A
  unfolding computing plan_c
  hostless zero s e = none-some refl e
  hostless (suc t) s e = none-some refl e

  one_track : {t : ℕ} → Deed (C code) t → t ≡ 0
  unfolding computing plan_c
  one_track (change zero l) = refl
  one_track (change (suc x) l) = absurd (omega arith)
  one_track (retraction zero l) = refl
  one_track (retraction (suc x) l) = absurd (omega arith)
  one_track (replacing s t e) = hostless t s e

  apart-C : {A : Type 0} (t u : ℕ) → Apart (C code) t u → Deed (C code) t → Deed (C code) u → A
  apart-C t u a d e = absurd (a.two (one_track d ∙ sym (one_track e)))

  -- the changes are counted, and nothing is taken off
  counted : (f : ℕ → Bool) → f (transition (C code) 0).code ≡ false → Lenient (C code) main_terms (undone_where f)
  unfolding computing plan_c
  counted f z =
      record {
        State = ℕ;
        changed = λ x b. suc b;
        retracted = λ c b. b;
        nothing = λ h b. refl;
        undo = λ x l h b. codeless x l h;
        undo_run = λ s t e h w f b. hostless t s e;
        commute = λ h x y l m a b. apart-C (mover (C code) x) (mover (C code) y) a (change x l) (change y m);
        commute_all = λ h t u a d e b. apart-C t u a d e;
      }
    where
      codeless : {A : Type 0} (x : ℕ) → x < 1 → f (transition (C code) x).code ≡ true → A
      codeless zero l h = clash h z
      codeless (suc x) l h = absurd (omega arith)

-- the changes are counted, and code 0 takes one off
uncounted : Lenient (C 0) main_terms without_nothing
unfolding computing plan_c
uncounted =
    record {
      State = ℕ;
      changed = λ x b. suc b;
      retracted = λ c b. b - 1;
      nothing = λ h b. contrary h;
      undo = λ x l h b. omega arith;
      undo_run = λ s t e h w f b. hostless 0 t s e;
      commute = λ h x y l m a b. apart-C 0 (mover (C 0) x) (mover (C 0) y) a (change x l) (change y m);
      commute_all = λ h t u a d e b. apart-C 0 t u a d e;
    }

-- the list with code 0, with code 5, and its end
zero-C : AllWithdrawn (C 0) (ledger_after main_terms (plan_c 0) (C 0) (lent_for 1) calls)
unfolding computing plan_c
zero-C zero l r = record { undoing = refl; empty = refl; shut = refl }
zero-C (suc t) l r = absurd (omega arith)

real-C : AllWithdrawn (C 5) (ledger_after main_terms (plan_c 5) (C 5) (lent_for 1) calls)
unfolding computing plan_c
real-C zero l r = record { undoing = refl; empty = refl; shut = refl }
real-C (suc t) l r = absurd (omega arith)

-- "code 0 changing none"
pub nothing_needed : Claim main_terms without_nothing → ⊥
unfolding computing plan_c uncounted freely freely_booked freely_call act
nothing_needed claim = let z : ◌≡◌ {A = ℕ} 1 0 = claim (plan_c 0) counts_c refl uncounted (lent_for 1) calls refl zero-C 0 in omega arith

-- "each transition's code undo its change": asked of all codes but 0, of code 0 alone, of none
pub code_zero_needed : Claim main_terms (undone_where only_real) → ⊥
unfolding computing plan_c counted freely freely_booked freely_call act
code_zero_needed claim =
    let z : ◌≡◌ {A = ℕ} 1 0 = claim (plan_c 0) counts_c refl (counted 0 only_real refl) (lent_for 1) calls refl zero-C 0 in omega arith

-- where it is not asked of a code other than 0: here of 5, which was fired
undo_asked : (f : ℕ → Bool) → f 5 ≡ false → Claim main_terms (undone_where f) → ⊥
unfolding computing plan_c counted freely freely_booked freely_call act
undo_asked f e claim = let z : ◌≡◌ {A = ℕ} 1 0 = claim (plan_c 5) counts_c refl (counted 5 f e) (lent_for 1) calls refl real-C 0 in omega arith

pub real_code_needed : Claim main_terms (undone_where only_zero) → ⊥
real_code_needed = undo_asked only_zero refl

pub undo_needed : Claim main_terms (undone_where none_of) → ⊥
undo_needed = undo_asked none_of refl

-- A root whose only state hosts a track, with a replacement: the event closes the scope, and the hosted entry is dropped for the replacement.
plan_r : ℕ → List ℕ
plan_r code =
    bytes_of
    (6 ∷ 1 ∷ 65535 ∷ 6 ∷ 1 ∷ 0
    ∷ 10 ∷ 2 ∷ 0 ∷ 0 ∷ code ∷ 10 ∷ 2 ∷ 1 ∷ 0 ∷ 0 ∷ 10 ∷ 2 ∷ 1 ∷ 1 ∷ 0
    ∷ 14 ∷ 3 ∷ 1 ∷ 1 ∷ 5 ∷ 65535 ∷ 2
    ∷ 10 ∷ 6 ∷ 1 ∷ 0 ∷ 7
    ∷ 4 ∷ 4 ∷ [])

abbrev counts_r : Counts
counts_r = record { tracks = 2; states = 3; transitions = 1; windows = 0; grants = 1 }

abbrev R : ℕ → Plan
R code = plan_of (plan_r code) counts_r

module _ (code : ℕ) where
  one_host : (t s : ℕ) → host (R code) t ≡ some s → s ≡ 0
  unfolding computing plan_r
  one_host zero s e = none-some refl e
  one_host (suc zero) s e = sym (cc)
  one_host (suc (suc t)) s e = none-some refl e

  two_tracks : {t : ℕ} → Deed (R code) t → (t ≡ 0) ⊎ (t ≡ 1)
  unfolding computing plan_r
  two_tracks (change zero l) = inr refl
  two_tracks (change (suc x) l) = absurd (omega arith)
  two_tracks (retraction zero l) = inr refl
  two_tracks (retraction (suc x) l) = absurd (omega arith)
  two_tracks (replacing s t e) = inl (ap (owner (R code)) (one_host t s e))

  -- the changes are counted, code 5 takes one off, and the replacement nothing
  dropped : (f : ℕ → Bool) → f (replacement (R code) 0) ≡ false → Lenient (R code) main_terms (replaced_where f)
  unfolding computing plan_r
  dropped f z =
      record {
        State = ℕ;
        changed = λ x b. suc b;
        retracted = λ c b. cond (eqb c 5) (b - 1) b;
        nothing = λ h b. refl;
        undo = undone;
        undo_run = λ s t e h w g b. clash (subst (λ x. f (replacement (R code) x) ≡ true) (one_host t s e) h) z;
        commute = λ h x y l m a b. absurd (related (mover (R code) x) (mover (R code) y) a (two_tracks (change x l)) (two_tracks (change y m)));
        commute_all = λ h t u a d e b. absurd (related t u a (two_tracks d) (two_tracks e));
      }
    where
      undone : (x : ℕ) → x < 1 → true ≡ true → (b : ℕ) → cond (eqb (transition (R code) x).code 5) (suc b - 1) (suc b) ≡ b
      undone zero l h b = omega arith
      undone (suc x) l h b = absurd (omega arith)

      related : (t u : ℕ) → Apart (R code) t u → (t ≡ 0) ⊎ (t ≡ 1) → (u ≡ 0) ⊎ (u ≡ 1) → ⊥
      related t u a (inl x) (inl y) = a.two (x ∙ sym y)
      related t u a (inr x) (inr y) = a.two (x ∙ sym y)
      related t u a (inl x) (inr y) =
          clash refl (subst (λ v. is_above (R code) 0 v ≡ false) y (subst (λ v. is_above (R code) v u ≡ false) x a.not_above))
      related t u a (inr x) (inl y) =
          clash refl (subst (λ v. is_above (R code) 0 v ≡ false) x (subst (λ v. is_above (R code) v t ≡ false) y a.not_below))

-- "each hosting state's replacement undo every finished run": asked of all replacements but 0, of 0 alone, of none
pub replacement_zero_needed : Claim main_terms (replaced_where only_real) → ⊥
unfolding computing plan_r dropped freely freely_booked freely_call act
replacement_zero_needed claim =
    let z : ◌≡◌ {A = ℕ} 1 0 = claim (plan_r 0) counts_r refl (dropped 0 only_real refl) (lent_for 2) calls refl withdrawn 0 in omega arith
  where
    withdrawn : AllWithdrawn (R 0) (ledger_after main_terms (plan_r 0) (R 0) (lent_for 2) calls)
    withdrawn zero l r = record { undoing = refl; empty = refl; shut = refl }
    withdrawn (suc zero) l r = clash r refl
    withdrawn (suc (suc t)) l r = absurd (omega arith)

-- where it is not asked of a replacement other than 0: here of 9, which was fired
undo_run_asked : (f : ℕ → Bool) → f 9 ≡ false → Claim main_terms (replaced_where f) → ⊥
unfolding computing plan_r dropped freely freely_booked freely_call act
undo_run_asked f e claim =
    let z : ◌≡◌ {A = ℕ} 1 0 = claim (plan_r 9) counts_r refl (dropped 9 f e) (lent_for 2) calls refl withdrawn 0 in omega arith
  where
    withdrawn : AllWithdrawn (R 9) (ledger_after main_terms (plan_r 9) (R 9) (lent_for 2) calls)
    withdrawn zero l r = record { undoing = refl; empty = refl; shut = refl }
    withdrawn (suc zero) l r = clash r refl
    withdrawn (suc (suc t)) l r = absurd (omega arith)

pub real_replacement_needed : Claim main_terms (replaced_where only_zero) → ⊥
real_replacement_needed = undo_run_asked only_zero refl

pub undo_run_needed : Claim main_terms (replaced_where none_of) → ⊥
undo_run_needed = undo_run_asked none_of refl

-- Two roots, each with one state and a transition from it to itself: both move on one event, and then the first is fired first.
plan_w : List ℕ
plan_w =
    bytes_of
    (6 ∷ 1 ∷ 65535 ∷ 6 ∷ 1 ∷ 65535
    ∷ 10 ∷ 2 ∷ 0 ∷ 0 ∷ 0 ∷ 10 ∷ 2 ∷ 1 ∷ 0 ∷ 0
    ∷ 14 ∷ 3 ∷ 0 ∷ 1 ∷ 5 ∷ 65535 ∷ 0 ∷ 14 ∷ 3 ∷ 1 ∷ 1 ∷ 6 ∷ 65535 ∷ 1
    ∷ 10 ∷ 6 ∷ 1 ∷ 0 ∷ 7
    ∷ 10 ∷ 6 ∷ 1 ∷ 1 ∷ 7
    ∷ 4 ∷ 4 ∷ [])

abbrev counts_w : Counts
counts_w = record { tracks = 2; states = 2; transitions = 2; windows = 0; grants = 2 }

abbrev W : Plan
W = plan_of plan_w counts_w

unhosted : {A : Type 0} (t s : ℕ) → host W t ≡ some s → A
unfolding computing plan_w
unhosted zero s e = none-some refl e
unhosted (suc zero) s e = none-some refl e
unhosted (suc (suc t)) s e = none-some refl e

-- one pile for both tracks: a change puts its transition on top, and its code, 5 more, takes it off where it lies on top
piled : Lenient W main_terms without_commuting
unfolding computing plan_w without
piled =
    record {
      State = List ℕ;
      changed = λ x b. x ∷ b;
      retracted = λ c b. cond (eqb c 0) b (without (c - 5) b);
      nothing = λ h b. refl;
      undo = undone;
      undo_run = λ s t e h w f b. unhosted t s e;
      commute = λ h x y l m a b. contrary h;
      commute_all = λ h t u a d e b. contrary h;
    }
  where
    undone : (x : ℕ) → x < 2 → true ≡ true → (b : List ℕ)
        → cond (eqb (transition W x).code 0) (x ∷ b) (without ((transition W x).code - 5) (x ∷ b)) ≡ b
    undone zero l h b = refl
    undone (suc zero) l h b = refl
    undone (suc (suc x)) l h b = absurd (omega arith)

-- "changes and retractions of two tracks commute where neither hosts the other"
pub commute_needed : Claim main_terms without_commuting → ⊥
unfolding computing plan_w piled without freely freely_booked freely_call act
commute_needed claim =
    let z : ◌≡◌ {A = List ℕ} (0 ∷ []) [] = claim plan_w counts_w refl piled (lent_for 2) made refl withdrawn [] in
    let y : ◌≡◌ {A = ℕ} 1 0 = ap length z in omega arith
  where
    made : List Call
    made = event (record { event = 1; day = pos 0; society = 1 }) ∷ signal (record { society = 1 }) ∷ fire (record { track = 0; society = 1 }) ∷ fire (record { track = 1; society = 1 }) ∷ []

    withdrawn : AllWithdrawn W (ledger_after main_terms plan_w W (lent_for 2) made)
    withdrawn zero l r = record { undoing = refl; empty = refl; shut = refl }
    withdrawn (suc zero) l r = record { undoing = refl; empty = refl; shut = refl }
    withdrawn (suc (suc t)) l r = absurd (omega arith)
