-- The sample plan P, track by track: in every finished run of state 1 the left track moves by 2 alone, the right one by 3 and then by 4, and no
-- other moves. So books that keep something for each track, on which that track's changes and retractions alone work, and beside them
-- replacement 90, meet the conditions if each track's meet theirs. Only tracks 1 and 2 are apart. Assumes nothing.
use mathlib.Core.Path.{◌≡◌, refl, sym, ap, ◌∙◌, subst, fun_ext}
use mathlib.Core.Logic.{inl, inr}
use mathlib.Core.Bool.{true, cond}
use mathlib.Core.List.{List, [], ◌∷◌, ◌++◌}
use mathlib.Core.Option.{some}
use Prim.Native.Nat.{ℕ, zero, suc, ◌<◌}
use native.Mathlib.Omega.{arith}
use lib.Dec.{eqb}
use borrow.Author.Tests.{eqb-true, eqb-false, ne_eqb}
use Rattle.rules.specs.Plan.{state_count, transition_count, transition, host, owner, replacement, mover, is_state_of, is_final, is_inside}
use Rattle.rules.specs.Acceptance.{accepted, read_plan}
use Rattle.rules.specs.FinishedRun.{Finished}
use Rattle.rules.specs.Books.{Apart, Deed, change, retraction, replacing, does, act, Books}
use Rattle.rules.proofs.Tests.{look, clash, none-some}
use Rattle.rules.proofs.Acceptance.{Accepted, accepts}
use Rattle.starred.specs.SamplePlan.{plan_p}
use Rattle.starred.specs.Computing.{computing}
use Rattle.restoration.specs.SampleAccount.{counts_p, P}
use Rattle.theory.proofs.Composition.{Word}
use Rattle.theory.proofs.Nesting.{state_of}
use Rattle.restoration.proofs.Theorems01.{finished_effect, finished_still}
use Rattle.rules.specs.declared.Terms.{Terms}

pub accepts-P : read_plan plan_p ≡ accepted counts_p
unfolding computing
accepts-P = refl

pub ok-P : Accepted P
ok-P = accepts plan_p counts_p accepts-P

pub five : (C : ℕ → Type 0) → C 0 → C 1 → C 2 → C 3 → C 4 → (x : ℕ) → x < transition_count P → C x
unfolding computing
five C a b c d e zero l = a
five C a b c d e (suc zero) l = b
five C a b c d e (suc (suc zero)) l = c
five C a b c d e (suc (suc (suc zero))) l = d
five C a b c d e (suc (suc (suc (suc zero)))) l = e
five C a b c d e (suc (suc (suc (suc (suc x))))) l = absurd (omega arith)

eight : (C : ℕ → Type 0) → C 0 → C 1 → C 2 → C 3 → C 4 → C 5 → C 6 → C 7 → (q : ℕ) → q < state_count P → C q
unfolding computing
eight C a b c d e f g h zero l = a
eight C a b c d e f g h (suc zero) l = b
eight C a b c d e f g h (suc (suc zero)) l = c
eight C a b c d e f g h (suc (suc (suc zero))) l = d
eight C a b c d e f g h (suc (suc (suc (suc zero)))) l = e
eight C a b c d e f g h (suc (suc (suc (suc (suc zero))))) l = f
eight C a b c d e f g h (suc (suc (suc (suc (suc (suc zero)))))) l = g
eight C a b c d e f g h (suc (suc (suc (suc (suc (suc (suc zero))))))) l = h
eight C a b c d e f g h (suc (suc (suc (suc (suc (suc (suc (suc q)))))))) l = absurd (omega arith)

-- the hosted tracks end in states 4 and 7
left_end : (q : ℕ) → is_state_of P 1 q ≡ true → is_final P q ≡ true → q ≡ 4
unfolding computing
left_end q o f =
    eight (λ q. is_state_of P 1 q ≡ true → is_final P q ≡ true → q ≡ 4)
    (λ o f. clash o refl) (λ o f. clash o refl) (λ o f. clash o refl) (λ o f. clash f refl) (λ o f. refl)
    (λ o f. clash o refl) (λ o f. clash o refl) (λ o f. clash o refl) q (state_of P 1 q o).0 o f

right_end : (q : ℕ) → is_state_of P 2 q ≡ true → is_final P q ≡ true → q ≡ 7
unfolding computing
right_end q o f =
    eight (λ q. is_state_of P 2 q ≡ true → is_final P q ≡ true → q ≡ 7)
    (λ o f. clash o refl) (λ o f. clash o refl) (λ o f. clash o refl) (λ o f. clash o refl) (λ o f. clash o refl)
    (λ o f. clash f refl) (λ o f. clash f refl) (λ o f. refl) q (state_of P 2 q o).0 o f

-- state 1 alone hosts
hosts-P : (t s : ℕ) → host P t ≡ some s → s ≡ 1
unfolding computing
hosts-P zero s e = none-some refl e
hosts-P (suc zero) s e = sym (cc)
hosts-P (suc (suc zero)) s e = sym (cc)
hosts-P (suc (suc (suc t))) s e = none-some refl e

-- What a finished run of state 1 does where only one track's changes do anything.
module _ {B : Type 0} (v : ℕ → B → B) where
  abbrev Only : ℕ → Type 0
  Only t = (x : ℕ) → x < transition_count P → (mover P x ≡ t → ⊥) → (b : B) → v x b ≡ b

  module _ (terms : Terms) (w : Word) (f : Finished P terms 1 w) where
    pub left_run : Only 1 → (b : B) → act v w b ≡ v 2 b
    unfolding computing
    left_run h b =
        let φ : ℕ → B → B = λ q b. cond (eqb q 4) (v 2 b) b in
        let (q, o, z, g) =
        finished_effect terms P ok-P 1 1 refl v φ
        (record {
          start = λ b. refl;
          along =
              λ a.
              five (λ x. mover P x ≡ 1 → (b : B) → v x (φ (transition P x).source b) ≡ φ (transition P x).destination b)
              (λ e b. absurd (omega arith)) (λ e b. absurd (omega arith)) (λ e b. refl) (λ e b. absurd (omega arith)) (λ e b. absurd (omega arith));
          others = λ a. h;
        })
        f in
        subst (λ q. act v w b ≡ φ q b) (left_end q o z) (g b)

    pub right_run : Only 2 → (b : B) → act v w b ≡ v 4 (v 3 b)
    unfolding computing
    right_run h b =
        let φ : ℕ → B → B = λ q b. cond (eqb q 7) (v 4 (v 3 b)) (cond (eqb q 6) (v 3 b) b) in
        let (q, o, z, g) =
        finished_effect terms P ok-P 1 2 refl v φ
        (record {
          start = λ b. refl;
          along =
              λ a.
              five (λ x. mover P x ≡ 2 → (b : B) → v x (φ (transition P x).source b) ≡ φ (transition P x).destination b)
              (λ e b. absurd (omega arith)) (λ e b. absurd (omega arith)) (λ e b. absurd (omega arith)) (λ e b. refl) (λ e b. refl);
          others = λ a. h;
        })
        f in
        subst (λ q. act v w b ≡ φ q b) (right_end q o z) (g b)

    pub other_run : (t : ℕ) → (t ≡ 1 → ⊥) → (t ≡ 2 → ⊥) → Only t → (b : B) → act v w b ≡ b
    unfolding computing
    other_run t n m h =
        finished_still terms P ok-P 1 v
        (λ a x l i.
        h x l
        (λ e.
        five (λ x. is_inside P 1 (mover P x) ≡ true → mover P x ≡ t → ⊥)
        (λ i e. clash i refl) (λ i e. clash i refl) (λ i e. n (sym e)) (λ i e. m (sym e)) (λ i e. m (sym e)) x l i e))
        f

-- the moves of one track in a run, oldest first
abbrev pub moves_in : ℕ → Word → Word
moves_in t w = act (λ x v. cond (eqb (mover P x) t) (v ++ x ∷ []) v) w []

-- every finished run of state 1 has each of the three hosted moves once, 3 before 4, and no other move
pub record Interleaved (w : Word) : Type 0 where
  pub left : moves_in 1 w ≡ 2 ∷ []
  pub right : moves_in 2 w ≡ 3 ∷ 4 ∷ []
  pub no_other : (t : ℕ) → (t ≡ 1 → ⊥) → (t ≡ 2 → ⊥) → moves_in t w ≡ []

pub interleaved : (terms : Terms) (w : Word) → Finished P terms 1 w → Interleaved w
unfolding computing
interleaved terms w f =
    record {
      left = left_run (own 1) terms w f (only 1) [];
      right = right_run (own 2) terms w f (only 2) [];
      no_other = λ t n m. other_run (own t) terms w f t n m (only t) [];
    }
  where
    own : ℕ → ℕ → Word → Word
    own t x v = cond (eqb (mover P x) t) (v ++ x ∷ []) v

    only : (t x : ℕ) → x < transition_count P → (mover P x ≡ t → ⊥) → (v : Word) → cond (eqb (mover P x) t) (v ++ x ∷ []) v ≡ v
    only t x l n v = rw (ne_eqb (mover P x) t n)

-- which tracks do anything
pub data Track : ℕ → Type 0 where
  the_root : Track 0
  the_left : Track 1
  the_right : Track 2

pub deed_track : {t : ℕ} → Deed P t → Track t
unfolding computing
deed_track (change x l) = five (λ x. Track (mover P x)) the_root the_root the_left the_right the_right x l
deed_track (retraction x l) = five (λ x. Track (mover P x)) the_root the_root the_left the_right the_right x l
deed_track (replacing s t e) = subst (λ s. Track (owner P s)) (sym (hosts-P t s e)) the_root

pub apart_hosted : (t u : ℕ) → Track t → Track u → Apart P t u → (t ≡ 0 → ⊥) × (u ≡ 0 → ⊥)
unfolding computing
apart_hosted _ _ the_root the_root a = absurd (a.two refl)
apart_hosted _ _ the_root the_left a = clash refl a.not_above
apart_hosted _ _ the_root the_right a = clash refl a.not_above
apart_hosted _ _ the_left the_root a = clash refl a.not_below
apart_hosted _ _ the_right the_root a = clash refl a.not_below
apart_hosted _ _ the_left the_left a = absurd (a.two refl)
apart_hosted _ _ the_left the_right a = (λ e. omega arith, λ e. omega arith)
apart_hosted _ _ the_right the_left a = (λ e. omega arith, λ e. omega arith)
apart_hosted _ _ the_right the_right a = absurd (a.two refl)

-- Books that keep something for each track.
module _ {A : Type 0} (changed retracted : ℕ → ℕ → A → A) where
  -- what is asked of track t's; the first number is the track
  pub record Trackwise : Type 0 where
    pub nothing : (t : ℕ) (a : A) → retracted t 0 a ≡ a
    pub undo : (x : ℕ) → x < transition_count P → (a : A) → retracted (mover P x) (transition P x).code (changed (mover P x) x a) ≡ a
    pub still : (t x : ℕ) → x < transition_count P → (mover P x ≡ t → ⊥) → (a : A) → changed t x a ≡ a
    pub kept : (t x : ℕ) → x < transition_count P → (mover P x ≡ t → ⊥) → (a : A) → retracted t (transition P x).code a ≡ a
    pub undo_left : (a : A) → retracted 1 (replacement P 1) (changed 1 2 a) ≡ a
    pub undo_right : (a : A) → retracted 2 (replacement P 1) (changed 2 4 (changed 2 3 a)) ≡ a
    pub undo_other : (t : ℕ) → (t ≡ 1 → ⊥) → (t ≡ 2 → ⊥) → (a : A) → retracted t (replacement P 1) a ≡ a

  abbrev pub by : ℕ → (ℕ → A) → ℕ → A
  by x b t = changed t x (b t)

  abbrev pub back : ℕ → (ℕ → A) → ℕ → A
  back c b t = retracted t c (b t)

  act_at : (w : Word) (b : ℕ → A) (t : ℕ) → act by w b t ≡ act (changed t) w (b t)
  unfolding act
  act_at [] b t = refl
  act_at (x ∷ w) b t = act_at w (by x b) t

  module _ (c : Trackwise) where
    pub undo-P : (x : ℕ) → x < transition_count P → (b : ℕ → A) → back (transition P x).code (by x b) ≡ b
    undo-P x l b =
        fun_ext
        (λ t.
        elim (look (eqb (mover P x) t)) [
          | inl e ↦
              subst (λ t. retracted t (transition P x).code (changed t x (b t)) ≡ b t) (eqb-true (mover P x) t e) (c.undo x l (b (mover P x)))
          | inr e ↦
              let n = eqb-false (mover P x) t e in
              c.kept t x l n (changed t x (b t)) ∙ c.still t x l n (b t)
        ])

    pub undo-run-P : (terms : Terms) (s t : ℕ) → host P t ≡ some s → (w : List ℕ) → Finished P terms s w → (b : ℕ → A) → back (replacement P s) (act by w b) ≡ b
    undo-run-P terms s t e w f b =
        let q = hosts-P t s e in
        let g = subst (λ s. Finished P terms s w) q f in
        rw q
        (fun_ext
        (λ v.
        ap (retracted v (replacement P 1)) (act_at w b v)
        ∙ (elim (look (eqb v 1)) [
          | inl y ↦
              rw (eqb-true v 1 y)
              (ap (retracted 1 (replacement P 1)) (left_run (changed 1) terms w g (c.still 1) (b 1)) ∙ c.undo_left (b 1))
          | inr y ↦
              elim (look (eqb v 2)) [
                | inl z ↦
                    rw (eqb-true v 2 z)
                    (ap (retracted 2 (replacement P 1)) (right_run (changed 2) terms w g (c.still 2) (b 2)) ∙ c.undo_right (b 2))
                | inr z ↦
                    ap (retracted v (replacement P 1)) (other_run (changed v) terms w g v (eqb-false v 1 y) (eqb-false v 2 z) (c.still v) (b v))
                    ∙ c.undo_other v (eqb-false v 1 y) (eqb-false v 2 z) (b v)
              ]
        ])))

    -- a hosted track's deed does to each track's part what depends on that part alone, and nothing to another track's
    pub record Own (t : ℕ) (f : (ℕ → A) → ℕ → A) : Type 0 where
      pub part : ℕ → A → A
      pub parts : (b : ℕ → A) (v : ℕ) → f b v ≡ part v (b v)
      pub alone : (v : ℕ) → (t ≡ v → ⊥) → (a : A) → part v a ≡ a

    pub own_deed : {t : ℕ} (d : Deed P t) → (t ≡ 0 → ⊥) → Own t (does P by back d)
    unfolding computing does
    own_deed (change x l) n = record { part = λ v. changed v x; parts = λ b v. refl; alone = λ v. c.still v x l }
    own_deed (retraction x l) n = record { part = λ v. retracted v (transition P x).code; parts = λ b v. refl; alone = λ v. c.kept v x l }
    own_deed (replacing s t e) n = absurd (n (ap (owner P) (hosts-P t s e)))

    pub swap : (t u : ℕ) (f h : (ℕ → A) → ℕ → A) → Own t f → Own u h → (t ≡ u → ⊥) → (b : ℕ → A) → f (h b) ≡ h (f b)
    swap t u f h x y n b =
        fun_ext
        (λ v.
        x.parts (h b) v ∙ ap (x.part v) (y.parts b v)
        ∙ (elim (look (eqb t v)) [
          | inl e ↦
              let m : u ≡ v → ⊥ = λ k. n (eqb-true t v e ∙ sym k) in
              ap (x.part v) (y.alone v m (b v)) ∙ sym (y.alone v m (x.part v (b v)))
          | inr e ↦
              let m = eqb-false t v e in
              x.alone v m (y.part v (b v)) ∙ ap (y.part v) (sym (x.alone v m (b v)))
        ])
        ∙ sym (y.parts (f b) v ∙ ap (y.part v) (x.parts b v)))

    -- the books
    abbrev pub trackwise : (terms : Terms) → Books P terms
    trackwise terms =
        record {
          State = ℕ → A;
          changed = by;
          retracted = back;
          nothing = λ b. fun_ext (λ t. c.nothing t (b t));
          undo = undo-P;
          undo_run = undo-run-P terms;
          commute =
              λ t u a d e b.
              let (n, m) = apart_hosted t u (deed_track d) (deed_track e) a in
              swap t u (does P by back d) (does P by back e) (own_deed d n) (own_deed e m) a.two b;
        }
