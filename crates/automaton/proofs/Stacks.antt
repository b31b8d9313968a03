-- The report's Lemma 1: "the compensation stack acts as a record of past activities". A stack records what is left of an automaton's string
-- after cancelling; by the rules one after the other each step keeps it so, since the automata nested in one are others, whose labels the
-- string does not have. Assumes nothing.
use mathlib.Core.Path.{◌≡◌, refl, sym, ap, ◌∙◌, subst}
use mathlib.Core.Logic.{inl, inr}
use mathlib.Core.Bool.{Bool, true, ◌&&◌}
use mathlib.Core.List.{List, [], ◌∷◌, ◌++◌}
use mathlib.Core.Option.{Option, none, some}
use Prim.Native.Nat.{ℕ, zero, suc, ◌<◌}
use native.Mathlib.Omega.{arith}
use lib.Dec.{eqb}
use borrow.Author.Tests.{eq-eqb, ne_eqb}
use Rattle.rules.specs.Plan.{Plan, track_count, transition, optional, replacement, is_state_of, is_in, is_hosted_by, is_hosting, is_above, first_state}
use Rattle.rules.specs.Event.{EventArguments}
use Rattle.rules.proofs.Tests.{look, none-some, and_holds, and_both}
use Rattle.rules.proofs.Acceptance.{Accepted}
use Rattle.rules.proofs.Forest.{Reaches, above_lower}
use Rattle.rules.proofs.Scopes.{in_host, host_by}
use Rattle.theory.proofs.Nesting.{state_of}
use Rattle.automaton.specs.Listing.{listed, every_of}
use Rattle.automaton.specs.Configuration.{Comp, Dev, Stack, NConf, Basic, Nest, Conf, end, next, Vect, push_comp, push_dev, push, init_by, goto_to, goto}
use Rattle.automaton.specs.Semantics.{FailReading, Act, suc_at, fail_at, comp_at, dev_at, nestsuc_at, nestfail_at, nestcomp_at, trace, Step, SUC, FAIL, FAILNEST, COMP, DEV, NESTSUC, NESTFAIL, NESTCOMP, NEST, VECT, NRun, halt, then}
use Rattle.automaton.specs.SelfCancelling.{Symbol, activity, symbol, projected, left_of, PerfectAt}
use Rattle.automaton.proofs.Listings.{listed_every}
use Rattle.automaton.proofs.Frames.{hosted_above, reach_up}
use Rattle.automaton.proofs.CancOut.{left_joined, left_activity, left_action}

unfoldable pub automaton_of : NConf → ℕ
automaton_of (Basic A q r S) = A
automaton_of (Nest A q r S c) = A

unfoldable pub stack_in : NConf → Stack
stack_in (Basic A q r S) = S
stack_in (Nest A q r S c) = S

-- the automaton of a step
unfoldable pub actor : Act → ℕ
actor (suc_at A i) = A
actor (fail_at A) = A
actor (comp_at A c) = A
actor (dev_at A d) = A
actor (nestsuc_at A) = A
actor (nestfail_at A) = A
actor (nestcomp_at A) = A

-- another automaton's step leaves no symbol
symbol_other : (A : ℕ) (a : Act) → (actor a ≡ A → ⊥) → symbol A (trace a) ≡ []
unfolding symbol trace actor
symbol_other A (suc_at B i) d = rw (ne_eqb B A d)
symbol_other A (fail_at B) d = refl
symbol_other A (comp_at B c) d = rw (ne_eqb B A d)
symbol_other A (dev_at B q) d = refl
symbol_other A (nestsuc_at B) d = refl
symbol_other A (nestfail_at B) d = refl
symbol_other A (nestcomp_at B) d = refl

module _ (p : Plan) where
  -- deviations on the stack are states of the automaton
  own_devs : ℕ → Stack → Bool
  own_devs A [] = true
  own_devs A (Comp c ∷ S) = own_devs A S
  own_devs A (Dev d ∷ S) = is_state_of p A d && own_devs A S

  -- so throughout a configuration, and what is nested in an automaton is hosted by it
  mutual
    pub tidy : NConf → Bool
    tidy (Basic A q r S) = is_state_of p A q && own_devs A S
    tidy (Nest A q r S c) = (is_state_of p A q && own_devs A S) && tidy_all c A

    tidy_all : Conf → ℕ → Bool
    tidy_all end A = true
    tidy_all (next n c) A = is_hosted_by p A (automaton_of n) && tidy n && tidy_all c A

  tidy_all_lem : (A : ℕ) (xs : List NConf) → tidy_all (Vect xs) A ≡ every_of (λ n. is_hosted_by p A (automaton_of n) && tidy n) xs
  unfolding tidy_all Vect every_of
  tidy_all_lem A [] = refl
  tidy_all_lem A (x ∷ xs) = ap (λ b. (is_hosted_by p A (automaton_of x) && tidy x) && b) (tidy_all_lem A xs)

  -- one member replaced by another of the same automaton
  member_tidy : (A : ℕ) (α β : List NConf) (n : NConf) → tidy_all (Vect (α ++ (n ∷ β))) A ≡ true → (is_hosted_by p A (automaton_of n) ≡ true) × (tidy n ≡ true)
  unfolding tidy_all Vect
  member_tidy A [] β n h =
      let (x, y) = and_holds (is_hosted_by p A (automaton_of n) && tidy n) (tidy_all (Vect β) A) h in
      and_holds (is_hosted_by p A (automaton_of n)) (tidy n) x
  member_tidy A (z ∷ α) β n h =
      member_tidy A α β n (and_holds (is_hosted_by p A (automaton_of z) && tidy z) (tidy_all (Vect (α ++ (n ∷ β))) A) h).1

  tidy_member : (A : ℕ) (α β : List NConf) (n m : NConf) → tidy_all (Vect (α ++ (n ∷ β))) A ≡ true → is_hosted_by p A (automaton_of m) ≡ true → tidy m ≡ true
      → tidy_all (Vect (α ++ (m ∷ β))) A ≡ true
  unfolding tidy_all Vect
  tidy_member A [] β n m h i t =
      let (x, y) = and_holds (is_hosted_by p A (automaton_of n) && tidy n) (tidy_all (Vect β) A) h in rw (i, t, y)
  tidy_member A (z ∷ α) β n m h i t =
      let (x, y) = and_holds (is_hosted_by p A (automaton_of z) && tidy z) (tidy_all (Vect (α ++ (n ∷ β))) A) h in
      and_both (is_hosted_by p A (automaton_of z) && tidy z) (tidy_all (Vect (α ++ (m ∷ β))) A) x (tidy_member A α β n m y i t)

  own_push : (A c : ℕ) (d : Option ℕ) (S : Stack) → ((e : ℕ) → d ≡ some e → is_state_of p A e ≡ true) → own_devs A S ≡ true → own_devs A (push c d S) ≡ true
  unfolding push
  own_push A c d S h s = elim (look (eqb c 0)) [ inl e ↦ rw e s | inr e ↦ rw e (go d h) ]
    where
      go : (d : Option ℕ) → ((e : ℕ) → d ≡ some e → is_state_of p A e ≡ true) → own_devs A (push_comp c (push_dev d S)) ≡ true
      go none h = unfold own_devs push_comp push_dev in s
      go (some e) h = unfold own_devs push_comp push_dev in and_both (is_state_of p A e) (own_devs A S) (h e refl) s

  -- goto
  goto_automaton_to : (n A q : ℕ) (S : Stack) → automaton_of (goto_to p n A q S) ≡ A
  unfolding goto_to automaton_of
  goto_automaton_to zero A q S = refl
  goto_automaton_to (suc n) A q S = elim (look (is_hosting p q)) [ inl e ↦ rw e | inr e ↦ rw e ]

  goto_stack_to : (n A q : ℕ) (S : Stack) → stack_in (goto_to p n A q S) ≡ S
  unfolding goto_to stack_in
  goto_stack_to zero A q S = refl
  goto_stack_to (suc n) A q S = elim (look (is_hosting p q)) [ inl e ↦ rw e | inr e ↦ rw e ]

  pub goto_automaton : (A q : ℕ) (S : Stack) → automaton_of (goto p A q S) ≡ A
  unfolding goto
  goto_automaton A q S = goto_automaton_to (track_count p) A q S

  pub goto_stack : (A q : ℕ) (S : Stack) → stack_in (goto p A q S) ≡ S
  unfolding goto
  goto_stack A q S = goto_stack_to (track_count p) A q S

  module _ (ok : Accepted p) where
    goto_tidy_to : (n A q : ℕ) (S : Stack) → is_state_of p A q ≡ true → own_devs A S ≡ true → tidy (goto_to p n A q S) ≡ true
    unfolding goto_to init_by tidy own_devs
    goto_tidy_to zero A q S o s = and_both (is_state_of p A q) (own_devs A S) o s
    goto_tidy_to (suc n) A q S o s =
        elim (look (is_hosting p q)) [
          | inr e ↦ rw (e, o, s)
          | inl e ↦
              rw (e, o, s)
              (tidy_all_lem A (listed (track_count p) (is_in p q) (λ B. goto_to p n B (first_state p B) []))
              ∙ listed_every (λ m. is_hosted_by p A (automaton_of m) && tidy m) (track_count p) (is_in p q) (λ B. goto_to p n B (first_state p B) [])
              (λ B b i.
              and_both (is_hosted_by p A (automaton_of (goto_to p n B (first_state p B) []))) (tidy (goto_to p n B (first_state p B) []))
              (ap (is_hosted_by p A) (goto_automaton_to n B (first_state p B) [])
              ∙ subst (λ x. is_hosted_by p x B ≡ true) (state_of p A q o).1 (host_by p B q (in_host p q B i)))
              (goto_tidy_to n B (first_state p B) [] (ok.first_own B b) refl)))
        ]

    goto_tidy_own : (A q : ℕ) (S : Stack) → is_state_of p A q ≡ true → own_devs A S ≡ true → tidy (goto p A q S) ≡ true
    unfolding goto
    goto_tidy_own A q S o s = goto_tidy_to (track_count p) A q S o s

    -- at its start an automaton's configuration is tidy
    pub goto_tidy : (A : ℕ) → A < track_count p → tidy (goto p A (first_state p A) []) ≡ true
    unfolding own_devs
    goto_tidy A b = goto_tidy_own A (first_state p A) [] (ok.first_own A b) refl

    module _ (comp : ℕ → ℕ) (Z : ℕ) (perfect : PerfectAt comp p Z) where
      -- a stack records the activities whose compensations it holds, the newest first; deviations leave no trace
      unfoldable pub Records : Stack → List Symbol → Type 0
      Records [] v = v ≡ []
      Records (Comp c ∷ S) v = (i : ℕ) × (w : List Symbol) × (c ≡ comp i) × (v ≡ activity i ∷ w) × Records S w
      Records (Dev d ∷ S) v = Records S v

      -- what is left of a string after a step of an automaton
      unfoldable pub after_step : ℕ → Act → List Symbol → List Symbol
      after_step A a v = left_of comp v (symbol A (trace a))

      pub record Facts (n : NConf) (a : Act) (m : NConf) : Type 0 where
        pub tidied : tidy m ≡ true
        pub same : automaton_of m ≡ automaton_of n
        pub reach : Reaches p ok (automaton_of n) (actor a)
        pub keeps : automaton_of n ≡ Z → (v : List Symbol) → Records (stack_in n) v → Records (stack_in m) (after_step (automaton_of n) a v)

      kept : (A : ℕ) (a : Act) (S : Stack) (v : List Symbol) → symbol A (trace a) ≡ [] → Records S v → Records S (after_step A a v)
      unfolding after_step left_of
      kept A a S v e r = rw e r

      pub other_step : (A : ℕ) (a : Act) (v : List Symbol) → (actor a ≡ A → ⊥) → after_step A a v ≡ v
      unfolding after_step left_of
      other_step A a v d = rw (symbol_other A a d)

      suc_records : (A : ℕ) (i : EventArguments) (c : ℕ) (d : Option ℕ) (S : Stack) (v : List Symbol) → c ≡ comp i.event → Records S v
          → Records (push c d S) (after_step A (suc_at A i) v)
      unfolding push after_step symbol trace left_of push_comp Records
      suc_records A i c d S v e r =
          rw (ne_eqb c 0 (λ z. perfect.non_empty i.event (sym e ∙ z)), eq-eqb A A refl) (i.event, v, e, left_activity comp v i.event, go d)
        where
          go : (d : Option ℕ) → Records (push_dev d S) v
          go none = unfold push_dev in r
          go (some x) = unfold push_dev Records in r

      comp_records : (A c : ℕ) (S : Stack) (v : List Symbol) → Records (Comp c ∷ S) v → Records S (after_step A (comp_at A c) v)
      unfolding Records after_step symbol trace left_of
      comp_records A c S v r =
          let (i, w, e, f, s) = r in
          rw (eq-eqb A A refl, f, e, left_action comp w i) s

      abbrev Within : Conf → Act → Conf → Type 0
      Within c a d = (A : ℕ) → tidy_all c A ≡ true → (tidy_all d A ≡ true) × (is_above p A (actor a) ≡ true)

      not_self : (A : ℕ) (a : Act) → is_above p A (actor a) ≡ true → actor a ≡ A → ⊥
      not_self A a h e = let b = above_lower p ok A (actor a) h in omega arith

      -- rule by rule
      pub step_facts : {ρ : FailReading} {n m : NConf} {a : Act} → Step p ρ n a m → tidy n ≡ true → Facts n a m
      unfolding automaton_of stack_in actor tidy own_devs symbol trace
      step_facts s =
          elim s as (λ n a m x. tidy n ≡ true → Facts n a m) (λ c a d x. Within c a d) [
            | SUC A q i x S b e f g m y ↦
                λ h.
                let c = (transition p x).code in
                let d = optional (transition p x).deviation in
                let t = (transition p x).destination in
                let (o, k) = and_holds (is_state_of p A q) (own_devs A S) h in
                let dev : (z : ℕ) → d ≡ some z → is_state_of p A z ≡ true = λ z k. subst (λ y. is_state_of p y z ≡ true) e (ok.deviation_own x z b k) in
                record {
                  tidied = goto_tidy_own A t (push c d S) (subst (λ y. is_state_of p y t ≡ true) e (ok.destination_own x b)) (own_push A c d S dev k);
                  same = goto_automaton A t (push c d S);
                  reach = inl refl;
                  keeps =
                      λ z v r.
                      let code : c ≡ comp i.event = perfect.codes x b (e ∙ z) ∙ ap comp g in
                      subst (λ z. Records z (after_step A (suc_at A i) v)) (sym (goto_stack A t (push c d S))) (suc_records A i c d S v code r);
                }
            | FAIL A q S ↦ λ h. record { tidied = h; same = refl; reach = inl refl; keeps = λ z v r. kept A (fail_at A) S v refl r }
            | FAILNEST A q S c w ↦ λ h. record { tidied = h; same = refl; reach = inl refl; keeps = λ z v r. kept A (fail_at A) S v refl r }
            | COMP A q c S ↦
                λ h. record { tidied = and_both (is_state_of p A q && own_devs A S) true h refl; same = refl; reach = inl refl; keeps = λ z v r. comp_records A c S v r }
            | DEV A q d S ↦
                λ h.
                let (u, g) = and_holds (is_state_of p A q) (is_state_of p A d && own_devs A S) h in
                let (o, k) = and_holds (is_state_of p A d) (own_devs A S) g in
                record {
                  tidied = goto_tidy_own A d S o k;
                  same = goto_automaton A d S;
                  reach = inl refl;
                  keeps = λ z v r. subst (λ z. Records z (after_step A (dev_at A d) v)) (sym (goto_stack A d S)) (kept A (dev_at A d) S v refl (unfold Records in r));
                }
            | NESTSUC A q S c t ↦
                λ h.
                let (u, k) = and_holds (is_state_of p A q) (own_devs A S) (and_holds (is_state_of p A q && own_devs A S) (tidy_all c A) h).0 in
                record {
                  tidied = and_both (is_state_of p A q) (own_devs A (push (replacement p q) none S)) u (own_push A (replacement p q) none S (λ e z. none-some refl z) k);
                  same = refl;
                  reach = inl refl;
                  keeps =
                      λ z v r.
                      let e : push (replacement p q) none S ≡ S = empty_push S (replacement p q) (perfect.replacements q ((state_of p A q u).1 ∙ z)) in
                      subst (λ z. Records z (after_step A (nestsuc_at A) v)) (sym e) (kept A (nestsuc_at A) S v refl r);
                }
            | NESTFAIL A q S c t ↦
                λ h.
                record {
                  tidied = (and_holds (is_state_of p A q && own_devs A S) (tidy_all c A) h).0;
                  same = refl;
                  reach = inl refl;
                  keeps = λ z v r. kept A (nestfail_at A) S v refl r;
                }
            | NESTCOMP A q S c t ↦
                λ h.
                record {
                  tidied = (and_holds (is_state_of p A q && own_devs A S) (tidy_all c A) h).0;
                  same = refl;
                  reach = inl refl;
                  keeps = λ z v r. kept A (nestcomp_at A) S v refl r;
                }
            | NEST A q r S {c = c} {d = d} {a = a} (s → ih) ↦
                λ h.
                let (o, k) = and_holds (is_state_of p A q && own_devs A S) (tidy_all c A) h in
                let (t, b) = ih A k in
                record {
                  tidied = and_both (is_state_of p A q && own_devs A S) (tidy_all d A) o t;
                  same = refl;
                  reach = inr b;
                  keeps = λ z v r. kept A a S v (symbol_other A a (not_self A a b)) r;
                }
            | VECT α β {n = n} {m = m} {a = a} (s → ih) ↦
                λ A h.
                let (i, t) = member_tidy A α β n h in
                let f = ih t in (
                  tidy_member A α β n m h (ap (is_hosted_by p A) f.same ∙ i) f.tidied,
                  elim (reach_up p ok A (automaton_of n) (actor a) i f.reach)
                      [ inl z ↦ absurd (self_hosted A (automaton_of n) (actor a) i f.reach z) | inr z ↦ z ],
                )
          ]
        where
          empty_push : (S : Stack) (c : ℕ) → c ≡ 0 → push c none S ≡ S
          empty_push S c e = unfold push in rw (eq-eqb c 0 e)

          self_hosted : (A B u : ℕ) → is_hosted_by p A B ≡ true → Reaches p ok B u → A ≡ u → ⊥
          self_hosted A B u i (inl e) z = let c = above_lower p ok A B (hosted_above p ok A B i) in omega arith
          self_hosted A B u i (inr e) z =
              let c = above_lower p ok A B (hosted_above p ok A B i) in let d = above_lower p ok B u e in omega arith

      -- Lemma 1: the stack reached records what is left of what was recorded and the string
      pub lemma1 : {ρ : FailReading} {n m : NConf} {w : List Act} → NRun p ρ n w m → tidy n ≡ true → automaton_of n ≡ Z → (v : List Symbol) → Records (stack_in n) v
          → Records (stack_in m) (left_of comp v (projected (automaton_of n) w))
      unfolding projected left_of
      lemma1 halt t z v r = r
      lemma1 (then {n = n} {m = m} {k = k} {a = a} {w = w} s q) t z v r =
          let f = step_facts s t in
          subst (λ z. Records (stack_in k) z)
          (ap (λ A. left_of comp (after_step (automaton_of n) a v) (projected A w)) f.same
          ∙ (unfold after_step in sym (left_joined comp v (symbol (automaton_of n) (trace a)) (projected (automaton_of n) w))))
          (lemma1 q f.tidied (f.same ∙ z) (after_step (automaton_of n) a v) (f.keeps z v r))
