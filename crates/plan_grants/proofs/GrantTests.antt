-- The test of refusal 27, part by part, in the order in which the code looks at a grant. Two grants have one pair exactly if they have one number,
-- and where there are more than 64 grants the 65th is bad. Assumes nothing.
use Rattle.std.proofs.Common.{◌≡◌, refl, sym, ◌∙◌, ⊎_elim, Bool, true, false, not, ◌&&◌, ◌||◌, List, ℕ, ◌+◌, ◌<◌, ◌≤◌, arith, length, get_or, set, replicate, length-set, get_or-set_same, get_or-set_other, eqb, leb, ltb, eqb-true, le-leb, eq-eqb}
use Rattle.std.proofs.Math.ListN.{length-replicate}
use borrow.Author.Tests.{eqb-false, lt-leb}
use Rattle.rules.specs.Fold.{some_below}
use Rattle.rules.specs.Plan.{Plan, track_count, grant, is_root}
use Rattle.rules.specs.Acceptance.{most_grants, most_rights, names_no_root, repeats_pair, bad_grant}
use Rattle.rules.proofs.Tests.{look, and_not, and_both, or_right}
use Rattle.rules.proofs.Folds.{some_at, some_same, some_more}
use Rattle.plan_grants.specs.Pairs.{Pair, is_among}

-- the rights are no sum of 1 to 7
unfoldable pub rights_bad : ℕ → Bool
rights_bad rights = eqb rights 0 || ltb most_rights rights

-- a search of the list, r being whether the number is among those looked at
module _ (l : List ℕ) (x : ℕ) where
  pub among_none : false ≡ is_among l 0 x
  unfolding is_among some_below
  among_none = refl

  pub among_more : (i : ℕ) {r : Bool} → r ≡ is_among l i x → (r || eqb (get_or l i 0) x) ≡ is_among l (i + 1) x
  unfolding is_among
  among_more i h = rw h (sym (some_more i (λ k. eqb (get_or l k 0) x)))

  pub among_all : (i n : ℕ) {r : Bool} → i ≤ n → n ≤ i → r ≡ is_among l i x → r ≡ is_among l n x
  among_all i n a b h = let e : i ≡ n = omega arith in rw e at h

module _ (p : Plan) where
  -- the root
  module _ (g t : ℕ) (e : t ≡ (grant p g).root) where
    pub no_track_lem : track_count p ≤ t → names_no_root p g ≡ true
    unfolding names_no_root
    no_track_lem l = rw (← e, le-leb (track_count p) t l)

    pub by_host : t < track_count p → names_no_root p g ≡ not (is_root p t)
    unfolding names_no_root
    by_host l = rw (← e, lt-leb (track_count p) t l)

  -- two grants and their numbers
  pub same_pair : (f g a b : ℕ) → Pair p f a → Pair p g b
      → eqb a b ≡ (eqb (grant p f).society (grant p g).society && eqb (grant p f).root (grant p g).root)
  same_pair f g a b r s =
      let i = r.number in
      let j = s.number in
      let k = r.society in
      let l = s.society in
      ⊎_elim
      (λ (h : eqb a b ≡ true).
      let q = eqb-true a b h in
      let u : (grant p f).society ≡ (grant p g).society = omega arith in
      let v : (grant p f).root ≡ (grant p g).root = omega arith in
      h ∙ sym (and_both (eqb (grant p f).society (grant p g).society) (eqb (grant p f).root (grant p g).root) (eq-eqb _ _ u) (eq-eqb _ _ v)))
      (λ (h : eqb a b ≡ false).
      let n = eqb-false a b h in
      h
      ∙ sym (and_not (eqb (grant p f).society (grant p g).society) (eqb (grant p f).root (grant p g).root)
      (λ x y.
      let u : (grant p f).society ≡ (grant p g).society = eqb-true _ _ x in
      let v : (grant p f).root ≡ (grant p g).root = eqb-true _ _ y in
      n (omega arith))))
      (look (eqb a b))

  -- the grants below g are fit, and their pairs stand in the list
  pub record Seen (g : ℕ) (pairs : List ℕ) : Type 0 where
    pub size : length pairs ≡ 64
    pub met : (f : ℕ) → f < g → Pair p f (get_or pairs f 0)
    pub fit : some_below g (bad_grant p) ≡ false

  pub seen_none : Seen 0 (replicate 64 0)
  unfolding some_below
  seen_none = record { size = length-replicate {A = ℕ} 64 0; met = λ f l. absurd (omega arith); fit = refl }

  module _ (g : ℕ) where
    parts : bad_grant p g ≡ (names_no_root p g || eqb (grant p g).rights 0 || ltb most_rights (grant p g).rights || repeats_pair p g || leb most_grants g)
    unfolding bad_grant
    parts = refl

    late : 64 ≤ g → bad_grant p g ≡ true
    late l =
        parts
        ∙ or_right (names_no_root p g || eqb (grant p g).rights 0 || ltb most_rights (grant p g).rights || repeats_pair p g) (leb most_grants g) (le-leb 64 g l)

    pub no_root : names_no_root p g ≡ true → bad_grant p g ≡ true
    no_root h = parts ∙ rw h

    module _ (r : names_no_root p g ≡ false) where
      pub wrong_rights : rights_bad (grant p g).rights ≡ true → bad_grant p g ≡ true
      unfolding rights_bad
      wrong_rights h = parts ∙ rw (r, h)

      module _ (s : rights_bad (grant p g).rights ≡ false) (pairs : List ℕ) (m : Seen g pairs) (pair : ℕ) (e : Pair p g pair) where
        among : is_among pairs g pair ≡ repeats_pair p g
        unfolding is_among repeats_pair
        among = some_same g _ _ (λ f l. same_pair f g (get_or pairs f 0) pair (m.met f l) e)

        pub met_before : is_among pairs g pair ≡ true → bad_grant p g ≡ true
        unfolding rights_bad
        met_before h = parts ∙ rw (r, s, sym among ∙ h)

        not_met : g < 64 → is_among pairs g pair ≡ false → bad_grant p g ≡ false
        unfolding rights_bad
        not_met l h = parts ∙ rw (r, s, sym among ∙ h, lt-leb 64 g l)

        met_more : g < 64 → (f : ℕ) → f < g + 1 → Pair p f (get_or (set pairs g pair) f 0)
        met_more l f k =
            let z = m.size in
            ⊎_elim (λ (q : eqb f g ≡ true). rw (eqb-true f g q, get_or-set_same pairs g pair 0 (omega arith)) e)
            (λ (q : eqb f g ≡ false). let n = eqb-false f g q in rw (get_or-set_other pairs g f pair 0 n) (m.met f (omega arith))) (look (eqb f g))

        pub seen_more : g < 64 → is_among pairs g pair ≡ false → Seen (g + 1) (set pairs g pair)
        seen_more l h =
            record {
              size = length-set pairs g pair ∙ m.size;
              met = met_more l;
              fit = some_more g (bad_grant p) ∙ rw (m.fit, not_met l h);
            }

  -- the 65th of more
  pub too_many : (n : ℕ) → 64 < n → some_below n (bad_grant p) ≡ true
  too_many n l = some_at n (bad_grant p) 64 l (late 64 (omega arith))
