-- The scan without its count of visits: a record that passes leaves the scan as it was from the next place on, so the visits never run out.
-- What was counted is within the limits, and is all that the bytes have. Assumes nothing.
use Rattle.std.proofs.Common.{◌≡◌, refl, sym, ap, ◌∙◌, Bool, true, false, not, ◌&&◌, ◌||◌, List, ℕ, zero, suc, ◌+◌, ◌-◌, ◌<◌, ◌≤◌, arith, length, eqb, ltb, leb, eqb-true, ltb-false, leb-false, lt-ltb, eq-eqb, ne_eqb}
use borrow.Author.Tests.{eqb-false, not-false}
use Rattle.rules.specs.declared.Counts.{Counts}
use Rattle.rules.specs.Fold.{first_refusal}
use Rattle.rules.specs.Record.{size_at, kind_at, length_of, rank_of, most_of, count_of, one_more, no_counts, end_kind, judge_record, Scan, refused, counted, scan_from, scan}
use Rattle.rules.proofs.Tests.{or_fails, passed}
use Rattle.plan.specs.Holds.{Holds}
use Rattle.plan_scan.specs.Scanned.{Stands}
use Rattle.plan_scan.proofs.KindTables.{by_kind}

module _ (bs : List ℕ) where
  -- a record without a refusal 2 to 7
  pub record Sane (at : ℕ) (c : Counts) : Type 0 where
    pub head : at + 4 ≤ length bs
    pub real : length_of (kind_at bs at) ≡ 0 → ⊥
    pub size : size_at bs at ≡ length_of (kind_at bs at)
    pub fits : at + length_of (kind_at bs at) ≤ length bs
    pub most : count_of c (kind_at bs at) < most_of (kind_at bs at)
    pub ends : kind_at bs at ≡ end_kind → length bs ≤ at + 4

  pub sane : (at last : ℕ) (c : Counts) → judge_record bs at last c ≡ 0 → Sane at c
  unfolding judge_record first_refusal length_of
  sane at last c h =
      let k = kind_at bs at in
      let a2 = passed (ltb (length bs) (at + 4)) 1 _ h in
      let a3 = passed (eqb (length_of k) 0 || ltb (rank_of k) (rank_of last)) 2 _ a2.1 in
      let a4 = passed (not (eqb (size_at bs at) (length_of k))) 3 _ a3.1 in
      let a5 = passed (ltb (length bs) (at + size_at bs at)) 4 _ a4.1 in
      let a6 = passed (leb (most_of k) (count_of c k)) 5 _ a5.1 in
      let a7 = passed (eqb k end_kind && ltb (at + size_at bs at) (length bs)) 6 _ a6.1 in
      let e : size_at bs at ≡ length_of k = eqb-true _ _ (not-false _ a4.0) in
      let f : at + size_at bs at ≤ length bs = ltb-false (length bs) (at + size_at bs at) a5.0 in
      record {
        head = ltb-false (length bs) (at + 4) a2.0;
        real = eqb-false (length_of k) 0 (or_fails (eqb (length_of k) 0) (ltb (rank_of k) (rank_of last)) a3.0).0;
        size = e;
        fits = rw e at f;
        most = leb-false (most_of k) (count_of c k) a6.0;
        ends = λ (q : k ≡ end_kind).
            let n : size_at bs at ≡ 4 = e ∙ ap length_of q in
            let b : ltb (at + size_at bs at) (length bs) ≡ false = (rw (eq-eqb k end_kind q) at a7).0 in
            let l = ltb-false (at + size_at bs at) (length bs) b in omega arith;
      }

  -- the next record's place, with one more counted
  next_stands : (at k : ℕ) (c : Counts) → Stands bs at c → (length_of k ≡ 0 → ⊥) → (k ≡ end_kind → ⊥) → at + length_of k ≤ length bs
      → count_of c k < most_of k → Stands bs (at + length_of k) (one_more c k)
  unfolding length_of most_of count_of one_more
  next_stands at k c s r =
      by_kind (λ k. (k ≡ end_kind → ⊥) → at + length_of k ≤ length bs → count_of c k < most_of k → Stands bs (at + length_of k) (one_more c k))
      (λ n f m. record { tracks = omega arith; states = omega arith; transitions = omega arith; place = omega arith; within = f })
      (λ n f m. record { tracks = omega arith; states = omega arith; transitions = omega arith; place = omega arith; within = f })
      (λ n f m. record { tracks = omega arith; states = omega arith; transitions = omega arith; place = omega arith; within = f })
      (λ n f m. absurd (n refl))
      (λ n f m. record { tracks = omega arith; states = omega arith; transitions = omega arith; place = omega arith; within = f })
      (λ n f m. record { tracks = omega arith; states = omega arith; transitions = omega arith; place = omega arith; within = f })
      k r

  module _ (at last : ℕ) (c : Counts) where
    pub stands_more : judge_record bs at last c ≡ 0 → (kind_at bs at ≡ end_kind → ⊥) → Stands bs at c
        → Stands bs (at + length_of (kind_at bs at)) (one_more c (kind_at bs at))
    stands_more h n s = let q = sane at last c h in next_stands at (kind_at bs at) c s q.real n q.fits q.most

    -- a record has 4 bytes or more
    pub longer : judge_record bs at last c ≡ 0 → 4 ≤ length_of (kind_at bs at)
    unfolding length_of
    longer h = by_kind (λ k. 4 ≤ length_of k) (omega arith) (omega arith) (omega arith) (omega arith) (omega arith) (omega arith) (kind_at bs at) (sane at last c h).real

    short : length bs < at + 4 → judge_record bs at last c ≡ 2
    unfolding judge_record first_refusal
    short l = rw (lt-ltb (length bs) (at + 4) l)

    scan_short : (n : ℕ) → length bs < at + 4 → scan_from n bs at last c ≡ refused 2
    unfolding scan_from
    scan_short zero l = refl
    scan_short (suc n) l = rw (short l, scan_from)

    -- one visit: a refusal, the end, or the next record
    visit_refused : (n r : ℕ) → judge_record bs at last c ≡ suc r → scan_from (suc n) bs at last c ≡ refused (suc r)
    unfolding scan_from
    visit_refused n r h = rw (h, scan_from)

    visit_end : (n : ℕ) → judge_record bs at last c ≡ 0 → kind_at bs at ≡ end_kind → scan_from (suc n) bs at last c ≡ counted c
    unfolding scan_from
    visit_end n h e = rw (h, scan_from, eq-eqb (kind_at bs at) end_kind e)

    visit_on : (n : ℕ) → judge_record bs at last c ≡ 0 → (kind_at bs at ≡ end_kind → ⊥)
        → scan_from (suc n) bs at last c ≡ scan_from n bs (at + length_of (kind_at bs at)) (kind_at bs at) (one_more c (kind_at bs at))
    unfolding scan_from
    visit_on n h e =
        rw (h, scan_from, ne_eqb (kind_at bs at) end_kind e)
        (ap (λ (z : ℕ). scan_from n bs (at + z) (kind_at bs at) (one_more c (kind_at bs at))) (sane at last c h).size)

  -- how many visits are allowed does not matter once they are as many as the bytes left
  enough : (k m at last : ℕ) (c : Counts) → length bs ≤ at + k → length bs ≤ at + m → scan_from k bs at last c ≡ scan_from m bs at last c
  enough zero m at last c a b = scan_short at last c zero (omega arith) ∙ sym (scan_short at last c m (omega arith))
  enough (suc k) zero at last c a b = scan_short at last c (suc k) (omega arith) ∙ sym (scan_short at last c zero (omega arith))
  enough (suc k) (suc m) at last c a b = go (judge_record bs at last c) refl (λ d. enough k m d)
    where
      on : (e : Bool) → judge_record bs at last c ≡ 0 → eqb (kind_at bs at) end_kind ≡ e
          → ((d l : ℕ) (n : Counts) → length bs ≤ d + k → length bs ≤ d + m → scan_from k bs d l n ≡ scan_from m bs d l n)
          → scan_from (suc k) bs at last c ≡ scan_from (suc m) bs at last c
      on true h e ih =
          let q = eqb-true (kind_at bs at) end_kind e in visit_end at last c k h q ∙ sym (visit_end at last c m h q)
      on false h e ih =
          let q = eqb-false (kind_at bs at) end_kind e in
          let l = longer at last c h in
          visit_on at last c k h q ∙ ih _ _ _ (omega arith) (omega arith) ∙ sym (visit_on at last c m h q)

      go : (r : ℕ) → judge_record bs at last c ≡ r
          → ((d l : ℕ) (n : Counts) → length bs ≤ d + k → length bs ≤ d + m → scan_from k bs d l n ≡ scan_from m bs d l n)
          → scan_from (suc k) bs at last c ≡ scan_from (suc m) bs at last c
      go zero h ih = on (eqb (kind_at bs at) end_kind) h refl ih
      go (suc r) h ih = visit_refused at last c k r h ∙ sym (visit_refused at last c m r h)

  -- the scan from a place on, with as many visits as bytes are left
  unfoldable pub scan_rest : ℕ → ℕ → Counts → Scan
  scan_rest at last c = scan_from (length bs - at) bs at last c

  pub rest_start : scan bs ≡ scan_rest 0 0 no_counts
  unfolding scan scan_rest
  rest_start = enough (length bs) (length bs - 0) 0 0 no_counts (omega arith) (omega arith)

  module _ (at last : ℕ) (c : Counts) where
    some_visit : at < length bs → scan_rest at last c ≡ scan_from (suc (length bs - at - 1)) bs at last c
    unfolding scan_rest
    some_visit l = enough (length bs - at) (suc (length bs - at - 1)) at last c (omega arith) (omega arith)

    pub rest_refused : (r : ℕ) → judge_record bs at last c ≡ r → (r ≡ 0 → ⊥) → scan_rest at last c ≡ refused r
    unfolding scan_rest
    rest_refused zero h n = absurd (n refl)
    rest_refused (suc r) h n =
        enough (length bs - at) (suc (length bs - at)) at last c (omega arith) (omega arith) ∙ visit_refused at last c (length bs - at) r h

    pub rest_end : judge_record bs at last c ≡ 0 → kind_at bs at ≡ end_kind → scan_rest at last c ≡ counted c
    rest_end h e = let q = (sane at last c h).head in some_visit (omega arith) ∙ visit_end at last c _ h e

    pub rest_on : judge_record bs at last c ≡ 0 → (kind_at bs at ≡ end_kind → ⊥)
        → scan_rest at last c ≡ scan_rest (at + length_of (kind_at bs at)) (kind_at bs at) (one_more c (kind_at bs at))
    unfolding scan_rest
    rest_on h e =
        let q = sane at last c h in
        let f = q.fits in
        let g = q.head in
        let l = longer at last c h in
        some_visit (omega arith) ∙ visit_on at last c _ h e
        ∙ enough (length bs - at - 1) (length bs - (at + length_of (kind_at bs at))) _ _ _ (omega arith) (omega arith)

  pub start_stands : Stands bs 0 no_counts
  unfolding no_counts
  start_stands =
      record { tracks = omega arith; states = omega arith; transitions = omega arith; place = omega arith; within = omega arith }

  -- what was counted stands in the bytes, with the end record after it
  from_holds : (n at last : ℕ) (c d : Counts) → Stands bs at c → scan_from n bs at last c ≡ counted d → Holds bs d
  unfolding scan_from
  from_holds zero at last c d s h = let z : ◌≡◌ {A = ℕ} 0 1 = cc in absurd (omega arith)
  from_holds (suc n) at last c d s h = go (judge_record bs at last c) refl (λ a. from_holds n a)
    where
      on : (e : Bool) → judge_record bs at last c ≡ 0 → eqb (kind_at bs at) end_kind ≡ e
          → ((a l : ℕ) (b d : Counts) → Stands bs a b → scan_from n bs a l b ≡ counted d → Holds bs d) → Holds bs d
      on true j e ih =
          let q : counted c ≡ counted d = sym (visit_end at last c n j (eqb-true (kind_at bs at) end_kind e)) ∙ h in
          let w : c ≡ d = cc in
          let g = (sane at last c j).head in
          let f = (sane at last c j).ends (eqb-true (kind_at bs at) end_kind e) in
          rw (← w) (record { tracks = s.tracks; states = s.states; transitions = s.transitions; whole = omega arith })
      on false j e ih =
          let q = eqb-false (kind_at bs at) end_kind e in
          ih _ _ _ d (stands_more at last c j q s) (sym (visit_on at last c n j q) ∙ h)

      go : (r : ℕ) → judge_record bs at last c ≡ r
          → ((a l : ℕ) (b d : Counts) → Stands bs a b → scan_from n bs a l b ≡ counted d → Holds bs d) → Holds bs d
      go zero j ih = on (eqb (kind_at bs at) end_kind) j refl ih
      go (suc r) j ih =
          let q : refused (suc r) ≡ counted d = sym (visit_refused at last c n r j) ∙ h in
          let z : ◌≡◌ {A = ℕ} 0 1 = cc in absurd (omega arith)

  pub scan_holds : (c : Counts) → scan bs ≡ counted c → Holds bs c
  unfolding scan
  scan_holds c h = from_holds (length bs) 0 0 no_counts c start_stands h

  -- what a visit of the loop keeps, from the record at a place to the next, in the numbers that it read
  pub record Next (at last : ℕ) (c : Counts) (kind len : ℕ) (more : Counts) : Type 0 where
    pub stands : Stands bs (at + len) more
    pub rest : scan_rest at last c ≡ scan_rest (at + len) kind more
    pub further : 0 < len

  pub next : (at last : ℕ) (c : Counts) (kind len : ℕ) (more : Counts) → judge_record bs at last c ≡ 0 → Stands bs at c
      → kind ≡ kind_at bs at → (kind ≡ end_kind → ⊥) → len ≡ length_of kind → more ≡ one_more c kind → Next at last c kind len more
  next at last c kind len more h s ek n el em =
      let e : (kind_at bs at ≡ end_kind → ⊥) = (λ q. n (ek ∙ q)) in
      let l = longer at last c h in
      rw (em, el, ek) (record { stands = stands_more at last c h e s; rest = rest_on at last c h e; further = omega arith })
