-- What a visit reads: numbers in range, and the state, the code and the test of a track by the transition that it takes. Assumes nothing.
use Rattle.std.proofs.Common.{◌≡◌, refl, sym, ap, ap₂, ◌∙◌, inl, inr, Bool, true, false, cond, not, ◌&&◌, ◌||◌, List, ℕ, ◌+◌, ◌<◌, ◌≤◌, arith, eqb, leb, ltb, length, get_or, eq-eqb, ne_eqb, ltb-true, lt-ltb, le-leb}
use Rattle.std.proofs.Math.Option.{Option, none, some}
use borrow.Author.Tests.{not-true, not-false, lt-leb}
use Rattle.rules.specs.declared.Counts.{Counts}
use Rattle.rules.specs.declared.Track.{Track}
use Rattle.rules.specs.declared.Terms.{Terms}
use Rattle.rules.specs.Fold.{every_below, some_below, count_below}
use Rattle.rules.specs.Plan.{Plan, plan_of, track_count, state_count, no_state, optional, owner, transition, mover, replacement, is_final, is_state_of, is_hosted_by, first_state}
use Rattle.rules.specs.Ledger.{Configuration, Ledger, is_awake, sleeping}
use Rattle.rules.specs.Scope.{has_open_scope}
use Rattle.rules.specs.Event.{has_code}
use Rattle.rules.proofs.Tests.{look, and_holds}
use Rattle.rules.proofs.Folds.{every_more, count_more}
use Rattle.plan.proofs.FieldLaws.{track_count_lem, state_count_lem, transition_count_lem}
use Rattle.ledger.specs.Ladder.{Accepts, Going, ledger_of}
use Rattle.ledger.specs.Words.{track_of}
use Rattle.ledger.proofs.Loops.{some_visit}
use Rattle.ledger.proofs.ReadTracks.{mode_as, state_as, count_as}
use Rattle.lookup.proofs.Facts.{plan_facts, live_of_going, storable, owner_low}
use Rattle.event_choice.specs.Next.{moves_of, next_of, ends_by, code_by, is_last, ends_next, closes_next, full_next}

-- a word names a number, or none
pub word_none : {x : ℕ} → x ≡ no_state → optional x ≡ none
unfolding optional
word_none {x} e = rw (eq-eqb x no_state e)

pub word_some : {x : ℕ} → (x ≡ no_state → ⊥) → optional x ≡ some x
unfolding optional
word_some {x} n = rw (ne_eqb x no_state n)

pub word_small : {x : ℕ} → x < 256 → optional x ≡ some x
unfolding no_state
word_small h = word_some (λ z. absurd (omega arith))

pub moves_at : (ts : List ℕ) (n t : ℕ) → t < n → moves_of ts n t ≡ optional (get_or ts t 0)
unfolding moves_of
moves_at ts n t b = rw (lt-ltb t n b)

-- a track's state is one of the plan's, and so is a destination
pub own_low : (p : Plan) (t s : ℕ) → is_state_of p t s ≡ true → s < state_count p
unfolding is_state_of
own_low p t s h = ltb-true s (state_count p) (and_holds (ltb s (state_count p)) (eqb (owner p s) t) h).0

pub source_low : (bs : List ℕ) (c : Counts) {x s : ℕ} → Accepts bs c → x < c.transitions → s ≡ (transition (plan_of bs c) x).source → s < c.states
source_low bs c {x} a b e =
    let q = (plan_facts bs c a).source_state x (rw (transition_count_lem bs c) b) in
    let n = state_count_lem bs c in
    omega arith

pub mover_low : (bs : List ℕ) (c : Counts) {x s t : ℕ} → Accepts bs c → x < c.transitions → s ≡ (transition (plan_of bs c) x).source → t ≡ owner (plan_of bs c) s
    → t < c.tracks
mover_low bs c {s = s} a b src own = rw own (owner_low bs c s a (source_low bs c a b src))

pub destination_low : (bs : List ℕ) (c : Counts) {x d : ℕ} → Accepts bs c → x < c.transitions → d ≡ (transition (plan_of bs c) x).destination → d < c.states
destination_low bs c {x} {d} a b e =
    let q = own_low (plan_of bs c) (mover (plan_of bs c) x) _ ((plan_facts bs c a).destination_own x (rw (transition_count_lem bs c) b)) in
    let n = state_count_lem bs c in
    omega arith

pub state_low : (terms : Terms) (bs : List ℕ) (c : Counts) (ws : List ℕ) (t : ℕ) → Going terms bs c ws → t < c.tracks → {k : Track} → k ≡ track_of (ledger_of terms c ws t) → k.state < c.states
unfolding sleeping
state_low terms bs c ws t g b r =
    let p = plan_of bs c in
    let low : t < track_count p = rw (track_count_lem bs c) b in
    let n = state_count_lem bs c in
    let s = state_as _ r in
    elim (look (is_awake (ledger_of terms c ws t).mode)) [
      | inl a ↦ let q = own_low p t (ledger_of terms c ws t).state ((live_of_going terms bs c ws g).own t low a) in omega arith
      | inr a ↦
          let q = own_low p t (first_state p t) ((plan_facts bs c g.checked.lent.accepts).first_own t low) in
          let z : (ledger_of terms c ws t).state ≡ 0 = ap (λ (x : Configuration). x.state) ((storable terms bs c ws g).blank t a) in
          omega arith
    ]

-- the state after a move, and the code given
module _ (p : Plan) (s : ℕ) {x : ℕ} where
  pub next_still : x ≡ no_state → {r : Bool} → r ≡ is_final p s → r ≡ is_final p (next_of p s (optional x))
  unfolding next_of
  next_still z e = e ∙ rw (word_none z, next_of)

  pub next_moved : (x ≡ no_state → ⊥) → {d : ℕ} → d ≡ (transition p x).destination → {r : Bool} → r ≡ is_final p d → r ≡ is_final p (next_of p s (optional x))
  unfolding next_of
  next_moved z f e = e ∙ ap (is_final p) f ∙ rw (word_some z, next_of)

  module _ (closes : Bool) where
    pub code_moved : (x ≡ no_state → ⊥) → {r : ℕ} → r ≡ (transition p x).code → r ≡ code_by p s (optional x) closes
    unfolding code_by
    code_moved z e = e ∙ rw (word_some z, code_by)

    pub code_none : x ≡ no_state → not closes ≡ true → 0 ≡ code_by p s (optional x) closes
    unfolding code_by
    code_none z h = rw (word_none z, code_by, not-true closes h)

    pub code_replaced : x ≡ no_state → not closes ≡ false → {r : ℕ} → r ≡ replacement p s → r ≡ code_by p s (optional x) closes
    unfolding code_by
    code_replaced z h e = e ∙ rw (word_none z, code_by, not-false closes h)

-- a track that takes no transition leads nowhere and is given nothing; one that takes one has room for its code or not
module _ (p : Plan) {x : ℕ} where
  pub last_none : x ≡ no_state → is_last p (optional x) ≡ false
  unfolding is_last
  last_none z = rw (word_none z, is_last)

  pub fills_none : (b : Bool) → x ≡ no_state → (has_code p (optional x) && b) ≡ false
  unfolding has_code
  fills_none b z = rw (word_none z, has_code)

  pub fills_some : (b : Bool) → (x ≡ no_state → ⊥) → (has_code p (some x) && b) ≡ (has_code p (optional x) && b)
  fills_some b z = ap (λ o. has_code p o && b) (sym (word_some z))

module _ (terms : Terms) (p : Plan) (x : ℕ) {r : ℕ} (e : r ≡ (transition p x).code) where
  pub fills_zero : (b : Bool) → r ≡ 0 → false ≡ (has_code p (some x) && b)
  unfolding has_code
  fills_zero b f = rw (eq-eqb (transition p x).code 0 (sym e ∙ f))

  pub fills_full : (r ≡ 0 → ⊥) → {k : Track} (y : Configuration) → k ≡ track_of y → leb terms.limit k.count ≡ (has_code p (some x) && leb terms.limit (length y.held))
  unfolding has_code
  fills_full f y h = ap (leb terms.limit) (count_as _ h) ∙ rw (ne_eqb (transition p x).code 0 (λ q. f (e ∙ q)))

-- a track as it was read
module _ (terms : Terms) (p : Plan) (l : Ledger) (ts : List ℕ) (n t : ℕ) (b : t < n) {k : Track} (read : k ≡ track_of (l t)) where
  pub ends_read : {r : Bool} → r ≡ ends_by p k.mode k.state (optional (get_or ts t 0)) → r ≡ ends_next p l (moves_of ts n) t
  unfolding ends_next
  ends_read e =
      e ∙ ap₂ (λ m s. ends_by p m s (optional (get_or ts t 0))) (mode_as _ read) (state_as _ read) ∙ ap (ends_by p (l t).mode (l t).state) (sym (moves_at ts n t b))

  pub full_read : {d r : Bool} → d ≡ closes_next p l (moves_of ts n) t
      → r ≡ (leb terms.limit k.count && not (eqb (code_by p k.state (optional (get_or ts t 0)) d) 0)) → r ≡ full_next p l (moves_of ts n) terms t
  unfolding full_next
  full_read {d} f e =
      e ∙ ap₂ (λ i s. leb terms.limit i && not (eqb (code_by p s (optional (get_or ts t 0)) d) 0)) (count_as _ read) (state_as _ read)
      ∙ ap₂ (λ o b. leb terms.limit (length (l t).held) && not (eqb (code_by p (l t).state o b) 0)) (sym (moves_at ts n t b)) f

-- room for an entry, or none
pub not_full : (terms : Terms) {n : ℕ} (b : Bool) → n < terms.limit → false ≡ (leb terms.limit n && b)
not_full terms {n} b h = rw (lt-leb terms.limit n h)

pub full_given : (terms : Terms) {n d e : ℕ} → terms.limit ≤ n → d ≡ e → not (eqb d 0) ≡ (leb terms.limit n && not (eqb e 0))
full_given terms {n} h q = rw (le-leb terms.limit n h, q)

-- whether a track keeps its scope open
pub asleep_leaves : {a : Bool} (b : Bool) → a ≡ false → (a && b) ≡ false
asleep_leaves b e = rw e

pub ending_leaves : (a : Bool) {b : Bool} → b ≡ true → (a && not b) ≡ false
ending_leaves true e = rw e
ending_leaves false e = refl

pub staying_keeps : {a b : Bool} → a ≡ true → b ≡ false → (a && not b) ≡ true
staying_keeps e f = rw (e, f)

-- a scope closes if it is open and no track of those visited keeps it so
module _ (p : Plan) (l : Ledger) (goes : ℕ → Option ℕ) where
  abbrev pub closes_among : ℕ → ℕ → Bool
  closes_among n t = has_open_scope p l t && every_below n (λ u. not (is_hosted_by p t u && is_awake (l u).mode) || ends_next p l goes u)

  pub closes_more : (n t : ℕ) → cond (is_hosted_by p t n && (is_awake (l n).mode && not (ends_next p l goes n))) false (closes_among n t) ≡ closes_among (n + 1) t
  closes_more n t =
      leaves (has_open_scope p l t) (every_below n (λ u. not (is_hosted_by p t u && is_awake (l u).mode) || ends_next p l goes u)) (is_hosted_by p t n) (is_awake (l n).mode) (ends_next p l goes n)
      ∙ ap (λ b. has_open_scope p l t && b) (sym (every_more n (λ u. not (is_hosted_by p t u && is_awake (l u).mode) || ends_next p l goes u)))
    where
      leaves : (o v h a e : Bool) → cond (h && (a && not e)) false (o && v) ≡ (o && (v && (not (h && a) || e)))
      leaves o v true true true = ap (λ b. o && b) (sym (mathlib.Core.Bool.and-true v))
      leaves o v true true false = sym (ap (λ b. o && b) (mathlib.Core.Bool.and-false v) ∙ mathlib.Core.Bool.and-false o)
      leaves o v true false e = ap (λ b. o && b) (sym (mathlib.Core.Bool.and-true v))
      leaves o v false a e = ap (λ b. o && b) (sym (mathlib.Core.Bool.and-true v))

-- one track more
pub one_more : (f : ℕ → Bool) (n t r : ℕ) → n ≡ count_below t f → r ≡ cond (f t) 1 0 → n + r ≡ count_below (t + 1) f
one_more f n t r e g = rw (e, g) (sym (count_more t f))

pub none_more : (f : ℕ → Bool) (n t : ℕ) → n ≡ count_below t f → f t ≡ false → n ≡ count_below (t + 1) f
none_more f n t e g = let h = count_more t f in let z : ◌≡◌ {A = ℕ} (cond (f t) 1 0) 0 = rw g in omega arith

pub some_or_more : (f : ℕ → Bool) {t : ℕ} {d r e : Bool} → d ≡ some_below t f → r ≡ f t → e ≡ (d || r) → e ≡ some_below (t + 1) f
some_or_more f {t} e g h = h ∙ some_visit f t e g

module _ (terms : Terms) (p : Plan) (l : Ledger) (ts : List ℕ) (n t : ℕ) (b : t < n) {k : Track} (read : k ≡ track_of (l t)) where
  pub full_more : {f r d q : Bool} → f ≡ some_below t (full_next p l (moves_of ts n) terms) → q ≡ closes_next p l (moves_of ts n) t
      → r ≡ (leb terms.limit k.count && not (eqb (code_by p k.state (optional (get_or ts t 0)) q) 0)) → d ≡ (f || r)
      → d ≡ some_below (t + 1) (full_next p l (moves_of ts n) terms)
  full_more e f g h = some_or_more (full_next p l (moves_of ts n) terms) e (full_read terms p l ts n t b read f g) h
