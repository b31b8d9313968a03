-- What a track holds lies along its way: a path from its first state to the state that it is in, whose entries are no fewer. A scope that is open there
-- has still its replacement to give, which the path counts already; so room is left for it until it closes. No entry carries a deviation, so that
-- firing leads no track off its path. Assumes nothing.
use mathlib.Core.Path.{◌≡◌, refl}
use mathlib.Core.Logic.{inl, inr}
use mathlib.Core.Bool.{Bool, true, false, cond}
use mathlib.Core.List.{List, [], ◌∷◌, ◌++◌}
use Prim.Native.Nat.{ℕ, ◌+◌, ◌≤◌}
use native.Mathlib.Omega.{arith}
use lib.ListN.{length}
use lib.Dec.{eqb}
use Rattle.rules.specs.Plan.{Plan, no_state, transition, replacement, is_hosting, first_state}
use Rattle.rules.specs.Ledger.{Entry, Configuration, Ledger}
use Rattle.rules.specs.Scope.{is_open}
use Rattle.rules.specs.Opening.{fresh}
use Rattle.rules.specs.Event.{install}
use Rattle.rules.specs.FiringsDue.{is_plain}
use Rattle.rules.specs.Largest.{of_transition, of_state, leaves, is_path, end_of, entries_along}
use Rattle.rules.proofs.Tests.{look}
use Rattle.rules.proofs.Paths.{path_longer, end_longer, entries_longer}
use Rattle.theory.proofs.Nesting.{Awake}
use Rattle.restoration.proofs.Plain.{plain_none, plain_install}

-- a code other than 0 is one entry more
length-install_lem : (code deviation : ℕ) (es : List Entry) → length (install code deviation es) ≡ length es + cond (eqb code 0) 0 1
unfolding install
length-install_lem code deviation es = elim (look (eqb code 0)) [ inl e ↦ rw e (omega arith) | inr e ↦ rw e (omega arith) ]

module _ (p : Plan) where
  -- the entry that the scope of a state, if it is open, has still to give
  unfoldable pub due : Bool → ℕ → ℕ
  due o s = cond o (of_state p s) 0

  due_most : (o : Bool) (s : ℕ) → due o s ≤ of_state p s
  unfolding due
  due_most true s = omega arith
  due_most false s = omega arith

  due_less : (o q : Bool) (s : ℕ) → (q ≡ true → o ≡ true) → due q s ≤ due o s
  unfolding due
  due_less o true s f = rw (f refl) (omega arith)
  due_less o false s f = omega arith

  -- the way of a track, given its configuration and whether the scope of its state is open
  pub record Way (t : ℕ) (o : Bool) (c : Configuration) : Type 0 where
    pub path : List ℕ
    pub leads : is_path p (first_state p t) path ≡ true
    pub to : end_of p (first_state p t) path ≡ c.state
    pub room : length c.held + due o c.state ≤ entries_along p (first_state p t) path
    pub plain : is_plain c.held ≡ true

  pub way_fresh : (t : ℕ) (o : Bool) → Way t o (fresh p t)
  unfolding fresh is_path end_of entries_along
  way_fresh t o = record { path = []; leads = refl; to = refl; room = omega (arith, due_most o (first_state p t)); plain = plain_none }

  -- no scope opens
  pub way_shut : (t : ℕ) (o q : Bool) (c : Configuration) → (q ≡ true → o ≡ true) → Way t o c → Way t q c
  way_shut t o q c f y =
      record { path = y.path; leads = y.leads; to = y.to; room = omega (arith, y.room, due_less o q c.state f); plain = y.plain }

  -- a track that holds no more, in the same state
  pub way_fewer : (t : ℕ) (o : Bool) (c d : Configuration) → d.state ≡ c.state → length d.held ≤ length c.held → is_plain d.held ≡ true
      → Way t o c → Way t o d
  way_fewer t o c d e f g y =
      record { path = y.path; leads = y.leads; to = rw e y.to; room = rw e (omega (arith, y.room, f)); plain = g }

  -- a track that takes a transition of its state
  pub way_longer : (t x : ℕ) (o q : Bool) (c d : Configuration) → leaves p c.state x ≡ true → (transition p x).deviation ≡ no_state
      → d.state ≡ (transition p x).destination → d.held ≡ install (transition p x).code (transition p x).deviation c.held
      → Way t o c → Way t q d
  unfolding of_transition
  way_longer t x o q c d l n e h y =
      let k = transition p x in
      let one = length-install_lem k.code k.deviation c.held in
      let more = entries_longer p (first_state p t) y.path x in
      record {
        path = y.path ++ (x ∷ []);
        leads = path_longer p (first_state p t) y.path x y.leads (rw y.to l);
        to = rw e (end_longer p (first_state p t) y.path x);
        room = rw (e, h) (omega (arith, y.room, one, more, due_most q k.destination));
        plain = rw h (plain_install k.code k.deviation c.held n y.plain);
      }

  -- a track whose scope closes: it gets what it had room for
  pub way_replaced : (t : ℕ) (c d : Configuration) → is_hosting p c.state ≡ true → d.state ≡ c.state
      → d.held ≡ install (replacement p c.state) no_state c.held → Way t true c → Way t false d
  unfolding due of_state
  way_replaced t c d g e h y =
      let r = replacement p c.state in
      let one = length-install_lem r no_state c.held in
      let is : of_state p c.state ≡ cond (eqb r 0) 0 1 = elim (look (eqb r 0)) [ inl z ↦ rw (g, z) | inr z ↦ rw (g, z) ] in
      record {
        path = y.path;
        leads = y.leads;
        to = rw e y.to;
        room = rw h (omega (arith, y.room, one, is));
        plain = rw h (plain_install r no_state c.held refl y.plain);
      }

  -- every awake track has come its way
  abbrev pub Ways : Ledger → Type 0
  Ways l = (t : ℕ) → Awake l t → Way t (is_open p l (l t).state) (l t)
