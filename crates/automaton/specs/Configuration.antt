-- Configurations of a compensating automaton: the report's Definitions 4 to 7. Tracks are its automata, codes its compensations, which
-- have no guard and no programmed compensation here. Assumes nothing.
use Rattle.std.specs.Prelude.{Bool, true, false, cond, ◌&&◌, ◌||◌, List, [], ◌∷◌, ℕ, zero, suc, eqb}
use Rattle.std.proofs.Math.Option.{Option, none, some}
use Rattle.rules.specs.Plan.{Plan, track_count, is_final, is_in, is_hosting, first_state}
use Rattle.automaton.specs.Listing.{listed, some_of, every_of}

-- Definition 4. "an automaton execution direction, is of type ℛ = {→, ←} signifying forward and backward execution respectively"
pub data Direction : Type 0 where
  forward : Direction
  backward : Direction

-- "each element of type Stack can either be a compensation or a deviation: Stack ::= Comp 𝒞 | Dev 𝒟"
pub data Element : Type 0 where
  Comp : ℕ → Element
  Dev : ℕ → Element

abbrev pub Stack : Type 0
Stack = List Element

-- "either (i) a basic configuration composed of an automaton .. a state .. a (forward or backward) direction .. and a stack .. (ii) a nested
-- configuration consisting of a basic configuration and the configuration of the nested automata vector; or (iii) a vector configuration
-- encoded as a sequence of nested configurations"
mutual
  pub data NConf : Type 0 where
    Basic : ℕ → ℕ → Direction → Stack → NConf
    Nest : ℕ → ℕ → Direction → Stack → Conf → NConf

  pub data Conf : Type 0 where
    end : Conf
    next : NConf → Conf → Conf

-- a vector of a sequence, and the sequence of a vector
unfoldable pub Vect : List NConf → Conf
Vect [] = end
Vect (c ∷ cs) = next c (Vect cs)

unfoldable pub members : Conf → List NConf
members end = []
members (next c cs) = c ∷ members cs

-- Definition 5. c ▷ S = (Comp c) : S
unfoldable pub push_comp : ℕ → Stack → Stack
push_comp c S = Comp c ∷ S

-- d ▷ S = S if d = ○, (Dev d) : S otherwise
unfoldable pub push_dev : Option ℕ → Stack → Stack
push_dev none S = S
push_dev (some d) S = Dev d ∷ S

-- c ▷ d ▷ S. Document 01: "A code other than 0 is installed as the newest entry, with its deviation"
unfoldable pub push : ℕ → Option ℕ → Stack → Stack
push c d S = cond (eqb c 0) S (push_comp c (push_dev d S))

unfoldable pub is_forwards : Direction → Bool
is_forwards forward = true
is_forwards backward = false

unfoldable pub is_backwards : Direction → Bool
is_backwards forward = false
is_backwards backward = true

unfoldable pub is_empty_stack : Stack → Bool
is_empty_stack [] = true
is_empty_stack (s ∷ S) = false

module _ (p : Plan) where
  -- Definition 6. "terminated .. if and only if it has reached a final state and it is in forward direction: q ∈ F ∧ ~ = →"
  -- "Nested configurations are neither terminated nor compensated"
  unfoldable pub is_terminated : NConf → Bool
  is_terminated (Basic A q r S) = is_final p q && is_forwards r
  is_terminated (Nest A q r S c) = false

  -- "compensated .. if and only if it has an empty stack and it is in backward direction: S = [] ∧ ~ = ←"
  unfoldable pub is_compensated : NConf → Bool
  is_compensated (Basic A q r S) = is_empty_stack S && is_backwards r
  is_compensated (Nest A q r S c) = false

  -- "A vector configuration is said to have terminated if all sub-configurations are either terminated or compensated and at least one
  -- has terminated"
  unfoldable pub has_terminated : Conf → Bool
  has_terminated c = some_of is_terminated (members c) && every_of (λ n. is_terminated n || is_compensated n) (members c)

  -- "a vector configuration is said to have compensated if all sub-configurations have compensated"
  unfoldable pub has_compensated : Conf → Bool
  has_compensated c = every_of is_compensated (members c)

  -- Definition 7. "init .. starts each automaton from its respective initial state with an empty stack": init(Â) = [goto(A₁, q₀₁, []), ..].
  -- `goto` is the function that init and goto use of each other, `f` tells the automata of the vector
  unfoldable pub init_by : (ℕ → ℕ → Stack → NConf) → (ℕ → Bool) → Conf
  init_by goto f = Vect (listed (track_count p) f (λ A. goto A (first_state p A) []))

  -- "If the function goto is called on a basic state, then the configuration returned is a basic configuration. Otherwise, if the state is
  -- nested, the configuration of the nested vector of automata is obtained through a recursive use of init", as far as n levels go
  unfoldable pub goto_to : ℕ → ℕ → ℕ → Stack → NConf
  goto_to zero A q S = Basic A q forward S
  goto_to (suc n) A q S = cond (is_hosting p q) (Nest A q forward S (init_by (goto_to n) (is_in p q))) (Basic A q forward S)

  -- a hosted automaton's number is above its host's, so as many levels as automata are all there are
  unfoldable pub goto : ℕ → ℕ → Stack → NConf
  goto = goto_to (track_count p)

  unfoldable pub init : (ℕ → Bool) → Conf
  init = init_by goto
