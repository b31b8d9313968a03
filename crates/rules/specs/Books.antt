-- The books: any states, with a change for each transition and each retraction code, that meet property 3's conditions.
-- Assumes nothing.
use Rattle.std.specs.Prelude.{◌≡◌, false, List, [], ◌∷◌, ℕ, ◌<◌}
use Rattle.std.proofs.Math.Option.{some}
use Rattle.rules.specs.Names.{TrackNumber, TransitionNumber, Code}
use Rattle.rules.specs.declared.Terms.{Terms}
use Rattle.rules.specs.Plan.{Plan, transition_count, transition, host, owner, replacement, mover, is_above}
use Rattle.rules.specs.FinishedRun.{Finished}

-- changes done one after the other
unfoldable pub act : {B : Type 0} → (ℕ → B → B) → List ℕ → B → B
act change [] b = b
act change (x ∷ w) b = act change w (change x b)

module _ (p : Plan) where
  -- "where neither hosts the other, at any remove", of two tracks
  pub record Apart (t u : TrackNumber) : Type 0 where
    pub two : t ≡ u → ⊥
    pub not_above : is_above p t u ≡ false
    pub not_below : is_above p u t ≡ false

  -- "A track's changes are its transitions'; its retractions are the codes that its transitions and its hosting states install."
  pub data Deed : TrackNumber → Type 0 where
    change : (x : ℕ) → x < transition_count p → Deed (mover p x)
    retraction : (x : ℕ) → x < transition_count p → Deed (mover p x)
    replacing : (s t : ℕ) → host p t ≡ some s → Deed (owner p s)

  unfoldable pub does : {B : Type 0} → (ℕ → B → B) → (ℕ → B → B) → {t : ℕ} → Deed t → B → B
  does changed retracted (change x l) = changed x
  does changed retracted (retraction x l) = retracted (transition p x).code
  does changed retracted (replacing s t h) = retracted (replacement p s)

  pub record Books (terms : Terms) : Type 1 where
    pub State : Type 0
    -- the change of a transition, and that of a retraction code
    pub changed : TransitionNumber → State → State
    pub retracted : Code → State → State
    -- "code 0 changing none"
    pub nothing : (b : State) → retracted 0 b ≡ b
    -- "let each transition's code undo its change from every state of the books"
    pub undo : (x : TransitionNumber) → x < transition_count p → (b : State) → retracted (transition p x).code (changed x b) ≡ b
    -- "each hosting state's replacement undo every finished run of its hosted tracks"
    pub undo_run : (s t : ℕ) → host p t ≡ some s → (w : List ℕ) → Finished p terms s w
        → (b : State) → retracted (replacement p s) (act changed w b) ≡ b
    -- "changes and retractions of two tracks commute where neither hosts the other, at any remove"
    pub commute : (t u : TrackNumber) → Apart t u → (d : Deed t) (e : Deed u)
        → (b : State) → does changed retracted d (does changed retracted e b) ≡ does changed retracted e (does changed retracted d b)
