-- Where two tracks beside each other share a code, books cannot tell their changes apart: undoing the one right after the other, past the
-- first, which commutes with it, gives both. So no books keep the string of one automaton of such a plan. Assumes nothing.
use mathlib.Core.Path.{◌≡◌, sym, ap, ◌∙◌}
use Prim.Native.Nat.{ℕ, ◌<◌}
use Rattle.rules.specs.declared.Terms.{Terms}
use Rattle.rules.specs.Plan.{Plan, transition_count, transition, mover}
use Rattle.rules.specs.Books.{Apart, change, retraction, does, Books}

pub same_change : (p : Plan) (terms : Terms) (k : Books p terms) (x y : ℕ) → x < transition_count p → y < transition_count p
    → Apart p (mover p x) (mover p y) → (transition p x).code ≡ (transition p y).code → (b : k.State) → k.changed x b ≡ k.changed y b
unfolding does
same_change p terms k x y l m apart e b =
    ap (k.changed x) (sym (k.undo y m b))
    ∙ k.commute (mover p x) (mover p y) apart (change x l) (retraction y m) (k.changed y b)
    ∙ ap (λ c. k.retracted c (k.changed x (k.changed y b))) (sym e)
    ∙ k.undo x l (k.changed y b)
