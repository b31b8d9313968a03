-- The books of plan N: at 8 they meet the conditions though the replacement undoes nothing, because no run is finished there, and are given back. At
-- 32 they do not meet them, and are not given back: property 3 at 8 speaks of books of which property 3 at 32 does not. Assumes nothing.
use mathlib.Core.Path.{◌≡◌, refl, sym, subst}
use mathlib.Core.List.{List, [], ◌∷◌, ◌++◌}
use Prim.Native.Nat.{ℕ, zero, suc, ◌+◌, ◌<◌}
use native.Mathlib.Omega.{arith}
use borrow.Author.Tests.{ne_eqb}
use Rattle.rules.specs.declared.Terms.{Terms}
use Rattle.rules.specs.Setting.{main_terms, reading_room_terms}
use Rattle.rules.specs.Plan.{transition_count, transition, owner, replacement, mover}
use Rattle.rules.specs.Call.{Call, signal, fire}
use Rattle.rules.specs.FinishedRun.{Finished}
use Rattle.rules.specs.Books.{Apart, Deed, change, retraction, replacing, act, Books}
use Rattle.rules.specs.ReferenceRun.{ledger_after, AllWithdrawn}
use Rattle.rules.proofs.Tests.{clash}
use Rattle.starred.specs.SamplePlan.{lent_for}
use Rattle.starred.specs.Computing.{computing}
use Rattle.restoration.specs.LenientBooks.{freely_call, freely_booked, freely}
use Rattle.restoration.specs.SampleChain.{plan_n, counts_n, N, nine, counted, uncounted, GivenBack}
use Rattle.restoration.proofs.Runs01.{books01}
use Rattle.restoration.proofs.Restoration.{freely_restored}
use Rattle.restoration.proofs.ChainRuns.{reads-N, hosts-N, moves, none_finished, nine_finish, forth}

-- Only the root and the hosted track do anything, and these two are not apart.
pub data Track : ℕ → Type 0 where
  the_root : Track 0
  the_hosted : Track 1

mover_track : (x : ℕ) → x < transition_count N → Track (mover N x)
unfolding computing plan_n
mover_track = moves (λ x. Track (mover N x)) the_root the_root (λ n o. subst Track (sym o.mover) the_hosted)

pub deed_track : {t : ℕ} → Deed N t → Track t
unfolding computing plan_n
deed_track (change x l) = mover_track x l
deed_track (retraction x l) = mover_track x l
deed_track (replacing s t e) = subst (λ s. Track (owner N s)) (sym (hosts-N t s e)) the_root

pub never_apart : (t u : ℕ) → Track t → Track u → Apart N t u → ⊥
unfolding computing plan_n
never_apart _ _ the_root the_root a = a.two refl
never_apart _ _ the_root the_hosted a = clash refl a.not_above
never_apart _ _ the_hosted the_root a = clash refl a.not_below
never_apart _ _ the_hosted the_hosted a = a.two refl

raised : (n b : ℕ) → counted (suc (suc n)) b ≡ suc b
unfolding counted
raised n b = rw (ne_eqb (suc (suc n)) 1 (λ h. omega arith))

lowered : (b : ℕ) → uncounted 51 (suc b) ≡ b
unfolding uncounted
lowered b = omega arith

pub undone : (x : ℕ) → x < transition_count N → (b : ℕ) → uncounted (transition N x).code (counted x b) ≡ b
unfolding computing plan_n counted uncounted
undone =
    moves (λ x. (b : ℕ) → uncounted (transition N x).code (counted x b) ≡ b)
    (λ b. omega arith) (λ b. refl) (λ n o b. rw (o.code, raised n b) (lowered b))

pub code_zero : (b : ℕ) → uncounted 0 b ≡ b
unfolding uncounted
code_zero b = refl

abbrev pub books_n : Books N reading_room_terms
books_n =
    record {
      State = ℕ;
      changed = counted;
      retracted = uncounted;
      nothing = code_zero;
      undo = undone;
      undo_run = λ s t e w f b. absurd (none_finished w (subst (λ s. Finished N reading_room_terms s w) (hosts-N t s e) f));
      commute = λ t u a d e b. absurd (never_apart t u (deed_track d) (deed_track e) a);
    }

-- The replacement undoes nothing, and the nine moves change the number: these are no books at 32.
pub undoes_nothing : (b : ℕ) → (uncounted (replacement N 1) b ≡ b) × (act counted nine b ≡ 9 + b)
unfolding computing plan_n counted uncounted act
undoes_nothing b = (refl, omega arith)

pub not_undone : ((w : List ℕ) → Finished N main_terms 1 w → (b : ℕ) → uncounted (replacement N 1) (act counted w b) ≡ b) → ⊥
unfolding computing plan_n counted uncounted act
not_undone h = let z : ◌≡◌ {A = ℕ} 9 0 = h nine nine_finish 0 in omega arith

-- And a list of calls at 32 that withdraws every root leaves the number changed.
abbrev calls : List Call
calls = forth ++ signal (record { society = 1 }) ∷ fire (record { track = 0; society = 1 }) ∷ fire (record { track = 0; society = 1 }) ∷ []

withdrawn : AllWithdrawn N (ledger_after main_terms plan_n N (lent_for 2) calls)
unfolding computing plan_n
withdrawn zero l r = record { undoing = refl; empty = refl; shut = refl }
withdrawn (suc zero) l r = clash r refl
withdrawn (suc (suc t)) l r = absurd (omega arith)

-- the conditions are asked at the limit of the calls: so it holds at both, but not at 32 with those of 8
pub given_back : (terms : Terms) → GivenBack terms terms
given_back terms k lent cs h w b = freely_restored terms plan_n counts_n reads-N (books01 N terms k) lent cs h b w

pub not_given_back : GivenBack main_terms reading_room_terms → ⊥
unfolding computing plan_n counted uncounted act freely freely_booked freely_call
not_given_back h = let z : ◌≡◌ {A = ℕ} 9 0 = h books_n (lent_for 2) calls refl withdrawn 0 in omega arith
