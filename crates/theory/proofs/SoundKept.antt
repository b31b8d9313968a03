-- Every accepted call takes every sound ledger, a crafted one too, to a sound one or to all asleep; and a sound one is not over. Assumes
-- nothing.
use mathlib.Core.Path.{◌≡◌, sym, ap, ◌∙◌, subst}
use mathlib.Core.Logic.{◌⊎◌, inl, inr}
use mathlib.Core.Bool.{true, false, not}
use lib.Dec.{eqb}
use borrow.Author.Tests.{eqb-true, eqb-false, not-true}
use Rattle.rules.specs.Plan.{Plan, track_count}
use Rattle.rules.specs.Ledger.{Configuration, Ledger, is_awake}
use Rattle.rules.specs.Scope.{is_over}
use Rattle.rules.proofs.Tests.{look, clash, refuted}
use Rattle.rules.proofs.Folds.{every_at, every_of}
use Rattle.rules.proofs.Acceptance.{Accepted}
use Rattle.theory.specs.Seams.{Seams, Call, event, signal, fire, work}
use Rattle.theory.proofs.SoundParts.{Sound, Over, sleeping_asleep}
use Rattle.theory.proofs.Laws.{Laws, Unfinished}
use Rattle.theory.proofs.Settling.{over_refused}
use Rattle.theory.proofs.ClosingNested.{closed_done}
use Rattle.theory.proofs.SoundBegin.{root_zero}
use Rattle.theory.proofs.SoundEvent.{event_formed, event_roots, event_abandoning}
use Rattle.theory.proofs.SoundRetraction.{signal_sound, fire_sound}
use Rattle.rules.specs.declared.Terms.{Terms}

-- over, or sound
abbrev pub Kept : Seams → Terms → Plan → Ledger → Type 0
Kept σ terms p l = Over l ⊎ Sound σ terms p l

pub over_is : (p : Plan) (l : Ledger) → Over l → is_over p l ≡ true
unfolding is_over
over_is p l o =
    every_of (track_count p) (λ t. not (is_awake (l t).mode))
    (λ t b. ap (λ (c : Configuration). not (is_awake c.mode)) (o t) ∙ ap not sleeping_asleep)

-- a sound ledger is not over: its roots are awake
pub sound_not_over : {σ : Seams} (terms : Terms) (p : Plan) → Accepted p → (l : Ledger) → Sound σ terms p l → is_over p l ≡ false
unfolding is_over
sound_not_over terms p ok l s =
    refuted (is_over p l)
    (λ o.
    clash (s.roots 0 ok.some_track (root_zero p ok))
    (not-true (is_awake (l 0).mode) (every_at (track_count p) (λ t. not (is_awake (l t).mode)) o 0 ok.some_track)))

-- and a kept one that is not over is sound
pub kept_sound : {σ : Seams} (terms : Terms) (p : Plan) (l : Ledger) → Kept σ terms p l → is_over p l ≡ false → Sound σ terms p l
kept_sound terms p l (inl o) n = clash (over_is p l o) n
kept_sound terms p l (inr s) n = s

module _ {σ : Seams} (ω : Laws σ) (υ : Unfinished σ) (terms : Terms) (p : Plan) (ok : Accepted p) (h : σ.Head) (l : Ledger) where
  open σ use {moved, is_finishing, looks_for_finish, refusal, next}

  module _ (s : Sound σ terms p l) where
    -- a call's work keeps a ledger sound, if finish is not due after it
    work_sound : (c : Call σ) → refusal terms p h l c ≡ 0 → is_finishing p (work σ p l c) ≡ false → Sound σ terms p (work σ p l c)
    work_sound (event a) z f =
        record {
          formed = event_formed ω terms p ok l s.formed a (ω.event_accepted terms p h l a z).1;
          roots = event_roots ω terms p ok l s.formed a s.roots;
          closing = closed_done ω p (moved p l a) a;
          finish = f;
          abandoning = event_abandoning ω terms p ok l s.formed a s.abandoning;
        }
    work_sound (signal a) z f = signal_sound ω terms p ok l s a f
    work_sound (fire a) z f = fire_sound ω terms p ok l s (σ.track a) (ω.fire_accepted terms p h l a z).1 f

    pub kept_accepted : (c : Call σ) → refusal terms p h l c ≡ 0 → Kept σ terms p (next terms p h l c)
    kept_accepted c z =
        elim (ω.settled terms p h l c z) [
          | inr o ↦ inl o
          | inl q ↦
              inr
              (subst (Sound σ terms p) (sym q.0)
              (work_sound c z (elim (look (looks_for_finish c)) [ inl y ↦ q.1 y | inr y ↦ υ terms p ok h l s c z y ])))
        ]

  -- any call, refused or not
  pub kept_next : Kept σ terms p l → (c : Call σ) → Kept σ terms p (next terms p h l c)
  kept_next k c =
      elim (look (eqb (refusal terms p h l c) 0)) [
        | inl z ↦ go k (eqb-true (refusal terms p h l c) 0 z)
        | inr z ↦ subst (Kept σ terms p) (sym (ω.refused terms p h l c (eqb-false (refusal terms p h l c) 0 z)).0) k
      ]
    where
      go : Kept σ terms p l → refusal terms p h l c ≡ 0 → Kept σ terms p (next terms p h l c)
      go (inl o) z = absurd (over_refused ω terms p h l (over_is p l o) c z)
      go (inr s) z = kept_accepted s c z
