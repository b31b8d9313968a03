-- Soundness as document 01 says it: on ledgers it is soundness as the theory says it, the words of a sound ledger are sound, and sound words
-- hold a sound ledger, or one that is over. So progress holds on sound words. Assumes nothing.
use mathlib.Core.Path.{◌≡◌, sym, ap, ◌∙◌, subst}
use mathlib.Core.Logic.{inl, inr}
use mathlib.Core.Bool.{true, false, not, ◌&&◌, ◌||◌}
use mathlib.Core.List.{List}
use Prim.Native.Nat.{ℕ, ◌<◌, ◌≤◌}
use lib.ListN.{length}
use native.Mathlib.Omega.{arith}
use lib.Dec.{ltb}
use borrow.Author.Tests.{ltb-true, ltb-false, not-true}
use Rattle.rules.specs.declared.Mode.TheVariants.{Undoing}
use Rattle.rules.specs.Names.{Day}
use Rattle.rules.specs.declared.Terms.{Terms}
use Rattle.rules.specs.Day.{is_day}
use Rattle.rules.specs.Plan.{Plan, track_count}
use Rattle.rules.specs.Layout.{word_count}
use Rattle.rules.specs.Leading.{last_day}
use Rattle.rules.specs.Ledger.{Configuration, Ledger, is_awake, is_empty, ledger_at, written}
use Rattle.rules.specs.Scope.{is_over}
use Rattle.rules.specs.Fire.{may_fire}
use Rattle.rules.specs.Soundness.{are_tidy, is_live, is_sound}
use Rattle.rules.specs.Call.{Call, next}
use Rattle.rules.proofs.Tests.{look, clash, and_holds, and_both, or_holds, or_right, same_test}
use Rattle.rules.proofs.Folds.{every_at}
use Rattle.rules.proofs.Acceptance.{Accepted}
use Rattle.rules.proofs.Soundness.{Live, live_facts, live_of}
use Rattle.rules.proofs.LeadingLaws.{day_written}
use Rattle.rules.proofs.Stored.{Storable, read_written, tidy_written, storable_read}
use Rattle.theory.proofs.Nesting.{Awake, Nested}
use Rattle.theory.proofs.Entries.{Good, may_deviate_lem}
use Rattle.theory.proofs.SoundParts.{Formed, Sound, Over, sleeping_asleep, sleeping_held, sleeping_few, sleeping_good}
use Rattle.theory.proofs.SoundKept as theory
use Rattle.theory.proofs.SoundKept.{Kept, over_is}
use Rattle.theory.proofs.Histories.{kept_progress}
use Rattle.restoration.proofs.Document01.{document01, as_theory, there_and_back, laws01, unfinished01}

module _ (terms : Terms) (p : Plan) (ok : Accepted p) (l : Ledger) where
  pub sound_of : Storable terms (track_count p) l → is_live p l ≡ true → Sound document01 terms p l
  sound_of s h =
      record {
        formed = record { nested = nest; few = s.fits; good = good };
        roots = v.roots;
        closing = v.closing;
        finish = v.finish;
        abandoning = v.abandoning;
      }
    where
      v : Live p l
      v = live_facts p ok l h

      low : (t : ℕ) → Awake l t → t < track_count p
      low t a =
          elim (look (ltb t (track_count p))) [
            | inl b ↦ ltb-true t (track_count p) b
            | inr b ↦
                clash a (ap (λ (c : Configuration). is_awake c.mode) (s.beyond t (ltb-false t (track_count p) b)) ∙ sleeping_asleep)
          ]

      nest : Nested p l
      nest =
          record {
            below = low;
            own = λ t a. v.own t (low t a) a;
            hosted = λ t h a e. v.up t h e a;
            whole = λ t u h e f. same_test (is_awake (l t).mode) (is_awake (l u).mode) (v.whole h t u e f) (v.whole h u t f e);
            blank = s.blank;
          }

      good : (t : ℕ) → Good p t (l t).held
      good t =
          elim (look (ltb t (track_count p))) [
            | inl b ↦
                let c = ltb-true t (track_count p) b in
                record { codes = v.codes t c; deviations = sym (may_deviate_lem p l t (l t).held) ∙ v.deviations t c }
            | inr b ↦
                sleeping_good terms p t (l t) (ap (λ (c : Configuration). c.held) (s.beyond t (ltb-false t (track_count p) b)) ∙ sleeping_held)
          ]

  pub sound_live : Sound document01 terms p l → is_live p l ≡ true
  sound_live s =
      let f = s.formed in
      live_of p ok l
      (record {
        roots = s.roots;
        own = λ t b a. f.nested.own t a;
        codes = λ t b. (f.good t).codes;
        deviations = λ t b. may_deviate_lem p l t (l t).held ∙ (f.good t).deviations;
        whole = λ s t u e g a. sym (f.nested.whole t u s e g) ∙ a;
        up = λ t h e a. f.nested.hosted t h a e;
        closing = s.closing;
        finish = s.finish;
        abandoning = s.abandoning;
      })

  pub formed_storable : Formed terms p l → Storable terms (track_count p) l
  formed_storable f =
      record {
        fits = f.few;
        beyond =
            λ t b.
            f.nested.blank t
            (elim (look (is_awake (l t).mode)) [ inr a ↦ a | inl a ↦ let c = f.nested.below t a in absurd (omega arith) ]);
        blank = f.nested.blank;
      }

module _ (terms : Terms) (p : Plan) (ok : Accepted p) where
  over_storable : (l : Ledger) → Over l → Storable terms (track_count p) l
  over_storable l o =
      record {
        fits = λ t. sleeping_few terms p (l t) (ap (λ (c : Configuration). c.held) (o t) ∙ sleeping_held);
        beyond = λ t b. o t;
        blank = λ t a. o t;
      }

  pub kept_storable : (l : Ledger) → Kept document01 terms p l → Storable terms (track_count p) l
  kept_storable l (inl o) = over_storable l o
  kept_storable l (inr s) = formed_storable terms p ok l s.formed

  pub kept_is : (l : Ledger) → Kept document01 terms p l → (is_over p l || is_live p l) ≡ true
  kept_is l (inl o) = rw (over_is p l o)
  kept_is l (inr s) = or_right (is_over p l) (is_live p l) (sound_live terms p ok l s)

  -- any call, refused or not
  pub kept_next : (d : Day) (l : Ledger) → Kept document01 terms p l → (c : Call) → Kept document01 terms p (next terms p d l c)
  kept_next d l k c =
      subst (λ e. Kept document01 terms p (next terms p d l e)) (there_and_back c) (theory.kept_next laws01 unfinished01 terms p ok d l k (as_theory c))

  -- The same on words; writing tracks leaves the day.
  pub words_sound : (l : Ledger) (ws : List ℕ) → word_count terms (track_count p) ≤ length ws → is_day (last_day ws) ≡ true → Kept document01 terms p l
      → is_sound terms p (written terms (track_count p) l ws) ≡ true
  unfolding is_sound
  words_sound l ws b d k =
      let st = kept_storable l k in
      let vs = written terms (track_count p) l ws in
      let q = read_written terms (track_count p) l ws st.fits b st.beyond in
      and_both (is_day (last_day vs) && are_tidy terms vs (track_count p))
      (is_over p (ledger_at terms vs (track_count p)) || is_live p (ledger_at terms vs (track_count p)))
      (and_both (is_day (last_day vs)) (are_tidy terms vs (track_count p)) (ap is_day (day_written ws ws terms (track_count p) l st.fits b) ∙ d)
      (tidy_written terms (track_count p) l ws st b))
      (rw q (kept_is l k))

  -- and what sound words hold: a day in range,
  pub words_day : (ws : List ℕ) → is_sound terms p ws ≡ true → is_day (last_day ws) ≡ true
  unfolding is_sound
  words_day ws s =
      let l = ledger_at terms ws (track_count p) in
      let (b, v) = and_holds (is_day (last_day ws) && are_tidy terms ws (track_count p)) (is_over p l || is_live p l) s in
      (and_holds (is_day (last_day ws)) (are_tidy terms ws (track_count p)) b).0

  -- and a sound ledger, or one that is over
  pub words_kept : (ws : List ℕ) → is_sound terms p ws ≡ true → Kept document01 terms p (ledger_at terms ws (track_count p))
  unfolding is_sound is_over
  words_kept ws s =
      let l = ledger_at terms ws (track_count p) in
      let (b, v) = and_holds (is_day (last_day ws) && are_tidy terms ws (track_count p)) (is_over p l || is_live p l) s in
      let tidy = (and_holds (is_day (last_day ws)) (are_tidy terms ws (track_count p)) b).1 in
      let st = storable_read terms (track_count p) ws tidy in
      elim (or_holds (is_over p l) (is_live p l) v) [
        | inr h ↦ inr (sound_of terms p ok l st h)
        | inl o ↦
            inl
            (λ t.
            elim (look (ltb t (track_count p))) [
              | inl b ↦
                  st.blank t
                  (not-true (is_awake (l t).mode) (every_at (track_count p) (λ t. not (is_awake (l t).mode)) o t (ltb-true t (track_count p) b)))
              | inr b ↦ st.beyond t (ltb-false t (track_count p) b)
            ])
      ]

  -- Progress, on sound words.
  pub progress_words : (ws : List ℕ) → is_sound terms p ws ≡ true
      → (t : ℕ) → (ledger_at terms ws (track_count p) t).mode ≡ Undoing → is_empty (ledger_at terms ws (track_count p) t).held ≡ false
      → (u : ℕ) × (may_fire p (ledger_at terms ws (track_count p)) u ≡ true)
  progress_words ws s = kept_progress laws01 unfinished01 terms p ok (ledger_at terms ws (track_count p)) (words_kept ws s)
