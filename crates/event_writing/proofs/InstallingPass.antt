-- The pass that installs the movers' entries. Assumes nothing.
use Rattle.std.proofs.Common.{◌≡◌, sym, ap, ◌∙◌, inl, inr, true, not, List, ℕ, ◌+◌, ◌<◌, arith, eqb, length, get_or}
use Rattle.std.proofs.Math.Option.{Option, none, some}
use Rattle.rules.specs.declared.Counts.{Counts}
use Rattle.rules.specs.declared.Terms.{Terms}
use Rattle.rules.specs.Plan.{Plan, optional, transition}
use Rattle.rules.specs.Ledger.{Configuration, is_awake, written}
use Rattle.rules.specs.Event.{install, installed, destination_of, installed_by, has_code}
use Rattle.rules.proofs.Tests.{look, clash}
use Rattle.ledger.specs.Ladder.{Tidy, ledger_of}
use Rattle.lookup.specs.OneTrack.{with_configuration}
use Rattle.lookup.proofs.OneTrackLaws.{Stores, stores_at, holds, Fitting, through, pass_start, pass_old, pass_more}
use Rattle.event_choice.specs.Next.{moves_of}
use Rattle.event_choice.proofs.Visits.{moves_at}
use Rattle.event_writing.specs.EventParts.{Movers}

-- an entry given fits where there is room for it
pub installed_stores : (terms : Terms) (code deviation : ℕ) (x : Configuration) → Stores terms x → is_awake x.mode ≡ true
    → (not (eqb code 0) ≡ true → length x.held < terms.limit) → Stores terms (installed code deviation x)
unfolding installed install
installed_stores terms code deviation x s a r =
    elim (look (eqb code 0)) [
      | inl z ↦ rw z (record { fits = s.fits; blank = λ k. clash a k })
      | inr z ↦ rw z (record { fits = let b = r (ap not z) in omega arith; blank = λ k. clash a k })
    ]

pub move_stores : (terms : Terms) (p : Plan) (x : Configuration) (o : Option ℕ) → Stores terms x → ((i : ℕ) → o ≡ some i → is_awake x.mode ≡ true)
    → (has_code p o ≡ true → length x.held < terms.limit) → Stores terms (installed_by p o x)
unfolding installed_by has_code
move_stores terms p x none s a r = s
move_stores terms p x (some i) s a r = installed_stores terms (transition p i).code (transition p i).deviation x s (a i mathlib.Core.Path.refl) r

module _ (terms : Terms) (c : Counts) (ws : List ℕ) (o : Tidy terms ws c.tracks) (p : Plan) (ts : List ℕ) (m : Movers terms p (ledger_of terms c ws) (moves_of ts c.tracks)) where
  abbrev pub installing : ℕ → Configuration → Configuration
  installing t x = installed_by p (moves_of ts c.tracks t) x

  pub installing_stores : (t : ℕ) → Stores terms (installing t (ledger_of terms c ws t))
  installing_stores t =
      move_stores terms p (ledger_of terms c ws t) (moves_of ts c.tracks t) (stores_at terms c.tracks (ledger_of terms c ws) (holds terms c ws o) t) (m.awake t) (m.room t)

  pub installing_fits : Fitting terms c ws o installing
  installing_fits = record { fits = λ t b. (installing_stores t).fits; blank = λ t b. (installing_stores t).blank }

  pub installing_start : ws ≡ written terms c.tracks (through terms c ws o installing 0) ws
  installing_start = pass_start terms c ws o installing

  pub installing_to : (i s : ℕ) → i < c.tracks → optional s ≡ destination_of p (optional (get_or ts i 0)) → optional s ≡ destination_of p (moves_of ts c.tracks i)
  installing_to i s b d = d ∙ ap (destination_of p) (sym (moves_at ts c.tracks i b))

  module _ (i : ℕ) (b : i < c.tracks) {vs : List ℕ} (e : vs ≡ written terms c.tracks (through terms c ws o installing i) ws) where
    pub installing_room : has_code p (optional (get_or ts i 0)) ≡ true → length (ledger_of terms c vs i).held < terms.limit
    installing_room h =
        let q = pass_old terms c ws o installing installing_fits i (omega arith) e i (omega arith) in
        let r = m.room i (ap (has_code p) (moves_at ts c.tracks i b) ∙ h) in
        omega (arith, ap (λ (x : Configuration). length x.held) q)

    pub installing_more : {us : List ℕ} → us ≡ with_configuration terms c vs i (installed_by p (optional (get_or ts i 0)) (ledger_of terms c vs i))
        → us ≡ written terms c.tracks (through terms c ws o installing (i + 1)) ws
    installing_more d =
        pass_more terms c ws o installing installing_fits i (omega arith) e
        (d ∙ ap (λ z. with_configuration terms c vs i (installed_by p z (ledger_of terms c vs i))) (sym (moves_at ts c.tracks i b)))
