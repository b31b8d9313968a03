-- The number of each kind, and the kind that a number stands for: any other number is refused by 3. Assumes nothing.
use Rattle.std.specs.Prelude.{◌≡◌, ℕ, Result, MatchResult}
use Rattle.rules.specs.declared.Refusal.{Refusal}
use Rattle.rules.specs.Record as rules
use Rattle.rules.specs.Refusals as refusals
use Rattle.plan_scan.specs.declared.kinds.Kind.{Kind}
use Rattle.plan_scan.specs.declared.kinds.Kind.TheVariants as kind

abbrev pub number_of : Kind → ℕ
number_of kind.Track = rules.track_kind
number_of kind.State = rules.state_kind
number_of kind.Transition = rules.transition_kind
number_of kind.End = rules.end_kind
number_of kind.Window = rules.window_kind
number_of kind.Grant = rules.grant_kind

abbrev pub Decodes : ℕ → Result Kind Refusal → Type 0
Decodes number r = MatchResult r (λ k. number_of k ≡ number) (λ e. (refusals.number_of e ≡ 3) × (rules.length_of number ≡ 0))
