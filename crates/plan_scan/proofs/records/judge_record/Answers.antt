-- The record's table of refusals has its first test that holds where the code returns. Assumes nothing.
use Rattle.std.proofs.Common.{◌≡◌, sym, ◌∙◌, rules}
use Rattle.rules.specs.Record.{kind_at, size_at, rank_of, end_kind}
use Rattle.rules.proofs.Tests.{clash}
use Rattle.plan_scan.specs.Kinds.{number_of}
use Rattle.plan_scan.proofs.KindTables.{real, is_end, end_is}
use Rattle.plan_scan.proofs.RecordTable.{wrong_length, cut_short, too_many, more_follows, passes}
use Rattle.plan_scan.proofs.records.judge_record.Goals as goal
use Rattle.plan_scan.proofs.records.judge_record.Goals.{else-eq-via-then-eq+else-size-left, else-eq-via-else-eq}

pub returns-then-size-length : goal.returns-then-size-length
unfolding kind_at size_at rank_of
returns-then-size-length c =
    wrong_length _ _ _ _ (number_of c.in_ok-kind.kind) (search rules) (search rules) (real _) (search rules) (search rules)

pub returns-then-left-size : goal.returns-then-left-size
unfolding kind_at size_at rank_of
returns-then-left-size c =
    cut_short _ _ _ _ (number_of c.in_ok-kind.kind) (search rules) (search rules) (real _) (search rules) (search rules) (search rules)

pub returns-then-most-count : goal.returns-then-most-count
unfolding kind_at size_at rank_of
returns-then-most-count c =
    too_many _ _ _ _ (number_of c.in_ok-kind.kind) (search rules) (search rules) (real _) (search rules) (search rules) (search rules) (search rules)

pub returns-then-size-left : goal.returns-then-size-left
unfolding kind_at size_at rank_of
returns-then-size-left c =
    more_follows _ _ _ _ (number_of c.in_ok-kind.kind) (search rules) (search rules) (real _) (search rules) (search rules) (search rules) (search rules)
    (is_end _ (sym c.eq.ensures ∙ c.if-eq.true)) (search rules)

pub returns : goal.returns
unfolding kind_at size_at rank_of
returns c = (
  passes _ _ _ _ (number_of c.in_ok-kind.kind) (search rules) (search rules) (real _) (search rules) (search rules) (search rules) (search rules)
      (λ (e : number_of c.in_ok-kind.kind ≡ end_kind).
      elim c.else-eq.branch [ else-eq-via-then-eq+else-size-left w ↦ search rules | else-eq-via-else-eq w ↦ clash (c.eq.ensures ∙ end_is _ e) w.if-eq.false ]),
  search rules,
)
