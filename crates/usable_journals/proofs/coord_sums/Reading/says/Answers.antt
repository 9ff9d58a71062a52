use Rattle.std.proofs.Common.{List, map, ap, ◌∙◌, sym}
use Rattle.fed_rules.specs.declared.sums.CommittedAttempt.{CommittedAttempt}
use Rattle.fed_rules.specs.declared.sums.OpenAttempt.{OpenAttempt}
use Rattle.usable_journals.specs.Reads.{committed_pair, open_pair}
use Rattle.usable_journals.proofs.SameLists.{is_sum, sum_commits, sum_opens}
use Rattle.usable_journals.proofs.coord_sums.Reading.says.Goals as goal

pub returns-then-not-are_open : goal.returns-then-not-are_open
returns-then-not-are_open c protocols records says stands = (
  λ e. absurd cc,
  λ is.
      sym c.if-not-are_open.true
      ∙ c.are_open.ensures.same.1 (ap (λ (xs : List OpenAttempt). map open_pair xs) c.as_slice.ensures ∙ sum_opens protocols c.args.self.now records c.args.sum.now says c.are_open.ensures.ordered is),
)

pub returns : goal.returns
returns c protocols records says stands = (
  λ e.
      is_sum protocols c.args.self.now records c.args.sum.now says stands c.are_open.ensures.ordered c.are_committed.ensures.ordered
      (ap (λ (xs : List OpenAttempt). map open_pair xs) (sym c.as_slice.ensures) ∙ c.are_open.ensures.same.0 c.if-not-are_open.false)
      (ap (λ (xs : List CommittedAttempt). map committed_pair xs) (sym c.as_slice-2.ensures) ∙ c.are_committed.ensures.same.0 e),
  λ is.
      c.are_committed.ensures.same.1
      (ap (λ (xs : List CommittedAttempt). map committed_pair xs) c.as_slice-2.ensures ∙ sum_commits protocols c.args.self.now records c.args.sum.now says stands c.are_committed.ensures.ordered is),
)
