use Rattle.std.proofs.Common.{sym, subst, ◌∙◌}
use Rattle.std.proofs.lemmas.Result.{IfOk-weaker}
use Rattle.fed_rules.specs.Usable.{IsUsableCoordinator}
use Rattle.std.specs.Prelude.{reverse}
use Rattle.usable_journals.proofs.journals.is_usable_first.Goals as goal

pub returns-then-not-branch : goal.returns-then-not-branch
returns-then-not-branch c = (
  λ e. absurd cc,
  λ first.
      sym c.if-not-branch.true
      ∙ c.in_ok-is_usable_coordinator.ensures.1
      (subst (λ ps. IsUsableCoordinator ps (reverse c.args.coordinator.now)) (sym c.in_ok-protocols.ensures) first.journal),
)

pub returns : goal.returns
returns c =
    IfOk-weaker c.are_unnamed.result _ _
    (λ unnamed told. (
      λ e. record {
        journal = subst (λ ps. IsUsableCoordinator ps (reverse c.args.coordinator.now)) c.in_ok-protocols.ensures (c.in_ok-is_usable_coordinator.ensures.0 c.if-not-branch.false);
        unnamed = told.0 e;
      },
      λ first. told.1 first.unnamed,
    )) c.are_unnamed.ensures
