use Rattle.std.proofs.Common.{sym, subst}
use Rattle.std.proofs.lemmas.Result.{IfOk-weaker}
use Rattle.usable_journals.specs.Recorded.{Takes}
use Rattle.usable_journals.proofs.coord_order.Recorded.take.Goals as goal

pub returns-in-Initiation : goal.returns-in-Initiation
returns-in-Initiation c =
    IfOk-weaker c.begin.result _ _ (λ fits takes. subst (λ e. Takes c.args.self.now c.begin.new.self e fits) (sym c.in-Initiation.is) (takes c.in-Initiation.participants)) c.begin.ensures

pub returns-in-Commit : goal.returns-in-Commit
returns-in-Commit c =
    IfOk-weaker c.commit.result _ _ (λ fits takes. subst (λ e. Takes c.args.self.now c.commit.new.self e fits) (sym c.in-Commit.is) (takes c.in-Commit.tickets)) c.commit.ensures

pub returns-in-Abort : goal.returns-in-Abort
returns-in-Abort c =
    IfOk-weaker c.abort.result _ _ (λ fits takes. subst (λ e. Takes c.args.self.now c.abort.new.self e fits) (sym c.in-Abort.is) (takes c.in-Abort.participants)) c.abort.ensures
