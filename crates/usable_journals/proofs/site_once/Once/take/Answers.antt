use Rattle.std.proofs.Common.{sym, subst}
use Rattle.std.proofs.lemmas.Result.{IfOk-weaker}
use Rattle.usable_journals.specs.OnceTold.{Takes}
use Rattle.usable_journals.proofs.site_once.Once.take.Goals as goal

pub returns-in-Prepared : goal.returns-in-Prepared
returns-in-Prepared c =
    let p = c.in-Prepared in
    IfOk-weaker c.prepare.result _ _ (λ fits takes. subst (λ e. Takes c.args.self.now c.prepare.new.self e fits) (sym p.is) (takes p.epoch p.number p.ticket p.writes)) c.prepare.ensures

pub returns-in-Ended : goal.returns-in-Ended
returns-in-Ended c = subst (λ e. Takes c.args.self.now c.end.new.self e c.end.result) (sym c.in-Ended.is) (c.end.ensures c.in-Ended.decision)

pub returns-in-Local : goal.returns-in-Local
returns-in-Local c =
    let p = c.in-Local in
    IfOk-weaker c.commit.result _ _ (λ fits takes. subst (λ e. Takes c.args.self.now c.commit.new.self e fits) (sym p.is) (takes p.number p.writes)) c.commit.ensures
