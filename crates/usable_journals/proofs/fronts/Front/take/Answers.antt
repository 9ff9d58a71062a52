use Rattle.std.proofs.Common.{List, true, sym, subst}
use Rattle.std.proofs.lemmas.Result.{IfOk-weaker}
use Rattle.mdb_base.specs.declared.rows.Put.{Put}
use Rattle.fed_rules.specs.declared.records.SiteRecord.TheVariants.{Prepared}
use Rattle.usable_journals.specs.Fronts.{Takes}
use Rattle.usable_journals.proofs.FrontSteps.{passes_site, passes_start, passes_sum}
use Rattle.usable_journals.proofs.fronts.Front.take.Goals as goal

pub returns-in-Setup : goal.returns-in-Setup
returns-in-Setup c = subst (λ e. Takes c.args.self.now c.args.self.now e true) (sym c.in-Setup.is) (passes_site c.args.self.now _ _ _ _)

pub returns-in-Start : goal.returns-in-Start
returns-in-Start c = subst (λ e. Takes c.args.self.now c.args.self.now e true) (sym c.in-Start.is) (passes_start c.args.self.now _)

pub returns-in-Checkpoint : goal.returns-in-Checkpoint
returns-in-Checkpoint c = subst (λ e. Takes c.args.self.now c.args.self.now e true) (sym c.in-Checkpoint.is) (passes_sum c.args.self.now _)

pub returns-in_ok-copy_rows-in-Prepared : goal.returns-in_ok-copy_rows-in-Prepared
returns-in_ok-copy_rows-in-Prepared c =
    let p = c.in-Prepared in
    IfOk-weaker c.prepare.result _ _
    (λ fits takes.
    subst (λ e. Takes c.args.self.now c.prepare.new.self e fits) (sym p.is)
    (subst (λ (ws : List Put). Takes c.args.self.now c.prepare.new.self (Prepared p.tid p.epoch p.number p.ticket ws) fits) c.in_ok-copy_rows-in-Prepared.ensures takes)) c.prepare.ensures

pub returns-in-Ended : goal.returns-in-Ended
returns-in-Ended c =
    IfOk-weaker c.end.result _ _ (λ fits takes. subst (λ e. Takes c.args.self.now c.end.new.self e fits) (sym c.in-Ended.is) takes) c.end.ensures

pub returns-in-Local : goal.returns-in-Local
returns-in-Local c =
    IfOk-weaker c.commit.result _ _ (λ fits takes. subst (λ e. Takes c.args.self.now c.commit.new.self e fits) (sym c.in-Local.is) takes) c.commit.ensures
