use Rattle.std.proofs.Common.{Bool, true, false, List, map, subst}
use Rattle.std.proofs.lemmas.Result.{IfOk-weaker}
use Rattle.mdb_base.specs.declared.names.Tid.{Tid}
use Rattle.fed_rules.specs.Reopened.{local_read}
use Rattle.fed_rules.specs.SiteRecords.{Held}
use Rattle.fed_rules.specs.SiteSums.{carried}
use Rattle.usable_journals.specs.OnceTold.{TakesAll}
use Rattle.usable_journals.proofs.OnceLaws.{takes_stop, takes_then}
use Rattle.usable_journals.proofs.site_once.Once.take_sum.Goals as goal

pub returns-then-not-branch : goal.returns-then-not-branch
returns-then-not-branch c =
    let sum = c.args.sum.now in
    let a = c.args.self.now in
    let b = c.commit_all.new.self in
    takes_stop a b b (map (local_read sum.counter) sum.locals) (carried sum.doubtful)
    (subst (λ (xs : List Tid). TakesAll a b (map (local_read sum.counter) xs) false) c.as_slice-locals.ensures
    (subst (λ (t : Bool). TakesAll a b (map (local_read sum.counter) c.as_slice-locals.result.now) t) c.if-not-branch.true (c.in_ok-commit_all.ensures sum.counter)))

pub returns : goal.returns
returns c =
    let sum = c.args.sum.now in
    let a = c.args.self.now in
    let b = c.commit_all.new.self in
    let d = c.prepare_all.new.self in
    IfOk-weaker c.prepare_all.result _ _
    (λ fits all.
    takes_then a b d (map (local_read sum.counter) sum.locals) (carried sum.doubtful) fits
    (subst (λ (xs : List Tid). TakesAll a b (map (local_read sum.counter) xs) true) c.as_slice-locals.ensures
    (subst (λ (t : Bool). TakesAll a b (map (local_read sum.counter) c.as_slice-locals.result.now) t) c.if-not-branch.false (c.in_ok-commit_all.ensures sum.counter)))
    (subst (λ (xs : List Held). TakesAll b d (carried xs) fits) c.as_slice-doubtful.ensures all)) c.prepare_all.ensures
