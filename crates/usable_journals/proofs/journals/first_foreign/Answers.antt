use Rattle.std.proofs.Common.{map}
use Rattle.std.proofs.lemmas.Result.{IfOk-weaker}
use Rattle.usable_journals.proofs.DiskLaws.{names_least}
use Rattle.usable_journals.proofs.journals.first_foreign.Goals as goal

pub returns-then-not-branch : goal.returns-then-not-branch
returns-then-not-branch c first = (let yes = c.in_ok-is_usable_first.ensures.1 first in let no = c.if-not-branch.true in cc)

pub returns : goal.returns
returns c =
    IfOk-weaker c.first_foreign_site.result _ _
    (λ disk least. names_least c.args.coordinator.now (map (λ s. s.now) c.args.sites.now) disk (c.in_ok-is_usable_first.ensures.0 c.if-not-branch.false) least) c.first_foreign_site.ensures
