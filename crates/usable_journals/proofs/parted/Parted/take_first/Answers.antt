use Rattle.std.proofs.Common.{[], ◌∷◌, sym, subst}
use Rattle.std.proofs.lemmas.Result.{IfOk-weaker}
use Rattle.mdb_base.specs.Words.{some_of}
use Rattle.fed_rules.specs.declared.records.SiteRecord.{SiteRecord}
use Rattle.fed_rules.specs.Usable.{counted}
use Rattle.usable_journals.specs.PartedTold.{Adds, is_global_of}
use Rattle.usable_journals.specs.SiteTests.{is_local_of}
use Rattle.usable_journals.proofs.PartedLaws.{adds_first_sum}
use Rattle.usable_journals.proofs.parted.Parted.take_first.Goals as goal

pub returns-in-Checkpoint : goal.returns-in-Checkpoint
returns-in-Checkpoint c =
    let a = c.args.self.now in
    let b = c.take_sum.new.self in
    IfOk-weaker c.take_sum.result _ _
    (λ done h.
    subst (λ (e : SiteRecord). Adds (λ tx. some_of (is_local_of tx) (counted (e ∷ []))) (λ tx. is_global_of tx e) a b) (sym c.in-Checkpoint.is)
    (adds_first_sum c.in-Checkpoint.sum a b h)) c.take_sum.ensures
