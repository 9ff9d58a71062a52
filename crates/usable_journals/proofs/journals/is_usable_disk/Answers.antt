use Rattle.std.proofs.Common.{sym, ◌∙◌}
use Rattle.std.proofs.lemmas.Result.{IfOk-weaker}
use Rattle.usable_journals.proofs.DiskLaws.{some_disk}
use Rattle.usable_journals.proofs.journals.is_usable_disk.Goals as goal

pub returns : goal.returns
returns c =
    let same = some_disk c.args.number c.args.records.now (sym c.is_empty.ensures ∙ c.if-is_empty.false) in
    IfOk-weaker c.is_usable_site.result _ _ (λ usable told. (λ e. same.0 (told.0 e), λ u. told.1 (same.1 u))) c.is_usable_site.ensures
