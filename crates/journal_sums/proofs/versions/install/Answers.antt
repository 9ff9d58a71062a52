use Rattle.std.proofs.Common.{ap, ◌∙◌}
use Rattle.std.specs.BTreeMap.{get}
use Rattle.std.proofs.lemmas.Result.{on_ok_weaker}
use Rattle.mdb_base.specs.Rows.{value_in}
use Rattle.journal_sums.specs.Versions.{key_cmp, later_or, version_after}
use Rattle.journal_sums.proofs.VersionLaws.{later_write}
use Rattle.journal_sums.proofs.versions.install.Goals as goal

pub returns-clause-versions : goal.returns-clause-versions
returns-clause-versions c =
    let old = c.args.versions.now in
    let number = c.args.number in
    on_ok_weaker c.install_all.result
    (λ installed key. ap (λ later. later_or later (value_in old.first key)) (installed key)
    ∙ later_write number (value_in c.as_slice.result.now key) (value_in old.first key) (get key_cmp old.later key)
    ∙ ap (λ writes. version_after number (value_in writes key) (later_or (get key_cmp old.later key) (value_in old.first key))) c.as_slice.ensures.items)
    c.install_all.ensures
