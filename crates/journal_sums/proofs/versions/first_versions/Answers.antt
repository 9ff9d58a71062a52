use Rattle.std.proofs.Common.{◌≡◌, None, ap, ◌∙◌}
use Rattle.std.specs.BTreeMap.{get, is_at}
use Rattle.std.specs.Map.{lookup}
use Rattle.mdb_base.specs.Rows.{value_in}
use Rattle.journal_sums.specs.Versions.{first_version, key_cmp, later_or}
use Rattle.journal_sums.proofs.versions.first_versions.Goals as goal

pub returns-clause-versions : goal.returns-clause-versions
returns-clause-versions c key =
    let none : get key_cmp c.new.result key ≡ None = ap (λ es. lookup (is_at (key_cmp key)) es) c.new.ensures.empty in
    ap (λ later. later_or later (value_in c.of.result key)) none
    ∙ ap (λ rows. first_version (value_in rows key)) (c.of.ensures ∙ c.in_ok-from_slice.ensures.items ∙ c.as_slice.ensures.items)
