use Rattle.std.proofs.Common.{◌≡◌, sym, ap, ◌∙◌, subst}
use Rattle.std.specs.BTreeMap.{get}
use Rattle.std.proofs.lemmas.Result.{IfOk-weaker}
use Rattle.mdb_base.specs.Rows.{value_in, with_rows}
use Rattle.mdb_base.proofs.ForCallers.{first_of, value_in-with_rows}
use Rattle.journal_sums.specs.Versions.{key_cmp, row_of}
use Rattle.journal_sums.proofs.Merging.{Rise, merged_rises}
use Rattle.journal_sums.proofs.VersionLaws.{row_kept}
use Rattle.journal_sums.proofs.versions.rows_of.Goals as goal

pub returns-clause-rows : goal.returns-clause-rows
returns-clause-rows c =
    let first = c.as_slice.result.now in
    let later = c.as_slice-2.result.now in
    IfOk-weaker c.merge.result (λ rows. rows ≡ with_rows later first) _
    (λ rows is key. ap (λ rs. value_in rs key) is ∙ (value_in-with_rows later first key
    ∙ (ap (λ rs. first_of (value_in rs key) (value_in first key)) c.as_slice-2.ensures.items
    ∙ (ap (λ row. first_of row (value_in first key)) (c.in_ok-later.ensures.rows key)
    ∙ (ap (λ rs. first_of (row_of (get key_cmp c.args.versions.now.later key)) (value_in rs key)) c.as_slice.ensures.items
    ∙ row_kept (get key_cmp c.args.versions.now.later key) (value_in c.args.versions.now.first key))))))
    c.merge.ensures

pub returns-clause-rising : goal.returns-clause-rising
returns-clause-rising c =
    let first = c.as_slice.result.now in
    let later = c.as_slice-2.result.now in
    IfOk-weaker c.merge.result (λ rows. rows ≡ with_rows later first) _ (λ rows is. merged_rises first later rows is (subst Rise (sym c.as_slice.ensures.items) c.as_slice.ensures.rising)) c.merge.ensures
