use Rattle.std.proofs.Common.{sym, ap, ◌∙◌, subst}
use Rattle.mdb_base.specs.Rising.{IsRising}
use Rattle.mdb_base.specs.Rows.{value_in}
use Rattle.journal_sums.proofs.EntryLaws.{rising-entries, rows_done, value_in-entries}
use Rattle.journal_sums.proofs.versions.later_rows.Goals as goal

pub of-requires : goal.of-requires
of-requires c =
    let entries = c.args.later.now.entries in
    subst (IsRising (λ row. row.key.0)) (sym (rows_done _ _ entries c.loop-key.invariant c.in-None.ensures.steps.0)) (rising-entries entries c.len.ensures.ordered)

pub returns-clause-rows : goal.returns-clause-rows
returns-clause-rows c key =
    let entries = c.args.later.now.entries in
    ap (λ rows. value_in rows key) (c.of.ensures ∙ rows_done _ _ entries c.loop-key.invariant c.in-None.ensures.steps.0) ∙ value_in-entries entries key
