use Rattle.std.proofs.Common.{sym, ◌∙◌}
use Rattle.std.specs.BTreeMap.{get}
use Rattle.std.proofs.lemmas.List.{at_drop_all}
use Rattle.mdb_base.specs.Rows.{value_in}
use Rattle.journal_sums.specs.Versions.{key_cmp, version_after}
use Rattle.journal_sums.proofs.VersionLaws.{next_write}
use Rattle.journal_sums.proofs.versions.install_all.Goals as goal

pub loop-put-preserved : goal.loop-put-preserved
loop-put-preserved c key =
    next_write c.args.writes.now c.loop-put.put-index _ c.args.number key (get key_cmp c.loop-put.later key) _ c.requires c.loop-put-test.true
    (c.in_ok-install_row.ensures key) ∙ c.loop-put.invariant key

pub returns : goal.returns
returns c key =
    sym (at_drop_all (λ rows. version_after c.args.number (value_in rows key) (get key_cmp c.loop-put.later key)) c.args.writes.now c.loop-put.put-index c.loop-put-test.false)
    ∙ c.loop-put.invariant key
