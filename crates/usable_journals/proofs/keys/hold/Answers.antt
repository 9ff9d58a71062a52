use Rattle.std.proofs.Common.{Some, cond, sym, ◌∙◌}
use Rattle.std.proofs.lemmas.List.{at_drop_all}
use Rattle.std.specs.BTreeMap.{get}
use Rattle.fed_rules.specs.EngineLines.{has_row}
use Rattle.journal_sums.specs.Versions.{key_cmp}
use Rattle.usable_journals.proofs.KeyLaws.{next_key}
use Rattle.usable_journals.proofs.keys.hold.Goals as goal

pub loop-put-preserved : goal.loop-put-preserved
loop-put-preserved c key =
    next_key c.args.writes.now c.loop-put.put-index _ key _ _ _ c.loop-put-test.true (c.in_ok-insert.ensures.updates.0 key) ∙ c.loop-put.invariant key

pub returns : goal.returns
returns c key =
    sym (at_drop_all (λ rows. cond (has_row key rows) (Some c.args.number) (get key_cmp c.loop-put.keys key)) c.args.writes.now c.loop-put.put-index c.loop-put-test.false)
    ∙ c.loop-put.invariant key
