use Rattle.std.proofs.Common.{List, map, ap, ◌∙◌}
use Rattle.std.proofs.lemmas.List.{take_all}
use Rattle.fed_rules.specs.declared.sums.CommittedAttempt.{CommittedAttempt}
use Rattle.coord_tables.specs.Attempts.{last_of}
use Rattle.coord_tables.proofs.Trees.{restored_more}
use Rattle.coord_tables.proofs.committed.Committed.restored.Goals as goal

pub loop-attempt-preserved : goal.loop-attempt-preserved
loop-attempt-preserved c =
    let attempt = c.attempt-item.result in
    restored_more c.as_slice-attempt-items.result.now c.loop-attempt.attempt-index attempt attempt c.loop-attempt.tids.entries c.put.new.tids.entries c.loop-attempt-test.true c.attempt-item.is
    c.in_ok-put.ensures.put c.loop-attempt.invariant

pub returns : goal.returns
returns c = λ tx.
    c.loop-attempt.invariant tx
    ∙ ap (λ (xs : List CommittedAttempt). last_of tx (map (λ (a : CommittedAttempt). a.tid) xs)) (take_all c.loop-attempt.attempt-index c.as_slice-attempt-items.result.now c.loop-attempt-test.false ∙ c.as_slice-attempt-items.ensures)
