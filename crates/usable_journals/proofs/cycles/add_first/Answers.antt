use Rattle.std.proofs.Common.{[], ◌∷◌, ◌++◌, List, map, sym, ap, ◌∙◌}
use Rattle.std.proofs.lemmas.Result.{on_ok_weaker}
use Rattle.order_laws.specs.Tickets.{Ticketed}
use Rattle.fed_rules.specs.declared.records.CoordRecord.{CoordRecord}
use Rattle.fed_rules.specs.declared.sums.CommittedAttempt.{CommittedAttempt}
use Rattle.fed_rules.specs.CoordRecords.{commits}
use Rattle.fed_rules.specs.Reopened.{commit_read}
use Rattle.fed_rules.specs.Usable.{coord_read}
use Rattle.usable_journals.proofs.Committing.{not_sum, sum_commits}
use Rattle.usable_journals.proofs.cycles.add_first.Goals as goal

pub returns-in-Checkpoint : goal.returns-in-Checkpoint
returns-in-Checkpoint c =
    let old = c.args.attempts.now.items in
    on_ok_weaker c.add_committed.result
    (λ h. h
    ∙ ap (λ (xs : List CommittedAttempt). old ++ commits (map commit_read xs)) c.as_slice.ensures
    ∙ ap (λ (cs : List Ticketed). old ++ cs) (sym (sum_commits c.in-Checkpoint.sum))
    ∙ ap (λ (r : CoordRecord). old ++ commits (coord_read (r ∷ []))) (sym c.in-Checkpoint.is)) c.add_committed.ensures

pub returns-in_default : goal.returns-in_default
returns-in_default c =
    on_ok_weaker c.add.result
    (λ h. h ∙ ap (λ (rs : List CoordRecord). c.args.attempts.now.items ++ commits rs) (sym (not_sum c.args.first.now c.in_default.not-Checkpoint))) c.add.ensures
