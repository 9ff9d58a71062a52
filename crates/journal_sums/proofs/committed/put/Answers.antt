use Rattle.std.proofs.Common.{ap, ◌∙◌, arith}
use Rattle.std.specs.List.{insert}
use Rattle.mdb_base.specs.Names.{tid_before}
use Rattle.fed_rules.specs.declared.sums.CommittedAttempt.{CommittedAttempt}
use Rattle.journal_sums.specs.CoordReadings.{front_count}
use Rattle.journal_sums.proofs.CoordReadingLaws.{front_count-inserted, front_count-le}
use Rattle.journal_sums.proofs.committed.put.Goals as goal

pub insert-requires : goal.insert-requires
insert-requires c =
    let le = front_count-le (λ (a : CommittedAttempt). tid_before a.tid c.args.attempt.tid) c.as_slice.result.now in
    let place = c.earlier_ones-place.ensures in
    let len = c.as_slice.ensures.len in
    omega (arith, place, len, le)

pub returns : goal.returns
returns c =
    let items = c.args.committed.now.items in
    c.in_ok-insert.ensures.items
    ∙ ap (λ p. insert items p c.args.attempt) (c.earlier_ones-place.ensures ∙ ap (front_count (λ (a : CommittedAttempt). tid_before a.tid c.args.attempt.tid)) c.as_slice.ensures.value)
    ∙ front_count-inserted (λ (a b : CommittedAttempt). tid_before a.tid b.tid) c.args.attempt items
