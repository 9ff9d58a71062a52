use Rattle.std.proofs.Common.{sym, ap, ◌∙◌, arith}
use Rattle.std.specs.List.{insert}
use Rattle.std.proofs.lemmas.Bool.{cond-false}
use Rattle.mdb_base.specs.Names.{same_tid, tid_before}
use Rattle.mdb_base.specs.Words.{some_of}
use Rattle.fed_rules.specs.declared.sums.OpenAttempt.{OpenAttempt}
use Rattle.journal_sums.specs.CoordReadings.{front_count}
use Rattle.journal_sums.proofs.CoordReadingLaws.{front_count-inserted, front_count-le}
use Rattle.journal_sums.proofs.open_attempts.begin.Goals as goal

pub insert-requires : goal.insert-requires
insert-requires c =
    let le = front_count-le (λ (a : OpenAttempt). tid_before a.tid c.args.tid) c.as_slice-2.result.now in
    let place = c.earlier_ones-place.ensures in
    let len = c.as_slice-2.ensures.len in
    omega (arith, place, len, le)

pub returns : goal.returns
returns c =
    let items = c.args.attempts.now.items in
    let entry : OpenAttempt = record { tid = c.args.tid; participants = c.args.participants } in
    c.in_ok-insert.ensures.items
    ∙ ap (λ p. insert items p entry) (c.earlier_ones-place.ensures ∙ ap (front_count (λ (a : OpenAttempt). tid_before a.tid c.args.tid)) c.as_slice-2.ensures.value)
    ∙ front_count-inserted (λ (a b : OpenAttempt). tid_before a.tid b.tid) entry items
    ∙ sym (cond-false _ _ _ (ap (some_of (λ (a : OpenAttempt). same_tid a.tid c.args.tid)) (sym c.as_slice.ensures.value) ∙ sym c.if-is_open.ensures))
