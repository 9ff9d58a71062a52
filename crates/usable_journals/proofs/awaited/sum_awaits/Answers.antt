use Rattle.std.proofs.Common.{List, ap, ◌∙◌}
use Rattle.std.specs.BTreeSet.{contains}
use Rattle.mdb_base.specs.Names.{same_tid, tid_cmp}
use Rattle.mdb_base.specs.Words.{each_of, some_of}
use Rattle.fed_rules.specs.declared.sums.CommittedAttempt.{CommittedAttempt}
use Rattle.fed_rules.specs.declared.sums.OpenAttempt.{OpenAttempt}
use Rattle.usable_journals.specs.CoordTests.{is_awaited_by, is_committed_in}
use Rattle.usable_journals.proofs.Words.{awaited_same}
use Rattle.usable_journals.proofs.awaited.sum_awaits.Goals as goal

pub returns : goal.returns
returns c =
    let sum = c.args.sum.now in
    c.all_awaited.ensures
    ∙ ap (λ (xs : List OpenAttempt). each_of (is_awaited_by (contains tid_cmp c.in_ok-committed.committed)) xs) c.as_slice-2.ensures
    ∙ awaited_same (contains tid_cmp c.in_ok-committed.committed) (is_committed_in sum)
    (λ tid. c.in_ok-committed.ensures tid ∙ ap (λ (xs : List CommittedAttempt). some_of (λ (done : CommittedAttempt). same_tid done.tid tid) xs) c.as_slice.ensures) sum.open_attempts
