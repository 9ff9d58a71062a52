use Rattle.std.proofs.Common.{List, map, ap, ◌∙◌, subst}
use Rattle.mdb_base.specs.Names.{same_tid}
use Rattle.mdb_base.specs.Words.{some_of}
use Rattle.fed_rules.specs.declared.sums.CommittedAttempt.{CommittedAttempt}
use Rattle.fed_rules.specs.declared.sums.OpenAttempt.{OpenAttempt}
use Rattle.fed_rules.specs.Reopened.{commit_read, initiation_read}
use Rattle.usable_journals.specs.Reads.{Reads}
use Rattle.usable_journals.proofs.Readings.{reads_whole_sum}
use Rattle.usable_journals.proofs.Recording.{ends_of}
use Rattle.usable_journals.proofs.coord_sums.Reading.take_sum.Goals as goal

pub returns : goal.returns
returns c =
    let p = c.args.protocols.now in
    let a = c.args.self.now in
    let b = c.begin_all.new.self in
    let d = c.commit_all.new.self in
    let e = c.end_all.new.self in
    reads_whole_sum p c.in_ok-tids.tids a b d e c.args.sum.now
    (λ tid. c.in_ok-tids.ensures tid ∙ ap (λ (xs : List OpenAttempt). some_of (λ (attempt : OpenAttempt). same_tid attempt.tid tid) xs) c.as_slice-attempts.ensures)
    (subst (λ (xs : List OpenAttempt). Reads p a b (map initiation_read xs)) c.as_slice-attempts.ensures (c.in_ok-begin_all.ensures p))
    (subst (λ (xs : List CommittedAttempt). Reads p b d (map commit_read xs)) c.as_slice-committed.ensures c.in_ok-commit_all.ensures)
    (subst (λ (xs : List CommittedAttempt). Reads p d e (ends_of c.in_ok-tids.tids xs)) c.as_slice-committed.ensures (c.end_all.ensures p))
