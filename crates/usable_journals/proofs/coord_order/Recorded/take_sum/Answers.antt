use Rattle.std.proofs.Common.{Bool, true, List, ap, ◌∙◌, map, subst}
use Rattle.std.proofs.lemmas.Result.{IfOk-weaker}
use Rattle.mdb_base.specs.Names.{same_tid}
use Rattle.mdb_base.specs.Words.{some_of}
use Rattle.fed_rules.specs.declared.sums.CommittedAttempt.{CommittedAttempt}
use Rattle.fed_rules.specs.declared.sums.OpenAttempt.{OpenAttempt}
use Rattle.fed_rules.specs.Reopened.{commit_read, initiation_read}
use Rattle.usable_journals.specs.Recorded.{TakesAll}
use Rattle.usable_journals.proofs.Recording.{ends_of, stops_committed, stops_open, takes_sum}
use Rattle.usable_journals.proofs.coord_order.Recorded.take_sum.Goals as goal

pub returns-then-not-branch : goal.returns-then-not-branch
returns-then-not-branch c =
    let a = c.args.self.now in
    let b = c.begin_all.new.self in
    stops_open a b b c.args.sum.now
    (subst (λ (xs : List OpenAttempt). TakesAll a b (map initiation_read xs) _) c.as_slice-attempts.ensures
    (subst (λ (t : Bool). TakesAll a b (map initiation_read c.as_slice-attempts.result.now) t) c.if-not-branch.true c.in_ok-begin_all.ensures))

pub returns-then-not-branch-2 : goal.returns-then-not-branch-2
returns-then-not-branch-2 c =
    let a = c.args.self.now in
    let b = c.begin_all.new.self in
    let d = c.commit_all.new.self in
    stops_committed a b d d c.args.sum.now
    (subst (λ (xs : List OpenAttempt). TakesAll a b (map initiation_read xs) _) c.as_slice-attempts.ensures
    (subst (λ (t : Bool). TakesAll a b (map initiation_read c.as_slice-attempts.result.now) t) c.if-not-branch.false c.in_ok-begin_all.ensures))
    (subst (λ (xs : List CommittedAttempt). TakesAll b d (map commit_read xs) _) c.as_slice-committed.ensures
    (subst (λ (t : Bool). TakesAll b d (map commit_read c.as_slice-committed.result.now) t) c.if-not-branch-2.true c.in_ok-commit_all.ensures))

pub returns : goal.returns
returns c =
    let a = c.args.self.now in
    let b = c.begin_all.new.self in
    let d = c.commit_all.new.self in
    let e = c.end_all.new.self in
    IfOk-weaker c.end_all.result _ _
    (λ fits third.
    takes_sum c.in_ok-tids.tids a b d e c.args.sum.now fits
    (λ tid. c.in_ok-tids.ensures tid ∙ ap (λ (xs : List OpenAttempt). some_of (λ (attempt : OpenAttempt). same_tid attempt.tid tid) xs) c.as_slice-attempts.ensures)
    (subst (λ (xs : List OpenAttempt). TakesAll a b (map initiation_read xs) true) c.as_slice-attempts.ensures
    (subst (λ (t : Bool). TakesAll a b (map initiation_read c.as_slice-attempts.result.now) t) c.if-not-branch.false c.in_ok-begin_all.ensures))
    (subst (λ (xs : List CommittedAttempt). TakesAll b d (map commit_read xs) true) c.as_slice-committed.ensures
    (subst (λ (t : Bool). TakesAll b d (map commit_read c.as_slice-committed.result.now) t) c.if-not-branch-2.false c.in_ok-commit_all.ensures))
    (subst (λ (xs : List CommittedAttempt). TakesAll d e (ends_of c.in_ok-tids.tids xs) fits) c.as_slice-committed.ensures third)) c.end_all.ensures
