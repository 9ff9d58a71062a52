use Rattle.std.proofs.Common.{◌++◌, [], ◌∷◌, List, map, take, ap, sym, ◌∙◌, subst, arith}
use Rattle.std.proofs.lemmas.List.{append-nil, take_all}
use Rattle.order_laws.specs.Tickets.{Ticketed}
use Rattle.fed_rules.specs.declared.sums.CommittedAttempt.{CommittedAttempt}
use Rattle.fed_rules.specs.CoordRecords.{commits}
use Rattle.fed_rules.specs.Reopened.{commit_read}
use Rattle.usable_journals.proofs.Committing.{adds_committed}
use Rattle.usable_journals.proofs.cycles.add_committed.Goals as goal

pub loop-attempt-init : goal.loop-attempt-init
loop-attempt-init c = sym (append-nil c.args.attempts.now.items)

pub loop-attempt-preserved : goal.loop-attempt-preserved
loop-attempt-preserved c =
    let x = c.attempt-item.result in
    adds_committed c.args.attempts.now.items c.loop-attempt.attempts.items c.push.new.self.items c.args.committed.now c.loop-attempt.attempt-index x (omega arith) c.loop-attempt.invariant
    (c.in_ok-push.ensures.items
    ∙ ap (λ (a : Ticketed). c.loop-attempt.attempts.items ++ a ∷ []) (c.in_ok-of.ensures.copy ∙ ap (λ (a : CommittedAttempt). record { tid = a.tid; tickets = a.tickets }) c.attempt-item.is))

pub returns : goal.returns
returns c =
    c.loop-attempt.invariant
    ∙ ap (λ (xs : List CommittedAttempt). c.args.attempts.now.items ++ commits (map commit_read xs)) (take_all c.loop-attempt.attempt-index c.args.committed.now (omega arith))
