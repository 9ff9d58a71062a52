use Rattle.std.proofs.Common.{◌≡◌, None, Some, sym, ap, ◌∙◌}
use Rattle.mdb_base.proofs.ForCallers.{none_left}
use Rattle.fed_rules.specs.CoordPast.{records, undecided_of}
use Rattle.fed_rules.specs.CoordRecords.{committed_of}
use Rattle.global_manager.proofs.Asked.{spent_all, spent_committed, spent_down, spent_running}
use Rattle.global_manager.proofs.Fit.{holds_passes}
use Rattle.global_manager.proofs.manager.GlobalManager.spent.Goals as goal

pub returns-then-is_down : goal.returns-then-is_down
returns-then-is_down g c terms programs past r tid steps same = spent_down terms past tid steps (sym (c.is_down.ensures terms past r.core) ∙ c.if-is_down.true)

pub returns-in-Some : goal.returns-in-Some
returns-in-Some g c terms programs past r tid steps same =
    let up = sym (c.is_down.ensures terms past r.core) ∙ c.if-is_down.false in
    let is : committed_of (records past) tid.tx ≡ Some c.in-Some.committed = ap (committed_of (records past)) same ∙ sym (c.committed.ensures terms past r.core up) ∙ c.in-Some.is in
    spent_committed terms past tid steps (holds_passes g.P.TakePolicy.policy c.args.self.now.core terms past r.core) up c.in-Some.committed is

pub returns-in-Some-running : goal.returns-in-Some-running
returns-in-Some-running g c terms programs past r tid steps same =
    let up = sym (c.is_down.ensures terms past r.core) ∙ c.if-is_down.false in
    let none : committed_of (records past) tid.tx ≡ None = ap (committed_of (records past)) same ∙ sym (c.committed.ensures terms past r.core up) ∙ none_left c.committed.result c.in_default.not-Some in
    let is : undecided_of past tid.tx ≡ Some c.in-Some-running.running = ap (undecided_of past) same ∙ sym (c.running.ensures terms past r.core up) ∙ c.in-Some-running.is in
    spent_running terms past tid steps (holds_passes g.P.TakePolicy.policy c.args.self.now.core terms past r.core) up c.in-Some-running.running none is

pub returns : goal.returns
returns g c terms programs past r tid steps same =
    let up = sym (c.is_down.ensures terms past r.core) ∙ c.if-is_down.false in
    let none : committed_of (records past) tid.tx ≡ None = ap (committed_of (records past)) same ∙ sym (c.committed.ensures terms past r.core up) ∙ none_left c.committed.result c.in_default.not-Some in
    let idle : undecided_of past tid.tx ≡ None = ap (undecided_of past) same ∙ sym (c.running.ensures terms past r.core up) ∙ none_left c.running.result c.in_default-running.not-Some in
    spent_all terms past tid steps (holds_passes g.P.TakePolicy.policy c.args.self.now.core terms past r.core) up none idle
