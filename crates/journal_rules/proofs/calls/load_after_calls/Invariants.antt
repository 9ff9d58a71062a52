use Rattle.std.proofs.Common.{◌≤◌, IsTrue, vec_len}
use Rattle.std.specs.List.{AllByRecursion}
use Rattle.frame_journal.specs.Journal.{IsKeptOn}
use Rattle.journal_rules.specs.Calls.{MayBeMade, NoneFailed}
use Rattle.journal_rules.proofs.Making.{Makes}
use Rattle.journal_rules.proofs.calls.load_after_calls.Given as goal

abbrev pub invariant-loop-calls : goal.invariant-loop-calls
invariant-loop-calls g l =
    let format = g.F.Format in
    let start = g.D.Disk.seen l.fn.disk in
    let seen = g.D.Disk.seen l.disk in
    record {
      kept_on : IsKeptOn format.spelling g.D.Disk.tells seen l.journal;
      may : AllByRecursion (MayBeMade format.spelling format.in_range format.is_checkpoint) l.calls.items;
      later : start.faults ≤ seen.faults;
      makes : IsTrue g.D.Disk.tells → NoneFailed start.faults seen.faults → Makes format.spelling format.is_record format.frame_bytes start seen l.fn.calls.items l.calls.items;
    }

abbrev pub decreases-loop-calls : goal.decreases-loop-calls
decreases-loop-calls g l = vec_len l.calls
