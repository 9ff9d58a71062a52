use Rattle.journal_disk.proofs.ForCallers.{calls_add, takes_all}
use Rattle.frame_journal.proofs.journal.Journal.force.Goals as goal

pub returns-clause-called : goal.returns-clause-called
returns-clause-called g c =
    let seen = g.D.Disk.seen in
    takes_all 2 (seen c.args.disk.now) (seen c.sync.new.self) c.sync.result
    (calls_add 1 1 (seen c.args.disk.now) (seen c.note.new.disk) (seen c.sync.new.self) c.note.ensures.called c.sync.ensures.called)
