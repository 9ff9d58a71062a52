use Rattle.std.proofs.Common.{ap, ◌∙◌}
use Rattle.run_book.specs.Book.{RoomyBook}
use Rattle.locking_engine.proofs.Lines.{ends_run}
use Rattle.locking_engine.proofs.engine.LockingEngine.end.Goals as goal

pub returns : goal.returns
returns c =
    let released = c.release.ensures.released in
    ends_run c.args.self.now c.release.new.self c.args.tid c.take_out-run.result c.take_out-run.ensures.run
    (ap (λ (b : RoomyBook). b.book) c.release.ensures.book ∙ c.take_out-run.ensures.book)
    (record { readers = released.readers; writers = released.writers; taker = released.taker })
