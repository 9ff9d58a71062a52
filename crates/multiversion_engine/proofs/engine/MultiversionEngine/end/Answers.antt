use Rattle.std.proofs.Common.{ap, ◌∙◌}
use Rattle.run_book.specs.Book.{RoomyBook}
use Rattle.multiversion_engine.proofs.Lines.{ends_run}
use Rattle.multiversion_engine.proofs.engine.MultiversionEngine.end.Goals as goal

pub returns : goal.returns
returns c =
    ends_run c.args.self.now c.release.new.self c.args.tid c.take_out-run.result c.take_out-run.ensures.run
    (ap (λ (b : RoomyBook). b.book) c.release.ensures.book ∙ c.take_out-run.ensures.book) c.release.ensures.accesses c.release.ensures.takers c.release.ensures.unended c.release.ensures.olds
