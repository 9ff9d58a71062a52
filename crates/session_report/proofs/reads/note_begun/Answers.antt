use Rattle.std.proofs.Common.{ap, ◌∙◌}
use Rattle.session_report.proofs.ReadEntries.{viewed, viewed_begun}
use Rattle.session_report.proofs.reads.note_begun.Goals as goal

pub returns : goal.returns
returns c = ap viewed c.in_ok-insert.ensures.entries ∙ viewed_begun c.args.reads.now.entries c.args.tid c.new.result c.new.ensures.items
