use Rattle.usable_journals.proofs.OnceLaws.{commits}
use Rattle.usable_journals.proofs.site_once.Once.commit.Goals as goal

pub returns : goal.returns
returns c number writes = commits c.args.self.now c.insert.new.self c.args.tid number writes c.in_ok-insert.field-0 c.in_ok-insert.ensures.added c.in_ok-insert.ensures.updates.0
