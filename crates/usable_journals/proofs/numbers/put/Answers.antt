use Rattle.usable_journals.proofs.NumberLaws.{puts_one}
use Rattle.usable_journals.proofs.numbers.put.Goals as goal

pub returns : goal.returns
returns c = puts_one c.args.numbers.now c.insert.new.self c.args.number c.in_ok-insert.field-0 c.in_ok-insert.ensures.added c.in_ok-insert.ensures.updates.0
