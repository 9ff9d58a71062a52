use Rattle.std.proofs.Common.{map}
use Rattle.std.proofs.lemmas.Result.{IfOk-weaker}
use Rattle.fed_rules.specs.SiteRecords.{Held}
use Rattle.usable_journals.proofs.SumLaws.{puts_differ}
use Rattle.usable_journals.proofs.checkpoints.tickets_differ.Goals as goal

pub returns : goal.returns
returns c =
    IfOk-weaker c.take_tickets.result _ _
    (λ fits puts. puts_differ c.new-tickets.result c.take_tickets.new.tickets (map (λ (held : Held). held.ticket) c.args.doubtful.now) fits c.new-tickets.ensures.empty puts)
    c.take_tickets.ensures
