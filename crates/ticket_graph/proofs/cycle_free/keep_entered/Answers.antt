use Rattle.std.proofs.Common.{rules}
use Rattle.std.proofs.lemmas.Fn.{filter_same}
use Rattle.ticket_graph.specs.Entered.{is_entered}
use Rattle.ticket_graph.proofs.cycle_free.keep_entered.Goals as goal

pub returns : goal.returns
returns c = filter_same _ (is_entered c.args.attempts.now.items) _ (λ x b f' k. search rules) _ _ c.retain.ensures.filtered
