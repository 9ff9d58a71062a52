use Rattle.world_laws.proofs.SiteSays.{own_events_silent, sites_few}
use Rattle.world_laws.proofs.messages.own_events_send_nothing.Goals as goal

pub returns-clause-silent : goal.returns-clause-silent
returns-clause-silent c = own_events_silent

pub returns-clause-few : goal.returns-clause-few
returns-clause-few c = sites_few
