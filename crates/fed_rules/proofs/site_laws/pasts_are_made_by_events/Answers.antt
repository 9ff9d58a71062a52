use Rattle.fed_rules.proofs.Pasts.{pasts-made}
use Rattle.fed_rules.proofs.site_laws.pasts_are_made_by_events.Goals as goal

pub returns : goal.returns
returns c = λ scenario commands site home declared. pasts-made scenario commands site home declared
