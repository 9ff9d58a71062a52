use Rattle.site_history.proofs.SitesOfStories.{sites_rise}
use Rattle.site_history.proofs.stories.tickets_rise.Goals as goal

pub returns : goal.returns
returns c = sites_rise
