use Rattle.site_history.proofs.SitesOfStories.{stories_once}
use Rattle.site_history.proofs.stories.stories_prepare_once.Goals as goal

pub returns : goal.returns
returns c = stories_once
