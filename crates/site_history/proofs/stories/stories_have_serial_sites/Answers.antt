use Rattle.site_history.proofs.SitesOfStories.{stories_epochs, stories_serial}
use Rattle.site_history.proofs.stories.stories_have_serial_sites.Goals as goal

pub returns-clause-epochs : goal.returns-clause-epochs
returns-clause-epochs c = stories_epochs

pub returns-clause-serial : goal.returns-clause-serial
returns-clause-serial c = stories_serial
