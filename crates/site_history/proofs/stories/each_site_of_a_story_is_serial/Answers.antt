use Rattle.site_history.proofs.SitesOfStories.{sites_epochs, sites_serial}
use Rattle.site_history.proofs.stories.each_site_of_a_story_is_serial.Goals as goal

pub returns-clause-epochs : goal.returns-clause-epochs
returns-clause-epochs c = sites_epochs

pub returns-clause-serial : goal.returns-clause-serial
returns-clause-serial c = sites_serial
