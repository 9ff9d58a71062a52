use Rattle.federation_laws.proofs.SiteParts.{sites-serial}
use Rattle.federation_laws.proofs.serial_laws.sites_are_serial_in_every_story.Goals as goal

pub returns : goal.returns
returns c = λ scenario good commands. sites-serial c.each_site_of_a_story_is_serial.ensures.serial scenario commands
