use Rattle.made_laws.proofs.Counts.{commits_counted_once}
use Rattle.made_laws.proofs.made.commits_are_counted.Goals as goal

pub returns : goal.returns
returns c = commits_counted_once c.federation_is_serializable.ensures.headline c.each_site_of_a_story_is_serial.ensures.serial
