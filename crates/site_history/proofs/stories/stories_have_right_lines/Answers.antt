use Rattle.site_history.proofs.SitesOfStories.{stories_right}
use Rattle.site_history.proofs.stories.stories_have_right_lines.Goals as goal

pub returns : goal.returns
returns c = stories_right
