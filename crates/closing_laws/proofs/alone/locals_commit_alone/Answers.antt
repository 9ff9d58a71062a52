use Rattle.closing_laws.proofs.LocalAlone.{local_commits}
use Rattle.closing_laws.proofs.alone.locals_commit_alone.Goals as goal

pub returns : goal.returns
returns c = local_commits c.stories_have_right_lines.ensures c.each_site_of_a_story_is_serial.ensures.epochs
