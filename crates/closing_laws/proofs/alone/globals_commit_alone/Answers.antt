use Rattle.closing_laws.proofs.GlobalAlone.{global_commits}
use Rattle.closing_laws.proofs.Published.{tickets_published}
use Rattle.closing_laws.proofs.Unbegun.{unbegun_open}
use Rattle.closing_laws.proofs.alone.globals_commit_alone.Goals as goal

pub returns : goal.returns
returns c = global_commits unbegun_open (tickets_published c.pasts_are_made_by_events.ensures) c.stories_have_right_lines.ensures c.each_site_of_a_story_is_serial.ensures.epochs
