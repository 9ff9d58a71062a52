use Rattle.closing_laws.proofs.AllAlone.{sessions_finished}
use Rattle.closing_laws.proofs.alone.finished_sessions_commit.Goals as goal

pub returns : goal.returns
returns c = sessions_finished c.stories_have_right_lines.ensures c.locals_commit_alone.ensures c.globals_commit_alone.ensures
