use Rattle.std.proofs.Common.{sym, ◌∙◌}
use Rattle.fed_world.proofs.SessionRuns.{none_heard}
use Rattle.fed_world.proofs.world.World.sent_to.Goals as goal

pub returns-in-Some : goal.returns-in-Some
returns-in-Some c session commands r = c.as_slice.ensures.value ∙ (c.in-Some.ensures session commands r).to

pub returns-in-None : goal.returns-in-None
returns-in-None c session commands r = sym (none_heard session r.has.begins commands c.args.site (c.in-None.ensures session commands r))
