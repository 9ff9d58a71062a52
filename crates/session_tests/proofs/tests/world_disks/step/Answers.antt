use Rattle.std.proofs.Common.{true, List, map}
use Rattle.fed_rules.specs.declared.commands.Command.{Command}
use Rattle.fed_rules.specs.Sessions.{Session}
use Rattle.site_core.specs.Sessions.{mem_seen}
use Rattle.fed_world.specs.Worlds.{Stands}
use Rattle.fed_world.proofs.ForCallers.{has_room, one_more}
use Rattle.session_tests.proofs.tests.world_disks.step.Goals as goal

pub apply-requires-clause-stood : goal.apply-requires-clause-stood
apply-requires-clause-stood c =
    let K : Session → List Command → Type 0 = Stands true c.args.world.now (map mem_seen c.args.disks.now.items) in
    has_room K c.args.count c.requires.few c.requires.stood

pub returns : goal.returns
returns c =
    let K : Session → List Command → Type 0 = Stands true c.args.world.now (map mem_seen c.args.disks.now.items) in
    let L : Session → List Command → Type 0 = Stands true c.apply.new.self (map mem_seen c.apply.new.disks.items) in
    one_more K L c.args.count c.args.command c.apply.result c.requires.few c.requires.stood c.apply.ensures.applied
