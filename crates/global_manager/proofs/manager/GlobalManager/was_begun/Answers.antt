use Rattle.global_manager.proofs.Asked.{begun_test}
use Rattle.global_manager.proofs.manager.GlobalManager.was_begun.Goals as goal

pub returns : goal.returns
returns g c terms programs past r = begun_test terms past c.args.tid c.begun.result r.core.sound.made (c.begun.ensures terms past r.core)
