use Rattle.std.proofs.Common.{List, refl, ap}
use Rattle.global_exec.specs.Live.{Live}
use Rattle.coord_core.proofs.Made.{made_and}
use Rattle.coord_core.proofs.Waits.{wait_taken}
use Rattle.coord_core.proofs.coord.CoordCore.take_wait.Goals as goal

pub returns : goal.returns
returns g c = record {
  answered = made_and _ _ c.says.result c.says.ensures (λ step said tells seen terms past by is k counts.
      wait_taken g.P.TakePolicy.policy tells step c.args.self.now (record c.args.self.now { tables = record c.args.self.now.tables { exec = c.take.new.self } }) seen terms past c.args.taken c.args.tid by is k c.requires.up counts refl refl refl refl (ap (λ (ls : List Live). record c.args.self.now.tables { exec = ls }) c.take.ensures)
      said.0 said.1);
}
