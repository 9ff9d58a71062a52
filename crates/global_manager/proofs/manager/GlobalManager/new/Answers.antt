use Rattle.global_manager.proofs.Lines.{own_fits, there}
use Rattle.global_manager.proofs.manager.GlobalManager.new.Goals as goal

pub returns : goal.returns
returns g c tells seen empty = record {
  core = c.in_ok-core.ensures tells seen empty;
  owns = record {
    held = c.in_ok-programs.ensures;
    named = λ tx some. let (steps, is) = there _ some in (own_fits c.args.protocols c.args.transactions.now c.requires.declared tx steps is).named;
    sited = λ tx steps is. (own_fits c.args.protocols c.args.transactions.now c.requires.declared tx steps is).sited;
    owned = tt;
  };
}
