use Rattle.std.proofs.Common.{refl}
use Rattle.coord_core.proofs.Made.{made_and}
use Rattle.coord_core.proofs.Voting.{vote_steps}
use Rattle.coord_core.proofs.coord.CoordCore.note_vote.Goals as goal

pub returns : goal.returns
returns g c = record {
  answered = made_and _ _ c.says.result c.says.ensures (λ step said tells seen terms past k counted none.
      vote_steps g.P.TakePolicy.policy tells step c.args.self.now (record c.args.self.now { tables = c.vote.new.self }) seen terms past c.args.site c.args.tid c.args.ticket k c.requires.up counted none refl refl refl refl c.vote.ensures
      said.0 said.1);
}
