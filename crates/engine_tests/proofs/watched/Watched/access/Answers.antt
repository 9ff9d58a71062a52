use Rattle.std.proofs.Common.{rules, ◌≡◌, true}
use Rattle.engine_tests.specs.Stages.{noted, live}
use Rattle.engine_tests.proofs.Agreement.{acts_agree}
use Rattle.engine_tests.proofs.watched.Watched.access.Goals as goal

pub returns : goal.returns
returns g c =
    let p = c.requires in
    let lives : live (noted c.args.self.now.notes.items c.args.tid) ≡ true = search rules in
    record {
      start = p.start;
      lines = _;
      stood = c.in_ok-reply.ensures p.start p.lines p.stood;
      holds = rw (c.in_ok-add_note.ensures, c.acted.ensures, c.stage-stage.ensures) (acts_agree p.holds c.args.tid c.args.act c.in_ok-reply.reply lives);
    }
