use Rattle.std.proofs.Common.{rules, ◌≡◌, true}
use Rattle.engine_tests.specs.Stages.{noted, live}
use Rattle.engine_tests.proofs.Agreement.{seals_agree}
use Rattle.engine_tests.proofs.watched.Watched.seal.Goals as goal

pub returns-in_ok-add_note-in-Ok : goal.returns-in_ok-add_note-in-Ok
returns-in_ok-add_note-in-Ok g c =
    let p = c.requires in
    let lives : live (noted c.args.self.now.notes.items c.args.tid) ≡ true = search rules in
    record {
      start = p.start;
      lines = _;
      stood = c.in-Ok.ensures.sealed p.start p.lines p.stood;
      holds = rw (c.in_ok-add_note-in-Ok.ensures, c.max-self.ensures, c.max-self-in-Ok.ensures, c.unwrap_or.ensures)
          (seals_agree p.holds c.args.tid c.in-Ok.sealed lives (c.in-Ok.ensures.given p.start p.lines p.stood));
    }
