use Rattle.std.proofs.Common.{List, ◌++◌, reverse, length, option_to_list, refl, ap, ◌∙◌}
use Rattle.any_engine.specs.Stands as Engines
use Rattle.fed_rules.specs.declared.commands.Line.{Line}
use Rattle.fed_rules.specs.declared.messages.FromSite.{FromSite}
use Rattle.fed_rules.specs.SiteCommands.{past_behind}
use Rattle.fed_rules.specs.Story.{place_from}
use Rattle.local_dbms.specs.Asks.{site_request}
use Rattle.local_dbms.specs.Stands as Dbms
use Rattle.session_report.specs.declared.marks.Mark.{Mark}
use Rattle.session_report.specs.Marks.{new_marks}
use Rattle.fed_world.proofs.SeatHears.{Sets, seat_hears, seat_marks}
use Rattle.fed_world.proofs.seats.tell_seat.Goals as goal

pub returns-clause-served : goal.returns-clause-served
returns-clause-served g c =
    let line : Line = record { command = c.args.command.now; answer = c.in_ok-step.step.answer; sends = c.post.result } in
    record {
      line = line;
      is = refl;
      lines = c.push_reserved.ensures.items;
      holds = λ home programs past stood can first to from p.
          let r = site_request c.args.ask home programs past in
          let told = c.in_ok-step.ensures.served home programs past stood can in
          let before = (c.core.ensures.stood g.D.Disk.tells (g.D.Disk.seen c.args.disk.now) home programs past stood).holds in
          let behind = (c.core-2.ensures.stood g.D.Disk.tells (g.D.Disk.seen c.ask.new.disk) home programs (past_behind home past r) told.next).holds in
          let marked =
          seat_marks home past r first c.args.marks.now.kept.items c.note_line.new.self.kept.items (length c.records-before.result.now) c.records-before.result.now c.records.result.now before.made p.marks refl
          (c.records-before.ensures home past before) (c.records.ensures home (past_behind home past r) behind)
          (c.note_line.ensures.marks ∙ ap (λ (ms : List Mark). ms ++ new_marks (length c.records-before.result.now) (reverse c.records.result.now)) c.reserve.ensures.marks) in
          let sets : Sets c.in_ok-step.step c.args.traffic.now c.post.new.traffic c.post.result = record {
            places = c.post.ensures.places ∙ ap (λ (ms : List FromSite). place_from c.args.traffic.now.site (length ms) (option_to_list c.in_ok-step.step.sends)) c.make_room.ensures.from;
            site = c.post.ensures.site;
            to = c.post.ensures.to;
            from = c.post.ensures.from ∙ ap (λ (ms : List FromSite). ms ++ option_to_list c.in_ok-step.step.sends) c.make_room.ensures.from;
          } in
          seat_hears (Dbms.Stands Engines.Stands g.D.Disk.tells c.args.dbms.now (g.D.Disk.seen c.args.disk.now)) (Dbms.Stands Engines.Stands g.D.Disk.tells c.ask.new.self (g.D.Disk.seen c.ask.new.disk))
          c.in_ok-step.step home programs past first to from r line c.args.marks.now c.note_line.new.self c.args.traffic.now c.post.new.traffic p told refl (c.note_line.ensures.site ∙ c.reserve.ensures.site) marked sets;
    }
