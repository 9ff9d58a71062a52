use Rattle.std.proofs.Common.{Option, subst, sym}
use Rattle.fed_rules.specs.CoordPast.{Standing, Undecided}
use Rattle.fed_rules.specs.Scenarios.{protocols}
use Rattle.fed_rules.specs.Story.{coord_past, story_of}
use Rattle.fed_rules.specs.Sessions.{fresh}
use Rattle.protocol_table.specs.declared.known.Known.{Known}
use Rattle.protocol_table.specs.Agreement.{IsKnownAs}
use Rattle.protocol_table.specs.Attempts.{known_of}
use Rattle.run_audit.proofs.candidates.candidate_at.Goals as goal

pub returns-in_ok-of-in-Some : goal.returns-in_ok-of-in-Some
returns-in_ok-of-in-Some c = λ scenario commands r up undecided.
    let past = coord_past (story_of scenario commands) in
    let known = c.table.ensures _ past (c.core.ensures.held _ _ past (c.coordinator.ensures (fresh scenario) commands r)) up c.args.tid in
    let listed = subst (λ (s : Standing). IsKnownAs (protocols scenario) past c.args.tid s (known_of c.args.tid c.table.result.now)) undecided known in
    record {
      known = c.in-Some.known.now;
      is = subst (λ (o : Option Known). IsKnownAs (protocols scenario) past c.args.tid Undecided o) (sym c.in-Some.ensures) listed;
      tid = c.in_ok-of-in-Some.ensures.tid;
      tickets = c.in_ok-of-in-Some.ensures.tickets;
    }

pub returns-in-None : goal.returns-in-None
returns-in-None c = λ scenario commands r up undecided.
    let past = coord_past (story_of scenario commands) in
    let known = c.table.ensures _ past (c.core.ensures.held _ _ past (c.coordinator.ensures (fresh scenario) commands r)) up c.args.tid in
    let listed = subst (λ (s : Standing). IsKnownAs (protocols scenario) past c.args.tid s (known_of c.args.tid c.table.result.now)) undecided known in
    subst (λ (o : Option Known). IsKnownAs (protocols scenario) past c.args.tid Undecided o) (sym c.in-None.ensures) listed
