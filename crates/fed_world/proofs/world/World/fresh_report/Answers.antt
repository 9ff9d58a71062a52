use Rattle.fed_rules.specs.Sessions.{fresh}
use Rattle.fed_world.proofs.SessionParts.{is_session, session_again, tells_commits}
use Rattle.fed_world.proofs.world.World.fresh_report.Goals as goal

pub tables-requires : goal.tables-requires
tables-requires c = let r = c.requires in record { session = fresh r.session; commands = r.commands; stood = r.stood; holds = tt }

pub report-requires-clause-told : goal.report-requires-clause-told
report-requires-clause-told c = λ tx found small post.
    let r = c.requires in
    tells_commits r.session r.commands c.args.self.now r.stood r.holds c.as_slice.result.now c.as_slice.ensures.value tx found post.1

pub report-requires-clause-session : goal.report-requires-clause-session
report-requires-clause-session c =
    let world = c.args.self.now in
    let r = c.requires in
    let puts = c.in_ok-tables.tables.items in
    session_again world puts (is_session r.session r.commands world r.stood r.holds puts (c.in_ok-tables.ensures (fresh r.session) r.commands r.stood r.holds)) c.as_slice.result.now
    c.as_slice-2.result.now c.as_slice-3.result.now c.as_slice.ensures.value c.as_slice-2.ensures.value c.as_slice-3.ensures.value
