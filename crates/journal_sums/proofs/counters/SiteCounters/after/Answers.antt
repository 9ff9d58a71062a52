use Rattle.journal_sums.proofs.CounterLaws.{tells_local, tells_prepared}
use Rattle.journal_sums.proofs.counters.SiteCounters.after.Goals as goal

pub returns-in-Prepared : goal.returns-in-Prepared
returns-in-Prepared c sum newer tells =
    let e = c.in-Prepared in
    rw (c.in-Prepared.is, c.taking.ensures, c.counting.ensures) (tells_prepared c.args.self e.tid e.epoch e.number e.ticket e.writes sum newer tells)

pub returns-in-Local : goal.returns-in-Local
returns-in-Local c sum newer tells =
    let e = c.in-Local in
    rw (c.in-Local.is, c.counting-in-Local.ensures) (tells_local c.args.self e.tid e.number e.writes sum newer tells)
