-- The events of a site in a session without transactions, as each is that goes on from disks.
use Rattle.fed_rules.specs.declared.events.SiteEvent.{SiteEvent}
use Rattle.fed_rules.specs.declared.events.SiteEvent.TheVariants as Ev
use Rattle.fed_rules.specs.declared.messages.ToSite.TheVariants as To

-- an event of a site in a session without transactions
abbrev pub IsResuming : SiteEvent → Type 0
IsResuming (Ev.Give (To.Decide tid decision)) = Unit {0}
IsResuming (Ev.Give message) = ⊥
IsResuming (Ev.Begin tid) = ⊥
IsResuming (Ev.Act tid act) = ⊥
IsResuming (Ev.Commit tid) = ⊥
IsResuming (Ev.Abort tid) = ⊥
IsResuming (Ev.Fate tx) = ⊥
IsResuming event = Unit {0}
