-- Which pasts go on from a found journal: that which a journal stands for, and none that events make of nothing.
use Rattle.std.proofs.Common.{◌≡◌, ◌∙◌, ℕ, Bool, true, false, ◌&&◌, ◌||◌, List, [], ◌∷◌, refl, ap, ap₂}
use Rattle.fed_rules.specs.declared.events.SiteEvent.{SiteEvent}
use Rattle.fed_rules.specs.declared.events.SiteEvent.TheVariants as Ev
use Rattle.fed_rules.specs.declared.answers.Answer.TheVariants as Say
use Rattle.fed_rules.specs.declared.records.SiteRecord.{SiteRecord}
use Rattle.fed_rules.specs.Disk.{Stops}
use Rattle.fed_rules.specs.Found.{Journal}
use Rattle.fed_rules.specs.Happenings.{is_down, quiet, stopped}
use Rattle.fed_rules.specs.Reopened.{all_named, long_site, opened_site, rewritten, site_reads_as, torn_off}
use Rattle.fed_rules.specs.Site.{site_line, site_past}
use Rattle.fed_rules.specs.SitePast.{SitePast, disk}
use Rattle.fed_rules.specs.SiteRecords.{Home, site_frame}
use Rattle.mdb_base.specs.Words.{some_of, when}
use Rattle.actor_store.specs.Store.{writes}
use Rattle.actor_store.proofs.ForCallers.{writes_more}
use Rattle.site_core.specs.Made.{is_halt, opens, was_found}
use Rattle.site_core.proofs.RuleWalks.{line_event}

-- the past that a journal stands for goes on from it
pub opened_was_found : (journal : Journal SiteRecord) → was_found (opened_site journal) ≡ true
opened_was_found journal =
    ap (λ (b : Bool). b || some_of opens (all_named journal.records)) (writes_more (rewritten site_reads_as journal.records) (torn_off (long_site journal.torn) journal.torn) refl)

-- a halt writes nothing
halt_opens : (home : Home) (past : SitePast) (cut : ℕ) (down : Bool)
    → opens (when down (quiet (Ev.Halt cut) Say.Down) (stopped site_frame (disk home past) (Ev.Halt cut) (Stops cut ∷ []))) ≡ false
unfolding when stopped
halt_opens home past cut true = refl
halt_opens home past cut false = refl

not_halt : (home : Home) (past : SitePast) (event : SiteEvent) → is_halt event ≡ false → opens (site_line home past event) ≡ false
not_halt home past event e =
    let x = site_line home past event in
    ap (λ (b : Bool). b && writes x.calls) (ap is_halt (line_event home past event) ∙ e)

-- so no line of the rules begins with a found journal
pub line_opens : (home : Home) (past : SitePast) (event : SiteEvent) → opens (site_line home past event) ≡ false
unfolding site_line
line_opens home past (Ev.Halt cut) = halt_opens home past cut (is_down past)
line_opens home past (Ev.Begin tid) = not_halt home past (Ev.Begin tid) refl
line_opens home past (Ev.Act tid act) = not_halt home past (Ev.Act tid act) refl
line_opens home past (Ev.Commit tid) = not_halt home past (Ev.Commit tid) refl
line_opens home past (Ev.Abort tid) = not_halt home past (Ev.Abort tid) refl
line_opens home past (Ev.Fate t) = not_halt home past (Ev.Fate t) refl
line_opens home past (Ev.Give message) = not_halt home past (Ev.Give message) refl
line_opens home past (Ev.Ask tid) = not_halt home past (Ev.Ask tid) refl
line_opens home past (Ev.Drop tid) = not_halt home past (Ev.Drop tid) refl
line_opens home past (Ev.Trip calls cut) = not_halt home past (Ev.Trip calls cut) refl
line_opens home past Ev.Back = not_halt home past Ev.Back refl
line_opens home past Ev.Check = not_halt home past Ev.Check refl

-- nor does a past that events make of nothing
pub next_not_found : (home : Home) (past : SitePast) (event : SiteEvent) → was_found past ≡ false → was_found (site_line home past event ∷ past) ≡ false
next_not_found home past event e = ap₂ (λ (a b : Bool). a || b) (line_opens home past event) e

pub past_not_found : (home : Home) (events : List SiteEvent) → was_found (site_past home events) ≡ false
past_not_found home [] = refl
past_not_found home (event ∷ events) = next_not_found home (site_past home events) event (past_not_found home events)
