-- The marks of a site's records, and which one a line adds.
use Rattle.std.specs.Prelude.{ℕ, ◌≡◌, nat_lt, cond, Option, Some, None, List, [], ◌∷◌, ◌++◌, length}
use Rattle.mdb_base.specs.Words.{found, with_some}
use Rattle.fed_rules.specs.CoordPast.{oldest_first}
use Rattle.fed_rules.specs.declared.events.SiteEvent.{SiteEvent}
use Rattle.fed_rules.specs.declared.records.SiteRecord.{SiteRecord}
use Rattle.fed_rules.specs.declared.records.SiteRecord.TheVariants.{Local, Prepared}
use Rattle.fed_rules.specs.Site.{site_past}
use Rattle.fed_rules.specs.SitePast.{SitePast, journal, records}
use Rattle.fed_rules.specs.SiteRecords.{Home}
use Rattle.session_report.specs.declared.marks.Mark.{Mark}

-- the mark of a record: a Local and a Prepared one has one
abbrev pub mark_of : SiteRecord → Option Mark
mark_of (Local tid number writes) = Some (record { tid = tid; number = number })
mark_of (Prepared tid epoch number ticket writes) = Some (record { tid = tid; number = number })
mark_of kept = None

-- the marks of all records that a site ever kept and didn't lose, the oldest first
abbrev pub kept_marks : Home → SitePast → List Mark
kept_marks home past = oldest_first (found mark_of (records home past))

-- where more than so many records stand now, the mark of the newest one
abbrev pub new_marks : ℕ → List SiteRecord → List Mark
new_marks before [] = []
new_marks before (newest ∷ older) = cond (nat_lt before (length (newest ∷ older))) (with_some (mark_of newest) []) []

-- a line of a site adds the mark of the newest record of its journal, where that grew
abbrev pub LinesMarkOne : Type 0
LinesMarkOne =
    (home : Home) (events : List SiteEvent) (event : SiteEvent)
    → kept_marks home (site_past home (event ∷ events))
    ≡ kept_marks home (site_past home events) ++ new_marks (length (journal home (site_past home events))) (journal home (site_past home (event ∷ events)))
