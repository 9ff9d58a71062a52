-- In a site's journal the numbers and tickets of Prepared and Local records, and of those that a Checkpoint has in doubt, are at least 1.
use Rattle.std.proofs.Common.{List, [], ◌∷◌, sym, subst}
use Rattle.mdb_base.specs.Words.{Each}
use Rattle.mdb_base.proofs.ForCallers.{each_map, each_of_map}
use Rattle.fed_rules.specs.declared.records.SiteRecord.{SiteRecord}
use Rattle.fed_rules.specs.declared.records.SiteRecord.TheVariants.{Setup, Start, Prepared, Ended, Local, Checkpoint}
use Rattle.fed_rules.specs.declared.sums.SiteSum.{SiteSum}
use Rattle.fed_rules.specs.EngineLines.{IsNumbered}
use Rattle.fed_rules.specs.Site.{site_past}
use Rattle.fed_rules.specs.SitePast.{journal, records}
use Rattle.fed_rules.specs.SiteRecords.{Held, Home, doubts, kept_held, start_of}
use Rattle.fed_rules.specs.SiteSums.{site_sum}
use Rattle.fed_rules.specs.Usable.{OfFronts}
use Rattle.site_history.proofs.ForCallers.{StartsWell, of_events, pasts_summed, well_past, whole_of_fronts}
use Rattle.site_history.specs.Sums.{AreSums}
use Rattle.disk_laws.specs.Left.{OfSites, IsSome, IsSomeHeld, NumbersAreSome}
use Rattle.disk_laws.proofs.SiteLeft.{AreMarked, counts, each_counted, marked}
use Rattle.disk_laws.proofs.SiteWalk.{AreWritten, written_past}

of_sum : (home : Home) (before : List SiteRecord) → OfFronts (StartsWell home) before → Each IsSomeHeld (site_sum home before).doubtful
of_sum home before starts =
    each_map (λ (held : Held). IsNumbered (start_of home before) (kept_held held)) IsSomeHeld (λ held is. (is.number_some, is.ticket_some)) (doubts before)
    (each_of_map (IsNumbered (start_of home before)) kept_held (doubts before) (whole_of_fronts (StartsWell home) before starts).numbered)

all_some : (home : Home) (rs : List SiteRecord) → OfFronts (StartsWell home) rs → AreSums home rs → AreMarked rs → AreWritten rs → Each IsSome rs
all_some home [] f s m w = tt
all_some home (Prepared t e n k v ∷ rs) f s m w = ((m.0, m.1), all_some home rs f.1 s m.2 w.1)
all_some home (Local t n v ∷ rs) f s m w = (w.0, all_some home rs f.1 s m w.1)
all_some home (Checkpoint sum ∷ rs) f s m w =
    (subst (λ (z : SiteSum). Each IsSomeHeld z.doubtful) (sym s.0) (of_sum home rs f.1), all_some home rs f.1 s.1 m w.1)
all_some home (Setup site engine protocol items ∷ rs) f s m w = (tt, all_some home rs f.1 s m w.1)
all_some home (Start e ∷ rs) f s m w = (tt, all_some home rs f.1 s m w.1)
all_some home (Ended t d ∷ rs) f s m w = (tt, all_some home rs f.1 s m w.1)

pub leave_numbers : OfSites NumbersAreSome
leave_numbers = of_events (λ home past. Each IsSome (journal home past))
    (λ home local events sorted.
    let past = site_past home events in
    let starts = (well_past home local events sorted).starts in
    each_counted home IsSome (records home past) (journal home past) (counts home local events sorted)
    (all_some home (records home past) starts (pasts_summed home local events sorted).sums (marked home (records home past) starts)
    (written_past home local events sorted).written))
