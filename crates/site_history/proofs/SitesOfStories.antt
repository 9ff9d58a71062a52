-- What holds of every past that sorted events make holds of each declared site of every story.
use Rattle.std.proofs.Common.{sym, subst}
use Rattle.fed_rules.specs.SitePast.{SitePast}
use Rattle.fed_rules.specs.SiteRecords.{Home}
use Rattle.site_history.specs.Events.{PreparesOnce}
use Rattle.site_history.specs.Lines.{HasRightLines}
use Rattle.site_history.specs.SiteOrders.{HasEpochs, IsSerialPast, OfSortedEvents, OfSortedPasts}
use Rattle.site_history.specs.Stories.{OfSites, OfSitesPreparedOnce, StoriesHaveRightLines, StoriesPrepareOnce, is_local}
use Rattle.site_history.specs.Tickets.{TicketsRise}
use Rattle.site_history.proofs.RightLines.{lines_right}
use Rattle.site_history.proofs.SerialPasts.{pasts_epochs, pasts_serial}
use Rattle.site_history.proofs.SortedPasts.{are_fresh}
use Rattle.site_history.proofs.MadeSorted.{events_sorted}
use Rattle.site_history.proofs.ShutWalk.{prepares_once}
use Rattle.site_history.proofs.TicketLines.{pasts_rise}

pub stories_right : StoriesHaveRightLines
stories_right scenario commands site home declared =
    let m = events_sorted scenario commands site home declared in
    subst (HasRightLines home) (sym m.made) (lines_right home m.events (are_fresh home (is_local scenario) m.events m.sorted))

pub stories_once : StoriesPrepareOnce
stories_once scenario commands site home declared =
    let m = events_sorted scenario commands site home declared in
    subst (PreparesOnce home) (sym m.made) (prepares_once home (is_local scenario) m.events m.sorted m.one_epoch)

pub of_stories : (P : Home → SitePast → Type 0) → OfSortedPasts P → OfSitesPreparedOnce P
of_stories P always scenario commands site home declared once =
    let m = events_sorted scenario commands site home declared in
    subst (P home) (sym m.made) (always home (is_local scenario) m.events m.sorted (subst (PreparesOnce home) m.made once))

pub of_events : (P : Home → SitePast → Type 0) → OfSortedEvents P → OfSites P
of_events P always scenario commands site home declared =
    let m = events_sorted scenario commands site home declared in
    subst (P home) (sym m.made) (always home (is_local scenario) m.events m.sorted)

pub stories_epochs : OfSitesPreparedOnce HasEpochs
stories_epochs = of_stories HasEpochs pasts_epochs

pub stories_serial : OfSitesPreparedOnce IsSerialPast
stories_serial = of_stories IsSerialPast pasts_serial

stories_rise : OfSitesPreparedOnce TicketsRise
stories_rise = of_stories TicketsRise pasts_rise

-- with no premise
pub sites_epochs : OfSites HasEpochs
sites_epochs scenario commands site home declared =
    stories_epochs scenario commands site home declared (stories_once scenario commands site home declared)

pub sites_serial : OfSites IsSerialPast
sites_serial scenario commands site home declared =
    stories_serial scenario commands site home declared (stories_once scenario commands site home declared)

pub sites_rise : OfSites TicketsRise
sites_rise scenario commands site home declared =
    stories_rise scenario commands site home declared (stories_once scenario commands site home declared)
