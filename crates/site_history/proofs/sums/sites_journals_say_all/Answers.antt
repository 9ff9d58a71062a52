use Rattle.site_history.proofs.SitesOfStories.{of_events}
use Rattle.site_history.specs.Sums.{JournalSaysAll, JournalTellsStart}
use Rattle.site_history.proofs.SummedPasts as Pasts
use Rattle.site_history.proofs.sums.sites_journals_say_all.Goals as goal

pub returns-clause-all : goal.returns-clause-all
returns-clause-all c = of_events JournalSaysAll Pasts.journals_say_all

pub returns-clause-start : goal.returns-clause-start
returns-clause-start c = of_events JournalTellsStart Pasts.journals_tell_starts
