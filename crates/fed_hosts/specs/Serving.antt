-- How the calls of a site's host end.
use Rattle.std.specs.Prelude.{◌≡◌, ◌<◌, ◌≤◌, ◌⊎◌, Bool, true, false, List}
use Rattle.mdb_base.specs.declared.names.Tx.{Tx}
use Rattle.fed_rules.specs.declared.answers.Answer.TheVariants as Say
use Rattle.fed_rules.specs.declared.events.SiteEvent.TheVariants as Ev
use Rattle.fed_rules.specs.Requests.{attempt, unless_begun}
use Rattle.fed_rules.specs.Runs.{Start, EngineLine}
use Rattle.fed_rules.specs.Site.{site_line}
use Rattle.fed_rules.specs.SitePast.{SitePast, attempts_of, begins_tx}
use Rattle.fed_rules.specs.SiteRecords.{Home}
use Rattle.journal_disk.specs.Disk.{Seen}
use Rattle.actor_store.specs.declared.errors.StepErr.{StepErr}
use Rattle.actor_store.specs.declared.errors.StepErr.TheVariants as Err_is
use Rattle.scripted_link.specs.Rings.{Wire}
use Rattle.fed_hosts.specs.declared.site_actor.SiteActor.{SiteActor}
use Rattle.fed_hosts.specs.declared.verbs.Verb.{Verb}
use Rattle.fed_hosts.specs.declared.verbs.Verb.TheVariants as Asks
use Rattle.fed_hosts.specs.Keeps.{Keeps, most_begun}
use Rattle.host_laws.specs.Plans.{SitePlan}

-- an attempt may begin: fewer were begun than a host begins, or nothing would begin
abbrev pub MayBegin : Home → SitePast → Tx → Type 0
MayBegin home past tx = (attempts_of past tx < most_begun) ⊎ ((other : Tx) → begins_tx other (site_line home past (Ev.Begin (attempt tx (attempts_of past tx)))).answer ≡ false)

-- the call is a begin that would begin a further attempt, of a transaction of which as many were begun as a host begins
pub record IsLastBegin (home : Home) (past : SitePast) (verb : Verb) (tx : Tx) : Type 0 where
  pub begin : verb ≡ Asks.Begin
  pub most : most_begun ≤ attempts_of past tx
  pub further : unless_begun (site_line home past (Ev.Begin (attempt tx (attempts_of past tx)))).answer ≡ Say.Spent

-- an error: the host has failed where a disk call did
abbrev pub has_failed : StepErr → Bool
has_failed Err_is.Memory = false
has_failed Err_is.Disk = true

abbrev pub HasFailed : {E D : Type 0} → (E → Start → List EngineLine → Type 0) → Bool → (D → Seen) → List SitePlan → List Wire → SiteActor E D → StepErr → Type 0
HasFailed stands tells seen sites rings new why = Keeps stands tells seen sites rings (has_failed why) new
