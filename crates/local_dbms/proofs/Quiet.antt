-- What is asked of a site beside messages and inquiries sends nothing.
use Rattle.std.proofs.Common.{◌≡◌, false, Option, Some, None, List, [], refl, subst, option_to_list}
use Rattle.mdb_base.specs.declared.acts.Step.{Step}
use Rattle.mdb_base.specs.declared.names.Tx.{Tx}
use Rattle.mdb_base.specs.Words.{given}
use Rattle.fed_rules.specs.declared.events.SiteEvent.{SiteEvent}
use Rattle.fed_rules.specs.declared.events.SiteEvent.TheVariants as Ev
use Rattle.fed_rules.specs.declared.messages.FromSite.{FromSite}
use Rattle.fed_rules.specs.Requests.{Request, Submits, Declines}
use Rattle.fed_rules.specs.SiteCommands.{Verb, Begin, Step_on, Commit, Abort, Fate, own_request, request}
use Rattle.fed_rules.specs.SitePast.{SitePast}
use Rattle.fed_rules.specs.SiteRecords.{Home}
use Rattle.fed_rules.specs.Lines.{Asks}
use Rattle.fed_rules.proofs.ForCallers.{asks}
use Rattle.world_laws.specs.Messages.{MaySend}
use Rattle.world_laws.proofs.ForCallers.{own_events_silent}
use Rattle.local_dbms.specs.declared.asks.SiteAsk.{SiteAsk}
use Rattle.local_dbms.specs.declared.asks.SiteAsk.TheVariants as At
use Rattle.local_dbms.specs.Asks.{can_send, site_request}
use Rattle.local_dbms.specs.Stands.{OwnPrograms, sends_of}

-- what a command of a local transaction submits sends nothing
asked_quiet : (verb : Verb) (home : Home) (steps : List Step) (past : SitePast) (tx : Tx) (event : SiteEvent) → Asks verb home steps past tx event → MaySend event → ⊥
asked_quiet Begin home steps past tx event a may = subst MaySend a.is may
asked_quiet Step_on home steps past tx event a may = subst MaySend a.is may
asked_quiet Commit home steps past tx event a may = subst MaySend a.is may
asked_quiet Abort home steps past tx event a may = subst MaySend a.is may
asked_quiet Fate home steps past tx event a may = subst MaySend a may

request_quiet : (verb : Verb) (home : Home) (steps : List Step) (past : SitePast) (tx : Tx) (r : Request SiteEvent) → request verb home steps past tx ≡ r → sends_of home past r ≡ []
request_quiet verb home steps past tx (Submits event) e = own_events_silent home past event (asked_quiet verb home steps past tx event (asks verb home steps past tx event e))
request_quiet verb home steps past tx (Declines answer) e = refl

own_quiet : (verb : Verb) (home : Home) (program : Option (List Step)) (past : SitePast) (tx : Tx) → sends_of home past (own_request verb home program past tx) ≡ []
unfolding own_request given
own_quiet verb home None past tx = refl
own_quiet verb home (Some steps) past tx = request_quiet verb home steps past tx (request verb home steps past tx) refl

-- so what can't make the site send anything doesn't
pub ask_quiet : (ask : SiteAsk) (home : Home) (programs : OwnPrograms) (past : SitePast) → can_send ask ≡ false → sends_of home past (site_request ask home programs past) ≡ []
ask_quiet (At.Begin tx) home programs past cannot = own_quiet Begin home (programs tx) past tx
ask_quiet (At.Step tx) home programs past cannot = own_quiet Step_on home (programs tx) past tx
ask_quiet (At.Commit tx) home programs past cannot = own_quiet Commit home (programs tx) past tx
ask_quiet (At.Abort tx) home programs past cannot = own_quiet Abort home (programs tx) past tx
ask_quiet (At.Fate tx) home programs past cannot = own_quiet Fate home (programs tx) past tx
ask_quiet (At.Give message) home programs past cannot = cc
ask_quiet (At.Ask tid) home programs past cannot = cc
ask_quiet (At.Drop tid) home programs past cannot = own_events_silent home past (Ev.Drop tid) (λ may. may)
ask_quiet (At.Halt cut) home programs past cannot = own_events_silent home past (Ev.Halt cut) (λ may. may)
ask_quiet (At.Trip calls cut) home programs past cannot = own_events_silent home past (Ev.Trip calls cut) (λ may. may)
ask_quiet At.Back home programs past cannot = own_events_silent home past Ev.Back (λ may. may)
ask_quiet At.Check home programs past cannot = own_events_silent home past Ev.Check (λ may. may)

-- no message is none
pub unsent : (sends : Option FromSite) → option_to_list sends ≡ [] → sends ≡ None
unsent None e = refl
unsent (Some message) e = cc
