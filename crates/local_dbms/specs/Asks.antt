-- What is asked of a site, as a request over its own past.
use Rattle.std.specs.Prelude.{Bool, true, false}
use Rattle.fed_rules.specs.declared.events.SiteEvent.{SiteEvent}
use Rattle.fed_rules.specs.declared.events.SiteEvent.TheVariants as Ev
use Rattle.fed_rules.specs.declared.events.SiteStep.{SiteStep}
use Rattle.fed_rules.specs.Requests.{Request, Submits}
use Rattle.fed_rules.specs.SiteCommands as Verb
use Rattle.fed_rules.specs.SiteCommands.{own_request}
use Rattle.fed_rules.specs.SitePast.{SitePast}
use Rattle.fed_rules.specs.SiteRecords.{Home}
use Rattle.actor_store.specs.declared.errors.StepErr.{StepErr}
use Rattle.local_dbms.specs.Stands.{CanGive, Each_site, Fails, IsShort, OwnPrograms, Tells}
use Rattle.local_dbms.specs.declared.asks.SiteAsk.{SiteAsk}
use Rattle.local_dbms.specs.declared.asks.SiteAsk.TheVariants as At

-- what a site makes of it
abbrev pub site_request : SiteAsk → Home → OwnPrograms → SitePast → Request SiteEvent
site_request (At.Begin tx) home programs past = own_request Verb.Begin home (programs tx) past tx
site_request (At.Step tx) home programs past = own_request Verb.Step_on home (programs tx) past tx
site_request (At.Commit tx) home programs past = own_request Verb.Commit home (programs tx) past tx
site_request (At.Abort tx) home programs past = own_request Verb.Abort home (programs tx) past tx
site_request (At.Fate tx) home programs past = own_request Verb.Fate home (programs tx) past tx
site_request (At.Give message) home programs past = Submits (Ev.Give message)
site_request (At.Ask tid) home programs past = Submits (Ev.Ask tid)
site_request (At.Drop tid) home programs past = Submits (Ev.Drop tid)
site_request (At.Halt cut) home programs past = Submits (Ev.Halt cut)
site_request (At.Trip calls cut) home programs past = Submits (Ev.Trip calls cut)
site_request At.Back home programs past = Submits Ev.Back
site_request At.Check home programs past = Submits Ev.Check

-- when a site may be asked: there are few lines, and a message that is given fits
abbrev pub CanAsk : SiteAsk → Home → OwnPrograms → SitePast → Type 0
CanAsk (At.Give message) home programs past = CanGive message home programs past
CanAsk ask home programs past = IsShort home programs past

-- only a message that is given and an inquiry can make a site send
abbrev pub can_send : SiteAsk → Bool
can_send (At.Give message) = true
can_send (At.Ask tid) = true
can_send ask = false

-- an inquiry, or what an operator asks: it goes to the core as it is, whatever the past
abbrev pub is_operation : SiteAsk → Bool
is_operation (At.Ask tid) = true
is_operation (At.Drop tid) = true
is_operation (At.Halt cut) = true
is_operation (At.Trip calls cut) = true
is_operation At.Back = true
is_operation At.Check = true
is_operation ask = false

-- what comes of it, from what the site stood for before to what it stands for after
module _ (before after : Home → OwnPrograms → SitePast → Type 0) (ask : SiteAsk) where
  -- of each past for which it stood, where this may be asked, the step is the answer to the request, with what that sends and leaves
  abbrev pub ServesOn : SiteStep → Type 0
  ServesOn step = Each_site before (λ home programs past. CanAsk ask home programs past → Tells after step home programs past (site_request ask home programs past))

  -- of each such past the request isn't answered, for this reason
  abbrev pub FailsOn : StepErr → Type 0
  FailsOn why = Each_site before (λ home programs past. CanAsk ask home programs past → Fails after why home programs past (site_request ask home programs past))
