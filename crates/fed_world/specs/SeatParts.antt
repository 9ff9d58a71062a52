-- What a world keeps of one site: its local database system, the marks of its records, and its messages.
use Rattle.std.specs.Prelude.{◌≡◌, List, ◌++◌, length}
use Rattle.fed_rules.specs.declared.commands.Line.{Line}
use Rattle.fed_rules.specs.declared.events.SiteEvent.{SiteEvent}
use Rattle.fed_rules.specs.declared.messages.FromSite.{FromSite}
use Rattle.fed_rules.specs.declared.messages.ToSite.{ToSite}
use Rattle.fed_rules.specs.Requests.{Request}
use Rattle.fed_rules.specs.SiteCommands.{answer_to, past_behind}
use Rattle.fed_rules.specs.SitePast.{SitePast}
use Rattle.fed_rules.specs.SiteRecords.{Home}
use Rattle.fed_rules.specs.Story.{place_from}
use Rattle.actor_store.specs.declared.errors.StepErr.{StepErr}
use Rattle.local_dbms.specs.declared.asks.SiteAsk.{SiteAsk}
use Rattle.local_dbms.specs.Asks.{CanAsk, site_request}
use Rattle.local_dbms.specs.Stands.{Each_site, Fails, OwnPrograms, sends_of}
use Rattle.session_report.specs.declared.marks.Mark.{Mark}
use Rattle.session_report.specs.declared.marks.Marks.{Marks}
use Rattle.session_report.specs.Marks.{kept_marks}
use Rattle.session_routes.specs.declared.traffic.Traffic.{Traffic}

-- the site stands for its past, the marks are those of its records behind the first ones, and these are its messages
pub record PartAt (K : Home → OwnPrograms → SitePast → Type 0) (own : Marks) (traffic : Traffic) (home : Home) (programs : OwnPrograms) (past : SitePast) (first : List Mark) (sent : List ToSite) (back : List FromSite) : Type 0 where
  pub dbms : K home programs past
  pub marked : own.site ≡ home.site
  pub site : traffic.site ≡ home.site
  pub marks : first ++ own.kept.items ≡ kept_marks home past
  pub to : traffic.to.items ≡ sent
  pub from : traffic.from.items ≡ back

-- a request is answered in the line, what it sends is numbered behind what was sent, and the site stands for what it leaves
pub record PartHears (K : Home → OwnPrograms → SitePast → Type 0) (line : Line) (marks : Marks) (traffic : Traffic) (home : Home) (programs : OwnPrograms) (past : SitePast) (first : List Mark) (to : List ToSite) (from : List FromSite) (r : Request SiteEvent) : Type 0 where
  pub said : line.answer ≡ answer_to home past r
  pub places : line.sends ≡ place_from home.site (length from) (sends_of home past r)
  pub next : PartAt K marks traffic home programs (past_behind home past r) first to (from ++ sends_of home past r)

-- what isn't heard: want of memory changes nothing, and a failed disk call only the local database system
pub record PartFails (K : Home → OwnPrograms → SitePast → Type 0) (why : StepErr) (own : Marks) (traffic : Traffic) (home : Home) (programs : OwnPrograms) (past : SitePast) (first : List Mark) (sent : List ToSite) (back : List FromSite) (r : Request SiteEvent) : Type 0 where
  pub dbms : Fails K why home programs past r
  pub marked : own.site ≡ home.site
  pub site : traffic.site ≡ home.site
  pub marks : first ++ own.kept.items ≡ kept_marks home past
  pub to : traffic.to.items ≡ sent
  pub from : traffic.from.items ≡ back

-- what comes of what is asked: the system stood for this before, with these marks and messages, and stands for that after, with those
module _ (before : Home → OwnPrograms → SitePast → Type 0) (own : Marks) (traffic : Traffic) (after : Home → OwnPrograms → SitePast → Type 0) (kept : Marks) (carried : Traffic) (ask : SiteAsk) where
  -- of each past for which it stood, where this may be asked, the request is answered in the line
  abbrev pub ServesOn : Line → Type 0
  ServesOn line = Each_site before (λ home programs past. CanAsk ask home programs past
      → (first : List Mark) (to : List ToSite) (from : List FromSite) → PartAt before own traffic home programs past first to from
      → PartHears after line kept carried home programs past first to from (site_request ask home programs past))

  -- of each such past it isn't, for this reason
  abbrev pub FailsOn : StepErr → Type 0
  FailsOn why = Each_site before (λ home programs past. CanAsk ask home programs past
      → (first : List Mark) (to : List ToSite) (from : List FromSite) → PartAt before own traffic home programs past first to from
      → PartFails after why kept carried home programs past first to from (site_request ask home programs past))
