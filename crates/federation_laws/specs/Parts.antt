-- What the commit protocol and the programs give for the order of all sites.
use Rattle.std.specs.Prelude.{ℕ, ◌≡◌, false, Some, None, List, []}
use Rattle.mdb_base.specs.declared.names.SiteId.{SiteId}
use Rattle.mdb_base.specs.declared.names.Tid.{Tid}
use Rattle.mdb_base.specs.Names.{same_tid}
use Rattle.order_laws.specs.Chains.{In}
use Rattle.order_laws.specs.Orders.{is_in}
use Rattle.order_laws.specs.Tickets.{Ticketed}
use Rattle.fed_rules.specs.declared.scenario.Scenario.{Scenario}
use Rattle.fed_rules.specs.Orders.{order_at, records_of, reads_of}
use Rattle.fed_rules.specs.Scenarios.{home_of, local_site, program_of}
use Rattle.fed_rules.specs.SiteRecords.{Home}
use Rattle.fed_rules.specs.Story.{Story, past_of}
use Rattle.site_history.specs.Accesses.{acts_at}
use Rattle.site_history.specs.Records.{IsPrepared}
use Rattle.federation_laws.specs.Accesses.{SiteAccess, at, reads_in, Ran}
use Rattle.federation_laws.specs.Edges.{committed}

-- the attempt is prepared at the site with a ticket, and its Commit record has that ticket
pub record IsAgreed (scenario : Scenario) (story : Story) (site : SiteId) (tid : Tid) : Type 0 where
  pub ticket : ℕ
  pub prepared : IsPrepared (records_of scenario story site) tid ticket
  pub commit : Ticketed
  pub kept : In commit (committed story)
  pub theirs : commit.tid ≡ tid
  pub named : In (record { site = site; ticket = ticket }) commit.tickets

-- a local member stands at its home alone, a global one was prepared with the ticket that its Commit record names, and no attempt has two
-- Commit records
pub record CommitsAgree (scenario : Scenario) (story : Story) : Type 0 where
  pub at_home : (site home : SiteId) (tid : Tid) → In tid (order_at scenario story site) → local_site scenario tid.tx ≡ Some home → home ≡ site
  pub global : (site : SiteId) (tid : Tid) → In tid (order_at scenario story site) → local_site scenario tid.tx ≡ None
      → IsAgreed scenario story site tid
  pub once : (a b : Ticketed) → In a (committed story) → In b (committed story) → a.tid ≡ b.tid → a ≡ b

-- the accesses of a member over all sites are those of its program with the values that it read: at each site of whose order it is a member
-- its granted accesses, and at any other site none
pub record IsByProgram (scenario : Scenario) (story : Story) (tid : Tid) : Type 0 where
  pub accesses : List SiteAccess
  pub ran : Ran (program_of scenario tid.tx) accesses
  pub reads : reads_in accesses ≡ reads_of scenario story tid
  pub here : (site : SiteId) (home : Home) → home_of scenario site ≡ Some home → In tid (order_at scenario story site)
      → at site accesses ≡ acts_at home (past_of site story) tid
  pub elsewhere : (site : SiteId) → is_in same_tid (order_at scenario story site) tid ≡ false → at site accesses ≡ []

-- so it is for each member of each site's order
abbrev pub MembersFollowPrograms : Scenario → Story → Type 0
MembersFollowPrograms scenario story =
    (site : SiteId) (tid : Tid) → In tid (order_at scenario story site) → IsByProgram scenario story tid
