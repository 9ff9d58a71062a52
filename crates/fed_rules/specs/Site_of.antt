-- The site of an outstanding operation, the attempt that a message is about, and the message to a site.
use Rattle.std.specs.Prelude.{Option, List}
use Rattle.mdb_base.specs.declared.names.SiteId.{SiteId}
use Rattle.mdb_base.specs.declared.names.Tid.{Tid}
use Rattle.mdb_base.specs.Names.{same_site}
use Rattle.mdb_base.specs.Words.{first_where, map_some}
use Rattle.fed_rules.specs.declared.messages.Due.{Due}
use Rattle.fed_rules.specs.declared.messages.Due.TheVariants.{Work, Take, Prepare}
use Rattle.fed_rules.specs.declared.messages.Sent.{Sent}
use Rattle.fed_rules.specs.declared.messages.ToSite.{ToSite}
use Rattle.fed_rules.specs.declared.messages.ToSite.TheVariants as To

abbrev pub due_site : Due → SiteId
due_site (Work site epoch n act) = site
due_site (Take site epoch n) = site
due_site (Prepare site epoch n) = site

-- the attempt that a message to a site is about
abbrev pub about : ToSite → Tid
about (To.Work tid epoch n act) = tid
about (To.Take tid epoch n) = tid
about (To.Prepare tid epoch n) = tid
about (To.Decide tid decision) = tid

-- the message to the site among these
abbrev pub message_to : SiteId → List Sent → Option ToSite
message_to site sends = map_some (λ sent. sent.message) (first_where (λ sent. same_site sent.site site) sends)
