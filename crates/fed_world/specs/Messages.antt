-- The messages of one site.
use Rattle.std.specs.Prelude.{◌≡◌}
use Rattle.mdb_base.specs.declared.names.SiteId.{SiteId}
use Rattle.fed_rules.specs.Story.{Story, sent_from, sent_to}
use Rattle.session_routes.specs.declared.traffic.Traffic.{Traffic}

-- these are the messages that were sent to and from the site
pub record AreMessages (traffic : Traffic) (site : SiteId) (story : Story) : Type 0 where
  pub to : traffic.to.items ≡ sent_to site story
  pub from : traffic.from.items ≡ sent_from site story
