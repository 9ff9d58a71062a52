use Rattle.std.proofs.Common.{List, sym, ap, ◌∙◌, subst}
use Rattle.mdb_base.specs.Words.{Each}
use Rattle.fed_rules.specs.declared.messages.FromSite.{FromSite}
use Rattle.host_laws.specs.Written.{FitsFromSite}
use Rattle.fed_hosts.specs.Views.{SiteView}
use Rattle.fed_hosts.proofs.Ending.{held}
use Rattle.fed_hosts.proofs.site_host.SiteHost.finish.Goals as goal

pub returns-clause-held : goal.returns-clause-held
returns-clause-held g c =
    held g.E.LocalEngine.stands g.D.Disk.tells g.D.Disk.seen g.N.Plan.sites g.N.Wires.rings c.self.inside.failed c.self.inside.actor c.self.invariant.0 c.of.result c.of-2.result c.of.ensures c.of-2.ensures

pub returns-clause-view : goal.returns-clause-view
returns-clause-view g c = record {
  site = ap (λ (v : SiteView). v.site) c.self.view_is;
  lines = c.of.ensures ∙ ap (λ (v : SiteView). v.lines) c.self.view_is;
  took = ap (λ (v : SiteView). v.took) c.self.view_is;
  failed = ap (λ (v : SiteView). v.failed) c.self.view_is;
}

pub returns-clause-written : goal.returns-clause-written
returns-clause-written g c = subst (λ (messages : List FromSite). Each FitsFromSite messages) (c.as_slice.ensures.value ∙ sym c.of-2.ensures) c.messages_from_fit.ensures
