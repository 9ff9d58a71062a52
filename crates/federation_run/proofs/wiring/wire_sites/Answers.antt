use Rattle.std.proofs.Common.{length, refl, slice_index_or, subst, sym}
use Rattle.std.proofs.lemmas.Option.{slice_get-get_or}
use Rattle.mdb_base.specs.declared.names.SiteId.{SiteId}
use Rattle.federation_run.specs.declared.wired.WiredSite.{WiredSite}
use Rattle.federation_run.specs.Wired.{IsWired}
use Rattle.federation_run.proofs.WiredSites.{rest_some, wired_all, wired_next, wired_none}
use Rattle.federation_run.proofs.Rooms.{same_number}
use Rattle.federation_run.proofs.wiring.wire_sites.Goals as goal

pub loop-site-init : goal.loop-site-init
loop-site-init c = wired_none c.args.scenario.now c.args.sites.now c.args.cores.items c.new-wired_sites.result.items c.new-ports.result.items c.new-wired_sites.ensures.items c.new-ports.ensures.items

pub remove-dbms-requires : goal.remove-dbms-requires
remove-dbms-requires c =
    rest_some c.args.scenario.now c.args.sites.now c.args.cores.items c.loop-site.rest.items c.loop-site.site-index c.loop-site.wired_sites.items c.loop-site.ports.items c.loop-site.rest.len c.requires c.loop-site-test.true
    c.loop-site.invariant c.loop-site.rest.ok.0

pub loop-site-preserved : goal.loop-site-preserved
loop-site-preserved c =
    let n = c.loop-site.site-index in
    let site : SiteId = slice_index_or c.args.sites.now n (record { 0 = 0 }) in
    let own =
    subst (λ (wired : WiredSite). IsWired c.args.scenario.now site c.remove-dbms.result wired c.in_ok-stops.field-0.port) (sym c.wired_site.ensures) (record { dbms_is = refl; stops = c.in_ok-stops.ensures.stops; rings = c.in_ok-stops.ensures.rings }) in
    wired_next c.args.scenario.now c.args.sites.now c.args.cores.items c.loop-site.rest.items c.remove-dbms.new.self.items n c.loop-site.wired_sites.items c.push.new.self.items c.loop-site.ports.items c.push-in-loop-site.new.self.items
    site c.remove-dbms.result c.wired_site.result c.in_ok-stops.field-0.port c.requires c.loop-site-test.true c.loop-site.invariant (slice_get-get_or c.args.sites.now n (record { 0 = 0 }) c.loop-site-test.true)
    c.remove-dbms.ensures.value c.remove-dbms.ensures.items own c.in_ok-push.ensures.items c.in_ok-push-2.ensures.items

pub returns : goal.returns
returns c =
    wired_all c.args.scenario.now c.args.sites.now c.args.cores.items c.loop-site.rest.items c.loop-site.site-index c.loop-site.wired_sites.items c.loop-site.ports.items
    (same_number c.loop-site.site-index (length c.args.sites.now) c.loop-site-test.false c.loop-site.auto.site-index-end) c.loop-site.invariant
