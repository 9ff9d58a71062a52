use Rattle.std.proofs.Common.{List, length, sym, ap, subst, ◌∙◌}
use Rattle.mdb_base.specs.declared.names.SiteId.{SiteId}
use Rattle.federation_run.specs.Wired.{AreWired}
use Rattle.federation_run.proofs.wiring.wiring_of.Goals as goal

pub wire_sites-requires : goal.wire_sites-requires
wire_sites-requires c = c.requires ∙ sym (ap (λ (ss : List SiteId). length ss) (c.as_slice.ensures.value ∙ c.in_ok-declared.ensures))

pub returns-clause-stops : goal.returns-clause-stops
returns-clause-stops c = c.in_ok-stops.ensures

pub returns-clause-wired : goal.returns-clause-wired
returns-clause-wired c =
    subst (λ (ss : List SiteId). AreWired c.args.scenario.now ss c.args.cores.items.items c.in_ok-wired_sites.field-0.wired_sites.items c.in_ok-wired_sites.field-0.ports.items) (c.as_slice.ensures.value ∙ c.in_ok-declared.ensures) c.in_ok-wired_sites.ensures
