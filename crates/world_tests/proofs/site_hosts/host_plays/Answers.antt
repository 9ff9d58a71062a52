use Rattle.std.proofs.Common.{◌≡◌, Bool, Some, List, [], option_map, slice_get, refl, sym, ap, subst, ◌∙◌, rules}
use Rattle.mdb_base.specs.declared.rows.Put.{Put}
use Rattle.fed_rules.specs.declared.scenario.SiteLine.{SiteLine}
use Rattle.fed_rules.specs.Runs.{Start, EngineLine}
use Rattle.journal_disk.specs.Disk.{Seen}
use Rattle.journal_disk.specs.MemDisk.{mem_faults}
use Rattle.local_dbms.specs.declared.dbms.LocalDbms.{LocalDbms}
use Rattle.local_dbms.specs.Stands.{OwnPrograms, Stands, home_from}
use Rattle.scripted_link.specs.Rings.{Ring, Wire}
use Rattle.host_laws.specs.Plans.{SitePlan}
use Rattle.fed_hosts.proofs.ForCallers.{clean}
use Rattle.world_tests.specs.HostSessions.{plan_of}
use Rattle.world_tests.proofs.site_hosts.host_plays.Goals as goal

-- a site that was set up with no rows stands for that
without_rows : {E : Type 0} (stands : E → Start → List EngineLine → Type 0) (tells : Bool) (dbms : LocalDbms E) (disk : Seen) (line : SiteLine) (programs : OwnPrograms) (items : List Put) → items ≡ []
    → Stands stands tells dbms disk (home_from line items) programs [] → Stands stands tells dbms disk (home_from line []) programs []
without_rows stands tells dbms disk line programs items none stood = subst (λ (rows : List Put). Stands stands tells dbms disk (home_from line rows) programs []) none stood

pub new-host-requires-clause-opens : goal.new-host-requires-clause-opens
new-host-requires-clause-opens g c =
    record {
      plan = plan_of c.args.transactions.now c.args.stops.items (mem_faults c.args.disk);
      planned = record {
        place = 0;
        at = ap (λ (sites : List SitePlan). slice_get sites 0) c.requires.sites;
        site = refl;
        to = ap (λ (rings : List Wire). option_map (λ (wire : Wire). wire.ring) (slice_get rings 0)) c.requires.wires ∙ ap (λ (r : Ring). Some r) (sym c.requires.rings.0.pair);
        from = ap (λ (rings : List Wire). slice_get rings 1) c.requires.wires;
        stops = c.requires.stops;
      };
      stops_are = refl;
      stood = without_rows _ _ _ _ _ _ c.of-items.result (search rules) c.in_ok-dbms.ensures.stands;
      faults = clean _ _ c.in_ok-dbms.dbms c.in_ok-dbms.ensures.cause;
      taken_none = c.requires.rings.0.taken_none;
      offered_none = c.requires.rings.1.offered_none;
      uncounted = c.requires.rings.0.uncounted;
    }
