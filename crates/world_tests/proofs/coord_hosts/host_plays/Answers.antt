use Rattle.std.proofs.Common.{true, List, [], refl, sym, subst, rules, arith}
use Rattle.mdb_base.specs.Words.{Each}
use Rattle.presumptions.specs.declared.Participant.{Participant}
use Rattle.record_fields.specs.Named.{IsSite}
use Rattle.fed_rules.specs.Policies.{always}
use Rattle.coord_core.specs.Stands.{IsEmptyDisk}
use Rattle.global_exec.specs.declared.policy.Always.{Always}
use Rattle.site_core.specs.Sessions.{mem_seen}
use Rattle.global_manager.specs.Stands.{IsDeclared, Stands, own_programs}
use Rattle.world_tests.proofs.CoordSessions.{coord_session_opens}
use Rattle.world_tests.proofs.coord_hosts.host_plays.Goals as goal

pub new-requires-clause-sites : goal.new-requires-clause-sites
new-requires-clause-sites g c =
    subst (λ (ps : List Participant). Each (λ (member : Participant). IsSite member.site) ps) (sym c.in_ok-sites.ensures)
    (record { least = omega arith; greatest = omega arith }, (record { least = omega arith; greatest = omega arith }, tt))

pub new-requires-clause-declared : goal.new-requires-clause-declared
new-requires-clause-declared g c = subst (λ (ps : List Participant). Each (IsDeclared ps) c.args.transactions.now) (sym c.in_ok-sites.ensures) c.requires.declared

pub new-host-requires-clause-opens : goal.new-host-requires-clause-opens
new-host-requires-clause-opens g c =
    let seen = mem_seen c.args.disk in
    let empty : IsEmptyDisk true seen = record { told = search rules; empty = c.requires.empty; bytes = refl; sound = c.args.disk.synced_within } in
    let programs = own_programs c.args.transactions.now in
    let stood = subst (λ (ps : List Participant). Stands (λ (p : Always). always) true c.in_ok-manager.manager seen (record { protocols = ps; policy = always }) programs []) c.in_ok-sites.ensures (c.in_ok-manager.ensures true seen empty) in
    coord_session_opens (λ (p : Always). always) c.in_ok-manager.manager seen c.args.transactions.now c.args.stops.items g.N.Plan.coordinator g.N.Wires.rings c.args.first c.args.second
    c.requires.plan c.requires.wires c.requires.first c.requires.second c.requires.stops stood c.in_ok-ports.ports.items _ _ c.in_ok-ports.ensures.items (search rules) (search rules)
