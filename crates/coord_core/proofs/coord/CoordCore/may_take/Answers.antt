use Rattle.std.proofs.Common.{List, map, sym, ap, ap₂, ◌∙◌}
use Rattle.mdb_base.specs.declared.names.SiteId.{SiteId}
use Rattle.fed_rules.specs.CoordPast.{others_in_phase, sites_of}
use Rattle.fed_rules.specs.Policies.{Policy}
use Rattle.global_exec.specs.declared.policy.SiteSet.{SiteSet}
use Rattle.global_exec.specs.Sets.{sites_in}
use Rattle.coord_tables.proofs.ForCallers.{others_are, sites_of_found, stage_there}
use Rattle.coord_core.proofs.Still.{serves}
use Rattle.coord_core.proofs.coord.CoordCore.may_take.Goals as goal

pub unreachable-requires : goal.unreachable-requires
unreachable-requires g c =
    let m = c.requires.may in
    let s = serves g.P.TakePolicy.policy g.D.Disk.tells c.args.self.now m.terms m.past m.stood.holds c.requires.up in
    stage_there m.terms m.past c.args.tid c.args.self.now.tables.stages.listed m.stood.holds.sound s.stages m.holds (sym c.stage_of.ensures ∙ c.in-None.is)

pub returns : goal.returns
returns g c = λ terms past k u.
    let core = c.args.self.now in
    let s = serves g.P.TakePolicy.policy g.D.Disk.tells core terms past k.holds c.requires.up in
    let listed = core.tables.stages.listed in
    let own = sites_of_found terms past c.args.tid listed c.in-Some.stage k.holds.sound s.stages (sym c.stage_of.ensures ∙ c.in-Some.is) in
    let others = ap (λ (ss : List SiteSet). map sites_in ss) (c.deref.ensures.value ∙ c.in_ok-others-in-Some.ensures) ∙ others_are terms past c.args.tid listed k.holds.sound s.stages in
    c.may_take.ensures
    ∙ ap₂ (λ (a : List SiteId) (b : List (List SiteId)). g.P.TakePolicy.policy core.policy a b) own others
    ∙ ap (λ (p : Policy). p (sites_of terms.protocols past c.args.tid) (others_in_phase terms.protocols past c.args.tid)) k.holds.policy
