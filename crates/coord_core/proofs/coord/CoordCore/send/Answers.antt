use Rattle.std.proofs.Common.{◌+◌, refl, sym, subst, ◌∙◌}
use Rattle.mdb_base.proofs.ForCallers.{map_ok, nothing_is}
use Rattle.journal_disk.proofs.ForCallers.{none_at_most}
use Rattle.coord_core.specs.declared.coord.CoordCore.{CoordCore}
use Rattle.coord_core.specs.Stands.{Stands, calls_for}
use Rattle.coord_core.proofs.Made.{want_cause, want_err}
use Rattle.coord_core.proofs.Still.{serves}
use Rattle.coord_core.proofs.coord.CoordCore.send.Goals as goal

pub initiate-requires-clause-some : goal.initiate-requires-clause-some
initiate-requires-clause-some g c = sym c.is_some.ensures ∙ c.if-is_some.true

pub initiate-requires-clause-entry : goal.initiate-requires-clause-entry
initiate-requires-clause-entry g c = λ terms past k undecided.
    c.in-Ok.ensures terms past k.holds.sound (serves g.P.TakePolicy.policy g.D.Disk.tells c.args.self.now terms past k.holds c.requires.up) undecided

pub returns-else-is_some-clause-answered : goal.returns-else-is_some-clause-answered
returns-else-is_some-clause-answered g c = map_ok _ _ c.send_at_once.result c.send_at_once.ensures.answered (λ step each terms past event k i.
    let s = serves g.P.TakePolicy.policy g.D.Disk.tells c.args.self.now terms past k.holds c.requires.up in
    let none = nothing_is c.in-Ok.entry (sym c.is_some.ensures ∙ c.if-is_some.false) in
    each g.D.Disk.tells (g.D.Disk.seen c.args.disk.now) terms past event k i (sym (c.in-Ok.ensures terms past k.holds.sound s i.undecided) ∙ none))

pub returns-else-is_some-clause-failed : goal.returns-else-is_some-clause-failed
returns-else-is_some-clause-failed g c = want_err _ _ c.send_at_once.result c.send_at_once.ensures.why c.send_at_once.ensures.kept (λ same terms past event k i.
    let seen = g.D.Disk.seen c.args.disk.now in (
      subst (λ (core : CoordCore g.row.P.Denot). Stands g.P.TakePolicy.policy g.D.Disk.tells core seen terms past) (sym same) k,
      none_at_most (0 + calls_for terms past event) seen seen refl,
    ))

pub returns-else-is_some-clause-cause : goal.returns-else-is_some-clause-cause
returns-else-is_some-clause-cause g c = want_cause _ c.send_at_once.result c.send_at_once.ensures.why
