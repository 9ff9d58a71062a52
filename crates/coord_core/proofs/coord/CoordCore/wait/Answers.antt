use Rattle.std.proofs.Common.{◌+◌, refl, subst, sym}
use Rattle.mdb_base.proofs.ForCallers.{map_err, map_ok}
use Rattle.fed_rules.specs.declared.events.CoordEvent.{CoordEvent}
use Rattle.coord_core.specs.Stands.{Fails, Steps, beside_rules, calls_for}
use Rattle.coord_tables.specs.Terms.{line_of}
use Rattle.coord_core.proofs.Events.{down_steps}
use Rattle.coord_core.proofs.Made.{made_cause, made_err, made_ok}
use Rattle.coord_core.proofs.coord.CoordCore.wait.Goals.{in-Trip, in-Back, in_default}
use Rattle.coord_core.proofs.coord.CoordCore.wait.Goals as goal

pub returns-clause-answered : goal.returns-clause-answered
returns-clause-answered g c = elim c.match-event.branch [
  | in-Trip w ↦ rw (w.result-is, w.self-is, w.disk-is) (made_ok _ _ w.set_trip.result w.set_trip.ensures.answered (λ step each terms past k can.
      let F : CoordEvent → Type 0 = λ e. Steps g.P.TakePolicy.policy g.D.Disk.tells (beside_rules e c.args.self.now (g.D.Disk.seen c.args.disk.now)) (g.D.Disk.seen c.args.disk.now) step w.set_trip.new.self (g.D.Disk.seen c.args.disk.now) terms past (line_of terms past e) in
      subst F (sym w.in-Trip.is) (each g.D.Disk.tells (g.D.Disk.seen c.args.disk.now) terms past k tt)))
  | in-Back w ↦ rw (w.result-is, w.self-is, w.disk-is) (map_ok _ _ w.back.result w.back.ensures.answered (λ step each terms past k can.
      let F : CoordEvent → Type 0 = λ e. Steps g.P.TakePolicy.policy g.D.Disk.tells (beside_rules e c.args.self.now (g.D.Disk.seen c.args.disk.now)) (g.D.Disk.seen c.args.disk.now) step w.back.new.self (g.D.Disk.seen w.back.new.disk) terms past (line_of terms past e) in
      subst F (sym w.in-Back.is) (each terms past k tt)))
  | in_default w ↦ rw (w.result-is, w.self-is, w.disk-is) (made_ok _ _ w.says.result w.says.ensures (λ step said terms past k can.
      down_steps g.P.TakePolicy.policy g.D.Disk.tells step c.args.self.now c.args.self.now (g.D.Disk.seen c.args.disk.now) terms past c.args.event w.in_default.not-Trip w.in_default.not-Back k can c.requires.down
      said.0 said.1 refl))
]

pub returns-clause-failed : goal.returns-clause-failed
returns-clause-failed g c = elim c.match-event.branch [
  | in-Trip w ↦ rw (w.result-is, w.self-is, w.disk-is) (made_err _ _ w.set_trip.result w.set_trip.ensures.answered)
  | in-Back w ↦ rw (w.result-is, w.self-is, w.disk-is) (map_err _ _ w.back.result w.back.ensures.failed (λ why each terms past k can.
      let before = g.D.Disk.seen c.args.disk.now in
      let F : CoordEvent → Type 0 = λ e. Fails g.P.TakePolicy.policy g.D.Disk.tells (beside_rules e c.args.self.now before + calls_for terms past e) before why w.back.new.self (g.D.Disk.seen w.back.new.disk) terms past e in
      subst F (sym w.in-Back.is) (each terms past k tt)))
  | in_default w ↦ rw (w.result-is, w.self-is, w.disk-is) (made_err _ _ w.says.result w.says.ensures)
]

pub returns-clause-cause : goal.returns-clause-cause
returns-clause-cause g c = elim c.match-event.branch [
  | in-Trip w ↦ rw (w.result-is, w.disk-is) (made_cause _ _ _ w.set_trip.result refl w.set_trip.ensures.answered)
  | in-Back w ↦ rw (w.result-is, w.disk-is) w.back.ensures.cause
  | in_default w ↦ rw (w.result-is, w.disk-is) (made_cause _ _ _ w.says.result refl w.says.ensures)
]
