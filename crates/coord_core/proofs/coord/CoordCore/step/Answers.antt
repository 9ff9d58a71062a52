use Rattle.std.proofs.Common.{◌+◌, refl, subst, sym}
use Rattle.mdb_base.proofs.ForCallers.{map_ok}
use Rattle.fed_rules.specs.declared.events.CoordEvent.{CoordEvent}
use Rattle.actor_store.specs.declared.errors.StepErr.TheVariants as Err_is
use Rattle.coord_core.specs.Stands.{Fails, Steps, beside_rules, calls_for}
use Rattle.coord_core.specs.Steps.{CanStep}
use Rattle.coord_tables.specs.Terms.{line_of}
use Rattle.coord_core.proofs.Events.{awake_steps, fate_steps}
use Rattle.coord_core.proofs.Made.{made_cause, made_err, made_ok, want_cause, want_err}
use Rattle.coord_core.proofs.coord.CoordCore.step.Goals as goal

pub returns-in-Fate-clause-answered : goal.returns-in-Fate-clause-answered
returns-in-Fate-clause-answered g c = made_ok _ _ c.fate.result c.fate.ensures (λ step says terms past k can.
    fate_steps g.P.TakePolicy.policy g.D.Disk.tells step c.args.self.now c.args.self.now (g.D.Disk.seen c.args.disk.now) terms past c.args.event c.in-Fate.tx c.in-Fate.is k c.in-Up.is (says terms past k.holds) refl)

pub returns-in-Fate-clause-failed : goal.returns-in-Fate-clause-failed
returns-in-Fate-clause-failed g c = made_err _ _ c.fate.result c.fate.ensures

pub returns-in-Fate-clause-cause : goal.returns-in-Fate-clause-cause
returns-in-Fate-clause-cause g c = made_cause _ _ _ c.fate.result refl c.fate.ensures

pub returns-in-Halt-clause-answered : goal.returns-in-Halt-clause-answered
returns-in-Halt-clause-answered g c = made_ok _ _ c.halt.result c.halt.ensures.answered (λ step each terms past k can.
    let F : CoordEvent → Type 0 = λ e. Steps g.P.TakePolicy.policy g.D.Disk.tells (beside_rules e c.args.self.now (g.D.Disk.seen c.args.disk.now)) (g.D.Disk.seen c.args.disk.now) step c.halt.new.self (g.D.Disk.seen c.halt.new.disk) terms past (line_of terms past e) in
    subst F (sym c.in-Halt.is) (each terms past k tt))

pub returns-in-Halt-clause-failed : goal.returns-in-Halt-clause-failed
returns-in-Halt-clause-failed g c = made_err _ _ c.halt.result c.halt.ensures.answered

pub returns-in-Halt-clause-cause : goal.returns-in-Halt-clause-cause
returns-in-Halt-clause-cause g c = made_cause _ _ _ c.halt.result c.halt.ensures.faults c.halt.ensures.answered

pub returns-in-Trip-clause-answered : goal.returns-in-Trip-clause-answered
returns-in-Trip-clause-answered g c = made_ok _ _ c.set_trip.result c.set_trip.ensures.answered (λ step each terms past k can.
    let F : CoordEvent → Type 0 = λ e. Steps g.P.TakePolicy.policy g.D.Disk.tells (beside_rules e c.args.self.now (g.D.Disk.seen c.args.disk.now)) (g.D.Disk.seen c.args.disk.now) step c.set_trip.new.self (g.D.Disk.seen c.args.disk.now) terms past (line_of terms past e) in
    subst F (sym c.in-Trip.is) (each g.D.Disk.tells (g.D.Disk.seen c.args.disk.now) terms past k tt))

pub returns-in-Trip-clause-failed : goal.returns-in-Trip-clause-failed
returns-in-Trip-clause-failed g c = made_err _ _ c.set_trip.result c.set_trip.ensures.answered

pub returns-in-Trip-clause-cause : goal.returns-in-Trip-clause-cause
returns-in-Trip-clause-cause g c = made_cause _ _ _ c.set_trip.result refl c.set_trip.ensures.answered

pub returns-in-Back-clause-answered : goal.returns-in-Back-clause-answered
returns-in-Back-clause-answered g c = made_ok _ _ c.awake.result c.awake.ensures (λ step said terms past k can.
    awake_steps g.P.TakePolicy.policy g.D.Disk.tells step c.args.self.now c.args.self.now (g.D.Disk.seen c.args.disk.now) terms past c.args.event c.in-Back.is k c.in-Up.is said.0 said.1 refl)

pub returns-in-Back-clause-failed : goal.returns-in-Back-clause-failed
returns-in-Back-clause-failed g c = made_err _ _ c.awake.result c.awake.ensures

pub returns-in-Back-clause-cause : goal.returns-in-Back-clause-cause
returns-in-Back-clause-cause g c = made_cause _ _ _ c.awake.result refl c.awake.ensures

pub returns-in-Go-clause-answered : goal.returns-in-Go-clause-answered
returns-in-Go-clause-answered g c = map_ok _ _ c.go.result c.go.ensures.answered (λ step each terms past k can.
    let F : CoordEvent → Type 0 = λ e. Steps g.P.TakePolicy.policy g.D.Disk.tells (beside_rules e c.args.self.now (g.D.Disk.seen c.args.disk.now)) (g.D.Disk.seen c.args.disk.now) step c.go.new.self (g.D.Disk.seen c.args.disk.now) terms past (line_of terms past e) in
    subst F (sym c.in-Go.is) (each g.D.Disk.tells (g.D.Disk.seen c.args.disk.now) terms past k (subst (λ (e : CoordEvent). CanStep e terms past) c.in-Go.is can)))

pub returns-in-Go-clause-failed : goal.returns-in-Go-clause-failed
returns-in-Go-clause-failed g c = want_err _ _ c.go.result c.go.ensures.why c.go.ensures.memory (λ each terms past k can.
    let seen = g.D.Disk.seen c.args.disk.now in
    let F : CoordEvent → Type 0 = λ e. Fails g.P.TakePolicy.policy g.D.Disk.tells (beside_rules e c.args.self.now seen + calls_for terms past e) seen Err_is.Memory c.go.new.self seen terms past e in
    subst F (sym c.in-Go.is) (each g.D.Disk.tells seen terms past k (subst (λ (e : CoordEvent). CanStep e terms past) c.in-Go.is can)))

pub returns-in-Go-clause-cause : goal.returns-in-Go-clause-cause
returns-in-Go-clause-cause g c = want_cause _ c.go.result c.go.ensures.why
