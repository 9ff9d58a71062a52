use Rattle.std.proofs.Common.{Bool, cond, [], ◌∷◌, sym, ◌∙◌, subst}
use Rattle.fed_rules.specs.Disk.{Append, Sync}
use Rattle.fed_rules.specs.SiteRecords.{site_frame}
use Rattle.actor_store.specs.Store.{Called}
use Rattle.actor_store.proofs.ForCallers.{armed_in_force, called_one}
use Rattle.site_core.specs.Store.{Ends, KeepsBehind}
use Rattle.site_core.proofs.site.SiteCore.write.Goals as goal

pub returns-then-forces-clause-ends : goal.returns-then-forces-clause-ends
returns-then-forces-clause-ends g c = λ old rules trip k.
    let P : Bool → Type 0 = λ b. Ends (KeepsBehind g.D.Disk.tells (g.D.Disk.seen c.force.new.disk) c.force.new.self old) rules trip (Append c.args.entry ∷ cond b (Sync ∷ []) []) c.force.result in
    subst P (sym (sym c.forces.ensures ∙ c.if-forces.true)) (c.force.ensures.ends old rules trip k)

pub returns-else-forces-clause-ends : goal.returns-else-forces-clause-ends
returns-else-forces-clause-ends g c = λ old rules trip k.
    let P : Bool → Type 0 = λ b. Ends (KeepsBehind g.D.Disk.tells (g.D.Disk.seen c.append.new.disk) c.append.new.self old) rules trip (Append c.args.entry ∷ cond b (Sync ∷ []) []) c.append.result in
    subst P (sym (sym c.forces.ensures ∙ c.if-forces.false)) (c.append.ensures.ends old rules trip k)

pub returns-then-forces-clause-called : goal.returns-then-forces-clause-called
returns-then-forces-clause-called g c = λ old rules trip k.
    let P : Bool → Type 0 = λ b. Called 0 trip (Append c.args.entry ∷ cond b (Sync ∷ []) []) (g.D.Disk.seen c.args.disk.now) (g.D.Disk.seen c.force.new.disk) c.force.result in
    subst P (sym (sym c.forces.ensures ∙ c.if-forces.true)) (c.force.ensures.called old rules trip k)

pub returns-else-forces-clause-called : goal.returns-else-forces-clause-called
returns-else-forces-clause-called g c = λ old rules trip k.
    let P : Bool → Type 0 = λ b. Called 0 trip (Append c.args.entry ∷ cond b (Sync ∷ []) []) (g.D.Disk.seen c.args.disk.now) (g.D.Disk.seen c.append.new.disk) c.append.result in
    let K = KeepsBehind g.D.Disk.tells (g.D.Disk.seen c.append.new.disk) c.append.new.self old in
    subst P (sym (sym c.forces.ensures ∙ c.if-forces.false))
    (called_one site_frame K rules trip (armed_in_force c.args.self.now.store.trip trip k.trip k.armed) (g.D.Disk.seen c.args.disk.now) (g.D.Disk.seen c.append.new.disk) (Append c.args.entry) c.append.result
    (c.append.ensures.ends old rules trip k) c.append.ensures.called)
