use Rattle.actor_store.specs.Store.{stored}
use Rattle.std.proofs.Common.{Err, [], ◌∷◌}
use Rattle.fed_rules.specs.Disk.{Append, Sync, after_call}
use Rattle.fed_rules.specs.Happenings.{used}
use Rattle.actor_store.specs.Store.{KeepsBehind}
use Rattle.actor_store.proofs.EndsLaws.{ends_more, ends_early}
use Rattle.actor_store.proofs.CalledLaws.{armed_in_force, called_early, called_more, called_one}
use Rattle.actor_store.proofs.store.Store.force.Goals as goal

pub sync-requires-clause-kept : goal.sync-requires-clause-kept
sync-requires-clause-kept g c =
    let (old, (rules, trip, k)) = c.requires.kept in
    let e = c.in-Ok.ensures.ends old rules trip k in
    (old, (after_call g.F.Format.frame_bytes rules (Append c.args.entry), used 1 trip, e.1))

pub returns-in-Ok-clause-ends : goal.returns-in-Ok-clause-ends
returns-in-Ok-clause-ends g c = λ old rules trip k.
    let e = c.in-Ok.ensures.ends old rules trip k in
    ends_more g.F.Format.frame_bytes (KeepsBehind g.F.Format.spelling g.F.Format.is_record g.F.Format.frame_bytes g.D.Disk.tells (g.D.Disk.seen c.sync.new.disk) (stored c.sync.new.self) old) rules trip (Append c.args.entry ∷ []) (Sync ∷ []) c.sync.result e.0
    (c.sync.ensures.ends old (after_call g.F.Format.frame_bytes rules (Append c.args.entry)) (used 1 trip) e.1)

pub returns-in-Err-clause-ends : goal.returns-in-Err-clause-ends
returns-in-Err-clause-ends g c = λ old rules trip k.
    ends_early g.F.Format.frame_bytes (KeepsBehind g.F.Format.spelling g.F.Format.is_record g.F.Format.frame_bytes g.D.Disk.tells (g.D.Disk.seen c.append.new.disk) (stored c.append.new.self) old) rules trip (Append c.args.entry ∷ []) (Sync ∷ []) c.in-Err.why (c.in-Err.ensures.ends old rules trip k)

pub returns-in-Ok-clause-called : goal.returns-in-Ok-clause-called
returns-in-Ok-clause-called g c = λ old rules trip k.
    let seen = g.D.Disk.seen in
    let e = c.in-Ok.ensures.ends old rules trip k in
    let appended = after_call g.F.Format.frame_bytes rules (Append c.args.entry) in
    let K = (KeepsBehind g.F.Format.spelling g.F.Format.is_record g.F.Format.frame_bytes g.D.Disk.tells (g.D.Disk.seen c.sync.new.disk) (stored c.sync.new.self) old) in
    called_more 0 trip (Append c.args.entry ∷ []) (Sync ∷ []) (seen c.args.disk.now) (seen c.append.new.disk) (seen c.sync.new.disk) c.sync.result e.0 c.append.ensures.called
    (called_one g.F.Format.frame_bytes K appended (used 1 trip) (armed_in_force c.append.new.self.trip (used 1 trip) e.1.trip e.1.armed) (seen c.append.new.disk) (seen c.sync.new.disk) Sync c.sync.result (c.sync.ensures.ends old appended (used 1 trip) e.1) c.sync.ensures.called)

pub returns-in-Err-clause-called : goal.returns-in-Err-clause-called
returns-in-Err-clause-called g c = λ old rules trip k.
    let seen = g.D.Disk.seen in
    let K = (KeepsBehind g.F.Format.spelling g.F.Format.is_record g.F.Format.frame_bytes g.D.Disk.tells (g.D.Disk.seen c.append.new.disk) (stored c.append.new.self) old) in
    called_early 0 trip (Append c.args.entry ∷ []) (Sync ∷ []) (seen c.args.disk.now) (seen c.append.new.disk) c.in-Err.why
    (called_one g.F.Format.frame_bytes K rules trip (armed_in_force c.args.self.now.trip trip k.trip k.armed) (seen c.args.disk.now) (seen c.append.new.disk) {A = Unit {0}} (Append c.args.entry) (Err c.in-Err.why) (c.in-Err.ensures.ends old rules trip k) c.append.ensures.called)
