use Rattle.actor_store.specs.Store.{stored}
use Rattle.std.proofs.Common.{[], ◌∷◌, length}
use Rattle.fed_rules.specs.Disk.{Append, Sync, after_calls}
use Rattle.fed_rules.specs.Happenings.{used}
use Rattle.actor_store.specs.Store.{KeepsBehind, cut_calls, uncounted}
use Rattle.actor_store.proofs.EndsLaws.{ends_more, ends_early}
use Rattle.actor_store.proofs.CalledLaws.{called_early, called_more}
use Rattle.actor_store.proofs.store.Store.start.Goals as goal

pub force-requires-clause-kept : goal.force-requires-clause-kept
force-requires-clause-kept g c =
    let (old, (rules, trip, k)) = c.requires.kept in
    let e = c.in-Ok.ensures.ends old rules trip k in
    (old, (after_calls g.F.Format.frame_bytes rules (cut_calls g.F.Format.frame_bytes rules), used (length (cut_calls g.F.Format.frame_bytes rules)) trip, e.1))

pub returns-in-Ok-clause-ends : goal.returns-in-Ok-clause-ends
returns-in-Ok-clause-ends g c = λ old rules trip k.
    let e = c.in-Ok.ensures.ends old rules trip k in
    ends_more g.F.Format.frame_bytes (KeepsBehind g.F.Format.spelling g.F.Format.is_record g.F.Format.frame_bytes g.D.Disk.tells (g.D.Disk.seen c.force.new.disk) (stored c.force.new.self) old) rules trip (cut_calls g.F.Format.frame_bytes rules) (Append c.args.entry ∷ Sync ∷ []) c.force.result e.0
    (c.force.ensures.ends old (after_calls g.F.Format.frame_bytes rules (cut_calls g.F.Format.frame_bytes rules)) (used (length (cut_calls g.F.Format.frame_bytes rules)) trip) e.1)

pub returns-in-Err-clause-ends : goal.returns-in-Err-clause-ends
returns-in-Err-clause-ends g c = λ old rules trip k.
    ends_early g.F.Format.frame_bytes (KeepsBehind g.F.Format.spelling g.F.Format.is_record g.F.Format.frame_bytes g.D.Disk.tells (g.D.Disk.seen c.open.new.disk) (stored c.open.new.self) old) rules trip (cut_calls g.F.Format.frame_bytes rules) (Append c.args.entry ∷ Sync ∷ []) c.in-Err.why (c.in-Err.ensures.ends old rules trip k)

pub returns-in-Ok-clause-called : goal.returns-in-Ok-clause-called
returns-in-Ok-clause-called g c = λ old rules trip k.
    let seen = g.D.Disk.seen in
    let e = c.in-Ok.ensures.ends old rules trip k in
    let cuts = cut_calls g.F.Format.frame_bytes rules in
    called_more (uncounted (stored c.args.self.now)) trip cuts (Append c.args.entry ∷ Sync ∷ []) (seen c.args.disk.now) (seen c.open.new.disk) (seen c.force.new.disk) c.force.result e.0
    (c.in-Ok.ensures.called old rules trip k) (c.force.ensures.called old (after_calls g.F.Format.frame_bytes rules cuts) (used (length cuts) trip) e.1)

pub returns-in-Err-clause-called : goal.returns-in-Err-clause-called
returns-in-Err-clause-called g c = λ old rules trip k.
    called_early (uncounted (stored c.args.self.now)) trip (cut_calls g.F.Format.frame_bytes rules) (Append c.args.entry ∷ Sync ∷ []) (g.D.Disk.seen c.args.disk.now) (g.D.Disk.seen c.open.new.disk) c.in-Err.why (c.in-Err.ensures.called old rules trip k)
