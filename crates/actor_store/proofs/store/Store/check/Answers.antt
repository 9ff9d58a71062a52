use Rattle.std.proofs.Common.{[], ◌∷◌, reverse, refl, ap}
use Rattle.fed_rules.specs.Disk.{Append, Sync, TrimFront, after_calls, journal as journal_of}
use Rattle.fed_rules.specs.Happenings.{used}
use Rattle.frame_journal.proofs.ForCallers.{ends_with_last}
use Rattle.actor_store.specs.Store.{KeepsBehind, old_standing, stored}
use Rattle.actor_store.proofs.BehindLaws.{newer_entry}
use Rattle.actor_store.proofs.EndsLaws.{ends_more, ends_early}
use Rattle.actor_store.proofs.CalledLaws.{armed_in_force, called_early, called_more, called_one}
use Rattle.actor_store.proofs.store.Store.check.Goals as goal

pub trim-requires-clause-kept : goal.trim-requires-clause-kept
trim-requires-clause-kept g c =
    let (old, (rules, trip, k)) = c.requires.kept in
    let e = c.in-Ok.ensures.ends old rules trip k in
    (old, (after_calls g.F.Format.frame_bytes rules (Append c.args.entry ∷ Sync ∷ []), used 2 trip, (e.1, refl, newer_entry (old_standing old rules) (reverse (journal_of g.F.Format.frame_bytes rules)) c.args.self.now.journal.entries c.force.new.self.journal.entries c.args.entry k.records (ap (λ j. j.entries) c.in-Ok.ensures.journal))))

pub trim-requires-clause-checkpoint : goal.trim-requires-clause-checkpoint
trim-requires-clause-checkpoint g c = rw c.in-Ok.ensures.journal (ends_with_last g.F.Format.is_checkpoint c.args.self.now.journal.entries c.args.entry c.requires.checkpoint)

pub returns-in-Ok-clause-ends : goal.returns-in-Ok-clause-ends
returns-in-Ok-clause-ends g c = λ old rules trip k.
    let e = c.in-Ok.ensures.ends old rules trip k in
    ends_more g.F.Format.frame_bytes (KeepsBehind g.F.Format.spelling g.F.Format.is_record g.F.Format.frame_bytes g.D.Disk.tells (g.D.Disk.seen c.trim.new.disk) (stored c.trim.new.self) old) rules trip (Append c.args.entry ∷ Sync ∷ []) (TrimFront ∷ []) c.trim.result e.0
    (c.trim.ensures.ends old (after_calls g.F.Format.frame_bytes rules (Append c.args.entry ∷ Sync ∷ [])) (used 2 trip) e.1 refl (newer_entry (old_standing old rules) (reverse (journal_of g.F.Format.frame_bytes rules)) c.args.self.now.journal.entries c.force.new.self.journal.entries c.args.entry k.records (ap (λ j. j.entries) c.in-Ok.ensures.journal)))

pub returns-in-Err-clause-ends : goal.returns-in-Err-clause-ends
returns-in-Err-clause-ends g c = λ old rules trip k.
    ends_early g.F.Format.frame_bytes (KeepsBehind g.F.Format.spelling g.F.Format.is_record g.F.Format.frame_bytes g.D.Disk.tells (g.D.Disk.seen c.force.new.disk) (stored c.force.new.self) old) rules trip (Append c.args.entry ∷ Sync ∷ []) (TrimFront ∷ []) c.in-Err.why (c.in-Err.ensures.ends old rules trip k)

pub returns-in-Ok-clause-called : goal.returns-in-Ok-clause-called
returns-in-Ok-clause-called g c = λ old rules trip k.
    let seen = g.D.Disk.seen in
    let e = c.in-Ok.ensures.ends old rules trip k in
    let forced = after_calls g.F.Format.frame_bytes rules (Append c.args.entry ∷ Sync ∷ []) in
    let K = (KeepsBehind g.F.Format.spelling g.F.Format.is_record g.F.Format.frame_bytes g.D.Disk.tells (g.D.Disk.seen c.trim.new.disk) (stored c.trim.new.self) old) in
    let newer = newer_entry (old_standing old rules) (reverse (journal_of g.F.Format.frame_bytes rules)) c.args.self.now.journal.entries c.force.new.self.journal.entries c.args.entry k.records (ap (λ j. j.entries) c.in-Ok.ensures.journal) in
    called_more 0 trip (Append c.args.entry ∷ Sync ∷ []) (TrimFront ∷ []) (seen c.args.disk.now) (seen c.force.new.disk) (seen c.trim.new.disk) c.trim.result e.0 (c.in-Ok.ensures.called old rules trip k)
    (called_one g.F.Format.frame_bytes K forced (used 2 trip) (armed_in_force c.force.new.self.trip (used 2 trip) e.1.trip e.1.armed) (seen c.force.new.disk) (seen c.trim.new.disk) TrimFront c.trim.result (c.trim.ensures.ends old forced (used 2 trip) e.1 refl newer) c.trim.ensures.called)

pub returns-in-Err-clause-called : goal.returns-in-Err-clause-called
returns-in-Err-clause-called g c = λ old rules trip k.
    called_early 0 trip (Append c.args.entry ∷ Sync ∷ []) (TrimFront ∷ []) (g.D.Disk.seen c.args.disk.now) (g.D.Disk.seen c.force.new.disk) c.in-Err.why (c.in-Err.ensures.called old rules trip k)
