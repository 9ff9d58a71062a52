use Rattle.std.proofs.Common.{ℕ, None, Err, [], ◌∷◌, arith}
use Rattle.fed_rules.specs.Disk.{Append, Sync, after_call, empty_disk}
use Rattle.fed_rules.specs.SiteRecords.{site_frame}
use Rattle.journal_disk.proofs.ForCallers.{at_most, at_most_add, calls_add}
use Rattle.actor_store.specs.declared.store.Break.TheVariants.{Failed}
use Rattle.site_core.specs.Store.{KeepsBehind}
use Rattle.actor_store.proofs.ForCallers.{ends_early, ends_more, from_failed, from_kept}
use Rattle.site_core.proofs.NewStore.{broken_holds, never_trips}
use Rattle.site_core.proofs.store.begin_journal.Goals as goal

pub force-requires-clause-kept : goal.force-requires-clause-kept
force-requires-clause-kept g c =
    let k = c.requires.kept in
    (k.old, (after_call site_frame empty_disk (Append c.args.setup), None, (c.in-Ok.ensures.ends _ _ _ k.behind).1))

pub unreachable-requires : goal.unreachable-requires
unreachable-requires g c =
    let k = c.requires.kept in
    let ends = rw c.in-Err-Stopped-force.field-0-is at (c.in-Err-Stopped-force.ensures.ends _ _ _ (c.in-Ok.ensures.ends _ _ _ k.behind).1) in
    never_trips (KeepsBehind g.D.Disk.tells (g.D.Disk.seen c.force.new.disk) c.force.new.self k.old) (after_call site_frame empty_disk (Append c.args.setup)) (Append c.args.start ∷ Sync ∷ []) c.in-Err-Stopped-force.field-0-0 ends

pub unreachable-requires-in-Err-Stopped : goal.unreachable-requires-in-Err-Stopped
unreachable-requires-in-Err-Stopped g c =
    let k = c.requires.kept in
    let ends = rw c.in-Err-Stopped.field-0-is at (c.in-Err-Stopped.ensures.ends _ _ _ k.behind) in
    never_trips (KeepsBehind g.D.Disk.tells (g.D.Disk.seen c.append.new.disk) c.append.new.self k.old) empty_disk (Append c.args.setup ∷ []) c.in-Err-Stopped.field-0-0 ends

pub returns-in-Ok-force-clause-keeps : goal.returns-in-Ok-force-clause-keeps
returns-in-Ok-force-clause-keeps g c = let k = c.requires.kept in from_kept k (c.in-Ok-force.ensures.ends _ _ _ (c.in-Ok.ensures.ends _ _ _ k.behind).1).1

pub returns-in-Err-Failed-force-clause-broken : goal.returns-in-Err-Failed-force-clause-broken
returns-in-Err-Failed-force-clause-broken g c = λ e.
    let k = c.requires.kept in
    let appended = c.in-Ok.ensures.ends _ _ _ k.behind in
    let ended = rw c.in-Err-Failed-force.field-0-is at (c.in-Err-Failed-force.ensures.ends _ _ _ appended.1) in
    let all = ends_more site_frame {A = ℕ} (KeepsBehind g.D.Disk.tells (g.D.Disk.seen c.force.new.disk) c.force.new.self k.old) empty_disk None (Append c.args.setup ∷ []) (Append c.args.start ∷ Sync ∷ []) (Err Failed) appended.0 ended in
    broken_holds g.D.Disk.tells (g.D.Disk.seen c.force.new.disk) c.force.new.self empty_disk (Append c.args.setup ∷ Append c.args.start ∷ Sync ∷ []) (from_failed k all)

pub returns-in-Err-Failed-clause-broken : goal.returns-in-Err-Failed-clause-broken
returns-in-Err-Failed-clause-broken g c = λ e.
    let k = c.requires.kept in
    let ended = rw c.in-Err-Failed.field-0-is at (c.in-Err-Failed.ensures.ends _ _ _ k.behind) in
    let all = ends_early site_frame (KeepsBehind g.D.Disk.tells (g.D.Disk.seen c.append.new.disk) c.append.new.self k.old) empty_disk None (Append c.args.setup ∷ []) (Append c.args.start ∷ Sync ∷ []) Failed ended in
    broken_holds g.D.Disk.tells (g.D.Disk.seen c.append.new.disk) c.append.new.self empty_disk (Append c.args.setup ∷ Append c.args.start ∷ Sync ∷ []) (from_failed k all)

pub returns-in-Ok-force-clause-called : goal.returns-in-Ok-force-clause-called
returns-in-Ok-force-clause-called g c =
    let k = c.requires.kept in
    let seen = g.D.Disk.seen in
    record {
      done = calls_add 1 2 (seen c.args.disk.now) (seen c.append.new.disk) (seen c.force.new.disk) c.append.ensures.called (c.in-Ok-force.ensures.called _ _ _ (c.in-Ok.ensures.ends _ _ _ k.behind).1);
      failed = tt;
    }

pub returns-in-Err-Failed-force-clause-called : goal.returns-in-Err-Failed-force-clause-called
returns-in-Err-Failed-force-clause-called g c =
    let k = c.requires.kept in
    let seen = g.D.Disk.seen in
    let failed = rw c.in-Err-Failed-force.field-0-is at (c.in-Err-Failed-force.ensures.called _ _ _ (c.in-Ok.ensures.ends _ _ _ k.behind).1) in
    record { done = tt; failed = at_most_add 1 2 (seen c.args.disk.now) (seen c.append.new.disk) (seen c.force.new.disk) c.append.ensures.called failed }

pub returns-in-Err-Failed-clause-called : goal.returns-in-Err-Failed-clause-called
returns-in-Err-Failed-clause-called g c =
    let seen = g.D.Disk.seen in
    record { done = tt; failed = at_most 1 3 (seen c.args.disk.now) (seen c.append.new.disk) (omega arith) c.append.ensures.called }
