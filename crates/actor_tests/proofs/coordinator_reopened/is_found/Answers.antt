use Rattle.std.proofs.Common.{◌≡◌, true, List, reverse, refl, subst}
use Rattle.fed_rules.specs.declared.records.CoordRecord.{CoordRecord}
use Rattle.fed_rules.specs.Usable.{IsUsableCoordinator}
use Rattle.actor_tests.proofs.Reopened.{coordinator_found, is_synced, read_from}
use Rattle.actor_tests.proofs.coordinator_reopened.is_found.Goals as goal

pub returns : goal.returns
returns c =
    let kept = c.in_ok-journal.journal in
    let synced = is_synced _ c.sync.new.self c.load.new.disk c.in_ok-sync.ensures.ok (c.load.ensures.image refl) in
    let tested = c.if-not-usable.false in
    let yes : c.in_ok-usable.usable ≡ true = cc in
    let usable = subst (λ (rs : List CoordRecord). IsUsableCoordinator c.args.sites.now (reverse rs)) c.records.ensures.records (c.in_ok-usable.ensures.0 yes) in (
      read_from c.load.new.disk kept,
      coordinator_found c.load.new.disk kept c.args.sites.now c.in_ok-journal.ensures.kept_on synced c.in_ok-journal.ensures.are_records usable,
    )
