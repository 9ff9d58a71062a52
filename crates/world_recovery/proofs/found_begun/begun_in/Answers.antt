use Rattle.std.proofs.Common.{◌++◌, List, ap, ap₂, ◌∙◌}
use Rattle.std.proofs.lemmas.List.Filters.{dedup_is}
use Rattle.mdb_base.specs.declared.names.Tid.{Tid}
use Rattle.fed_rules.specs.declared.records.CoordRecord.{CoordRecord}
use Rattle.world_recovery.specs.FoundBegun.{coordinator_tids, sites_tids}
use Rattle.world_recovery.proofs.FoundBegun.{begun_is}
use Rattle.world_recovery.proofs.found_begun.begun_in.Goals as goal

pub returns : goal.returns
returns c images =
    dedup_is _ _ _ c.dedup.ensures.filtered
    ∙ begun_is images c.args.journals.now _ _
    (c.in_ok-list_sites.ensures
    ∙ ap₂ (λ (us vs : List Tid). us ++ vs)
    (c.in_ok-list_coordinator.ensures ∙ ap₂ (λ (us : List Tid) (rs : List CoordRecord). us ++ coordinator_tids rs) c.new-tids.ensures.items c.records.ensures.records)
    (ap sites_tids c.as_slice.ensures.value))
    c.sort_unstable.ensures.permutation c.sort_unstable.ensures.sorted
