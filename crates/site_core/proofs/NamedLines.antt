-- The lines by which the past that a journal stands for names its attempts: what holds of each of both kinds holds of them all.
use Rattle.std.proofs.Common.{Option, Some, None, List, [], ◌∷◌, ◌++◌, map}
use Rattle.mdb_base.specs.declared.names.Tid.{Tid}
use Rattle.mdb_base.specs.Words.{Each}
use Rattle.mdb_base.proofs.ForCallers.{append_each}
use Rattle.fed_rules.specs.declared.records.SiteRecord.{SiteRecord}
use Rattle.fed_rules.specs.declared.records.SiteRecord.TheVariants as Rec
use Rattle.fed_rules.specs.Reopened.{all_named, owner_named, site_names, was_global, was_local}
use Rattle.fed_rules.specs.SitePast.{SiteHappening, SitePast}
use Rattle.fed_rules.specs.SiteRecords.{Held}

module _ (P : SiteHappening → Type 0) (global : (tid : Tid) → P (was_global tid)) (local : (tid : Tid) → P (was_local tid)) where
  each_held : (held : List Held) → Each P (map (λ (h : Held). was_global h.tid) held)
  each_held [] = tt
  each_held (h ∷ held) = (global h.tid, each_held held)

  each_local : (tids : List Tid) → Each P (map was_local tids)
  each_local [] = tt
  each_local (t ∷ tids) = (local t, each_local tids)

  each_owner : (o : Option Tid) → Each P (owner_named o)
  each_owner None = tt
  each_owner (Some t) = (global t, tt)

  each_of_record : (r : SiteRecord) → Each P (site_names r)
  each_of_record (Rec.Prepared t epoch n ticket writes) = (global t, tt)
  each_of_record (Rec.Ended t decision) = (global t, tt)
  each_of_record (Rec.Local t n writes) = (local t, tt)
  each_of_record (Rec.Setup site engine protocol items) = tt
  each_of_record (Rec.Start epoch) = tt
  each_of_record (Rec.Checkpoint sum) =
      let held : SitePast = map (λ (h : Held). was_global h.tid) sum.doubtful in
      let owner : SitePast = owner_named sum.owner in
      append_each P (held ++ owner) (map was_local sum.locals) (append_each P held owner (each_held sum.doubtful) (each_owner sum.owner)) (each_local sum.locals)

  pub each_named : (rs : List SiteRecord) → Each P (all_named rs)
  each_named [] = tt
  each_named (r ∷ rs) = append_each P (site_names r) (all_named rs) (each_of_record r) (each_named rs)
