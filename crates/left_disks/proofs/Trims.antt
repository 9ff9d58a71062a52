-- What was trimmed of an actor's disk ends where a frame ends, behind any events.
use Rattle.std.proofs.Common.{◌≡◌, ◌⊎◌, ℕ, List, [], ◌∷◌, ◌++◌, inl, inr, sym, ◌∙◌, ap, subst, arith}
use Rattle.presumptions.specs.declared.Participant.{Participant}
use Rattle.fed_rules.specs.declared.records.CoordRecord.{CoordRecord}
use Rattle.fed_rules.specs.declared.records.CoordRecord.TheVariants.{Checkpoint}
use Rattle.fed_rules.specs.declared.records.SiteRecord.{SiteRecord}
use Rattle.fed_rules.specs.CoordPast as Coordinator
use Rattle.fed_rules.specs.CoordPast.{CoordPast}
use Rattle.fed_rules.specs.CoordRecords.{coord_frame}
use Rattle.fed_rules.specs.Disk.{Disk, bytes_of, journal, standing}
use Rattle.fed_rules.specs.Policies.{Policy}
use Rattle.fed_rules.specs.Site.{site_past}
use Rattle.fed_rules.specs.SitePast as Site
use Rattle.fed_rules.specs.SiteRecords.{site_frame}
use Rattle.fed_rules.proofs.ForCallers as sites
use Rattle.coord_laws.specs.Pasts.{IsMadeByEvents}
use Rattle.coord_laws.proofs.ForCallers as coordinators
use Rattle.site_history.specs.SiteOrders.{OfSortedEvents}
use Rattle.site_history.proofs.ForCallers.{IsTrimmed, pasts_summed, standing_trimmed}
use Rattle.journal_rules.proofs.ForCallers.{bytes_of_append}
use Rattle.left_disks.proofs.OneDisk.{IsTrimmedWell}

module _ {R : Type 0} (size : R → ℕ) (d : Disk R) where
  -- nothing was trimmed
  none_trimmed : d.trimmed ≡ 0 → standing size 0 d.records ≡ d.records → IsTrimmedWell size d
  none_trimmed e all =
      let same : bytes_of size (journal size d) ≡ bytes_of size d.records = ap (bytes_of size) (ap (λ n. standing size n d.records) e ∙ all) in
      omega (arith, e, same)

  -- all before this record was
  front_trimmed : (newer : List R) (first : R) (before : List R) → d.records ≡ newer ++ first ∷ before → d.trimmed ≡ bytes_of size before
      → standing size (bytes_of size before) (newer ++ first ∷ before) ≡ newer ++ first ∷ [] → IsTrimmedWell size d
  front_trimmed newer first before all at stand =
      let is : journal size d ≡ newer ++ first ∷ [] = ap (λ n. standing size n d.records) at ∙ ap (standing size (bytes_of size before)) all ∙ stand in
      let those : bytes_of size (journal size d) ≡ bytes_of size (newer ++ first ∷ []) = ap (bytes_of size) is in
      let whole : bytes_of size d.records ≡ bytes_of size (newer ++ first ∷ before) = ap (bytes_of size) all in
      let kept = bytes_of_append size newer (first ∷ []) in
      let parts = bytes_of_append size newer (first ∷ before) in
      omega (arith, at, those, whole, kept, parts)

-- ---- the coordinator's

pub fine_disk : (protocols : List Participant) (policy : Policy) (past : CoordPast) → IsMadeByEvents protocols policy past → coordinators.IsFine (Coordinator.disk past)
fine_disk protocols policy [] made = coordinators.past_fine protocols policy []
fine_disk protocols policy (x ∷ past) (event, is, numbered, made) =
    subst (λ y. coordinators.IsFine (Coordinator.disk (y ∷ past))) (sym is) ((coordinators.line_fine protocols policy past event).fine (fine_disk protocols policy past made))

pub coordinator_trims : (protocols : List Participant) (policy : Policy) (past : CoordPast) → IsMadeByEvents protocols policy past → IsTrimmedWell coord_frame (Coordinator.disk past)
coordinator_trims protocols policy past made = by_front (fine_disk protocols policy past made).front
  where
    d : Disk CoordRecord
    d = Coordinator.disk past

    by_front : (d.trimmed ≡ 0) ⊎ coordinators.IsTrimmed d.records d.synced d.trimmed → IsTrimmedWell coord_frame d
    by_front (inl e) = none_trimmed coord_frame d e (coordinators.standing_all d.records)
    by_front (inr t) = front_trimmed coord_frame d t.newer (Checkpoint t.sum) t.before t.all t.at (coordinators.standing_trimmed t.newer t.sum t.before)

-- ---- a site's

pub sites_trim : OfSortedEvents (λ home past. IsTrimmedWell site_frame (Site.disk home past))
sites_trim home local events sorted = by_front (pasts_summed home local events sorted).front
  where
    d : Disk SiteRecord
    d = Site.disk home (site_past home events)

    by_front : (d.trimmed ≡ 0) ⊎ IsTrimmed home d.records d.synced d.trimmed → IsTrimmedWell site_frame d
    by_front (inl e) = none_trimmed site_frame d e (sites.standing_all d.records)
    by_front (inr t) = front_trimmed site_frame d t.newer t.first t.before t.all t.at (standing_trimmed t.newer t.first t.before)
