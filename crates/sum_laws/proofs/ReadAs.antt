-- A usable journal that is found is read as what it says.
use Rattle.std.proofs.Common.{◌≡◌, ℕ, ◌+◌, ◌<◌, true, cond, Option, Some, None, List, [], ◌∷◌, ◌++◌, map, refl, sym, ap, ap₂, ◌∙◌, subst, inl, arith}
use Rattle.mdb_base.specs.declared.names.Tid.{Tid}
use Rattle.mdb_base.specs.declared.names.Tx.{Tx}
use Rattle.mdb_base.specs.Words.{Each}
use Rattle.order_laws.specs.Chains.{In}
use Rattle.order_laws.proofs.ForCallers.{in_each}
use Rattle.fed_rules.specs.declared.records.CoordRecord.{CoordRecord}
use Rattle.fed_rules.specs.declared.records.SiteRecord.{SiteRecord}
use Rattle.fed_rules.specs.declared.records.SiteRecord.TheVariants.{Setup, Start, Prepared, Ended, Local, Checkpoint}
use Rattle.fed_rules.specs.declared.sums.SiteSum.{SiteSum}
use Rattle.fed_rules.specs.CoordPast as Coordinator
use Rattle.fed_rules.specs.CoordRecords.{coord_frame, recorded}
use Rattle.fed_rules.specs.CoordSums.{coord_journal_sum}
use Rattle.fed_rules.specs.Disk.{Disk, after_calls, bytes_of, empty_disk, held_bytes, standing}
use Rattle.fed_rules.specs.Disk as Disks
use Rattle.fed_rules.specs.Found.{Journal}
use Rattle.fed_rules.specs.Policies.{policy_of}
use Rattle.fed_rules.specs.Reopened.{all_named, coord_opening, home_by, owner_named, was_global, was_local, coord_reads_as, long_coord, long_site, oldest, opened_coordinator, opened_site, site_reads_as}
use Rattle.fed_rules.specs.SitePast as Site
use Rattle.fed_rules.specs.SitePast.{SiteHappening}
use Rattle.fed_rules.specs.SiteRecords.{Held, Home, epoch_of, site_frame}
use Rattle.fed_rules.specs.SiteSums.{epoch_with, journal_sum, site_sum, start_from}
use Rattle.fed_rules.specs.Usable as Usable
use Rattle.fed_rules.proofs.ForCallers.{expanded, opened_journal, opened_length, opened_trimmed}
use Rattle.coord_laws.proofs.ForCallers.{going_tells, is_silent, names_declared, nothing_read, opened_attempts, opened_begun, opened_disk, read_is, recorded_begun, usable_go_on}
use Rattle.coord_laws.specs.CoordRestarts.{TellsRecords}
use Rattle.site_history.specs.FoundSites.{IsFoundSite}
use Rattle.sum_laws.specs.ReadAs.{AreRead, CoordinatorsAreReadAs, SiteIsReadAs, SitesAreReadAs}
use Rattle.coord_laws.proofs.ForCallers as Coordinators
use Rattle.site_history.proofs.ForCallers.{all_read, disk_is, found_says_all, foundation, read_more}
use Rattle.site_history.proofs.ForCallers as Sites

-- ---- a site

pub some_site_frame : (r : SiteRecord) → 0 < site_frame r
some_site_frame r = omega arith

expanded_bytes : (newest : SiteRecord) (older below : List SiteRecord)
    → bytes_of site_frame (expanded site_reads_as newest older ++ below) ≡ bytes_of site_frame (newest ∷ older) + bytes_of site_frame (site_reads_as (oldest newest older) ++ below)
expanded_bytes first [] below = omega arith
expanded_bytes newest (next ∷ older) below = let h = expanded_bytes next older below in omega (arith, h)

epoch_same : (rs : List SiteRecord) → epoch_of rs ≡ epoch_with 0 rs
epoch_same [] = refl
epoch_same (Start n ∷ rs) = refl
epoch_same (Setup site engine protocol items ∷ rs) = epoch_same rs
epoch_same (Prepared t e n ticket writes ∷ rs) = epoch_same rs
epoch_same (Ended t d ∷ rs) = epoch_same rs
epoch_same (Local t n writes ∷ rs) = epoch_same rs
epoch_same (Checkpoint sum ∷ rs) = epoch_same rs

-- the lines below the opening begin and send nothing
none_named : (rs : List SiteRecord) (tx : Tx) → Site.attempts_of (all_named rs) tx ≡ 0
none_named [] tx = refl
none_named (Setup site engine protocol items ∷ rs) tx = none_named rs tx
none_named (Start n ∷ rs) tx = none_named rs tx
none_named (Prepared t e n ticket writes ∷ rs) tx = none_named rs tx
none_named (Ended t d ∷ rs) tx = none_named rs tx
none_named (Local t n writes ∷ rs) tx = none_named rs tx
none_named (Checkpoint sum ∷ rs) tx = over sum.doubtful sum.owner sum.locals (none_named rs tx)
  where
    by_locals : (ts : List Tid) → Site.attempts_of (all_named rs) tx ≡ 0 → Site.attempts_of (map was_local ts ++ all_named rs) tx ≡ 0
    by_locals [] k = k
    by_locals (t ∷ ts) k = by_locals ts k

    by_owner : (o : Option Tid) (ts : List Tid) → Site.attempts_of (all_named rs) tx ≡ 0 → Site.attempts_of ((owner_named o ++ map was_local ts) ++ all_named rs) tx ≡ 0
    by_owner None ts k = by_locals ts k
    by_owner (Some owner) ts k = by_locals ts k

    over : (hs : List Held) (o : Option Tid) (ts : List Tid) → Site.attempts_of (all_named rs) tx ≡ 0
        → Site.attempts_of (((map (λ (held : Held). was_global held.tid) hs ++ owner_named o) ++ map was_local ts) ++ all_named rs) tx ≡ 0
    over [] None ts k = by_locals ts k
    over [] (Some owner) ts k = by_locals ts k
    over (h ∷ hs) o ts k = over hs o ts k

silent_named : (rs : List SiteRecord) → Each (λ (x : SiteHappening). x.sends ≡ []) (all_named rs)
silent_named [] = tt
silent_named (Setup site engine protocol items ∷ rs) = silent_named rs
silent_named (Start n ∷ rs) = silent_named rs
silent_named (Prepared t e n ticket writes ∷ rs) = (refl, silent_named rs)
silent_named (Ended t d ∷ rs) = (refl, silent_named rs)
silent_named (Local t n writes ∷ rs) = (refl, silent_named rs)
silent_named (Checkpoint sum ∷ rs) = over sum.doubtful sum.owner sum.locals (silent_named rs)
  where
    by_locals : (ts : List Tid) → Each (λ (x : SiteHappening). x.sends ≡ []) (all_named rs) → Each (λ (x : SiteHappening). x.sends ≡ []) (map was_local ts ++ all_named rs)
    by_locals [] k = k
    by_locals (t ∷ ts) k = (refl, by_locals ts k)

    over : (hs : List Held) (o : Option Tid) (ts : List Tid) → Each (λ (x : SiteHappening). x.sends ≡ []) (all_named rs)
        → Each (λ (x : SiteHappening). x.sends ≡ []) (((map (λ (held : Held). was_global held.tid) hs ++ owner_named o) ++ map was_local ts) ++ all_named rs)
    over [] None ts k = by_locals ts k
    over [] (Some owner) ts k = (refl, by_locals ts k)
    over (h ∷ hs) o ts k = (refl, over hs o ts k)

-- the records are those read behind a set-up
are_read : (home : Home) (newest : SiteRecord) (older : List SiteRecord) → home_by (oldest newest older) ≡ Some home → AreRead (newest ∷ older) (all_read home newest older)
are_read home first [] is = by_first first is
  where
    by_first : (r : SiteRecord) → home_by r ≡ Some home → AreRead (r ∷ []) (all_read home r [])
    by_first (Setup site engine protocol items) e = record { set_up = Start 0 ∷ foundation home; are = refl; each = (omega arith, (omega arith, (tt, tt))) }
    by_first (Checkpoint sum) e = record { set_up = foundation home; are = refl; each = (omega arith, (tt, tt)) }
    by_first (Start n) e = cc
    by_first (Prepared t n number ticket writes) e = cc
    by_first (Ended t d) e = cc
    by_first (Local t n writes) e = cc
are_read home newest (next ∷ older) is =
    let r = are_read home next older is in
    record { set_up = r.set_up; are = ap (λ rs. newest ∷ rs) r.are ∙ ap (λ rs. rs ++ r.set_up) (sym (read_more newest next older)); each = r.each }

pub sites_read : SitesAreReadAs
sites_read home local journal f = by_records journal.records journal.torn f
  where
    by_records : (rs : List SiteRecord) (torn : ℕ) → IsFoundSite home local (record { records = rs; torn = torn }) → SiteIsReadAs home (record { records = rs; torn = torn })
    by_records [] torn g = let none : None ≡ Some home = g.is_home in cc
    by_records (newest ∷ older) torn g =
        let found : Journal SiteRecord = record { records = newest ∷ older; torn = torn } in
        let base : (Site.disk home []).length ≡ bytes_of site_frame (Site.disk home []).records = omega arith in
        let short = Sites.torn_short torn in
        let is = disk_is home newest older torn in
        let stands : Site.journal home (opened_site found) ≡ newest ∷ older =
        ap (Disks.journal site_frame) is ∙ opened_journal site_frame site_reads_as newest older (long_site torn) torn (Site.disk home []) short base some_site_frame in
        let length : (Site.disk home (opened_site found)).length ≡ bytes_of site_frame (expanded site_reads_as newest older ++ foundation home) + torn =
        ap (λ (d : Disk SiteRecord). d.length) is ∙ opened_length site_frame site_reads_as newest older (long_site torn) torn (Site.disk home []) short base in
        let trimmed : (Site.disk home (opened_site found)).trimmed ≡ bytes_of site_frame (site_reads_as (oldest newest older) ++ foundation home) =
        ap (λ (d : Disk SiteRecord). d.trimmed) is ∙ opened_trimmed site_frame site_reads_as newest older (long_site torn) torn (Site.disk home []) in
        let parts = expanded_bytes newest older (foundation home) in
        let says : site_sum home (Site.records home (opened_site found)) ≡ journal_sum home (newest ∷ older) =
        sym (found_says_all home local found g [] tt) ∙ ap (journal_sum home) stands in
        record {
          down = refl;
          untripped = refl;
          stands = stands;
          bytes = omega (arith, length, trimmed, parts);
          kept = refl;
          read = subst (AreRead (newest ∷ older)) (sym (Sites.records_are home newest older torn)) (are_read home newest older g.is_home);
          says = says;
          epoch = epoch_same (Site.records home (opened_site found)) ∙ ap (λ (s : SiteSum). s.epoch) says;
          in_doubt = ap (λ (s : SiteSum). s.doubtful) says;
          table = ap (λ (s : SiteSum). s.rows) says;
          start = ap start_from says;
          starts = ap start_from says;
          idle = refl;
          none_begun = λ tx. none_named (newest ∷ older) tx;
          silent = (refl, silent_named (newest ∷ older));
        }

-- ---- the coordinator

expanded_coord_bytes : (newest : CoordRecord) (older below : List CoordRecord)
    → bytes_of coord_frame (expanded coord_reads_as newest older ++ below)
    ≡ bytes_of coord_frame (newest ∷ older) + bytes_of coord_frame (coord_reads_as (oldest newest older) ++ below)
expanded_coord_bytes first [] below = omega arith
expanded_coord_bytes newest (next ∷ older) below = let h = expanded_coord_bytes next older below in omega (arith, h)

pub some_coord_frame : (r : CoordRecord) → 0 < coord_frame r
some_coord_frame r = omega arith

pub coordinators_read : CoordinatorsAreReadAs
coordinators_read protocols journal rise usable members =
    let opened = usable_go_on protocols journal rise usable members in
    let past = opened_coordinator protocols journal in
    let is : Coordinator.disk past ≡ Coordinator.disk (coord_opening journal ∷ []) = opened_disk protocols journal (names_declared protocols journal rise usable members) in
    let read : Coordinator.records past ≡ Usable.coord_read journal.records = ap (λ (d : Disk CoordRecord). d.records) is ∙ read_is journal.records journal.torn in
    let stands : Coordinator.journal past ≡ journal.records = ap (Disks.journal coord_frame) is ∙ standing_found journal.records journal.torn in
    let tells : TellsRecords protocols (coord_journal_sum protocols journal.records) (Coordinator.records past) =
    subst (λ rs. TellsRecords protocols (coord_journal_sum protocols rs) (Coordinator.records past)) stands (going_tells protocols (policy_of true) past (inl opened)) in
    let declared = names_declared protocols journal rise usable members in
    record {
      down = refl;
      untripped = refl;
      stands = stands;
      bytes = ap held_bytes is ∙ bytes_found journal.records journal.torn;
      kept = refl;
      read = read;
      tells = tells;
      known = λ tid. ap₂ (λ b d. cond b (Some d) None) (sym (tells.kept tid)) (sym (tells.outcomes tid));
      begun = λ tid i.
          in_each (λ t. In t (Coordinator.begun_tids past)) (recorded (Coordinator.records past)) tid (recorded_begun protocols (policy_of true) past (inl opened)).1
          (subst (λ rs. In tid (recorded rs)) (sym read) i);
      decided = λ tid. refl;
      begun_only = λ tid i.
          (let r = opened_begun protocols journal declared tid i in
          (r.0, subst (λ rs. In r.0 (recorded rs)) (read_is journal.records journal.torn) r.1, r.2, r.3));
      next = λ tid i. opened_attempts protocols journal declared tid (subst (λ rs. In tid (recorded rs)) (sym (read_is journal.records journal.torn)) i);
      silent = is_silent protocols past opened;
    }
  where
    bytes_found : (found : List CoordRecord) (torn : ℕ)
        → held_bytes (Coordinator.disk (coord_opening (record { records = found; torn = torn }) ∷ [])) ≡ bytes_of coord_frame found + torn
    bytes_found [] torn = let short = Coordinators.torn_short torn in omega (arith, short)
    bytes_found (newest ∷ older) torn =
        let short = Coordinators.torn_short torn in
        let length = opened_length coord_frame coord_reads_as newest older (long_coord torn) torn empty_disk short Coordinators.no_length in
        let trimmed = opened_trimmed coord_frame coord_reads_as newest older (long_coord torn) torn empty_disk in
        let parts = expanded_coord_bytes newest older [] in
        omega (arith, length, trimmed, parts)

    standing_found : (found : List CoordRecord) (torn : ℕ) → Coordinator.journal (coord_opening (record { records = found; torn = torn }) ∷ []) ≡ found
    standing_found [] torn = ap (standing coord_frame 0) (nothing_read torn)
    standing_found (newest ∷ older) torn =
        opened_journal coord_frame coord_reads_as newest older (long_coord torn) torn empty_disk (Coordinators.torn_short torn) Coordinators.no_length some_coord_frame
