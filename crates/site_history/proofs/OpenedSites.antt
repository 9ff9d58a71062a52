-- What is known of a site holds also where it goes on from a usable journal that was found.
use Rattle.std.proofs.Common.{◌≡◌, ℕ, zero, suc, ◌+◌, ◌<◌, Bool, false, Option, Some, None, List, [], ◌∷◌, ◌++◌, length, map, refl, sym, ap, ◌∙◌, subst, inr, arith}
use Rattle.std.proofs.lemmas.List.{append_assoc}
use Rattle.mdb_base.specs.declared.names.Tid.{Tid}
use Rattle.mdb_base.specs.declared.names.Tx.{Tx}
use Rattle.mdb_base.specs.Words.{Each}
use Rattle.fed_rules.specs.declared.records.SiteRecord.{SiteRecord}
use Rattle.fed_rules.specs.declared.records.SiteRecord.TheVariants.{Setup, Start, Prepared, Ended, Local, Checkpoint}
use Rattle.fed_rules.specs.Disk.{Disk, after_calls, bytes_of}
use Rattle.fed_rules.specs.Found.{Journal}
use Rattle.fed_rules.specs.Reopened.{all_named, blank, home_by, local_read, long_site, oldest, opened_site, owner_read, rewritten, site_opening, site_reads_as, torn_off}
use Rattle.fed_rules.specs.SitePast.{disk, journal, records}
use Rattle.fed_rules.specs.SiteRecords.{Held, Home, site_frame}
use Rattle.fed_rules.specs.SiteSums.{carried, start_from}
use Rattle.fed_rules.specs.Usable.{HaveSums, SumsFit, OfFronts}
use Rattle.fed_rules.specs.Durable.{IsSound}
use Rattle.fed_rules.proofs.ForCallers.{bytes-more, expanded_is, opened_length, opened_synced, opened_trimmed, sound_calls}
use Rattle.site_history.proofs.Histories.{IsSortedRecord}
use Rattle.site_history.proofs.OpenedPasts.{named_writes, opened_is, opened_well}
use Rattle.site_history.proofs.Starts.{HasRisingWrites}
use Rattle.site_history.proofs.WellKept.{IsWellKept, StartsWell}
use Rattle.site_history.specs.FoundSites.{AreToldApart, IsFoundSite, IsOf, OfFoundSites, WritesRise}
use Rattle.site_history.specs.Sums.{AreSums, ComeInOrder, JournalSaysAll, JournalTellsStart}
use Rattle.site_history.proofs.InOrder.{IsInOrder}
use Rattle.site_history.proofs.InOrderPasts.{OrdersPast, anew, orders_on}
use Rattle.site_history.proofs.Journals.{Begins, IsTrimmed}
use Rattle.site_history.proofs.OpenedStarts.{all_start}
use Rattle.site_history.proofs.OpenedSums.{all_in_order, all_read, all_sums, nothing_below}
use Rattle.site_history.proofs.Founded.{foundation}
use Rattle.site_history.proofs.ReadSums.{below, beside, in_parts}
use Rattle.site_history.proofs.SummedPasts.{SummedPast, says_all_on}

-- the torn rest is shorter than the frame of which it is left
pub blank_length : (n : ℕ) → length (blank n) ≡ n
blank_length zero = refl
blank_length (suc n) = let h = blank_length n in omega (arith, h)

pub torn_short : (torn : ℕ) → torn < site_frame (long_site torn)
torn_short torn = let h = blank_length torn in omega (arith, h)

-- ---- each record that is read keeps the format, and is told apart

each_carried : (P : SiteRecord → Type 0) (held : List Held) (rs : List SiteRecord) → Each (λ (h : Held). P (Prepared h.tid h.epoch h.number h.ticket h.writes)) held
    → Each P rs → Each P (carried held ++ rs)
each_carried P [] rs h k = k
each_carried P (x ∷ held) rs h k = (h.0, each_carried P held rs h.1 k)

each_local : (P : SiteRecord → Type 0) (n : ℕ) (tids : List Tid) (rs : List SiteRecord) → Each (λ t. P (Local t n [])) tids → Each P rs
    → Each P (map (local_read n) tids ++ rs)
each_local P n [] rs h k = k
each_local P n (t ∷ tids) rs h k = (h.0, each_local P n tids rs h.1 k)

true_of_all : {A : Type 0} (xs : List A) → Each (λ (x : A). Unit {0}) xs
true_of_all [] = tt
true_of_all (x ∷ xs) = (tt, true_of_all xs)

all_rising : (home : Home) (newest : SiteRecord) (older : List SiteRecord) → Each WritesRise (newest ∷ older) → Each HasRisingWrites (all_read home newest older)
all_rising home (Setup site engine protocol items) [] h = (tt, (tt, (tt, (tt, tt))))
all_rising home (Start n) [] h = (tt, (tt, (tt, (tt, tt))))
all_rising home (Prepared t e n ticket writes) [] h = (h.0, (tt, (tt, (tt, tt))))
all_rising home (Ended t d) [] h = (tt, (tt, (tt, (tt, tt))))
all_rising home (Local t n writes) [] h = (tt, (tt, (tt, (tt, tt))))
all_rising home (Checkpoint sum) [] h = (
  tt,
  subst (Each HasRisingWrites) (sym (in_parts home sum))
      (each_carried HasRisingWrites sum.doubtful (beside home sum) h.0
      (each_local HasRisingWrites sum.counter sum.locals _ (true_of_all sum.locals) (by_owner sum.owner))),
)
  where
    by_owner : (o : Option Tid) → Each HasRisingWrites (owner_read o sum ++ below home sum)
    by_owner None = (tt, (tt, (tt, tt)))
    by_owner (Some owner) = (tt, (tt, (tt, (tt, (tt, tt)))))
all_rising home newest (next ∷ older) h = (by_record newest h.0, all_rising home next older h.1)
  where
    by_record : (r : SiteRecord) → WritesRise r → HasRisingWrites r
    by_record (Setup site engine protocol items) k = tt
    by_record (Start n) k = tt
    by_record (Prepared t e n ticket writes) k = k
    by_record (Ended t d) k = tt
    by_record (Local t n writes) k = tt
    by_record (Checkpoint sum) k = tt

all_told : (home : Home) (local : Tx → Bool) (newest : SiteRecord) (older : List SiteRecord) → Each (AreToldApart local) (newest ∷ older)
    → Each (IsSortedRecord local) (all_read home newest older)
all_told home local (Setup site engine protocol items) [] h = (tt, (tt, (tt, (tt, tt))))
all_told home local (Start n) [] h = (tt, (tt, (tt, (tt, tt))))
all_told home local (Prepared t e n ticket writes) [] h = (h.0, (tt, (tt, (tt, tt))))
all_told home local (Ended t d) [] h = (tt, (tt, (tt, (tt, tt))))
all_told home local (Local t n writes) [] h = (h.0, (tt, (tt, (tt, tt))))
all_told home local (Checkpoint sum) [] h = (
  tt,
  subst (Each (IsSortedRecord local)) (sym (in_parts home sum))
      (each_carried (IsSortedRecord local) sum.doubtful (beside home sum) h.0.0
      (each_local (IsSortedRecord local) sum.counter sum.locals _ h.0.2 (by_owner sum.owner h.0.1))),
)
  where
    by_owner : (o : Option Tid) → IsOf local false o → Each (IsSortedRecord local) (owner_read o sum ++ below home sum)
    by_owner None k = (tt, (tt, (tt, tt)))
    by_owner (Some owner) k = (tt, (k, (tt, (tt, (tt, tt)))))
all_told home local newest (next ∷ older) h = (by_record newest h.0, all_told home local next older h.1)
  where
    by_record : (r : SiteRecord) → AreToldApart local r → IsSortedRecord local r
    by_record (Setup site engine protocol items) k = tt
    by_record (Start n) k = tt
    by_record (Prepared t e n ticket writes) k = k
    by_record (Ended t d) k = tt
    by_record (Local t n writes) k = k
    by_record (Checkpoint sum) k = tt

-- ---- what stands on the disk

begins : (home : Home) (first : SiteRecord) → home_by first ≡ Some home → Begins home first (site_reads_as first ++ foundation home)
begins home (Checkpoint sum) is = tt
begins home (Setup site engine protocol items) is =
    let here : Home = record { site = site; engine = engine; protocol = protocol; items = items } in
    let same : here ≡ home = parts is in
    ((ap (λ (h : Home). h.site) same, ap (λ (h : Home). h.engine) same, ap (λ (h : Home). h.protocol) same, ap (λ (h : Home). h.items) same), nothing_below home, refl)
  where
    parts : Some (record { site = site; engine = engine; protocol = protocol; items = items }) ≡ Some home
        → record { site = site; engine = engine; protocol = protocol; items = items } ≡ home
    parts e = cc
begins home (Start n) is = cc
begins home (Prepared t e n ticket writes) is = cc
begins home (Ended t d) is = cc
begins home (Local t n writes) is = cc

module _ (home : Home) (newest : SiteRecord) (older : List SiteRecord) (torn : ℕ) where
  abbrev found : Journal SiteRecord
  found = record { records = newest ∷ older; torn = torn }

  pub disk_is : disk home (opened_site found) ≡ after_calls site_frame (disk home []) (rewritten site_reads_as (newest ∷ older) ++ torn_off (long_site torn) torn)
  disk_is = ap (λ d. after_calls site_frame d (site_opening found).calls) (named_writes home (newest ∷ older))

  base_length : (disk home []).length ≡ bytes_of site_frame (disk home []).records
  base_length = omega arith

  pub records_are : records home (opened_site found) ≡ all_read home newest older
  records_are = opened_is home newest older torn (torn_short torn)

  pub front : home_by (oldest newest older) ≡ Some home → IsTrimmed home (records home (opened_site found)) (disk home (opened_site found)).synced (disk home (opened_site found)).trimmed
  front is =
      let (newer, split) = expanded_is site_reads_as newest older in
      let first = oldest newest older in
      let before = site_reads_as first ++ foundation home in
      let parts : all_read home newest older ≡ newer ++ first ∷ before =
      ap (λ rs. rs ++ foundation home) split ∙ append_assoc newer (first ∷ site_reads_as first) (foundation home) in
      let more = bytes-more newer (first ∷ before) in
      let bytes : bytes_of site_frame (all_read home newest older) ≡ bytes_of site_frame (newer ++ first ∷ before) = ap (bytes_of site_frame) parts in
      let synced : (disk home (opened_site found)).synced ≡ bytes_of site_frame (all_read home newest older) + torn =
      ap (λ (k : Disk SiteRecord). k.synced) disk_is
      ∙ opened_synced site_frame site_reads_as newest older (long_site torn) torn (disk home [])
      ∙ opened_length site_frame site_reads_as newest older (long_site torn) torn (disk home []) (torn_short torn) base_length in
      record {
        newer = newer;
        first = first;
        before = before;
        all = records_are ∙ parts;
        at = ap (λ (k : Disk SiteRecord). k.trimmed) disk_is ∙ opened_trimmed site_frame site_reads_as newest older (long_site torn) torn (disk home []);
        kept = omega (arith, more, bytes, synced);
        begins = begins home first is;
      }

  summed : home_by (oldest newest older) ≡ Some home → AreSums home (all_read home newest older) → SummedPast home (opened_site found)
  summed is sums = record {
    summed = record {
      sound = subst (IsSound site_frame) (sym disk_is)
          (sound_calls site_frame (disk home []) (rewritten site_reads_as (newest ∷ older) ++ torn_off (long_site torn) torn) (record { frames = omega arith; synced = omega arith }));
      sums = subst (AreSums home) (sym records_are) sums;
      front = inr (front is);
    };
  }

  orders : IsInOrder (all_read home newest older) → OrdersPast home (opened_site found)
  orders o = anew home (all_named (newest ∷ older)) (site_opening found) refl (subst IsInOrder (sym records_are) o)

-- ---- a site on whose disk a usable journal is found

-- what is kept of it
pub record IsReopened (home : Home) (local : Tx → Bool) (journal : Journal SiteRecord) : Type 0 where
  pub well : IsWellKept home local (opened_site journal)
  pub sums : SummedPast home (opened_site journal)
  pub orders : OrdersPast home (opened_site journal)

pub reopened : (home : Home) (local : Tx → Bool) (journal : Journal SiteRecord) → IsFoundSite home local journal → IsReopened home local journal
reopened home local journal f = by_records journal.records journal.torn f
  where
    by_records : (rs : List SiteRecord) (torn : ℕ) → IsFoundSite home local (record { records = rs; torn = torn }) → IsReopened home local (record { records = rs; torn = torn })
    by_records [] torn g = let none : None ≡ Some home = g.is_home in cc
    by_records (newest ∷ older) torn g =
        let is : home_by (oldest newest older) ≡ Some home = g.is_home in
        let fit : SumsFit home (newest ∷ older) = subst (λ o. HaveSums o (newest ∷ older)) g.is_home g.usable.sums in
        let same = records_are home newest older torn in
        record {
          well = opened_well home local (record { records = newest ∷ older; torn = torn }) (record {
            rising = subst (Each HasRisingWrites) (sym same) (all_rising home newest older g.rising);
            sorted = subst (Each (IsSortedRecord local)) (sym same) (all_told home local newest older g.told);
            starts = subst (OfFronts (StartsWell home)) (sym same)
                (all_start home newest older is g.usable.below g.usable.sums_of_some g.usable.doubts_apart);
          });
          sums = summed home newest older torn is (all_sums home newest older is g.usable.within g.usable.sums_of_some fit);
          orders = orders home newest older torn (all_in_order home newest older is g.usable.clear g.usable.on_top);
        }

pub found_in_order : OfFoundSites (λ home past. ComeInOrder (records home past))
found_in_order home local journal f events sorted =
    let r = reopened home local journal f in (orders_on home local (opened_site journal) r.well r.orders events sorted).orderly.all.order

pub found_says_all : OfFoundSites JournalSaysAll
found_says_all home local journal f events sorted =
    let r = reopened home local journal f in says_all_on home local (opened_site journal) r.well r.sums r.orders events sorted

pub found_tells_start : OfFoundSites JournalTellsStart
found_tells_start home local journal f events sorted = ap start_from (sym (found_says_all home local journal f events sorted))
