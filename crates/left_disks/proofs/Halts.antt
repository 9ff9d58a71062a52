-- A halt that loses nothing: the actor is down behind it, and its disk says the same.
use Rattle.std.proofs.Common.{◌≡◌, ℕ, ◌+◌, ◌-◌, min, Bool, true, false, Option, List, [], ◌∷◌, drop, reverse, refl, sym, ap₂, subst, arith}
use Rattle.std.specs.List.{AllByRecursion}
use Rattle.mdb_base.specs.Words.{when}
use Rattle.presumptions.specs.declared.Participant.{Participant}
use Rattle.fed_rules.specs.declared.events.CoordEvent.TheVariants as Coord_event
use Rattle.fed_rules.specs.declared.events.SiteEvent.TheVariants as Site_event
use Rattle.fed_rules.specs.Coord.{coord_line}
use Rattle.fed_rules.specs.CoordPast as Coordinator
use Rattle.fed_rules.specs.CoordPast.{CoordHappening, CoordPast}
use Rattle.fed_rules.specs.CoordRecords.{coord_frame}
use Rattle.fed_rules.specs.Disk.{Disk, Stops, after_call, bytes_of, journal, standing}
use Rattle.fed_rules.specs.Happenings.{is_down, stopped}
use Rattle.fed_rules.specs.Policies.{Policy}
use Rattle.fed_rules.specs.Site.{site_line}
use Rattle.fed_rules.specs.SitePast as Site
use Rattle.fed_rules.specs.SitePast.{SiteHappening, SitePast}
use Rattle.fed_rules.specs.SiteRecords.{Home, site_frame}
use Rattle.fed_rules.specs.Durable.{IsSound}
use Rattle.fed_rules.proofs.ForCallers.{none_lost, whole_all}
use Rattle.journal_disk.specs.Disk.{Image}
use Rattle.frame_journal.specs.Records.{AreRecordsOf}
use Rattle.journal_rules.specs.Stands.{record_frame}
use Rattle.journal_rules.specs.Torn.{IsRestOf, IsTornBy}
use Rattle.held_disks.specs.Holding.{HoldsRecords}

-- ---- the disk

-- these have the same records, as many bytes, the same place of the first one, and lost the same record last
pub record AreAlike {R : Type 0} (a b : Disk R) : Type 0 where
  pub records : a.records ≡ b.records
  pub length : a.length ≡ b.length
  pub trimmed : a.trimmed ≡ b.trimmed
  pub lost : a.lost ≡ b.lost

alike_torn : {R : Type 0} (spelling : R → List ℕ) (is_record : R → Type 0) (size : R → ℕ) (image : Image) (a b : Disk R) → AreAlike a b → IsTornBy spelling is_record size image a
    → IsTornBy spelling is_record size image b
alike_torn {R} spelling is_record size image a b same torn =
    let places : bytes_of size a.records - a.trimmed ≡ bytes_of size b.records - b.trimmed = ap₂ (λ (rs : List R) (n : ℕ). bytes_of size rs - n) same.records same.trimmed in
    subst (λ (n : ℕ). IsRestOf spelling is_record b.lost (drop n image.bytes)) places
    (subst (λ (o : Option R). IsRestOf spelling is_record o (drop (bytes_of size a.records - a.trimmed) image.bytes)) same.lost torn)

pub alike_holds : {R : Type 0} (spelling : R → List ℕ) (is_record : R → Type 0) (size : R → ℕ) (image : Image) (a b : Disk R) → AreAlike a b
    → HoldsRecords spelling is_record size image a → HoldsRecords spelling is_record size image b
alike_holds {R} spelling is_record size image a b same held =
    let those : journal size a ≡ journal size b = ap₂ (λ (n : ℕ) (rs : List R). standing size n rs) same.trimmed same.records in
    let bytes = held.bytes.bytes in
    let long = same.length in
    let place = same.trimmed in
    record {
      bytes = record {
        records = subst (λ (rs : List R). AreRecordsOf (record_frame spelling) image.bytes (reverse rs)) those held.bytes.records;
        bytes = omega (arith, bytes, long, place);
        torn = alike_torn spelling is_record size image a b same held.bytes.torn;
      };
      format = subst (AllByRecursion is_record) those held.format;
    }

-- a stop that keeps as many bytes as there are
all_kept : {R : Type 0} (size : R → ℕ) (d : Disk R) → IsSound size d → AreAlike d (after_call size d (Stops d.length))
all_kept size d sound =
    let frames = sound.frames in
    let kept = min d.length (d.synced + d.length) in
    record {
      records = sym (whole_all size kept d.records (omega (arith, frames)));
      length = omega arith;
      trimmed = refl;
      lost = sym (none_lost size kept d.lost d.records (omega (arith, frames)));
    }

-- ---- the coordinator

pub record CoordHalted (past : CoordPast) (x : CoordHappening) : Type 0 where
  pub down : is_down (x ∷ past) ≡ true
  pub same : AreAlike (Coordinator.disk past) (Coordinator.disk (x ∷ past))

coord_when : (past : CoordPast) (b : Bool) (x y : CoordHappening) → (b ≡ true → CoordHalted past x) → CoordHalted past y → CoordHalted past (when b x y)
unfolding when
coord_when past true x y p q = p refl
coord_when past false x y p q = q

coord_stopped : (past : CoordPast) → IsSound coord_frame (Coordinator.disk past)
    → CoordHalted past (stopped coord_frame (Coordinator.disk past) (Coord_event.Halt (Coordinator.disk past).length) (Stops (Coordinator.disk past).length ∷ []))
unfolding stopped
coord_stopped past sound = record { down = refl; same = all_kept coord_frame (Coordinator.disk past) sound }

pub coord_halted : (protocols : List Participant) (policy : Policy) (past : CoordPast) → IsSound coord_frame (Coordinator.disk past)
    → CoordHalted past (coord_line protocols policy past (Coord_event.Halt (Coordinator.disk past).length))
unfolding coord_line
coord_halted protocols policy past sound =
    coord_when past (is_down past) _ _ (λ e. record { down = e; same = record { records = refl; length = refl; trimmed = refl; lost = refl } }) (coord_stopped past sound)

-- ---- a site

pub record SiteHalted (home : Home) (past : SitePast) (x : SiteHappening) : Type 0 where
  pub down : is_down (x ∷ past) ≡ true
  pub same : AreAlike (Site.disk home past) (Site.disk home (x ∷ past))

site_when : (home : Home) (past : SitePast) (b : Bool) (x y : SiteHappening) → (b ≡ true → SiteHalted home past x) → SiteHalted home past y → SiteHalted home past (when b x y)
unfolding when
site_when home past true x y p q = p refl
site_when home past false x y p q = q

site_stopped : (home : Home) (past : SitePast) → IsSound site_frame (Site.disk home past)
    → SiteHalted home past (stopped site_frame (Site.disk home past) (Site_event.Halt (Site.disk home past).length) (Stops (Site.disk home past).length ∷ []))
unfolding stopped
site_stopped home past sound = record { down = refl; same = all_kept site_frame (Site.disk home past) sound }

pub site_halted : (home : Home) (past : SitePast) → IsSound site_frame (Site.disk home past)
    → SiteHalted home past (site_line home past (Site_event.Halt (Site.disk home past).length))
unfolding site_line
site_halted home past sound =
    site_when home past (is_down past) _ _ (λ e. record { down = e; same = record { records = refl; length = refl; trimmed = refl; lost = refl } }) (site_stopped home past sound)
