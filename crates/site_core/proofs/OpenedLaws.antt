-- A core that goes on from a journal that was found on its disk: the disk stands for that of the past that the journal stands for, and the core for
-- this past.
use Rattle.std.proofs.Common.{◌≡◌, ℕ, ◌+◌, ◌-◌, ◌≤◌, ◌<◌, ◌^◌, Bool, true, false, IsTrue, not, Option, Some, None, List, [], ◌∷◌, ◌++◌, length, map, reverse, refl, sym, ap, ◌∙◌, subst, inl, arith}
use Rattle.std.specs.Prelude.{slice_get}
use Rattle.std.specs.FinMap.{get-empty}
use Rattle.std.specs.List.{AllByRecursion}
use Rattle.std.proofs.lemmas.List.{append-nil, append_assoc, reverse-reverse}
use Rattle.mdb_base.specs.declared.names.Tid.{Tid}
use Rattle.mdb_base.specs.Rising.{IsRising}
use Rattle.mdb_base.specs.Words.{Each}
use Rattle.mdb_base.proofs.ForCallers.{reverse_more}
use Rattle.fed_rules.specs.declared.records.SiteRecord.{SiteRecord}
use Rattle.fed_rules.specs.declared.records.SiteRecord.TheVariants as Rec
use Rattle.fed_rules.specs.declared.sums.SiteSum.{SiteSum}
use Rattle.fed_rules.specs.Disk.{Disk, bytes_of, journal as journal_of}
use Rattle.fed_rules.specs.Found.{Journal}
use Rattle.fed_rules.specs.Happenings.{Trip}
use Rattle.fed_rules.specs.Reopened.{first_of, local_read, long_site, oldest, opened_site, owner_read, site_reads_as, site_sum_read}
use Rattle.fed_rules.specs.Runs as Lines
use Rattle.fed_rules.specs.Runs.{EngineLine}
use Rattle.fed_rules.specs.SitePast as Past
use Rattle.fed_rules.specs.SitePast.{SitePast}
use Rattle.fed_rules.specs.SiteRecords.{Held, Home, doubtful_size, site_frame, site_payload}
use Rattle.fed_rules.specs.SiteSums.{carried}
use Rattle.fed_rules.specs.Usable.{IsUsableSite, home_of_first}
use Rattle.fed_rules.proofs.ForCallers.{opened_journal}
use Rattle.site_history.proofs.ForCallers.{below, beside, disk_is, foundation, in_parts, opened_is, torn_short}
use Rattle.site_history.specs.FoundSites.{WritesRise}
use Rattle.journal_disk.specs.Disk.{Image, Seen}
use Rattle.journal_disk.specs.Frames.{IsFrame, IsPayload}
use Rattle.field_bytes.specs.Fields.{IsTid}
use Rattle.record_fields.specs.Named.{writes}
use Rattle.record_fields.specs.Sums.{MaybeFits, a_doubtful}
use Rattle.frame_journal.specs.Journal.{records}
use Rattle.frame_journal.specs.Records.{entry_frame, spelled_size}
use Rattle.journal_rules.specs.Stands.{record_frame}
use Rattle.journal_rules.proofs.ForCallers.{all_reverse}
use Rattle.site_journal.specs.Exact.{spelled_is_read}
use Rattle.site_journal.specs.Frames.{frame_has_size}
use Rattle.site_journal.specs.PayloadSizes.{payload_has_size}
use Rattle.site_journal.specs.Spelling.{IsRecord, reading, spelling}
use Rattle.actor_store.specs.declared.store.Standing.{Standing}
use Rattle.actor_store.specs.declared.store.Standing.TheVariants.{Down}
use Rattle.actor_store.specs.Found.{IsFoundIn}
use Rattle.actor_store.specs.Store.{IsFoundBehind, Old, is_up, stored}
use Rattle.actor_store.proofs.ForCallers.{found_in, left_in, whole_respelled}
use Rattle.site_book.specs.Book.{Book, begun_in, blank, count_of}
use Rattle.mdb_base.specs.Names.{tx_cmp}
use Rattle.site_core.specs.declared.site.SiteCore.{SiteCore}
use Rattle.site_core.specs.Found.{IsFoundOn}
use Rattle.site_core.specs.Made.{IsOpened, was_found}
use Rattle.site_core.specs.Recovered.{LocalsOnce}
use Rattle.site_core.specs.Stands.{IsIn, IsOfKind, IsStopped, Stands}
use Rattle.site_core.specs.Store.{Keeps, KeepsBehind, Store}
use Rattle.site_core.proofs.BegunLaws.{none_opened}
use Rattle.site_core.proofs.FoundPasts.{opened_was_found}
use Rattle.site_core.proofs.OpenedDisk.{stands_behind, trimmed_off}
use Rattle.site_core.proofs.OpenedOnce.{all_once}
use Rattle.site_core.proofs.RememberLaws.{kept_records}

-- ---- the format

-- the writes of those prepared rise
each_rises : (held : List Held) → AllByRecursion a_doubtful.Fits held → Each (λ (h : Held). IsRising (λ put. put.key.0) h.writes) held
each_rises [] f = tt
each_rises (h ∷ held) f = (f.0.1.1.1.1.1, each_rises held f.1)

writes_rise : (rs : List SiteRecord) → AllByRecursion IsRecord rs → Each WritesRise rs
writes_rise [] f = tt
writes_rise (Rec.Setup site engine protocol items ∷ rs) f = (tt, writes_rise rs f.1)
writes_rise (Rec.Start epoch ∷ rs) f = (tt, writes_rise rs f.1)
writes_rise (Rec.Prepared t e n ticket puts ∷ rs) f = (f.0.1.1.1.1.1, writes_rise rs f.1)
writes_rise (Rec.Ended t d ∷ rs) f = (tt, writes_rise rs f.1)
writes_rise (Rec.Local t n puts ∷ rs) f = (tt, writes_rise rs f.1)
writes_rise (Rec.Checkpoint sum ∷ rs) f = (each_rises sum.doubtful f.0.1.1.1.1.1.1.1.1.1.2, writes_rise rs f.1)

-- what a first record is read as, with the set-up below it, are records of the format whose payloads are short enough
abbrev Fits : SiteRecord → Type 0
Fits r = IsRecord r × (site_payload r < 2 ^ 16)

no_writes : writes.Fits []
no_writes = (omega arith, tt, tt)

fit_carried : (n : ℕ) (held : List Held) (rs : List SiteRecord) → AllByRecursion a_doubtful.Fits held → doubtful_size held + 1 ≤ n → n < 2 ^ 16 → AllByRecursion Fits rs → AllByRecursion Fits (carried held ++ rs)
fit_carried n [] rs f le less all = all
fit_carried n (h ∷ held) rs f le less all = ((f.0, omega arith), fit_carried n held rs f.1 (omega arith) less all)

fit_locals : (n : ℕ) (tids : List Tid) (rs : List SiteRecord) → AllByRecursion IsTid tids → n < 256 ^ 8 → AllByRecursion Fits rs → AllByRecursion Fits (map (local_read n) tids ++ rs)
fit_locals n [] rs f less all = all
fit_locals n (t ∷ tids) rs f less all = (((f.0, (less, no_writes)), omega arith), fit_locals n tids rs f.1 less all)

fit_owner : (sum : SiteSum) (o : Option Tid) (rs : List SiteRecord) → MaybeFits IsTid o → sum.counter < 256 ^ 8 → sum.published < 256 ^ 8 → AllByRecursion Fits rs → AllByRecursion Fits (owner_read o sum ++ rs)
fit_owner sum None rs f counter published all = all
fit_owner sum (Some owner) rs f counter published all = (((f, tt), omega arith), (((f, (omega arith, (counter, (published, no_writes)))), omega arith), all))

fit_sum : (home : Home) (sum : SiteSum) → IsRecord (Rec.Checkpoint sum) → site_payload (Rec.Checkpoint sum) < 2 ^ 16 → home_of_first (Some (Rec.Checkpoint sum)) ≡ Some home → AllByRecursion Fits (site_sum_read sum ++ foundation home)
fit_sum home sum f less is =
    let set_up : Fits (Rec.Setup sum.site sum.engine sum.protocol sum.rows) = ((f.0, (tt, (tt, f.1.1.1.1.1.1.1.0))), omega arith) in
    let one : Fits (Rec.Start 1) = (omega arith, omega arith) in
    let last : Fits (Rec.Start sum.epoch) = (f.1.1.1.0, omega arith) in
    let mine : AllByRecursion Fits (foundation (record { site = sum.site; engine = sum.engine; protocol = sum.protocol; items = sum.rows })) = (one, (set_up, tt)) in
    let ours : AllByRecursion Fits (foundation home) = subst (λ (h : Home). AllByRecursion Fits (foundation h)) (parts is) mine in
    subst (AllByRecursion Fits) (sym (in_parts home sum))
    (fit_carried (site_payload (Rec.Checkpoint sum)) sum.doubtful (beside home sum) f.1.1.1.1.1.1.1.1.1.2 (omega arith) less
    (fit_locals sum.counter sum.locals (owner_read sum.owner sum ++ below home sum) f.1.1.1.1.1.1.1.1.0.2 f.1.1.1.1.0
    (fit_owner sum sum.owner (below home sum) f.1.1.1.1.1.1.0 f.1.1.1.1.0 f.1.1.1.1.1.0 (last, ours))))
  where
    parts : home_of_first (Some (Rec.Checkpoint sum)) ≡ Some home → (let h : Home = record { site = sum.site; engine = sum.engine; protocol = sum.protocol; items = sum.rows } in h) ≡ home
    parts e = cc

fit_first : (home : Home) (first : SiteRecord) → IsRecord first → site_payload first < 2 ^ 16 → home_of_first (Some first) ≡ Some home → AllByRecursion Fits (site_reads_as first ++ foundation home)
fit_first home (Rec.Checkpoint sum) f less is = fit_sum home sum f less is
fit_first home (Rec.Setup site engine protocol items) f less is =
    let mine : AllByRecursion Fits (foundation (record { site = site; engine = engine; protocol = protocol; items = items })) = ((omega arith, omega arith), ((f, less), tt)) in
    let ours : AllByRecursion Fits (foundation home) = subst (λ (h : Home). AllByRecursion Fits (foundation h)) (parts is) mine in
    ((omega arith, omega arith), ours)
  where
    parts : home_of_first (Some (Rec.Setup site engine protocol items)) ≡ Some home → (let h : Home = record { site = site; engine = engine; protocol = protocol; items = items } in h) ≡ home
    parts e = cc
fit_first home (Rec.Start n) f less is = cc
fit_first home (Rec.Prepared t e n ticket puts) f less is = cc
fit_first home (Rec.Ended t d) f less is = cc
fit_first home (Rec.Local t n puts) f less is = cc

all_records : (rs : List SiteRecord) → AllByRecursion Fits rs → AllByRecursion IsRecord rs
all_records [] f = tt
all_records (r ∷ rs) f = (f.0.0, all_records rs f.1)

all_payloads : (rs : List SiteRecord) → AllByRecursion Fits rs → AllByRecursion (λ (r : SiteRecord). IsPayload (spelling r)) rs
all_payloads [] f = tt
all_payloads (r ∷ rs) f = (let size = payload_has_size r in let less = f.0.1 in omega (arith, size, less), all_payloads rs f.1)

-- ---- the disk

-- the first record is one of them
oldest_is : (P : SiteRecord → Type 0) (newest : SiteRecord) (older : List SiteRecord) → AllByRecursion P (newest ∷ older) → P (oldest newest older)
oldest_is P first [] all = all.0
oldest_is P newest (next ∷ older) all = oldest_is P next older all.1

all_frames : (rs : List SiteRecord) → AllByRecursion IsFrame (map (record_frame spelling) rs) → AllByRecursion (λ (r : SiteRecord). site_payload r < 2 ^ 16) rs
all_frames [] f = tt
all_frames (r ∷ rs) f = (let size = payload_has_size r in let less = f.0.0 in omega (arith, size, less), all_frames rs f.1)

all_turned : (P : SiteRecord → Type 0) (rs : List SiteRecord) → AllByRecursion P (reverse rs) → AllByRecursion P rs
all_turned P rs all = subst (AllByRecursion P) (reverse-reverse rs) (all_reverse P (reverse rs) all)

-- right frames of either version have payloads that are short enough
short_first : (image : Image) (newest : SiteRecord) (older : List SiteRecord) (torn : ℕ) → IsFoundIn spelling IsRecord image (record { records = newest ∷ older; torn = torn })
    → site_payload (oldest newest older) < 2 ^ 16
short_first image newest older torn f =
    let those = whole_respelled spelling IsRecord site_frame frame_has_size image f.entries f.whole in
    let frames : AllByRecursion IsFrame (map (record_frame spelling) (reverse (newest ∷ older))) =
    subst (λ (rs : List SiteRecord). AllByRecursion IsFrame (map (record_frame spelling) rs)) f.are those.right.are_frames in
    oldest_is (λ (r : SiteRecord). site_payload r < 2 ^ 16) newest older (all_turned (λ (r : SiteRecord). site_payload r < 2 ^ 16) (newest ∷ older) (all_frames (reverse (newest ∷ older)) frames))

-- the record that a torn rest is taken for can't be written
never_written : (torn : ℕ) → IsRecord (long_site torn) → torn ≡ 0
never_written torn is = let least = is.0.least in omega (arith, least)

-- behind some entries the bytes stand for the disk of the past that the journal stands for
pub opened_found : (image : Image) (home : Home) (journal : Journal SiteRecord) → IsFoundOn image home journal
    → (old : Old SiteRecord) × IsFoundBehind spelling IsRecord site_frame image old (Past.disk home (opened_site journal))
opened_found image home journal f = by_records journal.records journal.torn f
  where
    by_records : (rs : List SiteRecord) (torn : ℕ) → IsFoundOn image home (record { records = rs; torn = torn })
        → (old : Old SiteRecord) × IsFoundBehind spelling IsRecord site_frame image old (Past.disk home (opened_site (record { records = rs; torn = torn })))
    by_records [] torn g = let none : None ≡ Some home = g.is_home in cc
    by_records (newest ∷ older) torn g =
        let first = oldest newest older in
        let is_first : home_of_first (Some first) ≡ Some home = g.is_home in
        let fits : AllByRecursion Fits (trimmed_off home newest older) =
        fit_first home first (oldest_is IsRecord newest older g.stands.in_range) (short_first image newest older torn g.stands) is_first in
        let s = stands_behind home newest older torn in
        found_in spelling IsRecord site_frame frame_has_size image (record { records = newest ∷ older; torn = torn }) (Past.disk home (opened_site (record { records = newest ∷ older; torn = torn })))
        (trimmed_off home newest older) g.stands (all_records (trimmed_off home newest older) fits) (all_payloads (trimmed_off home newest older) fits) s.parts s.border s.long s.synced
        (long_site torn) s.lost (never_written torn)

-- a store that keeps that disk behind them keeps it of that past
pub found_kept : {tells : Bool} {seen : Seen} {rules : Disk SiteRecord} {trip : Option Trip} (store : Store) (journal : Journal SiteRecord) (old : Old SiteRecord) → KeepsBehind tells seen store old rules trip
    → Keeps (was_found (opened_site journal)) tells seen store rules trip
found_kept store journal old k = record { old = old; none = (λ e. let both : true ≡ false = sym (opened_was_found journal) ∙ e in cc); behind = k }

-- ---- the past

pub found_opened : (image : Image) (home : Home) (journal : Journal SiteRecord) → IsFoundOn image home journal → IsOpened home (opened_site journal)
found_opened image home journal f = record {
  journal = journal;
  is = refl;
  number = f.number;
  usable = f.usable;
  is_home = f.is_home;
  rising = writes_rise journal.records f.stands.in_range;
}

found_once : (image : Image) (home : Home) (journal : Journal SiteRecord) → IsFoundOn image home journal → LocalsOnce (Past.records home (opened_site journal))
found_once image home journal f = by_records journal.records journal.torn f
  where
    by_records : (rs : List SiteRecord) (torn : ℕ) → IsFoundOn image home (record { records = rs; torn = torn }) → LocalsOnce (Past.records home (opened_site (record { records = rs; torn = torn })))
    by_records [] torn g = let none : None ≡ Some home = g.is_home in cc
    by_records (newest ∷ older) torn g = subst LocalsOnce (sym (opened_is home newest older torn (torn_short torn))) (all_once home newest older g.usable.once)

-- the core stands for it
pub stands_opened : {E : Type 0} (stands : E → Lines.Start → List EngineLine → Type 0) (tells : Bool) (core : SiteCore E) (image : Image) (disk : Seen) (home : Home) (journal : Journal SiteRecord)
    → IsFoundOn image home journal → Keeps (was_found (opened_site journal)) tells disk core.store (Past.disk home (opened_site journal)) None → core.store.standing ≡ Down → IsOfKind stands core.engine home.engine → core.book ≡ blank
    → core.protocol ≡ home.protocol → Stands stands tells core disk home (opened_site journal)
stands_opened stands tells core image disk home journal f kept down engine book protocol =
    let o = found_opened image home journal f in
    let here : IsStopped stands core home (opened_site journal) = record { engine = engine; start = refl; lines = refl } in
    let P : Standing → Type 0 = λ s. IsIn stands core s home (opened_site journal) in
    record {
      holds = record {
        made = inl o;
        memory = record {
          records = kept_records tells disk core.store _ _ kept;
          trip = kept.behind.trip;
          armed = kept.behind.armed;
          standing = sym (ap (λ s. not (is_up s)) down);
          standing_in = subst P (sym down) here;
          begun = (λ tx. ap (λ (b : Book). begun_in b tx) book ∙ ap count_of (get-empty tx_cmp tx) ∙ sym (none_opened home (opened_site journal) o tx));
          protocol = protocol;
          once = found_once image home journal f;
        };
      };
      stored = kept;
    }

-- ---- the first record

-- the journal of that past is the one that was found
pub found_journal : (image : Image) (home : Home) (journal : Journal SiteRecord) → IsFoundOn image home journal → Past.journal home (opened_site journal) ≡ journal.records
found_journal image home journal f = by_records journal.records journal.torn f.is_home
  where
    by_records : (rs : List SiteRecord) (torn : ℕ) → home_of_first (first_of rs) ≡ Some home → Past.journal home (opened_site (record { records = rs; torn = torn })) ≡ rs
    by_records [] torn is = cc
    by_records (newest ∷ older) torn is =
        let base : (Past.disk home []).length ≡ bytes_of site_frame (Past.disk home []).records = omega arith in
        ap (λ (k : Disk SiteRecord). journal_of site_frame k) (disk_is home newest older torn)
        ∙ opened_journal site_frame site_reads_as newest older (long_site torn) torn (Past.disk home []) (torn_short torn) base (λ r. omega arith)

first_read : (newest : SiteRecord) (older more : List SiteRecord) → slice_get (reverse (newest ∷ older) ++ more) 0 ≡ Some (oldest newest older)
first_read first [] more = refl
first_read newest (next ∷ older) more =
    ap (λ l. slice_get (l ++ more) 0) (reverse_more newest (next ∷ older)) ∙ ap (λ l. slice_get l 0) (append_assoc (reverse (next ∷ older)) (newest ∷ []) more)
    ∙ first_read next older (newest ∷ more)

first_home : (rs : List SiteRecord) (home : Home) → home_of_first (first_of rs) ≡ Some home → home_of_first (slice_get (reverse rs) 0) ≡ Some home
first_home [] home is = cc
first_home (newest ∷ older) home is =
    ap home_of_first (ap (λ l. slice_get l 0) (sym (append-nil (reverse (newest ∷ older)))) ∙ first_read newest older []) ∙ is

-- a store that keeps the disk of that past has the journal's first record first
pub found_first : (tells : Bool) (disk : Seen) (store : Store) (image : Image) (home : Home) (journal : Journal SiteRecord) → IsFoundOn image home journal
    → Keeps (was_found (opened_site journal)) tells disk store (Past.disk home (opened_site journal)) None → home_of_first (slice_get (records store.journal) 0) ≡ Some home
found_first tells disk store image home journal f kept =
    let read : records store.journal ≡ reverse journal.records = kept_records tells disk store _ _ kept ∙ ap reverse (found_journal image home journal f) in
    ap (λ l. home_of_first (slice_get l 0)) read ∙ first_home journal.records home f.is_home

-- ---- what a core leaves

-- what a core that stopped has on its disk is found there again, where it is usable
pub left_found : {E : Type 0} (stands : E → Lines.Start → List EngineLine → Type 0) (tells : Bool) (core : SiteCore E) (seen : Seen) (home next : Home) (past : SitePast) (number : ℕ) → IsTrue tells
    → Stands stands tells core seen home past → core.store.standing ≡ Down → IsUsableSite number (Past.journal home past) → home_of_first (first_of (Past.journal home past)) ≡ Some next
    → IsFoundOn seen.image next (record { records = Past.journal home past; torn = length seen.image.bytes - spelled_size (entry_frame spelling) core.store.journal.entries })
left_found stands tells core seen home next past number told k down usable is_home = record {
  stands = left_in spelling reading IsRecord site_frame frame_has_size spelled_is_read tells told seen (stored core.store) k.stored.old (Past.disk home past) (Past.trip past) k.stored.behind down;
  number = number;
  usable = usable;
  is_home = is_home;
}
