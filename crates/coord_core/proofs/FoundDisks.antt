-- A journal whose frames stand on a disk, all of them synced, is found there; and so is the one that a core that stopped leaves.
use Rattle.std.proofs.Common.{◌≡◌, ℕ, zero, suc, ◌+◌, ◌-◌, ◌<◌, ◌^◌, Bool, true, false, IsTrue, cond, not, List, [], ◌∷◌, ◌++◌, length, map, refl, sym, ap, ◌∙◌, arith}
use Rattle.std.specs.List.{AllByRecursion}
use Rattle.std.proofs.lemmas.List.{append-nil}
use Rattle.mdb_base.specs.Words.{those}
use Rattle.record_fields.specs.Sums.{a_committed_attempt, an_open_attempt}
use Rattle.fed_rules.specs.declared.records.CoordRecord.{CoordRecord}
use Rattle.fed_rules.specs.declared.records.CoordRecord.TheVariants as Rec
use Rattle.fed_rules.specs.declared.sums.CommittedAttempt.{CommittedAttempt}
use Rattle.fed_rules.specs.declared.sums.CoordSum.{CoordSum}
use Rattle.fed_rules.specs.declared.sums.OpenAttempt.{OpenAttempt}
use Rattle.fed_rules.specs.CoordPast.{CoordPast}
use Rattle.fed_rules.specs.CoordPast as Past
use Rattle.fed_rules.specs.CoordRecords.{coord_frame, coord_payload}
use Rattle.fed_rules.specs.Disk.{bytes_of, empty_disk}
use Rattle.fed_rules.specs.Found.{Journal}
use Rattle.fed_rules.specs.Policies.{Policy}
use Rattle.fed_rules.specs.Reopened.{commit_read, coord_reads_as, coord_sum_read, end_read, initiation_read, is_open_in, long_coord, oldest}
use Rattle.fed_rules.specs.Usable.{IsUsableCoordinator}
use Rattle.fed_rules.proofs.ForCallers.{expanded, opened_length, opened_lost, opened_records, opened_synced, opened_trimmed, torn_lost}
use Rattle.coord_laws.proofs.ForCallers.{no_length, nothing_read, torn_short}
use Rattle.journal_disk.specs.Disk.{Image, Seen}
use Rattle.journal_disk.specs.Frames.{IsPayload}
use Rattle.frame_journal.specs.Records.{entry_frame, spelled_size}
use Rattle.coord_journal.specs.Exact.{spelled_is_read}
use Rattle.coord_journal.specs.Frames.{frame_has_size}
use Rattle.coord_journal.specs.PayloadSizes.{payload_has_size}
use Rattle.coord_journal.specs.Spelling.{IsRecord, reading, spelling}
use Rattle.actor_store.specs.declared.store.Standing.TheVariants.{Down}
use Rattle.actor_store.specs.Found.{IsFoundIn}
use Rattle.actor_store.specs.Store.{IsFoundBehind, Old, stored}
use Rattle.actor_store.proofs.ForCallers.{found_in, left_in}
use Rattle.mdb_base.proofs.ForCallers.{all_append}
use Rattle.coord_core.specs.declared.coord.CoordCore.{CoordCore}
use Rattle.coord_core.specs.Found.{IsFoundOn, found_disk}
use Rattle.coord_core.specs.Stands.{Stands}
use Rattle.coord_tables.specs.Terms.{Terms}

-- ---- what a first Checkpoint is read as

-- a record of the format whose payload is short enough for a frame
abbrev Fits : CoordRecord → Type 0
Fits r = IsRecord r × (coord_payload r < 2 ^ 16)

fit_opens : (os : List OpenAttempt) → AllByRecursion an_open_attempt.Fits os → AllByRecursion Fits (map initiation_read os)
fit_opens [] f = tt
fit_opens (o ∷ os) f = ((f.0, (let few = f.0.1.0 in omega (arith, few))), fit_opens os f.1)

fit_commits : (cs : List CommittedAttempt) → AllByRecursion a_committed_attempt.Fits cs → AllByRecursion Fits (map commit_read cs)
fit_commits [] f = tt
fit_commits (c ∷ cs) f = ((f.0, (let few = f.0.1.0 in omega (arith, few))), fit_commits cs f.1)

fit_ends : (test : CommittedAttempt → Bool) (cs : List CommittedAttempt) → AllByRecursion a_committed_attempt.Fits cs → AllByRecursion Fits (map end_read (those test cs))
fit_ends test [] f = tt
fit_ends test (c ∷ cs) f = by_test (test c) (fit_ends test cs f.1)
  where
    by_test : (b : Bool) → AllByRecursion Fits (map end_read (those test cs)) → AllByRecursion Fits (map end_read (cond b (c ∷ those test cs) (those test cs)))
    by_test true rest = ((f.0.0, omega arith), rest)
    by_test false rest = rest

fit_sum : (sum : CoordSum) → IsRecord (Rec.Checkpoint sum) → AllByRecursion Fits (coord_sum_read sum)
fit_sum sum f =
    let ended : CommittedAttempt → Bool = λ attempt. not (is_open_in sum attempt.tid) in
    all_append Fits (map end_read (those ended sum.committed) ++ map commit_read sum.committed) (map initiation_read sum.open_attempts)
    (all_append Fits (map end_read (those ended sum.committed)) (map commit_read sum.committed) (fit_ends ended sum.committed f.1.2) (fit_commits sum.committed f.1.2)) (fit_opens sum.open_attempts f.0.2)

fit_first : (first : CoordRecord) → IsRecord first → AllByRecursion Fits (coord_reads_as first)
fit_first (Rec.Checkpoint sum) f = fit_sum sum f
fit_first (Rec.Initiation t ms) f = tt
fit_first (Rec.Commit t ks) f = tt
fit_first (Rec.Abort t ms) f = tt
fit_first (Rec.End t) f = tt

all_records : (rs : List CoordRecord) → AllByRecursion Fits rs → AllByRecursion IsRecord rs
all_records [] f = tt
all_records (r ∷ rs) f = (f.0.0, all_records rs f.1)

all_payloads : (rs : List CoordRecord) → AllByRecursion Fits rs → AllByRecursion (λ (r : CoordRecord). IsPayload (spelling r)) rs
all_payloads [] f = tt
all_payloads (r ∷ rs) f = (let size = payload_has_size r in let less = f.0.1 in omega (arith, size, less), all_payloads rs f.1)

-- ---- the disk

-- the records with what the first one is read as are the journal before that
split : (newest : CoordRecord) (older : List CoordRecord) → expanded coord_reads_as newest older ≡ (newest ∷ older) ++ coord_reads_as (oldest newest older)
split first [] = refl
split newest (next ∷ older) = ap (λ rs. newest ∷ rs) (split next older)

-- the first record is one of them
oldest_is : (P : CoordRecord → Type 0) (newest : CoordRecord) (older : List CoordRecord) → AllByRecursion P (newest ∷ older) → P (oldest newest older)
oldest_is P first [] all = all.0
oldest_is P newest (next ∷ older) all = oldest_is P next older all.1

-- the record that a torn rest is taken for can't be written
never_written : (torn : ℕ) → IsRecord (long_coord torn) → torn ≡ 0
never_written zero is = refl
never_written (suc n) is = let least = is.1.2.0.0.least in omega (arith, least)

-- behind some entries the bytes stand for the disk that the journal stands for
pub disk_found : (image : Image) (journal : Journal CoordRecord) → IsFoundIn spelling IsRecord image journal → (old : Old CoordRecord) × IsFoundBehind spelling IsRecord coord_frame image old (found_disk journal)
disk_found image journal f = by_records journal.records journal.torn f
  where
    by_records : (found : List CoordRecord) (torn : ℕ) → IsFoundIn spelling IsRecord image (record { records = found; torn = torn })
        → (old : Old CoordRecord) × IsFoundBehind spelling IsRecord coord_frame image old (found_disk (record { records = found; torn = torn }))
    by_records [] torn g =
        let none : Journal CoordRecord = record { records = []; torn = torn } in
        let short = torn_short torn in
        found_in spelling IsRecord coord_frame frame_has_size image none (found_disk none) [] g tt tt (nothing_read torn) refl (omega (arith, short, ap (bytes_of coord_frame) (nothing_read torn))) refl
        (long_coord torn) (torn_lost coord_frame empty_disk (long_coord torn) torn short no_length) (never_written torn)
    by_records (newest ∷ older) torn g =
        let those : Journal CoordRecord = record { records = newest ∷ older; torn = torn } in
        let rules = found_disk those in
        let under = coord_reads_as (oldest newest older) in
        let fits : AllByRecursion Fits under = fit_first (oldest newest older) (oldest_is IsRecord newest older g.in_range) in
        let parts : rules.records ≡ (newest ∷ older) ++ under =
        opened_records coord_frame coord_reads_as newest older (long_coord torn) torn empty_disk (torn_short torn) no_length ∙ append-nil (expanded coord_reads_as newest older) ∙ split newest older in
        let border : rules.trimmed ≡ bytes_of coord_frame under =
        opened_trimmed coord_frame coord_reads_as newest older (long_coord torn) torn empty_disk ∙ ap (bytes_of coord_frame) (append-nil under) in
        let long : rules.length ≡ bytes_of coord_frame (expanded coord_reads_as newest older ++ []) + torn =
        opened_length coord_frame coord_reads_as newest older (long_coord torn) torn empty_disk (torn_short torn) no_length in
        let same : bytes_of coord_frame (expanded coord_reads_as newest older ++ []) ≡ bytes_of coord_frame rules.records =
        ap (bytes_of coord_frame) (append-nil (expanded coord_reads_as newest older) ∙ split newest older ∙ sym parts) in
        let synced : rules.synced ≡ rules.length = opened_synced coord_frame coord_reads_as newest older (long_coord torn) torn empty_disk in
        let lost = opened_lost coord_frame coord_reads_as newest older (long_coord torn) torn empty_disk (torn_short torn) no_length in
        found_in spelling IsRecord coord_frame frame_has_size image those rules under g (all_records under fits) (all_payloads under fits) parts border (long ∙ ap (λ (n : ℕ). n + torn) same) synced
        (long_coord torn) lost (never_written torn)

-- what a core that stopped has on its disk is found there again, where it is usable
pub left_found : {P : Type 0} (test : P → Policy) (tells : Bool) (core : CoordCore P) (seen : Seen) (terms : Terms) (past : CoordPast) → IsTrue tells → Stands test tells core seen terms past
    → core.store.standing ≡ Down → IsUsableCoordinator terms.protocols (Past.journal past)
    → IsFoundOn seen.image terms.protocols (record { records = Past.journal past; torn = length seen.image.bytes - spelled_size (entry_frame spelling) core.store.journal.entries })
left_found test tells core seen terms past told k down usable = record {
  stands = left_in spelling reading IsRecord coord_frame frame_has_size spelled_is_read tells told seen (stored core.store) k.stored.old (Past.disk past) (Past.trip past) k.stored.behind down;
  usable = usable;
}
