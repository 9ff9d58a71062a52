-- A coordinator on whose disk a journal is found: its Checkpoints are Sums, its records are tidy, and what was trimmed stands before a Checkpoint.
use Rattle.std.proofs.Common.{◌≡◌, ℕ, zero, suc, ◌+◌, ◌*◌, ◌≤◌, ◌<◌, ◌⊎◌, min, cond, not, List, [], ◌∷◌, ◌++◌, map, refl, sym, ap, ◌∙◌, subst, inl, inr, arith}
use Rattle.std.proofs.lemmas.Bool.{lt-leb}
use Rattle.std.proofs.lemmas.List.{append-nil}
use Rattle.mdb_base.specs.declared.names.Tid.{Tid}
use Rattle.mdb_base.specs.Words.{Each, those}
use Rattle.presumptions.specs.declared.Participant.{Participant}
use Rattle.fed_rules.specs.declared.records.CoordRecord.{CoordRecord}
use Rattle.fed_rules.specs.declared.records.CoordRecord.TheVariants.{Initiation, Commit, Abort, End, Checkpoint}
use Rattle.fed_rules.specs.declared.sums.CommittedAttempt.{CommittedAttempt}
use Rattle.fed_rules.specs.declared.sums.OpenAttempt.{OpenAttempt}
use Rattle.fed_rules.specs.CoordPast.{CoordPast, disk, records}
use Rattle.fed_rules.specs.CoordRecords.{committed_size, coord_frame}
use Rattle.fed_rules.specs.Disk.{Disk, after_calls, bytes_of, empty_disk}
use Rattle.fed_rules.specs.Reopened.{blank_ends, coord_opening, coord_read, coord_reads_as, coord_sum_read, commit_read, end_read, initiation_read, is_open_in, long_coord, oldest, rewritten, torn_off}
use Rattle.fed_rules.specs.Usable.{AreSumsOfOpen, CoordSumsFit, StandInOrder}
use Rattle.fed_rules.specs.Usable as Usable
use Rattle.fed_rules.proofs.ForCallers.{expanded, expanded_is, opened_length, opened_records, opened_synced, opened_trimmed}
use Rattle.coord_laws.specs.Pasts.{IsOpened}
use Rattle.coord_laws.proofs.OpenedPasts.{is_sound, opened_disk}
use Rattle.coord_laws.proofs.Past.{any_member}
use Rattle.coord_laws.specs.Sums.{AreCoordSums}
use Rattle.coord_laws.proofs.CoordRead.{sum_read, tidy_in_order}
use Rattle.coord_laws.proofs.CoordTold.{IsTidy}
use Rattle.coord_laws.proofs.CoordTrims.{IsFine, IsTrimmed}

-- the torn rest is shorter than the frame of which it is left
ends_size : (n : ℕ) → committed_size (map (λ (tid : Tid). let a : CommittedAttempt = record { tid = tid; tickets = [] } in a) (blank_ends n)) ≡ 6 * n
ends_size zero = omega arith
ends_size (suc n) = let h = ends_size n in omega (arith, h)

pub torn_short : (torn : ℕ) → torn < coord_frame (long_coord torn)
torn_short torn = let h = ends_size torn in omega (arith, h)

-- ---- the records of the made-up past

read_more : (newest next : CoordRecord) (older : List CoordRecord) → Usable.coord_read (newest ∷ next ∷ older) ≡ newest ∷ Usable.coord_read (next ∷ older)
read_more (Initiation t ms) next older = refl
read_more (Commit t ks) next older = refl
read_more (Abort t ms) next older = refl
read_more (End t) next older = refl
read_more (Checkpoint sum) next older = refl

expanded_read : (newest : CoordRecord) (older : List CoordRecord) → expanded coord_reads_as newest older ≡ Usable.coord_read (newest ∷ older)
expanded_read (Initiation t ms) [] = refl
expanded_read (Commit t ks) [] = refl
expanded_read (Abort t ms) [] = refl
expanded_read (End t) [] = refl
expanded_read (Checkpoint sum) [] = refl
expanded_read newest (next ∷ older) = ap (λ rs. newest ∷ rs) (expanded_read next older) ∙ sym (read_more newest next older)

pub no_length : (empty_disk {Record = CoordRecord}).length ≡ bytes_of coord_frame []
no_length = omega arith

expanded_records : (newest : CoordRecord) (older : List CoordRecord) (torn : ℕ)
    → coord_read (record { records = newest ∷ older; torn = torn }) ≡ expanded coord_reads_as newest older
expanded_records newest older torn =
    opened_records coord_frame coord_reads_as newest older (long_coord torn) torn empty_disk (torn_short torn) no_length
    ∙ append-nil (expanded coord_reads_as newest older)

pub nothing_read : (torn : ℕ) → coord_read (record { records = []; torn = torn }) ≡ []
nothing_read torn =
    let short = torn_short torn in
    ap (λ b. cond b (long_coord torn ∷ []) [])
    (lt-leb (coord_frame (long_coord torn) + 0) (min (0 + coord_frame (long_coord torn)) (0 + torn)) (omega (arith, short)))

pub read_is : (found : List CoordRecord) (torn : ℕ) → coord_read (record { records = found; torn = torn }) ≡ Usable.coord_read found
read_is [] torn = nothing_read torn
read_is (newest ∷ older) torn = expanded_records newest older torn ∙ expanded_read newest older

-- ---- each Checkpoint is a Sum

no_sums : (protocols : List Participant) (es cs : List CommittedAttempt) (is : List OpenAttempt)
    → AreCoordSums protocols ((map end_read es ++ map commit_read cs) ++ map initiation_read is)
no_sums protocols [] [] [] = tt
no_sums protocols [] [] (i ∷ is) = no_sums protocols [] [] is
no_sums protocols [] (c ∷ cs) is = no_sums protocols [] cs is
no_sums protocols (e ∷ es) cs is = no_sums protocols es cs is

all_sums : (protocols : List Participant) (newest : CoordRecord) (older : List CoordRecord) → CoordSumsFit protocols (newest ∷ older)
    → Each AreSumsOfOpen (newest ∷ older) → StandInOrder (Usable.coord_read (newest ∷ older)) → AreCoordSums protocols (Usable.coord_read (newest ∷ older))
all_sums protocols (Initiation t ms) [] fit some order = tt
all_sums protocols (Commit t ks) [] fit some order = tt
all_sums protocols (Abort t ms) [] fit some order = tt
all_sums protocols (End t) [] fit some order = tt
all_sums protocols (Checkpoint sum) [] fit some order = (sym (sum_read protocols sum some.0 order), no_sums protocols (those (λ (attempt : CommittedAttempt). not (is_open_in sum attempt.tid)) sum.committed) sum.committed sum.open_attempts)
all_sums protocols (Initiation t ms) (next ∷ older) fit some order = all_sums protocols next older fit some.1 order.1
all_sums protocols (Commit t ks) (next ∷ older) fit some order = all_sums protocols next older fit some.1 order.1
all_sums protocols (Abort t ms) (next ∷ older) fit some order = all_sums protocols next older fit some.1 order.1
all_sums protocols (End t) (next ∷ older) fit some order = all_sums protocols next older fit some.1 order.1
all_sums protocols (Checkpoint sum) (next ∷ older) fit some order = (fit.0, all_sums protocols next older fit.1 some.1 order)

read_sums : (protocols : List Participant) (found : List CoordRecord) (torn : ℕ) → CoordSumsFit protocols found → Each AreSumsOfOpen found
    → StandInOrder (coord_read (record { records = found; torn = torn })) → AreCoordSums protocols (coord_read (record { records = found; torn = torn }))
read_sums protocols [] torn fit some order = subst (AreCoordSums protocols) (sym (nothing_read torn)) tt
read_sums protocols (newest ∷ older) torn fit some order =
    let is : coord_read (record { records = newest ∷ older; torn = torn }) ≡ Usable.coord_read (newest ∷ older) =
    expanded_records newest older torn ∙ expanded_read newest older in
    subst (AreCoordSums protocols) (sym is) (all_sums protocols newest older fit some (subst StandInOrder is order))

-- ---- what was trimmed

behind_bytes : (newer older : List CoordRecord) → bytes_of coord_frame older ≤ bytes_of coord_frame (newer ++ older)
behind_bytes [] older = omega arith
behind_bytes (x ∷ newer) older = let h = behind_bytes newer older in omega (arith, h)

front : (found : List CoordRecord) (torn : ℕ) (d : Disk CoordRecord)
    → d ≡ after_calls coord_frame empty_disk (rewritten coord_reads_as found ++ torn_off (long_coord torn) torn)
    → (d.trimmed ≡ 0) ⊎ IsTrimmed d.records d.synced d.trimmed
front [] torn d e = inl (ap (λ (k : Disk CoordRecord). k.trimmed) e)
front (newest ∷ older) torn d e = by_first (oldest newest older) refl
  where
    trimmed : d.trimmed ≡ bytes_of coord_frame (coord_reads_as (oldest newest older) ++ [])
    trimmed = ap (λ (k : Disk CoordRecord). k.trimmed) e ∙ opened_trimmed coord_frame coord_reads_as newest older (long_coord torn) torn empty_disk

    all : d.records ≡ expanded coord_reads_as newest older
    all = ap (λ (k : Disk CoordRecord). k.records) e ∙ expanded_records newest older torn

    synced : d.synced ≡ bytes_of coord_frame (expanded coord_reads_as newest older ++ []) + torn
    synced =
        ap (λ (k : Disk CoordRecord). k.synced) e
        ∙ opened_synced coord_frame coord_reads_as newest older (long_coord torn) torn empty_disk
        ∙ opened_length coord_frame coord_reads_as newest older (long_coord torn) torn empty_disk (torn_short torn) no_length

    nothing : (first : CoordRecord) → oldest newest older ≡ first → coord_reads_as first ≡ [] → (d.trimmed ≡ 0) ⊎ IsTrimmed d.records d.synced d.trimmed
    nothing first is none = inl (trimmed ∙ ap (λ r. bytes_of coord_frame (coord_reads_as r ++ [])) is ∙ ap (λ rs. bytes_of coord_frame (rs ++ [])) none)

    by_first : (first : CoordRecord) → oldest newest older ≡ first → (d.trimmed ≡ 0) ⊎ IsTrimmed d.records d.synced d.trimmed
    by_first (Initiation t ms) is = nothing (Initiation t ms) is refl
    by_first (Commit t ks) is = nothing (Commit t ks) is refl
    by_first (Abort t ms) is = nothing (Abort t ms) is refl
    by_first (End t) is = nothing (End t) is refl
    by_first (Checkpoint sum) is =
        let (newer, split) = expanded_is coord_reads_as newest older in
        let parts : expanded coord_reads_as newest older ≡ newer ++ Checkpoint sum ∷ coord_sum_read sum =
        split ∙ ap (λ r. newer ++ (r ∷ coord_reads_as r)) is in
        let more = behind_bytes newer (Checkpoint sum ∷ coord_sum_read sum) in
        let bytes : bytes_of coord_frame (expanded coord_reads_as newest older ++ []) ≡ bytes_of coord_frame (newer ++ Checkpoint sum ∷ coord_sum_read sum) =
        ap (bytes_of coord_frame) (append-nil (expanded coord_reads_as newest older) ∙ parts) in
        inr (record {
          newer = newer;
          sum = sum;
          before = coord_sum_read sum;
          all = all ∙ parts;
          at = trimmed ∙ ap (λ r. bytes_of coord_frame (coord_reads_as r ++ [])) is ∙ ap (bytes_of coord_frame) (append-nil (coord_sum_read sum));
          kept = (let s = synced in omega (arith, more, bytes, s));
        })

-- ---- together

module _ (protocols : List Participant) (past : CoordPast) (o : IsOpened protocols past) where
  disk_is : disk past ≡ disk (coord_opening o.journal ∷ [])
  disk_is = ap disk o.is ∙ opened_disk protocols o.journal o.declared

  records_are : records past ≡ coord_read o.journal
  records_are = ap (λ (d : Disk CoordRecord). d.records) disk_is

  pub is_tidy : (g : Tid) → IsTidy protocols g (records past)
  is_tidy g = subst (IsTidy protocols g) (sym records_are) (tidy_in_order protocols g (coord_read o.journal) o.order)

  pub is_summed : AreCoordSums protocols (records past)
  is_summed = subst (AreCoordSums protocols) (sym records_are) (read_sums protocols o.journal.records o.journal.torn o.sums o.sums_of_open o.order)

  pub is_fine : IsFine (disk past)
  is_fine = record {
    sound = (is_sound protocols past o any_member (record { tx = record { 0 = 0 }; attempt = 0 })).firm.sound;
    front = front o.journal.records o.journal.torn (disk past) disk_is;
  }
