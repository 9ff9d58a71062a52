-- What the made-up past of an actor on whose disk a journal is found leaves on the disk: the journal, with what its first record is read as trimmed
-- before it, and the torn rest.
use Rattle.std.proofs.Common.{◌≡◌, ℕ, ◌+◌, ◌≤◌, ◌<◌, min, Bool, true, false, cond, nat_le, Some, List, [], ◌∷◌, ◌++◌, refl, sym, ap, subst, ◌∙◌, arith, le-leb}
use Rattle.std.proofs.lemmas.Bool.{lt-leb}
use Rattle.fed_rules.specs.Disk.{Disk, Call, Append, Sync, CutBack, TrimFront, Stops, bytes_of, oldest_lost, whole, standing, journal, after_call, after_calls}
use Rattle.fed_rules.specs.Reopened.{appends, oldest, rewritten, torn_off, written}
use Rattle.fed_rules.proofs.Durable.{none_lost, whole_all}
use Rattle.std.proofs.lemmas.List.{append_assoc}

-- the records of a journal, with what the first one is read as behind it
abbrev pub expanded : {R : Type 0} → (R → List R) → R → List R → List R
expanded read_as first [] = first ∷ read_as first
expanded read_as newest (next ∷ older) = newest ∷ expanded read_as next older

-- a disk with these records appended
abbrev pub with_all : {R : Type 0} → (R → ℕ) → List R → Disk R → Disk R
with_all size [] d = d
with_all size (newest ∷ older) d = after_call size (with_all size older d) (Append newest)

-- the disk before the torn rest comes
abbrev pub held : {R : Type 0} → (R → ℕ) → (R → List R) → R → List R → Disk R → Disk R
held size read_as first [] d = after_call size (after_call size (after_call size (with_all size (read_as first) d) (Append first)) Sync) TrimFront
held size read_as newest (next ∷ older) d = after_call size (held size read_as next older d) (Append newest)

module _ {R : Type 0} (size : R → ℕ) where
  appends_are : (rs : List R) (d : Disk R) (more : List (Call R)) → after_calls size d (appends rs ++ more) ≡ after_calls size (with_all size rs d) more
  appends_are [] d more = refl
  appends_are (newest ∷ older) d more =
      ap (λ cs. after_calls size d cs) (append_assoc (appends older) (Append newest ∷ []) more) ∙ appends_are older d (Append newest ∷ more)

  written_is : (read_as : R → List R) (newest : R) (older : List R) (d : Disk R) (more : List (Call R))
      → after_calls size d (written read_as newest older ++ more) ≡ after_calls size (held size read_as newest older d) more
  written_is read_as first [] d more =
      ap (λ cs. after_calls size d cs) (append_assoc (appends (read_as first)) (Append first ∷ Sync ∷ TrimFront ∷ []) more)
      ∙ appends_are (read_as first) d (Append first ∷ Sync ∷ TrimFront ∷ more)
  written_is read_as newest (next ∷ older) d more =
      ap (λ cs. after_calls size d cs) (append_assoc (written read_as next older) (Append newest ∷ []) more) ∙ written_is read_as next older d (Append newest ∷ more)

  all_records : (rs : List R) (d : Disk R) → (with_all size rs d).records ≡ rs ++ d.records
  all_records [] d = refl
  all_records (newest ∷ older) d = ap (λ xs. newest ∷ xs) (all_records older d)

  all_length : (rs : List R) (d : Disk R) → d.length ≡ bytes_of size d.records → (with_all size rs d).length ≡ bytes_of size (with_all size rs d).records
  all_length [] d e = e
  all_length (newest ∷ older) d e = let h = all_length older d e in omega (arith, h)

  held_records : (read_as : R → List R) (newest : R) (older : List R) (d : Disk R) → (held size read_as newest older d).records ≡ expanded read_as newest older ++ d.records
  held_records read_as first [] d = ap (λ xs. first ∷ xs) (all_records (read_as first) d)
  held_records read_as newest (next ∷ older) d = ap (λ xs. newest ∷ xs) (held_records read_as next older d)

  held_length : (read_as : R → List R) (newest : R) (older : List R) (d : Disk R) → d.length ≡ bytes_of size d.records
      → (held size read_as newest older d).length ≡ bytes_of size (held size read_as newest older d).records
  held_length read_as first [] d e = all_length (first ∷ read_as first) d e
  held_length read_as newest (next ∷ older) d e = let h = held_length read_as next older d e in omega (arith, h)

  held_trimmed : (read_as : R → List R) (newest : R) (older : List R) (d : Disk R)
      → (held size read_as newest older d).trimmed ≡ bytes_of size (read_as (oldest newest older) ++ d.records)
  held_trimmed read_as first [] d = ap (bytes_of size) (all_records (read_as first) d)
  held_trimmed read_as newest (next ∷ older) d = held_trimmed read_as next older d

  -- behind a sync, a frame of which a stop keeps so many bytes leaves a torn rest of them
  torn_record : (d : Disk R) (long : R) (torn : ℕ) → torn < size long → d.length ≡ bytes_of size d.records
      → (after_calls size d (torn_off long torn)).records ≡ d.records
  torn_record d long torn short e =
      ap (λ b. cond b (long ∷ d.records) (whole size place d.records)) (lt-leb (size long + bytes_of size d.records) place (omega (arith, short, e)))
      ∙ whole_all size place d.records (omega (arith, short, e))
    where
      place : ℕ
      place = min (d.length + size long) (d.length + torn)

  -- that frame is the one that is lost
  pub torn_lost : (d : Disk R) (long : R) (torn : ℕ) → torn < size long → d.length ≡ bytes_of size d.records
      → (after_calls size d (torn_off long torn)).lost ≡ Some long
  torn_lost d long torn short e =
      ap (λ b. cond b d.lost (oldest_lost size place (Some long) d.records)) (lt-leb (size long + bytes_of size d.records) place (omega (arith, short, e)))
      ∙ none_lost size place (Some long) d.records (omega (arith, short, e))
    where
      place : ℕ
      place = min (d.length + size long) (d.length + torn)

  torn_length : (d : Disk R) (long : R) (torn : ℕ) → torn < size long → (after_calls size d (torn_off long torn)).length ≡ d.length + torn
  torn_length d long torn short = omega (arith, short)

  -- what stands behind the trimmed place: each record of the journal
  standing_expanded : (read_as : R → List R) (newest : R) (older below : List R) → ((r : R) → 0 < size r)
      → standing size (bytes_of size (read_as (oldest newest older) ++ below)) (expanded read_as newest older ++ below) ≡ newest ∷ older
  standing_expanded read_as first [] below some =
      ap (λ b. cond b (first ∷ standing size (bytes_of size (read_as first ++ below)) (read_as first ++ below)) []) (le-leb (bytes_of size (read_as first ++ below)) (bytes_of size (read_as first ++ below)) (omega arith))
      ∙ ap (λ xs. first ∷ xs) (none_below (read_as first ++ below))
    where
      none_below : (rs : List R) → standing size (bytes_of size rs) rs ≡ []
      none_below [] = refl
      none_below (r ∷ rs) = ap (λ b. cond b (r ∷ standing size (bytes_of size (r ∷ rs)) rs) []) (lt-leb (bytes_of size (r ∷ rs)) (bytes_of size rs) (let h = some r in omega (arith, h)))
  standing_expanded read_as newest (next ∷ older) below some =
      ap (λ b. cond b (newest ∷ standing size place (expanded read_as next older ++ below)) []) (le-leb place (bytes_of size (expanded read_as next older ++ below)) (place_low next older))
      ∙ ap (λ xs. newest ∷ xs) (standing_expanded read_as next older below some)
    where
      place : ℕ
      place = bytes_of size (read_as (oldest next older) ++ below)

      place_low : (n : R) (rs : List R) → bytes_of size (read_as (oldest n rs) ++ below) ≤ bytes_of size (expanded read_as n rs ++ below)
      place_low n [] = omega arith
      place_low n (m ∷ rs) = let h = place_low m rs in omega (arith, h)

  -- so the made-up stop leaves these records and this journal
  pub opened_records : (read_as : R → List R) (newest : R) (older : List R) (long : R) (torn : ℕ) (d : Disk R) → torn < size long → d.length ≡ bytes_of size d.records
      → (after_calls size d (rewritten read_as (newest ∷ older) ++ torn_off long torn)).records ≡ expanded read_as newest older ++ d.records
  opened_records read_as newest older long torn d short e =
      ap (λ (k : Disk R). k.records) (written_is read_as newest older d (torn_off long torn))
      ∙ torn_record (held size read_as newest older d) long torn short (held_length read_as newest older d e)
      ∙ held_records read_as newest older d

  pub opened_journal : (read_as : R → List R) (newest : R) (older : List R) (long : R) (torn : ℕ) (d : Disk R) → torn < size long → d.length ≡ bytes_of size d.records
      → ((r : R) → 0 < size r) → journal size (after_calls size d (rewritten read_as (newest ∷ older) ++ torn_off long torn)) ≡ newest ∷ older
  opened_journal read_as newest older long torn d short e some =
      ap (λ (k : Disk R). standing size k.trimmed k.records) (written_is read_as newest older d (torn_off long torn))
      ∙ ap (standing size (held size read_as newest older d).trimmed) (torn_record (held size read_as newest older d) long torn short (held_length read_as newest older d e) ∙ held_records read_as newest older d)
      ∙ ap (λ place. standing size place (expanded read_as newest older ++ d.records)) (held_trimmed read_as newest older d)
      ∙ standing_expanded read_as newest older d.records some

  pub opened_length : (read_as : R → List R) (newest : R) (older : List R) (long : R) (torn : ℕ) (d : Disk R) → torn < size long → d.length ≡ bytes_of size d.records
      → (after_calls size d (rewritten read_as (newest ∷ older) ++ torn_off long torn)).length ≡ bytes_of size (expanded read_as newest older ++ d.records) + torn
  opened_length read_as newest older long torn d short e =
      ap (λ (k : Disk R). k.length) (written_is read_as newest older d (torn_off long torn))
      ∙ torn_length (held size read_as newest older d) long torn short
      ∙ ap (λ n. n + torn) (held_length read_as newest older d e ∙ ap (bytes_of size) (held_records read_as newest older d))

  -- what is trimmed is what the first record is read as, with all below, and all that is kept is synced
  pub opened_trimmed : (read_as : R → List R) (newest : R) (older : List R) (long : R) (torn : ℕ) (d : Disk R)
      → (after_calls size d (rewritten read_as (newest ∷ older) ++ torn_off long torn)).trimmed ≡ bytes_of size (read_as (oldest newest older) ++ d.records)
  opened_trimmed read_as newest older long torn d =
      ap (λ (k : Disk R). k.trimmed) (written_is read_as newest older d (torn_off long torn)) ∙ held_trimmed read_as newest older d

  pub opened_synced : (read_as : R → List R) (newest : R) (older : List R) (long : R) (torn : ℕ) (d : Disk R)
      → (after_calls size d (rewritten read_as (newest ∷ older) ++ torn_off long torn)).synced
      ≡ (after_calls size d (rewritten read_as (newest ∷ older) ++ torn_off long torn)).length
  opened_synced read_as newest older long torn d =
      ap (λ (k : Disk R). k.synced) (written_is read_as newest older d (torn_off long torn))
      ∙ sym (ap (λ (k : Disk R). k.length) (written_is read_as newest older d (torn_off long torn)))

  pub opened_lost : (read_as : R → List R) (newest : R) (older : List R) (long : R) (torn : ℕ) (d : Disk R) → torn < size long → d.length ≡ bytes_of size d.records
      → (after_calls size d (rewritten read_as (newest ∷ older) ++ torn_off long torn)).lost ≡ Some long
  opened_lost read_as newest older long torn d short e =
      ap (λ (k : Disk R). k.lost) (written_is read_as newest older d (torn_off long torn))
      ∙ torn_lost (held size read_as newest older d) long torn short (held_length read_as newest older d e)

-- the torn rest is a frame that a stop cuts
pub calls_split : {R : Type 0} (size : R → ℕ) (d : Disk R) (cs : List (Call R)) (long : R) (torn : ℕ)
    → after_calls size d (cs ++ torn_off long torn) ≡ after_call size (after_calls size d (cs ++ Sync ∷ Append long ∷ [])) (Stops torn)
calls_split size d [] long torn = refl
calls_split size d (c ∷ cs) long torn = calls_split size (after_call size d c) cs long torn

-- the first record, with what it is read as behind it, stands last
pub expanded_is : {R : Type 0} (read_as : R → List R) (newest : R) (older : List R)
    → (newer : List R) × (expanded read_as newest older ≡ newer ++ (oldest newest older ∷ read_as (oldest newest older)))
expanded_is read_as first [] = ([], refl)
expanded_is read_as newest (next ∷ older) =
    let (newer, e) = expanded_is read_as next older in (newest ∷ newer, ap (λ xs. newest ∷ xs) e)
