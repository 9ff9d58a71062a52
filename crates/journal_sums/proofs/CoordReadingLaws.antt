-- What was read of the coordinator's records, and the lists that it is kept in.
use Rattle.std.proofs.Common.{◌≡◌, ℕ, suc, ◌≤◌, ◌<◌, ◌+◌, ◌==◌, Bool, true, false, cond, ◌&&◌, List, [], ◌∷◌, length, filter, get_or, take, reverse, refl, sym, ap, ◌∙◌, arith}
use Rattle.std.specs.List.{insert}
use Rattle.std.proofs.lemmas.List.{reverse-append, take_more}
use Rattle.mdb_base.specs.Words.{inserted, those}
use Rattle.presumptions.specs.declared.Participant.{Participant}
use Rattle.presumptions.specs.declared.Protocol.{Protocol}
use Rattle.presumptions.specs.declared.Protocol.TheVariants as By
use Rattle.fed_rules.specs.declared.records.CoordRecord.{CoordRecord}
use Rattle.fed_rules.specs.declared.records.CoordRecord.TheVariants.{Initiation, Commit, Abort, End, Checkpoint}
use Rattle.fed_rules.specs.CoordRecords.{all_follow, class_of, ends_at_once, same_protocol}
use Rattle.fed_rules.specs.CoordRecords.Class.{Uniform, Mixed}
use Rattle.fed_rules.specs.CoordSums.{coord_journal_sum}
use Rattle.journal_sums.specs.CoordReadings.{front_count, read_with}

-- ---- lists

-- the words on what passes a test
pub filter-those : {A : Type 0} (test : A → Bool) (xs : List A) → filter test xs ≡ those test xs
filter-those test [] = refl
filter-those test (x ∷ xs) = ap (λ ys. cond (test x) (x ∷ ys) ys) (filter-those test xs)

pub front_count-le : {A : Type 0} (test : A → Bool) (xs : List A) → front_count test xs ≤ length xs
front_count-le test [] = omega arith
front_count-le test (x ∷ xs) = by_test (test x) (front_count-le test xs)
  where
    by_test : (b : Bool) → front_count test xs ≤ length xs → cond b (suc (front_count test xs)) 0 ≤ length (x ∷ xs)
    by_test true h = omega arith
    by_test false h = omega arith

-- an item is put behind those that are before it
pub front_count-inserted : {A : Type 0} (before : A → A → Bool) (x : A) (ys : List A) → insert ys (front_count (λ y. before y x) ys) x ≡ inserted before x ys
front_count-inserted before x [] = refl
front_count-inserted before x (y ∷ ys) = by_test (before y x) (front_count-inserted before x ys)
  where
    by_test : (b : Bool) → insert ys (front_count (λ z. before z x) ys) x ≡ inserted before x ys
        → insert (y ∷ ys) (cond b (suc (front_count (λ z. before z x) ys)) 0) x ≡ cond b (y ∷ inserted before x ys) (x ∷ y ∷ ys)
    by_test true h = ap (λ zs. y ∷ zs) h
    by_test false h = refl

-- ---- the class of presumed commit

abbrev is_some_one : List Participant → Bool
is_some_one [] = false
is_some_one (participant ∷ participants) = true

-- a commit is forgotten at once where there are participants, and all presume commit
commit_class : (participants : List Participant) → (is_some_one participants && all_follow By.Commit participants) ≡ ends_at_once (class_of participants)
commit_class [] = refl
commit_class (participant ∷ participants) = by_protocol participant.protocol
  where
    uniform : (b : Bool) → b ≡ ends_at_once (cond b (Uniform By.Commit) Mixed)
    uniform true = refl
    uniform false = refl

    nothing : (b : Bool) → false ≡ ends_at_once (cond b (Uniform By.Nothing) Mixed)
    nothing true = refl
    nothing false = refl

    abort : (b : Bool) → false ≡ ends_at_once (cond b (Uniform By.Abort) Mixed)
    abort true = refl
    abort false = refl

    by_protocol : (protocol : Protocol) → (same_protocol protocol By.Commit && all_follow By.Commit participants) ≡ ends_at_once (cond (all_follow protocol participants) (Uniform protocol) Mixed)
    by_protocol By.Nothing = nothing (all_follow By.Nothing participants)
    by_protocol By.Abort = abort (all_follow By.Abort participants)
    by_protocol By.Commit = uniform (all_follow By.Commit participants)

-- the same where there are some
pub commits_at_once : (participants : List Participant) → (length participants == 0) ≡ false → all_follow By.Commit participants ≡ ends_at_once (class_of participants)
commits_at_once [] e = cc
commits_at_once (participant ∷ participants) e = commit_class (participant ∷ participants)

-- ---- records

-- what a journal says with one more record
pub journal_with : (protocols : List Participant) (records : List CoordRecord) (entry : CoordRecord) →
    read_with protocols (coord_journal_sum protocols records) entry ≡ coord_journal_sum protocols (entry ∷ records)
journal_with protocols records (Initiation tid participants) = refl
journal_with protocols records (Commit tid tickets) = refl
journal_with protocols records (Abort tid participants) = refl
journal_with protocols records (End tid) = refl
journal_with protocols records (Checkpoint sum) = refl

-- the next record stands before those that were read
pub next_first : (entries : List CoordRecord) (n : ℕ) (entry : CoordRecord) → n < length entries → entry ≡ get_or entries n entry →
    reverse (take (n + 1) entries) ≡ entry ∷ reverse (take n entries)
next_first entries n entry within here =
    ap reverse (take_more entries n entry within)
    ∙ reverse-append (take n entries) (get_or entries n entry ∷ [])
    ∙ ap (λ (e : CoordRecord). e ∷ reverse (take n entries)) (sym here)
