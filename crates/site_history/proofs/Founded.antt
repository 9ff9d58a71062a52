-- The records of every past of a site stand on those of its set-up: no stop takes them away, since they are synced.
use Rattle.std.proofs.Common.{◌≡◌, ℕ, ◌+◌, ◌≤◌, min, leb, Bool, true, false, cond, List, [], ◌∷◌, ◌++◌, refl, sym, ap, subst, arith}
use Rattle.std.proofs.lemmas.Bool.{cond-true, leb-true, le-leb}
use Rattle.fed_rules.specs.declared.records.SiteRecord.{SiteRecord}
use Rattle.fed_rules.specs.Disk.{Call, Append, Sync, CutBack, TrimFront, Stops, Disk, after_call, after_calls, bytes_of, whole}
use Rattle.fed_rules.specs.SitePast.{SitePast, disk, records}
use Rattle.fed_rules.specs.SiteRecords.{Home, site_frame}
use Rattle.fed_rules.specs.declared.records.SiteRecord.TheVariants as Rec
use Rattle.fed_rules.proofs.ForCallers.{bytes-more}

-- the two records that every site begins with, the newest first
abbrev pub foundation : Home → List SiteRecord
foundation home = Rec.Start 1 ∷ Rec.Setup home.site home.engine home.protocol home.items ∷ []

-- the records, the newest first, stand on those of this site's set-up
pub record IsFounded (home : Home) (records : List SiteRecord) : Type 0 where
  pub newer : List SiteRecord
  pub founded : records ≡ newer ++ foundation home

-- the records stand on the foundation, whose bytes are synced, and the bytes of all records lie within the disk
record HasFoundation (home : Home) (rules : Disk SiteRecord) : Type 0 where
  pub founded : IsFounded home rules.records
  pub synced : bytes_of site_frame (foundation home) ≤ rules.synced
  pub within : bytes_of site_frame rules.records ≤ rules.length

bytes-founded : (home : Home) (records : List SiteRecord) → IsFounded home records → bytes_of site_frame (foundation home) ≤ bytes_of site_frame records
bytes-founded home records f = let more = bytes-more f.newer (foundation home) in subst (λ xs. bytes_of site_frame (foundation home) ≤ bytes_of site_frame xs) (sym f.founded) more

-- the records whose frames lie within so many bytes have at most so many
pub bytes-whole : (n : ℕ) (records : List SiteRecord) → bytes_of site_frame (whole site_frame n records) ≤ n
bytes-whole n [] = omega arith
bytes-whole n (newest ∷ records) = by_test (leb (bytes_of site_frame (newest ∷ records)) n) refl (bytes-whole n records) where
  by_test : (t : Bool) → leb (bytes_of site_frame (newest ∷ records)) n ≡ t → bytes_of site_frame (whole site_frame n records) ≤ n
      → bytes_of site_frame (cond t (newest ∷ records) (whole site_frame n records)) ≤ n
  by_test true e rest = leb-true _ _ e
  by_test false e rest = rest

-- records that lie within so many bytes are all whole
pub whole-all : (n : ℕ) (records : List SiteRecord) → bytes_of site_frame records ≤ n → whole site_frame n records ≡ records
whole-all n [] within = refl
whole-all n (newest ∷ records) within = cond-true _ _ _ (le-leb _ _ within)

-- a stop that keeps the bytes of the foundation keeps its records
whole-founded : (home : Home) (n : ℕ) (newer : List SiteRecord) → bytes_of site_frame (foundation home) ≤ n → IsFounded home (whole site_frame n (newer ++ foundation home))
whole-founded home n [] enough = record { newer = []; founded = whole-all n (foundation home) enough }
whole-founded home n (newest ∷ newer) enough = by_test (leb (bytes_of site_frame (newest ∷ newer ++ foundation home)) n) (whole-founded home n newer enough) where
  by_test : (t : Bool) → IsFounded home (whole site_frame n (newer ++ foundation home))
      → IsFounded home (cond t (newest ∷ newer ++ foundation home) (whole site_frame n (newer ++ foundation home)))
  by_test true rest = record { newer = newest ∷ newer; founded = refl }
  by_test false rest = rest

call_founded : (home : Home) (rules : Disk SiteRecord) (call : Call SiteRecord) → HasFoundation home rules → HasFoundation home (after_call site_frame rules call)
call_founded home rules (Append newest) f =
    let within = f.within in
    record { founded = record { newer = newest ∷ f.founded.newer; founded = ap (λ xs. newest ∷ xs) f.founded.founded }; synced = f.synced; within = omega arith }
call_founded home rules Sync f =
    let least = bytes-founded home rules.records f.founded in
    let within = f.within in
    record { founded = f.founded; synced = omega arith; within = within }
call_founded home rules CutBack f = record { founded = f.founded; synced = bytes-founded home rules.records f.founded; within = omega arith }
call_founded home rules TrimFront f = record { founded = f.founded; synced = f.synced; within = f.within }
call_founded home rules (Stops cut) f =
    let least = bytes-founded home rules.records f.founded in
    let within = f.within in
    let synced = f.synced in
    let n = min rules.length (rules.synced + cut) in
    let enough : bytes_of site_frame (foundation home) ≤ n = omega arith in
    let Q : List SiteRecord → Type 0 = λ xs. IsFounded home (whole site_frame n xs) in
    record { founded = subst Q (sym f.founded.founded) (whole-founded home n f.founded.newer enough); synced = enough; within = bytes-whole n rules.records }

calls_founded : (home : Home) (rules : Disk SiteRecord) (calls : List (Call SiteRecord)) → HasFoundation home rules → HasFoundation home (after_calls site_frame rules calls)
calls_founded home rules [] f = f
calls_founded home rules (call ∷ calls) f = calls_founded home (after_call site_frame rules call) calls (call_founded home rules call f)

disk_founded : (home : Home) (past : SitePast) → HasFoundation home (disk home past)
disk_founded home [] = record { founded = record { newer = []; founded = refl }; synced = omega arith; within = omega arith }
disk_founded home (x ∷ past) = calls_founded home (disk home past) x.calls (disk_founded home past)

-- the oldest two records of every past are the site's set-up and its first start
pub founded : (home : Home) (past : SitePast) → IsFounded home (records home past)
founded home past = (disk_founded home past).founded

-- the frames of all records lie within the disk
pub all_within : (home : Home) (past : SitePast) → bytes_of site_frame (records home past) ≤ (disk home past).length
all_within home past = (disk_founded home past).within
