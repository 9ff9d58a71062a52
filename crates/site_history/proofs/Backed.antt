-- Backed records with all older ones: what a stop leaves of them is backed, and what a line appends to them.
use Rattle.std.proofs.Common.{◌≡◌, ℕ, Bool, true, false, cond, ◌||◌, List, [], ◌∷◌, ◌++◌, refl, sym, ap, ◌∙◌, subst, inr}
use Rattle.std.specs.Prelude.{nat_le}
use Rattle.mdb_base.specs.declared.names.Tid.{Tid}
use Rattle.mdb_base.specs.Words.{Each, some_of}
use Rattle.fed_rules.specs.declared.records.SiteRecord.{SiteRecord}
use Rattle.fed_rules.specs.Disk.{Append, Call, CutBack, TrimFront, Disk, Stops, Sync, after_call, after_calls, bytes_of, whole}
use Rattle.fed_rules.specs.Runs as Runs
use Rattle.fed_rules.specs.Runs.{Access, EngineLine}
use Rattle.fed_rules.specs.SitePast.{SitePast, live}
use Rattle.fed_rules.specs.SiteRecords.{Home}
use Rattle.engine_laws.specs.Epochs.{Epoch}
use Rattle.fed_rules.proofs.ForCallers.{front_of_front}
use Rattle.fed_rules.specs.Durable.{IsFrontOf}
use Rattle.site_history.specs.Accesses.{acts_at, acts_of, seals}
use Rattle.site_history.specs.Records.{BindOnce, IsBound}
use Rattle.site_history.proofs.Backing.{IsBacked, backed_acts}
use Rattle.site_history.proofs.Records.{once_behind}

-- some epochs back the records
pub record HasBacking (home : Home) (acts : Tid → List Access) (records : List SiteRecord) : Type 0 where
  pub start : Runs.Start
  pub lines : List EngineLine
  pub earlier : List Epoch
  pub backed : IsBacked home acts records start lines earlier

-- so they do of the records, and of the ones behind each
abbrev pub AllBacked : Home → (Tid → List Access) → List SiteRecord → Type 0
AllBacked home acts [] = HasBacking home acts []
AllBacked home acts (newest ∷ records) = HasBacking home acts (newest ∷ records) × AllBacked home acts records

pub all_acts : (home : Home) (acts now : Tid → List Access) (records : List SiteRecord) → ((tid : Tid) → IsBound tid records → now tid ≡ acts tid)
    → AllBacked home acts records → AllBacked home now records
all_acts home acts now [] same h =
    record { start = h.start; lines = h.lines; earlier = h.earlier; backed = backed_acts home acts now [] h.start h.lines h.earlier same h.backed }
all_acts home acts now (newest ∷ records) same (h, rest) = (
  record {
    start = h.start;
    lines = h.lines;
    earlier = h.earlier;
    backed = backed_acts home acts now (newest ∷ records) h.start h.lines h.earlier same h.backed;
  },
  all_acts home acts now records (λ tid i. same tid (inr i)) rest,
)

pub first_backing : (home : Home) (acts : Tid → List Access) (records : List SiteRecord) → AllBacked home acts records → HasBacking home acts records
first_backing home acts [] h = h
first_backing home acts (newest ∷ records) h = h.0

-- what stands behind newer records
pub backed_front : (home : Home) (acts : Tid → List Access) (newer kept : List SiteRecord) → AllBacked home acts (newer ++ kept)
    → AllBacked home acts kept
backed_front home acts [] kept h = h
backed_front home acts (x ∷ newer) kept h = backed_front home acts newer kept h.1

pub each_front : (P : SiteRecord → Type 0) (newer kept : List SiteRecord) → Each P (newer ++ kept) → Each P kept
each_front P [] kept h = h
each_front P (x ∷ newer) kept h = each_front P newer kept h.1

pub once_front : (newer kept : List SiteRecord) → BindOnce (newer ++ kept) → BindOnce kept
once_front [] kept h = h
once_front (x ∷ newer) kept h = once_front newer kept (once_behind x (newer ++ kept) h)

-- the records with those that the calls append
abbrev pub appended : List (Call SiteRecord) → List SiteRecord → List SiteRecord
appended [] records = records
appended (Append newest ∷ calls) records = appended calls (newest ∷ records)
appended (call ∷ calls) records = appended calls records

-- the calls append nothing
abbrev pub AppendsNone : List (Call SiteRecord) → Type 0
AppendsNone [] = Unit {0}
AppendsNone (Append newest ∷ calls) = ⊥
AppendsNone (call ∷ calls) = AppendsNone calls

-- behind a stop nothing is appended
abbrev pub StopsLast : List (Call SiteRecord) → Type 0
StopsLast [] = Unit {0}
StopsLast (Stops cut ∷ calls) = AppendsNone calls
StopsLast (call ∷ calls) = StopsLast calls

pub appended_none : (calls : List (Call SiteRecord)) (records : List SiteRecord) → AppendsNone calls → appended calls records ≡ records
appended_none [] records h = refl
appended_none (Append newest ∷ calls) records h = elim h [ ]
appended_none (Sync ∷ calls) records h = appended_none calls records h
appended_none (CutBack ∷ calls) records h = appended_none calls records h
appended_none (TrimFront ∷ calls) records h = appended_none calls records h
appended_none (Stops cut ∷ calls) records h = appended_none calls records h

-- those that are whole are the oldest ones
whole_front : (size : SiteRecord → ℕ) (b : ℕ) (records : List SiteRecord) → IsFrontOf records (whole size b records)
whole_front size b [] = ([], refl)
whole_front size b (r ∷ rs) = by_test (nat_le (bytes_of size (r ∷ rs)) b) (whole_front size b rs)
  where
    by_test : (t : Bool) → IsFrontOf rs (whole size b rs) → IsFrontOf (r ∷ rs) (cond t (r ∷ rs) (whole size b rs))
    by_test true h = ([], refl)
    by_test false (newer, e) = (r ∷ newer, ap (λ xs. r ∷ xs) e)

-- what is on the disk after the calls are the oldest of the records with the appended ones
pub front_after : (size : SiteRecord → ℕ) (disk : Disk SiteRecord) (calls : List (Call SiteRecord)) → StopsLast calls
    → IsFrontOf (appended calls disk.records) (after_calls size disk calls).records
front_after size disk [] h = ([], refl)
front_after size disk (Append newest ∷ calls) h = front_after size (after_call size disk (Append newest)) calls h
front_after size disk (Sync ∷ calls) h = front_after size (after_call size disk Sync) calls h
front_after size disk (CutBack ∷ calls) h = front_after size (after_call size disk CutBack) calls h
front_after size disk (TrimFront ∷ calls) h = front_after size (after_call size disk TrimFront) calls h
front_after size disk (Stops cut ∷ calls) h =
    subst (λ rs. IsFrontOf rs (after_calls size (after_call size disk (Stops cut)) calls).records) (sym (appended_none calls disk.records h))
    (front_of_front disk.records (after_call size disk (Stops cut)).records (after_calls size (after_call size disk (Stops cut)) calls).records
    (whole_front size _ disk.records)
    (subst (λ rs. IsFrontOf rs (after_calls size (after_call size disk (Stops cut)) calls).records)
    (appended_none calls (after_call size disk (Stops cut)).records h)
    (front_after size (after_call size disk (Stops cut)) calls (stops_last calls h))))
  where
    stops_last : (cs : List (Call SiteRecord)) → AppendsNone cs → StopsLast cs
    stops_last [] h = tt
    stops_last (Append newest ∷ cs) h = elim h [ ]
    stops_last (Sync ∷ cs) h = stops_last cs h
    stops_last (CutBack ∷ cs) h = stops_last cs h
    stops_last (TrimFront ∷ cs) h = stops_last cs h
    stops_last (Stops cut ∷ cs) h = h

-- the accesses of attempts after a line with these calls
abbrev pub acts_after : Home → SitePast → List (Call SiteRecord) → Tid → List Access
acts_after home past calls tid = cond (some_of (seals tid) calls) (acts_of (live home past tid)) (acts_at home past tid)

pub seals_none : (tid : Tid) (calls : List (Call SiteRecord)) → AppendsNone calls → some_of (seals tid) calls ≡ false
seals_none tid [] h = refl
seals_none tid (Append newest ∷ calls) h = elim h [ ]
seals_none tid (Sync ∷ calls) h = seals_none tid calls h
seals_none tid (CutBack ∷ calls) h = seals_none tid calls h
seals_none tid (TrimFront ∷ calls) h = seals_none tid calls h
seals_none tid (Stops cut ∷ calls) h = seals_none tid calls h

-- only the first call appends
pub acts_first : (home : Home) (past : SitePast) (newest : SiteRecord) (rest more : List (Call SiteRecord)) (tid : Tid) → AppendsNone rest
    → AppendsNone more → acts_after home past (Append newest ∷ rest) tid ≡ acts_after home past (Append newest ∷ more) tid
acts_first home past newest rest more tid h k =
    ap (λ b. cond (seals tid (Append newest) || b) (acts_of (live home past tid)) (acts_at home past tid))
    (seals_none tid rest h ∙ sym (seals_none tid more k))
