-- No local transaction is recorded twice: so it stays behind disk calls that record none again, and behind a stop.
use Rattle.std.proofs.Common.{◌≡◌, ℕ, zero, suc, ◌+◌, leb, min, Bool, true, false, cond, None, List, [], ◌∷◌, ◌++◌, take, refl, sym, subst}
use Rattle.fed_rules.specs.declared.records.SiteRecord.{SiteRecord}
use Rattle.fed_rules.specs.declared.records.SiteRecord.TheVariants as Rec
use Rattle.fed_rules.specs.Disk.{Call, Append, Sync, CutBack, TrimFront, Stops, Disk, after_call, after_calls, bytes_of, whole}
use Rattle.fed_rules.specs.SiteRecords.{local_of, site_frame}
use Rattle.site_core.specs.Recovered.{LocalsOnce}

-- a Local record is appended where none of its transaction is kept
abbrev pub AppendsOnce : Disk SiteRecord → List (Call SiteRecord) → Type 0
AppendsOnce rules [] = Unit {0}
AppendsOnce rules (Append (Rec.Local tid number writes) ∷ calls) = (local_of rules.records tid.tx ≡ None) × AppendsOnce (after_call site_frame rules (Append (Rec.Local tid number writes))) calls
AppendsOnce rules (call ∷ calls) = AppendsOnce (after_call site_frame rules call) calls

once_before : (newest : SiteRecord) (records : List SiteRecord) → LocalsOnce (newest ∷ records) → LocalsOnce records
once_before (Rec.Setup site engine protocol items) records o = o
once_before (Rec.Start epoch) records o = o
once_before (Rec.Prepared tid epoch number ticket writes) records o = o
once_before (Rec.Ended tid decision) records o = o
once_before (Rec.Local tid number writes) records o = o.1
once_before (Rec.Checkpoint sum) records o = o

pub once_whole : (n : ℕ) (records : List SiteRecord) → LocalsOnce records → LocalsOnce (whole site_frame n records)
once_whole n [] o = tt
once_whole n (newest ∷ records) o = by_test (leb (bytes_of site_frame (newest ∷ records)) n) (once_whole n records (once_before newest records o)) where
  by_test : (t : Bool) → LocalsOnce (whole site_frame n records) → LocalsOnce (cond t (newest ∷ records) (whole site_frame n records))
  by_test true rest = o
  by_test false rest = rest

pub once_calls : (rules : Disk SiteRecord) (calls : List (Call SiteRecord)) → AppendsOnce rules calls → LocalsOnce rules.records → LocalsOnce (after_calls site_frame rules calls).records
once_calls rules [] fits o = o
once_calls rules (Append (Rec.Setup site engine protocol items) ∷ calls) fits o = once_calls (after_call site_frame rules (Append (Rec.Setup site engine protocol items))) calls fits o
once_calls rules (Append (Rec.Start epoch) ∷ calls) fits o = once_calls (after_call site_frame rules (Append (Rec.Start epoch))) calls fits o
once_calls rules (Append (Rec.Prepared tid epoch number ticket writes) ∷ calls) fits o = once_calls (after_call site_frame rules (Append (Rec.Prepared tid epoch number ticket writes))) calls fits o
once_calls rules (Append (Rec.Ended tid decision) ∷ calls) fits o = once_calls (after_call site_frame rules (Append (Rec.Ended tid decision))) calls fits o
once_calls rules (Append (Rec.Local tid number writes) ∷ calls) fits o = once_calls (after_call site_frame rules (Append (Rec.Local tid number writes))) calls fits.1 (fits.0, o)
once_calls rules (Append (Rec.Checkpoint sum) ∷ calls) fits o = once_calls (after_call site_frame rules (Append (Rec.Checkpoint sum))) calls fits o
once_calls rules (Sync ∷ calls) fits o = once_calls (after_call site_frame rules Sync) calls fits o
once_calls rules (CutBack ∷ calls) fits o = once_calls (after_call site_frame rules CutBack) calls fits o
once_calls rules (TrimFront ∷ calls) fits o = once_calls (after_call site_frame rules TrimFront) calls fits o
once_calls rules (Stops cut ∷ calls) fits o = once_calls (after_call site_frame rules (Stops cut)) calls fits (once_whole (min rules.length (rules.synced + cut)) rules.records o)

-- the first of these calls and a stop
first_fit : (rules : Disk SiteRecord) (n cut : ℕ) (calls : List (Call SiteRecord)) → AppendsOnce rules calls → AppendsOnce rules (take n calls ++ Stops cut ∷ [])
first_fit rules zero cut calls fits = tt
first_fit rules (suc n) cut [] fits = tt
first_fit rules (suc n) cut (Append (Rec.Setup site engine protocol items) ∷ calls) fits = first_fit (after_call site_frame rules (Append (Rec.Setup site engine protocol items))) n cut calls fits
first_fit rules (suc n) cut (Append (Rec.Start epoch) ∷ calls) fits = first_fit (after_call site_frame rules (Append (Rec.Start epoch))) n cut calls fits
first_fit rules (suc n) cut (Append (Rec.Prepared tid epoch number ticket writes) ∷ calls) fits = first_fit (after_call site_frame rules (Append (Rec.Prepared tid epoch number ticket writes))) n cut calls fits
first_fit rules (suc n) cut (Append (Rec.Ended tid decision) ∷ calls) fits = first_fit (after_call site_frame rules (Append (Rec.Ended tid decision))) n cut calls fits
first_fit rules (suc n) cut (Append (Rec.Local tid number writes) ∷ calls) fits = (fits.0, first_fit (after_call site_frame rules (Append (Rec.Local tid number writes))) n cut calls fits.1)
first_fit rules (suc n) cut (Append (Rec.Checkpoint sum) ∷ calls) fits = first_fit (after_call site_frame rules (Append (Rec.Checkpoint sum))) n cut calls fits
first_fit rules (suc n) cut (Sync ∷ calls) fits = first_fit (after_call site_frame rules Sync) n cut calls fits
first_fit rules (suc n) cut (CutBack ∷ calls) fits = first_fit (after_call site_frame rules CutBack) n cut calls fits
first_fit rules (suc n) cut (TrimFront ∷ calls) fits = first_fit (after_call site_frame rules TrimFront) n cut calls fits
first_fit rules (suc n) cut (Stops c ∷ calls) fits = first_fit (after_call site_frame rules (Stops c)) n cut calls fits

pub once_stopped : (rules : Disk SiteRecord) (n cut : ℕ) (calls : List (Call SiteRecord)) → AppendsOnce rules calls → LocalsOnce rules.records
    → LocalsOnce (after_calls site_frame rules (take n calls ++ Stops cut ∷ [])).records
once_stopped rules n cut calls fits o = once_calls rules (take n calls ++ Stops cut ∷ []) (first_fit rules n cut calls fits) o
