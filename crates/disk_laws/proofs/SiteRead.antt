-- What a site's journal is read as, where a Checkpoint stands for what was trimmed: those in doubt are the same, and what is installed was installed.
use Rattle.std.proofs.Common.{◌≡◌, ℕ, Option, Some, None, List, [], ◌∷◌, ◌++◌, map, refl, sym, ap, subst, ◌∙◌}
use Rattle.std.specs.Prelude.{nat_lt}
use Rattle.mdb_base.specs.declared.names.Tid.{Tid}
use Rattle.mdb_base.specs.Words.{Each}
use Rattle.mdb_base.proofs.ForCallers.{append_nil, each_inserted}
use Rattle.presumptions.specs.declared.Decision.TheVariants as Decided
use Rattle.fed_rules.specs.declared.records.SiteRecord.{SiteRecord}
use Rattle.fed_rules.specs.declared.records.SiteRecord.TheVariants.{Setup, Start, Prepared, Ended, Local, Checkpoint}
use Rattle.fed_rules.specs.declared.sums.SiteSum.{SiteSum}
use Rattle.fed_rules.specs.Reopened.{local_read}
use Rattle.fed_rules.specs.SiteRecords.{Held, Home, Install, doubt_of, doubts, install_held, installs}
use Rattle.fed_rules.specs.SiteSums.{carried, site_sum}
use Rattle.fed_rules.specs.Usable.{counted}
use Rattle.site_history.proofs.ForCallers.{carried_same, doubt_behind, doubts_alike, foundation, locals_undoubted, unsorted}

-- what counts of a first Checkpoint
abbrev pub counts_as : SiteSum → List SiteRecord
counts_as sum = carried sum.doubtful ++ map (local_read sum.counter) sum.locals

pub count_behind : (newer : List SiteRecord) (sum : SiteSum) → counted (newer ++ Checkpoint sum ∷ []) ≡ newer ++ counts_as sum
count_behind [] sum = refl
count_behind (Checkpoint s ∷ []) sum = refl
count_behind (Checkpoint s ∷ r ∷ newer) sum = ap (λ xs. Checkpoint s ∷ xs) (count_behind (r ∷ newer) sum)
count_behind (Setup site engine protocol items ∷ newer) sum = ap (λ xs. Setup site engine protocol items ∷ xs) (count_behind newer sum)
count_behind (Start e ∷ newer) sum = ap (λ xs. Start e ∷ xs) (count_behind newer sum)
count_behind (Prepared t e n k w ∷ newer) sum = ap (λ xs. Prepared t e n k w ∷ xs) (count_behind newer sum)
count_behind (Ended t d ∷ newer) sum = ap (λ xs. Ended t d ∷ xs) (count_behind newer sum)
count_behind (Local t n w ∷ newer) sum = ap (λ xs. Local t n w ∷ xs) (count_behind newer sum)

pub count_founded : (home : Home) (newer : List SiteRecord) → counted (newer ++ foundation home) ≡ newer ++ foundation home
count_founded home [] = refl
count_founded home (Checkpoint s ∷ []) = refl
count_founded home (Checkpoint s ∷ r ∷ newer) = ap (λ xs. Checkpoint s ∷ xs) (count_founded home (r ∷ newer))
count_founded home (Setup site engine protocol items ∷ newer) = ap (λ xs. Setup site engine protocol items ∷ xs) (count_founded home newer)
count_founded home (Start e ∷ newer) = ap (λ xs. Start e ∷ xs) (count_founded home newer)
count_founded home (Prepared t e n k w ∷ newer) = ap (λ xs. Prepared t e n k w ∷ xs) (count_founded home newer)
count_founded home (Ended t d ∷ newer) = ap (λ xs. Ended t d ∷ xs) (count_founded home newer)
count_founded home (Local t n w ∷ newer) = ap (λ xs. Local t n w ∷ xs) (count_founded home newer)

same_doubt : (home : Home) (before : List SiteRecord) (tid : Tid) → doubt_of (counts_as (site_sum home before)) tid ≡ doubt_of (Checkpoint (site_sum home before) ∷ before) tid
same_doubt home before tid =
    let sum = site_sum home before in
    let none : List SiteRecord = [] in
    doubt_behind (carried sum.doubtful) none (map (local_read sum.counter) sum.locals) (λ t. locals_undoubted sum.counter sum.locals t) tid
    ∙ ap (λ rs. doubt_of rs tid) (append_nil (carried sum.doubtful))
    ∙ carried_same before tid

pub doubt_read : (home : Home) (newer before : List SiteRecord) (tid : Tid)
    → doubt_of (newer ++ counts_as (site_sum home before)) tid ≡ doubt_of (newer ++ Checkpoint (site_sum home before) ∷ before) tid
doubt_read home newer before tid =
    doubt_behind newer (Checkpoint (site_sum home before) ∷ before) (counts_as (site_sum home before)) (same_doubt home before) tid

pub doubts_read : (home : Home) (newer before : List SiteRecord)
    → doubts (newer ++ counts_as (site_sum home before)) ≡ doubts (newer ++ Checkpoint (site_sum home before) ∷ before)
doubts_read home newer before =
    doubts_alike (newer ++ counts_as (site_sum home before)) (newer ++ Checkpoint (site_sum home before) ∷ before) (doubt_read home newer before)

-- what is installed behind others is installed behind these, or by them
fewer : (P : Install → Type 0) (newer older others : List SiteRecord) → ((tid : Tid) → doubt_of others tid ≡ doubt_of older tid)
    → Each P (installs others) → Each P (installs (newer ++ older)) → Each P (installs (newer ++ others))
fewer P [] older others same own h = own
fewer P (Local t n writes ∷ newer) older others same own h =
    let r = unsorted P (record { tid = t; number = n; writes = writes }) (installs (newer ++ older)) h in
    each_inserted P (λ (a b : Install). nat_lt b.number a.number) (record { tid = t; number = n; writes = writes }) (installs (newer ++ others)) r.0 (fewer P newer older others same own r.1)
fewer P (Ended t Decided.Commit ∷ newer) older others same own h =
    subst (λ o. Each P (install_held o (installs (newer ++ others)))) (sym (doubt_behind newer older others same t))
    (by_held (doubt_of (newer ++ older) t) h (fewer P newer older others same own))
  where
    by_held : (o : Option Held) → Each P (install_held o (installs (newer ++ older)))
        → (Each P (installs (newer ++ older)) → Each P (installs (newer ++ others))) → Each P (install_held o (installs (newer ++ others)))
    by_held None h k = k h
    by_held (Some held) h k =
        let i : Install = record { tid = held.tid; number = held.number; writes = held.writes } in
        let r = unsorted P i (installs (newer ++ older)) h in
        each_inserted P (λ (a b : Install). nat_lt b.number a.number) i (installs (newer ++ others)) r.0 (k r.1)
fewer P (Ended t Decided.Abort ∷ newer) older others same own h = fewer P newer older others same own h
fewer P (Prepared t e n ticket writes ∷ newer) older others same own h = fewer P newer older others same own h
fewer P (Start n ∷ newer) older others same own h = fewer P newer older others same own h
fewer P (Setup site engine protocol items ∷ newer) older others same own h = fewer P newer older others same own h
fewer P (Checkpoint sum ∷ newer) older others same own h = fewer P newer older others same own h

-- a first Checkpoint installs local ones without writes
blank_installs : (P : Install → Type 0) → ((tid : Tid) (n : ℕ) → P (record { tid = tid; number = n; writes = [] })) → (n : ℕ) (helds : List Held) (tids : List Tid)
    → Each P (installs (carried helds ++ map (local_read n) tids))
blank_installs P blank n (held ∷ helds) tids = blank_installs P blank n helds tids
blank_installs P blank n [] [] = tt
blank_installs P blank n [] (t ∷ tids) =
    each_inserted P (λ (a b : Install). nat_lt b.number a.number) (record { tid = t; number = n; writes = [] }) (installs (map (local_read n) tids)) (blank t n)
    (blank_installs P blank n [] tids)

pub installs_read : (home : Home) (P : Install → Type 0) → ((tid : Tid) (n : ℕ) → P (record { tid = tid; number = n; writes = [] })) → (newer before : List SiteRecord)
    → Each P (installs (newer ++ Checkpoint (site_sum home before) ∷ before)) → Each P (installs (newer ++ counts_as (site_sum home before)))
installs_read home P blank newer before all =
    let sum = site_sum home before in
    fewer P newer (Checkpoint sum ∷ before) (counts_as sum) (same_doubt home before) (blank_installs P blank sum.counter sum.doubtful sum.locals) all

-- these count, or all records
pub data Counts (home : Home) (rs js : List SiteRecord) : Type 0 where
  Whole : (newer : List SiteRecord) → rs ≡ newer ++ foundation home → js ≡ newer ++ foundation home → Counts home rs js
  Behind : (newer before : List SiteRecord) → rs ≡ newer ++ Checkpoint (site_sum home before) ∷ before
      → js ≡ newer ++ Checkpoint (site_sum home before) ∷ [] → Counts home rs js
