-- What a start of a site restores agrees with its records.
use Rattle.std.proofs.Common.{◌≡◌, ℕ, ◌⊎◌, Bool, true, false, cond, Option, Some, None, List, [], ◌∷◌, map, take, zero, suc, refl, sym, ap, ◌∙◌, subst, inl, inr}
use Rattle.mdb_base.specs.declared.names.Tid.{Tid}
use Rattle.mdb_base.specs.Names.{same_tid, tid_before}
use Rattle.mdb_base.specs.Rising.{IsRising}
use Rattle.mdb_base.specs.Words.{Each, Among, found, with_some, map_some, inserted}
use Rattle.mdb_base.proofs.ForCallers.{before_itself, same_tid-equal, same_tid-refl}
use Rattle.fed_rules.specs.declared.records.SiteRecord.{SiteRecord}
use Rattle.fed_rules.specs.declared.records.SiteRecord.TheVariants.{Setup, Start, Prepared, Ended, Local, Checkpoint}
use Rattle.fed_rules.specs.Disk.{Disk, Call, Append, Sync, CutBack, TrimFront, Stops, whole, bytes_of, after_call, after_calls}
use Rattle.fed_rules.specs.Runs.{Run, restored, restored_at, run_at}
use Rattle.fed_rules.specs.Attempts.{each_attempt}
use Rattle.fed_rules.specs.SiteRecords.{Home, Held, doubt_of, prepared_tids, doubts, kept_held, start_of, by_tid, held_before}
use Rattle.engine_laws.proofs.ForCallers.{doubt_among, doubt_tid, puts_of_written}
use Rattle.site_history.specs.Lines.{Agrees}
use Rattle.std.specs.Prelude.{nat_le, min, ◌+◌, ◌++◌}
use Rattle.fed_rules.proofs.ForCallers.{in_each}

-- the writes of a Prepared record rise by their keys
abbrev pub HasRisingWrites : SiteRecord → Type 0
HasRisingWrites (Prepared tid epoch number ticket writes) = IsRising (λ put. put.key.0) writes
HasRisingWrites record_of_another_kind = Unit {0}

-- the writes of the one in doubt rise
pub doubt_rising : (records : List SiteRecord) (tid : Tid) (held : Held) → Each HasRisingWrites records → doubt_of records tid ≡ Some held
    → IsRising (λ put. put.key.0) held.writes
doubt_rising [] tid held rising e = cc
doubt_rising (Prepared prepared epoch number ticket writes ∷ records) tid held rising e =
    by_test (same_tid prepared tid) e (doubt_rising records tid held rising.1)
  where
    by_test : (b : Bool)
        → cond b (Some (record { tid = prepared; epoch = epoch; number = number; ticket = ticket; writes = writes })) (doubt_of records tid) ≡ Some held
        → (doubt_of records tid ≡ Some held → IsRising (λ put. put.key.0) held.writes) → IsRising (λ put. put.key.0) held.writes
    by_test true e rest =
        let here : Held = record { tid = prepared; epoch = epoch; number = number; ticket = ticket; writes = writes } in
        let same : here ≡ held = cc in
        subst (λ puts. IsRising (λ put. put.key.0) puts) (ap (λ h. h.writes) same) rising.0
    by_test false e rest = rest e
doubt_rising (Ended ended decision ∷ records) tid held rising e = by_test (same_tid ended tid) e (doubt_rising records tid held rising.1)
  where
    by_test : (b : Bool) → cond b None (doubt_of records tid) ≡ Some held
        → (doubt_of records tid ≡ Some held → IsRising (λ put. put.key.0) held.writes) → IsRising (λ put. put.key.0) held.writes
    by_test true e rest = cc
    by_test false e rest = rest e
doubt_rising (Setup site engine protocol items ∷ records) tid held rising e = doubt_rising records tid held rising.1 e
doubt_rising (Checkpoint sum ∷ records) tid held rising e = doubt_rising records tid held rising.1 e
doubt_rising (Start epoch ∷ records) tid held rising e = doubt_rising records tid held rising.1 e
doubt_rising (Local local number writes ∷ records) tid held rising e = doubt_rising records tid held rising.1 e

abbrev pub restored_held : Option Held → Option Run
restored_held held = map_some (λ h. restored (kept_held h)) held

-- the restored run of an attempt is that of its record, whichever attempts are looked up beside it
restored_found : (records : List SiteRecord) (tids : List Tid) (tid : Tid)
    → Among (λ u. u ≡ tid) tids ⊎ (doubt_of records tid ≡ None)
    → restored_at (map kept_held (found (doubt_of records) tids)) tid ≡ restored_held (doubt_of records tid)
restored_found records [] tid (inl a) = elim a [ ]
restored_found records [] tid (inr none) = sym (ap restored_held none)
restored_found records (u ∷ tids) tid among =
    by_held among (restored_found records tids tid) (doubt_of records u) refl
  where
    rest : Among (λ v. v ≡ tid) (u ∷ tids) ⊎ (doubt_of records tid ≡ None)
        → (Among (λ v. v ≡ tid) tids ⊎ (doubt_of records tid ≡ None)
        → restored_at (map kept_held (found (doubt_of records) tids)) tid ≡ restored_held (doubt_of records tid))
        → same_tid u tid ≡ false → restored_at (map kept_held (found (doubt_of records) tids)) tid ≡ restored_held (doubt_of records tid)
    rest (inl (inl same)) k apart = let one : same_tid u tid ≡ true = subst (λ v. same_tid u v ≡ true) same (same_tid-refl u) in cc
    rest (inl (inr more)) k apart = k (inl more)
    rest (inr none) k apart = k (inr none)

    by_held : Among (λ v. v ≡ tid) (u ∷ tids) ⊎ (doubt_of records tid ≡ None)
        → (Among (λ v. v ≡ tid) tids ⊎ (doubt_of records tid ≡ None)
        → restored_at (map kept_held (found (doubt_of records) tids)) tid ≡ restored_held (doubt_of records tid))
        → (o : Option Held) → doubt_of records u ≡ o
        → restored_at (map kept_held (with_some o (found (doubt_of records) tids))) tid ≡ restored_held (doubt_of records tid)
    by_held a k None is = by_test (same_tid u tid) refl
      where
        by_test : (b : Bool) → same_tid u tid ≡ b
            → restored_at (map kept_held (found (doubt_of records) tids)) tid ≡ restored_held (doubt_of records tid)
        by_test true same = k (inr (sym (ap (doubt_of records) (same_tid-equal u tid same)) ∙ is))
        by_test false apart = rest a k apart
    by_held a k (Some held) is = by_test (same_tid held.tid tid) refl
      where
        of_u : held.tid ≡ u
        of_u = doubt_tid records u held is

        by_test : (b : Bool) → same_tid held.tid tid ≡ b
            → cond b (Some (restored (kept_held held))) (restored_at (map kept_held (found (doubt_of records) tids)) tid)
            ≡ restored_held (doubt_of records tid)
        by_test true same =
            sym (ap restored_held (sym (ap (doubt_of records) (sym of_u ∙ same_tid-equal held.tid tid same)) ∙ is))
        by_test false apart = rest a k (ap (λ v. same_tid v tid) (sym of_u) ∙ apart)

-- one more of another place among those by rising attempt is found as one more before them
restored_inserted : (held : Held) (more : List Held) (tid : Tid)
    → restored_at (map kept_held (inserted held_before held more)) tid ≡ restored_at (map kept_held (held ∷ more)) tid
restored_inserted held [] tid = refl
restored_inserted held (y ∷ more) tid = by_before (held_before y held) refl (restored_inserted held more tid)
  where
    swap : (a b : Bool) → same_tid held.tid tid ≡ a → same_tid y.tid tid ≡ b → held_before y held ≡ true
        → restored_at (map kept_held (inserted held_before held more)) tid
        ≡ cond a (Some (restored (kept_held held))) (restored_at (map kept_held more) tid)
        → cond b (Some (restored (kept_held y))) (restored_at (map kept_held (inserted held_before held more)) tid)
        ≡ cond a (Some (restored (kept_held held))) (cond b (Some (restored (kept_held y))) (restored_at (map kept_held more) tid))
    swap true true is_a is_b first rest =
        let same : y.tid ≡ held.tid = same_tid-equal y.tid tid is_b ∙ sym (same_tid-equal held.tid tid is_a) in
        let never : tid_before held.tid held.tid ≡ true = subst (λ t. tid_before t held.tid ≡ true) same first in
        let clash = sym (before_itself held.tid) ∙ never in cc
    swap true false is_a is_b first rest = rest
    swap false true is_a is_b first rest = refl
    swap false false is_a is_b first rest = rest

    by_before : (c : Bool) → held_before y held ≡ c
        → restored_at (map kept_held (inserted held_before held more)) tid ≡ restored_at (map kept_held (held ∷ more)) tid
        → restored_at (map kept_held (cond c (y ∷ inserted held_before held more) (held ∷ y ∷ more))) tid
        ≡ restored_at (map kept_held (held ∷ y ∷ more)) tid
    by_before true first rest = swap (same_tid held.tid tid) (same_tid y.tid tid) refl refl first rest
    by_before false first rest = refl

restored_by_tid : (helds : List Held) (tid : Tid) → restored_at (map kept_held (by_tid helds)) tid ≡ restored_at (map kept_held helds) tid
restored_by_tid [] tid = refl
restored_by_tid (held ∷ helds) tid =
    restored_inserted held (by_tid helds) tid
    ∙ ap (λ o. cond (same_tid held.tid tid) (Some (restored (kept_held held))) o) (restored_by_tid helds tid)

pub restored_doubt : (records : List SiteRecord) (tid : Tid) → restored_at (map kept_held (doubts records)) tid ≡ restored_held (doubt_of records tid)
restored_doubt records tid =
    restored_by_tid (found (doubt_of records) (each_attempt (prepared_tids records))) tid
    ∙ restored_found records (each_attempt (prepared_tids records)) tid
    (elim (doubt_among records tid) [ inl among ↦ inl (in_each (prepared_tids records) tid among) | inr none ↦ inr none ])

agrees_restored : (o : Option Held) → ((held : Held) → o ≡ Some held → IsRising (λ put. put.key.0) held.writes) → Agrees o (restored_held o)
agrees_restored None rising = tt
agrees_restored (Some held) rising = (refl, refl, sym (puts_of_written held.writes (rising held refl)))

-- at a start each sealed run is the one of a record in doubt
pub start_agrees : (home : Home) (records : List SiteRecord) → Each HasRisingWrites records → (tid : Tid)
    → Agrees (doubt_of records tid) (run_at (start_of home records) [] tid)
start_agrees home records rising tid =
    subst (Agrees (doubt_of records tid)) (sym (restored_doubt records tid))
    (agrees_restored (doubt_of records tid) (λ held. doubt_rising records tid held rising))

-- what holds of each record that is appended
abbrev pub EachAppend : {R : Type 0} → (R → Type 0) → List (Call R) → Type 0
EachAppend P [] = Unit {0}
EachAppend P (Append r ∷ calls) = P r × EachAppend P calls
EachAppend P (call ∷ calls) = EachAppend P calls

pub each_whole : {R : Type 0} (size : R → ℕ) (P : R → Type 0) (b : ℕ) (rs : List R) → Each P rs → Each P (whole size b rs)
each_whole size P b [] h = tt
each_whole size P b (r ∷ rs) h = by_test (nat_le (bytes_of size (r ∷ rs)) b) (each_whole size P b rs h.1)
  where
    by_test : (t : Bool) → Each P (whole size b rs) → Each P (cond t (r ∷ rs) (whole size b rs))
    by_test true rest = h
    by_test false rest = rest

-- what holds of each record of a disk and of each one that is appended holds after the calls
pub each_after : {R : Type 0} (size : R → ℕ) (P : R → Type 0) (d : Disk R) (calls : List (Call R)) → Each P d.records → EachAppend P calls
    → Each P (after_calls size d calls).records
each_after size P d [] h a = h
each_after size P d (Append r ∷ calls) h a = each_after size P (after_call size d (Append r)) calls (a.0, h) a.1
each_after size P d (Sync ∷ calls) h a = each_after size P (after_call size d Sync) calls h a
each_after size P d (CutBack ∷ calls) h a = each_after size P (after_call size d CutBack) calls h a
each_after size P d (TrimFront ∷ calls) h a = each_after size P (after_call size d TrimFront) calls h a
each_after size P d (Stops cut ∷ calls) h a =
    each_after size P (after_call size d (Stops cut)) calls (each_whole size P (min d.length (d.synced + cut)) d.records h) a

pub append_take : {R : Type 0} (P : R → Type 0) (n : ℕ) (calls more : List (Call R)) → EachAppend P calls → EachAppend P more
    → EachAppend P (take n calls ++ more)
append_take P zero calls more a m = m
append_take P (suc n) [] more a m = m
append_take P (suc n) (Append r ∷ calls) more a m = (a.0, append_take P n calls more a.1 m)
append_take P (suc n) (Sync ∷ calls) more a m = append_take P n calls more a m
append_take P (suc n) (CutBack ∷ calls) more a m = append_take P n calls more a m
append_take P (suc n) (TrimFront ∷ calls) more a m = append_take P n calls more a m
append_take P (suc n) (Stops cut ∷ calls) more a m = append_take P n calls more a m
