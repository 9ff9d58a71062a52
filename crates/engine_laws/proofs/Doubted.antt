-- Who is in doubt by the records of a site, and who is listed.
use Rattle.std.proofs.Common.{◌≡◌, ◌⊎◌, Bool, true, false, cond, Some, None, List, [], ◌∷◌, map, refl, sym, ap, ◌∙◌, inl, inr}
use Rattle.mdb_base.specs.declared.names.Tid.{Tid}
use Rattle.mdb_base.specs.Names.{same_tid}
use Rattle.mdb_base.specs.Words.{Each, Among, found}
use Rattle.mdb_base.proofs.ForCallers.{each_inserted, each_of_mapped, same_tid-equal}
use Rattle.order_laws.specs.Chains.{In}
use Rattle.order_laws.proofs.ForCallers.{each_found_from, found_there}
use Rattle.fed_rules.specs.declared.records.SiteRecord.{SiteRecord}
use Rattle.fed_rules.specs.declared.records.SiteRecord.TheVariants.{Setup, Start, Prepared, Ended, Local, Checkpoint}
use Rattle.fed_rules.specs.declared.runs.Kept.{Kept}
use Rattle.fed_rules.specs.Attempts.{each_attempt}
use Rattle.fed_rules.specs.SiteRecords.{Held, doubt_of, prepared_tids, doubts, kept_held, by_tid, held_before}
use Rattle.fed_rules.proofs.ForCallers.{in_each, in_sorted}

-- the one in doubt is of the attempt
pub doubt_tid : (records : List SiteRecord) (tid : Tid) (held : Held) → doubt_of records tid ≡ Some held → held.tid ≡ tid
doubt_tid [] tid held e = cc
doubt_tid (Prepared prepared epoch number ticket writes ∷ records) tid held e =
    by_test (same_tid prepared tid) refl e (doubt_tid records tid held)
  where
    by_test : (b : Bool) → same_tid prepared tid ≡ b
        → cond b (Some (record { tid = prepared; epoch = epoch; number = number; ticket = ticket; writes = writes })) (doubt_of records tid) ≡ Some held
        → (doubt_of records tid ≡ Some held → held.tid ≡ tid) → held.tid ≡ tid
    by_test true is e rest =
        let here : Held = record { tid = prepared; epoch = epoch; number = number; ticket = ticket; writes = writes } in
        let same : here ≡ held = cc in
        sym (ap (λ h. h.tid) same) ∙ same_tid-equal prepared tid is
    by_test false is e rest = rest e
doubt_tid (Ended ended decision ∷ records) tid held e = by_test (same_tid ended tid) e (doubt_tid records tid held)
  where
    by_test : (b : Bool) → cond b None (doubt_of records tid) ≡ Some held → (doubt_of records tid ≡ Some held → held.tid ≡ tid) → held.tid ≡ tid
    by_test true e rest = cc
    by_test false e rest = rest e
doubt_tid (Setup site engine protocol items ∷ records) tid held e = doubt_tid records tid held e
doubt_tid (Checkpoint sum ∷ records) tid held e = doubt_tid records tid held e
doubt_tid (Start epoch ∷ records) tid held e = doubt_tid records tid held e
doubt_tid (Local local number writes ∷ records) tid held e = doubt_tid records tid held e

-- who is in doubt has a Prepared record
pub doubt_among : (records : List SiteRecord) (tid : Tid) → Among (λ u. u ≡ tid) (prepared_tids records) ⊎ (doubt_of records tid ≡ None)
doubt_among [] tid = inr refl
doubt_among (Prepared prepared epoch number ticket writes ∷ records) tid = by_test (same_tid prepared tid) refl (doubt_among records tid)
  where
    by_test : (b : Bool) → same_tid prepared tid ≡ b → Among (λ u. u ≡ tid) (prepared_tids records) ⊎ (doubt_of records tid ≡ None)
        → ((prepared ≡ tid) ⊎ Among (λ u. u ≡ tid) (prepared_tids records))
        ⊎ (cond b (Some (record { tid = prepared; epoch = epoch; number = number; ticket = ticket; writes = writes })) (doubt_of records tid) ≡ None)
    by_test true is rest = inl (inl (same_tid-equal prepared tid is))
    by_test false is (inl among) = inl (inr among)
    by_test false is (inr none) = inr none
doubt_among (Ended ended decision ∷ records) tid = by_test (same_tid ended tid) (doubt_among records tid)
  where
    by_test : (b : Bool) → Among (λ u. u ≡ tid) (prepared_tids records) ⊎ (doubt_of records tid ≡ None)
        → Among (λ u. u ≡ tid) (prepared_tids records) ⊎ (cond b None (doubt_of records tid) ≡ None)
    by_test true rest = inr refl
    by_test false rest = rest
doubt_among (Setup site engine protocol items ∷ records) tid = doubt_among records tid
doubt_among (Checkpoint sum ∷ records) tid = doubt_among records tid
doubt_among (Start epoch ∷ records) tid = doubt_among records tid
doubt_among (Local local number writes ∷ records) tid = doubt_among records tid

-- what is in doubt is listed among the doubts
pub are_doubt : (rs : List SiteRecord) (h : Held) → doubt_of rs h.tid ≡ Some h → In h (doubts rs)
are_doubt rs h e =
    in_sorted h (found (doubt_of rs) (each_attempt (prepared_tids rs)))
    (found_there (doubt_of rs) h.tid h (each_attempt (prepared_tids rs)) (in_each (prepared_tids rs) h.tid (by_record (doubt_among rs h.tid))) e)
  where
    by_record : In h.tid (prepared_tids rs) ⊎ (doubt_of rs h.tid ≡ None) → In h.tid (prepared_tids rs)
    by_record (inl among) = among
    by_record (inr none) = cc

pub each_by_tid : (P : Held → Type 0) (helds : List Held) → Each P helds → Each P (by_tid helds)
each_by_tid P [] h = tt
each_by_tid P (held ∷ helds) h = each_inserted P held_before held (by_tid helds) h.0 (each_by_tid P helds h.1)

-- a fact of each of those in doubt
pub each_doubt : (P : Kept → Type 0) (records : List SiteRecord)
    → ((tid : Tid) (held : Held) → doubt_of records tid ≡ Some held → P (kept_held held)) → Each P (map kept_held (doubts records))
each_doubt P records f =
    each_of_mapped P kept_held (doubts records)
    (each_by_tid (λ held. P (kept_held held)) (found (doubt_of records) (each_attempt (prepared_tids records)))
    (each_found_from (λ held. P (kept_held held)) (doubt_of records) (each_attempt (prepared_tids records)) (λ tid held i e. f tid held e)))
