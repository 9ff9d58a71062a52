-- No attempt is in doubt twice.
use Rattle.std.proofs.Common.{◌≡◌, Bool, true, false, cond, Option, Some, None, List, [], ◌∷◌, map, refl, sym, ◌∙◌, subst}
use Rattle.mdb_base.specs.declared.names.Tid.{Tid}
use Rattle.mdb_base.specs.Names.{same_tid}
use Rattle.mdb_base.specs.Words.{Each, found, with_some, inserted}
use Rattle.mdb_base.proofs.ForCallers.{each_inserted, each_of_mapped, same_tid-equal, same_tid-sym}
use Rattle.order_laws.specs.Chains.{In, Distinct}
use Rattle.order_laws.proofs.ForCallers.{each_found_from}
use Rattle.fed_rules.specs.declared.records.SiteRecord.{SiteRecord}
use Rattle.fed_rules.specs.declared.runs.Kept.{Kept}
use Rattle.fed_rules.specs.Attempts.{each_attempt}
use Rattle.fed_rules.specs.SiteRecords.{Held, doubt_of, prepared_tids, doubts, kept_held, by_tid, held_before}
use Rattle.fed_rules.proofs.ForCallers.{each_distinct}
use Rattle.engine_laws.specs.Laws.{EachOnce}
use Rattle.engine_laws.proofs.Doubted.{doubt_tid, each_by_tid}

once_found : (records : List SiteRecord) (tids : List Tid) → Distinct tids → EachOnce (map kept_held (found (doubt_of records) tids))
once_found records [] apart = tt
once_found records (u ∷ us) apart = by_held (doubt_of records u) refl (once_found records us apart.1)
  where
    by_held : (o : Option Held) → doubt_of records u ≡ o → EachOnce (map kept_held (found (doubt_of records) us))
        → EachOnce (map kept_held (with_some o (found (doubt_of records) us)))
    by_held None is rest = rest
    by_held (Some held) is rest = (
      each_of_mapped (λ other. same_tid held.tid other.tid ≡ false) kept_held (found (doubt_of records) us)
          (each_found_from (λ other. same_tid held.tid other.tid ≡ false) (doubt_of records) us
          (λ v other i e. by_test v other i e (same_tid held.tid other.tid) refl)),
      rest,
    )
      where
        by_test : (v : Tid) (other : Held) → In v us → doubt_of records v ≡ Some other → (b : Bool) → same_tid held.tid other.tid ≡ b → b ≡ false
        by_test v other i e true same =
            let one : v ≡ u = sym (doubt_tid records v other e) ∙ sym (same_tid-equal held.tid other.tid same) ∙ doubt_tid records u held is in
            absurd (apart.0 (subst (λ t. In t us) one i))
        by_test v other i e false same = refl

pub each_held : (P : Kept → Type 0) (helds : List Held) → Each P (map kept_held helds) → Each (λ held. P (kept_held held)) helds
each_held P [] h = tt
each_held P (held ∷ helds) h = (h.0, each_held P helds h.1)

once_inserted : (held : Held) (more : List Held) → Each (λ other. same_tid held.tid other.tid ≡ false) more → EachOnce (map kept_held more)
    → EachOnce (map kept_held (inserted held_before held more))
once_inserted held [] apart once = (tt, tt)
once_inserted held (y ∷ more) apart once = by_before (held_before y held) (once_inserted held more apart.1 once.1)
  where
    by_before : (c : Bool) → EachOnce (map kept_held (inserted held_before held more))
        → EachOnce (map kept_held (cond c (y ∷ inserted held_before held more) (held ∷ y ∷ more)))
    by_before true rest = (
      each_of_mapped (λ other. same_tid y.tid other.tid ≡ false) kept_held (inserted held_before held more)
          (each_inserted (λ other. same_tid y.tid other.tid ≡ false) held_before held more (same_tid-sym y.tid held.tid ∙ apart.0)
          (each_held (λ other. same_tid y.tid other.tid ≡ false) more once.0)),
      rest,
    )
    by_before false rest = (each_of_mapped (λ other. same_tid held.tid other.tid ≡ false) kept_held (y ∷ more) apart, once)

once_by_tid : (helds : List Held) → EachOnce (map kept_held helds) → EachOnce (map kept_held (by_tid helds))
once_by_tid [] once = tt
once_by_tid (held ∷ helds) once =
    once_inserted held (by_tid helds)
    (each_by_tid (λ other. same_tid held.tid other.tid ≡ false) helds (each_held (λ other. same_tid held.tid other.tid ≡ false) helds once.0))
    (once_by_tid helds once.1)

-- no attempt is in doubt twice
pub once_doubts : (records : List SiteRecord) → EachOnce (map kept_held (doubts records))
once_doubts records =
    once_by_tid (found (doubt_of records) (each_attempt (prepared_tids records)))
    (once_found records (each_attempt (prepared_tids records)) (each_distinct (prepared_tids records)))
