-- The installs that the records of a site make, and those that it is due.
use Rattle.std.proofs.Common.{◌≡◌, ◌⊎◌, Bool, true, false, cond, Option, Some, None, List, [], ◌∷◌, map, refl, sym, ap, ◌∙◌, subst, inl, inr}
use Rattle.std.specs.Prelude.{nat_lt}
use Rattle.mdb_base.specs.declared.names.Tid.{Tid}
use Rattle.mdb_base.specs.Names.{same_tid}
use Rattle.mdb_base.specs.Words.{inserted}
use Rattle.mdb_base.proofs.ForCallers.{same_tid-equal, same_tid-refl}
use Rattle.order_laws.specs.Chains.{In, Distinct}
use Rattle.presumptions.specs.declared.Decision.TheVariants as Decided
use Rattle.order_laws.proofs.ForCallers.{in_inserted, in_map as map_in}
use Rattle.fed_rules.specs.declared.records.SiteRecord.{SiteRecord}
use Rattle.fed_rules.specs.declared.records.SiteRecord.TheVariants.{Setup, Start, Prepared, Ended, Local, Checkpoint}
use Rattle.fed_rules.specs.SiteRecords.{Held, Install, by_number, doubt_of, due_installs, install_held, installs}
use Rattle.site_history.specs.Records.{IsBound, BindOnce, TellOutcomes}
use Rattle.engine_laws.proofs.ForCallers.{doubt_tid}
use Rattle.site_history.proofs.Records.{as_held, bound_by, due_install, doubt_in, record_of, unbound}
use Rattle.site_history.proofs.AsSealed.{in_map, inserted_in}

-- the attempts of installs are bound
abbrev pub install_before : Install → Install → Bool
install_before a b = nat_lt b.number a.number

installed_bound : (records : List SiteRecord) (i : Install) → In i (installs records) → IsBound i.tid records
installed_bound [] i j = j
installed_bound (Local p number writes ∷ records) i j =
    elim (in_inserted install_before (record { tid = p; number = number; writes = writes }) i (installs records) j) [
      | inl e ↦ inl (ap (λ x. x.tid) e)
      | inr k ↦ inr (installed_bound records i k)
    ]
installed_bound (Ended p Decided.Commit ∷ records) i j = by_held (doubt_of records p) refl j (installed_bound records i)
  where
    by_held : (o : Option Held) → doubt_of records p ≡ o → In i (install_held o (installs records))
        → (In i (installs records) → IsBound i.tid records) → IsBound i.tid (Ended p Decided.Commit ∷ records)
    by_held None is j rest = inr (rest j)
    by_held (Some held) is j rest = elim (in_inserted install_before (due_install held) i (installs records) j) [
      | inl e ↦ inr (bound_by records (record_of held) i.tid (doubt_in records p held is) (ap (λ x. x.tid) e))
      | inr k ↦ inr (rest k)
    ]
installed_bound (Ended p Decided.Abort ∷ records) i j = inr (installed_bound records i j)
installed_bound (Setup site engine protocol items ∷ records) i j = inr (installed_bound records i j)
installed_bound (Checkpoint sum ∷ records) i j = inr (installed_bound records i j)
installed_bound (Start epoch ∷ records) i j = inr (installed_bound records i j)
installed_bound (Prepared p epoch number ticket writes ∷ records) i j = inr (installed_bound records i j)

-- an attempt behind whose end another one ends is in doubt as before
doubt_ended : (records : List SiteRecord) (p tid : Tid) → doubt_of records tid ≡ None → cond (same_tid p tid) None (doubt_of records tid) ≡ None
doubt_ended records p tid e = by_test (same_tid p tid)
  where
    by_test : (b : Bool) → cond b None (doubt_of records tid) ≡ None
    by_test true = refl
    by_test false = e

-- what is installed is no more in doubt
pub installed_settled : (records : List SiteRecord) (i : Install) → BindOnce records → In i (installs records) → doubt_of records i.tid ≡ None
installed_settled [] i once j = refl
installed_settled (Local p number writes ∷ records) i once j =
    elim (in_inserted install_before (record { tid = p; number = number; writes = writes }) i (installs records) j) [
      | inl e ↦ subst (λ t. doubt_of records t ≡ None) (ap (λ x. x.tid) e) (unbound records p once.0)
      | inr k ↦ installed_settled records i once.1 k
    ]
installed_settled (Ended p Decided.Commit ∷ records) i once j = by_held (doubt_of records p) refl j (installed_settled records i once)
  where
    by_held : (o : Option Held) → doubt_of records p ≡ o → In i (install_held o (installs records))
        → (In i (installs records) → doubt_of records i.tid ≡ None) → cond (same_tid p i.tid) None (doubt_of records i.tid) ≡ None
    by_held None is j rest = doubt_ended records p i.tid (rest j)
    by_held (Some held) is j rest = elim (in_inserted install_before (due_install held) i (installs records) j) [
      | inl e ↦
          let of_p : held.tid ≡ p = doubt_tid records p held is in
          let same : same_tid p i.tid ≡ true = subst (λ t. same_tid p t ≡ true) (sym of_p ∙ ap (λ x. x.tid) e) (same_tid-refl p) in
          ap (λ b. cond b None (doubt_of records i.tid)) same
      | inr k ↦ doubt_ended records p i.tid (rest k)
    ]
installed_settled (Ended p Decided.Abort ∷ records) i once j = doubt_ended records p i.tid (installed_settled records i once j)
installed_settled (Setup site engine protocol items ∷ records) i once j = installed_settled records i once j
installed_settled (Checkpoint sum ∷ records) i once j = installed_settled records i once j
installed_settled (Start epoch ∷ records) i once j = installed_settled records i once j
installed_settled (Prepared p epoch number ticket writes ∷ records) i once j =
    by_test (same_tid p i.tid) refl (installed_settled records i once.1 j)
  where
    by_test : (b : Bool) → same_tid p i.tid ≡ b → doubt_of records i.tid ≡ None
        → cond b (Some (record { tid = p; epoch = epoch; number = number; ticket = ticket; writes = writes })) (doubt_of records i.tid) ≡ None
    by_test true is rest = absurd (once.0 (subst (λ t. IsBound t records) (sym (same_tid-equal p i.tid is)) (installed_bound records i j)))
    by_test false is rest = rest

-- inserting another attempt keeps the attempts distinct
distinct_inserted : (x : Install) (ys : List Install) → Distinct (map (λ i. i.tid) ys) → (In x.tid (map (λ i. i.tid) ys) → ⊥)
    → Distinct (map (λ i. i.tid) (inserted install_before x ys))
distinct_inserted x [] d free = (free, tt)
distinct_inserted x (y ∷ ys) d free = by_test (install_before y x) (distinct_inserted x ys d.1 (λ i. free (inr i)))
  where
    apart : In y.tid (map (λ i. i.tid) (inserted install_before x ys)) → ⊥
    apart i =
        let one = in_map (λ z. z.tid) y.tid (inserted install_before x ys) i in
        by_origin one.item one.image (in_inserted install_before x one.item ys one.among)
      where
        by_origin : (item : Install) → item.tid ≡ y.tid → (x ≡ item) ⊎ In item ys → ⊥
        by_origin item e (inl same) = free (inl (sym e ∙ ap (λ z. z.tid) (sym same)))
        by_origin item e (inr j) = d.0 (subst (λ t. In t (map (λ z. z.tid) ys)) e (map_in (λ z. z.tid) item ys j))

    by_test : (b : Bool) → Distinct (map (λ i. i.tid) (inserted install_before x ys))
        → Distinct (map (λ i. i.tid) (cond b (y ∷ inserted install_before x ys) (x ∷ y ∷ ys)))
    by_test true rest = (apart, rest)
    by_test false rest = (free, d)

abbrev pub tids_of : List Install → List Tid
tids_of xs = map (λ i. i.tid) xs

pub installs_distinct : (records : List SiteRecord) → BindOnce records → Distinct (tids_of (installs records))
installs_distinct [] once = tt
installs_distinct (Local p number writes ∷ records) once =
    distinct_inserted (record { tid = p; number = number; writes = writes }) (installs records) (installs_distinct records once.1)
    (λ i. let one = in_map (λ z. z.tid) p (installs records) i in
    once.0 (subst (λ t. IsBound t records) one.image (installed_bound records one.item one.among)))
installs_distinct (Ended p Decided.Commit ∷ records) once = by_held (doubt_of records p) refl (installs_distinct records once)
  where
    by_held : (o : Option Held) → doubt_of records p ≡ o → Distinct (tids_of (installs records))
        → Distinct (tids_of (install_held o (installs records)))
    by_held None is rest = rest
    by_held (Some held) is rest =
        distinct_inserted (due_install held) (installs records) rest
        (λ i. let one = in_map (λ z. z.tid) held.tid (installs records) i in
        let settled = installed_settled records one.item once one.among in
        let of_p : held.tid ≡ p = doubt_tid records p held is in
        let clash = sym (ap (doubt_of records) (sym (one.image ∙ of_p)) ∙ settled) ∙ is in cc)
installs_distinct (Ended p Decided.Abort ∷ records) once = installs_distinct records once
installs_distinct (Setup site engine protocol items ∷ records) once = installs_distinct records once
installs_distinct (Checkpoint sum ∷ records) once = installs_distinct records once
installs_distinct (Start epoch ∷ records) once = installs_distinct records once
installs_distinct (Prepared p epoch number ticket writes ∷ records) once = installs_distinct records once.1

pub due_bound : (commits : Tid → Bool) (records : List SiteRecord) (i : Install) → In i (due_installs commits records) → IsBound i.tid records
due_bound commits [] i j = j
due_bound commits (Local p number writes ∷ records) i j =
    elim (in_inserted install_before (record { tid = p; number = number; writes = writes }) i (due_installs commits records) j) [
      | inl e ↦ inl (ap (λ x. x.tid) e)
      | inr k ↦ inr (due_bound commits records i k)
    ]
due_bound commits (Prepared p epoch number ticket writes ∷ records) i j = by_test (commits p) j (due_bound commits records i)
  where
    by_test : (b : Bool)
        → In i (cond b (by_number (record { tid = p; number = number; writes = writes }) (due_installs commits records)) (due_installs commits records))
        → (In i (due_installs commits records) → IsBound i.tid records)
        → IsBound i.tid (Prepared p epoch number ticket writes ∷ records)
    by_test true j rest = elim (in_inserted install_before (record { tid = p; number = number; writes = writes }) i (due_installs commits records) j) [
      | inl e ↦ inl (ap (λ x. x.tid) e)
      | inr k ↦ inr (rest k)
    ]
    by_test false j rest = inr (rest j)
due_bound commits (Ended p decision ∷ records) i j = inr (due_bound commits records i j)
due_bound commits (Setup site engine protocol items ∷ records) i j = inr (due_bound commits records i j)
due_bound commits (Checkpoint sum ∷ records) i j = inr (due_bound commits records i j)
due_bound commits (Start epoch ∷ records) i j = inr (due_bound commits records i j)

pub due_distinct : (commits : Tid → Bool) (records : List SiteRecord) → BindOnce records → Distinct (tids_of (due_installs commits records))
due_distinct commits [] once = tt
due_distinct commits (Local p number writes ∷ records) once =
    distinct_inserted (record { tid = p; number = number; writes = writes }) (due_installs commits records) (due_distinct commits records once.1)
    (λ i. let one = in_map (λ z. z.tid) p (due_installs commits records) i in
    once.0 (subst (λ t. IsBound t records) one.image (due_bound commits records one.item one.among)))
due_distinct commits (Prepared p epoch number ticket writes ∷ records) once = by_test (commits p) (due_distinct commits records once.1)
  where
    by_test : (b : Bool) → Distinct (tids_of (due_installs commits records))
        → Distinct (tids_of (cond b (by_number (record { tid = p; number = number; writes = writes }) (due_installs commits records))
        (due_installs commits records)))
    by_test true rest =
        distinct_inserted (record { tid = p; number = number; writes = writes }) (due_installs commits records) rest
        (λ i. let one = in_map (λ z. z.tid) p (due_installs commits records) i in
        once.0 (subst (λ t. IsBound t records) one.image (due_bound commits records one.item one.among)))
    by_test false rest = rest
due_distinct commits (Ended p decision ∷ records) once = due_distinct commits records once
due_distinct commits (Setup site engine protocol items ∷ records) once = due_distinct commits records once
due_distinct commits (Checkpoint sum ∷ records) once = due_distinct commits records once
due_distinct commits (Start epoch ∷ records) once = due_distinct commits records once

-- one more install that may be due
due_behind : (commits : Tid → Bool) (x : Install) (b : Bool) (i : Install) (ys : List Install) → In i ys → In i (cond b (by_number x ys) ys)
due_behind commits x true i ys j = inserted_in install_before x i ys (inr j)
due_behind commits x false i ys j = j

-- the install of what is in doubt, among those before it
pub held_in : (o : Option Held) (i : Install) (ys : List Install) → ((held : Held) × ((o ≡ Some held) × (due_install held ≡ i))) ⊎ In i ys
    → In i (install_held o ys)
held_in None i ys (inl (held, (e, is))) = cc
held_in None i ys (inr j) = j
held_in (Some h) i ys (inl (held, (e, is))) =
    let same : h ≡ held = cc in inserted_in install_before (due_install h) i ys (inl (ap due_install same ∙ is))
held_in (Some h) i ys (inr j) = inserted_in install_before (due_install h) i ys (inr j)

-- a prepared one with outcome commit is due
pub prepared_due : (commits : Tid → Bool) (records : List SiteRecord) (held : Held) → In (record_of held) records → commits held.tid ≡ true
    → In (due_install held) (due_installs commits records)
prepared_due commits [] held i c = elim i [ ]
prepared_due commits (Prepared p epoch number ticket writes ∷ records) held (inl e) c =
    let here : Held = record { tid = p; epoch = epoch; number = number; ticket = ticket; writes = writes } in
    let same : here ≡ held = ap (as_held held) e in
    subst (λ b. In (due_install held) (cond b (by_number (due_install here) (due_installs commits records)) (due_installs commits records)))
    (sym (ap (λ h. commits h.tid) same ∙ c))
    (inserted_in install_before (due_install here) (due_install held) (due_installs commits records) (inl (ap due_install same)))
prepared_due commits (Prepared p epoch number ticket writes ∷ records) held (inr i) c =
    due_behind commits (record { tid = p; number = number; writes = writes }) (commits p) (due_install held) (due_installs commits records)
    (prepared_due commits records held i c)
prepared_due commits (Local p number writes ∷ records) held (inl e) c = cc
prepared_due commits (Local p number writes ∷ records) held (inr i) c =
    inserted_in install_before (record { tid = p; number = number; writes = writes }) (due_install held) (due_installs commits records)
    (inr (prepared_due commits records held i c))
prepared_due commits (Ended p decision ∷ records) held (inl e) c = cc
prepared_due commits (Ended p decision ∷ records) held (inr i) c = prepared_due commits records held i c
prepared_due commits (Setup site engine protocol items ∷ records) held (inl e) c = cc
prepared_due commits (Checkpoint sum ∷ records) held (inl e) c = cc
prepared_due commits (Setup site engine protocol items ∷ records) held (inr i) c = prepared_due commits records held i c
prepared_due commits (Checkpoint sum ∷ records) held (inr i) c = prepared_due commits records held i c
prepared_due commits (Start epoch ∷ records) held (inl e) c = cc
prepared_due commits (Start epoch ∷ records) held (inr i) c = prepared_due commits records held i c

-- installed ones are due where the Ended records tell the outcomes
pub installed_due : (commits : Tid → Bool) (records : List SiteRecord) (i : Install) → TellOutcomes commits records → In i (installs records)
    → In i (due_installs commits records)
installed_due commits [] i told j = j
installed_due commits (Local p number writes ∷ records) i told j =
    let x : Install = record { tid = p; number = number; writes = writes } in
    inserted_in install_before x i (due_installs commits records)
    (elim (in_inserted install_before x i (installs records) j) [
      | inl e ↦ inl e
      | inr k ↦ inr (installed_due commits records i told.1 k)
    ])
installed_due commits (Ended p Decided.Commit ∷ records) i told j = by_held (doubt_of records p) refl j (installed_due commits records i told.1)
  where
    by_held : (o : Option Held) → doubt_of records p ≡ o → In i (install_held o (installs records))
        → (In i (installs records) → In i (due_installs commits records)) → In i (due_installs commits records)
    by_held None is j rest = rest j
    by_held (Some held) is j rest = elim (in_inserted install_before (due_install held) i (installs records) j) [
      | inl e ↦
          subst (λ x. In x (due_installs commits records)) e
          (prepared_due commits records held (doubt_in records p held is)
          (ap commits (doubt_tid records p held is) ∙ told.0))
      | inr k ↦ rest k
    ]
installed_due commits (Ended p Decided.Abort ∷ records) i told j = installed_due commits records i told.1 j
installed_due commits (Setup site engine protocol items ∷ records) i told j = installed_due commits records i told.1 j
installed_due commits (Checkpoint sum ∷ records) i told j = installed_due commits records i told.1 j
installed_due commits (Start epoch ∷ records) i told j = installed_due commits records i told.1 j
installed_due commits (Prepared p epoch number ticket writes ∷ records) i told j =
    due_behind commits (record { tid = p; number = number; writes = writes }) (commits p) i (due_installs commits records)
    (installed_due commits records i told.1 j)

-- what is due is installed, or in doubt with outcome commit
pub record IsDoubtful (commits : Tid → Bool) (records : List SiteRecord) (i : Install) : Type 0 where
  pub held : Held
  pub doubt : doubt_of records i.tid ≡ Some held
  pub commit : commits i.tid ≡ true
  pub is : due_install held ≡ i

pub due_installed : (commits : Tid → Bool) (records : List SiteRecord) (i : Install) → BindOnce records → TellOutcomes commits records
    → In i (due_installs commits records) → In i (installs records) ⊎ IsDoubtful commits records i
due_installed commits [] i once told j = inl j
due_installed commits (Local p number writes ∷ records) i once told j =
    let x : Install = record { tid = p; number = number; writes = writes } in
    elim (in_inserted install_before x i (due_installs commits records) j) [
      | inl e ↦ inl (inserted_in install_before x i (installs records) (inl e))
      | inr k ↦ elim (due_installed commits records i once.1 told.1 k) [
        | inl m ↦ inl (inserted_in install_before x i (installs records) (inr m))
        | inr d ↦ inr (record { held = d.held; doubt = d.doubt; commit = d.commit; is = d.is })
      ]
    ]
due_installed commits (Prepared p epoch number ticket writes ∷ records) i once told j =
    by_test (commits p) refl j (λ k. older k (due_installed commits records i once.1 told.1 k))
  where
    mine : Install
    mine = record { tid = p; number = number; writes = writes }

    older : In i (due_installs commits records) → In i (installs records) ⊎ IsDoubtful commits records i
        → In i (installs records) ⊎ IsDoubtful commits (Prepared p epoch number ticket writes ∷ records) i
    older k (inl m) = inl m
    older k (inr d) = inr (record { held = d.held; doubt = by_same (same_tid p i.tid) refl; commit = d.commit; is = d.is })
      where
        by_same : (b : Bool) → same_tid p i.tid ≡ b
            → cond b (Some (record { tid = p; epoch = epoch; number = number; ticket = ticket; writes = writes })) (doubt_of records i.tid) ≡ Some d.held
        by_same true is =
            absurd (once.0 (subst (λ t. IsBound t records) (sym (same_tid-equal p i.tid is)) (due_bound commits records i k)))
        by_same false is = d.doubt

    by_test : (b : Bool) → commits p ≡ b
        → In i (cond b (by_number (record { tid = p; number = number; writes = writes }) (due_installs commits records)) (due_installs commits records))
        → (In i (due_installs commits records) → In i (installs records) ⊎ IsDoubtful commits (Prepared p epoch number ticket writes ∷ records) i)
        → In i (installs records) ⊎ IsDoubtful commits (Prepared p epoch number ticket writes ∷ records) i
    by_test true is j rest = elim (in_inserted install_before mine i (due_installs commits records) j) [
      | inl e ↦ inr (record {
        held = record { tid = p; epoch = epoch; number = number; ticket = ticket; writes = writes };
        doubt = ap (λ b. cond b (Some (record { tid = p; epoch = epoch; number = number; ticket = ticket; writes = writes }))
            (doubt_of records i.tid)) (subst (λ t. same_tid p t ≡ true) (ap (λ x. x.tid) e) (same_tid-refl p));
        commit = ap commits (ap (λ x. x.tid) (sym e)) ∙ is;
        is = e;
      })
      | inr k ↦ rest k
    ]
    by_test false is j rest = rest j
due_installed commits (Ended p Decided.Commit ∷ records) i once told j =
    by_old (due_installed commits records i once told.1 j)
  where
    by_old : In i (installs records) ⊎ IsDoubtful commits records i
        → In i (install_held (doubt_of records p) (installs records)) ⊎ IsDoubtful commits (Ended p Decided.Commit ∷ records) i
    by_old (inl m) = inl (held_in (doubt_of records p) i (installs records) (inr m))
    by_old (inr d) = by_same (same_tid p i.tid) refl
      where
        by_same : (b : Bool) → same_tid p i.tid ≡ b
            → In i (install_held (doubt_of records p) (installs records)) ⊎ IsDoubtful commits (Ended p Decided.Commit ∷ records) i
        by_same true same = inl (held_in (doubt_of records p) i (installs records)
            (inl (d.held, (ap (doubt_of records) (same_tid-equal p i.tid same) ∙ d.doubt, d.is))))
        by_same false apart = inr (record {
          held = d.held;
          doubt = ap (λ b. cond b None (doubt_of records i.tid)) apart ∙ d.doubt;
          commit = d.commit;
          is = d.is;
        })
due_installed commits (Ended p Decided.Abort ∷ records) i once told j =
    by_old (due_installed commits records i once told.1 j)
  where
    by_old : In i (installs records) ⊎ IsDoubtful commits records i
        → In i (installs records) ⊎ IsDoubtful commits (Ended p Decided.Abort ∷ records) i
    by_old (inl m) = inl m
    by_old (inr d) = inr (record { held = d.held; doubt = by_same (same_tid p i.tid) refl; commit = d.commit; is = d.is })
      where
        by_same : (b : Bool) → same_tid p i.tid ≡ b → cond b None (doubt_of records i.tid) ≡ Some d.held
        by_same true same =
            let no : true ≡ false = sym (d.commit) ∙ ap commits (sym (same_tid-equal p i.tid same)) ∙ told.0 in cc
        by_same false apart = d.doubt
due_installed commits (Setup site engine protocol items ∷ records) i once told j = by_old (due_installed commits records i once told.1 j)
  where
    by_old : In i (installs records) ⊎ IsDoubtful commits records i
        → In i (installs records) ⊎ IsDoubtful commits (Setup site engine protocol items ∷ records) i
    by_old (inl m) = inl m
    by_old (inr d) = inr (record { held = d.held; doubt = d.doubt; commit = d.commit; is = d.is })
due_installed commits (Checkpoint sum ∷ records) i once told j = by_old (due_installed commits records i once told.1 j)
  where
    by_old : In i (installs records) ⊎ IsDoubtful commits records i
        → In i (installs records) ⊎ IsDoubtful commits (Checkpoint sum ∷ records) i
    by_old (inl m) = inl m
    by_old (inr d) = inr (record { held = d.held; doubt = d.doubt; commit = d.commit; is = d.is })
due_installed commits (Start epoch ∷ records) i once told j = by_old (due_installed commits records i once told.1 j)
  where
    by_old : In i (installs records) ⊎ IsDoubtful commits records i → In i (installs records) ⊎ IsDoubtful commits (Start epoch ∷ records) i
    by_old (inl m) = inl m
    by_old (inr d) = inr (record { held = d.held; doubt = d.doubt; commit = d.commit; is = d.is })
