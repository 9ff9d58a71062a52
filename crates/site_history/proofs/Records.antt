-- Laws of the records of a site: bound attempts, and attempts in doubt.
use Rattle.std.proofs.Common.{◌≡◌, ℕ, ◌≤◌, Bool, true, false, cond, Option, Some, None, List, [], ◌∷◌, refl, sym, ap, ◌∙◌, subst, inl, inr, arith, map}
use Rattle.mdb_base.specs.declared.names.Tid.{Tid}
use Rattle.mdb_base.specs.Names.{same_tid}
use Rattle.order_laws.specs.Chains.{In, Distinct}
use Rattle.fed_rules.specs.declared.records.SiteRecord.{SiteRecord}
use Rattle.fed_rules.specs.declared.records.SiteRecord.TheVariants.{Setup, Start, Prepared, Ended, Local, Checkpoint}
use Rattle.fed_rules.specs.SiteRecords.{Held, Install, doubt_of, last_number, prepared_tids}
use Rattle.site_history.specs.Records.{Binds, IsBound, BindOnce}
use Rattle.engine_laws.proofs.ForCallers.{doubt_tid}
use Rattle.mdb_base.specs.Words.{Among}
use Rattle.order_laws.proofs.ForCallers.{is_among}
use Rattle.fed_rules.specs.Usable.{IsPreparedOf}
use Rattle.fed_rules.specs.Reopened.{local_read}

-- the install of a record in doubt
abbrev pub due_install : Held → Install
due_install held = record { tid = held.tid; number = held.number; writes = held.writes }

-- the record of an attempt in doubt
abbrev pub record_of : Held → SiteRecord
record_of held = Prepared held.tid held.epoch held.number held.ticket held.writes

-- what a Prepared record says
abbrev pub as_held : Held → SiteRecord → Held
as_held other (Prepared tid epoch number ticket writes) =
    record { tid = tid; epoch = epoch; number = number; ticket = ticket; writes = writes }
as_held other kept = other

pub doubt_in : (records : List SiteRecord) (tid : Tid) (held : Held) → doubt_of records tid ≡ Some held → In (record_of held) records
doubt_in [] tid held e = cc
doubt_in (Prepared prepared epoch number ticket writes ∷ records) tid held e = by_test (same_tid prepared tid) e (doubt_in records tid held)
  where
    by_test : (b : Bool)
        → cond b (Some (record { tid = prepared; epoch = epoch; number = number; ticket = ticket; writes = writes })) (doubt_of records tid) ≡ Some held
        → (doubt_of records tid ≡ Some held → In (record_of held) records)
        → In (record_of held) (Prepared prepared epoch number ticket writes ∷ records)
    by_test true e rest =
        let here : Held = record { tid = prepared; epoch = epoch; number = number; ticket = ticket; writes = writes } in
        let same : here ≡ held = cc in inl (ap record_of same)
    by_test false e rest = inr (rest e)
doubt_in (Ended ended decision ∷ records) tid held e = by_test (same_tid ended tid) e (doubt_in records tid held)
  where
    by_test : (b : Bool) → cond b None (doubt_of records tid) ≡ Some held → (doubt_of records tid ≡ Some held → In (record_of held) records)
        → In (record_of held) (Ended ended decision ∷ records)
    by_test true e rest = cc
    by_test false e rest = inr (rest e)
doubt_in (Setup site engine protocol items ∷ records) tid held e = inr (doubt_in records tid held e)
doubt_in (Checkpoint sum ∷ records) tid held e = inr (doubt_in records tid held e)
doubt_in (Start epoch ∷ records) tid held e = inr (doubt_in records tid held e)
doubt_in (Local local number writes ∷ records) tid held e = inr (doubt_in records tid held e)

-- so one of the records prepared it
pub doubt_prepared : (records : List SiteRecord) (tid : Tid) (held : Held) → doubt_of records tid ≡ Some held → Among (IsPreparedOf tid) records
doubt_prepared records tid held e = is_among (IsPreparedOf tid) (record_of held) records (doubt_in records tid held e) (doubt_tid records tid held e)

-- local commits leave nothing in doubt
pub locals_undoubted : (n : ℕ) (tids : List Tid) (tid : Tid) → doubt_of (map (local_read n) tids) tid ≡ None
locals_undoubted n [] tid = refl
locals_undoubted n (t ∷ tids) tid = locals_undoubted n tids tid

-- a record that binds an attempt binds it among them
pub bound_by : (records : List SiteRecord) (kept : SiteRecord) (tid : Tid) → In kept records → Binds tid kept → IsBound tid records
bound_by [] kept tid i b = i
bound_by (newest ∷ records) kept tid (inl e) b = inl (subst (Binds tid) (sym e) b)
bound_by (newest ∷ records) kept tid (inr i) b = inr (bound_by records kept tid i b)

-- who isn't bound isn't in doubt
pub unbound : (records : List SiteRecord) (tid : Tid) → (IsBound tid records → ⊥) → doubt_of records tid ≡ None
unbound records tid free = by_held (doubt_of records tid) refl
  where
    by_held : (o : Option Held) → doubt_of records tid ≡ o → o ≡ None
    by_held None is = refl
    by_held (Some held) is =
        absurd (free (bound_by records (record_of held) tid (doubt_in records tid held is) (doubt_tid records tid held is)))

-- no other record binds the attempt of the newest one
pub bound_alone : (newest : SiteRecord) (records : List SiteRecord) (tid : Tid) → BindOnce (newest ∷ records) → Binds tid newest
    → IsBound tid records → ⊥
bound_alone (Prepared p epoch number ticket writes) records tid once is h = once.0 (subst (λ t. IsBound t records) (sym is) h)
bound_alone (Local p number writes) records tid once is h = once.0 (subst (λ t. IsBound t records) (sym is) h)
bound_alone (Setup site engine protocol items) records tid once is h = is
bound_alone (Checkpoint sum) records tid once is h = is
bound_alone (Start epoch) records tid once is h = is
bound_alone (Ended ended decision) records tid once is h = is

pub once_behind : (newest : SiteRecord) (records : List SiteRecord) → BindOnce (newest ∷ records) → BindOnce records
once_behind (Prepared p epoch number ticket writes) records once = once.1
once_behind (Local p number writes) records once = once.1
once_behind (Setup site engine protocol items) records once = once
once_behind (Checkpoint sum) records once = once
once_behind (Start epoch) records once = once
once_behind (Ended ended decision) records once = once

-- of an attempt that is bound once all records that bind it are one
pub once_record : (records : List SiteRecord) (a b : SiteRecord) (tid : Tid) → BindOnce records → In a records → In b records → Binds tid a
    → Binds tid b → a ≡ b
once_record [] a b tid once i j x y = elim i [ ]
once_record (newest ∷ records) a b tid once (inl e) (inl f) x y = sym e ∙ f
once_record (newest ∷ records) a b tid once (inl e) (inr j) x y =
    absurd (bound_alone newest records tid once (subst (Binds tid) (sym e) x) (bound_by records b tid j y))
once_record (newest ∷ records) a b tid once (inr i) (inl f) x y =
    absurd (bound_alone newest records tid once (subst (Binds tid) (sym f) y) (bound_by records a tid i x))
once_record (newest ∷ records) a b tid once (inr i) (inr j) x y =
    once_record records a b tid (once_behind newest records once) i j x y

-- the attempts of Prepared records are bound, and stand once
prepared_bound : (records : List SiteRecord) (tid : Tid) → In tid (prepared_tids records) → IsBound tid records
prepared_bound [] tid i = i
prepared_bound (Prepared p epoch number ticket writes ∷ records) tid (inl e) = inl e
prepared_bound (Prepared p epoch number ticket writes ∷ records) tid (inr i) = inr (prepared_bound records tid i)
prepared_bound (Setup site engine protocol items ∷ records) tid i = inr (prepared_bound records tid i)
prepared_bound (Checkpoint sum ∷ records) tid i = inr (prepared_bound records tid i)
prepared_bound (Start epoch ∷ records) tid i = inr (prepared_bound records tid i)
prepared_bound (Ended ended decision ∷ records) tid i = inr (prepared_bound records tid i)
prepared_bound (Local p number writes ∷ records) tid i = inr (prepared_bound records tid i)

pub prepared_once : (records : List SiteRecord) → BindOnce records → Distinct (prepared_tids records)
prepared_once [] once = tt
prepared_once (Prepared p epoch number ticket writes ∷ records) once =
    (λ i. once.0 (prepared_bound records p i), prepared_once records once.1)
prepared_once (Setup site engine protocol items ∷ records) once = prepared_once records once
prepared_once (Checkpoint sum ∷ records) once = prepared_once records once
prepared_once (Start epoch ∷ records) once = prepared_once records once
prepared_once (Ended ended decision ∷ records) once = prepared_once records once
prepared_once (Local p number writes ∷ records) once = prepared_once records once.1

-- the record has this serial number
abbrev pub HasNumber : ℕ → SiteRecord → Type 0
HasNumber n (Prepared tid epoch number ticket writes) = number ≡ n
HasNumber n (Local tid number writes) = number ≡ n
HasNumber n other = ⊥

-- each serial number is at most the last one
pub number_most : (records : List SiteRecord) (kept : SiteRecord) (n : ℕ) → In kept records → HasNumber n kept → n ≤ last_number records
number_most [] kept n i h = elim i [ ]
number_most (Prepared p epoch number ticket writes ∷ records) kept n (inl e) h =
    let is : number ≡ n = subst (HasNumber n) (sym e) h in omega arith
number_most (Prepared p epoch number ticket writes ∷ records) kept n (inr i) h = let rest = number_most records kept n i h in omega arith
number_most (Local p number writes ∷ records) kept n (inl e) h =
    let is : number ≡ n = subst (HasNumber n) (sym e) h in omega arith
number_most (Local p number writes ∷ records) kept n (inr i) h = let rest = number_most records kept n i h in omega arith
number_most (Ended p decision ∷ records) kept n (inl e) h = elim (subst (HasNumber n) (sym e) h) [ ]
number_most (Ended p decision ∷ records) kept n (inr i) h = number_most records kept n i h
number_most (Setup site engine protocol items ∷ records) kept n (inl e) h = elim (subst (HasNumber n) (sym e) h) [ ]
number_most (Checkpoint sum ∷ records) kept n (inl e) h = elim (subst (HasNumber n) (sym e) h) [ ]
number_most (Setup site engine protocol items ∷ records) kept n (inr i) h = number_most records kept n i h
number_most (Checkpoint sum ∷ records) kept n (inr i) h = number_most records kept n i h
number_most (Start epoch ∷ records) kept n (inl e) h = elim (subst (HasNumber n) (sym e) h) [ ]
number_most (Start epoch ∷ records) kept n (inr i) h = number_most records kept n i h

pub doubt_number : (records : List SiteRecord) (tid : Tid) (held : Held) → doubt_of records tid ≡ Some held → held.number ≤ last_number records
doubt_number records tid held e = number_most records (record_of held) held.number (doubt_in records tid held e) refl
