-- Runs of falling numbers and installs of falling numbers that are the same, whichever way they were listed, are one list.
use Rattle.engine_laws.proofs.ForCallers.{after_puts, after_same, look_up_with_rows}
use Rattle.std.proofs.Common.{◌≡◌, ◌<◌, ◌≤◌, ◌⊎◌, Bool, true, false, cond, Option, Some, None, List, [], ◌∷◌, map, refl, sym, ap, ap₂, ◌∙◌, inl, inr, arith, ltb-true, ltb-false}
use Rattle.std.specs.Prelude.{nat_lt}
use Rattle.mdb_base.specs.declared.names.Key.{Key}
use Rattle.mdb_base.specs.declared.names.Tid.{Tid}
use Rattle.mdb_base.specs.declared.rows.Put.{Put}
use Rattle.mdb_base.specs.Rows.{look_up}
use Rattle.mdb_base.specs.Words.{Each}
use Rattle.mdb_base.proofs.ForCallers.{each_among, each_inserted, each_map}
use Rattle.order_laws.specs.Chains.{In, Distinct}
use Rattle.presumptions.specs.declared.Decision.TheVariants as Decided
use Rattle.fed_rules.specs.declared.records.SiteRecord.{SiteRecord}
use Rattle.fed_rules.specs.declared.records.SiteRecord.TheVariants.{Setup, Start, Prepared, Ended, Local, Checkpoint}
use Rattle.fed_rules.specs.Runs.{Run, number, puts_of, table_of}
use Rattle.fed_rules.specs.SerialRuns.{NumbersFall}
use Rattle.fed_rules.specs.SiteRecords.{Held, Install, by_number, doubt_of, due_installs, install_held, installs, rows_after}
use Rattle.site_history.proofs.AsSealed.{HasImage}
use Rattle.site_history.proofs.Installs.{tids_of}

-- what a committed run installs
abbrev pub install_of : Run → Install
install_of run = record { tid = run.tid; number = number run; writes = puts_of run.acts }

-- none has a greater number than one before it
abbrev pub InstallsFall : List Install → Type 0
InstallsFall [] = Unit {0}
InstallsFall (x ∷ xs) = Each (λ y. y.number ≤ x.number) xs × InstallsFall xs

falls_by_number : (x : Install) (ys : List Install) → InstallsFall ys → InstallsFall (by_number x ys)
falls_by_number x [] falls = (tt, tt)
falls_by_number x (y ∷ ys) falls = by_test (nat_lt x.number y.number) refl (falls_by_number x ys falls.1)
  where
    by_test : (b : Bool) → nat_lt x.number y.number ≡ b → InstallsFall (by_number x ys)
        → InstallsFall (cond b (y ∷ by_number x ys) (x ∷ y ∷ ys))
    by_test true is rest =
        let less = ltb-true x.number y.number is in
        (each_inserted (λ z. z.number ≤ y.number) (λ a b. nat_lt b.number a.number) x ys (omega (arith, less)) falls.0, rest)
    by_test false is rest =
        let most = ltb-false x.number y.number is in
        ((most, each_map (λ z. z.number ≤ y.number) (λ z. z.number ≤ x.number) (λ z le. omega (arith, le, most)) ys falls.0), falls)

falls_held : (o : Option Held) (ys : List Install) → InstallsFall ys → InstallsFall (install_held o ys)
falls_held None ys falls = falls
falls_held (Some held) ys falls = falls_by_number (record { tid = held.tid; number = held.number; writes = held.writes }) ys falls

pub installs_fall : (records : List SiteRecord) → InstallsFall (installs records)
installs_fall [] = tt
installs_fall (Local p n writes ∷ records) = falls_by_number (record { tid = p; number = n; writes = writes }) (installs records) (installs_fall records)
installs_fall (Ended p Decided.Commit ∷ records) = falls_held (doubt_of records p) (installs records) (installs_fall records)
installs_fall (Ended p Decided.Abort ∷ records) = installs_fall records
installs_fall (Setup site engine protocol items ∷ records) = installs_fall records
installs_fall (Checkpoint sum ∷ records) = installs_fall records
installs_fall (Start epoch ∷ records) = installs_fall records
installs_fall (Prepared p epoch n ticket writes ∷ records) = installs_fall records

pub due_fall : (commits : Tid → Bool) (records : List SiteRecord) → InstallsFall (due_installs commits records)
due_fall commits [] = tt
due_fall commits (Local p n writes ∷ records) =
    falls_by_number (record { tid = p; number = n; writes = writes }) (due_installs commits records) (due_fall commits records)
due_fall commits (Prepared p epoch n ticket writes ∷ records) = by_test (commits p) (due_fall commits records)
  where
    by_test : (b : Bool) → InstallsFall (due_installs commits records)
        → InstallsFall (cond b (by_number (record { tid = p; number = n; writes = writes }) (due_installs commits records)) (due_installs commits records))
    by_test true rest = falls_by_number (record { tid = p; number = n; writes = writes }) (due_installs commits records) rest
    by_test false rest = rest
due_fall commits (Ended p decision ∷ records) = due_fall commits records
due_fall commits (Setup site engine protocol items ∷ records) = due_fall commits records
due_fall commits (Checkpoint sum ∷ records) = due_fall commits records
due_fall commits (Start epoch ∷ records) = due_fall commits records

-- a number names one run
one_number : (runs : List Run) (a b : Run) → NumbersFall runs → In a runs → In b runs → number a ≡ number b → a ≡ b
one_number [] a b falls i j e = elim i [ ]
one_number (r ∷ rs) a b falls (inl x) (inl y) e = sym x ∙ y
one_number (r ∷ rs) a b falls (inl x) (inr j) e =
    let less = each_among (λ other. number other < number r) b rs falls.0 j in
    let same : number r ≡ number a = ap number x in absurd (omega (arith, less, same, e))
one_number (r ∷ rs) a b falls (inr i) (inl y) e =
    let less = each_among (λ other. number other < number r) a rs falls.0 i in
    let same : number r ≡ number b = ap number y in absurd (omega (arith, less, same, e))
one_number (r ∷ rs) a b falls (inr i) (inr j) e = one_number rs a b falls.1 i j e

abbrev pub HasRun : List Run → Install → Type 0
HasRun runs i = HasImage install_of runs i

-- each has a greater number than every one behind it
abbrev StrictlyFall : List Install → Type 0
StrictlyFall [] = Unit {0}
StrictlyFall (x ∷ xs) = Each (λ y. y.number < x.number) xs × StrictlyFall xs

each_less : (runs : List Run) (x : Install) (ys : List Install) → NumbersFall runs → HasRun runs x
    → ((i : Install) → In i ys → HasRun runs i)
    → Each (λ y. y.number ≤ x.number) ys → (In x.tid (tids_of ys) → ⊥) → Each (λ y. y.number < x.number) ys
each_less runs x [] falls of_x of_ys most apart = tt
each_less runs x (y ∷ ys) falls of_x of_ys most apart =
    (by_test (nat_lt y.number x.number) refl, each_less runs x ys falls of_x (λ i j. of_ys i (inr j)) most.1 (λ i. apart (inr i)))
  where
    of_y : HasRun runs y
    of_y = of_ys y (inl refl)

    by_test : (b : Bool) → nat_lt y.number x.number ≡ b → y.number < x.number
    by_test true is = ltb-true y.number x.number is
    by_test false is =
        let more = ltb-false y.number x.number is in
        let le = most.0 in
        let same : y.number ≡ x.number = omega (arith, more, le) in
        let same_y : number of_y.item ≡ y.number = ap (λ i. i.number) of_y.image in
        let same_x : number of_x.item ≡ x.number = ap (λ i. i.number) of_x.image in
        let one = one_number runs of_y.item of_x.item falls of_y.among of_x.among (same_y ∙ same ∙ sym same_x) in
        let tids : y.tid ≡ x.tid = ap (λ i. i.tid) (sym of_y.image ∙ ap install_of one ∙ of_x.image) in
        absurd (apart (inl tids))

strictly : (runs : List Run) (xs : List Install) → NumbersFall runs → ((i : Install) → In i xs → HasRun runs i) → InstallsFall xs
    → Distinct (tids_of xs) → StrictlyFall xs
strictly runs [] falls of_xs most apart = tt
strictly runs (x ∷ xs) falls of_xs most apart = (
  each_less runs x xs falls (of_xs x (inl refl)) (λ i j. of_xs i (inr j)) most.0 apart.0,
  strictly runs xs falls (λ i j. of_xs i (inr j)) most.1 apart.1,
)

same_strict : (runs : List Run) (xs : List Install) → NumbersFall runs → StrictlyFall xs
    → ((run : Run) → In run runs → In (install_of run) xs) → ((i : Install) → In i xs → HasRun runs i) → map install_of runs ≡ xs
same_strict [] [] falls strict to from = refl
same_strict [] (x ∷ xs) falls strict to from = elim ((from x (inl refl)).among) [ ]
same_strict (r ∷ rs) [] falls strict to from = elim (to r (inl refl)) [ ]
same_strict (r ∷ rs) (x ∷ xs) falls strict to from =
    ap₂ (λ i is. i ∷ is) head (same_strict rs xs falls.1 strict.1 (λ run i. to_behind run i (to run (inr i))) (λ i j. from_behind i j (from i (inr j))))
  where
    of_head : (x ≡ install_of r) ⊎ In (install_of r) xs → HasRun (r ∷ rs) x → install_of r ≡ x
    of_head (inl e) image = sym e
    of_head (inr j) image =
        let less = each_among (λ y. y.number < x.number) (install_of r) xs strict.0 j in
        let same : number image.item ≡ x.number = ap (λ i. i.number) image.image in
        by_place image.among same less
      where
        by_place : (r ≡ image.item) ⊎ In image.item rs → number image.item ≡ x.number → number r < x.number → install_of r ≡ x
        by_place (inl e) same less = let again : number r ≡ number image.item = ap number e in absurd (omega (arith, again, same, less))
        by_place (inr k) same less =
            let below = each_among (λ other. number other < number r) image.item rs falls.0 k in absurd (omega (arith, below, same, less))

    head : install_of r ≡ x
    head = of_head (to r (inl refl)) (from x (inl refl))

    to_behind : (run : Run) → In run rs → (x ≡ install_of run) ⊎ In (install_of run) xs → In (install_of run) xs
    to_behind run i (inl e) =
        let below = each_among (λ other. number other < number r) run rs falls.0 i in
        let same : number r ≡ number run = ap (λ y. y.number) (head ∙ e) in absurd (omega (arith, below, same))
    to_behind run i (inr j) = j

    from_behind : (i : Install) → In i xs → HasRun (r ∷ rs) i → HasRun rs i
    from_behind i j image = by_place image.among
      where
        by_place : (r ≡ image.item) ⊎ In image.item rs → HasRun rs i
        by_place (inl e) =
            let less = each_among (λ y. y.number < x.number) i xs strict.0 j in
            let same : x.number ≡ i.number = ap (λ y. y.number) (sym head ∙ ap install_of e ∙ image.image) in absurd (omega (arith, less, same))
        by_place (inr k) = record { item = image.item; among = k; image = image.image }

-- the runs of falling numbers are the installs, where they have the same ones
pub same_list : (runs : List Run) (xs : List Install) → NumbersFall runs → InstallsFall xs → Distinct (tids_of xs)
    → ((run : Run) → In run runs → In (install_of run) xs) → ((i : Install) → In i xs → HasRun runs i) → map install_of runs ≡ xs
same_list runs xs falls most apart to from = same_strict runs xs falls (strictly runs xs falls from most apart) to from

-- the rows that the installs of runs leave give the table that the runs leave
pub rows_of_runs : (items : List Put) (runs : List Run) (key : Key)
    → look_up (rows_after items (map install_of runs)) key ≡ table_of (look_up items) runs key
rows_of_runs items [] key = refl
rows_of_runs items (run ∷ runs) key =
    look_up_with_rows (puts_of run.acts) (rows_after items (map install_of runs)) key
    ∙ after_puts run.acts (look_up (rows_after items (map install_of runs))) key
    ∙ after_same run.acts (look_up (rows_after items (map install_of runs))) (table_of (look_up items) runs) key (rows_of_runs items runs key)
