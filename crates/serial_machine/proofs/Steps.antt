-- One more step of a program that runs alone.
use Rattle.std.proofs.Common.{◌≡◌, ℕ, zero, suc, ◌+◌, ◌<◌, Bool, true, false, cond, ◌&&◌, ◌||◌, Option, Some, None, List, [], ◌∷◌, ◌++◌, length, take, is_some, refl, sym, ap, ap₂, ◌∙◌, arith}
use Rattle.std.proofs.lemmas.List.{length-append}
use Rattle.mdb_base.specs.declared.acts.Act.{Act}
use Rattle.mdb_base.specs.declared.acts.Act.TheVariants.{Get, Set, Add}
use Rattle.mdb_base.specs.declared.acts.PlainAct.TheVariants.{Read, Write}
use Rattle.mdb_base.specs.declared.acts.Step.{Step}
use Rattle.mdb_base.specs.declared.names.Key.{Key}
use Rattle.mdb_base.specs.declared.names.SiteId.{SiteId}
use Rattle.mdb_base.specs.Names.{same_site, same_key}
use Rattle.mdb_base.specs.declared.program.Next.{Next}
use Rattle.mdb_base.specs.Programs.{plain_act, is_get, next_of, reads_of}
use Rattle.mdb_base.specs.Rows.{Table}
use Rattle.mdb_base.specs.Words.{given, item_at, or_else, some_of}
use Rattle.fed_rules.specs.Serial.{Tables, Ran, alone, run_steps, reads_after, tables_after, update}
use Rattle.serial_machine.specs.AllTables.{value_at, tables_of, writes_at}
use Rattle.serial_machine.specs.Runs.{ReachesAlone}
use Rattle.serial_machine.specs.declared.all_tables.AllTables.{AllTables}

-- what one step makes of what the steps before it left
abbrev then : Step → Ran → Ran
then x ran =
    record { reads = reads_after x.site (plain_act ran.reads x.act) ran.tables ran.reads; tables = tables_after x.site (plain_act ran.reads x.act) ran.tables }

run_steps-last : (xs : List Step) (x : Step) (reads : List ℕ) (tables : Tables) → run_steps (xs ++ x ∷ []) reads tables ≡ then x (run_steps xs reads tables)
run_steps-last [] x reads tables = refl
run_steps-last (y ∷ ys) x reads tables = run_steps-last ys x _ _

take-last : (xs : List Step) (n : ℕ) (x : Step) → item_at xs n ≡ Some x → take (suc n) xs ≡ take n xs ++ x ∷ []
take-last [] n x e = absurd cc
take-last (y ∷ ys) zero x e = let same : y ≡ x = cc in ap (λ z. z ∷ []) same
take-last (y ∷ ys) (suc n) x e = ap (λ zs. y ∷ zs) (take-last ys n x e)

-- a program alone, up to one more step
alone-last : (program : List Step) (done : ℕ) (x : Step) (tables : Tables) → item_at program done ≡ Some x → alone (take (suc done) program) tables ≡ then x (alone (take done program) tables)
alone-last program done x tables e = ap (λ xs. alone xs tables) (take-last program done x e) ∙ run_steps-last (take done program) x [] tables

-- an act reads exactly where its step is a get
reads_after-length : (site : SiteId) (act : Act) (reads : List ℕ) (tables : Tables) (count : ℕ) → length (reads_after site (plain_act reads act) tables reads) + count ≡ length reads + cond (is_get act) (suc count) count
reads_after-length site (Get key) reads tables count = let e = length-append reads (tables site key ∷ []) in omega (arith, e)
reads_after-length site (Set key value) reads tables count = refl
reads_after-length site (Add key register amount) reads tables count = refl

run_steps-reads : (xs : List Step) (reads : List ℕ) (tables : Tables) → length (run_steps xs reads tables).reads ≡ length reads + reads_of xs
run_steps-reads [] reads tables = omega arith
run_steps-reads (x ∷ xs) reads tables =
    let act = plain_act reads x.act in
    run_steps-reads xs (reads_after x.site act tables reads) (tables_after x.site act tables)
    ∙ reads_after-length x.site x.act reads tables (reads_of xs)

-- so many values were read as there are gets among the steps
pub reads_are_counted : (program : List Step) (done : ℕ) (old new : AllTables) (reads : List ℕ) → ReachesAlone program done old new reads → length reads ≡ reads_of (take done program)
reads_are_counted program done old new reads reached =
    ap length reached.reads_are ∙ run_steps-reads (take done program) [] (tables_of old) ∙ no_more (reads_of (take done program))
  where
    no_more : (n : ℕ) → 0 + n ≡ n
    no_more n = omega arith

-- a test of some item, with one more item at the end
pub some_of-last : {A : Type 0} → (test : A → Bool) (xs : List A) (x : A) → some_of test (xs ++ x ∷ []) ≡ (some_of test xs || test x)
some_of-last test [] x = or_false (test x)
  where
    or_false : (b : Bool) → (b || false) ≡ b
    or_false true = refl
    or_false false = refl
some_of-last test (y ∷ ys) x = ap (λ b. test y || b) (some_of-last test ys x) ∙ assoc (test y) _ _
  where
    assoc : (a b c : Bool) → (a || (b || c)) ≡ ((a || b) || c)
    assoc true b c = refl
    assoc false b c = refl

pub or_assoc : (a b c : Bool) → ((a || b) || c) ≡ (a || (b || c))
or_assoc true b c = refl
or_assoc false b c = refl

-- each key that was written up to one more step has a row
rows-last : (program : List Step) (done : ℕ) (x : Step) (site : SiteId) (key : Key) (old : Bool) → item_at program done ≡ Some x
    → ((old || some_of (writes_at site key) (take done program)) || writes_at site key x) ≡ (old || some_of (writes_at site key) (take (suc done) program))
rows-last program done x site key old e =
    or_assoc old _ _ ∙ ap (λ b. old || b) (sym (some_of-last (writes_at site key) (take done program) x))
    ∙ ap (λ xs. old || some_of (writes_at site key) xs) (sym (take-last program done x e))

no_write : (site s : SiteId) (act : Act) (reads : List ℕ) (key k : Key) → plain_act reads act ≡ Read key → writes_at s k (record { site = site; act = act }) ≡ false
no_write site s (Get key') reads key k e = and_false (same_site site s)
  where
    and_false : (b : Bool) → (b && false) ≡ false
    and_false true = refl
    and_false false = refl
no_write site s (Set key' value) reads key k e = absurd cc
no_write site s (Add key' register amount) reads key k e = absurd cc

or_no : (a b : Bool) → b ≡ false → a ≡ (a || b)
or_no true b e = refl
or_no false b e = sym e

-- the next step reads
pub reads_on : (program : List Step) (done : ℕ) (old now : AllTables) (reads : List ℕ) (x : Step) (key : Key) (value : ℕ) → ReachesAlone program done old now reads
    → item_at program done ≡ Some x → plain_act reads x.act ≡ Read key → value ≡ tables_of now x.site key → ReachesAlone program (done + 1) old now (reads ++ value ∷ [])
reads_on program done old now reads x key value reached at is_read value_is =
    let before = alone (take done program) (tables_of old) in
    let more = alone-last program done x (tables_of old) at in
    let act : plain_act before.reads x.act ≡ Read key = ap (λ (rs : List ℕ). plain_act rs x.act) (sym reached.reads_are) ∙ is_read in
    let one : done + 1 ≡ suc done = omega arith in
    rw one (record {
      reads_are =
          ap₂ (λ (rs : List ℕ) v. rs ++ v ∷ []) reached.reads_are (value_is ∙ reached.tables_are x.site key)
          ∙ ap (λ a. reads_after x.site a before.tables before.reads) (sym act) ∙ ap (λ (r : Ran). r.reads) (sym more);
      tables_are = λ site k. reached.tables_are site k ∙ ap (λ a. tables_after x.site a before.tables site k) (sym act) ∙ ap (λ (r : Ran). r.tables site k) (sym more);
      rows = λ site k. reached.rows site k ∙ or_no _ _ (no_write x.site site x.act reads key k is_read) ∙ rows-last program done x site k (is_some (value_at old site k)) at;
    })

-- one row written, as a table
row_written : (b c : Bool) (value : ℕ) (was : Option ℕ) (left : Table) (k : Key) → or_else was 0 ≡ left k → (other : Table) → other k ≡ cond c value (left k) → or_else (cond (b && c) (Some value) was) 0 ≡ cond b other left k
row_written true true value was left k same other e = sym e
row_written true false value was left k same other e = same ∙ sym e
row_written false c value was left k same other e = same

has_row : (b c : Bool) (value : ℕ) (was : Option ℕ) → is_some (cond (b && c) (Some value) was) ≡ (is_some was || (b && c))
has_row true true value None = refl
has_row true true value (Some v) = refl
has_row true false value None = refl
has_row true false value (Some v) = refl
has_row false c value None = refl
has_row false c value (Some v) = refl

own_write : (site s : SiteId) (act : Act) (reads : List ℕ) (key k : Key) (value : ℕ) → plain_act reads act ≡ Write key value → writes_at s k (record { site = site; act = act }) ≡ (same_site site s && same_key key k)
own_write site s (Get key') reads key k value e = absurd cc
own_write site s (Set key' v) reads key k value e = let same : key' ≡ key = cc in ap (λ x. same_site site s && same_key x k) same
own_write site s (Add key' register amount) reads key k value e = let same : key' ≡ key = cc in ap (λ x. same_site site s && same_key x k) same

-- the next step writes
pub writes_on : (program : List Step) (done : ℕ) (old now new : AllTables) (reads : List ℕ) (x : Step) (key : Key) (value : ℕ) → ReachesAlone program done old now reads
    → item_at program done ≡ Some x → plain_act reads x.act ≡ Write key value
    → ((s : SiteId) (k : Key) → value_at new s k ≡ cond (same_site x.site s && same_key key k) (Some value) (value_at now s k)) → ReachesAlone program (done + 1) old new reads
writes_on program done old now new reads x key value reached at is_write written =
    let before = alone (take done program) (tables_of old) in
    let more = alone-last program done x (tables_of old) at in
    let act : plain_act before.reads x.act ≡ Write key value = ap (λ (rs : List ℕ). plain_act rs x.act) (sym reached.reads_are) ∙ is_write in
    let one : done + 1 ≡ suc done = omega arith in
    rw one (record {
      reads_are = reached.reads_are ∙ ap (λ a. reads_after x.site a before.tables before.reads) (sym act) ∙ ap (λ (r : Ran). r.reads) (sym more);
      tables_are = λ site k.
          ap (λ o. or_else o 0) (written site k)
          ∙ row_written (same_site x.site site) (same_key key k) value (value_at now site k) (before.tables site) k (reached.tables_are site k) (update key value (before.tables site)) refl
          ∙ ap (λ a. tables_after x.site a before.tables site k) (sym act) ∙ ap (λ (r : Ran). r.tables site k) (sym more);
      rows = λ site k.
          ap is_some (written site k) ∙ has_row (same_site x.site site) (same_key key k) value (value_at now site k)
          ∙ ap₂ (λ a b. a || b) (reached.rows site k) (sym (own_write x.site site x.act reads key k value is_write))
          ∙ rows-last program done x site k (is_some (value_at old site k)) at;
    })

-- the step that comes next
pub next_is : (program : List Step) (done : ℕ) (reads : List ℕ) (next : Next) → next_of program done reads ≡ Some next
    → (x : Step) × ((item_at program done ≡ Some x) × ((x.site ≡ next.site) × (plain_act reads x.act ≡ next.act)))
unfolding given
next_is program done reads next e = by_item (item_at program done) refl e
  where
    by_item : (o : Option Step) → item_at program done ≡ o → given {B = Option Next} o (λ step. Some (record { site = step.site; act = plain_act reads step.act })) None ≡ Some next
        → (x : Step) × ((item_at program done ≡ Some x) × ((x.site ≡ next.site) × (plain_act reads x.act ≡ next.act)))
    by_item None is same = let none : None ≡ Some next = same in absurd cc
    by_item (Some x) is same =
        let some : Some (record { site = x.site; act = plain_act reads x.act }) ≡ Some next = same in
        let found : record { site = x.site; act = plain_act reads x.act } ≡ next = cc in
        (x, (is, (ap (λ (n : Next). n.site) found, ap (λ (n : Next). n.act) found)))

item_comes : (xs : List Step) (n : ℕ) → n < length xs → item_at xs n ≡ None → ⊥
item_comes [] n lt e = omega (arith, lt)
item_comes (x ∷ xs) zero lt e = absurd cc
item_comes (x ∷ xs) (suc n) lt e = item_comes xs n (omega (arith, lt)) e

-- before the end there is a next step
pub next_comes : (program : List Step) (done : ℕ) (reads : List ℕ) → done < length program → next_of program done reads ≡ None → ⊥
unfolding given
next_comes program done reads lt e = by_item (item_at program done) refl e
  where
    by_item : (o : Option Step) → item_at program done ≡ o → given {B = Option Next} o (λ step. Some (record { site = step.site; act = plain_act reads step.act })) None ≡ None → ⊥
    by_item None is same = item_comes program done lt is
    by_item (Some x) is same = let next : Next = record { site = x.site; act = plain_act reads x.act } in let some : Some next ≡ None = same in absurd cc
