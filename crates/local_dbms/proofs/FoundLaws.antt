-- The made-up programs of a site whose journal was found.
use Rattle.std.proofs.Common.{◌≡◌, ◌≤◌, Bool, true, false, cond, ◌||◌, is_some, IsSome, Option, Some, None, List, [], ◌∷◌, ◌++◌, map, reverse, refl, sym, ap, ap₂, ◌∙◌, subst, inl, inr}
use Rattle.std.specs.List.{AllByRecursion}
use Rattle.std.proofs.lemmas.Bool.{or_cases}
use Rattle.mdb_base.specs.declared.acts.Step.{Step}
use Rattle.mdb_base.specs.declared.names.Tid.{Tid}
use Rattle.mdb_base.specs.declared.names.Tx.{Tx}
use Rattle.mdb_base.specs.Names.{same_tx}
use Rattle.mdb_base.specs.Words.{some_of}
use Rattle.mdb_base.proofs.ForCallers.{or_false, same_tx-equal, some_reverse}
use Rattle.fed_rules.specs.declared.records.SiteRecord.{SiteRecord}
use Rattle.fed_rules.specs.declared.records.SiteRecord.TheVariants as Rec
use Rattle.fed_rules.specs.Found.{Journal}
use Rattle.fed_rules.specs.Reopened.{all_named, opened_site, owner_named, site_names, was_global as named_global, was_local as named_local}
use Rattle.fed_rules.specs.SitePast.{SitePast}
use Rattle.fed_rules.specs.SiteRecords.{Held}
use Rattle.field_bytes.specs.Fields.{IsTid}
use Rattle.site_journal.specs.Spelling.{IsRecord}
use Rattle.site_core.specs.Made.{is_of_local, was_local}
use Rattle.site_core.proofs.ForCallers.{came_append}
use Rattle.local_dbms.specs.Found.{found_programs, has_local, made_up}
use Rattle.local_dbms.proofs.OpenedOwned.{AreFound}

-- one more is put before what was held
pub cond_or : {A : Type 0} (a b : Bool) (x y : A) → cond a x (cond b x y) ≡ cond (a || b) x y
cond_or true b x y = refl
cond_or false b x y = refl

-- what a record has as local its lines name as local
no_held : (tx : Tx) (held : List Held) → was_local tx (map (λ (h : Held). named_global h.tid) held) ≡ false
no_held tx [] = refl
no_held tx (h ∷ held) = no_held tx held

no_owner : (tx : Tx) (o : Option Tid) → was_local tx (owner_named o) ≡ false
no_owner tx None = refl
no_owner tx (Some t) = refl

named_tids : (tx : Tx) (tids : List Tid) → was_local tx (map named_local tids) ≡ some_of (λ (t : Tid). same_tx t.tx tx) tids
named_tids tx [] = refl
named_tids tx (t ∷ tids) = ap (λ b. same_tx t.tx tx || b) (named_tids tx tids)

record_named : (tx : Tx) (r : SiteRecord) → was_local tx (site_names r) ≡ has_local tx r
record_named tx (Rec.Setup site engine protocol items) = refl
record_named tx (Rec.Start e) = refl
record_named tx (Rec.Prepared t e n ticket writes) = refl
record_named tx (Rec.Ended t d) = refl
record_named tx (Rec.Local t n writes) = or_false (same_tx t.tx tx)
record_named tx (Rec.Checkpoint sum) =
    let held : SitePast = map (λ (h : Held). named_global h.tid) sum.doubtful in
    let locals : SitePast = map named_local sum.locals in
    came_append is_of_local tx (held ++ owner_named sum.owner) locals
    ∙ ap₂ (λ a b. a || b) (came_append is_of_local tx held (owner_named sum.owner) ∙ ap₂ (λ a b. a || b) (no_held tx sum.doubtful) (no_owner tx sum.owner)) (named_tids tx sum.locals)

all_names : (tx : Tx) (rs : List SiteRecord) → was_local tx (all_named rs) ≡ some_of (has_local tx) rs
all_names tx [] = refl
all_names tx (r ∷ rs) = came_append is_of_local tx (site_names r) (all_named rs) ∙ ap₂ (λ a b. a || b) (record_named tx r) (all_names tx rs)

is_some_cond : (b : Bool) → is_some (cond {A = Option (List Step)} b (Some made_up) None) ≡ b
is_some_cond true = refl
is_some_cond false = refl

pub are_found : (journal : Journal SiteRecord) → AreFound (found_programs journal.records) (opened_site journal)
are_found journal tx = is_some_cond (some_of (has_local tx) journal.records) ∙ sym (all_names tx journal.records)

-- they are of transactions in their range
tids_range : (tx : Tx) (tids : List Tid) → AllByRecursion IsTid tids → some_of (λ (t : Tid). same_tx t.tx tx) tids ≡ true → (1 ≤ tx.0) × (tx.0 ≤ 1024)
tids_range tx [] all e = cc
tids_range tx (t ∷ tids) all e = elim (or_cases (same_tx t.tx tx) (some_of (λ (u : Tid). same_tx u.tx tx) tids) e) [
  | inl same ↦ subst (λ (x : Tx). (1 ≤ x.0) × (x.0 ≤ 1024)) (same_tx-equal t.tx tx same) (all.0.least, all.0.greatest)
  | inr rest ↦ tids_range tx tids all.1 rest
]

record_range : (tx : Tx) (r : SiteRecord) → IsRecord r → has_local tx r ≡ true → (1 ≤ tx.0) × (tx.0 ≤ 1024)
record_range tx (Rec.Local t n writes) f e = subst (λ (x : Tx). (1 ≤ x.0) × (x.0 ≤ 1024)) (same_tx-equal t.tx tx e) (f.0.least, f.0.greatest)
record_range tx (Rec.Checkpoint sum) f e = tids_range tx sum.locals f.1.1.1.1.1.1.1.1.0.2 e
record_range tx (Rec.Setup site engine protocol items) f e = cc
record_range tx (Rec.Start epoch) f e = cc
record_range tx (Rec.Prepared t epoch n ticket writes) f e = cc
record_range tx (Rec.Ended t d) f e = cc

some_range : (tx : Tx) (rs : List SiteRecord) → AllByRecursion IsRecord rs → some_of (has_local tx) rs ≡ true → (1 ≤ tx.0) × (tx.0 ≤ 1024)
some_range tx [] f e = cc
some_range tx (r ∷ rs) f e = elim (or_cases (has_local tx r) (some_of (has_local tx) rs) e) [
  | inl here ↦ record_range tx r f.0 here
  | inr rest ↦ some_range tx rs f.1 rest
]

pub found_named : (rs : List SiteRecord) → AllByRecursion IsRecord rs → (tx : Tx) → IsSome (found_programs rs tx) → (1 ≤ tx.0) × (tx.0 ≤ 1024)
found_named rs f tx some = some_range tx rs f (sym (is_some_cond (some_of (has_local tx) rs)) ∙ some)

-- those of the records that a core has are those of the journal
pub found_same : (rs : List SiteRecord) (tx : Tx) → found_programs (reverse rs) tx ≡ found_programs rs tx
found_same rs tx = ap (λ b. cond {A = Option (List Step)} b (Some made_up) None) (some_reverse (has_local tx) rs)
