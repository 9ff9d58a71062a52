-- Programs run one after another in any order in which each site's members are serial there.
use Rattle.std.proofs.Common.{◌≡◌, ℕ, Bool, true, false, cond, List, [], ◌∷◌, refl, sym, ◌∙◌, ap, subst, map, inl, inr}
use Rattle.mdb_base.specs.declared.acts.Step.{Step}
use Rattle.mdb_base.specs.declared.names.SiteId.{SiteId}
use Rattle.mdb_base.specs.declared.names.Tid.{Tid}
use Rattle.mdb_base.specs.Rows.{Table}
use Rattle.mdb_base.specs.Words.{those}
use Rattle.order_laws.specs.Chains.{In}
use Rattle.fed_rules.specs.Runs.{Access, after}
use Rattle.fed_rules.specs.Serial as Machine
use Rattle.fed_rules.specs.Serial.{Tables, alone, serial_reads, serial_tables}
use Rattle.fed_rules.specs.SerialRuns.{ReadsAlone}
use Rattle.federation_laws.specs.Accesses.{SiteAccess, at, reads_in, Ran}
use Rattle.site_history.specs.SiteOrders.{SiteSerial, table_after}
use Rattle.federation_laws.proofs.SerialRuns.{left_by, program-alone, left-at, gives-reads}

-- what one member did: its program's accesses with the values that it read, at each site where it is a member what it did there, and
-- elsewhere none
pub record Did (program : Tid → List Step) (reads : Tid → List ℕ) (member : SiteId → Tid → Bool) (acts : SiteId → Tid → List Access) (tid : Tid) : Type 0 where
  pub accesses : List SiteAccess
  pub ran : Ran (program tid) accesses
  pub values : reads_in accesses ≡ reads tid
  pub inside : (site : SiteId) → member site tid ≡ true → at site accesses ≡ acts site tid
  pub outside : (site : SiteId) → member site tid ≡ false → at site accesses ≡ []

-- the first of an order reads alone at each site, and leaves there the table from which the others go on
first-reads : (own : List Access) (acts : Tid → List Access) (t : Tid) (rest : List Tid) (table : Table) (b : Bool) → (b ≡ true → own ≡ acts t) → (b ≡ false → own ≡ []) →
    SiteSerial acts table (cond b (t ∷ rest) rest) → ReadsAlone own table × SiteSerial acts (after own table) rest × (table_after acts table (cond b (t ∷ rest) rest) ≡ table_after acts (after own table) rest)
first-reads own acts t rest table true p q h =
    let e : acts t ≡ own = sym (p refl) in
    (subst (λ a. ReadsAlone a table) e h.0, subst (λ a. SiteSerial acts (after a table) rest) e h.1, ap (λ a. table_after acts (after a table) rest) e)
first-reads own acts t rest table false p q h =
    let e : [] ≡ own = sym (q refl) in
    (subst (λ a. ReadsAlone a table) e tt, subst (λ a. SiteSerial acts (after a table) rest) e h, ap (λ a. table_after acts (after a table) rest) e)

-- what running the programs of an order gives
pub record Gives (program : Tid → List Step) (reads : Tid → List ℕ) (member : SiteId → Tid → Bool) (acts : SiteId → Tid → List Access) (tables : Tables) (order : List Tid) : Type 0 where
  pub reads_of : serial_reads (map program order) tables ≡ map reads order
  pub tables_of : (site : SiteId) → serial_tables (map program order) tables site ≡ table_after (acts site) (tables site) (those (member site) order)

pub serial-gives : (program : Tid → List Step) (reads : Tid → List ℕ) (member : SiteId → Tid → Bool) (acts : SiteId → Tid → List Access) (order : List Tid) (tables : Tables) →
    ((tid : Tid) → In tid order → Did program reads member acts tid) → ((site : SiteId) → SiteSerial (acts site) (tables site) (those (member site) order)) → Gives program reads member acts tables order
serial-gives program reads member acts [] tables m h = record { reads_of = refl; tables_of = λ site. refl }
serial-gives program reads member acts (t ∷ order) tables m h =
    let did = m t (inl refl) in
    let own = did.accesses in
    let first = λ (site : SiteId). first-reads (at site own) (acts site) t (those (member site) order) (tables site) (member site t) (did.inside site) (did.outside site) (h site) in
    let ran : alone (program t) tables ≡ record { reads = reads_in own; tables = left_by own tables } =
    program-alone (program t) own tables did.ran.follows did.ran.whole (gives-reads own tables (λ site. (first site).0)) in
    let rest = serial-gives program reads member acts order (left_by own tables) (λ tid i. m tid (inr i))
    (λ site. subst (λ table. SiteSerial (acts site) table (those (member site) order)) (sym (left-at site own tables)) (first site).1) in
    record {
      reads_of = ap (λ (r : Machine.Ran). r.reads ∷ serial_reads (map program order) r.tables) ran ∙ (ap (λ rs. rs ∷ serial_reads (map program order) (left_by own tables)) did.values ∙ ap (λ rs. reads t ∷ rs) rest.reads_of);
      tables_of = λ site.
          ap (λ (r : Machine.Ran). serial_tables (map program order) r.tables site) ran
          ∙ (rest.tables_of site ∙ (ap (λ table. table_after (acts site) table (those (member site) order)) (left-at site own tables) ∙ sym (first site).2));
    }
