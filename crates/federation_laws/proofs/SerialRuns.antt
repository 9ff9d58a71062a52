-- A program run alone on the tables of all sites reads and leaves what its accesses say, site by site.
use Rattle.std.proofs.Common.{◌≡◌, ℕ, zero, suc, Bool, true, false, cond, Some, List, [], ◌∷◌, ◌++◌, length, take, refl, sym, ◌∙◌, ap, subst}
use Rattle.mdb_base.specs.declared.acts.Step.{Step}
use Rattle.mdb_base.specs.declared.names.SiteId.{SiteId}
use Rattle.mdb_base.specs.Names.{same_site}
use Rattle.mdb_base.specs.Programs.{plain_act}
use Rattle.mdb_base.specs.Rows.{Table}
use Rattle.mdb_base.specs.Words.{item_at}
use Rattle.mdb_base.proofs.ForCallers.{same_site-refl}
use Rattle.fed_rules.specs.Runs.{Access, Got, Wrote, after}
use Rattle.fed_rules.specs.Serial.{Tables, update, Ran, reads_after, tables_after, run_steps, alone}
use Rattle.fed_rules.specs.SerialRuns.{ReadsAlone}
use Rattle.federation_laws.specs.Accesses.{SiteAccess, at, reads_in, act_of, Follows}

-- the tables, with what these accesses wrote, the last one first
abbrev pub left_by : List SiteAccess → Tables → Tables
left_by [] tables = tables
left_by (x ∷ xs) tables = tables_after x.site (act_of x.access) (left_by xs tables)

-- a run of some steps and one more
run-more : (steps : List Step) (step : Step) (reads : List ℕ) (tables : Tables) →
    run_steps (steps ++ step ∷ []) reads tables ≡ run_steps (step ∷ []) (run_steps steps reads tables).reads (run_steps steps reads tables).tables
run-more [] step reads tables = refl
run-more (first ∷ steps) step reads tables = run-more steps step _ _

-- the first steps, and one more
take-more : (n : ℕ) (steps : List Step) (step : Step) → item_at steps n ≡ Some step → take (suc n) steps ≡ take n steps ++ step ∷ []
take-more n [] step e = cc
take-more zero (x ∷ steps) step e = let p : x ≡ step = cc in ap (λ y. y ∷ []) p
take-more (suc n) (x ∷ steps) step e = ap (λ ys. x ∷ ys) (take-more n steps step e)

take-whole : (steps : List Step) → take (length steps) steps ≡ steps
take-whole [] = refl
take-whole (x ∷ steps) = ap (λ ys. x ∷ ys) (take-whole steps)

-- alone, each read gives at its site what it was answered
abbrev pub GivesReads : List SiteAccess → Tables → Type 0
GivesReads [] tables = Unit {0}
GivesReads (x ∷ xs) tables = reads_after x.site (act_of x.access) (left_by xs tables) (reads_in xs) ≡ reads_in (x ∷ xs) × GivesReads xs tables

-- what is run: the reads and the tables
abbrev ran : List ℕ → Tables → Ran
ran reads tables = record { reads = reads; tables = tables }

-- the first steps of a program leave what the accesses say
prefix : (program : List Step) (xs : List SiteAccess) (tables : Tables) → Follows program xs → GivesReads xs tables →
    run_steps (take (length xs) program) [] tables ≡ ran (reads_in xs) (left_by xs tables)
prefix program [] tables f g = refl
prefix program (x ∷ xs) tables f g =
    let is = f.0 in
    let before : run_steps (take (length xs) program) [] tables ≡ ran (reads_in xs) (left_by xs tables) = prefix program xs tables f.1 g.1 in
    let steps : run_steps (take (suc (length xs)) program) [] tables ≡ run_steps (take (length xs) program ++ is.step ∷ []) [] tables =
    ap (λ ps. run_steps ps [] tables) (take-more (length xs) program is.step is.place) in
    let more = run-more (take (length xs) program) is.step [] tables in
    let one : run_steps (is.step ∷ []) (run_steps (take (length xs) program) [] tables).reads (run_steps (take (length xs) program) [] tables).tables ≡ run_steps (is.step ∷ []) (reads_in xs) (left_by xs tables) =
    ap (λ (r : Ran). run_steps (is.step ∷ []) r.reads r.tables) before in
    let at_site : run_steps (is.step ∷ []) (reads_in xs) (left_by xs tables) ≡ ran (reads_after x.site (plain_act (reads_in xs) is.step.act) (left_by xs tables) (reads_in xs)) (tables_after x.site (plain_act (reads_in xs) is.step.act) (left_by xs tables)) =
    ap (λ s. ran (reads_after s (plain_act (reads_in xs) is.step.act) (left_by xs tables) (reads_in xs)) (tables_after s (plain_act (reads_in xs) is.step.act) (left_by xs tables))) is.site in
    let acted : ran (reads_after x.site (plain_act (reads_in xs) is.step.act) (left_by xs tables) (reads_in xs)) (tables_after x.site (plain_act (reads_in xs) is.step.act) (left_by xs tables)) ≡ ran (reads_after x.site (act_of x.access) (left_by xs tables) (reads_in xs)) (tables_after x.site (act_of x.access) (left_by xs tables)) =
    ap (λ a. ran (reads_after x.site a (left_by xs tables) (reads_in xs)) (tables_after x.site a (left_by xs tables))) is.act in
    let given : ran (reads_after x.site (act_of x.access) (left_by xs tables) (reads_in xs)) (tables_after x.site (act_of x.access) (left_by xs tables)) ≡ ran (reads_in (x ∷ xs)) (left_by (x ∷ xs) tables) =
    ap (λ rs. ran rs (left_by (x ∷ xs) tables)) g.0 in
    steps ∙ (more ∙ (one ∙ (at_site ∙ (acted ∙ given))))

-- a whole program does
pub program-alone : (program : List Step) (xs : List SiteAccess) (tables : Tables) → Follows program xs → length xs ≡ length program → GivesReads xs tables →
    alone program tables ≡ ran (reads_in xs) (left_by xs tables)
program-alone program xs tables f whole g =
    ap (λ ps. run_steps ps [] tables) (sym (ap (λ n. take n program) whole ∙ take-whole program)) ∙ prefix program xs tables f g

after-step : (site : SiteId) (x : SiteAccess) (xs : List SiteAccess) (tables : Tables) (t : Bool) → same_site x.site site ≡ t →
    left_by xs tables site ≡ after (at site xs) (tables site) → left_by (x ∷ xs) tables site ≡ after (cond t (x.access ∷ at site xs) (at site xs)) (tables site)
after-step site x xs tables t e ih = by_access x.access t e
  where
    by_access : (a : Access) (t : Bool) → same_site x.site site ≡ t → tables_after x.site (act_of a) (left_by xs tables) site ≡ after (cond t (a ∷ at site xs) (at site xs)) (tables site)
    by_access (Got key value) true e = ih
    by_access (Got key value) false e = ih
    by_access (Wrote key value) true e = ap (λ t. cond t (update key value (left_by xs tables site)) (left_by xs tables site)) e ∙ ap (λ table. update key value table) ih
    by_access (Wrote key value) false e = ap (λ t. cond t (update key value (left_by xs tables site)) (left_by xs tables site)) e ∙ ih

-- at each site they leave what those of the site leave
pub left-at : (site : SiteId) (xs : List SiteAccess) (tables : Tables) → left_by xs tables site ≡ after (at site xs) (tables site)
left-at site [] tables = refl
left-at site (x ∷ xs) tables = after-step site x xs tables (same_site x.site site) refl (left-at site xs tables)

behind : (site : SiteId) (x : SiteAccess) (xs : List SiteAccess) (table : Table) (t : Bool) → ReadsAlone (cond t (x.access ∷ at site xs) (at site xs)) table → ReadsAlone (at site xs) table
behind site x xs table true h = first x.access h
  where
    first : (a : Access) → ReadsAlone (a ∷ at site xs) table → ReadsAlone (at site xs) table
    first (Got key value) h = h.1
    first (Wrote key value) h = h
behind site x xs table false h = h

here : (site : SiteId) (a : Access) (xs : List SiteAccess) (tables : Tables) → ReadsAlone (a ∷ at site xs) (tables site) →
    reads_after site (act_of a) (left_by xs tables) (reads_in xs) ≡ reads_in (record { site = site; access = a } ∷ xs)
here site (Got key value) xs tables h =
    ap (λ v. reads_in xs ++ v ∷ []) (ap (λ table. table key) (left-at site xs tables) ∙ sym h.0)
here site (Wrote key value) xs tables h = refl

-- where at each site the accesses there read alone what they were answered, the program does so over all sites
pub gives-reads : (xs : List SiteAccess) (tables : Tables) → ((site : SiteId) → ReadsAlone (at site xs) (tables site)) → GivesReads xs tables
gives-reads [] tables h = tt
gives-reads (x ∷ xs) tables h = (
  here x.site x.access xs tables (let e : same_site x.site x.site ≡ true = same_site-refl x.site in let k : ReadsAlone (cond (same_site x.site x.site) (x.access ∷ at x.site xs) (at x.site xs)) (tables x.site) = h x.site in
      subst (λ t. ReadsAlone (cond t (x.access ∷ at x.site xs) (at x.site xs)) (tables x.site)) e k),
  gives-reads xs tables (λ site. behind site x xs (tables site) (same_site x.site site) (h site)),
)
