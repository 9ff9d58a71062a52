-- The accesses of an attempt over all sites, newest first, and those of its program.
use Rattle.std.specs.Prelude.{ℕ, ◌≡◌, cond, Some, List, [], ◌∷◌, length}
use Rattle.mdb_base.specs.declared.acts.PlainAct.{PlainAct}
use Rattle.mdb_base.specs.declared.acts.PlainAct.TheVariants.{Read, Write}
use Rattle.mdb_base.specs.declared.acts.Step.{Step}
use Rattle.mdb_base.specs.declared.names.SiteId.{SiteId}
use Rattle.mdb_base.specs.Names.{same_site}
use Rattle.mdb_base.specs.Programs.{plain_act}
use Rattle.mdb_base.specs.Words.{found, item_at}
use Rattle.fed_rules.specs.CoordPast.{oldest_first}
use Rattle.fed_rules.specs.Runs.{Access, Got, Wrote}
use Rattle.fed_rules.specs.Story.{value_of}

-- an access at a site
pub record SiteAccess : Type 0 where
  pub site : SiteId
  pub access : Access

-- those of one site
abbrev pub at : SiteId → List SiteAccess → List Access
at site [] = []
at site (x ∷ xs) = cond (same_site x.site site) (x.access ∷ at site xs) (at site xs)

-- the values that were read, in program order
abbrev pub reads_in : List SiteAccess → List ℕ
reads_in xs = oldest_first (found (λ x. value_of x.access) xs)

-- the act that was granted
abbrev pub act_of : Access → PlainAct
act_of (Got key value) = Read key
act_of (Wrote key value) = Write key value

-- behind these accesses this one is the next step of the program, filled in with the values that they read
pub record IsStep (program : List Step) (earlier : List SiteAccess) (x : SiteAccess) : Type 0 where
  pub step : Step
  pub place : item_at program (length earlier) ≡ Some step
  pub site : step.site ≡ x.site
  pub act : plain_act (reads_in earlier) step.act ≡ act_of x.access

-- each access is the next step of the program behind the earlier ones
abbrev pub Follows : List Step → List SiteAccess → Type 0
Follows program [] = Unit {0}
Follows program (x ∷ xs) = IsStep program xs x × Follows program xs

-- these are the accesses of the whole program
pub record Ran (program : List Step) (accesses : List SiteAccess) : Type 0 where
  pub follows : Follows program accesses
  pub whole : length accesses ≡ length program
