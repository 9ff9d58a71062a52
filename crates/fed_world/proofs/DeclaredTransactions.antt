-- What a scenario says of its transactions: their numbers are in their range, and the steps of a global one are at declared sites.
use Rattle.std.proofs.Common.{◌≡◌, true, nat_lt, Option, Some, None, List, [], ◌∷◌, inl, inr}
use Rattle.std.proofs.lemmas.Bool.{and_parts, leb-true}
use Rattle.mdb_base.specs.declared.acts.Step.{Step}
use Rattle.mdb_base.specs.declared.names.SiteId.{SiteId}
use Rattle.mdb_base.specs.Names.{same_site}
use Rattle.mdb_base.specs.Words.{Among, Each, each_of}
use Rattle.mdb_base.proofs.ForCallers.{among_some, some_among}
use Rattle.presumptions.specs.declared.Participant.{Participant}
use Rattle.federation_laws.proofs.ForCallers.{put-in, put-kept}
use Rattle.fed_rules.specs.declared.scenario.Scenario.{Scenario}
use Rattle.fed_rules.specs.declared.scenario.SiteLine.{SiteLine}
use Rattle.fed_rules.specs.declared.scenario.TxLine.{TxLine}
use Rattle.fed_rules.specs.Plans.{IsScenario, declares, is_between, is_declared, is_in_place, is_transaction}
use Rattle.fed_rules.specs.Scenarios.{protocols, protocols_in}
use Rattle.global_exec.specs.Pasts.{IsAmong}
use Rattle.global_manager.specs.Stands.{IsDeclared, IsSited, IsSitedFrom}
use Rattle.local_dbms.specs.Stands.{IsNamed}

-- the number of a line
line_named : (lines : List SiteLine) (line : TxLine) → is_transaction lines line ≡ true → IsNamed line
line_named lines line e =
    let range = and_parts _ _ (and_parts (is_between 1 1024 line.tx.0) (each_of (is_in_place lines line.home) line.program) e).0 in
    (leb-true 1 line.tx.0 range.0, leb-true line.tx.0 1024 range.1)

each_named : (lines : List SiteLine) (xs : List TxLine) → each_of (is_transaction lines) xs ≡ true → Each IsNamed xs
each_named lines [] e = tt
each_named lines (x ∷ xs) e = let parts = and_parts (is_transaction lines x) (each_of (is_transaction lines) xs) e in (line_named lines x parts.0, each_named lines xs parts.1)

-- transactions are numbered 1 to 1,024
pub transactions_named : (scenario : Scenario) → IsScenario scenario → Each IsNamed scenario.transactions
transactions_named scenario whole = each_named scenario.sites scenario.transactions whole.transactions.in_place

-- a declared site is a participant
listed : (lines : List SiteLine) (site : SiteId) → Among (λ (l : SiteLine). declares site l ≡ true) lines → Among (λ (m : Participant). same_site m.site site ≡ true) (protocols_in lines)
listed [] site i = absurd i
listed (line ∷ lines) site (inl is) =
    put-in (λ (m : Participant). same_site m.site site ≡ true) (λ (a b : Participant). nat_lt a.site.0 b.site.0) (record { site = line.site; protocol = line.protocol }) (protocols_in lines) is
listed (line ∷ lines) site (inr i) =
    put-kept (λ (m : Participant). same_site m.site site ≡ true) (λ (a b : Participant). nat_lt a.site.0 b.site.0) (record { site = line.site; protocol = line.protocol }) (protocols_in lines) (listed lines site i)

site_among : (lines : List SiteLine) (site : SiteId) → is_declared lines site ≡ true → IsAmong site (protocols_in lines)
site_among lines site e = among_some (λ (m : Participant). same_site m.site site) (protocols_in lines) (listed lines site (some_among (declares site) lines e))

-- the steps of a transaction with no home
steps_sited : (lines : List SiteLine) (steps : List Step) → each_of (is_in_place lines None) steps ≡ true → IsSited (protocols_in lines) steps
steps_sited lines [] e = tt
steps_sited lines (step ∷ steps) e =
    let parts = and_parts (is_declared lines step.site) (each_of (is_in_place lines None) steps) e in
    (site_among lines step.site parts.0, steps_sited lines steps parts.1)

line_sited : (lines : List SiteLine) (home : Option SiteId) (steps : List Step) → each_of (is_in_place lines home) steps ≡ true → IsSitedFrom (protocols_in lines) home steps
line_sited lines None steps e = steps_sited lines steps e
line_sited lines (Some site) steps e = tt

each_declared : (lines : List SiteLine) (xs : List TxLine) → each_of (is_transaction lines) xs ≡ true → Each (IsDeclared (protocols_in lines)) xs
each_declared lines [] e = tt
each_declared lines (x ∷ xs) e =
    let parts = and_parts (is_transaction lines x) (each_of (is_transaction lines) xs) e in
    let named = line_named lines x parts.0 in
    let placed = (and_parts (is_between 1 1024 x.tx.0) (each_of (is_in_place lines x.home) x.program) parts.0).1 in
    (record { least = named.0; greatest = named.1; sited = line_sited lines x.home x.program placed }, each_declared lines xs parts.1)

-- and the steps of global ones are at its participants
pub transactions_declared : (scenario : Scenario) → IsScenario scenario → Each (IsDeclared (protocols scenario)) scenario.transactions
transactions_declared scenario whole = each_declared scenario.sites scenario.transactions whole.transactions.in_place
