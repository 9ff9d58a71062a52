-- What a scenario says of a global transaction: its program, that it has no home, and that its sites are declared.
use Rattle.std.proofs.Common.{◌≡◌, Bool, true, false, ◌||◌, nat_lt, Option, Some, None, List, [], ◌∷◌, refl, sym, ap, subst, ◌∙◌}
use Rattle.std.proofs.lemmas.Bool.{and_parts}
use Rattle.mdb_base.specs.declared.acts.Step.{Step}
use Rattle.mdb_base.specs.declared.names.SiteId.{SiteId}
use Rattle.mdb_base.specs.declared.names.Tx.{Tx}
use Rattle.mdb_base.specs.Names.{same_site, same_tx}
use Rattle.mdb_base.specs.Programs.{IsProgram}
use Rattle.mdb_base.specs.Words.{Among, each_of, map_some}
use Rattle.mdb_base.proofs.ForCallers.{same_site-equal, some_parts}
use Rattle.presumptions.specs.declared.Participant.{Participant}
use Rattle.order_laws.specs.Chains.{In}
use Rattle.order_laws.proofs.ForCallers.{each_at, each_of_at, first_where_some, some_of_is}
use Rattle.fed_rules.specs.declared.scenario.Scenario.{Scenario}
use Rattle.fed_rules.specs.declared.scenario.SiteLine.{SiteLine}
use Rattle.fed_rules.specs.declared.scenario.TxLine.{TxLine}
use Rattle.fed_rules.specs.CoordPast.{visits}
use Rattle.fed_rules.specs.Plans.{IsScenario, is_declared, is_in_place, is_transaction, is_between}
use Rattle.fed_rules.specs.Scenarios.{protocols_in, protocols, transaction, program_of_line, program_of, home_of_line, local_site, global_line, global_program}
use Rattle.federation_laws.proofs.Declared.{put-in, put-kept}

global-is : (o : Option TxLine) (steps : List Step) → map_some (λ line. line.program) (global_line o) ≡ Some steps → (program_of_line o ≡ steps) × (home_of_line o ≡ None)
global-is None steps e = cc
global-is (Some line) steps e = by_home line.home e
  where
    by_home : (home : Option SiteId) → map_some (λ (l : TxLine). l.program) (global_line (Some (record line { home = home }))) ≡ Some steps → (line.program ≡ steps) × (home ≡ None)
    by_home None e = (some_parts e, refl)
    by_home (Some site) e = cc

-- the program of a global transaction is that of its line, which has no home
pub global_program-is : (scenario : Scenario) (tx : Tx) (steps : List Step) → global_program scenario tx ≡ Some steps → (program_of scenario tx ≡ steps) × (local_site scenario tx ≡ None)
global_program-is scenario tx steps e = global-is (transaction scenario tx) steps e

-- a declared site is a participant
declared-participant : (lines : List SiteLine) (s : SiteId) → is_declared lines s ≡ true → Among (λ p. p.site ≡ s) (protocols_in lines)
declared-participant [] s e = cc
declared-participant (line ∷ lines) s e = by_test (same_site line.site s) refl e (declared-participant lines s)
  where
    by_test : (t : Bool) → same_site line.site s ≡ t → (t || is_declared lines s) ≡ true → (is_declared lines s ≡ true → Among (λ p. p.site ≡ s) (protocols_in lines)) → Among (λ p. p.site ≡ s) (protocols_in (line ∷ lines))
    by_test true q e k = put-in (λ (p : Participant). p.site ≡ s) (λ a b. nat_lt a.site.0 b.site.0) (record { site = line.site; protocol = line.protocol }) (protocols_in lines) (same_site-equal line.site s q)
    by_test false q e k = put-kept (λ (p : Participant). p.site ≡ s) (λ a b. nat_lt a.site.0 b.site.0) (record { site = line.site; protocol = line.protocol }) (protocols_in lines) (k e)

-- the sites of a program in place are declared
visited-declared : (lines : List SiteLine) (home : Option SiteId) (steps : List Step) (s : SiteId) → home ≡ None → each_of (is_in_place lines home) steps ≡ true → visits s steps ≡ true → is_declared lines s ≡ true
visited-declared lines home steps s none e v =
    let (step, i, q) = some_of_is (λ (step : Step). same_site step.site s) steps v in
    let in_place : is_in_place lines home step ≡ true = each_of_at (is_in_place lines home) steps step e i in
    let declared : is_declared lines step.site ≡ true = sym (ap (λ h. is_in_place lines h step) none) ∙ in_place in
    subst (λ z. is_declared lines z ≡ true) (same_site-equal step.site s q) declared

line-declared : (scenario : Scenario) → IsScenario scenario → (tx : Tx) (o : Option TxLine) → transaction scenario tx ≡ o → home_of_line o ≡ None → (s : SiteId) → visits s (program_of_line o) ≡ true → is_declared scenario.sites s ≡ true
line-declared scenario good tx None e none s v = cc
line-declared scenario good tx (Some line) e none s v =
    let listed = (first_where_some (λ (l : TxLine). same_tx l.tx tx) scenario.transactions line e).0 in
    let ok : is_transaction scenario.sites line ≡ true = each_of_at (is_transaction scenario.sites) scenario.transactions line good.transactions.in_place listed in
    visited-declared scenario.sites line.home line.program s none (and_parts (is_between 1 1024 line.tx.0) (each_of (is_in_place scenario.sites line.home) line.program) ok).1 v

-- the sites of a global program are participants
pub global-declared : (scenario : Scenario) → IsScenario scenario → (tx : Tx) → local_site scenario tx ≡ None → (s : SiteId) → visits s (program_of scenario tx) ≡ true → Among (λ p. p.site ≡ s) (protocols scenario)
global-declared scenario good tx none s v = declared-participant scenario.sites s (line-declared scenario good tx (transaction scenario tx) refl none s v)

local-steps : (lines : List SiteLine) (home : SiteId) (steps : List Step) → each_of (is_in_place lines (Some home)) steps ≡ true → (step : Step) → In step steps → step.site ≡ home
local-steps lines home steps e step i = same_site-equal step.site home (and_parts (is_declared lines home) (same_site step.site home) (each_of_at (is_in_place lines (Some home)) steps step e i)).1

line-local : (scenario : Scenario) → IsScenario scenario → (tx : Tx) (o : Option TxLine) → transaction scenario tx ≡ o → (home : SiteId) → home_of_line o ≡ Some home → (step : Step) → In step (program_of_line o) → step.site ≡ home
line-local scenario good tx None e home h step i = cc
line-local scenario good tx (Some line) e home h step i =
    let listed = (first_where_some (λ (l : TxLine). same_tx l.tx tx) scenario.transactions line e).0 in
    let ok : is_transaction scenario.sites line ≡ true = each_of_at (is_transaction scenario.sites) scenario.transactions line good.transactions.in_place listed in
    let in_place = (and_parts (is_between 1 1024 line.tx.0) (each_of (is_in_place scenario.sites line.home) line.program) ok).1 in
    local-steps scenario.sites home line.program (sym (ap (λ o. each_of (is_in_place scenario.sites o) line.program) h) ∙ in_place) step i

-- the steps of a local program are at its home
pub local-at-home : (scenario : Scenario) → IsScenario scenario → (tx : Tx) (home : SiteId) → local_site scenario tx ≡ Some home → (step : Step) → In step (program_of scenario tx) → step.site ≡ home
local-at-home scenario good tx home h step i = line-local scenario good tx (transaction scenario tx) refl home h step i

-- a global transaction's program is one
pub program_fits : (scenario : Scenario) (tx : Tx) (steps : List Step) → IsScenario scenario → global_program scenario tx ≡ Some steps → IsProgram steps
program_fits scenario tx steps whole e = by_line (transaction scenario tx) refl
  where
    p : program_of scenario tx ≡ steps
    p = (global_program-is scenario tx steps e).0

    by_line : (o : Option TxLine) → transaction scenario tx ≡ o → IsProgram steps
    by_line None f = (let none : map_some (λ (l : TxLine). l.program) (global_line None) ≡ Some steps = ap (λ w. map_some (λ (l : TxLine). l.program) (global_line w)) (sym f) ∙ e in cc)
    by_line (Some line) f =
        let listed = (first_where_some (λ (l : TxLine). same_tx l.tx tx) scenario.transactions line f).0 in
        subst IsProgram (sym (ap program_of_line f) ∙ p) (each_at (λ (l : TxLine). IsProgram l.program) line scenario.transactions whole.transactions.programs listed)
