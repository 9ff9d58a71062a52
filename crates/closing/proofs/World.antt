-- What is taken from the relation of a world, and of the session that it stands for.
use Rattle.std.proofs.Common.{◌≡◌, Bool, Option, Some, None, List, length, refl, sym, ap, ◌∙◌, subst, inl, inr}
use Rattle.mdb_base.specs.declared.names.Tid.{Tid}
use Rattle.std.specs.Global.{Vec}
use Rattle.fed_rules.specs.declared.commands.Command.{Command}
use Rattle.fed_rules.specs.declared.records.CoordRecord.{CoordRecord}
use Rattle.fed_rules.specs.declared.scenario.Scenario.{Scenario}
use Rattle.fed_rules.specs.Found.{Found, Journal, nothing}
use Rattle.fed_rules.specs.Scenarios.{sites}
use Rattle.fed_rules.specs.Sessions.{Session, fresh}
use Rattle.journal_disk.specs.Disk.{Seen}
use Rattle.commit_laws.proofs.ForCallers.{undeclared}
use Rattle.closing_laws.proofs.ForCallers.{UndeclaredAreSilent}
use Rattle.found_laws.proofs.ForCallers.{quiet}
use Rattle.fed_world.specs.declared.world.World.{World}
use Rattle.fed_world.specs.Beginnings.{Begins, Remembers, scenario_by, scenario_of}
use Rattle.fed_world.specs.Worlds.{HasLines, Stands}

-- there are nine disks
pub nine : (tells : Bool) (world : World) (disks : List Seen) (session : Session) (commands : List Command) → Stands tells world disks session commands → length disks ≡ 9
nine tells world disks session commands s = s.stand.others.nine

pub has_lines : (tells : Bool) (world : World) (disks : List Seen) (session : Session) (commands : List Command) → Stands tells world disks session commands → HasLines world session commands
has_lines tells world disks session commands s = s.has

-- the scenario of a world declares the sites of its session
pub its_sites : (session : Session) → sites (scenario_of session) ≡ sites session.plan
its_sites session = by_found session.found.coordinator
  where
    by_found : (o : Option (Journal CoordRecord)) → sites (scenario_by o session.plan) ≡ sites session.plan
    by_found None = refl
    by_found (Some journal) = refl

-- nothing happens at a site that isn't declared
pub silent : (session : Session) → Begins session → UndeclaredAreSilent session
silent session (inl e) = subst UndeclaredAreSilent (sym e) (undeclared session.plan)
silent session (inr goes) = subst UndeclaredAreSilent (sym goes.is) (λ site commands none. quiet session.found goes.usable site commands none)

-- ---- a session that began with empty disks is the only one that its world stands for

found_nothing : (begun : Option (Vec Tid)) (found : Found) → Remembers begun nothing → Remembers begun found → found ≡ nothing
found_nothing None found h k = k
found_nothing (Some tids) found (journal, is, tids_are) k = cc

pub same_session : (world : World) (session : Session) (scenario : Scenario) (a b : List Command) → HasLines world session a → HasLines world (fresh scenario) b → session ≡ fresh scenario
same_session world session scenario a b h k =
    let none = found_nothing world.begun session.found k.remembers h.remembers in
    let plan : session.plan ≡ scenario = sym (ap (λ (found : Found). scenario_by found.coordinator session.plan) none) ∙ (sym h.scenario_is ∙ k.scenario_is) in
    ap (λ (found : Found). let s : Session = record { plan = session.plan; found = found } in s) none ∙ ap fresh plan

pub same_commands : (world : World) (s t : Session) (a b : List Command) → HasLines world s a → HasLines world t b → a ≡ b
same_commands world s t a b h k = sym h.commands_are ∙ k.commands_are

-- what holds of the one holds of the other
pub of_one_story : (P : Session → List Command → Type 0) (world : World) (session : Session) (scenario : Scenario) (a b : List Command) → HasLines world session a → HasLines world (fresh scenario) b
    → P session a → P (fresh scenario) b
of_one_story P world session scenario a b h k p =
    subst (λ cs. P (fresh scenario) cs) (same_commands world session (fresh scenario) a b h k) (subst (λ z. P z a) (same_session world session scenario a b h k) p)

pub of_one_scenario : (P : Scenario → List Command → Type 0) (world : World) (s t : Scenario) (a b : List Command) → HasLines world (fresh s) a → HasLines world (fresh t) b → P s a → P t b
of_one_scenario P world s t a b h k p =
    let same : s ≡ t = sym h.scenario_is ∙ k.scenario_is in
    subst (λ cs. P t cs) (same_commands world (fresh s) (fresh t) a b h k) (subst (λ z. P z a) same p)
