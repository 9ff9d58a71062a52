-- The scripts of the rings of a run, by the link lines of its scenario.
use Rattle.std.specs.Prelude.{◌&&◌, Bool, cond, nat_lt, List, [], ◌∷◌}
use Rattle.mdb_base.specs.declared.names.SiteId.{SiteId}
use Rattle.mdb_base.specs.Names.{same_site}
use Rattle.mdb_base.specs.Words.{inserted}
use Rattle.fed_rules.specs.declared.scenario.LinkLine.{LinkLine}
use Rattle.fed_rules.specs.declared.scenario.Scenario.{Scenario}
use Rattle.fed_rules.specs.Plans.{same_way}
use Rattle.scripted_link.specs.declared.script.FateAt.{FateAt}

-- whether the line is of the ring to the site, or of the one from it
abbrev pub is_of_ring : Bool → SiteId → LinkLine → Bool
is_of_ring to site line = same_way line.to to && same_site line.site site

abbrev pub fate_of : LinkLine → FateAt
fate_of line = record { place = line.place; fate = line.fate }

-- the script of a ring, by rising place
abbrev pub script_in : Bool → SiteId → List LinkLine → List FateAt
script_in to site [] = []
script_in to site (line ∷ lines) =
    cond (is_of_ring to site line) (inserted (λ a b. nat_lt a.place b.place) (fate_of line) (script_in to site lines)) (script_in to site lines)

abbrev pub script_of : Scenario → Bool → SiteId → List FateAt
script_of scenario to site = script_in to site scenario.links
