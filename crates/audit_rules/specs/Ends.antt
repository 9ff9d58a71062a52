-- How the lines have to end: with all at rest; and the test of a printed order.
use Rattle.std.specs.Prelude.{Bool, true, false, not, ◌&&◌, is_none, List, [], ◌∷◌}
use Rattle.mdb_base.specs.declared.names.SiteId.{SiteId}
use Rattle.mdb_base.specs.declared.names.Tid.{Tid}
use Rattle.mdb_base.specs.Names.{same_tid}
use Rattle.mdb_base.specs.Words.{each_of, some_of, those, is_empty}
use Rattle.order_laws.specs.Orders.{is_in}
use Rattle.fed_rules.specs.declared.scenario.Scenario.{Scenario}
use Rattle.fed_rules.specs.Closing.{live, in_doubt_at, known}
use Rattle.fed_rules.specs.CoordPast as Coordinator
use Rattle.fed_rules.specs.Happenings.{is_down}
use Rattle.fed_rules.specs.Scenarios.{home_of, sites}
use Rattle.fed_rules.specs.SitePast.{trip}
use Rattle.fed_rules.specs.Story.{Story, coord_past, past_of}

-- whether the site is up, no trip of it is armed, and nothing is live or in doubt there
abbrev pub site_rests : Scenario → Story → SiteId → Bool
site_rests scenario story site =
    not (is_down (past_of site story)) && is_none (trip (past_of site story)) && is_empty (live scenario story site)
    && is_empty (in_doubt_at (home_of scenario site) story)

-- whether every actor is up, no trip is armed, and nothing is live, in doubt or known
unfoldable pub rests : Scenario → Story → Bool
rests scenario story =
    not (is_down (coord_past story)) && is_none (Coordinator.trip (coord_past story)) && is_empty (known scenario story)
    && each_of (site_rests scenario story) (sites scenario)

abbrev pub same_tids : List Tid → List Tid → Bool
same_tids [] [] = true
same_tids [] (b ∷ bs) = false
same_tids (a ∷ as') [] = false
same_tids (a ∷ as') (b ∷ bs) = same_tid a b && same_tids as' bs

-- whether the order names each member of each of these orders, in its order, and nothing else
unfoldable pub merges : List (List Tid) → List Tid → Bool
merges orders order =
    each_of (λ ts. same_tids (those (is_in same_tid ts) order) ts) orders && each_of (λ t. some_of (λ ts. is_in same_tid ts t) orders) order
