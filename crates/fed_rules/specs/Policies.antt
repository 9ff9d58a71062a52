-- When tickets may be taken. The optimistic and the conservative ticket method are of Georgakopoulos, Rusinkiewicz and Sheth (1994).
use Rattle.std.specs.Prelude.{Bool, true, not, cond, List}
use Rattle.mdb_base.specs.declared.names.SiteId.{SiteId}
use Rattle.mdb_base.specs.Names.{same_site}
use Rattle.mdb_base.specs.Words.{some_of, each_of}

-- whether an attempt of these sites may take tickets beside the attempts of those sites, which take theirs
abbrev pub Policy : Type 0
Policy = List SiteId → List (List SiteId) → Bool

-- the optimistic method: always
abbrev pub always : Policy
always own others = true

-- whether the lists have a site in common
abbrev pub share_site : List SiteId → List SiteId → Bool
share_site own other = some_of (λ site. some_of (same_site site) other) own

-- the conservative method: beside attempts of other sites alone
abbrev pub conservatively : Policy
conservatively own others = each_of (λ other. not (share_site own other)) others

-- the policy of a scenario, conservative or not
abbrev pub policy_of : Bool → Policy
policy_of conservative = cond conservative conservatively always
