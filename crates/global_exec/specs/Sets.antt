-- Sets of sites as numbers of eight bits: bit s - 1 stands for site s.
use Rattle.std.specs.Prelude.{◌≡◌, ◌==◌, ◌-◌, ◌≤◌, Bool, List}
use Rattle.std.specs.Int.{bit_at}
use Rattle.mdb_base.specs.declared.names.SiteId.{SiteId}
use Rattle.mdb_base.specs.Names.{same_site}
use Rattle.mdb_base.specs.Rising.{IsRising}
use Rattle.mdb_base.specs.Words.{Each, those, some_of}
use Rattle.global_exec.specs.declared.policy.SiteSet.{SiteSet}
use Rattle.global_exec.specs.Live.{all_sites}

-- whether the site is in the set
abbrev pub has_site : SiteSet → SiteId → Bool
has_site set site = bit_at set.0 (site.0 - 1) == 1

-- the sites of the set, which rise
abbrev pub sites_in : SiteSet → List SiteId
sites_in set = those (has_site set) all_sites

-- one of the sites that there can be
pub record IsSite (site : SiteId) : Type 0 where
  pub first : 1 ≤ site.0
  pub last : site.0 ≤ 8

-- a set that has the sites of a rising list is seen as that list
abbrev pub SetsAreLists : Type 0
SetsAreLists = (set : SiteSet) (sites : List SiteId) → IsRising (λ site. site.0) sites → Each IsSite sites
    → ((site : SiteId) → 1 ≤ site.0 → site.0 ≤ 8 → has_site set site ≡ some_of (λ other. same_site other site) sites) → sites_in set ≡ sites
