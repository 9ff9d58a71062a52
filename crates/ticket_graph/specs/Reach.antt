-- Which attempts of a list in order tickets lead to, and how high the tickets of the others are.
use Rattle.std.specs.Prelude.{ℕ, ◌≡◌, ◌<◌, ◌^◌, Bool, cond, nat_lt, ◌&&◌, List, [], ◌∷◌, ◌++◌, get_or}
use Rattle.mdb_base.specs.declared.names.SiteId.{SiteId}
use Rattle.mdb_base.specs.declared.names.SiteTicket.{SiteTicket}
use Rattle.mdb_base.specs.Names.{same_site}
use Rattle.mdb_base.specs.Words.{some_of}
use Rattle.order_laws.specs.Tickets.{Ticketed, is_above}

-- whether one of these tickets is a smaller one of its site than this
abbrev pub is_over : List SiteTicket → SiteTicket → Bool
is_over met ticket = some_of (λ k. is_above k ticket) met

-- whether at some site the first tickets have a smaller one than the second
abbrev pub are_before : List SiteTicket → List SiteTicket → Bool
are_before own other = some_of (is_over own) other

-- the attempts that these tickets lead to, by an edge or by edges over others that they lead to, where no edge of the list leads backwards
abbrev pub reached : List SiteTicket → List Ticketed → List Ticketed
reached met [] = []
reached met (a ∷ attempts) = cond (are_before met a.tickets) (a ∷ reached (met ++ a.tickets) attempts) (reached met attempts)

-- the others
abbrev pub unreached : List SiteTicket → List Ticketed → List Ticketed
unreached met [] = []
unreached met (a ∷ attempts) = cond (are_before met a.tickets) (unreached (met ++ a.tickets) attempts) (a ∷ unreached met attempts)

-- the tickets of several attempts
abbrev pub joined : List (List SiteTicket) → List SiteTicket
joined [] = []
joined (tickets ∷ more) = tickets ++ joined more

-- the floor of a site with one more ticket below it
abbrev pub raised : SiteId → ℕ → SiteTicket → ℕ
raised site floor ticket = cond (same_site ticket.site site && nat_lt floor ticket.ticket) ticket.ticket floor

-- the floor of a site with these tickets below it
abbrev pub highest : SiteId → ℕ → List SiteTicket → ℕ
highest site floor [] = floor
highest site floor (ticket ∷ tickets) = highest site (raised site floor ticket) tickets

-- the floor of a site with these attempts below it
abbrev pub highest_of : SiteId → ℕ → List Ticketed → ℕ
highest_of site floor [] = floor
highest_of site floor (a ∷ attempts) = highest_of site (highest site floor a.tickets) attempts

-- the number of a site in a table of all sites
abbrev pub floor_in : List ℕ → SiteId → ℕ
floor_in floors site = get_or floors site.0 0

-- the table has the least of these tickets at each site, and 2 ^ 64 - 1 where there is none
abbrev pub IsLowest : List ℕ → List SiteTicket → Type 0
IsLowest lowest met =
    (ticket : SiteTicket) → ticket.site.0 < 256 → ticket.ticket < 2 ^ 64 → nat_lt (get_or lowest ticket.site.0 0) ticket.ticket ≡ is_over met ticket
