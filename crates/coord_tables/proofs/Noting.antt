-- The least tickets of the stages.
use Rattle.std.proofs.Common.{◌≡◌, ℕ, ◌+◌, ◌<◌, Option, None, List, ◌++◌, length, map, take, get_or, sym, ap, subst, ◌∙◌, add-one, append_assoc}
use Rattle.std.proofs.lemmas.List.{take_more, map_push}
use Rattle.mdb_base.specs.declared.names.SiteTicket.{SiteTicket}
use Rattle.ticket_graph.specs.Reach.{IsLowest, joined}
use Rattle.ticket_graph.proofs.ForCallers.{joined_last}
use Rattle.coord_tables.specs.declared.stages.Stage.{Stage}
use Rattle.coord_tables.specs.Stages.{noted_below, noted_one, stage_tickets}

-- the noted tickets with those of the next site
pub noted_next : (lowest : List ℕ) (met : List SiteTicket) (n : ℕ) (tickets : List (Option ℕ)) (ks : List SiteTicket) → noted_one n (get_or tickets n None) ≡ ks
    → IsLowest lowest ((met ++ noted_below n tickets) ++ ks) → IsLowest lowest (met ++ noted_below (n + 1) tickets)
noted_next lowest met n tickets ks e h =
    let more : noted_below (n + 1) tickets ≡ noted_below n tickets ++ ks = ap (λ (m : ℕ). noted_below m tickets) (add-one n) ∙ ap (λ (zs : List SiteTicket). noted_below n tickets ++ zs) e in
    subst (λ (zs : List SiteTicket). IsLowest lowest zs) (append_assoc met (noted_below n tickets) ks ∙ ap (λ (zs : List SiteTicket). met ++ zs) (sym more)) h

-- those of the first stages with those of the next one
pub joined_next : (lowest : List ℕ) (stages : List Stage) (i : ℕ) (d : Stage) → i < length stages
    → IsLowest lowest (joined (map stage_tickets (take i stages)) ++ stage_tickets (get_or stages i d)) → IsLowest lowest (joined (map stage_tickets (take (i + 1) stages)))
joined_next lowest stages i d less h =
    let more : joined (map stage_tickets (take (i + 1) stages)) ≡ joined (map stage_tickets (take i stages)) ++ stage_tickets (get_or stages i d) =
    ap (λ (ss : List Stage). joined (map stage_tickets ss)) (take_more stages i d less)
    ∙ ap joined (map_push stage_tickets (take i stages) (get_or stages i d))
    ∙ joined_last (map stage_tickets (take i stages)) (stage_tickets (get_or stages i d)) in
    subst (λ (zs : List SiteTicket). IsLowest lowest zs) (sym more) h
