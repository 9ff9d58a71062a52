-- What is dropped, and how high the floors are then.
use Rattle.std.proofs.Common.{◌≡◌, true, false, List, [], ◌∷◌, refl, sym, ◌∙◌, subst, inl, inr, arith}
use Rattle.mdb_base.specs.declared.names.SiteId.{SiteId}
use Rattle.mdb_base.specs.declared.names.SiteTicket.{SiteTicket}
use Rattle.mdb_base.specs.Words.{Each, Among}
use Rattle.order_laws.specs.Chains.{In}
use Rattle.order_laws.specs.Tickets.{Ticketed, OneEach}
use Rattle.ticket_graph.specs.Graph.{Graph, floor_of, IsDropped, IsForwards, IsHeld, IsPruned, IsRaised}
use Rattle.ticket_graph.specs.Graph.IsHeld.{Waits, Follows}
use Rattle.ticket_graph.specs.Reach.{are_before, floor_in, highest_of, joined, reached, unreached}
use Rattle.ticket_graph.proofs.Heights.{highest_of_more, highest_of_below, highest_of_one, below_each}
use Rattle.ticket_graph.proofs.Reaching.{IsLed, before_some, before_fewer, before_less, reached_in, unreached_in, in_either_part, in_one_part, unreached_free, unreached_behind, reached_led}
use Rattle.ticket_graph.proofs.Reaching.IsLed.{Met, From}

pub nothing_before : (other : List SiteTicket) → are_before [] other ≡ true → ⊥
nothing_before [] e = cc
nothing_before (k ∷ ks) e = nothing_before ks e

-- one of the waiting attempts has a smaller ticket
some_waits : (waiting : List (List SiteTicket)) (other : List SiteTicket) → are_before (joined waiting) other ≡ true →
    Among (λ tickets. are_before tickets other ≡ true) waiting
some_waits [] other e = nothing_before other e
some_waits (ks ∷ waiting) other e = elim (before_some ks (joined waiting) other e) [ inl h ↦ inl h | inr h ↦ inr (some_waits waiting other h) ]

-- none has
none_waits : (waiting : List (List SiteTicket)) (other : List SiteTicket) → are_before (joined waiting) other ≡ false →
    Each (λ tickets. are_before tickets other ≡ false) waiting
none_waits [] other e = tt
none_waits (ks ∷ waiting) other e = (before_fewer ks (joined waiting) other e, none_waits waiting other (before_less ks (joined waiting) other e))

held : (waiting : List (List SiteTicket)) (kept : List Ticketed) (c : Ticketed) → IsLed (joined waiting) kept c → IsHeld waiting kept c
held waiting kept c (Met e) = Waits (some_waits waiting c.tickets e)
held waiting kept c (From a i s p) = Follows a i s p

-- the walk drops what can be dropped
pub is_pruned : (waiting : List (List SiteTicket)) (before after : Graph) → OneEach before.kept → IsForwards before.kept →
    after.kept ≡ reached (joined waiting) before.kept →
    ((site : SiteId) → floor_in after.floors site ≡ highest_of site (floor_in before.floors site) (unreached (joined waiting) before.kept)) →
    IsPruned waiting before after
is_pruned waiting before after one f kept floors =
    record {
      kept = λ c i. reached_in met before.kept c (subst (In c) kept i);
      held = λ c i. held waiting after.kept c (subst (λ (xs : List Ticketed). IsLed met xs c) (sym kept) (reached_led met before.kept c (subst (In c) kept i)));
      waits = λ c d. none_waits waiting c.tickets (unreached_free met before.kept c (dropped c d));
      follows = λ a c s i d p. unreached_behind met before.kept f a c s (subst (In a) kept i) (dropped c d) p;
      rises = λ site. let h = floors site in let m = highest_of_more site (floor_in before.floors site) (unreached met before.kept) in omega arith;
      below = λ c d. below_each (floor_of after) c.tickets
          (λ k i. let h = floors k.site in let m = highest_of_below k.site (floor_in before.floors k.site) (unreached met before.kept) c k (dropped c d) i refl in omega arith);
      least = least;
    }
  where
    met : List SiteTicket
    met = joined waiting

    dropped : (c : Ticketed) → IsDropped before after c → In c (unreached met before.kept)
    dropped c d = elim (in_either_part met before.kept c d.was) [ inl i ↦ absurd (d.gone (subst (In c) (sym kept) i)) | inr i ↦ i ]

    gone : (c : Ticketed) → In c (unreached met before.kept) → IsDropped before after c
    gone c i = record { was = unreached_in met before.kept c i; gone = λ j. in_one_part met before.kept one c c (subst (In c) kept j) i refl }

    least : (site : SiteId) → IsRaised before after site
    least site =
        elim (highest_of_one site (floor_in before.floors site) (unreached met before.kept)) [
          | inl e ↦ inl (floors site ∙ e)
          | inr i ↦ inr (i.0, gone i.0 i.1, subst (λ n. Among (λ k. (k.site ≡ site) × (k.ticket ≡ n)) (i.0).tickets) (sym (floors site)) i.2)
        ]
