-- The attempt whose last vote is refused for a cycle, with the tickets of its votes.
use Rattle.std.proofs.Common.{◌≡◌, ℕ, ◌+◌, ◌<◌, Option, Some, None, List, [], ◌∷◌, ◌++◌, append-nil, length, take, get_or, refl, sym, ap, ◌∙◌}
use Rattle.std.proofs.lemmas.List.{take_more}
use Rattle.mdb_base.specs.declared.names.SiteId.{SiteId}
use Rattle.mdb_base.specs.declared.names.SiteTicket.{SiteTicket}
use Rattle.mdb_base.specs.Words.{found, with_some}
use Rattle.protocol_table.specs.declared.members.Member.{Member}
use Rattle.audit_lines.specs.Votes.{ticket_with, tickets_with}

found_more : {A B : Type 0} (look : A → Option B) (xs : List A) (x : A) → found look (xs ++ x ∷ []) ≡ found look xs ++ with_some (look x) []
found_more look [] x = refl
found_more look (y ∷ ys) x = by_look (look y) (found_more look ys x) where
  by_look : (o : Option _) → found look (ys ++ x ∷ []) ≡ found look ys ++ with_some (look x) [] → with_some o (found look (ys ++ x ∷ [])) ≡ with_some o (found look ys) ++ with_some (look x) []
  by_look None e = e
  by_look (Some b) e = ap (λ bs. b ∷ bs) e

module _ (site : SiteId) (vote : Option ℕ) (members : List Member) (n : ℕ) (d : Member) (within : n < length members) where
  next_ticket : tickets_with site vote (take (n + 1) members) ≡ tickets_with site vote (take n members) ++ with_some (ticket_with site vote (get_or members n d)) []
  next_ticket = ap (tickets_with site vote) (take_more members n d within) ∙ found_more (ticket_with site vote) (take n members) (get_or members n d)

  -- one member more that has a ticket
  pub ticket_more : (ticket : SiteTicket) → ticket_with site vote (get_or members n d) ≡ Some ticket → tickets_with site vote (take n members) ++ ticket ∷ [] ≡ tickets_with site vote (take (n + 1) members)
  ticket_more ticket e = sym (next_ticket ∙ ap (λ o. tickets_with site vote (take n members) ++ with_some o []) e)

  -- or has none
  pub none_more : ticket_with site vote (get_or members n d) ≡ None → tickets_with site vote (take n members) ≡ tickets_with site vote (take (n + 1) members)
  none_more e = sym (next_ticket ∙ (ap (λ o. tickets_with site vote (take n members) ++ with_some o []) e ∙ append-nil (tickets_with site vote (take n members))))
