-- What is found in the order of the tickets above one of them.
use Rattle.std.proofs.Common.{◌≤◌, ◌≡◌, Bool, true, false, List, [], ◌∷◌, refl, ap, subst, arith}
use Rattle.std.proofs.lemmas.Bool.Decides.{nat_tests}
use Rattle.std.specs.Ordering.{is_gt}
use Rattle.std.specs.declared.cmp.Ordering.TheVariants.{Less}
use Rattle.std.specs.declared.ops.Bound.TheVariants.{Excluded, Unbounded}
use Rattle.std.specs.BTreeSet.{BTreeSet, contains, IsKeyRangeOf}
use Rattle.mdb_base.specs.declared.names.SiteTicket.{SiteTicket}
use Rattle.ticket_graph.specs.declared.entries.Entry.{Entry}
use Rattle.ticket_graph.specs.Entries.{entry_cmp}
use Rattle.ticket_graph.specs.Steps.{IsAbove, IsDone}

-- the end of the ticket's own entries
abbrev pub end_of : SiteTicket → Entry
end_of ticket = record { site = ticket.site; ticket = ticket.ticket; attempt = 18446744073709551615 }

above_end : (ticket : SiteTicket) (e : Entry) → entry_cmp (end_of ticket) e ≡ Less → e.site.0 ≡ ticket.site.0 → e.attempt ≤ 18446744073709551615 → IsAbove ticket e
above_end ticket e h s a = record { site = ap (λ n. record { 0 = n }) s; greater = grind (arith, nat_tests) }

end_below : (ticket : SiteTicket) (e : Entry) → IsAbove ticket e → entry_cmp (end_of ticket) e ≡ Less
end_below ticket e h = let s : e.site.0 ≡ ticket.site.0 = ap (λ z. z.0) h.site in let g = h.greater in grind (arith, nat_tests)

between : (ticket : SiteTicket) (y z : Entry) → entry_cmp (end_of ticket) y ≡ Less → (y.site.0 ≡ ticket.site.0 → ⊥) → IsAbove ticket z →
    is_gt (entry_cmp y z) ≡ false → ⊥
between ticket y z behind other above below =
    let s : z.site.0 ≡ ticket.site.0 = ap (λ w. w.0) above.site in
    grind (arith, nat_tests)

-- the first entry behind the ticket's own ones, where it is of that site, is above the ticket
pub first_above : (ticket : SiteTicket) (unmet : BTreeSet Entry) (x : Entry) (r rs : List Entry) →
    IsKeyRangeOf entry_cmp (Excluded (end_of ticket)) Unbounded unmet r → r ≡ x ∷ rs → x.site.0 ≡ ticket.site.0 →
    (contains entry_cmp unmet x ≡ true → x.attempt ≤ 18446744073709551615) → IsAbove ticket x
first_above ticket unmet x [] rs h e s a = cc
first_above ticket unmet x (y ∷ ys) rs h e s a =
    let same : y ≡ x = cc in
    let behind : entry_cmp (end_of ticket) x ≡ Less = subst (λ z. entry_cmp (end_of ticket) z ≡ Less) same h.1.0.0 in
    let there : contains entry_cmp unmet x ≡ true = subst (λ z. contains entry_cmp unmet z ≡ true) same h.1.1 in
    above_end ticket x behind s (a there)

-- where there is no entry behind the ticket's own ones none is above it
pub none_above : (ticket : SiteTicket) (unmet : BTreeSet Entry) (r : List Entry) →
    IsKeyRangeOf entry_cmp (Excluded (end_of ticket)) Unbounded unmet r → r ≡ [] → IsDone unmet ticket
none_above ticket unmet r h e = λ x above. h.5 e x (end_below ticket x above, tt)

-- nor where the first one is of another site
pub first_elsewhere : (ticket : SiteTicket) (unmet : BTreeSet Entry) (x : Entry) (r rs : List Entry) →
    IsKeyRangeOf entry_cmp (Excluded (end_of ticket)) Unbounded unmet r → r ≡ x ∷ rs → (x.site.0 ≡ ticket.site.0 → ⊥) → IsDone unmet ticket
first_elsewhere ticket unmet x [] rs h e s = cc
first_elsewhere ticket unmet x (y ∷ ys) rs h e s =
    let same : y ≡ x = cc in
    let behind : entry_cmp (end_of ticket) y ≡ Less = h.1.0.0 in
    λ z above. elsewhere ticket y z behind (λ p. s (subst (λ w. w.site.0 ≡ ticket.site.0) same p)) above (contains entry_cmp unmet z) (contains entry_cmp unmet z) refl
    (λ t. h.2 z (end_below ticket z above, tt) t)
  where
    elsewhere : (ticket : SiteTicket) (y z : Entry) → entry_cmp (end_of ticket) y ≡ Less → (y.site.0 ≡ ticket.site.0 → ⊥) → IsAbove ticket z →
        (b d : Bool) → d ≡ b → (d ≡ true → is_gt (entry_cmp y z) ≡ false) → d ≡ false
    elsewhere ticket y z behind other above true d e below = absurd (between ticket y z behind other above (below e))
    elsewhere ticket y z behind other above false d e below = e
