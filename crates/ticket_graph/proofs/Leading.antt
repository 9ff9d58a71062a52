-- Tickets from which an edge leads on, and those from which none does.
use Rattle.std.proofs.Common.{◌≡◌, ◌+◌, ◌<◌, ℕ, suc, Bool, true, false, cond, ◌||◌, Some, is_some, List, [], ◌∷◌, length, drop, get_or, refl, sym, ap, ◌∙◌, arith}
use Rattle.std.proofs.Math.Seq.{drop-cons}
use Rattle.std.specs.BTreeSet.{BTreeSet, contains}
use Rattle.mdb_base.specs.declared.names.SiteId.{SiteId}
use Rattle.mdb_base.specs.declared.names.SiteTicket.{SiteTicket}
use Rattle.mdb_base.specs.declared.names.Tid.{Tid}
use Rattle.mdb_base.specs.Words.{some_of, first_where, map_some}
use Rattle.mdb_base.proofs.ForCallers.{among_some, or_fails, tests_agree}
use Rattle.order_laws.specs.Chains.{In}
use Rattle.mdb_base.specs.Names.{tid_cmp}
use Rattle.order_laws.specs.Tickets.{Ticketed, Precedes, is_above}
use Rattle.order_laws.proofs.ForCallers.{is_among, some_of_is}
use Rattle.ticket_graph.specs.Reach.{are_before, reached, unreached}
use Rattle.ticket_graph.specs.Trail.{IsClosed}
use Rattle.ticket_graph.proofs.EdgeSites.{first_site}
use Rattle.ticket_graph.proofs.Reaching.{before_has, has_before, precedes_before}

-- whether the tickets lead to the attempt
abbrev pub leads_to : List SiteTicket → Ticketed → Bool
leads_to tickets attempt = are_before tickets attempt.tickets

-- a test holds of some item where there is a first one
first_there : {A B : Type 0} (f : A → B) (test : A → Bool) (xs : List A) → is_some (map_some f (first_where test xs)) ≡ some_of test xs
first_there f test [] = refl
first_there f test (x ∷ xs) = by_test (test x) (first_there f test xs)
  where
    by_test : (b : Bool) → is_some (map_some f (first_where test xs)) ≡ some_of test xs → is_some (map_some f (cond b (Some x) (first_where test xs))) ≡ (b || some_of test xs)
    by_test true rest = refl
    by_test false rest = rest

-- there is a first site with an edge where one of the tickets is a smaller one
pub site_before : (own other : List SiteTicket) → is_some (first_site own other) ≡ are_before own other
site_before own other = first_there (λ k. k.site) (λ k. some_of (is_above k) other) own ∙ tests_agree _ _ there back
  where
    there : some_of (λ k. some_of (is_above k) other) own ≡ true → are_before own other ≡ true
    there h =
        let k = some_of_is (λ k. some_of (is_above k) other) own h in
        let l = some_of_is (is_above k.0) other k.2 in
        has_before own other (record { smaller = k.0; greater = l.0; first = k.1; second = l.1; above = l.2 })

    back : are_before own other ≡ true → some_of (λ k. some_of (is_above k) other) own ≡ true
    back h =
        let k = before_has own other h in
        let above : some_of (is_above k.smaller) other ≡ true =
        among_some (is_above k.smaller) other (is_among (λ l. is_above k.smaller l ≡ true) k.greater other k.second k.above) in
        among_some (λ k. some_of (is_above k) other) own (is_among (λ k. some_of (is_above k) other ≡ true) k.smaller own k.first above)

-- an attempt that the tickets don't lead to doesn't count
pub leads_past : (tickets : List SiteTicket) (ns : List Ticketed) (i : ℕ) (a : Ticketed) → i < length ns → a ≡ get_or ns i a → leads_to tickets a ≡ false →
    some_of (leads_to tickets) (drop i ns) ≡ some_of (leads_to tickets) (drop (i + 1) ns)
leads_past tickets ns i a within here none =
    let next : suc i ≡ i + 1 = omega arith in
    ap (some_of (leads_to tickets)) (drop-cons ns i a within)
    ∙ (ap (λ (x : Ticketed). leads_to tickets x || some_of (leads_to tickets) (drop (suc i) ns)) (sym here) ∙ rw none (ap (λ n. some_of (leads_to tickets) (drop n ns)) next))

-- and to one that they lead to, they lead on
pub leads_there : (tickets : List SiteTicket) (ns : List Ticketed) (i : ℕ) (a : Ticketed) → i < length ns → a ≡ get_or ns i a → leads_to tickets a ≡ true →
    some_of (leads_to tickets) (drop i ns) ≡ true
leads_there tickets ns i a within here leads =
    ap (some_of (leads_to tickets)) (drop-cons ns i a within)
    ∙ (ap (λ (x : Ticketed). leads_to tickets x || some_of (leads_to tickets) (drop (suc i) ns)) (sym here) ∙ rw leads refl)

-- where no edge leads on, none goes to one of them
no_edge : (g : Ticketed) (ns : List Ticketed) → some_of (leads_to g.tickets) ns ≡ false → (b : Ticketed) (s : SiteId) → In b ns → Precedes g b s → ⊥
no_edge g ns none b s i p =
    let led : leads_to g.tickets b ≡ true = precedes_before g.tickets g b s (λ k h. h) p in
    let some : some_of (leads_to g.tickets) ns ≡ true =
    among_some (leads_to g.tickets) ns (is_among (λ a. leads_to g.tickets a ≡ true) b ns i led) in
    cc

-- so none is reached
pub closed_at_once : (g : Ticketed) (ns : List Ticketed) (reached : BTreeSet Tid) → some_of (leads_to g.tickets) ns ≡ false →
    ((t : Tid) → contains tid_cmp reached t ≡ false) → IsClosed ns g reached
closed_at_once g ns reached none empty = record {
  first = λ b s i p. absurd (no_edge g ns none b s i p);
  onward = λ a b s i j h p. let no = empty a.tid in absurd cc;
  never_back = λ a s i h p. let no = empty a.tid in absurd cc;
}

pub none_reached : (met : List SiteTicket) (ns : List Ticketed) → some_of (leads_to met) ns ≡ false → reached met ns ≡ []
none_reached met [] none = refl
none_reached met (a ∷ ns) none =
    let parts = or_fails (leads_to met a) (some_of (leads_to met) ns) none in
    rw parts.0 (none_reached met ns parts.1)

pub all_unreached : (met : List SiteTicket) (ns : List Ticketed) → some_of (leads_to met) ns ≡ false → unreached met ns ≡ ns
all_unreached met [] none = refl
all_unreached met (a ∷ ns) none =
    let parts = or_fails (leads_to met a) (some_of (leads_to met) ns) none in
    rw parts.0 (ap (λ (rest : List Ticketed). a ∷ rest) (all_unreached met ns parts.1))
