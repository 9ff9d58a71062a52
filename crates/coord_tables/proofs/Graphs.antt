-- The graph of the committed attempts: its floors, and the lists that it stands for.
use Rattle.std.proofs.Common.{◌≡◌, ℕ, ◌+◌, ◌<◌, ◌≤◌, List, [], ◌∷◌, ◌++◌, length, map, take, get_or, inl, inr, sym, ap, subst, ◌∙◌, arith}
use Rattle.std.proofs.lemmas.List.{take_more, map_push}
use Rattle.mdb_base.specs.declared.names.SiteId.{SiteId}
use Rattle.mdb_base.specs.declared.names.SiteTicket.{SiteTicket}
use Rattle.mdb_base.specs.declared.names.Tid.{Tid}
use Rattle.mdb_base.specs.Words.{Each}
use Rattle.mdb_base.proofs.ForCallers.{append_each, each_all}
use Rattle.order_laws.specs.Chains.{In}
use Rattle.order_laws.specs.Tickets.{Ticketed}
use Rattle.order_laws.proofs.ForCallers.{in_front, in_last, in_push}
use Rattle.fed_rules.specs.declared.sums.CommittedAttempt.{CommittedAttempt}
use Rattle.ticket_graph.specs.Graph.{AreAbove, Graph, StandsFor, floor_of, tids_of}
use Rattle.ticket_graph.proofs.ForCallers.{in_tids, tid_in}
use Rattle.coord_tables.specs.Starting.{ticketed_by}

-- all tickets are at least floors of 0
pub above_none : (graph : Graph) (tickets : List SiteTicket) → ((site : SiteId) → floor_of graph site ≡ 0) → AreAbove (floor_of graph) tickets
above_none graph tickets none = each_all (λ (k : SiteTicket). floor_of graph k.site ≤ k.ticket) (λ k. subst (λ (n : ℕ). n ≤ k.ticket) (sym (none k.site)) (least k.ticket)) tickets where
  least : (n : ℕ) → 0 ≤ n
  least n = omega arith

-- what holds of the first items and of the next one
pub each_next : {A : Type 0} (P : A → Type 0) (xs : List A) (i : ℕ) (d : A) → i < length xs → Each P (take i xs) → P (get_or xs i d) → Each P (take (i + 1) xs)
each_next P xs i d less h p = subst (Each P) (sym (take_more xs i d less)) (append_each P (take i xs) (get_or xs i d ∷ []) h (p, tt))

-- a graph keeps only attempts that it stands for
pub not_kept : (tid : Tid) (all : List Ticketed) (graph : Graph) → (In tid (tids_of all) → ⊥) → StandsFor all graph → In tid (tids_of graph.kept) → ⊥
not_kept tid all graph none st i =
    let (a, k, is) = tid_in graph.kept tid i in
    none (subst (λ (t : Tid). In t (tids_of all)) is (in_tids all a (st.kept a k)))

-- the order of the attempts doesn't matter
stands_last : (xs : List Ticketed) (x : Ticketed) (graph : Graph) → StandsFor (x ∷ xs) graph → StandsFor (xs ++ x ∷ []) graph
stands_last xs x graph s = record {
  kept = λ a i. there a (s.kept a i);
  closed = λ a b site i j apart p. s.closed a b site i (in_push xs x b j) apart p;
  below = λ b j apart. s.below b (in_push xs x b j) apart;
} where
  there : (a : Ticketed) → In a (x ∷ xs) → In a (xs ++ x ∷ [])
  there a (inl e) = subst (λ (y : Ticketed). In y (xs ++ x ∷ [])) e (in_last x xs)
  there a (inr i) = in_front a x xs i

-- one more dropped attempt
pub dropped_more : (attempts : List CommittedAttempt) (i : ℕ) (attempt d : CommittedAttempt) (graph : Graph) → i < length attempts → attempt ≡ get_or attempts i d
    → StandsFor (ticketed_by attempt ∷ map ticketed_by (take i attempts)) graph → StandsFor (map ticketed_by (take (i + 1) attempts)) graph
dropped_more attempts i attempt d graph less is s =
    let all : map ticketed_by (take (i + 1) attempts) ≡ map ticketed_by (take i attempts) ++ ticketed_by attempt ∷ [] =
    ap (map ticketed_by) (take_more attempts i d less ∙ ap (λ (a : CommittedAttempt). take i attempts ++ a ∷ []) (sym is)) ∙ map_push ticketed_by (take i attempts) attempt in
    subst (λ (ts : List Ticketed). StandsFor ts graph) (sym all) (stands_last (map ticketed_by (take i attempts)) (ticketed_by attempt) graph s)
