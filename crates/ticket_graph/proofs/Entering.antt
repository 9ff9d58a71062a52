-- Leaving out the attempts into which no edge leads changes nothing about cycles.
use Rattle.std.proofs.Common.{ℕ, zero, suc, ◌≡◌, ◌<◌, ◌≤◌, ◌⊎◌, ◌↔◌, get_or, Bool, true, false, cond, List, [], ◌∷◌, length, map, refl, sym, ap, ◌∙◌, subst, inl, inr, arith}
use Rattle.mdb_base.specs.declared.names.SiteTicket.{SiteTicket}
use Rattle.mdb_base.specs.Words.{Each, those}
use Rattle.mdb_base.proofs.ForCallers.{length_those}
use Rattle.order_laws.specs.Chains.{In, Chain, Acyclic, Within}
use Rattle.order_laws.specs.Search.{Linked}
use Rattle.order_laws.specs.Tickets.{Ticketed, HasNoCycle, OneEach, edge_between}
use Rattle.order_laws.proofs.ForCallers.{acyclic_map, acyclic_no_cycle, each_at, edge_some, in_parts, in_those, linked, no_cycle_acyclic, path_one, some_source, those_in}
use Rattle.ticket_graph.specs.Entered.{entered, is_entered, tickets_of}
use Rattle.ticket_graph.proofs.GraphLemmas.{tids_more}
use Rattle.ticket_graph.proofs.Parts.{in_left, in_right}
use Rattle.ticket_graph.proofs.Reaching.{HasSmaller, before_has, has_precedes, precedes_before}

-- ---- the tickets of attempts

tickets_in : (ns : List Ticketed) (k : SiteTicket) → In k (tickets_of ns) → (a : Ticketed) × In a ns × In k a.tickets
tickets_in [] k i = absurd i
tickets_in (n ∷ ns) k i = by_part (in_parts n.tickets (tickets_of ns) k i) (tickets_in ns k)
  where
    by_part : In k n.tickets ⊎ In k (tickets_of ns) → (In k (tickets_of ns) → (a : Ticketed) × In a ns × In k a.tickets) → (a : Ticketed) × In a (n ∷ ns) × In k a.tickets
    by_part (inl h) rest = (n, inl refl, h)
    by_part (inr h) rest = let r = rest h in (r.0, inr r.1, r.2)

in_tickets : (ns : List Ticketed) (a : Ticketed) (k : SiteTicket) → In a ns → In k a.tickets → In k (tickets_of ns)
in_tickets [] a k i j = absurd i
in_tickets (n ∷ ns) a k (inl e) j = in_left n.tickets (tickets_of ns) k (subst (λ (x : Ticketed). In k x.tickets) (sym e) j)
in_tickets (n ∷ ns) a k (inr i) j = in_right n.tickets (tickets_of ns) k (in_tickets ns a k i j)

-- ---- edges and chains

abbrev Edges : List Ticketed → Ticketed → Ticketed → Type 0
Edges ns = Within (Linked edge_between) ns

-- into an attempt that is entered an edge leads, and into no other one
enters : (ns : List Ticketed) (b : Ticketed) → is_entered ns b ≡ true → (a : Ticketed) × In a ns × Linked edge_between a b
enters ns b e =
    let h = before_has (tickets_of ns) b.tickets e in
    let a = tickets_in ns h.smaller h.first in
    let own : HasSmaller a.0.tickets b.tickets = record { smaller = h.smaller; greater = h.greater; first = a.2; second = h.second; above = h.above } in
    (a.0, a.1, linked a.0 b h.smaller.site (has_precedes a.0 b own))

is_entered_by : (ns : List Ticketed) (a b : Ticketed) → Edges ns a b → In b (entered ns)
is_entered_by ns a b w =
    let e = w.edge.0 in
    in_those (is_entered ns) b ns w.to (precedes_before (tickets_of ns) a b e.site (λ k j. in_tickets ns a k w.from j) (edge_some a b e w.edge.1).precedes)

last_entered : (ns : List Ticketed) (a : Ticketed) (xs : List Ticketed) (b : Ticketed) → Chain (Edges ns) a xs b → In b (entered ns)
last_entered ns a [] b c = is_entered_by ns a b c
last_entered ns a (x ∷ xs) b c = last_entered ns x xs b c.1

chain_entered : (ns : List Ticketed) (a : Ticketed) (xs : List Ticketed) (b : Ticketed) → In a (entered ns) → Chain (Edges ns) a xs b → Chain (Edges (entered ns)) a xs b
chain_entered ns a [] b i c = record { edge = c.edge; from = i; to = is_entered_by ns a b c }
chain_entered ns a (x ∷ xs) b i c =
    let j = is_entered_by ns a x c.0 in
    (record { edge = c.0.edge; from = i; to = j }, chain_entered ns x xs b j c.1)

acyclic_whole : (ns : List Ticketed) → Acyclic (Edges (entered ns)) → Acyclic (Edges ns)
acyclic_whole ns none a xs c = none a xs (chain_entered ns a xs a (last_entered ns a xs a c) c)

acyclic_entered : (ns : List Ticketed) → Acyclic (Edges ns) → Acyclic (Edges (entered ns))
acyclic_entered ns none =
    acyclic_map (Edges (entered ns)) (Edges ns) (λ a. a)
    (λ a b w. record { edge = w.edge; from = (those_in (is_entered ns) a ns w.from).0; to = (those_in (is_entered ns) b ns w.to).0 }) none

-- where an edge leads into each attempt, there is a cycle
each_entered : (n : Ticketed) (ns : List Ticketed) → Each (λ a. is_entered (n ∷ ns) a ≡ true) (n ∷ ns) → Acyclic (Edges (n ∷ ns)) → ⊥
each_entered n ns each none =
    some_source (Edges (n ∷ ns)) none n ns
    (λ m i alone.
    let p = enters (n ∷ ns) m (each_at (λ a. is_entered (n ∷ ns) a ≡ true) m (n ∷ ns) each i) in
    alone p.0 p.1 (path_one (Edges (n ∷ ns)) p.0 m (record { edge = p.2; from = p.1; to = i })))

-- ---- what is left of attempts

one_of_those : (test : Ticketed → Bool) (ns : List Ticketed) → OneEach ns → OneEach (those test ns)
one_of_those test [] one = tt
one_of_those test (n ∷ ns) one = by_test (test n) (one_of_those test ns one.1)
  where
    by_test : (b : Bool) → OneEach (those test ns) → OneEach (cond b (n ∷ those test ns) (those test ns))
    by_test true rest = (λ i. one.0 (tids_more (those test ns) ns (λ a j. (those_in test a ns j).0) n.tid i), rest)
    by_test false rest = rest

-- where none was left out, each passes the test
those_whole : {A : Type 0} (test : A → Bool) (xs : List A) → length (those test xs) ≡ length xs → Each (λ x. test x ≡ true) xs
those_whole test [] e = tt
those_whole test (x ∷ xs) e = by_test (test x) refl e (those_whole test xs) (length_those test xs)
  where
    by_test : (b : Bool) → test x ≡ b → length (cond b (x ∷ those test xs) (those test xs)) ≡ length (x ∷ xs)
        → (length (those test xs) ≡ length xs → Each (λ y. test y ≡ true) xs) → length (those test xs) ≤ length xs → Each (λ y. test y ≡ true) (x ∷ xs)
    by_test true h f rest few = (h, rest (omega arith))
    by_test false h f rest few = absurd (omega arith)

-- what was left of some attempts says the same of cycles
pub record IsLeft (all left : List Ticketed) : Type 0 where
  pub one : OneEach left
  pub back : HasNoCycle left → HasNoCycle all
  pub on : HasNoCycle all → HasNoCycle left

pub left_whole : (ns : List Ticketed) → OneEach ns → IsLeft ns ns
left_whole ns one = record { one = one; back = λ h. h; on = λ h. h }

pub left_next : (all left next : List Ticketed) → IsLeft all left → next ≡ entered left → IsLeft all next
left_next all left next l e =
    subst (IsLeft all) (sym e)
    (let one = one_of_those (is_entered left) left l.one in
    record {
      one = one;
      back = λ h. l.back (acyclic_no_cycle left l.one (acyclic_whole left (no_cycle_acyclic (entered left) h)));
      on = λ h. acyclic_no_cycle (entered left) one (acyclic_entered left (no_cycle_acyclic left (l.on h)));
    })

pub fewer_left : (left next : List Ticketed) → next ≡ entered left → length next ≤ length left
fewer_left left next e = subst (λ (xs : List Ticketed). length xs ≤ length left) (sym e) (length_those (is_entered left) left)

-- where none is left there is no cycle
pub none_left : (all left : List Ticketed) → IsLeft all left → length left ≡ 0 → (true ≡ true) ↔ HasNoCycle all
none_left all [] l e = (λ h. l.back (acyclic_no_cycle [] tt (λ a xs c. absurd (last_entered [] a xs a c))), λ h. refl)
none_left all (n ∷ left) l e = absurd (omega (arith, e))

-- where as many are left as there were, there is one
pub all_left : (all left next : List Ticketed) → IsLeft all left → next ≡ entered left → length next ≡ length left → 0 < length left → (false ≡ true) ↔ HasNoCycle all
all_left all [] next l e same some = absurd (omega (arith, some))
all_left all (n ∷ left) next l e same some =
    (λ h. absurd cc, λ h. absurd (each_entered n left (those_whole (is_entered (n ∷ left)) (n ∷ left) (ap length (sym e) ∙ same)) (no_cycle_acyclic (n ∷ left) (l.on h))))

-- ---- the least tickets of attempts

pub tickets_at : (ns : List Ticketed) (i : ℕ) (d : Ticketed) → get_or (map (λ (a : Ticketed). a.tickets) ns) i d.tickets ≡ (get_or ns i d).tickets
tickets_at [] i d = refl
tickets_at (n ∷ ns) zero d = refl
tickets_at (n ∷ ns) (suc i) d = tickets_at ns i d
