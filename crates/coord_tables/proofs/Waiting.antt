-- The tickets that wait: how they grow, how the stages have them, and what the graph keeps beside them.
use Rattle.std.proofs.Common.{◌≡◌, ℕ, zero, suc, ◌<◌, nat_lt, Bool, true, false, cond, Option, Some, None, List, [], ◌∷◌, length, map, get_or, set, inl, inr, refl, sym, ap, ap₂, subst, ◌∙◌, arith, eq-eqb, length-set, get_or-set_same, get_or-set_other}
use Rattle.std.proofs.lemmas.Bool.{cond-true, cond-false, false≢true, lt-ltb}
use Rattle.mdb_base.specs.declared.names.SiteId.{SiteId}
use Rattle.mdb_base.specs.declared.names.SiteTicket.{SiteTicket}
use Rattle.mdb_base.specs.declared.names.Tid.{Tid}
use Rattle.mdb_base.specs.declared.replies.Reply.{Reply}
use Rattle.mdb_base.specs.declared.replies.Reply.TheVariants as Reply_is
use Rattle.mdb_base.specs.Names.{same_site}
use Rattle.mdb_base.specs.Words.{Among, Each, first_where, found, map_some, with_some}
use Rattle.mdb_base.proofs.ForCallers.{same_site-equal}
use Rattle.order_laws.specs.Chains.{In}
use Rattle.order_laws.specs.Tickets.{Ticketed}
use Rattle.order_laws.proofs.ForCallers.{among_is, among_map, each_at, first_where_some, in_parts, in_reverse, in_those, is_among, map_among, those_in}
use Rattle.presumptions.specs.declared.Participant.{Participant}
use Rattle.fed_rules.specs.declared.answers.Answer.{Answer}
use Rattle.fed_rules.specs.declared.answers.Answer.TheVariants as Say
use Rattle.fed_rules.specs.CoordPast.{CoordHappening, CoordPast, Counted, begins, begun_by, begun_tids, counted, counts, did_in, is_open}
use Rattle.ticket_graph.specs.Graph.{AreHeld, Graph, IsForwards, IsHeld}
use Rattle.ticket_graph.specs.Graph.IsHeld.{Waits, Follows}
use Rattle.ticket_graph.specs.Reach.{are_before}
use Rattle.ticket_graph.proofs.ForCallers.{before_has, has_before, nothing_before}
use Rattle.coord_tables.specs.declared.stages.Stage.{Stage}
use Rattle.coord_tables.specs.Attempts.{open_tids}
use Rattle.coord_tables.specs.Stages.{AreStagesOf, HasTicketsOf, IsStageOf, no_tickets, noted_below, noted_one, noting, stage_tickets, ticket_at}
use Rattle.coord_tables.specs.Waiting.{counted_tickets, ticket_in, waiting}

-- ---- more tickets

-- more tickets hold what fewer do
before_more : (own more : List SiteTicket) → ((k : SiteTicket) → In k own → In k more) → (other : List SiteTicket) → are_before own other ≡ true → are_before more other ≡ true
before_more own more among other e =
    let h = before_has own other e in
    has_before more other (record { smaller = h.smaller; greater = h.greater; first = among h.smaller h.first; second = h.second; above = h.above })

-- so it is with those of several attempts
held_by : {A B : Type 0} (f : A → List SiteTicket) (g : B → List SiteTicket) (xs : List A) (ys : List B)
    → ((x : A) → In x xs → (y : B) × In y ys × ((k : SiteTicket) → In k (f x) → In k (g y)))
    → (kept : List Ticketed) (c : Ticketed) → IsHeld (map f xs) kept c → IsHeld (map g ys) kept c
held_by f g xs ys to kept c (Follows a i s p) = Follows a i s p
held_by f g xs ys to kept c (Waits h) =
    let (x, i, e) = among_is (λ x. are_before (f x) c.tickets ≡ true) xs (among_map (λ ks. are_before ks c.tickets ≡ true) f xs h) in
    let (y, j, more) = to x i in
    Waits (map_among (λ ks. are_before ks c.tickets ≡ true) g ys (is_among (λ y. are_before (g y) c.tickets ≡ true) y ys j (before_more (f x) (g y) more c.tickets e)))

-- ---- a line that decides nothing

module _ (past : CoordPast) (x : CoordHappening) (stays : (t : Tid) → is_open past t ≡ true → (is_open (x ∷ past) t ≡ true) × (begins t x.answer ≡ false)) where
  counted_more : (t : Tid) → begins t x.answer ≡ false → (k : SiteTicket) → In k (counted_tickets past t) → In k (counted_tickets (x ∷ past) t)
  counted_more t old k i = subst (λ (cs : List Counted). In k (found ticket_in cs)) (sym (cond-false _ _ _ old)) (by_counts (counts x.answer)) where
    by_ticket : (o : Option SiteTicket) → In k (with_some o (found ticket_in (counted past t)))
    by_ticket None = i
    by_ticket (Some y) = inr i

    by_did : (o : Option Counted) → In k (found ticket_in (with_some o (counted past t)))
    by_did None = i
    by_did (Some c) = by_ticket (ticket_in c)

    by_counts : (b : Bool) → In k (found ticket_in (cond b (with_some (did_in t x.event) (counted past t)) (counted past t)))
    by_counts true = by_did (did_in t x.event)
    by_counts false = i

  still_begun : (t : Tid) → In t (begun_tids past) → In t (begun_tids (x ∷ past))
  still_begun t i = by_begun (begun_by x.answer) where
    by_begun : (o : Option Tid) → In t (with_some o (begun_tids past))
    by_begun None = i
    by_begun (Some u) = inr i

  -- leaves what is held held
  pub held_more : (graph : Graph) → AreHeld (waiting past) graph → AreHeld (waiting (x ∷ past)) graph
  held_more graph h = λ c i. held_by (counted_tickets past) (counted_tickets (x ∷ past)) (open_tids past) (open_tids (x ∷ past)) to graph.kept c (h c i) where
    to : (t : Tid) → In t (open_tids past) → (u : Tid) × In u (open_tids (x ∷ past)) × ((k : SiteTicket) → In k (counted_tickets past t) → In k (counted_tickets (x ∷ past) u))
    to t i =
        let was = those_in (is_open past) t (begun_tids past) i in
        let now = stays t was.1 in
        (t, in_those (is_open (x ∷ past)) t (begun_tids (x ∷ past)) (still_begun t was.0) now.0, counted_more t now.1)

-- so does one that begins nothing, where the same attempts are undecided behind it
none_begins : (a : Answer) (t : Tid) → begun_by a ≡ None → begins t a ≡ false
none_begins (Say.Begun u) t e = cc
none_begins answer t e = refl

pub held_still : (past : CoordPast) (x : CoordHappening) (graph : Graph) → begun_by x.answer ≡ None → ((t : Tid) → is_open (x ∷ past) t ≡ is_open past t) → AreHeld (waiting past) graph → AreHeld (waiting (x ∷ past)) graph
held_still past x graph none same h = held_more past x (λ t u. (same t ∙ u, none_begins x.answer t none)) graph h

-- ---- the tickets of a stage

noted_in : (n : ℕ) (tickets : List (Option ℕ)) (k : SiteTicket) → In k (noted_below n tickets) → (k.site.0 < n) × (get_or tickets k.site.0 None ≡ Some k.ticket)
noted_in zero tickets k i = absurd i
noted_in (suc n) tickets k i = elim (in_parts (noted_below n tickets) (noted_one n (get_or tickets n None)) k i) [
  | inl j ↦ let h = noted_in n tickets k j in let less = h.0 in (omega arith, h.1)
  | inr j ↦ one (get_or tickets n None) refl j
]
  where
    one : (o : Option ℕ) → get_or tickets n None ≡ o → In k (noted_one n o) → (k.site.0 < suc n) × (get_or tickets k.site.0 None ≡ Some k.ticket)
    one None e j = absurd j
    one (Some ticket) e (inl same) =
        let last : n < suc n = omega arith in
        (subst (λ (q : SiteTicket). q.site.0 < suc n) same last, subst (λ (q : SiteTicket). get_or tickets q.site.0 None ≡ Some q.ticket) same e)
    one (Some ticket) e (inr j) = absurd j

-- the first ticket of a site is one of the tickets
first_in : (tickets : List SiteTicket) (k : SiteTicket) → ticket_at k.site tickets ≡ Some k.ticket → In k tickets
first_in tickets k e = by_first (first_where (λ (q : SiteTicket). same_site q.site k.site) tickets) refl e where
  by_first : (o : Option SiteTicket) → first_where (λ (q : SiteTicket). same_site q.site k.site) tickets ≡ o → map_some (λ (q : SiteTicket). q.ticket) o ≡ Some k.ticket → In k tickets
  by_first None f g = cc
  by_first (Some q) f g =
      let h = first_where_some (λ (r : SiteTicket). same_site r.site k.site) tickets q f in
      let same : q ≡ k = alike q h.1 g in
      subst (λ (r : SiteTicket). In r tickets) same h.0
    where
      alike : (r : SiteTicket) → same_site r.site k.site ≡ true → Some r.ticket ≡ Some k.ticket → r ≡ k
      alike r s t =
          let number : r.ticket ≡ k.ticket = cc in
          ap₂ (λ (at : SiteId) (n : ℕ). let one : SiteTicket = record { site = at; ticket = n } in one) (same_site-equal r.site k.site s) number

pub stage_waits : (protocols : List Participant) (past : CoordPast) (stage : Stage) → IsStageOf protocols past stage → (k : SiteTicket) → In k (stage_tickets stage) → In k (counted_tickets past stage.tid)
stage_waits protocols past stage s k i =
    let n = noted_in 9 stage.tickets k i in
    first_in (counted_tickets past stage.tid) k (sym (s.tickets.last k.site n.0) ∙ n.1)

-- what the stages' tickets hold is held by those that wait
pub held_stages : (protocols : List Participant) (past : CoordPast) (stages : List Stage) (graph : Graph) → AreStagesOf protocols past stages → AreHeld (map stage_tickets stages) graph → AreHeld (waiting past) graph
held_stages protocols past stages graph s h = λ c i. held_by stage_tickets (counted_tickets past) stages (open_tids past) to graph.kept c (h c i) where
  tid_in : (xs : List Stage) (stage : Stage) → In stage xs → In stage.tid (map (λ (one : Stage). one.tid) xs)
  tid_in [] stage i = absurd i
  tid_in (x ∷ xs) stage (inl e) = inl (ap (λ (one : Stage). one.tid) e)
  tid_in (x ∷ xs) stage (inr i) = inr (tid_in xs stage i)

  to : (stage : Stage) → In stage stages → (t : Tid) × In t (open_tids past) × ((k : SiteTicket) → In k (stage_tickets stage) → In k (counted_tickets past t))
  to stage i = (
    stage.tid,
    in_reverse (open_tids past) stage.tid (subst (In stage.tid) s.order (tid_in stages stage i)),
    stage_waits protocols past stage (each_at (IsStageOf protocols past) stage stages s.each i),
  )

-- ---- one more reply of the attempt

-- nothing counted yet
pub none_noted : (past : CoordPast) (tid : Tid) → counted past tid ≡ [] → HasTicketsOf past tid no_tickets
none_noted past tid e = record {
  nine = refl;
  last = λ site less. none site.0 ∙ sym (ap (λ (cs : List Counted). ticket_at site (found ticket_in cs)) e);
} where
  no_number : (xs : List (Option ℕ)) → Each (λ o. o ≡ None) xs → (n : ℕ) → get_or xs n None ≡ None
  no_number [] h n = refl
  no_number (x ∷ xs) h zero = h.0
  no_number (x ∷ xs) h (suc n) = no_number xs h.1 n

  none : (n : ℕ) → get_or no_tickets n None ≡ None
  none n = no_number no_tickets (refl, (refl, (refl, (refl, (refl, (refl, (refl, (refl, (refl, tt))))))))) n

-- the past says the same of its tickets
pub noted_stays : (past now : CoordPast) (tid : Tid) (tickets : List (Option ℕ)) → counted_tickets now tid ≡ counted_tickets past tid → HasTicketsOf past tid tickets → HasTicketsOf now tid tickets
noted_stays past now tid tickets same h = record { nine = h.nine; last = λ site less. h.last site less ∙ ap (ticket_at site) (sym same) }

-- a reply more
pub noted_more : (past now : CoordPast) (tid : Tid) (tickets : List (Option ℕ)) (site : SiteId) (epoch : ℕ) (reply : Reply)
    → counted now tid ≡ record { site = site; epoch = epoch; reply = reply } ∷ counted past tid → HasTicketsOf past tid tickets → HasTicketsOf now tid (noting site reply tickets)
noted_more past now tid tickets site epoch reply more h = by_reply reply more where
  same_as : (r : Reply) → ticket_in (record { site = site; epoch = epoch; reply = r }) ≡ None → counted now tid ≡ record { site = site; epoch = epoch; reply = r } ∷ counted past tid → HasTicketsOf now tid tickets
  same_as r none m = noted_stays past now tid tickets (ap (found ticket_in) m ∙ ap (λ o. with_some o (counted_tickets past tid)) none) h

  put : (n : ℕ) → counted_tickets now tid ≡ record { site = site; ticket = n } ∷ counted_tickets past tid → HasTicketsOf now tid (cond (nat_lt site.0 9) (set tickets site.0 (Some n)) tickets)
  put n m = record {
    nine = nine_by (nat_lt site.0 9);
    last = λ s less.
        by_site s less (same_site site s) refl (nat_lt site.0 9) refl
        ∙ ap (ticket_at s) (sym m);
  } where
    nine_by : (b : Bool) → length (cond b (set tickets site.0 (Some n)) tickets) ≡ 9
    nine_by true = length-set tickets site.0 (Some n) ∙ h.nine
    nine_by false = h.nine

    by_site : (s : SiteId) → s.0 < 9 → (same : Bool) → same_site site s ≡ same → (b : Bool) → nat_lt site.0 9 ≡ b
        → get_or (cond b (set tickets site.0 (Some n)) tickets) s.0 None ≡ map_some (λ (k : SiteTicket). k.ticket) (cond (same_site site s) (Some (record { site = site; ticket = n })) (first_where (λ (k : SiteTicket). same_site k.site s) (counted_tickets past tid)))
    by_site s less true q true b =
        let is : site ≡ s = same_site-equal site s q in
        let here : site.0 < 9 = subst (λ (t : SiteId). t.0 < 9) (sym is) less in
        let within : site.0 < length tickets = subst (λ (m : ℕ). site.0 < m) (sym h.nine) here in
        ap (λ (t : SiteId). get_or (set tickets site.0 (Some n)) t.0 None) (sym is) ∙ get_or-set_same tickets site.0 (Some n) None within
        ∙ sym (ap (λ (o : Option SiteTicket). map_some (λ (k : SiteTicket). k.ticket) o) (cond-true _ _ _ q))
    by_site s less true q false b =
        let is : site ≡ s = same_site-equal site s q in
        let here : site.0 < 9 = subst (λ (t : SiteId). t.0 < 9) (sym is) less in
        absurd (false≢true (sym b ∙ lt-ltb site.0 9 here))
    by_site s less false q true b =
        get_or-set_other tickets site.0 s.0 (Some n) None (λ e. false≢true (sym q ∙ eq-eqb site.0 s.0 (sym e))) ∙ h.last s less
        ∙ sym (ap (λ (o : Option SiteTicket). map_some (λ (k : SiteTicket). k.ticket) o) (cond-false _ _ _ q))
    by_site s less false q false b =
        h.last s less ∙ sym (ap (λ (o : Option SiteTicket). map_some (λ (k : SiteTicket). k.ticket) o) (cond-false _ _ _ q))

  by_reply : (r : Reply) → counted now tid ≡ record { site = site; epoch = epoch; reply = r } ∷ counted past tid → HasTicketsOf now tid (noting site r tickets)
  by_reply (Reply_is.Ticket n) m = put n (ap (found ticket_in) m)
  by_reply Reply_is.Done m = same_as Reply_is.Done refl m
  by_reply (Reply_is.Value v) m = same_as (Reply_is.Value v) refl m
  by_reply (Reply_is.Wait by) m = same_as (Reply_is.Wait by) refl m
  by_reply (Reply_is.Refused why) m = same_as (Reply_is.Refused why) refl m
  by_reply Reply_is.Unknown m = same_as Reply_is.Unknown refl m

-- ---- nothing waits

none_before : (waits : List (List SiteTicket)) (other : List SiteTicket) → Each (λ tickets. tickets ≡ []) waits → Among (λ tickets. are_before tickets other ≡ true) waits → ⊥
none_before [] other e a = a
none_before (ks ∷ waits) other e (inl h) = nothing_before other (subst (λ (zs : List SiteTicket). are_before zs other ≡ true) e.0 h)
none_before (ks ∷ waits) other e (inr a) = none_before waits other e.1 a

-- where no ticket waits nothing is kept
pub nothing_kept : (waits : List (List SiteTicket)) (kept : List Ticketed) → Each (λ tickets. tickets ≡ []) waits → IsForwards kept → ((c : Ticketed) → In c kept → IsHeld waits kept c) → kept ≡ []
nothing_kept waits [] e f h = refl
nothing_kept waits (a ∷ kept) e f h = absurd (by_way (h a (inl refl))) where
  by_way : IsHeld waits (a ∷ kept) a → ⊥
  by_way (Waits w) = none_before waits a.tickets e w
  by_way (Follows b i s p) = f.0 b s i p
