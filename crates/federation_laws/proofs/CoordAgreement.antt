-- A site and the coordinator agree on an attempt after a line of the coordinator.
use Rattle.std.proofs.Common.{◌≡◌, ℕ, ◌<◌, ◌==◌, Bool, true, false, cond, ◌||◌, Option, Some, None, List, [], ◌∷◌, ◌++◌, length, inl, inr, refl, sym, ap, subst, ◌∙◌, eqb-true, arith}
use Rattle.mdb_base.specs.declared.acts.Step.{Step}
use Rattle.mdb_base.specs.declared.names.SiteId.{SiteId}
use Rattle.mdb_base.specs.declared.names.Tid.{Tid}
use Rattle.mdb_base.specs.declared.replies.Reply.{Reply}
use Rattle.mdb_base.specs.declared.replies.Reply.TheVariants as Reply_is
use Rattle.mdb_base.specs.Names.{same_site}
use Rattle.mdb_base.specs.Programs.{plain_act}
use Rattle.mdb_base.specs.Words.{Each}
use Rattle.mdb_base.proofs.ForCallers.{cond-true, nothing_left, same_site-equal, some_parts}
use Rattle.order_laws.specs.Chains.{In}
use Rattle.order_laws.proofs.ForCallers.{each_at, in_more}
use Rattle.fed_rules.specs.declared.events.CoordEvent.TheVariants as Ev
use Rattle.fed_rules.specs.declared.messages.FromSite.{FromSite}
use Rattle.fed_rules.specs.declared.messages.FromSite.TheVariants as From
use Rattle.fed_rules.specs.declared.messages.ToSite.{ToSite}
use Rattle.fed_rules.specs.declared.messages.ToSite.TheVariants as To
use Rattle.fed_rules.specs.CoordPast.{CoordHappening, CoordPast, Counted, begins, program, counted, last_epoch}
use Rattle.fed_rules.specs.Runs.{Access, Got, Wrote}
use Rattle.fed_rules.specs.SitePast.{SitePast}
use Rattle.fed_rules.specs.SiteRecords.{Home}
use Rattle.federation_laws.specs.Accesses.{act_of}
use Rattle.federation_laws.proofs.Agreement.{WasAsked, WereAsked, IsSaid, IsBehind, Agrees}
use Rattle.federation_laws.proofs.Asked.{IsAskedWork, IsAskedVote, IsOld, IsOf, Asked, asked-next, sent_here}
use Rattle.federation_laws.proofs.CoordEffects.{CountsReply, Effect, Starts, Replies, Votes, Still}
use Rattle.federation_laws.proofs.CoordHolds.{is_begun, IsDone, Holds, IsFresh, dead-more}
use Rattle.coord_laws.proofs.ForCallers.{IsAsked}
use Rattle.federation_laws.proofs.CoordOps.{Op, op_at, ops, ops_at, granted, Matches, agree-count}
use Rattle.federation_laws.proofs.CountedReplies.{is_dead, Works, Progress, Waiting, Working, Taking, progress, counts-epoch}
use Rattle.federation_laws.proofs.Dues.{of_site, epoch_of, left_at, ticket_of, count_of, reads_of}
use Rattle.federation_laws.proofs.SiteMoves.{IsNth, finishes}
use Rattle.federation_laws.proofs.SiteRuns.{site_ops, RunsHold}
use Rattle.std.proofs.lemmas.List.{append-nil, length-append}

was-more : (g : Tid) (sent more : List ToSite) (op : Option Access) (n : ℕ) → WasAsked g sent op n → WasAsked g (sent ++ more) op n
was-more g sent more (Some access) n h = (h.0, in_more _ sent more h.1)
was-more g sent more None n h = (h.0, in_more _ sent more h.1)

were-more : (g : Tid) (sent more : List ToSite) (all : List (Option Access)) → WereAsked g sent all → WereAsked g (sent ++ more) all
were-more g sent more [] h = tt
were-more g sent more (op ∷ all) h = (was-more g sent more op (length all) h.0, were-more g sent more all h.1)

-- the operation at a place was asked for there
asked-nth : (g : Tid) (sent : List ToSite) (all : List (Option Access)) (n : ℕ) (op : Option Access) → WereAsked g sent all → IsNth all n op → WasAsked g sent op n
asked-nth g sent [] n op h i = absurd i
asked-nth g sent (x ∷ all) n op h (inl e) = subst (λ k. WasAsked g sent op k) (sym e.0) (subst (λ o. WasAsked g sent o (length all)) e.1 h.0)
asked-nth g sent (x ∷ all) n op h (inr i) = asked-nth g sent all n op h.1 i

nth-below : {A : Type 0} (all : List A) (n : ℕ) (x : A) → IsNth all n x → n < length all
nth-below [] n x i = absurd i
nth-below (y ∷ all) n x (inl e) = let k = e.0 in omega (arith, k)
nth-below (y ∷ all) n x (inr i) = let k = nth-below all n x i in omega (arith, k)

-- the one behind which these are the first
nth-behind : {A : Type 0} (newer first : List A) (x : A) → IsNth (newer ++ first) (length first) x → (more : List A) × (newer ++ first ≡ more ++ x ∷ first)
nth-behind [] first x i = (let k = nth-below first (length first) x i in absurd (omega (arith, k)))
nth-behind (y ∷ newer) first x (inl e) =
    let k = e.0 in
    let l = length-append newer first in
    let none : newer ≡ [] = nothing_left newer (omega (arith, k, l)) in
    ([], ap (λ ys. y ∷ ys ++ first) none ∙ ap (λ z. z ∷ first) e.1)
nth-behind (y ∷ newer) first x (inr i) = let r = nth-behind newer first x i in (y ∷ r.0, ap (λ ys. y ∷ ys) r.1)

append-empty : {A : Type 0} (xs ys : List A) → [] ≡ xs ++ ys → ys ≡ []
append-empty [] ys e = sym e
append-empty (x ∷ xs) ys e = cc

-- one access has one reply, and one act
one-access : (reply : Reply) (a b : Access) → Matches reply (Some a) → Matches reply (Some b) → act_of a ≡ act_of b → a ≡ b
one-access (Reply_is.Value value) (Got key v) (Got k w) m n e = let same : key ≡ k = cc in let v_is : v ≡ w = sym m ∙ n in ap (λ x. Got x v) same ∙ ap (λ y. Got k y) v_is
one-access (Reply_is.Value value) (Got key v) (Wrote k w) m n e = absurd n
one-access (Reply_is.Value value) (Wrote key v) b m n e = absurd m
one-access Reply_is.Done (Wrote key v) (Wrote k w) m n e = let key_is : key ≡ k = cc in let v_is : v ≡ w = cc in ap (λ x. Wrote x v) key_is ∙ ap (λ y. Wrote k y) v_is
one-access Reply_is.Done (Wrote key v) (Got k w) m n e = absurd n
one-access Reply_is.Done (Got key v) b m n e = absurd m
one-access (Reply_is.Wait by) a b m n e = absurd m
one-access (Reply_is.Refused why) a b m n e = absurd m
one-access (Reply_is.Ticket ticket) a b m n e = absurd m
one-access Reply_is.Unknown a b m n e = absurd m

no-ticket-access : (reply : Reply) (a : Access) → Matches reply None → Matches reply (Some a) → ⊥
no-ticket-access (Reply_is.Ticket ticket) a m n = n
no-ticket-access (Reply_is.Value value) a m n = m
no-ticket-access Reply_is.Done a m n = m
no-ticket-access (Reply_is.Wait by) a m n = m
no-ticket-access (Reply_is.Refused why) a m n = m
no-ticket-access Reply_is.Unknown a m n = m

matches-finish : (reply : Reply) (op : Option Access) → Matches reply op → finishes reply ≡ true
matches-finish (Reply_is.Value value) op m = refl
matches-finish Reply_is.Done op m = refl
matches-finish (Reply_is.Ticket ticket) op m = refl
matches-finish (Reply_is.Wait by) op m = absurd m
matches-finish (Reply_is.Refused why) op m = absurd m
matches-finish Reply_is.Unknown op m = absurd m

-- what the site finished is what the coordinator counts: a step
same-step : (past : CoordPast) (g : Tid) (x : CoordHappening) (site : SiteId) (r : CountsReply past g x) (w : Works past g x r) (sent : List ToSite) (op : Option Access) → r.site ≡ site → Asked past g site sent → is_dead (counted past g) ≡ false
    → WasAsked g sent op r.n → Matches r.reply op → op ≡ Some w.access
same-step past g x site r w sent None own a alive was m = absurd (no-ticket-access r.reply w.access m w.answers)
same-step past g x site r w sent (Some access) own a alive was m =
    let old : IsAskedWork (program past g) (counted past g) site r.n (act_of access) = each_at (IsOld g (program past g) (counted past g) site) (To.Work g was.0 r.n (act_of access)) sent (a.old alive) was.1 refl in
    let count : r.n ≡ count_of (counted past g) site = w.facts.count ∙ ap (count_of (counted past g)) own in
    let next = old.next count in
    let step : next.step ≡ w.facts.step = some_parts (sym next.next ∙ w.facts.next) in
    let acts : act_of access ≡ act_of w.access = next.its_act ∙ (ap (λ (s : Step). plain_act (reads_of (counted past g)) s.act) step ∙ sym w.facts.its_act) in
    ap (λ z. Some z) (one-access r.reply access w.access m w.answers acts)

same-ticket : (reply : Reply) (op : Option Access) → Matches reply None → Matches reply op → op ≡ None
same-ticket reply None m n = refl
same-ticket reply (Some access) m n = absurd (no-ticket-access reply access m n)

-- the site's operations of a list with one more in front
ops-own : (site : SiteId) (at : SiteId) (op : Option Access) (all : List Op) → same_site at site ≡ true → ops_at site (op_at at op ∷ all) ≡ op ∷ ops_at site all
ops-own site at op all e = ap (λ t. cond t (op ∷ ops_at site all) (ops_at site all)) e

ops-other : (site : SiteId) (at : SiteId) (op : Option Access) (all : List Op) → same_site at site ≡ false → ops_at site (op_at at op ∷ all) ≡ ops_at site all
ops-other site at op all e = ap (λ t. cond t (op ∷ ops_at site all) (ops_at site all)) e

-- in the epoch of a reply that counts, what counted stands first
behind-then : (home : Home) (past : SitePast) (coordinator : CoordPast) (g : Tid) (x : CoordHappening) (r : CountsReply coordinator g x) → r.site ≡ home.site → RunsHold home past g → IsBehind (site_ops home past g (epoch_of (counted coordinator g) home.site)) (ops_at home.site (ops coordinator g)) → IsBehind (site_ops home past g r.epoch) (ops_at home.site (ops coordinator g))
behind-then home past coordinator g x r own runs b = by_tests (epoch_of (counted coordinator g) r.site == 0) refl (counts-epoch coordinator r.site g r.epoch r.n r.reply r.may)
  where
    here : epoch_of (counted coordinator g) r.site ≡ epoch_of (counted coordinator g) home.site
    here = ap (epoch_of (counted coordinator g)) own

    by_tests : (t : Bool) → (epoch_of (counted coordinator g) r.site == 0) ≡ t → (t || (r.epoch == epoch_of (counted coordinator g) r.site)) ≡ true → IsBehind (site_ops home past g r.epoch) (ops_at home.site (ops coordinator g))
    by_tests true q e =
        let zero_epoch : epoch_of (counted coordinator g) home.site ≡ 0 = sym here ∙ eqb-true (epoch_of (counted coordinator g) r.site) 0 q in
        let nothing : ops_at home.site (ops coordinator g) ≡ [] = append-empty b.0 (ops_at home.site (ops coordinator g)) (sym runs.zeroth ∙ (ap (site_ops home past g) (sym zero_epoch) ∙ b.1)) in
        (site_ops home past g r.epoch, sym (append-nil (site_ops home past g r.epoch)) ∙ ap (λ first. site_ops home past g r.epoch ++ first) (sym nothing))
    by_tests false q e =
        subst (λ k. IsBehind (site_ops home past g k) (ops_at home.site (ops coordinator g))) (sym (eqb-true r.epoch (epoch_of (counted coordinator g) r.site) e ∙ here)) b

-- one operation more counts
behind-one : (home : Home) (past : SitePast) (g : Tid) (e : ℕ) (first : List (Option Access)) (op : Option Access) → IsBehind (site_ops home past g e) first → IsNth (site_ops home past g e) (length first) op → IsBehind (site_ops home past g e) (op ∷ first)
behind-one home past g e first op b i =
    let r = nth-behind b.0 first op (subst (λ all. IsNth all (length first) op) b.1 i) in (r.0, b.1 ∙ r.1)

-- the epoch after a reply of the site, and of another one
epoch-own : (replies : List Counted) (reply : Counted) (site : SiteId) → same_site reply.site site ≡ true → epoch_of (reply ∷ replies) site ≡ reply.epoch
epoch-own replies reply site e = ap (λ t. last_epoch (cond t (reply ∷ of_site replies site) (of_site replies site))) e

epoch-other : (replies : List Counted) (reply : Counted) (site : SiteId) → same_site reply.site site ≡ false → epoch_of (reply ∷ replies) site ≡ epoch_of replies site
epoch-other replies reply site e = ap (λ t. last_epoch (cond t (reply ∷ of_site replies site) (of_site replies site))) e

-- what counted after a reply
behind-by : (home : Home) (past : SitePast) (coordinator : CoordPast) (g : Tid) (e : ℕ) (first : List (Option Access)) → epoch_of (counted coordinator g) home.site ≡ e → ops_at home.site (ops coordinator g) ≡ first → IsBehind (site_ops home past g e) first → IsBehind (site_ops home past g (epoch_of (counted coordinator g) home.site)) (ops_at home.site (ops coordinator g))
behind-by home past coordinator g e first q o b = subst (λ f. IsBehind (site_ops home past g (epoch_of (counted coordinator g) home.site)) f) (sym o) (subst (λ k. IsBehind (site_ops home past g k) first) (sym q) b)

-- what the site said of the operation that counts
said-op : (home : Home) (past : SitePast) (g : Tid) (answered : List FromSite) (e n : ℕ) (reply : Reply) → Each (IsSaid home past g) answered → In (From.Did g e n reply) answered → finishes reply ≡ true → (op : Option Access) × IsNth (site_ops home past g e) n op × Matches reply op
said-op home past g answered e n reply said i f = ((each_at (IsSaid home past g) (From.Did g e n reply) answered said i) refl).1 f

behind-reply : (home : Home) (past : SitePast) (coordinator : CoordPast) (g : Tid) (x : CoordHappening) (sent : List ToSite) (answered : List FromSite) (r : CountsReply coordinator g x) → Holds coordinator g → Agrees home past coordinator sent answered g → (r.site ≡ home.site → In (From.Did g r.epoch r.n r.reply) answered) → is_dead (counted coordinator g) ≡ false → Progress coordinator g x r
    → (t : Bool) → same_site r.site home.site ≡ t → IsBehind (site_ops home past g (epoch_of (counted (x ∷ coordinator) g) home.site)) (ops_at home.site (ops (x ∷ coordinator) g))
behind-reply home past coordinator g x sent answered r holds a heard alive p true q =
    let own = same_site-equal r.site home.site q in
    let now : epoch_of (counted (x ∷ coordinator) g) home.site ≡ r.epoch = ap (λ cs. epoch_of cs home.site) r.replies ∙ epoch-own (counted coordinator g) (record { site = r.site; epoch = r.epoch; reply = r.reply }) home.site q in
    let b = behind-then home past coordinator g x r own a.runs (a.behind alive) in
    let count : count_of (counted coordinator g) home.site ≡ length (ops_at home.site (ops coordinator g)) = agree-count (counted coordinator g) (ops coordinator g) home.site (holds.agree alive) in
    of_progress own now b count p
  where
    of_progress : r.site ≡ home.site → epoch_of (counted (x ∷ coordinator) g) home.site ≡ r.epoch → IsBehind (site_ops home past g r.epoch) (ops_at home.site (ops coordinator g)) → count_of (counted coordinator g) home.site ≡ length (ops_at home.site (ops coordinator g)) → Progress coordinator g x r
        → IsBehind (site_ops home past g (epoch_of (counted (x ∷ coordinator) g) home.site)) (ops_at home.site (ops (x ∷ coordinator) g))
    of_progress own now b count (Waiting w) = behind-by home past (x ∷ coordinator) g r.epoch (ops_at home.site (ops coordinator g)) now (ap (ops_at home.site) w.done) b
    of_progress own now b count (Working w) =
        let (op, nth, matches) = said-op home past g answered r.epoch r.n r.reply a.said (heard own) (matches-finish r.reply (Some w.access) w.answers) in
        let was = asked-nth g sent (site_ops home past g r.epoch) r.n op (a.from r.epoch) nth in
        let same : op ≡ Some w.access = same-step coordinator g x home.site r w sent op own a.asked alive was matches in
        let place : r.n ≡ length (ops_at home.site (ops coordinator g)) = w.facts.count ∙ (ap (count_of (counted coordinator g)) own ∙ count) in
        let i : IsNth (site_ops home past g r.epoch) (length (ops_at home.site (ops coordinator g))) (Some w.access) = subst (λ k. IsNth (site_ops home past g r.epoch) k (Some w.access)) place (subst (λ o. IsNth (site_ops home past g r.epoch) r.n o) same nth) in
        behind-by home past (x ∷ coordinator) g r.epoch (Some w.access ∷ ops_at home.site (ops coordinator g)) now
        (ap (ops_at home.site) w.done ∙ ops-own home.site r.site (Some w.access) (ops coordinator g) q)
        (behind-one home past g r.epoch (ops_at home.site (ops coordinator g)) (Some w.access) b i)
    of_progress own now b count (Taking t) =
        let (op, nth, matches) = said-op home past g answered r.epoch r.n r.reply a.said (heard own) (matches-finish r.reply None t.answers) in
        let same : op ≡ None = same-ticket r.reply op t.answers matches in
        let place : r.n ≡ length (ops_at home.site (ops coordinator g)) = t.facts.count ∙ (ap (count_of (counted coordinator g)) own ∙ count) in
        let i : IsNth (site_ops home past g r.epoch) (length (ops_at home.site (ops coordinator g))) None = subst (λ k. IsNth (site_ops home past g r.epoch) k None) place (subst (λ o. IsNth (site_ops home past g r.epoch) r.n o) same nth) in
        behind-by home past (x ∷ coordinator) g r.epoch (None ∷ ops_at home.site (ops coordinator g)) now
        (ap (ops_at home.site) t.done ∙ ops-own home.site r.site None (ops coordinator g) q)
        (behind-one home past g r.epoch (ops_at home.site (ops coordinator g)) None b i)
behind-reply home past coordinator g x sent answered r holds a heard alive p false q =
    let now : epoch_of (counted (x ∷ coordinator) g) home.site ≡ epoch_of (counted coordinator g) home.site = ap (λ cs. epoch_of cs home.site) r.replies ∙ epoch-other (counted coordinator g) (record { site = r.site; epoch = r.epoch; reply = r.reply }) home.site q in
    behind-by home past (x ∷ coordinator) g (epoch_of (counted coordinator g) home.site) (ops_at home.site (ops coordinator g)) now (same-ops p) (a.behind alive)
  where
    same-ops : Progress coordinator g x r → ops_at home.site (ops (x ∷ coordinator) g) ≡ ops_at home.site (ops coordinator g)
    same-ops (Waiting w) = ap (ops_at home.site) w.done
    same-ops (Working w) = ap (ops_at home.site) w.done ∙ ops-other home.site r.site (Some w.access) (ops coordinator g) q
    same-ops (Taking t) = ap (ops_at home.site) t.done ∙ ops-other home.site r.site None (ops coordinator g) q

behind-next : (home : Home) (past : SitePast) (coordinator : CoordPast) (g : Tid) (x : CoordHappening) (sent : List ToSite) (answered : List FromSite) → Holds coordinator g → Agrees home past coordinator sent answered g → ((epoch n : ℕ) (reply : Reply) → x.event ≡ Ev.Take home.site (From.Did g epoch n reply) → In (From.Did g epoch n reply) answered) → Effect coordinator g x
    → is_dead (counted (x ∷ coordinator) g) ≡ false → IsBehind (site_ops home past g (epoch_of (counted (x ∷ coordinator) g) home.site)) (ops_at home.site (ops (x ∷ coordinator) g))
behind-next home past coordinator g x sent answered holds a heard (Starts e) d =
    behind-by home past (x ∷ coordinator) g 0 [] (ap (λ cs. epoch_of cs home.site) (cond-true (begins g x.answer) [] _ e)) (ap (ops_at home.site) (cond-true (begins g x.answer) [] _ e)) ([], a.runs.zeroth)
behind-next home past coordinator g x sent answered holds a heard (Replies r) d =
    let parts = dead-more (counted coordinator g) (record { site = r.site; epoch = r.epoch; reply = r.reply }) (sym (ap is_dead r.replies) ∙ d) in
    behind-reply home past coordinator g x sent answered r holds a (λ own. heard r.epoch r.n r.reply (subst (λ z. x.event ≡ Ev.Take z (From.Did g r.epoch r.n r.reply)) own r.heard)) parts.1 (progress coordinator g x r parts.0) (same_site r.site home.site) refl
behind-next home past coordinator g x sent answered holds a heard (Votes v) d =
    behind-by home past (x ∷ coordinator) g _ _ (ap (λ cs. epoch_of cs home.site) v.replies) (ap (ops_at home.site) v.done) (a.behind (sym (ap is_dead v.replies) ∙ d))
behind-next home past coordinator g x sent answered holds a heard (Still q) d =
    behind-by home past (x ∷ coordinator) g _ _ (ap (λ cs. epoch_of cs home.site) q.replies) (ap (ops_at home.site) q.done) (a.behind (sym (ap is_dead q.replies) ∙ d))

-- after a Prepare nothing more of the site counts
sealed-ops : (home : Home) (past : SitePast) (coordinator : CoordPast) (g : Tid) (x : CoordHappening) (sent : List ToSite) → IsFresh coordinator g x → Asked coordinator g home.site sent → (e n : ℕ) → In (To.Prepare g e n) sent → Effect coordinator g x → is_dead (counted (x ∷ coordinator) g) ≡ false
    → (is_dead (counted coordinator g) ≡ false) × (ops_at home.site (ops (x ∷ coordinator) g) ≡ ops_at home.site (ops coordinator g))
sealed-ops home past coordinator g x sent fresh a e n i (Starts b) d =
    let known = each_at (λ message. IsOf g message → is_begun coordinator g ≡ true) (To.Prepare g e n) sent a.begun i refl in
    let clash = sym (fresh b) ∙ known in cc
sealed-ops home past coordinator g x sent fresh a e n i (Replies r) d =
    let parts = dead-more (counted coordinator g) (record { site = r.site; epoch = r.epoch; reply = r.reply }) (sym (ap is_dead r.replies) ∙ d) in
    (parts.1, of_progress parts.1 (progress coordinator g x r parts.0) (same_site r.site home.site) refl)
  where
    done : is_dead (counted coordinator g) ≡ false → IsDone (program coordinator g) (counted coordinator g) home.site
    done alive = (let old : IsAskedVote (program coordinator g) (counted coordinator g) home.site e n = each_at (IsOld g (program coordinator g) (counted coordinator g) home.site) (To.Prepare g e n) sent (a.old alive) i refl in old.done)

    of_progress : is_dead (counted coordinator g) ≡ false → Progress coordinator g x r → (t : Bool) → same_site r.site home.site ≡ t → ops_at home.site (ops (x ∷ coordinator) g) ≡ ops_at home.site (ops coordinator g)
    of_progress alive (Waiting w) t q = ap (ops_at home.site) w.done
    of_progress alive (Working w) true q = absurd (let own = same_site-equal r.site home.site q in let left = subst (λ z. left_at (program coordinator g) (counted coordinator g) z ≡ true) own w.facts.left in let clash = sym left ∙ (done alive).left in cc)
    of_progress alive (Working w) false q = ap (ops_at home.site) w.done ∙ ops-other home.site r.site (Some w.access) (ops coordinator g) q
    of_progress alive (Taking t) true q = absurd (let own = same_site-equal r.site home.site q in let ticket = subst (λ z. ticket_of (counted coordinator g) z ≡ false) own t.facts.ticket in let clash = sym ticket ∙ (done alive).ticket in cc)
    of_progress alive (Taking t) false q = ap (ops_at home.site) t.done ∙ ops-other home.site r.site None (ops coordinator g) q
sealed-ops home past coordinator g x sent fresh a e n i (Votes v) d = (sym (ap is_dead v.replies) ∙ d, ap (ops_at home.site) v.done)
sealed-ops home past coordinator g x sent fresh a e n i (Still q) d = (sym (ap is_dead q.replies) ∙ d, ap (ops_at home.site) q.done)

-- they agree after a line of the coordinator
pub agrees-coord : (home : Home) (past : SitePast) (coordinator : CoordPast) (g : Tid) (x : CoordHappening) (sent : List ToSite) (answered : List FromSite) → Holds coordinator g → Holds (x ∷ coordinator) g → IsFresh coordinator g x → Each (λ s. IsAsked (x ∷ coordinator) s.site s.message) x.sends
    → ((epoch n : ℕ) (reply : Reply) → x.event ≡ Ev.Take home.site (From.Did g epoch n reply) → In (From.Did g epoch n reply) answered) → Effect coordinator g x → Agrees home past coordinator sent answered g → Agrees home past (x ∷ coordinator) (sent ++ sent_here home.site x.sends) answered g
agrees-coord home past coordinator g x sent answered holds now fresh sends heard effects a =
    record {
      runs = a.runs;
      asked = asked-next coordinator g x home.site sent fresh now sends effects a.asked;
      said = a.said;
      from = λ e. were-more g sent (sent_here home.site x.sends) (site_ops home past g e) (a.from e);
      behind = behind-next home past coordinator g x sent answered holds a heard effects;
      sealed = λ s.
          let old = a.sealed s in
          record {
            e = old.e;
            n = old.n;
            asked = in_more _ sent (sent_here home.site x.sends) old.asked;
            same = λ d. let stays = sealed-ops home past coordinator g x sent fresh a.asked old.e old.n old.asked effects d in old.same stays.0 ∙ ap granted (sym stays.1);
          };
    }
