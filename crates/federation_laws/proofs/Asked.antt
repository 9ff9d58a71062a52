-- What the coordinator asked of a site for an attempt: it asked for the operations that counted, and for what is outstanding now.
use Rattle.std.proofs.Common.{◌≡◌, ℕ, suc, ◌≤◌, Bool, true, false, cond, not, ◌&&◌, Some, None, List, [], ◌∷◌, ◌++◌, drop, map, refl, sym, ap, subst, ◌∙◌, arith}
use Rattle.mdb_base.specs.declared.acts.PlainAct.{PlainAct}
use Rattle.mdb_base.specs.declared.acts.Step.{Step}
use Rattle.mdb_base.specs.declared.names.SiteId.{SiteId}
use Rattle.mdb_base.specs.declared.names.Tid.{Tid}
use Rattle.mdb_base.specs.declared.replies.Reply.{Reply}
use Rattle.mdb_base.specs.declared.replies.Reply.TheVariants as Reply_is
use Rattle.mdb_base.specs.Names.{same_site}
use Rattle.mdb_base.specs.Programs.{plain_act}
use Rattle.mdb_base.specs.Words.{Each, those, how_many, item_at}
use Rattle.mdb_base.proofs.ForCallers.{append_each, same_site-equal, same_site-refl, some_parts}
use Rattle.fed_rules.specs.declared.messages.Due.{Due}
use Rattle.fed_rules.specs.declared.messages.Due.TheVariants as Due_is
use Rattle.fed_rules.specs.declared.messages.Sent.{Sent}
use Rattle.fed_rules.specs.declared.messages.ToSite.{ToSite}
use Rattle.fed_rules.specs.declared.messages.ToSite.TheVariants as To
use Rattle.fed_rules.specs.CoordPast.{CoordHappening, CoordPast, Counted, begins, program, visits, counted, vote_at, outstanding, is_wait, is_ticket, last_epoch}
use Rattle.federation_laws.proofs.CoordEffects.{program-stays, CountsReply, Effect, Starts, Replies, Votes, Still}
use Rattle.federation_laws.proofs.CoordHolds.{is_begun, begun-stays, Holds, dead-more, IsDone, done-more, left-more, IsFresh}
use Rattle.coord_laws.proofs.ForCallers.{IsAsked}
use Rattle.federation_laws.proofs.CoordOps.{Matches, matches-ends, count-wait, count-elsewhere}
use Rattle.federation_laws.specs.Accesses.{act_of}
use Rattle.fed_rules.specs.Coord.{fits}
use Rattle.federation_laws.proofs.CountedReplies.{is_dead, Progress, Waiting, Working, Taking, progress}
use Rattle.federation_laws.proofs.Dues.{of_site, count_of, epoch_of, ticket_of, steps_of, reads_of, left_at, IsWork, IsTake, IsPrepare, due-is}

-- the step that is next at this site, with its act
pub record IsNextAct (program : List Step) (replies : List Counted) (site : SiteId) (act : PlainAct) : Type 0 where
  pub left : left_at program replies site ≡ true
  pub step : Step
  pub next : item_at program (steps_of replies) ≡ Some step
  pub its_site : step.site ≡ site
  pub its_act : act ≡ plain_act (reads_of replies) step.act

-- an operation with this count was asked for: it counted, or it is the next one
pub record IsAskedWork (program : List Step) (replies : List Counted) (site : SiteId) (n : ℕ) (act : PlainAct) : Type 0 where
  pub most : n ≤ count_of replies site
  pub next : n ≡ count_of replies site → IsNextAct program replies site act

pub record IsAskedTake (program : List Step) (replies : List Counted) (site : SiteId) (n : ℕ) : Type 0 where
  pub most : n ≤ count_of replies site
  pub next : n ≡ count_of replies site → left_at program replies site ≡ false

-- the vote was asked for: everything is done
pub record IsAskedVote (program : List Step) (replies : List Counted) (site : SiteId) (epoch n : ℕ) : Type 0 where
  pub known : epoch ≡ epoch_of replies site
  pub count : n ≡ count_of replies site
  pub visited : visits site program ≡ true
  pub done : IsDone program replies site

-- what a message that was sent to the site says of the attempt
abbrev pub IsOld : Tid → List Step → List Counted → SiteId → ToSite → Type 0
IsOld g program replies site (To.Work tid epoch n act) = tid ≡ g → IsAskedWork program replies site n act
IsOld g program replies site (To.Take tid epoch n) = tid ≡ g → IsAskedTake program replies site n
IsOld g program replies site (To.Prepare tid epoch n) = tid ≡ g → IsAskedVote program replies site epoch n
IsOld g program replies site (To.Decide tid decision) = Unit {0}

-- the attempt that an operation or a Prepare is about
abbrev pub IsOf : Tid → ToSite → Type 0
IsOf g (To.Work tid epoch n act) = tid ≡ g
IsOf g (To.Take tid epoch n) = tid ≡ g
IsOf g (To.Prepare tid epoch n) = tid ≡ g
IsOf g (To.Decide tid decision) = ⊥

-- what was asked so far
pub record Asked (past : CoordPast) (g : Tid) (site : SiteId) (sent : List ToSite) : Type 0 where
  pub begun : Each (λ message. IsOf g message → is_begun past g ≡ true) sent
  pub old : is_dead (counted past g) ≡ false → Each (IsOld g (program past g) (counted past g) site) sent

-- what holds of each message after a reply counted
work-old : (g : Tid) (program : List Step) (replies now : List Counted) (site : SiteId) → ((n : ℕ) (act : PlainAct) → IsAskedWork program replies site n act → IsAskedWork program now site n act)
    → ((n : ℕ) → IsAskedTake program replies site n → IsAskedTake program now site n) → ((epoch n : ℕ) → IsAskedVote program replies site epoch n → IsAskedVote program now site epoch n)
    → (sent : List ToSite) → Each (IsOld g program replies site) sent → Each (IsOld g program now site) sent
work-old g program replies now site w t v [] h = tt
work-old g program replies now site w t v (To.Work tid epoch n act ∷ sent) h = ((λ own. w n act (h.0 own)), work-old g program replies now site w t v sent h.1)
work-old g program replies now site w t v (To.Take tid epoch n ∷ sent) h = ((λ own. t n (h.0 own)), work-old g program replies now site w t v sent h.1)
work-old g program replies now site w t v (To.Prepare tid epoch n ∷ sent) h = ((λ own. v epoch n (h.0 own)), work-old g program replies now site w t v sent h.1)
work-old g program replies now site w t v (To.Decide tid decision ∷ sent) h = (tt, work-old g program replies now site w t v sent h.1)

-- the replies of another site change nothing here
site-elsewhere : (replies : List Counted) (reply : Counted) (site : SiteId) → same_site reply.site site ≡ false → of_site (reply ∷ replies) site ≡ of_site replies site
site-elsewhere replies reply site e = ap (λ t. cond t (reply ∷ of_site replies site) (of_site replies site)) e

-- one reply more that answers no step and is no ticket here
record Same (replies now : List Counted) (site : SiteId) : Type 0 where
  count : count_of now site ≡ count_of replies site
  steps : steps_of now ≡ steps_of replies
  reads : reads_of now ≡ reads_of replies

left-same : (program : List Step) (replies now : List Counted) (site : SiteId) (b : Bool) → steps_of now ≡ steps_of replies → left_at program replies site ≡ b → left_at program now site ≡ b
left-same program replies now site b e l = ap (λ k. visits site (drop k program)) e ∙ l

same-work : (program : List Step) (replies now : List Counted) (site : SiteId) → Same replies now site → (n : ℕ) (act : PlainAct) → IsAskedWork program replies site n act → IsAskedWork program now site n act
same-work program replies now site s n act w =
    record {
      most = subst (λ k. n ≤ k) (sym s.count) w.most;
      next = λ e.
          let k = w.next (e ∙ s.count) in
          record {
            left = left-same program replies now site true s.steps k.left;
            step = k.step;
            next = ap (item_at program) s.steps ∙ k.next;
            its_site = k.its_site;
            its_act = k.its_act ∙ ap (λ vs. plain_act vs k.step.act) (sym s.reads);
          };
    }

same-take : (program : List Step) (replies now : List Counted) (site : SiteId) → Same replies now site → (n : ℕ) → IsAskedTake program replies site n → IsAskedTake program now site n
same-take program replies now site s n w =
    record { most = subst (λ k. n ≤ k) (sym s.count) w.most; next = λ e. left-same program replies now site false s.steps (w.next (e ∙ s.count)) }

-- where the replies of the site stay, so does what was asked for by a Prepare
stays-vote : (program : List Step) (replies : List Counted) (reply : Counted) (site : SiteId) → of_site (reply ∷ replies) site ≡ of_site replies site → (epoch n : ℕ) → IsAskedVote program replies site epoch n → IsAskedVote program (reply ∷ replies) site epoch n
stays-vote program replies reply site o epoch n v =
    record {
      known = v.known ∙ ap last_epoch (sym o);
      count = v.count ∙ ap (how_many (λ (c : Counted). not (is_wait c.reply))) (sym o);
      visited = v.visited;
      done = done-more program replies reply site v.done;
    }

-- a wait answers no step, and reads nothing
wait-steps : (reply : Counted) (replies : List Counted) → is_wait reply.reply ≡ true → steps_of (reply ∷ replies) ≡ steps_of replies
wait-steps reply replies w = ap (λ b. cond (not b && not (is_ticket reply.reply)) (suc (steps_of replies)) (steps_of replies)) w

wait-reads : (site : SiteId) (epoch : ℕ) (reply : Reply) (replies : List Counted) → is_wait reply ≡ true → reads_of (record { site = site; epoch = epoch; reply = reply } ∷ replies) ≡ reads_of replies
wait-reads site epoch (Reply_is.Wait by) replies w = refl
wait-reads site epoch (Reply_is.Value value) replies w = cc
wait-reads site epoch Reply_is.Done replies w = refl
wait-reads site epoch (Reply_is.Ticket ticket) replies w = refl
wait-reads site epoch (Reply_is.Refused why) replies w = refl
wait-reads site epoch Reply_is.Unknown replies w = refl

-- nor does a ticket
ticket-steps : (site : SiteId) (epoch : ℕ) (reply : Reply) (replies : List Counted) → Matches reply None → steps_of (record { site = site; epoch = epoch; reply = reply } ∷ replies) ≡ steps_of replies
ticket-steps site epoch (Reply_is.Ticket ticket) replies m = refl
ticket-steps site epoch (Reply_is.Wait by) replies m = absurd m
ticket-steps site epoch (Reply_is.Value value) replies m = absurd m
ticket-steps site epoch Reply_is.Done replies m = absurd m
ticket-steps site epoch (Reply_is.Refused why) replies m = absurd m
ticket-steps site epoch Reply_is.Unknown replies m = absurd m

ticket-reads : (site : SiteId) (epoch : ℕ) (reply : Reply) (replies : List Counted) → Matches reply None → reads_of (record { site = site; epoch = epoch; reply = reply } ∷ replies) ≡ reads_of replies
ticket-reads site epoch (Reply_is.Ticket ticket) replies m = refl
ticket-reads site epoch (Reply_is.Wait by) replies m = absurd m
ticket-reads site epoch (Reply_is.Value value) replies m = absurd m
ticket-reads site epoch Reply_is.Done replies m = absurd m
ticket-reads site epoch (Reply_is.Refused why) replies m = absurd m
ticket-reads site epoch Reply_is.Unknown replies m = absurd m

-- what isn't a wait is one reply more of its site
count-more : (reply : Counted) (replies : List Counted) (site : SiteId) → is_wait reply.reply ≡ false → same_site reply.site site ≡ true → count_of (reply ∷ replies) site ≡ suc (count_of replies site)
count-more reply replies site w e =
    ap (λ t. how_many (λ (c : Counted). not (is_wait c.reply)) (cond t (reply ∷ of_site replies site) (of_site replies site))) e
    ∙ ap (λ b. cond (not b) (suc (count_of replies site)) (count_of replies site)) w

-- a reply of the site behind which nothing that was asked for is outstanding
passed-work : (program : List Step) (replies now : List Counted) (site : SiteId) → count_of now site ≡ suc (count_of replies site) → (n : ℕ) (act : PlainAct) → IsAskedWork program replies site n act → IsAskedWork program now site n act
passed-work program replies now site c n act w =
    let most = w.most in record { most = subst (λ k. n ≤ k) (sym c) (omega (arith, most)); next = λ e. (let same = e ∙ c in absurd (omega (arith, most, same))) }

passed-take : (program : List Step) (replies now : List Counted) (site : SiteId) → count_of now site ≡ suc (count_of replies site) → (n : ℕ) → IsAskedTake program replies site n → IsAskedTake program now site n
passed-take program replies now site c n w =
    let most = w.most in record { most = subst (λ k. n ≤ k) (sym c) (omega (arith, most)); next = λ e. (let same = e ∙ c in absurd (omega (arith, most, same))) }

-- a step of another site was next: none of this site was
other-work : (program : List Step) (replies now : List Counted) (site at : SiteId) (epoch m : ℕ) (done : PlainAct) → same_site at site ≡ false → of_site now site ≡ of_site replies site → IsWork program replies at at epoch m done
    → (n : ℕ) (act : PlainAct) → IsAskedWork program replies site n act → IsAskedWork program now site n act
other-work program replies now site at epoch m done e o due n act w =
    let same = ap (how_many (λ (c : Counted). not (is_wait c.reply))) o in
    record {
      most = subst (λ k. n ≤ k) (sym same) w.most;
      next = λ q.
          let k = w.next (q ∙ same) in
          let step : due.step ≡ k.step = some_parts (sym due.next ∙ k.next) in
          let where_ : at ≡ site = sym due.its_site ∙ (ap (λ (x : Step). x.site) step ∙ k.its_site) in
          let yes : same_site at site ≡ true = subst (λ z. same_site at z ≡ true) where_ (same_site-refl at) in
          absurd (let clash = sym e ∙ yes in cc);
    }

more-take : (program : List Step) (replies : List Counted) (reply : Counted) (site : SiteId) → of_site (reply ∷ replies) site ≡ of_site replies site → (n : ℕ) → IsAskedTake program replies site n → IsAskedTake program (reply ∷ replies) site n
more-take program replies reply site o n w =
    let same = ap (how_many (λ (c : Counted). not (is_wait c.reply))) o in
    record { most = subst (λ k. n ≤ k) (sym same) w.most; next = λ q. left-more program replies reply site (w.next (q ∙ same)) }

-- nothing that fits is outstanding where a Prepare was asked for
pub no-vote-fits : (past : CoordPast) (g : Tid) (site : SiteId) (due : Due) (n : ℕ) (reply : Reply) → outstanding past g site ≡ Some due → fits (Some due) n reply ≡ true → IsDone (program past g) (counted past g) site → ⊥
no-vote-fits past g site (Due_is.Work at epoch m act) n reply e f d =
    let due : IsWork (program past g) (counted past g) site at epoch m act = due-is (program past g) (counted past g) (vote_at past g site) site (Due_is.Work at epoch m act) e in
    let clash = sym due.left ∙ d.left in cc
no-vote-fits past g site (Due_is.Take at epoch m) n reply e f d =
    let due : IsTake (program past g) (counted past g) site at epoch m = due-is (program past g) (counted past g) (vote_at past g site) site (Due_is.Take at epoch m) e in
    let clash = sym due.ticket ∙ d.ticket in cc
no-vote-fits past g site (Due_is.Prepare at epoch m) n reply e f d = cc

abbrev AreOld : CoordPast → Tid → List Counted → SiteId → List ToSite → Type 0
AreOld past g replies site sent = Each (IsOld g (program past g) replies site) sent

-- what was asked stays so when a reply counts
asked-reply : (past : CoordPast) (g : Tid) (x : CoordHappening) (site : SiteId) (sent : List ToSite) (r : CountsReply past g x) → Progress past g x r → AreOld past g (counted past g) site sent
    → (t : Bool) → same_site r.site site ≡ t → AreOld past g (record { site = r.site; epoch = r.epoch; reply = r.reply } ∷ counted past g) site sent
asked-reply past g x site sent r (Waiting w) old true e =
    let now = record { site = r.site; epoch = r.epoch; reply = r.reply } ∷ counted past g in
    let own : r.site ≡ site = same_site-equal r.site site e in
    let same : Same (counted past g) now site = record { count = count-wait (record { site = r.site; epoch = r.epoch; reply = r.reply }) (counted past g) site w.waits; steps = wait-steps (record { site = r.site; epoch = r.epoch; reply = r.reply }) (counted past g) w.waits; reads = wait-reads r.site r.epoch r.reply (counted past g) w.waits } in
    work-old g (program past g) (counted past g) now site (same-work (program past g) (counted past g) now site same) (same-take (program past g) (counted past g) now site same)
    (λ epoch n v. absurd (no-vote-fits past g site w.due r.n r.reply (subst (λ z. outstanding past g z ≡ Some w.due) own w.is_due) w.fit v.done)) sent old
asked-reply past g x site sent r (Waiting w) old false e =
    let reply : Counted = record { site = r.site; epoch = r.epoch; reply = r.reply } in
    let now = reply ∷ counted past g in
    let same : Same (counted past g) now site = record { count = count-wait (record { site = r.site; epoch = r.epoch; reply = r.reply }) (counted past g) site w.waits; steps = wait-steps (record { site = r.site; epoch = r.epoch; reply = r.reply }) (counted past g) w.waits; reads = wait-reads r.site r.epoch r.reply (counted past g) w.waits } in
    work-old g (program past g) (counted past g) now site (same-work (program past g) (counted past g) now site same) (same-take (program past g) (counted past g) now site same)
    (stays-vote (program past g) (counted past g) reply site (site-elsewhere (counted past g) reply site e)) sent old
asked-reply past g x site sent r (Working w) old true e =
    let reply : Counted = record { site = r.site; epoch = r.epoch; reply = r.reply } in
    let own : r.site ≡ site = same_site-equal r.site site e in
    let more = count-more reply (counted past g) site (matches-ends r.reply (Some w.access) w.answers) e in
    work-old g (program past g) (counted past g) (reply ∷ counted past g) site (passed-work (program past g) (counted past g) (reply ∷ counted past g) site more) (passed-take (program past g) (counted past g) (reply ∷ counted past g) site more)
    (λ epoch n v. absurd (let left : left_at (program past g) (counted past g) site ≡ true = subst (λ z. left_at (program past g) (counted past g) z ≡ true) own w.facts.left in let clash = sym left ∙ v.done.left in cc)) sent old
asked-reply past g x site sent r (Working w) old false e =
    let reply : Counted = record { site = r.site; epoch = r.epoch; reply = r.reply } in
    let there = site-elsewhere (counted past g) reply site e in
    work-old g (program past g) (counted past g) (reply ∷ counted past g) site (other-work (program past g) (counted past g) (reply ∷ counted past g) site r.site w.epoch r.n (act_of w.access) e there w.facts) (more-take (program past g) (counted past g) reply site there)
    (stays-vote (program past g) (counted past g) reply site there) sent old
asked-reply past g x site sent r (Taking k) old true e =
    let reply : Counted = record { site = r.site; epoch = r.epoch; reply = r.reply } in
    let own : r.site ≡ site = same_site-equal r.site site e in
    let more = count-more reply (counted past g) site (matches-ends r.reply None k.answers) e in
    work-old g (program past g) (counted past g) (reply ∷ counted past g) site (passed-work (program past g) (counted past g) (reply ∷ counted past g) site more) (passed-take (program past g) (counted past g) (reply ∷ counted past g) site more)
    (λ epoch n v. absurd (let ticket : ticket_of (counted past g) site ≡ false = subst (λ z. ticket_of (counted past g) z ≡ false) own k.facts.ticket in let clash = sym ticket ∙ v.done.ticket in cc)) sent old
asked-reply past g x site sent r (Taking k) old false e =
    let reply : Counted = record { site = r.site; epoch = r.epoch; reply = r.reply } in
    let now = reply ∷ counted past g in
    let there = site-elsewhere (counted past g) reply site e in
    let same : Same (counted past g) now site = record { count = count-elsewhere reply (counted past g) site e; steps = ticket-steps r.site r.epoch r.reply (counted past g) k.answers; reads = ticket-reads r.site r.epoch r.reply (counted past g) k.answers } in
    work-old g (program past g) (counted past g) now site (same-work (program past g) (counted past g) now site same) (same-take (program past g) (counted past g) now site same)
    (stays-vote (program past g) (counted past g) reply site there) sent old

-- no message is about an attempt that isn't begun
abbrev IsBegun : CoordPast → Tid → ToSite → Type 0
IsBegun past g message = IsOf g message → is_begun past g ≡ true

old-unbegun : (past : CoordPast) (g : Tid) (program : List Step) (replies : List Counted) (site : SiteId) → is_begun past g ≡ false → (sent : List ToSite) → Each (IsBegun past g) sent → Each (IsOld g program replies site) sent
old-unbegun past g program replies site un [] h = tt
old-unbegun past g program replies site un (To.Work tid epoch n act ∷ sent) h = ((λ own. absurd (let known = h.0 own in let clash = sym un ∙ known in cc)), old-unbegun past g program replies site un sent h.1)
old-unbegun past g program replies site un (To.Take tid epoch n ∷ sent) h = ((λ own. absurd (let known = h.0 own in let clash = sym un ∙ known in cc)), old-unbegun past g program replies site un sent h.1)
old-unbegun past g program replies site un (To.Prepare tid epoch n ∷ sent) h = ((λ own. absurd (let known = h.0 own in let clash = sym un ∙ known in cc)), old-unbegun past g program replies site un sent h.1)
old-unbegun past g program replies site un (To.Decide tid decision ∷ sent) h = (tt, old-unbegun past g program replies site un sent h.1)

begun-each : (past : CoordPast) (g : Tid) (x : CoordHappening) (sent : List ToSite) → Each (IsBegun past g) sent → Each (IsBegun (x ∷ past) g) sent
begun-each past g x [] h = tt
begun-each past g x (message ∷ sent) h = ((λ own. begun-stays past g x (h.0 own)), begun-each past g x sent h.1)

-- what was asked before is so after a line
asked-same : (past : CoordPast) (g : Tid) (x : CoordHappening) (site : SiteId) (sent : List ToSite) (replies : List Counted) → begins g x.answer ≡ false → counted (x ∷ past) g ≡ replies → AreOld past g replies site sent → AreOld (x ∷ past) g (counted (x ∷ past) g) site sent
asked-same past g x site sent replies b c old =
    subst (λ cs. AreOld (x ∷ past) g cs site sent) (sym c) (subst (λ steps. Each (IsOld g steps replies site) sent) (sym (program-stays past g x b)) old)

old-next : (past : CoordPast) (g : Tid) (x : CoordHappening) (site : SiteId) (sent : List ToSite) → IsFresh past g x → Asked past g site sent → Effect past g x → is_dead (counted (x ∷ past) g) ≡ false → AreOld (x ∷ past) g (counted (x ∷ past) g) site sent
old-next past g x site sent fresh a (Starts e) d = old-unbegun past g (program (x ∷ past) g) (counted (x ∷ past) g) site (fresh e) sent a.begun
old-next past g x site sent fresh a (Replies r) d =
    let parts = dead-more (counted past g) (record { site = r.site; epoch = r.epoch; reply = r.reply }) (sym (ap is_dead r.replies) ∙ d) in
    asked-same past g x site sent _ r.begun r.replies (asked-reply past g x site sent r (progress past g x r parts.0) (a.old parts.1) (same_site r.site site) refl)
old-next past g x site sent fresh a (Votes v) d = asked-same past g x site sent _ v.begun v.replies (a.old (sym (ap is_dead v.replies) ∙ d))
old-next past g x site sent fresh a (Still q) d = asked-same past g x site sent _ q.begun q.replies (a.old (sym (ap is_dead q.replies) ∙ d))

-- what is asked now is outstanding now
new-old : (past : CoordPast) (g : Tid) (site : SiteId) (message : ToSite) → IsAsked past site message → IsOld g (program past g) (counted past g) site message
new-old past g site (To.Work tid epoch n act) e = λ own.
    let due : IsWork (program past g) (counted past g) site site epoch n act = due-is (program past g) (counted past g) (vote_at past g site) site (Due_is.Work site epoch n act) (subst (λ t. outstanding past t site ≡ Some (Due_is.Work site epoch n act)) own e) in
    let count = due.count in
    record { most = omega (arith, count); next = λ q. record { left = due.left; step = due.step; next = due.next; its_site = due.its_site; its_act = due.its_act } }
new-old past g site (To.Take tid epoch n) e = λ own.
    let due : IsTake (program past g) (counted past g) site site epoch n = due-is (program past g) (counted past g) (vote_at past g site) site (Due_is.Take site epoch n) (subst (λ t. outstanding past t site ≡ Some (Due_is.Take site epoch n)) own e) in
    let count = due.count in
    record { most = omega (arith, count); next = λ q. due.left }
new-old past g site (To.Prepare tid epoch n) e = λ own.
    let due : IsPrepare (program past g) (counted past g) site site epoch n = due-is (program past g) (counted past g) (vote_at past g site) site (Due_is.Prepare site epoch n) (subst (λ t. outstanding past t site ≡ Some (Due_is.Prepare site epoch n)) own e) in
    record { known = due.known; count = due.count; visited = due.visited; done = record { left = due.left; ticket = due.ticket } }
new-old past g site (To.Decide tid decision) e = tt

-- and its attempt is begun
visited-begun : (past : CoordPast) (g : Tid) (site : SiteId) → Holds past g → visits site (program past g) ≡ true → is_begun past g ≡ true
visited-begun past g site h v = by_test (is_begun past g) refl
  where
    by_test : (t : Bool) → is_begun past g ≡ t → is_begun past g ≡ true
    by_test true e = e
    by_test false e = (let none = ap (visits site) (h.unbegun e) in let clash = sym v ∙ none in cc)

new-begun : (past : CoordPast) (g : Tid) (site : SiteId) (message : ToSite) → Holds past g → IsAsked past site message → IsBegun past g message
new-begun past g site (To.Work tid epoch n act) h e own =
    let due : IsWork (program past g) (counted past g) site site epoch n act = due-is (program past g) (counted past g) (vote_at past g site) site (Due_is.Work site epoch n act) (subst (λ t. outstanding past t site ≡ Some (Due_is.Work site epoch n act)) own e) in
    visited-begun past g site h due.visited
new-begun past g site (To.Take tid epoch n) h e own =
    let due : IsTake (program past g) (counted past g) site site epoch n = due-is (program past g) (counted past g) (vote_at past g site) site (Due_is.Take site epoch n) (subst (λ t. outstanding past t site ≡ Some (Due_is.Take site epoch n)) own e) in
    visited-begun past g site h due.visited
new-begun past g site (To.Prepare tid epoch n) h e own =
    let due : IsPrepare (program past g) (counted past g) site site epoch n = due-is (program past g) (counted past g) (vote_at past g site) site (Due_is.Prepare site epoch n) (subst (λ t. outstanding past t site ≡ Some (Due_is.Prepare site epoch n)) own e) in
    visited-begun past g site h due.visited
new-begun past g site (To.Decide tid decision) h e own = absurd own

-- what a line sends to the site
abbrev pub sent_here : SiteId → List Sent → List ToSite
sent_here site sends = map (λ sent. sent.message) (those (λ sent. same_site sent.site site) sends)

each-here : (P : ToSite → Type 0) (past : CoordPast) (site : SiteId) → ((message : ToSite) → IsAsked past site message → P message) → (sends : List Sent) → Each (λ sent. IsAsked past sent.site sent.message) sends → Each P (sent_here site sends)
each-here P past site f [] h = tt
each-here P past site f (sent ∷ sends) h = by_test (same_site sent.site site) refl (each-here P past site f sends h.1)
  where
    by_test : (t : Bool) → same_site sent.site site ≡ t → Each P (sent_here site sends) → Each P (map (λ (s : Sent). s.message) (cond t (sent ∷ those (λ s. same_site s.site site) sends) (those (λ s. same_site s.site site) sends)))
    by_test true e rest = (f sent.message (subst (λ z. IsAsked past z sent.message) (same_site-equal sent.site site e) h.0), rest)
    by_test false e rest = rest

-- what was asked of a site, after the next line
pub asked-next : (past : CoordPast) (g : Tid) (x : CoordHappening) (site : SiteId) (sent : List ToSite) → IsFresh past g x → Holds (x ∷ past) g → Each (λ s. IsAsked (x ∷ past) s.site s.message) x.sends → Effect past g x → Asked past g site sent
    → Asked (x ∷ past) g site (sent ++ sent_here site x.sends)
asked-next past g x site sent fresh h sends effects a =
    record {
      begun = append_each (IsBegun (x ∷ past) g) sent (sent_here site x.sends) (begun-each past g x sent a.begun) (each-here (IsBegun (x ∷ past) g) (x ∷ past) site (λ message e. new-begun (x ∷ past) g site message h e) x.sends sends);
      old = λ d. append_each (IsOld g (program (x ∷ past) g) (counted (x ∷ past) g) site) sent (sent_here site x.sends) (old-next past g x site sent fresh a effects d) (each-here (IsOld g (program (x ∷ past) g) (counted (x ∷ past) g) site) (x ∷ past) site (λ message e. new-old (x ∷ past) g site message e) x.sends sends);
    }
