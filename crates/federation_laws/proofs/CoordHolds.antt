-- What holds at the coordinator of one attempt, line by line: what it counted follows the program, and a Commit comes after all of it.
use Rattle.std.proofs.Common.{◌≡◌, ◌⊎◌, ℕ, zero, suc, Bool, true, false, cond, not, ◌&&◌, ◌||◌, is_some, Some, None, List, [], ◌∷◌, drop, inl, inr, refl, sym, ap, subst, ◌∙◌}
use Rattle.std.proofs.lemmas.Bool.{and_parts}
use Rattle.mdb_base.specs.declared.acts.Step.{Step}
use Rattle.mdb_base.specs.declared.names.SiteId.{SiteId}
use Rattle.mdb_base.specs.declared.names.SiteTicket.{SiteTicket}
use Rattle.mdb_base.specs.declared.names.Tid.{Tid}
use Rattle.mdb_base.specs.Names.{same_site, same_tid}
use Rattle.mdb_base.specs.Programs.{plain_act}
use Rattle.mdb_base.specs.Words.{Each, Among, some_of, item_at, with_some}
use Rattle.presumptions.specs.declared.Participant.{Participant}
use Rattle.order_laws.proofs.ForCallers.{among_is, each_of_at, in_those}
use Rattle.mdb_base.proofs.ForCallers.{cond-true, same_site-equal, same_tid-refl, same_tid-sym}
use Rattle.fed_rules.specs.declared.answers.Answer.{Answer}
use Rattle.fed_rules.specs.declared.events.CoordEvent.{CoordEvent}
use Rattle.fed_rules.specs.declared.events.CoordEvent.TheVariants as Ev
use Rattle.fed_rules.specs.declared.answers.Answer.TheVariants as Say
use Rattle.fed_rules.specs.declared.messages.Due.TheVariants as Due_is
use Rattle.fed_rules.specs.declared.messages.FromSite.TheVariants as From
use Rattle.fed_rules.specs.declared.records.CoordRecord.{CoordRecord}
use Rattle.fed_rules.specs.declared.records.CoordRecord.TheVariants as Rec
use Rattle.fed_rules.specs.Coord.{is_due_vote}
use Rattle.fed_rules.specs.CoordPast.{CoordHappening, CoordPast, Counted, disk, records, is_open, is_about, begins, begun_by, begun_tids, program, visits, participants, counted, or_vote, vote_at, outstanding, is_wait, is_ticket, decides}
use Rattle.fed_rules.specs.CoordRecords.{has_commit}
use Rattle.fed_rules.specs.Disk.{Call, Append, Sync, CutBack, TrimFront, Stops}
use Rattle.fed_rules.specs.Happenings.{quiet, stops, comes_up}
use Rattle.federation_laws.specs.Accesses.{act_of, Follows}
use Rattle.federation_laws.proofs.CoordEffects.{program-stays, CountsReply, Effect, Starts, Replies, Votes, Still, effect}
use Rattle.coord_laws.proofs.ForCallers.{AppendsCommit, Begins, CommitsNobody, DecidesOnRefusal, IsLastVote, IsMade, commit_from, is_refusal, last_vote_of, undecided_from}
use Rattle.federation_laws.proofs.CoordOps.{Op, op_at, ops, accesses, Agree, agree-wait, agree-steps, agree-reads}
use Rattle.federation_laws.proofs.CountedReplies.{is_dead, Works, Progress, Waiting, Working, Taking, progress, counts-fits}
use Rattle.federation_laws.proofs.Dues.{left_at, ticket_of, steps_of, of_site, voting, IsWork, IsTake, due-is, Fitting, ToWork, ToTake, fitting}

-- whether the attempt was begun
abbrev pub is_begun : CoordPast → Tid → Bool
is_begun past g = some_of (same_tid g) (begun_tids past)

-- nothing is left to do at the site, but to vote
pub record IsDone (program : List Step) (replies : List Counted) (site : SiteId) : Type 0 where
  pub left : left_at program replies site ≡ false
  pub ticket : ticket_of replies site ≡ true

-- everything was done, with no refusal
pub record Finished (past : CoordPast) (g : Tid) : Type 0 where
  pub alive : is_dead (counted past g) ≡ false
  pub all : (s : SiteId) → visits s (program past g) ≡ true → IsDone (program past g) (counted past g) s
  pub known : is_begun past g ≡ true

-- what holds of an attempt
pub record Holds (past : CoordPast) (g : Tid) : Type 0 where
  pub unbegun : is_begun past g ≡ false → program past g ≡ []
  pub alive : is_open past g ≡ true → is_dead (counted past g) ≡ false
  pub agree : is_dead (counted past g) ≡ false → Agree (counted past g) (ops past g)
  pub follows : is_dead (counted past g) ≡ false → Follows (program past g) (accesses (ops past g))
  pub voted : (s : SiteId) → is_some (vote_at past g s) ≡ true → IsDone (program past g) (counted past g) s
  pub committed : has_commit (records past) g ≡ true → Finished past g
  pub over : has_commit (records past) g ≡ true → is_open past g ≡ false

-- at first
pub holds-first : (g : Tid) → Holds [] g
holds-first g = record { unbegun = λ e. refl; alive = λ e. cc; agree = λ e. tt; follows = λ e. tt; voted = λ s e. cc; committed = λ e. cc; over = λ e. cc }

-- nothing of an attempt was known before it began
abbrev pub IsFresh : CoordPast → Tid → CoordHappening → Type 0
IsFresh past g x = begins g x.answer ≡ true → is_begun past g ≡ false

-- the sites of the program are participants
abbrev pub AreDeclared : List Participant → List Step → Type 0
AreDeclared protocols steps = (s : SiteId) → visits s steps ≡ true → Among (λ p. p.site ≡ s) protocols

-- one reply more answers no fewer steps
pub left-more : (program : List Step) (replies : List Counted) (reply : Counted) (site : SiteId) → left_at program replies site ≡ false → left_at program (reply ∷ replies) site ≡ false
left-more program replies reply site e = by_test (not (is_wait reply.reply) && not (is_ticket reply.reply))
  where
    fewer : (n : ℕ) (steps : List Step) → visits site (drop n steps) ≡ false → visits site (drop (suc n) steps) ≡ false
    fewer zero [] e = e
    fewer zero (step ∷ steps) e = second (same_site step.site site) (visits site steps) e
      where
        second : (a b : Bool) → (a || b) ≡ false → b ≡ false
        second true b e = cc
        second false b e = e
    fewer (suc n) [] e = e
    fewer (suc n) (step ∷ steps) e = fewer n steps e

    by_test : (t : Bool) → visits site (drop (cond t (suc (steps_of replies)) (steps_of replies)) program) ≡ false
    by_test true = fewer (steps_of replies) program e
    by_test false = e

-- nor takes a ticket away
ticket-more : (replies : List Counted) (reply : Counted) (site : SiteId) → ticket_of replies site ≡ true → ticket_of (reply ∷ replies) site ≡ true
ticket-more replies reply site e = by_test (same_site reply.site site)
  where
    second : (a b : Bool) → b ≡ true → (a || b) ≡ true
    second true b e = refl
    second false b e = e

    by_test : (t : Bool) → some_of (λ (c : Counted). is_ticket c.reply) (cond t (reply ∷ of_site replies site) (of_site replies site)) ≡ true
    by_test true = second (is_ticket reply.reply) (ticket_of replies site) e
    by_test false = e

pub done-more : (program : List Step) (replies : List Counted) (reply : Counted) (site : SiteId) → IsDone program replies site → IsDone program (reply ∷ replies) site
done-more program replies reply site d = record { left = left-more program replies reply site d.left; ticket = ticket-more replies reply site d.ticket }

pub dead-more : (replies : List Counted) (reply : Counted) → is_dead (reply ∷ replies) ≡ false → (is_refusal reply.reply ≡ false) × (is_dead replies ≡ false)
dead-more replies reply e = parts (is_refusal reply.reply) (is_dead replies) e
  where
    parts : (a b : Bool) → (a || b) ≡ false → (a ≡ false) × (b ≡ false)
    parts true b e = cc
    parts false b e = (refl, e)

-- who is begun after a line
begun-answer : (g : Tid) (answer : Answer) (tids : List Tid) → some_of (same_tid g) (with_some (begun_by answer) tids) ≡ (begins g answer || some_of (same_tid g) tids)
begun-answer g (Say.Begun tid) tids = ap (λ t. t || some_of (same_tid g) tids) (same_tid-sym g tid)
begun-answer g answer tids = refl

pub begun-next : (past : CoordPast) (g : Tid) (x : CoordHappening) → is_begun (x ∷ past) g ≡ (begins g x.answer || is_begun past g)
begun-next past g x = begun-answer g x.answer (begun_tids past)

pub begun-stays : (past : CoordPast) (g : Tid) (x : CoordHappening) → is_begun past g ≡ true → is_begun (x ∷ past) g ≡ true
begun-stays past g x e = begun-next past g x ∙ second (begins g x.answer) (is_begun past g) e
  where
    second : (a b : Bool) → b ≡ true → (a || b) ≡ true
    second true b e = refl
    second false b e = e

pub unbegun-before : (past : CoordPast) (g : Tid) (x : CoordHappening) → is_begun (x ∷ past) g ≡ false → (begins g x.answer ≡ false) × (is_begun past g ≡ false)
unbegun-before past g x e = parts (begins g x.answer) (is_begun past g) (sym (begun-next past g x) ∙ e)
  where
    parts : (a b : Bool) → (a || b) ≡ false → (a ≡ false) × (b ≡ false)
    parts true b e = cc
    parts false b e = (refl, e)

pub begins-answer : (g : Tid) (answer : Answer) → begins g answer ≡ true → (tid : Tid) × (answer ≡ Say.Begun tid)
begins-answer g (Say.Begun tid) e = (tid, refl)
begins-answer g answer e = cc

-- a line that begins an attempt takes no vote
pub starts-novote : (g : Tid) (x : CoordHappening) (event : CoordEvent) (site : SiteId) (ticket : ℕ) → Begins event x.answer → begins g x.answer ≡ true → event ≡ Ev.Take site (From.Vote g (Some ticket)) → ⊥
starts-novote g x event site ticket b e v =
    let (tid, is) = begins-answer g x.answer e in
    let go = subst (Begins event) is b in
    let clash = sym go.1 ∙ v in cc

-- at the last vote everything is done
last-finished : (protocols : List Participant) (past : CoordPast) (event : CoordEvent) (g : Tid) (tickets : List SiteTicket) → Holds past g → AreDeclared protocols (program past g) → IsLastVote protocols past event g tickets → Finished past g
last-finished protocols past event g tickets h declared v =
    record {
      alive = h.alive (and_parts _ _ v.is_counted).0;
      all = all-done;
      known = begun (is_begun past g) refl;
    }
  where
    here : (visits v.site (program past g) ≡ true) × (left_at (program past g) (counted past g) v.site ≡ false) × (ticket_of (counted past g) v.site ≡ true)
    here = voting (program past g) (counted past g) (vote_at past g v.site) v.site (and_parts (is_open past g) (is_due_vote (outstanding past g v.site)) v.is_counted).1

    begun : (t : Bool) → is_begun past g ≡ t → is_begun past g ≡ true
    begun true e = e
    begun false e = (let none = ap (visits v.site) (h.unbegun e) in let clash = sym here.0 ∙ none in cc)

    voted-at : (s : SiteId) (t : Bool) → (same_tid g g && same_site v.site s) ≡ t → is_some (or_vote (cond t (Some v.ticket) None) (vote_at past g s)) ≡ true → IsDone (program past g) (counted past g) s
    voted-at s true e k =
        let same : v.site ≡ s = same_site-equal v.site s (and_parts _ _ e).1 in
        subst (IsDone (program past g) (counted past g)) same (record { left = here.1; ticket = here.2 })
    voted-at s false e k = h.voted s k

    all-done : (s : SiteId) → visits s (program past g) ≡ true → IsDone (program past g) (counted past g) s
    all-done s visited =
        let (p, i, at) = among_is (λ (p : Participant). p.site ≡ s) protocols (declared s visited) in
        let member = in_those (λ (p : Participant). visits p.site (program past g)) p protocols i (subst (λ z. visits z (program past g) ≡ true) (sym at) visited) in
        let vote : is_some (vote_at (quiet event Say.Voted ∷ past) g p.site) ≡ true = each_of_at (λ (m : Participant). is_some (vote_at (quiet event Say.Voted ∷ past) g m.site)) (participants protocols past g) p v.all member in
        let taken : is_some (vote_at (quiet (Ev.Take v.site (From.Vote g (Some v.ticket))) Say.Voted ∷ past) g p.site) ≡ true = subst (λ ev. is_some (vote_at (quiet ev Say.Voted ∷ past) g p.site) ≡ true) v.is_vote vote in
        subst (IsDone (program past g) (counted past g)) at (voted-at p.site (same_tid g g && same_site v.site p.site) refl taken)

-- after that nothing more is counted of it
finished-fits : (past : CoordPast) (g : Tid) (x : CoordHappening) → Finished past g → CountsReply past g x → ⊥
finished-fits past g x f r = none (fitting (program past g) (counted past g) r.site (outstanding past g r.site) r.n r.reply (counts-fits past r.site g r.epoch r.n r.reply r.may))
  where
    none : Fitting (program past g) (counted past g) r.site (outstanding past g r.site) r.n r.reply → ⊥
    none (ToWork w) =
        let due : IsWork (program past g) (counted past g) r.site w.at w.epoch r.n w.act = due-is (program past g) (counted past g) (vote_at past g r.site) r.site (Due_is.Work w.at w.epoch r.n w.act) w.is in
        let clash = sym due.left ∙ (f.all r.site due.visited).left in cc
    none (ToTake w) =
        let due : IsTake (program past g) (counted past g) r.site w.at w.epoch r.n = due-is (program past g) (counted past g) (vote_at past g r.site) r.site (Due_is.Take w.at w.epoch r.n) w.is in
        let clash = sym due.ticket ∙ (f.all r.site due.visited).ticket in cc

finished-same : (past : CoordPast) (g : Tid) (x : CoordHappening) → begins g x.answer ≡ false → counted (x ∷ past) g ≡ counted past g → Finished past g → Finished (x ∷ past) g
finished-same past g x b c f =
    let p = program-stays past g x b in
    record {
      alive = ap is_dead c ∙ f.alive;
      all = λ s v. subst (λ cs. IsDone (program (x ∷ past) g) cs s) (sym c) (subst (λ steps. IsDone steps (counted past g) s) (sym p) (f.all s (ap (visits s) (sym p) ∙ v)));
      known = begun-stays past g x f.known;
    }

-- a finished attempt stays so
finished-next : (past : CoordPast) (g : Tid) (x : CoordHappening) → (begins g x.answer ≡ true → ⊥) → Effect past g x → Finished past g → Finished (x ∷ past) g
finished-next past g x fresh (Starts e) f = absurd (fresh e)
finished-next past g x fresh (Replies r) f = absurd (finished-fits past g x f r)
finished-next past g x fresh (Votes v) f = finished-same past g x v.begun v.replies f
finished-next past g x fresh (Still q) f = finished-same past g x q.begun q.replies f

pub fresh-begun : (past : CoordPast) (g : Tid) (x : CoordHappening) → IsFresh past g x → is_begun past g ≡ true → begins g x.answer ≡ true → ⊥
fresh-begun past g x fresh known e = let no_one = fresh e in let clash = sym known ∙ no_one in cc

committed-next : (protocols : List Participant) (past : CoordPast) (g : Tid) (event : CoordEvent) (x : CoordHappening) → IsMade protocols past event x → IsFresh past g x → AreDeclared protocols (program past g) → Holds past g → has_commit (records (x ∷ past)) g ≡ true → Finished (x ∷ past) g
committed-next protocols past g event x made fresh declared h e = by_case (commit_from x.calls (disk past) g e)
  where
    by_case : (has_commit (records past) g ≡ true) ⊎ Among (AppendsCommit g) x.calls → Finished (x ∷ past) g
    by_case (inl old) =
        let f = h.committed old in
        finished-next past g x (fresh-begun past g x fresh f.known) (effect past g x event made.heard made.counted) f
    by_case (inr new) =
        let (tickets, v) = last_vote_of protocols past event g x.calls made.writes new in
        finished-next past g x (λ b. starts-novote g x event v.site v.ticket made.begun b v.is_vote) (effect past g x event made.heard made.counted) (last-finished protocols past event g tickets h declared v)

-- a step that counted is the next one of the program
step-follows : (past : CoordPast) (g : Tid) (x : CoordHappening) (r : CountsReply past g x) (w : Works past g x r) → Agree (counted past g) (ops past g) → Follows (program past g) (accesses (ops past g)) → Follows (program past g) (accesses (op_at r.site (Some w.access) ∷ ops past g))
step-follows past g x r w agree follows = (
  record {
    step = w.facts.step;
    place = subst (λ n. item_at (program past g) n ≡ Some w.facts.step) (agree-steps (counted past g) (ops past g) agree) w.facts.next;
    site = w.facts.its_site;
    act = subst (λ vs. plain_act vs w.facts.step.act ≡ act_of w.access) (agree-reads (counted past g) (ops past g) agree) (sym w.facts.its_act);
  },
  follows,
)

-- the operations that counted are those that were finished, and follow the program
record Going (past : CoordPast) (g : Tid) : Type 0 where
  agree : Agree (counted past g) (ops past g)
  follows : Follows (program past g) (accesses (ops past g))

going-by : (past : CoordPast) (g : Tid) (replies : List Counted) (all : List Op) (steps : List Step) → counted past g ≡ replies → ops past g ≡ all → program past g ≡ steps → Agree replies all → Follows steps (accesses all) → Going past g
going-by past g replies all steps c o p a f =
    record {
      agree = subst (λ cs. Agree cs (ops past g)) (sym c) (subst (Agree replies) (sym o) a);
      follows = subst (λ ps. Follows ps (accesses (ops past g))) (sym p) (subst (λ os. Follows steps (accesses os)) (sym o) f);
    }

going-reply : (past : CoordPast) (g : Tid) (x : CoordHappening) (r : CountsReply past g x) → Going past g → Progress past g x r → Going (x ∷ past) g
going-reply past g x r old (Waiting w) =
    going-by (x ∷ past) g _ (ops past g) (program past g) r.replies w.done (program-stays past g x r.begun) (agree-wait (record { site = r.site; epoch = r.epoch; reply = r.reply }) (counted past g) (ops past g) w.waits old.agree) old.follows
going-reply past g x r old (Working w) =
    going-by (x ∷ past) g (record { site = r.site; epoch = r.epoch; reply = r.reply } ∷ counted past g) (op_at r.site (Some w.access) ∷ ops past g) (program past g) r.replies w.done (program-stays past g x r.begun)
    (inr (refl, w.answers, old.agree)) (step-follows past g x r w old.agree old.follows)
going-reply past g x r old (Taking t) =
    going-by (x ∷ past) g (record { site = r.site; epoch = r.epoch; reply = r.reply } ∷ counted past g) (op_at r.site None ∷ ops past g) (program past g) r.replies t.done (program-stays past g x r.begun)
    (inr (refl, t.answers, old.agree)) old.follows

going-next : (past : CoordPast) (g : Tid) (x : CoordHappening) → Holds past g → Effect past g x → is_dead (counted (x ∷ past) g) ≡ false → Going (x ∷ past) g
going-next past g x h (Starts e) d =
    going-by (x ∷ past) g [] [] (program (x ∷ past) g) (cond-true (begins g x.answer) [] _ e) (cond-true (begins g x.answer) [] _ e) refl tt tt
going-next past g x h (Replies r) d =
    let parts = dead-more (counted past g) (record { site = r.site; epoch = r.epoch; reply = r.reply }) (sym (ap is_dead r.replies) ∙ d) in
    going-reply past g x r (record { agree = h.agree parts.1; follows = h.follows parts.1 }) (progress past g x r parts.0)
going-next past g x h (Votes v) d =
    let was : is_dead (counted past g) ≡ false = sym (ap is_dead v.replies) ∙ d in
    going-by (x ∷ past) g _ _ _ v.replies v.done (program-stays past g x v.begun) (h.agree was) (h.follows was)
going-next past g x h (Still q) d =
    let was : is_dead (counted past g) ≡ false = sym (ap is_dead q.replies) ∙ d in
    going-by (x ∷ past) g _ _ _ q.replies q.done (program-stays past g x q.begun) (h.agree was) (h.follows was)

-- who is undecided has had no refusal
alive-next : (past : CoordPast) (g : Tid) (x : CoordHappening) → Begins x.event x.answer → DecidesOnRefusal x.event x.answer → Holds past g → Effect past g x → is_open (x ∷ past) g ≡ true → is_dead (counted (x ∷ past) g) ≡ false
alive-next past g x b d h effects u = by_case effects (undecided_from past g x b u)
  where
    by_case : Effect past g x → (begins g x.answer ≡ true) ⊎ ((is_open past g ≡ true) × (is_about g x.event ≡ true → decides x.answer ≡ false) × ((stops x.answer || comes_up x.answer) ≡ false)) → is_dead (counted (x ∷ past) g) ≡ false
    by_case eff (inl e) = ap is_dead (cond-true (begins g x.answer) [] _ e)
    by_case (Starts e) (inr k) = ap is_dead (cond-true (begins g x.answer) [] _ e)
    by_case (Replies r) (inr k) = ap is_dead r.replies ∙ goes (is_refusal r.reply) refl
      where
        refuses : DecidesOnRefusal x.event x.answer
        refuses = d

        goes : (t : Bool) → is_refusal r.reply ≡ t → (is_refusal r.reply || is_dead (counted past g)) ≡ false
        goes true e =
            let decided : decides x.answer ≡ true = (subst (λ ev. DecidesOnRefusal ev x.answer) r.heard d) r.taken e in
            let not_decided : decides x.answer ≡ false = k.1 (ap (is_about g) r.heard ∙ same_tid-refl g) in cc
        goes false e = ap (λ t. t || is_dead (counted past g)) e ∙ h.alive k.0
    by_case (Votes v) (inr k) = ap is_dead v.replies ∙ h.alive k.0
    by_case (Still q) (inr k) = ap is_dead q.replies ∙ h.alive k.0

done-same : (past : CoordPast) (g : Tid) (x : CoordHappening) (s : SiteId) → begins g x.answer ≡ false → counted (x ∷ past) g ≡ counted past g → IsDone (program past g) (counted past g) s → IsDone (program (x ∷ past) g) (counted (x ∷ past) g) s
done-same past g x s b c d = subst (λ cs. IsDone (program (x ∷ past) g) cs s) (sym c) (subst (λ steps. IsDone steps (counted past g) s) (sym (program-stays past g x b)) d)

-- a site that voted has nothing left to do
voted-next : (past : CoordPast) (g : Tid) (x : CoordHappening) (s : SiteId) → Holds past g → Effect past g x → is_some (vote_at (x ∷ past) g s) ≡ true → IsDone (program (x ∷ past) g) (counted (x ∷ past) g) s
voted-next past g x s h (Starts e) v = (let none = ap is_some (cond-true (begins g x.answer) None _ e) in let clash = sym v ∙ none in cc)
voted-next past g x s h (Replies r) v =
    let was = h.voted s (ap is_some (sym (r.votes s)) ∙ v) in
    subst (λ cs. IsDone (program (x ∷ past) g) cs s) (sym r.replies)
    (subst (λ steps. IsDone steps (record { site = r.site; epoch = r.epoch; reply = r.reply } ∷ counted past g) s) (sym (program-stays past g x r.begun)) (done-more (program past g) (counted past g) _ s was))
voted-next past g x s h (Votes v) e = done-same past g x s v.begun v.replies (by_test (same_site v.site s) refl (ap is_some (sym (v.votes s)) ∙ e))
  where
    by_test : (t : Bool) → same_site v.site s ≡ t → is_some (or_vote (cond (same_site v.site s) (Some v.ticket) None) (vote_at past g s)) ≡ true → IsDone (program past g) (counted past g) s
    by_test true q k =
        let here = voting (program past g) (counted past g) (vote_at past g v.site) v.site (and_parts _ _ v.may).1 in
        subst (IsDone (program past g) (counted past g)) (same_site-equal v.site s q) (record { left = here.1; ticket = here.2 })
    by_test false q k = h.voted s (sym (ap (λ t. is_some (or_vote (cond t (Some v.ticket) None) (vote_at past g s))) q) ∙ k)
voted-next past g x s h (Still q) e = done-same past g x s q.begun q.replies (h.voted s (ap is_some (sym (q.votes s)) ∙ e))

-- who is committed isn't undecided any more
over-next : (protocols : List Participant) (past : CoordPast) (g : Tid) (event : CoordEvent) (x : CoordHappening) → IsMade protocols past event x → IsFresh past g x → Holds past g → has_commit (records (x ∷ past)) g ≡ true → is_open (x ∷ past) g ≡ false
over-next protocols past g event x made fresh h e = by_test (is_open (x ∷ past) g) refl
  where
    begins-none : begins g x.answer ≡ true → (has_commit (records past) g ≡ true) ⊎ Among (AppendsCommit g) x.calls → ⊥
    begins-none b (inl old) = fresh-begun past g x fresh (h.committed old).known b
    begins-none b (inr new) = let (tickets, v) = last_vote_of protocols past event g x.calls made.writes new in starts-novote g x event v.site v.ticket made.begun b v.is_vote

    nobody-else : (calls : List (Call CoordRecord)) → Each CommitsNobody calls → Among (AppendsCommit g) calls → ⊥
    nobody-else [] n i = i
    nobody-else (Append (Rec.Commit tid tickets) ∷ calls) n i = n.0
    nobody-else (Append (Rec.Initiation tid members) ∷ calls) n (inl own) = own
    nobody-else (Append (Rec.Abort tid members) ∷ calls) n (inl own) = own
    nobody-else (Append (Rec.End tid) ∷ calls) n (inl own) = own
    nobody-else (Append (Rec.Checkpoint sum) ∷ calls) n (inl own) = own
    nobody-else (Sync ∷ calls) n (inl own) = own
    nobody-else (CutBack ∷ calls) n (inl own) = own
    nobody-else (TrimFront ∷ calls) n (inl own) = own
    nobody-else (Stops cut ∷ calls) n (inl own) = own
    nobody-else (call ∷ calls) n (inr i) = nobody-else calls n.1 i

    none : (a b : Bool) → a ≡ false → b ≡ false → (a || b) ≡ false
    none a b e f = ap (λ t. t || b) e ∙ f

    going : (has_commit (records past) g ≡ true) ⊎ Among (AppendsCommit g) x.calls → (is_open past g ≡ true) × (is_about g x.event ≡ true → decides x.answer ≡ false) × ((stops x.answer || comes_up x.answer) ≡ false) → ⊥
    going (inl old) k = let clash = sym k.0 ∙ h.over old in cc
    going (inr new) k =
        let (tickets, v) = last_vote_of protocols past event g x.calls made.writes new in
        let about : is_about g x.event ≡ true = ap (is_about g) (made.heard ∙ v.is_vote) ∙ same_tid-refl g in
        let up : stops x.answer ≡ false = first (stops x.answer) (comes_up x.answer) k.2 in
        nobody-else x.calls (made.commits_by (none (decides x.answer) (stops x.answer) (k.1 about) up)) new
      where
        first : (a b : Bool) → (a || b) ≡ false → a ≡ false
        first true b e = cc
        first false b e = refl

    by_test : (t : Bool) → is_open (x ∷ past) g ≡ t → is_open (x ∷ past) g ≡ false
    by_test true u = absurd (elim (undecided_from past g x (subst (λ ev. Begins ev x.answer) (sym made.heard) made.begun) u) [
      | inl b ↦ begins-none b (commit_from x.calls (disk past) g e)
      | inr k ↦ going (commit_from x.calls (disk past) g e) k
    ])
    by_test false u = u

-- all of it holds after the next line
pub holds-next : (protocols : List Participant) (past : CoordPast) (g : Tid) (event : CoordEvent) (x : CoordHappening) → IsMade protocols past event x → IsFresh past g x → AreDeclared protocols (program past g) → Holds past g → Holds (x ∷ past) g
holds-next protocols past g event x made fresh declared h =
    let effects = effect past g x event made.heard made.counted in
    record {
      unbegun = λ e. let parts = unbegun-before past g x e in program-stays past g x parts.0 ∙ h.unbegun parts.1;
      alive = alive-next past g x (subst (λ ev. Begins ev x.answer) (sym made.heard) made.begun) (subst (λ ev. DecidesOnRefusal ev x.answer) (sym made.heard) made.decided) h effects;
      agree = λ d. (going-next past g x h effects d).agree;
      follows = λ d. (going-next past g x h effects d).follows;
      voted = λ s. voted-next past g x s h effects;
      committed = committed-next protocols past g event x made fresh declared h;
      over = over-next protocols past g event x made fresh h;
    }
