-- What a line of the coordinator changes of what it knows of one attempt: it begins it, counts a reply or a yes vote, or changes nothing.
use Rattle.std.proofs.Common.{◌≡◌, ℕ, Bool, true, false, cond, ◌&&◌, Option, Some, None, [], ◌∷◌, refl, ap, subst, ◌∙◌}
use Rattle.mdb_base.specs.declared.names.SiteId.{SiteId}
use Rattle.mdb_base.specs.declared.names.Tid.{Tid}
use Rattle.mdb_base.specs.declared.replies.Reply.{Reply}
use Rattle.mdb_base.specs.Names.{same_site, same_tid}
use Rattle.mdb_base.specs.Words.{with_some, map_some}
use Rattle.mdb_base.proofs.ForCallers.{same_tid-equal}
use Rattle.fed_rules.specs.declared.events.CoordEvent.{CoordEvent}
use Rattle.fed_rules.specs.declared.events.CoordEvent.TheVariants as Ev
use Rattle.fed_rules.specs.declared.messages.FromSite.TheVariants as From
use Rattle.fed_rules.specs.Coord.{did_counts, vote_counts}
use Rattle.fed_rules.specs.CoordPast.{CoordHappening, CoordPast, Counted, begins, program_in, or_steps, program, counts, did_in, counted, vote_in, or_vote, vote_at, outstanding}
use Rattle.coord_laws.proofs.ForCallers.{Counts}
use Rattle.federation_laws.proofs.CoordOps.{Op, finished, op_at, op_in, ops}

-- the program stays
pub program-stays : (past : CoordPast) (g : Tid) (x : CoordHappening) → begins g x.answer ≡ false → program (x ∷ past) g ≡ program past g
program-stays past g x e = ap (λ t. cond t (or_steps (program_in g x.event) []) (program past g)) e

counted-next : (past : CoordPast) (g : Tid) (x : CoordHappening) (c : Bool) (o : Option Counted) → begins g x.answer ≡ false → counts x.answer ≡ c → did_in g x.event ≡ o
    → counted (x ∷ past) g ≡ cond c (with_some o (counted past g)) (counted past g)
counted-next past g x c o e f h =
    ap (λ t. cond t [] (cond (counts x.answer) (with_some (did_in g x.event) (counted past g)) (counted past g))) e
    ∙ (ap (λ t. cond t (with_some (did_in g x.event) (counted past g)) (counted past g)) f ∙ ap (λ d. cond c (with_some d (counted past g)) (counted past g)) h)

ops-next : (past : CoordPast) (g : Tid) (x : CoordHappening) (c : Bool) (o : Option Op) → begins g x.answer ≡ false → counts x.answer ≡ c → op_in past g x.event ≡ o
    → ops (x ∷ past) g ≡ cond c (with_some o (ops past g)) (ops past g)
ops-next past g x c o e f h =
    ap (λ t. cond t [] (cond (counts x.answer) (with_some (op_in past g x.event) (ops past g)) (ops past g))) e
    ∙ (ap (λ t. cond t (with_some (op_in past g x.event) (ops past g)) (ops past g)) f ∙ ap (λ d. cond c (with_some d (ops past g)) (ops past g)) h)

votes-next : (past : CoordPast) (g : Tid) (x : CoordHappening) (c : Bool) (s : SiteId) (o : Option ℕ) → begins g x.answer ≡ false → counts x.answer ≡ c → vote_in g s x.event ≡ o
    → vote_at (x ∷ past) g s ≡ cond c (or_vote o (vote_at past g s)) (vote_at past g s)
votes-next past g x c s o e f h =
    ap (λ t. cond t None (cond (counts x.answer) (or_vote (vote_in g s x.event) (vote_at past g s)) (vote_at past g s))) e
    ∙ (ap (λ t. cond t (or_vote (vote_in g s x.event) (vote_at past g s)) (vote_at past g s)) f ∙ ap (λ d. cond c (or_vote d (vote_at past g s)) (vote_at past g s)) h)

-- a reply of the attempt is counted
pub record CountsReply (past : CoordPast) (g : Tid) (x : CoordHappening) : Type 0 where
  pub site : SiteId
  pub epoch : ℕ
  pub n : ℕ
  pub reply : Reply
  pub heard : x.event ≡ Ev.Take site (From.Did g epoch n reply)
  pub begun : begins g x.answer ≡ false
  pub taken : counts x.answer ≡ true
  pub may : did_counts past site g epoch n reply ≡ true
  pub replies : counted (x ∷ past) g ≡ record { site = site; epoch = epoch; reply = reply } ∷ counted past g
  pub done : ops (x ∷ past) g ≡ with_some (map_some (op_at site) (finished reply (outstanding past g site))) (ops past g)
  pub votes : (s : SiteId) → vote_at (x ∷ past) g s ≡ vote_at past g s

-- a yes vote of the attempt is counted
pub record CountsVote (past : CoordPast) (g : Tid) (x : CoordHappening) : Type 0 where
  pub site : SiteId
  pub ticket : ℕ
  pub heard : x.event ≡ Ev.Take site (From.Vote g (Some ticket))
  pub begun : begins g x.answer ≡ false
  pub may : vote_counts past site g ≡ true
  pub replies : counted (x ∷ past) g ≡ counted past g
  pub done : ops (x ∷ past) g ≡ ops past g
  pub votes : (s : SiteId) → vote_at (x ∷ past) g s ≡ or_vote (cond (same_site site s) (Some ticket) None) (vote_at past g s)

-- nothing of the attempt is counted
pub record CountsNothing (past : CoordPast) (g : Tid) (x : CoordHappening) : Type 0 where
  pub begun : begins g x.answer ≡ false
  pub replies : counted (x ∷ past) g ≡ counted past g
  pub done : ops (x ∷ past) g ≡ ops past g
  pub votes : (s : SiteId) → vote_at (x ∷ past) g s ≡ vote_at past g s

pub data Effect (past : CoordPast) (g : Tid) (x : CoordHappening) : Type 0 where
  Starts : begins g x.answer ≡ true → Effect past g x
  Replies : CountsReply past g x → Effect past g x
  Votes : CountsVote past g x → Effect past g x
  Still : CountsNothing past g x → Effect past g x

still-uncounted : (past : CoordPast) (g : Tid) (x : CoordHappening) → begins g x.answer ≡ false → counts x.answer ≡ false → Effect past g x
still-uncounted past g x e f = Still (record {
  begun = e;
  replies = counted-next past g x false _ e f refl;
  done = ops-next past g x false _ e f refl;
  votes = λ s. votes-next past g x false s _ e f refl;
})

still-other : (past : CoordPast) (g : Tid) (x : CoordHappening) → begins g x.answer ≡ false → counts x.answer ≡ true → did_in g x.event ≡ None → op_in past g x.event ≡ None → ((s : SiteId) → vote_in g s x.event ≡ None) → Effect past g x
still-other past g x e f d o v = Still (record {
  begun = e;
  replies = counted-next past g x true None e f d;
  done = ops-next past g x true None e f o;
  votes = λ s. votes-next past g x true s None e f (v s);
})

-- a reply that counts, about this attempt or another
of-did : (past : CoordPast) (g : Tid) (x : CoordHappening) (site : SiteId) (tid : Tid) (epoch n : ℕ) (reply : Reply) → x.event ≡ Ev.Take site (From.Did tid epoch n reply) → begins g x.answer ≡ false → counts x.answer ≡ true
    → did_counts past site tid epoch n reply ≡ true → (t : Bool) → same_tid tid g ≡ t → Effect past g x
of-did past g x site tid epoch n reply h e f may true q =
    let own = same_tid-equal tid g q in
    Replies (record {
      site = site;
      epoch = epoch;
      n = n;
      reply = reply;
      heard = subst (λ t. x.event ≡ Ev.Take site (From.Did t epoch n reply)) own h;
      begun = e;
      taken = f;
      may = subst (λ t. did_counts past site t epoch n reply ≡ true) own may;
      replies = counted-next past g x true (Some (record { site = site; epoch = epoch; reply = reply })) e f (ap (did_in g) h ∙ ap (λ t. cond t (Some (record { site = site; epoch = epoch; reply = reply })) None) q);
      done = ops-next past g x true (map_some (op_at site) (finished reply (outstanding past g site))) e f (ap (op_in past g) h ∙ ap (λ t. cond t (map_some (op_at site) (finished reply (outstanding past g site))) None) q);
      votes = λ s. votes-next past g x true s None e f (ap (vote_in g s) h);
    })
of-did past g x site tid epoch n reply h e f may false q =
    still-other past g x e f
    (ap (did_in g) h ∙ ap (λ t. cond t (Some (record { site = site; epoch = epoch; reply = reply })) None) q)
    (ap (op_in past g) h ∙ ap (λ t. cond t (map_some (op_at site) (finished reply (outstanding past g site))) None) q)
    (λ s. ap (vote_in g s) h)

-- a yes vote that counts
of-vote : (past : CoordPast) (g : Tid) (x : CoordHappening) (site : SiteId) (tid : Tid) (ticket : ℕ) → x.event ≡ Ev.Take site (From.Vote tid (Some ticket)) → begins g x.answer ≡ false → counts x.answer ≡ true
    → vote_counts past site tid ≡ true → (t : Bool) → same_tid tid g ≡ t → Effect past g x
of-vote past g x site tid ticket h e f may true q =
    let own = same_tid-equal tid g q in
    Votes (record {
      site = site;
      ticket = ticket;
      heard = subst (λ t. x.event ≡ Ev.Take site (From.Vote t (Some ticket))) own h;
      begun = e;
      may = subst (λ t. vote_counts past site t ≡ true) own may;
      replies = counted-next past g x true None e f (ap (did_in g) h);
      done = ops-next past g x true None e f (ap (op_in past g) h);
      votes = λ s. votes-next past g x true s (cond (same_site site s) (Some ticket) None) e f
          (ap (vote_in g s) h ∙ ap (λ t. cond (t && same_site site s) (Some ticket) None) q);
    })
of-vote past g x site tid ticket h e f may false q =
    still-other past g x e f (ap (did_in g) h) (ap (op_in past g) h)
    (λ s. ap (vote_in g s) h ∙ ap (λ t. cond (t && same_site site s) (Some ticket) None) q)

-- a vote of no is no yes vote
no-vote : (t : Bool) (o : Option ℕ) → o ≡ None → cond t o None ≡ None
no-vote true o e = e
no-vote false o e = refl

of-event : (past : CoordPast) (g : Tid) (x : CoordHappening) (event : CoordEvent) → x.event ≡ event → begins g x.answer ≡ false → counts x.answer ≡ true → Counts past event x.answer → Effect past g x
of-event past g x (Ev.Take site (From.Did tid epoch n reply)) h e f k = of-did past g x site tid epoch n reply h e f (k f) (same_tid tid g) refl
of-event past g x (Ev.Take site (From.Vote tid None)) h e f k = still-other past g x e f (ap (did_in g) h) (ap (op_in past g) h) (λ s. ap (vote_in g s) h ∙ no-vote (same_tid tid g && same_site site s) None refl)
of-event past g x (Ev.Take site (From.Vote tid (Some ticket))) h e f k = of-vote past g x site tid ticket h e f (k f) (same_tid tid g) refl
of-event past g x (Ev.Take site (From.Ack tid)) h e f k = still-other past g x e f (ap (did_in g) h) (ap (op_in past g) h) (λ s. ap (vote_in g s) h)
of-event past g x (Ev.Take site (From.Inquiry tid)) h e f k = still-other past g x e f (ap (did_in g) h) (ap (op_in past g) h) (λ s. ap (vote_in g s) h)
of-event past g x (Ev.Go tid steps) h e f k = still-other past g x e f (ap (did_in g) h) (ap (op_in past g) h) (λ s. ap (vote_in g s) h)
of-event past g x (Ev.Again tid) h e f k = still-other past g x e f (ap (did_in g) h) (ap (op_in past g) h) (λ s. ap (vote_in g s) h)
of-event past g x (Ev.Late tid) h e f k = still-other past g x e f (ap (did_in g) h) (ap (op_in past g) h) (λ s. ap (vote_in g s) h)
of-event past g x (Ev.Fate tx) h e f k = still-other past g x e f (ap (did_in g) h) (ap (op_in past g) h) (λ s. ap (vote_in g s) h)
of-event past g x (Ev.Halt cut) h e f k = still-other past g x e f (ap (did_in g) h) (ap (op_in past g) h) (λ s. ap (vote_in g s) h)
of-event past g x (Ev.Trip calls cut) h e f k = still-other past g x e f (ap (did_in g) h) (ap (op_in past g) h) (λ s. ap (vote_in g s) h)
of-event past g x Ev.Back h e f k = still-other past g x e f (ap (did_in g) h) (ap (op_in past g) h) (λ s. ap (vote_in g s) h)
of-event past g x Ev.Check h e f k = still-other past g x e f (ap (did_in g) h) (ap (op_in past g) h) (λ s. ap (vote_in g s) h)

-- what a line changes of an attempt
pub effect : (past : CoordPast) (g : Tid) (x : CoordHappening) (event : CoordEvent) → x.event ≡ event → Counts past event x.answer → Effect past g x
effect past g x event h k = by_tests (begins g x.answer) (counts x.answer) refl refl
  where
    by_tests : (b c : Bool) → begins g x.answer ≡ b → counts x.answer ≡ c → Effect past g x
    by_tests true c e f = Starts e
    by_tests false true e f = of-event past g x event h e f k
    by_tests false false e f = still-uncounted past g x e f
