-- What counts was taken: votes and acknowledgements of a site, and the replies by which its epoch is known.
use Rattle.std.proofs.Common.{◌≡◌, ℕ, inl, inr, Bool, true, false, cond, ◌&&◌, ◌||◌, is_some, Option, Some, None, List, [], ◌∷◌, refl, sym, ap, ap₂, ◌∙◌}
use Rattle.std.proofs.lemmas.Bool.{and_parts}
use Rattle.mdb_base.specs.declared.names.SiteId.{SiteId}
use Rattle.mdb_base.specs.declared.names.Tid.{Tid}
use Rattle.mdb_base.specs.declared.replies.Reply.{Reply}
use Rattle.mdb_base.specs.Names.{same_tid, same_site}
use Rattle.mdb_base.specs.Words.{Among, each_of, some_of, those, with_some}
use Rattle.mdb_base.proofs.ForCallers.{same_site-equal, same_tid-equal}
use Rattle.presumptions.specs.declared.Participant.{Participant}
use Rattle.fed_rules.specs.declared.events.CoordEvent.{CoordEvent}
use Rattle.fed_rules.specs.declared.events.CoordEvent.TheVariants as Ev
use Rattle.fed_rules.specs.declared.messages.FromSite.TheVariants as From
use Rattle.fed_rules.specs.CoordPast as Past
use Rattle.fed_rules.specs.CoordPast.{CoordHappening, CoordPast, is_ticket, is_about, decides, begins, counts, acks_in, has_acked, vote_in, or_vote, vote_at, did_in, counted, counted_at, last_epoch, epoch_at, has_ticket_at}
use Rattle.fed_rules.specs.Happenings.{stops, comes_up}
use Rattle.coord_laws.proofs.Sound.{IsYes, IsAcked}

-- an acknowledgement that counts at a line is taken there
acks_event : (g : Tid) (site : SiteId) (x : CoordHappening) → acks_in g site x ≡ true → x.event ≡ Ev.Take site (From.Ack g)
acks_event g site x e = by_event x.event e where
  by_event : (event : CoordEvent) → acks_in g site (record x { event = event }) ≡ true → event ≡ Ev.Take site (From.Ack g)
  by_event (Ev.Take from (From.Ack tid)) e =
      let both = (and_parts (same_tid tid g && same_site from site) (counts x.answer) e).0 in
      let parts = and_parts (same_tid tid g) (same_site from site) both in
      ap₂ (λ s t. Ev.Take s (From.Ack t)) (same_site-equal from site parts.1) (same_tid-equal tid g parts.0)
  by_event (Ev.Take from (From.Did tid e k reply)) h = cc
  by_event (Ev.Take from (From.Vote tid vote)) h = cc
  by_event (Ev.Take from (From.Inquiry tid)) h = cc
  by_event (Ev.Go tid steps) h = cc
  by_event (Ev.Again tid) h = cc
  by_event (Ev.Late tid) h = cc
  by_event (Ev.Fate tx) h = cc
  by_event (Ev.Halt cut) h = cc
  by_event (Ev.Trip calls cut) h = cc
  by_event Ev.Back h = cc
  by_event Ev.Check h = cc

pub acked_taken : (past : CoordPast) (g : Tid) (site : SiteId) → has_acked past g site ≡ true → IsAcked past g site
acked_taken [] g site e = cc
acked_taken (x ∷ past) g site e = by_test (stops x.answer || comes_up x.answer || (is_about g x.event && decides x.answer))
    (acks_in g site x) refl e (acked_taken past g site) where
      by_test : (b a : Bool) → acks_in g site x ≡ a → cond b false (a || has_acked past g site) ≡ true
          → (has_acked past g site ≡ true → IsAcked past g site) → IsAcked (x ∷ past) g site
      by_test true a f h k = cc
      by_test false true f h k = inl (acks_event g site x f)
      by_test false false f h k = inr (k h)

-- a yes vote that counts at a line is taken there
vote_event : (g : Tid) (site : SiteId) (event : CoordEvent) (ticket : ℕ) → vote_in g site event ≡ Some ticket → IsYes g site event
vote_event g site (Ev.Take from (From.Vote tid vote)) ticket e = by_test (same_tid tid g && same_site from site) refl e where
  by_test : (b : Bool) → (same_tid tid g && same_site from site) ≡ b → cond b vote None ≡ Some ticket
      → IsYes g site (Ev.Take from (From.Vote tid vote))
  by_test true q h =
      let parts = and_parts (same_tid tid g) (same_site from site) q in (
        ticket,
        ap₂ (λ s t. Ev.Take s (From.Vote t vote)) (same_site-equal from site parts.1) (same_tid-equal tid g parts.0) ∙ ap
            (λ v. Ev.Take site (From.Vote g v)) h,
      )
  by_test false q h = cc
vote_event g site (Ev.Take from (From.Did tid e k reply)) ticket h = cc
vote_event g site (Ev.Take from (From.Ack tid)) ticket h = cc
vote_event g site (Ev.Take from (From.Inquiry tid)) ticket h = cc
vote_event g site (Ev.Go tid steps) ticket h = cc
vote_event g site (Ev.Again tid) ticket h = cc
vote_event g site (Ev.Late tid) ticket h = cc
vote_event g site (Ev.Fate tx) ticket h = cc
vote_event g site (Ev.Halt cut) ticket h = cc
vote_event g site (Ev.Trip calls cut) ticket h = cc
vote_event g site Ev.Back ticket h = cc
vote_event g site Ev.Check ticket h = cc

pub vote_taken : (past : CoordPast) (g : Tid) (site : SiteId) → is_some (vote_at past g site) ≡ true
    → Among (λ x. IsYes g site x.event) past
vote_taken [] g site e = cc
vote_taken (x ∷ past) g site e = by_test (begins g x.answer) (counts x.answer) (vote_in g site x.event) refl e
    (vote_taken past g site) where
      by_test : (b c : Bool) (v : Option ℕ) → vote_in g site x.event ≡ v
          → is_some (cond b None (cond c (or_vote v (vote_at past g site)) (vote_at past g site))) ≡ true
          → (is_some (vote_at past g site) ≡ true → Among (λ y. IsYes g site y.event) past) → Among (λ y. IsYes g site y.event)
          (x ∷ past)
      by_test true c v f h k = cc
      by_test false true None f h k = inr (k h)
      by_test false true (Some ticket) f h k = inl (vote_event g site x.event ticket f)
      by_test false false v f h k = inr (k h)

-- what each participant passes, this one passes
pub each_of_at : (test : SiteId → Bool) (site : SiteId) (P : Participant → Type 0) → ((m : Participant) → P m → m.site ≡ site)
    → (ms : List Participant) → each_of (λ m. test m.site) ms ≡ true → Among P ms → test site ≡ true
each_of_at test site P k [] e m = absurd m
each_of_at test site P k (x ∷ ms) e (inl p) = ap test (sym (k x p)) ∙ (and_parts (test x.site) (each_of (λ y. test y.site) ms) e).0
each_of_at test site P k (x ∷ ms) e (inr m) = each_of_at test site P k ms
    (and_parts (test x.site) (each_of (λ y. test y.site) ms) e).1 m

-- what a line does to the counted replies of a site
pub data Counting (past : CoordPast) (g : Tid) (site : SiteId) (x : CoordHappening) : Type 0 where
  Unchanged : begins g x.answer ≡ false → counted_at (x ∷ past) g site ≡ counted_at past g site → Counting past g site x
  Cleared : begins g x.answer ≡ true → counted_at (x ∷ past) g site ≡ [] → Counting past g site x
  Adds : begins g x.answer ≡ false → (e n : ℕ) (reply : Reply) → x.event ≡ Ev.Take site (From.Did g e n reply) → counts x.answer ≡ true
      → epoch_at (x ∷ past) g site ≡ e → Counting past g site x

same_reply : (g : Tid) (site : SiteId) (event : CoordEvent) (c : Past.Counted) → did_in g event ≡ Some c → same_site c.site site ≡ true
    → (n : ℕ) × (reply : Reply) × (event ≡ Ev.Take site (From.Did g c.epoch n reply))
same_reply g site (Ev.Take from (From.Did tid e n reply)) c h s = by_test (same_tid tid g) refl h where
  by_test : (b : Bool) → same_tid tid g ≡ b → cond b (Some (record { site = from; epoch = e; reply = reply })) None ≡ Some c
      → (k : ℕ) × (r : Reply) × (Ev.Take from (From.Did tid e n reply) ≡ Ev.Take site (From.Did g c.epoch k r))
  by_test true q h =
      let made : Past.Counted = record { site = from; epoch = e; reply = reply } in
      let same : made ≡ c = cc in (
        n,
        reply,
        ap₂ (λ at t. Ev.Take at (From.Did t e n reply)) (ap (λ y. y.site) same ∙ same_site-equal c.site site s)
            (same_tid-equal tid g q) ∙ ap (λ y. Ev.Take site (From.Did g y.epoch n reply)) same,
      )
  by_test false q h = cc
same_reply g site (Ev.Take from (From.Vote tid vote)) c h s = cc
same_reply g site (Ev.Take from (From.Ack tid)) c h s = cc
same_reply g site (Ev.Take from (From.Inquiry tid)) c h s = cc
same_reply g site (Ev.Go tid steps) c h s = cc
same_reply g site (Ev.Again tid) c h s = cc
same_reply g site (Ev.Late tid) c h s = cc
same_reply g site (Ev.Fate tx) c h s = cc
same_reply g site (Ev.Halt cut) c h s = cc
same_reply g site (Ev.Trip calls cut) c h s = cc
same_reply g site Ev.Back c h s = cc
same_reply g site Ev.Check c h s = cc

pub counting : (past : CoordPast) (g : Tid) (site : SiteId) (x : CoordHappening) → Counting past g site x
counting past g site x = by_test (begins g x.answer) (counts x.answer) (did_in g x.event) refl refl refl where
  at : List Past.Counted → List Past.Counted
  at cs = those (λ c. same_site c.site site) cs

  whole : (b k : Bool) (o : Option Past.Counted) → begins g x.answer ≡ b → counts x.answer ≡ k → did_in g x.event ≡ o
      → counted_at (x ∷ past) g site ≡ those (λ c. same_site c.site site)
      (cond b [] (cond k (with_some o (counted past g)) (counted past g)))
  whole b k o e f h =
      ap (λ v. those (λ c. same_site c.site site)
      (cond v [] (cond (counts x.answer) (with_some (did_in g x.event) (counted past g)) (counted past g)))) e
      ∙ ap₂ (λ u w. those (λ c. same_site c.site site) (cond b [] (cond u (with_some w (counted past g)) (counted past g)))) f h

  by_site : (c : Past.Counted) (s : Bool) → same_site c.site site ≡ s → begins g x.answer ≡ false → counts x.answer ≡ true
      → did_in g x.event ≡ Some c → counted_at (x ∷ past) g site ≡ cond s (c ∷ counted_at past g site) (counted_at past g site)
      → Counting past g site x
  by_site c true s e f h all = let r = same_reply g site x.event c h s in Adds e c.epoch r.0 r.1 r.2 f (ap last_epoch all)
  by_site c false s e f h all = Unchanged e all

  by_test : (b k : Bool) (o : Option Past.Counted) → begins g x.answer ≡ b → counts x.answer ≡ k → did_in g x.event ≡ o
      → Counting past g site x
  by_test true k o e f h = Cleared e (whole true k o e f h)
  by_test false false o e f h = Unchanged e (whole false false o e f h)
  by_test false true None e f h = Unchanged e (whole false true None e f h)
  by_test false true (Some c) e f h = by_site c (same_site c.site site) refl e f h (whole false true (Some c) e f h)

-- where a ticket counted, a reply did
pub ticket_counted : (past : CoordPast) (g : Tid) (site : SiteId) → has_ticket_at past g site ≡ true → counted_at past g site ≡ [] → ⊥
ticket_counted past g site t e =
    let none : Past.has_ticket_at past g site ≡ false = ap (λ cs. some_of (λ reply. is_ticket reply.reply) cs) e in cc
