-- A line of the coordinator keeps the invariant.
use Rattle.std.proofs.Common.{◌≡◌, ℕ, ◌<◌, ◌≤◌, ◌⊎◌, inl, inr, Bool, true, false, cond, ◌&&◌, ◌||◌, ◌==◌, is_some, None, List, [], ◌∷◌, ◌++◌, map, refl, sym, ap, subst, ◌∙◌, arith}
use Rattle.std.proofs.lemmas.Bool.{and_parts, eqb-true, or_cases}
use Rattle.mdb_base.specs.declared.acts.Step.{Step}
use Rattle.mdb_base.specs.declared.names.SiteId.{SiteId}
use Rattle.mdb_base.specs.declared.names.Tid.{Tid}
use Rattle.mdb_base.specs.declared.replies.Reply.{Reply}
use Rattle.mdb_base.specs.Names.{same_site}
use Rattle.mdb_base.specs.Words.{Each, Among, those}
use Rattle.mdb_base.proofs.ForCallers.{among_append, among_split, same_site-equal, same_tid-refl}
use Rattle.order_laws.specs.Chains.{In}
use Rattle.presumptions.specs.declared.Decision.{Decision}
use Rattle.presumptions.specs.declared.Decision.TheVariants as Decided
use Rattle.presumptions.specs.declared.Participant.{Participant}
use Rattle.presumptions.specs.declared.Protocol.{Protocol}
use Rattle.presumptions.specs.declared.Protocol.TheVariants as By
use Rattle.presumptions.specs.Table.{acks, presumed}
use Rattle.fed_rules.specs.declared.events.CoordEvent.{CoordEvent}
use Rattle.fed_rules.specs.declared.events.CoordEvent.TheVariants as Coord_event
use Rattle.fed_rules.specs.declared.messages.FromSite.{FromSite}
use Rattle.fed_rules.specs.declared.messages.FromSite.TheVariants as From
use Rattle.fed_rules.specs.declared.messages.Sent.{Sent}
use Rattle.fed_rules.specs.declared.messages.ToSite.{ToSite}
use Rattle.fed_rules.specs.declared.messages.ToSite.TheVariants as To
use Rattle.fed_rules.specs.declared.records.CoordRecord.{CoordRecord}
use Rattle.fed_rules.specs.declared.scenario.Scenario.{Scenario}
use Rattle.fed_rules.specs.Coord.{fits, protocol_of}
use Rattle.fed_rules.specs.CoordPast as Coordinator
use Rattle.fed_rules.specs.CoordPast.{CoordHappening, CoordPast, Standing, Decided, Gone, is_open, standing, begins, participants, program, visits, counts, counted_at, last_epoch, epoch_at, outstanding, outstanding_at}
use Rattle.fed_rules.specs.CoordRecords.{Uniform, Mixed, same_protocol, all_follow, class_of, has_initiation, named, has_commit, outcome}
use Rattle.fed_rules.specs.Scenarios.{protocols}
use Rattle.fed_rules.specs.SitePast.{SitePast, epoch, is_closed}
use Rattle.fed_rules.specs.SiteRecords.{Home}
use Rattle.commit_laws.specs.Seals.{seals}
use Rattle.commit_laws.proofs.Agree.{IsGot, IsOver, Prepares, Decides, HasSealed, Agree}
use Rattle.commit_laws.proofs.Links.{IsGlobal, member_of}
use Rattle.coord_laws.proofs.ForCallers.{Adds, Cleared, Counted, Counting, Declared, IsBegun, IsOpen, IsPreparing, IsTelling, Known, Now, Presumed, Says, Tells, Turn, Unchanged, begins_go, commit_named, coord_turn, counting, decided_not_open, decided_outcome, fresh, is_participant, is_undecided, named_stays_some, open_undecided, program_stays, same_outcome, same_program, stays_closed, ticket_counted, uncommitted_of}

-- the next line of the coordinator, where the invariant holds
pub record CoordNext (scenario : Scenario) (home : Home) (g : Tid) (past : CoordPast) (here : SitePast) (sent : List ToSite)
    (back : List FromSite) (event : CoordEvent) (x : CoordHappening) : Type 0 where
  pub agree : Agree scenario home g past here sent back
  pub turn : Turn (protocols scenario) (member_of home) g past event x
  pub begins : (steps : List Step) → event ≡ Coord_event.Go g steps → IsGlobal scenario g
  pub comes : (m : FromSite) → event ≡ Coord_event.Take home.site m → In m back
  pub declared : Declared (protocols scenario) (member_of home)
  pub protocol : protocol_of (protocols scenario) home.site ≡ home.protocol

-- the messages of these that go to the site
abbrev pub to_site : SiteId → List Sent → List ToSite
to_site site sends = map (λ s. s.message) (those (λ s. same_site s.site site) sends)

pub told-to : (protocols : List Participant) (g : Tid) (past : CoordPast) (x : CoordHappening) (site : SiteId) (sends : List Sent)
    (m : ToSite) → Each (Tells protocols g past x) sends → In m (to_site site sends) → Says protocols g past x site m
told-to protocols g past x site [] m h i = absurd i
told-to protocols g past x site (s ∷ sends) m h i = by_test (same_site s.site site) refl i
    (told-to protocols g past x site sends m h.1) where
      by_test : (b : Bool) → same_site s.site site ≡ b
          → In m (map (λ k. k.message)
          (cond b (s ∷ those (λ k. same_site k.site site) sends) (those (λ k. same_site k.site site) sends)))
          → (In m (to_site site sends) → Says protocols g past x site m) → Says protocols g past x site m
      by_test true q (inl e) k = subst (Says protocols g past x site) e
          (subst (λ at. Says protocols g past x at s.message) (same_site-equal s.site site q) h.0)
      by_test true q (inr j) k = k j
      by_test false q j k = k j

-- what is outstanding at a site is of a participant
fits-visits : (past : CoordPast) (g : Tid) (site : SiteId) (n : ℕ) (reply : Reply) → fits (outstanding past g site) n reply ≡ true
    → visits site (program past g) ≡ true
fits-visits past g site n reply f = by_test (visits site (program past g)) refl f where
  by_test : (b : Bool) → visits site (program past g) ≡ b → fits (cond b (outstanding_at past g site) None) n reply ≡ true
      → visits site (program past g) ≡ true
  by_test true e h = e
  by_test false e h = cc

-- a reply of the site that counts is of an open attempt, and names the known epoch where there is one
reply-counts : (scenario : Scenario) (home : Home) (g : Tid) (past : CoordPast) (event : CoordEvent) (x : CoordHappening) (e n : ℕ)
    (reply : Reply) → Turn (protocols scenario) (member_of home) g past event x → x.event ≡ Coord_event.Take home.site (From.Did g e n reply)
    → counts x.answer ≡ true
    → IsOpen (protocols scenario) past g × (((epoch_at past g home.site == 0) || (e == epoch_at past g home.site)) ≡ true) ×
    (visits home.site (program past g) ≡ true)
reply-counts scenario home g past event x e n reply t is c =
    let counted = subst (Counted (protocols scenario) g past) (sym t.line.is ∙ is) (t.line.counted c) (same_tid-refl g) in
    let parts = and_parts (is_open past g && fits (outstanding past g home.site) n reply)
    ((epoch_at past g home.site == 0) || (e == epoch_at past g home.site)) counted in
    let both = and_parts (is_open past g) (fits (outstanding past g home.site) n reply) parts.0 in
    (open_undecided (protocols scenario) past g both.0, parts.1, fits-visits past g home.site n reply both.1)

-- the epoch of an attempt that isn't open stays
epoch-stays : (scenario : Scenario) (home : Home) (g : Tid) (past : CoordPast) (event : CoordEvent) (x : CoordHappening)
    → Turn (protocols scenario) (member_of home) g past event x → IsBegun past g → (IsOpen (protocols scenario) past g → ⊥)
    → epoch_at (x ∷ past) g home.site ≡ epoch_at past g home.site
epoch-stays scenario home g past event x t begun closed = by_count (counting past g home.site x) where
  by_count : Counting past g home.site x → epoch_at (x ∷ past) g home.site ≡ epoch_at past g home.site
  by_count (Unchanged b e) = ap last_epoch e
  by_count (Cleared b e) = let f = fresh (protocols scenario) (member_of home) g past event x t begun in let no : true ≡ false = sym b ∙ f in cc
  by_count (Adds b e n reply is c f) = absurd (closed (reply-counts scenario home g past event x e n reply t is c).0)

-- and so does one that is known
epoch-known : (scenario : Scenario) (home : Home) (g : Tid) (past : CoordPast) (event : CoordEvent) (x : CoordHappening)
    → Turn (protocols scenario) (member_of home) g past event x → IsBegun past g → 1 ≤ epoch_at past g home.site
    → epoch_at (x ∷ past) g home.site ≡ epoch_at past g home.site
epoch-known scenario home g past event x t begun one = by_count (counting past g home.site x) where
  by_count : Counting past g home.site x → epoch_at (x ∷ past) g home.site ≡ epoch_at past g home.site
  by_count (Unchanged b e) = ap last_epoch e
  by_count (Cleared b e) = let f = fresh (protocols scenario) (member_of home) g past event x t begun in let no : true ≡ false = sym b ∙ f in cc
  by_count (Adds b e n reply is c f) = elim (or_cases (epoch_at past g home.site == 0) (e == epoch_at past g home.site)
      (reply-counts scenario home g past event x e n reply t is c).1) [
        | inl none ↦ let zero_is : epoch_at past g home.site ≡ 0 = eqb-true (epoch_at past g home.site) 0 none in let no : ⊥ = omega
            (arith, zero_is, one) in absurd no
        | inr same ↦ f ∙ eqb-true e (epoch_at past g home.site) same
      ]

-- where a participant presumes commit the attempt has an Initiation
follow-commit : (p : Protocol) (ms : List Participant) → all_follow p ms ≡ true → Among (λ m. m.protocol ≡ By.Commit) ms
    → same_protocol By.Commit p ≡ true
follow-commit p [] e i = absurd i
follow-commit p (m ∷ ms) e (inl c) =
    ap (λ q. same_protocol q p) (sym c) ∙ (and_parts (same_protocol m.protocol p) (all_follow p ms) e).0
follow-commit p (m ∷ ms) e (inr i) = follow-commit p ms (and_parts (same_protocol m.protocol p) (all_follow p ms) e).1 i

commit-initiates : (ms : List Participant) → Among (λ m. m.protocol ≡ By.Commit) ms → has_initiation (class_of ms) ≡ true
commit-initiates [] i = absurd i
commit-initiates (m ∷ ms) i = by_test (all_follow m.protocol ms) refl i where
  of_commit : (p : Protocol) → same_protocol By.Commit p ≡ true → has_initiation (Uniform p) ≡ true
  of_commit By.Nothing e = cc
  of_commit By.Abort e = cc
  of_commit By.Commit e = refl

  by_test : (b : Bool) → all_follow m.protocol ms ≡ b → Among (λ k. k.protocol ≡ By.Commit) (m ∷ ms)
      → has_initiation (cond b (Uniform m.protocol) Mixed) ≡ true
  by_test false e i = refl
  by_test true e (inl c) = ap (λ p. has_initiation (Uniform p)) c
  by_test true e (inr j) = of_commit m.protocol (follow-commit m.protocol ms e j)

among-commit-protocol : (home : Home) → home.protocol ≡ By.Commit → (ms : List Participant)
    → Among (λ m. (m.site ≡ home.site) × (m.protocol ≡ home.protocol)) ms → Among (λ m. m.protocol ≡ By.Commit) ms
among-commit-protocol home c [] i = absurd i
among-commit-protocol home c (m ∷ ms) (inl is) = inl (is.1 ∙ c)
among-commit-protocol home c (m ∷ ms) (inr i) = inr (among-commit-protocol home c ms i)

-- the presumption of an attempt that isn't known is its outcome, or the attempt has a record, and the site acknowledges the outcome
pub presumed-or-kept : (scenario : Scenario) (home : Home) (g : Tid) (past : CoordPast) (e : ℕ) → Prepares scenario home g past e
    → (presumed home.protocol ≡ outcome (Coordinator.records past) g)
    ⊎ ((acks home.protocol (outcome (Coordinator.records past) g) ≡ true)
    × (is_some (named (protocols scenario) (Coordinator.records past) g) ≡ true))
presumed-or-kept scenario home g past e p =
    by_commit (has_commit (Coordinator.records past) g) refl home.protocol refl
  where
    kept : List CoordRecord
    kept = Coordinator.records past

    by_commit : (b : Bool) → has_commit kept g ≡ b → (q : Protocol) → home.protocol ≡ q
        → (presumed q ≡ cond b Decided.Commit Decided.Abort)
        ⊎ ((acks q (cond b Decided.Commit Decided.Abort) ≡ true) × (is_some (named (protocols scenario) kept g) ≡ true))
    by_commit true c By.Nothing f = inr (refl, commit_named (protocols scenario) g kept c)
    by_commit true c By.Abort f = inr (refl, commit_named (protocols scenario) g kept c)
    by_commit true c By.Commit f = inl refl
    by_commit false c By.Nothing f = inl refl
    by_commit false c By.Abort f = inl refl
    by_commit false c By.Commit f = inr (refl, p.recorded f)

-- the presumption of an attempt that isn't known is its outcome, or the attempt is over at the inquirer
pub presumes-right : (scenario : Scenario) (home : Home) (g : Tid) (past : CoordPast) (here : SitePast) (sent : List ToSite)
    (back : List FromSite) → Agree scenario home g past here sent back → Declared (protocols scenario) (member_of home)
    → standing (protocols scenario) past g ≡ Gone → (e : ℕ)
    → Prepares scenario home g past e → (presumed home.protocol ≡ outcome (Coordinator.records past) g) ⊎ IsOver home g here
presumes-right scenario home g past here sent back a declared gone e p = elim (presumed-or-kept scenario home g past e p) [
  | inl right ↦ inl right
  | inr (acking, kept) ↦ inr (a.acked (a.taken (From.Ack g) (a.sound.gone gone kept declared acking p.visits)))
]

pub coord-next : (scenario : Scenario) (home : Home) (g : Tid) (past : CoordPast) (here : SitePast) (sent : List ToSite)
    (back : List FromSite) (event : CoordEvent) (x : CoordHappening) → CoordNext scenario home g past here sent back event x
    → Agree scenario home g (x ∷ past) here (sent ++ to_site home.site x.sends) back
coord-next scenario home g past here sent back event x n = record {
  sound = coord_turn (protocols scenario) (member_of home) g past event x t;
  global = global;
  firm = a.firm;
  shut = a.shut;
  given = (λ m i. among_append (λ y. y ≡ m) sent (to_site home.site x.sends) (a.given m i));
  taken = taken;
  preparing = preparing;
  telling = telling;
  replied = a.replied;
  voted = a.voted;
  acked = a.acked;
  asked = (λ i. let r = a.asked i in (r.0, r.1, among_append (λ y. y ≡ To.Prepare g r.0 r.1) sent (to_site home.site x.sends) r.2));
  started = a.started;
  known = known (counting past g home.site x);
  counted = counted (counting past g home.site x);
  barred = (λ got. let d = got_decides got in subst (λ e. (e < epoch home here) ⊎ (is_closed here g ≡ true))
      (sym (epoch-stays scenario home g past event x t d.begun d.closed)) (a.barred got));
  ended = (λ d m. let r = a.ended d m in (r.0, r.1 ∙ still r.0));
  settled = (λ d m. let r = a.settled d m in (r.0, r.1 ∙ still r.0));
  prepared = (λ e m. let r = a.prepared e m in (r.0, among_append (λ y. y ≡ To.Prepare g e r.0) sent (to_site home.site x.sends) r.1));
  sealed = sealed;
  tidy = a.tidy;
} where
  a : Agree scenario home g past here sent back
  a = n.agree

  t : Turn (protocols scenario) (member_of home) g past event x
  t = n.turn

  global : IsBegun (x ∷ past) g → IsGlobal scenario g
  global (inl b) = let go = begins_go (protocols scenario) g past x t.line.stood b in n.begins go.0 (sym t.line.is ∙ go.1)
  global (inr b) = a.global b

  sealed : Among (λ y. seals g y ≡ true) here → HasSealed home g (x ∷ past) here (sent ++ to_site home.site x.sends)
  sealed i =
      let r = a.sealed i in
      let p = a.preparing r.e r.n r.taken in
      let same = epoch-known scenario home g past event x t p.begun (let e = p.epoch in let one = p.counted in omega (arith, e, one)) in
      record {
        e = r.e;
        n = r.n;
        taken = among_append (λ y. y ≡ To.Prepare g r.e r.n) sent (to_site home.site x.sends) r.taken;
        left = elim r.left [ inl o ↦ inl o | inr less ↦ inr (omega (arith, same, less)) ];
      }

  taken : (m : FromSite) → Among (λ y. y.event ≡ Coord_event.Take home.site m) (x ∷ past) → In m back
  taken m (inl e) = n.comes m (sym t.line.is ∙ e)
  taken m (inr i) = a.taken m i

  got_decides : (got : IsGot g here) → Decides scenario home g past here got.0
  got_decides got = a.telling got.0 (a.given (To.Decide g got.0) got.1)

  -- the outcome of what was decided is the old one
  still : IsGot g here → outcome (Coordinator.records past) g ≡ outcome (Coordinator.records (x ∷ past)) g
  still got = sym (same_outcome (protocols scenario) (member_of home) g past event x t (got_decides got).closed)

  known : Counting past g home.site x → epoch_at (x ∷ past) g home.site ≤ epoch home here
  known (Unchanged b e) = let same : epoch_at
      (x ∷ past) g home.site ≡ epoch_at past g home.site = ap last_epoch e in let low = a.known in omega (arith, same, low)
  known (Cleared b e) = let none : epoch_at (x ∷ past) g home.site ≡ 0 = ap last_epoch e in omega (arith, none)
  known (Adds b e k reply is c f) = let low = (a.replied e k reply (n.comes (From.Did g e k reply) (sym t.line.is ∙ is))).1 in omega
      (arith, f, low)

  counted : Counting past g home.site x
      → (counted_at (x ∷ past) g home.site ≡ []) ⊎
      ((1 ≤ epoch_at (x ∷ past) g home.site) × (visits home.site (program (x ∷ past) g) ≡ true))
  counted (Unchanged b e) = elim a.counted [
    | inl none ↦ inl (e ∙ none)
    | inr (one, v) ↦ inr (
      (let same : epoch_at (x ∷ past) g home.site ≡ epoch_at past g home.site = ap last_epoch e in omega (arith, same, one)),
      ap
          (visits home.site) (program_stays g past x b) ∙ v,
    )
  ]
  counted (Cleared b e) = inl e
  counted (Adds b e k reply is c f) = inr (
    (let low = (a.replied e k reply (n.comes (From.Did g e k reply) (sym t.line.is ∙ is))).0 in omega (arith, f, low)),
    ap (visits home.site) (program_stays g past x b) ∙ (reply-counts scenario home g past event x e k reply t is c).2,
  )

  preparing : (e k : ℕ) → In (To.Prepare g e k) (sent ++ to_site home.site x.sends) → Prepares scenario home g (x ∷ past) e
  preparing e k i = elim (among_split (λ y. y ≡ To.Prepare g e k) sent (to_site home.site x.sends) i) [
    | inl j ↦ old (a.preparing e k j)
    | inr j ↦ new (told-to (protocols scenario) g past x home.site x.sends (To.Prepare g e k) t.line.tells j (same_tid-refl g))
  ] where
    old : Prepares scenario home g past e → Prepares scenario home g (x ∷ past) e
    old p = record {
      begun = inr p.begun;
      recorded = (λ c. named_stays_some (protocols scenario) g past event (Coordinator.records (x ∷ past)) t.line.kept
          (p.recorded c));
      visits = ap (visits home.site) (same_program (protocols scenario) (member_of home) g past event x t p.begun) ∙ p.visits;
      epoch = p.epoch ∙ sym
          (epoch-known scenario home g past event x t p.begun (let same = p.epoch in let one = p.counted in omega (arith, same, one)));
      counted = p.counted;
    }

    new : IsPreparing (protocols scenario) g past x home.site e → Prepares scenario home g (x ∷ past) e
    new p = record {
      begun = inr (a.sound.undecided p.undecided);
      recorded = (λ c. p.recorded (commit-initiates (participants (protocols scenario) past g)
          (among-commit-protocol home c (participants (protocols scenario) past g)
          (is_participant (protocols scenario) (member_of home) past g n.declared
          (ap (visits home.site) (sym (same_program (protocols scenario) (member_of home) g past event x t (a.sound.undecided p.undecided))) ∙ p.visits)))));
      visits = p.visits;
      epoch = p.epoch;
      counted = elim (counted (counting past g home.site x)) [
        | inl none ↦ absurd (ticket_counted (x ∷ past) g home.site p.ticketed none)
        | inr (one, v) ↦ (let same = p.epoch in omega (arith, same, one))
      ];
    }

  telling : (d : Decision) → In (To.Decide g d) (sent ++ to_site home.site x.sends) → Decides scenario home g (x ∷ past) here d
  telling d i = elim (among_split (λ y. y ≡ To.Decide g d) sent (to_site home.site x.sends) i) [
    | inl j ↦ old (a.telling d j)
    | inr j ↦ new (told-to (protocols scenario) g past x home.site x.sends (To.Decide g d) t.line.tells j (same_tid-refl g))
  ] where
    closed_gone : standing (protocols scenario) past g ≡ Gone → IsOpen (protocols scenario) past g → ⊥
    closed_gone is o = let no : is_undecided Gone ≡ true = ap is_undecided (sym is) ∙ o in cc

    old : Decides scenario home g past here d → Decides scenario home g (x ∷ past) here d
    old o = record {
      begun = inr o.begun;
      closed = stays_closed (protocols scenario) (member_of home) g past event x t o.begun o.closed;
      right = elim o.right [ inl e ↦ inl (e ∙ sym (same_outcome (protocols scenario) (member_of home) g past event x t o.closed)) | inr over ↦ inr over ];
    }

    new : IsTelling (protocols scenario) g past x home.site d → Decides scenario home g (x ∷ past) here d
    new (Now f o is news r by) = record {
      begun = inr (a.sound.undecided o);
      closed = (λ h. decided_not_open f d (ap is_undecided (sym is) ∙ h));
      right = inl (sym (ap (λ rs. outcome rs g) r ∙ decided_outcome g d news (Coordinator.records past)
          (uncommitted_of (protocols scenario) (member_of home) g past a.sound o) by));
    }
    new (Known is) =
        let k = a.sound.decided d is in
        old (record {
          begun = k.0;
          closed =
              (λ o. let no : is_undecided (Decided d) ≡ true = ap is_undecided (sym is) ∙ o in cc);
          right = inl k.1;
        })
    new (Presumed is from e) =
        let asked = a.asked (n.comes (From.Inquiry g) (sym t.line.is ∙ from)) in
        let p = a.preparing asked.0 asked.1 asked.2 in
        let same : d ≡ presumed home.protocol = e ∙ ap presumed n.protocol in
        old (record {
          begun = p.begun;
          closed = closed_gone is;
          right = elim (presumes-right scenario home g past here sent back a n.declared is asked.0 p) [
            | inl r ↦ inl
                (same ∙ r)
            | inr over ↦ inr over
          ];
        })
