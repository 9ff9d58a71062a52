-- A line of the site keeps the invariant.
use Rattle.std.proofs.Common.{◌≡◌, ℕ, ◌<◌, ◌≤◌, ◌⊎◌, inl, inr, Bool, true, false, cond, ◌||◌, is_some, Some, None, List, ◌∷◌, ◌++◌, refl, sym, ap, subst, ◌∙◌, arith}
use Rattle.std.proofs.lemmas.Bool.{or_left}
use Rattle.mdb_base.specs.declared.names.Tid.{Tid}
use Rattle.mdb_base.specs.declared.replies.Reply.{Reply}
use Rattle.mdb_base.specs.Words.{Each, Among, some_of}
use Rattle.mdb_base.proofs.ForCallers.{among_append, among_split, same_tid-refl}
use Rattle.order_laws.specs.Chains.{In}
use Rattle.order_laws.proofs.ForCallers.{each_at, same_of}
use Rattle.presumptions.specs.declared.Decision.{Decision}
use Rattle.presumptions.specs.Table.{forces}
use Rattle.fed_rules.specs.declared.answers.Answer.TheVariants as Say
use Rattle.fed_rules.specs.declared.events.SiteEvent.{SiteEvent}
use Rattle.fed_rules.specs.declared.events.SiteEvent.TheVariants as Ev
use Rattle.fed_rules.specs.declared.messages.FromSite.{FromSite}
use Rattle.fed_rules.specs.declared.messages.FromSite.TheVariants as From
use Rattle.fed_rules.specs.declared.messages.ToSite.{ToSite}
use Rattle.fed_rules.specs.declared.messages.ToSite.TheVariants as To
use Rattle.fed_rules.specs.declared.records.SiteRecord.{SiteRecord}
use Rattle.fed_rules.specs.declared.records.SiteRecord.TheVariants as Rec
use Rattle.fed_rules.specs.declared.scenario.Scenario.{Scenario}
use Rattle.fed_rules.specs.CoordPast as Coordinator
use Rattle.fed_rules.specs.CoordPast.{CoordPast, epoch_at}
use Rattle.fed_rules.specs.CoordRecords.{outcome}
use Rattle.fed_rules.specs.Happenings.{stops, comes_up, is_down}
use Rattle.fed_rules.specs.SitePast.{SiteHappening, SitePast, records, epoch, is_closed, decides_on, ends}
use Rattle.fed_rules.specs.SiteRecords.{Home, doubt_of, epoch_of}
use Rattle.commit_laws.specs.Records.{IsPrepared, IsEnded, IsLooseEnded}
use Rattle.commit_laws.specs.Seals.{seals}
use Rattle.commit_laws.proofs.Agree.{IsGot, IsOver, HasSealed, Agree}
use Rattle.fed_rules.proofs.ForCallers.{cut_old, cut_stays}
use Rattle.commit_laws.proofs.Links.{IsGlobal}
use Rattle.commit_laws.proofs.SiteFacts.{IsSealing, IsSettling, IsAcking, Wrote, Says, Settled, NotBegun}
use Rattle.commit_laws.proofs.SiteLines.{Kept, Line}
use Rattle.commit_laws.proofs.SiteLists.{Free, IsTidy, tidy-behind, tidy-doubt, settled-ended, epoch-cut, loose-prepared, loose-forced}
use Rattle.commit_laws.proofs.SiteWork.{held-prepared}

-- the next line of a site, where the invariant holds
pub record SiteTurn (scenario : Scenario) (home : Home) (g : Tid) (past : CoordPast) (here : SitePast) (sent : List ToSite)
    (back : List FromSite) (event : SiteEvent) (x : SiteHappening) : Type 0 where
  pub agree : Agree scenario home g past here sent back
  pub line : Line home g here event x
  pub comes : (m : ToSite) → event ≡ Ev.Give m → In m sent
  pub global : IsGlobal scenario g → NotBegun g event

-- a Prepared record behind the line was there, or the line seals
pub new-prepared : (home : Home) (g : Tid) (here : SitePast) (event : SiteEvent) (now : List SiteRecord) (e : ℕ)
    → Kept home g here event now → Among (IsPrepared g e) now
    → Among (IsPrepared g e) (records home here) ⊎ IsSealing home g here event e
new-prepared home g here event now e (inr c) m = inl (cut_old (IsLooseEnded home.protocol) (IsPrepared g e) (records home here) now c m)
new-prepared home g here event now e (inl (r, w, is)) m = by_place r w (subst (Among (IsPrepared g e)) is m) where
  by_place : (r : SiteRecord) → Wrote home g here event r → Among (IsPrepared g e) (r ∷ records home here)
      → Among (IsPrepared g e) (records home here) ⊎ IsSealing home g here event e
  by_place (Rec.Prepared t k number ticket writes) w (inl p) = inr (subst (IsSealing home g here event) p.1 (w (same_of t g p.0)))
  by_place (Rec.Ended t d) w (inl p) = absurd p
  by_place (Rec.Start k) w (inl p) = absurd p
  by_place (Rec.Setup site engine protocol items) w (inl p) = absurd p
  by_place (Rec.Checkpoint sum) w (inl p) = absurd p
  by_place (Rec.Local t number writes) w (inl p) = absurd p
  by_place r w (inr i) = inl i

-- an Ended record behind the line was there, or the line settles
new-ended : (home : Home) (g : Tid) (here : SitePast) (event : SiteEvent) (now : List SiteRecord) (d : Decision)
    → Kept home g here event now → Among (IsEnded g d) now → Among (IsEnded g d) (records home here) ⊎ IsSettling home g here event d
new-ended home g here event now d (inr c) m = inl (cut_old (IsLooseEnded home.protocol) (IsEnded g d) (records home here) now c m)
new-ended home g here event now d (inl (r, w, is)) m = by_place r w (subst (Among (IsEnded g d)) is m) where
  by_place : (r : SiteRecord) → Wrote home g here event r → Among (IsEnded g d) (r ∷ records home here)
      → Among (IsEnded g d) (records home here) ⊎ IsSettling home g here event d
  by_place (Rec.Ended t k) w (inl p) = inr (subst (IsSettling home g here event) p.1 (w (same_of t g p.0)))
  by_place (Rec.Prepared t k number ticket writes) w (inl p) = absurd p
  by_place (Rec.Start k) w (inl p) = absurd p
  by_place (Rec.Setup site engine protocol items) w (inl p) = absurd p
  by_place (Rec.Checkpoint sum) w (inl p) = absurd p
  by_place (Rec.Local t number writes) w (inl p) = absurd p
  by_place r w (inr i) = inl i

-- what isn't loose stays
site-stays : (home : Home) (g : Tid) (here : SitePast) (event : SiteEvent) (now : List SiteRecord) (P : SiteRecord → Type 0)
    → ((r : SiteRecord) → IsLooseEnded home.protocol r → P r → ⊥) → Kept home g here event now → Among P (records home here)
    → Among P now
site-stays home g here event now P firm (inl (r, w, is)) m = subst (Among P) (sym is) (inr m)
site-stays home g here event now P firm (inr c) m = cut_stays (IsLooseEnded home.protocol) P firm (records home here) now c m

-- the epoch never falls
pub epoch-grows : (home : Home) (g : Tid) (here : SitePast) (event : SiteEvent) (now : List SiteRecord) → Kept home g here event now
    → epoch home here ≤ epoch_of now
epoch-grows home g here event now (inr (newer, each, e)) =
    let same : epoch home here ≡ epoch_of now = ap epoch_of e ∙ epoch-cut home.protocol newer now each in omega (arith, same)
epoch-grows home g here event now (inl (r, w, is)) = subst (λ rs. epoch home here ≤ epoch_of rs) (sym is) (by_record r w) where
  by_record : (r : SiteRecord) → Wrote home g here event r → epoch home here ≤ epoch_of (r ∷ records home here)
  by_record (Rec.Start k) w = omega (arith, w)
  by_record (Rec.Prepared t k number ticket writes) w = omega arith
  by_record (Rec.Ended t d) w = omega arith
  by_record (Rec.Setup site engine protocol items) w = omega arith
  by_record (Rec.Checkpoint sum) w = omega arith
  by_record (Rec.Local t number writes) w = omega arith

-- an attempt of which a decision was given isn't sealed any more
pub bars : (scenario : Scenario) (home : Home) (g : Tid) (past : CoordPast) (here : SitePast) (sent : List ToSite)
    (back : List FromSite) (event : SiteEvent) (e : ℕ) → Agree scenario home g past here sent back
    → ((m : ToSite) → event ≡ Ev.Give m → In m sent) → IsSealing home g here event e → IsGot g here → ⊥
bars scenario home g past here sent back event e a comes s got =
    let prepares = a.preparing e s.n (comes (To.Prepare g e s.n) s.taken) in
    elim (a.barred got) [
      | inl less ↦ let e1 = prepares.epoch in let e2 = s.epoch in omega (arith, less, e1, e2)
      | inr closed ↦
          let dead = (a.shut (a.global prepares.begun)).over
          (or_left (is_closed here g) (is_some (doubt_of (records home here) g)) closed) in
          let alive = s.live in cc
    ]

-- the site's part of what was settled
settles-right : (scenario : Scenario) (home : Home) (g : Tid) (past : CoordPast) (here : SitePast) (sent : List ToSite)
    (back : List FromSite) (event : SiteEvent) (d : Decision) → Agree scenario home g past here sent back
    → ((m : ToSite) → event ≡ Ev.Give m → In m sent) → IsSettling home g here event d → d ≡ outcome (Coordinator.records past) g
settles-right scenario home g past here sent back event d a comes s = elim (a.telling d (comes (To.Decide g d) s.taken)).right [
  | inl e ↦ e
  | inr over ↦
      let p = held-prepared (records home here) g s.held s.doubt in
      let (c, m, f) = over.ended s.held.epoch p in
      let none = tidy-doubt g (records home here) s.held.epoch c a.tidy p m in
      let some = s.doubt in
      let no : Some s.held ≡ None = sym some ∙ none in cc
]

-- the attempt is closed behind a line, or its epoch is over
bars-more : (home : Home) (g : Tid) (here : SitePast) (x : SiteHappening) (e : ℕ) → e ≤ epoch home here
    → (comes_up x.answer ≡ true → epoch home here < epoch home (x ∷ here))
    → (decides_on g x.event || some_of (ends g) x.lines || is_closed here g) ≡ true
    → (e < epoch home (x ∷ here)) ⊎ (is_closed (x ∷ here) g ≡ true)
bars-more home g here x e low rises closed = by_test (comes_up x.answer) refl where
  by_test : (b : Bool) → comes_up x.answer ≡ b → (e < epoch home (x ∷ here)) ⊎ (is_closed (x ∷ here) g ≡ true)
  by_test true u = let less = rises u in inl (omega (arith, less, low))
  by_test false u = inr (ap (λ b. cond b false (decides_on g x.event || some_of (ends g) x.lines || is_closed here g)) u ∙ closed)

decides-first : (a b c : Bool) → a ≡ true → (a || b || c) ≡ true
decides-first true b c e = refl
decides-first false b c e = cc

closed-last : (a b c : Bool) → c ≡ true → (a || b || c) ≡ true
closed-last true b c e = refl
closed-last false true c e = refl
closed-last false false c e = e

decide-on : (g : Tid) (d : Decision) (event : SiteEvent) → event ≡ Ev.Give (To.Decide g d) → decides_on g event ≡ true
decide-on g d event e = ap (decides_on g) e ∙ same_tid-refl g

-- what is over stays so
over-stays : (scenario : Scenario) (home : Home) (g : Tid) (past : CoordPast) (here : SitePast) (sent : List ToSite)
    (back : List FromSite) (event : SiteEvent) (x : SiteHappening) → SiteTurn scenario home g past here sent back event x
    → IsOver home g here → IsOver home g (x ∷ here)
over-stays scenario home g past here sent back event x t over = record {
  got = (over.got.0, inr over.got.1);
  ended = (λ e m. elim (new-prepared home g here event (records home (x ∷ here)) e t.line.kept m) [
    | inl i ↦
        let (d, n, f) = over.ended e i in
        (d, site-stays home g here event (records home (x ∷ here)) (IsEnded g d) (loose-forced home.protocol g d f) t.line.kept n, f)
    | inr s ↦ absurd (bars scenario home g past here sent back event e t.agree t.comes s over.got)
  ]);
}

-- an acknowledgement is sent of what is over
acks-over : (scenario : Scenario) (home : Home) (g : Tid) (past : CoordPast) (here : SitePast) (sent : List ToSite)
    (back : List FromSite) (event : SiteEvent) (x : SiteHappening) → SiteTurn scenario home g past here sent back event x
    → IsAcking home g here x → IsOver home g (x ∷ here)
acks-over scenario home g past here sent back event x t k = record {
  got = (k.decision, inl k.taken);
  ended = (λ e m. by_after k.after e m);
} where
  came : In (To.Decide g k.decision) sent
  came = t.comes (To.Decide g k.decision) (sym t.line.is ∙ k.taken)

  by_after : (Among (IsEnded g k.decision) (records home (x ∷ here)) ⊎ ((records home (x ∷ here) ≡ records home here) × (doubt_of (records home here) g ≡ None)))
      → (e : ℕ) → Among (IsPrepared g e) (records home (x ∷ here))
      → (d : Decision) × Among (IsEnded g d) (records home (x ∷ here)) × (forces home.protocol d ≡ true)
  by_after (inl n) e m = (k.decision, n, k.acks)
  by_after (inr (same, free)) e m = by_force (forces home.protocol c) refl where
    p : Among (IsPrepared g e) (records home here)
    p = subst (Among (IsPrepared g e)) same m

    found : (d : Decision) × Among (IsEnded g d) (records home here)
    found = settled-ended g (records home here) e p free

    c : Decision
    c = found.0

    by_force : (b : Bool) → forces home.protocol c ≡ b
        → (d : Decision) × Among (IsEnded g d) (records home (x ∷ here)) × (forces home.protocol d ≡ true)
    by_force true f = (c, subst (Among (IsEnded g c)) (sym same) found.1, f)
    by_force false f = elim (t.agree.telling k.decision came).right [
      | inl right ↦
          let is = (t.agree.ended c found.1).1 in
          let equal : c ≡ k.decision = is ∙ sym right in
          let yes : forces home.protocol k.decision ≡ true = k.acks in
          let no : true ≡ false = sym yes ∙ (ap (forces home.protocol) (sym equal) ∙ f) in cc
      | inr over ↦ let (d, n, g2) = over.ended e p in (d, subst (Among (IsEnded g d)) (sym same) n, g2)
    ]

said : (home : Home) (g : Tid) (here : SitePast) (x : SiteHappening) (m : FromSite) → Each (Says home g here x) x.sends → In m x.sends
    → Says home g here x m
said home g here x m each i = each_at (Says home g here x) m x.sends each i

pub site-turn : (scenario : Scenario) (home : Home) (g : Tid) (past : CoordPast) (here : SitePast) (sent : List ToSite)
    (back : List FromSite) (event : SiteEvent) (x : SiteHappening) → SiteTurn scenario home g past here sent back event x
    → Agree scenario home g past (x ∷ here) sent (back ++ x.sends)
site-turn scenario home g past here sent back event x t = record {
  sound = a.sound;
  global = a.global;
  firm = t.line.firm;
  shut = (λ global. t.line.shut (t.global global) (a.shut global));
  given = given;
  taken = (λ m i. among_append (λ y. y ≡ m) back x.sends (a.taken m i));
  preparing = a.preparing;
  telling = (λ d i. let o = a.telling d i in record {
    begun = o.begun;
    closed = o.closed;
    right = elim o.right [
      | inl e ↦ inl e
      | inr over ↦ inr
          (over-stays scenario home g past here sent back event x t over)
    ];
  });
  replied = replied;
  voted = voted;
  acked = (λ i. elim (among_split (λ y. y ≡ From.Ack g) back x.sends i) [
    | inl j ↦ over-stays scenario home g past here sent back event x t (a.acked j)
    | inr j ↦ acks-over scenario home g past here sent back event x t (said home g here x (From.Ack g) t.line.says j (same_tid-refl g))
  ]);
  asked = asked;
  started = (let low = a.started in omega (arith, low, grows));
  known = (let low = a.known in omega (arith, low, grows));
  counted = a.counted;
  barred = barred;
  ended = (λ d m. elim (new-ended home g here event (records home (x ∷ here)) d t.line.kept m) [
    | inl i ↦ let r = a.ended d i in ((r.0.0, inr r.0.1), r.1)
    | inr s ↦ ((d, inl (t.line.is ∙ s.taken)), settles-right scenario home g past here sent back event d a t.comes s)
  ]);
  settled = settled;
  prepared = (λ e m. elim (new-prepared home g here event (records home (x ∷ here)) e t.line.kept m) [
    | inl i ↦ a.prepared e i
    | inr s ↦ (s.n, t.comes (To.Prepare g e s.n) s.taken)
  ]);
  sealed = sealed;
  tidy = tidy t.line.kept;
} where
  a : Agree scenario home g past here sent back
  a = t.agree

  grows : epoch home here ≤ epoch home (x ∷ here)
  grows = epoch-grows home g here event (records home (x ∷ here)) t.line.kept

  given : (m : ToSite) → Among (λ y. y.event ≡ Ev.Give m) (x ∷ here) → In m sent
  given m (inl e) = t.comes m (sym t.line.is ∙ e)
  given m (inr i) = a.given m i

  replied : (e n : ℕ) (reply : Reply) → In (From.Did g e n reply) (back ++ x.sends) → (1 ≤ e) × (e ≤ epoch home (x ∷ here))
  replied e n reply i = elim (among_split (λ y. y ≡ From.Did g e n reply) back x.sends i) [
    | inl j ↦ let r = a.replied e n reply j in (r.0, (let low = r.1 in omega (arith, low, grows)))
    | inr j ↦
        let same : e ≡ epoch home here = said home g here x (From.Did g e n reply) t.line.says j in
        let low = a.started in
        ((omega (arith, same, low)), (omega (arith, same, grows)))
  ]

  voted : (ticket : ℕ) → In (From.Vote g (Some ticket)) (back ++ x.sends) → (e : ℕ) × Among (IsPrepared g e) (records home (x ∷ here))
  voted ticket i = elim (among_split (λ y. y ≡ From.Vote g (Some ticket)) back x.sends i) [
    | inl j ↦ let r = a.voted ticket j in (
      r.0,
      site-stays home g here event (records home (x ∷ here)) (IsPrepared g r.0)
          (loose-prepared home.protocol g r.0) t.line.kept r.1,
    )
    | inr j ↦ said home g here x (From.Vote g (Some ticket)) t.line.says j (same_tid-refl g)
  ]

  asked : In (From.Inquiry g) (back ++ x.sends) → (e : ℕ) × (n : ℕ) × In (To.Prepare g e n) sent
  asked i = elim (among_split (λ y. y ≡ From.Inquiry g) back x.sends i) [
    | inl j ↦ a.asked j
    | inr j ↦
        let (held, doubt) = said home g here x (From.Inquiry g) t.line.says j (same_tid-refl g) in
        let p = a.prepared held.epoch (held-prepared (records home here) g held doubt) in
        (held.epoch, p.0, p.1)
  ]

  barred : IsGot g (x ∷ here) → (epoch_at past g home.site < epoch home (x ∷ here)) ⊎ (is_closed (x ∷ here) g ≡ true)
  barred (d, inl e) = bars-more home g here x (epoch_at past g home.site) a.known t.line.rises
      (decides-first (decides_on g x.event) (some_of (ends g) x.lines) (is_closed here g) (decide-on g d x.event e))
  barred (d, inr i) = elim (a.barred (d, i)) [
    | inl less ↦ inl (omega (arith, less, grows))
    | inr closed ↦ bars-more home g here x (epoch_at past g home.site) a.known t.line.rises
        (closed-last (decides_on g x.event) (some_of (ends g) x.lines) (is_closed here g) closed)
  ]

  settled : (d : Decision) → Among (λ y. y.answer ≡ Say.Settles g d) (x ∷ here)
      → IsGot g (x ∷ here) × (d ≡ outcome (Coordinator.records past) g)
  settled d (inl e) =
      let s = subst (Settled home g here event) e t.line.settled (same_tid-refl g) in
      ((d, inl (t.line.is ∙ s.taken)), settles-right scenario home g past here sent back event d a t.comes s)
  settled d (inr i) = let r = a.settled d i in ((r.0.0, inr r.0.1), r.1)

  still_down : is_down here ≡ true → (b : Bool) → comes_up x.answer ≡ b
      → (is_down (x ∷ here) ≡ true) ⊎ (epoch_at past g home.site < epoch home (x ∷ here))
  still_down d true u = let less = t.line.rises u in let low = a.known in inr (omega (arith, less, low))
  still_down d false u = inl (by_stop (stops x.answer)) where
    by_stop : (s : Bool) → cond s true (cond (comes_up x.answer) false (is_down here)) ≡ true
    by_stop true = refl
    by_stop false = ap (λ c. cond c false (is_down here)) u ∙ d

  sealed : Among (λ y. seals g y ≡ true) (x ∷ here) → HasSealed home g past (x ∷ here) sent
  sealed (inl e) =
      let s = t.line.seals e in
      record {
        e = s.0;
        n = s.1.n;
        taken = t.comes (To.Prepare g s.0 s.1.n) s.1.taken;
        left = elim s.2 [ inl p ↦ inl (inl (s.0, p)) | inr d ↦ inl (inr d) ];
      }
  sealed (inr i) =
      let r = a.sealed i in
      record { e = r.e; n = r.n; taken = r.taken; left = later r.left }
    where
      later : (((k : ℕ) × Among (IsPrepared g k) (records home here)) ⊎ (is_down here ≡ true)) ⊎
          (epoch_at past g home.site < epoch home here)
          → (((k : ℕ) × Among (IsPrepared g k) (records home (x ∷ here))) ⊎ (is_down (x ∷ here) ≡ true)) ⊎
          (epoch_at past g home.site < epoch home (x ∷ here))
      later (inl (inl (k, p))) = inl (inl
          (k, site-stays home g here event (records home (x ∷ here)) (IsPrepared g k) (loose-prepared home.protocol g k) t.line.kept p))
      later (inl (inr d)) = elim (still_down d (comes_up x.answer) refl) [ inl e ↦ inl (inr e) | inr less ↦ inr less ]
      later (inr less) = inr (omega (arith, less, grows))

  free : (e : ℕ) → IsSealing home g here event e → Free g (records home here)
  free e s = record {
    prepared = (λ k m.
        let found = settled-ended g (records home here) k m s.doubt in
        bars scenario home g past here sent back event e a t.comes s (a.ended found.0 found.1).0);
    ended = (λ d m. bars scenario home g past here sent back event e a t.comes s (a.ended d m).0);
  }

  first : (r : SiteRecord) → Wrote home g here event r → (e : ℕ) → IsPrepared g e r → Free g (records home here)
  first (Rec.Prepared u k number ticket writes) w e p = free k (w (same_of u g p.0))
  first (Rec.Ended u d) w e p = absurd p
  first (Rec.Start k) w e p = absurd p
  first (Rec.Setup site engine protocol items) w e p = absurd p
  first (Rec.Checkpoint sum) w e p = absurd p
  first (Rec.Local u number writes) w e p = absurd p

  tidy : Kept home g here event (records home (x ∷ here)) → IsTidy g (records home (x ∷ here))
  tidy (inl (r, w, is)) = subst (IsTidy g) (sym is) (first r w, a.tidy)
  tidy (inr (newer, each, e)) = tidy-behind g newer (records home (x ∷ here)) (subst (IsTidy g) e a.tidy)
