-- What a line of the coordinator that takes a reply or a vote leaves of an undecided attempt, and what it sends.
use Rattle.mdb_base.proofs.ForCallers.{cond_same, each_inserted, same_site-equal, same_site-refl, same_tid-refl}
use Rattle.coord_laws.proofs.ForCallers.{calm_standing}
use Rattle.std.proofs.Common.{◌≡◌, ℕ, ◌⊎◌, Bool, true, false, cond, not, ◌&&◌, ◌||◌, is_none, Option, Some, None, List, [], ◌∷◌, map, drop, inl, inr, refl, sym, ap, ap₂, subst, ◌∙◌, nat_lt}
use Rattle.std.proofs.lemmas.Bool.{and_parts}
use Rattle.mdb_base.specs.declared.names.SiteId.{SiteId}
use Rattle.mdb_base.specs.declared.names.Tid.{Tid}
use Rattle.mdb_base.specs.declared.replies.Reply.{Reply}
use Rattle.mdb_base.specs.Names.{same_site, same_tid}
use Rattle.mdb_base.specs.Words.{Each, when, those, found, with_some, some_of, inserted, item_at}
use Rattle.presumptions.specs.declared.Participant.{Participant}
use Rattle.order_laws.specs.Chains.{In}
use Rattle.order_laws.proofs.ForCallers.{each_at, each_from, those_in}
use Rattle.fed_rules.specs.declared.answers.Answer.TheVariants as Say
use Rattle.fed_rules.specs.declared.events.CoordEvent.{CoordEvent}
use Rattle.fed_rules.specs.declared.events.CoordEvent.TheVariants as Ev
use Rattle.fed_rules.specs.declared.messages.Due.{Due}
use Rattle.fed_rules.specs.declared.messages.Due.TheVariants as Due_is
use Rattle.fed_rules.specs.declared.messages.FromSite.TheVariants as From
use Rattle.fed_rules.specs.declared.messages.Sent.{Sent}
use Rattle.fed_rules.specs.declared.messages.ToSite.{ToSite}
use Rattle.fed_rules.specs.declared.records.CoordRecord.TheVariants as Rec
use Rattle.fed_rules.specs.declared.scenario.Scenario.{Scenario}
use Rattle.fed_rules.specs.declared.scenario.SiteLine.{SiteLine}
use Rattle.fed_rules.specs.Coord.{message_of, send_due, is_prepare, sends_dues, news_at, lacks_initiation}
use Rattle.fed_rules.specs.CoordPast.{CoordHappening, CoordPast, records, Gone, standing, program, visits, participants, Counted, counted, or_vote, vote_at, outstanding, trip_of, is_open}
use Rattle.fed_rules.specs.CoordRecords.{commits}
use Rattle.fed_rules.specs.Disk.{Append, Sync}
use Rattle.fed_rules.specs.Happenings.{quiet, stops}
use Rattle.fed_rules.specs.Plans.{IsScenario, all_differ, one_site}
use Rattle.fed_rules.specs.Scenarios.{protocols_in, protocols}
use Rattle.fed_rules.specs.Site_of.{due_site}
use Rattle.closing_laws.proofs.Dues.{work_of, prepare_of, due_of, due_is}
use Rattle.federation_laws.proofs.ForCallers.{count_of, epoch_of, steps_of, ticket_of}

-- what is left: the program, these replies and votes; it is still undecided, and no other attempt is known
pub record Views (g : Tid) (past : CoordPast) (x : CoordHappening) (replies : List Counted) (votes : SiteId → Option ℕ) : Type 0 where
  pub program_is : program (x ∷ past) g ≡ program past g
  pub counted_is : counted (x ∷ past) g ≡ replies
  pub votes_are : (site : SiteId) → vote_at (x ∷ past) g site ≡ votes site
  pub undecided : is_open past g ≡ true → is_open (x ∷ past) g ≡ true
  pub others : (protocols : List Participant) (tid : Tid) → standing protocols past tid ≡ Gone → standing protocols (x ∷ past) tid ≡ Gone
  pub commits_are : commits (records (x ∷ past)) ≡ commits (records past)
  pub goes : stops x.answer ≡ false
  pub unset : trip_of x.event ≡ None

module _ (g : Tid) (past : CoordPast) (site : SiteId) (e n : ℕ) (reply : Reply) where
  abbrev pub did_event : CoordEvent
  did_event = Ev.Take site (From.Did g e n reply)

  abbrev pub reply_of : Counted
  reply_of = record { site = site; epoch = e; reply = reply }

  counts_it : with_some (cond (same_tid g g) (Some reply_of) None) (counted past g) ≡ reply_of ∷ counted past g
  counts_it = ap (λ b. with_some (cond b (Some reply_of) None) (counted past g)) (same_tid-refl g)

  pub only_views : (sends : List Sent) → Views g past (record { event = did_event; answer = Say.Only; sends = sends; calls = []; lines = [] }) (reply_of ∷ counted past g) (vote_at past g)
  only_views sends = record {
    program_is = refl;
    counted_is = counts_it;
    votes_are = λ o. refl;
    undecided = λ o. cond_same (same_tid g g) (is_open past g) ∙ o;
    others = λ protocols tid o. calm_standing protocols tid past (record { event = did_event; answer = Say.Only; sends = sends; calls = []; lines = [] }) tt ∙ o;
    commits_are = refl;
    goes = refl;
    unset = refl;
  }

  initiates_views : (sends : List Sent) (members : List Participant)
      → Views g past (record { event = did_event; answer = Say.Initiates; sends = sends; calls = Append (Rec.Initiation g members) ∷ Sync ∷ []; lines = [] }) (reply_of ∷ counted past g) (vote_at past g)
  initiates_views sends members = record {
    program_is = refl;
    counted_is = counts_it;
    votes_are = λ o. refl;
    undecided = λ o. cond_same (same_tid g g) (is_open past g) ∙ o;
    others = λ protocols tid o. calm_standing protocols tid past (record { event = did_event; answer = Say.Initiates; sends = sends; calls = Append (Rec.Initiation g members) ∷ Sync ∷ []; lines = [] }) tt ∙ o;
    commits_are = refl;
    goes = refl;
    unset = refl;
  }

  -- a line that sends what became outstanding
  pub record SendsDues (x : CoordHappening) (dues : List Due) : Type 0 where
    pub views : Views g past x (reply_of ∷ counted past g) (vote_at past g)
    pub sends : x.sends ≡ map (send_due g) dues

  pub dues_sent : (protocols : List Participant) (dues : List Due) → SendsDues (sends_dues protocols past did_event g Say.Only dues) dues
  unfolding sends_dues when
  dues_sent protocols dues = by_test (some_of is_prepare dues && lacks_initiation protocols past g)
    where
      by_test : (b : Bool) → SendsDues (when b
          (record { event = did_event; answer = Say.Initiates; sends = map (send_due g) dues; calls = Append (Rec.Initiation g (participants protocols past g)) ∷ Sync ∷ []; lines = [] })
          (record { event = did_event; answer = Say.Only; sends = map (send_due g) dues; calls = []; lines = [] })) dues
      by_test true = record { views = initiates_views (map (send_due g) dues) (participants protocols past g); sends = refl }
      by_test false = record { views = only_views (map (send_due g) dues); sends = refl }

-- a vote, behind which the attempt is undecided still
abbrev pub voted : SiteId → ℕ → (SiteId → Option ℕ) → SiteId → Option ℕ
voted from ticket votes site = or_vote (cond (same_site from site) (Some ticket) None) (votes site)

pub vote_views : (g : Tid) (past : CoordPast) (site : SiteId) (ticket : ℕ) → Views g past (quiet (Ev.Take site (From.Vote g (Some ticket))) Say.Voted) (counted past g) (voted site ticket (vote_at past g))
vote_views g past site ticket = record {
  program_is = refl;
  counted_is = refl;
  votes_are = λ o. ap (λ b. or_vote (cond (b && same_site site o) (Some ticket) None) (vote_at past g o)) (same_tid-refl g);
  undecided = λ o. cond_same (same_tid g g) (is_open past g) ∙ o;
  others = λ protocols tid o. calm_standing protocols tid past (quiet (Ev.Take site (From.Vote g (Some ticket))) Say.Voted) tt ∙ o;
  commits_are = refl;
  goes = refl;
  unset = refl;
}

-- what is outstanding behind such a line
pub due_now : (g : Tid) (past : CoordPast) (x : CoordHappening) (replies : List Counted) (votes : SiteId → Option ℕ) (site : SiteId) → Views g past x replies votes
    → outstanding (x ∷ past) g site ≡ due_of (program past g) replies votes site
due_now g past x replies votes site v =
    due_is (x ∷ past) g site
    ∙ (ap (λ p. due_of p (counted (x ∷ past) g) (vote_at (x ∷ past) g) site) v.program_is
    ∙ (ap (λ rs. due_of (program past g) rs (vote_at (x ∷ past) g) site) v.counted_is
    ∙ ap (λ o. cond (visits site (program past g))
    (cond (visits site (drop (steps_of replies) (program past g))) (work_of replies site (item_at (program past g) (steps_of replies)))
    (cond (ticket_of replies site) (prepare_of replies o site) (Some (Due_is.Take site (epoch_of replies site) (count_of replies site)))))
    None) (v.votes_are site)))

-- items at sites of their own
abbrev pub Apart : {A : Type 0} → (A → SiteId) → List A → Type 0
Apart at [] = Unit {0}
Apart at (x ∷ xs) = Each (λ y. same_site (at x) (at y) ≡ false) xs × Apart at xs

pub same_site-sym : (a b : SiteId) → same_site a b ≡ false → same_site b a ≡ false
same_site-sym a b e = by_test (same_site b a) refl
  where
    by_test : (c : Bool) → same_site b a ≡ c → same_site b a ≡ false
    by_test false q = q
    by_test true q = (let t : same_site a b ≡ true = subst (λ s. same_site s b ≡ true) (same_site-equal b a q) (same_site-refl b) in let clash = sym e ∙ t in cc)

pub apart_those : {A : Type 0} (at : A → SiteId) (test : A → Bool) (xs : List A) → Apart at xs → Apart at (those test xs)
apart_those at test [] h = tt
apart_those at test (x ∷ xs) h = by_test (test x) (apart_those at test xs h.1)
  where
    by_test : (b : Bool) → Apart at (those test xs) → Apart at (cond b (x ∷ those test xs) (those test xs))
    by_test true k = (each_from (λ y. same_site (at x) (at y) ≡ false) (those test xs) (λ y i. each_at (λ z. same_site (at x) (at z) ≡ false) y xs h.0 (those_in test y xs i).0), k)
    by_test false k = k

apart_inserted : (before : Participant → Participant → Bool) (x : Participant) (ys : List Participant) → Each (λ y. same_site x.site y.site ≡ false) ys → Apart (λ (m : Participant). m.site) ys → Apart (λ (m : Participant). m.site) (inserted before x ys)
apart_inserted before x [] n h = (tt, tt)
apart_inserted before x (y ∷ ys) n h = by_test (before y x) (apart_inserted before x ys n.1 h.1)
  where
    by_test : (b : Bool) → Apart (λ (m : Participant). m.site) (inserted before x ys) → Apart (λ (m : Participant). m.site) (cond b (y ∷ inserted before x ys) (x ∷ y ∷ ys))
    by_test true k = (each_inserted (λ z. same_site y.site z.site ≡ false) before x ys (same_site-sym x.site y.site n.0) h.0, k)
    by_test false k = (n, h)

pub protocols_apart : (scenario : Scenario) → IsScenario scenario → Apart (λ (m : Participant). m.site) (protocols scenario)
protocols_apart scenario whole = of_lines scenario.sites whole.sites.differ
  where
    not_true : (b : Bool) → not b ≡ true → b ≡ false
    not_true true e = cc
    not_true false e = refl

    or_none : (a b : Bool) → (a || b) ≡ false → (a ≡ false) × (b ≡ false)
    or_none true b e = cc
    or_none false b e = (refl, e)

    others : (line : SiteLine) (lines : List SiteLine) → some_of (one_site line) lines ≡ false → Each (λ (m : Participant). same_site line.site m.site ≡ false) (protocols_in lines)
    others line [] e = tt
    others line (l ∷ lines) e =
        let parts = or_none (same_site line.site l.site) (some_of (one_site line) lines) e in
        each_inserted (λ (m : Participant). same_site line.site m.site ≡ false) (λ a b. nat_lt a.site.0 b.site.0) (record { site = l.site; protocol = l.protocol }) (protocols_in lines) parts.0 (others line lines parts.1)

    of_lines : (lines : List SiteLine) → all_differ one_site lines ≡ true → Apart (λ (m : Participant). m.site) (protocols_in lines)
    of_lines [] d = tt
    of_lines (line ∷ lines) d =
        let parts = and_parts (not (some_of (one_site line) lines)) (all_differ one_site lines) d in
        apart_inserted (λ a b. nat_lt a.site.0 b.site.0) (record { site = line.site; protocol = line.protocol }) (protocols_in lines) (others line lines (not_true _ parts.0)) (of_lines lines parts.1)

-- what is found, with where
pub found_where : {A B : Type 0} (look : A → Option B) (xs : List A) (y : B) → In y (found look xs) → (x : A) × In x xs × (look x ≡ Some y)
found_where look [] y i = absurd i
found_where look (z ∷ xs) y i = by_look (look z) refl i (found_where look xs y)
  where
    by_look : (o : Option _) → look z ≡ o → In y (with_some o (found look xs)) → (In y (found look xs) → (x : _) × In x xs × (look x ≡ Some y)) → (x : _) × In x (z ∷ xs) × (look x ≡ Some y)
    by_look None e i k = ((k i).0, inr (k i).1, (k i).2)
    by_look (Some w) e (inl same) k = (z, inl refl, e ∙ ap (λ v. Some v) same)
    by_look (Some w) e (inr i) k = ((k i).0, inr (k i).1, (k i).2)

pub found_apart : (look : Participant → Option Due) (members : List Participant) → ((m : Participant) (due : Due) → look m ≡ Some due → due_site due ≡ m.site) → Apart (λ (m : Participant). m.site) members → Apart due_site (found look members)
found_apart look [] own h = tt
found_apart look (m ∷ members) own h = by_look (look m) refl (found_apart look members own h.1)
  where
    by_look : (o : Option Due) → look m ≡ o → Apart due_site (found look members) → Apart due_site (with_some o (found look members))
    by_look None e k = k
    by_look (Some due) e k = (
      each_from (λ d. same_site (due_site due) (due_site d) ≡ false) (found look members) (λ d i.
          (let w = found_where look members d i in
          ap₂ same_site (own m due e) (own w.0 d w.2) ∙ each_at (λ (z : Participant). same_site m.site z.site ≡ false) w.0 members h.0 w.1)),
      k,
    )

-- what became outstanding: at the site, or elsewhere where nothing was
pub record IsNew (before now : CoordPast) (g : Tid) (site other : SiteId) (due : Due) : Type 0 where
  pub is_now : outstanding now g other ≡ Some due
  pub fresh : (same_site other site ≡ true) ⊎ (outstanding before g other ≡ None)

pub new_from : (before now : CoordPast) (g : Tid) (site other : SiteId) (due : Due) → news_at before now g site other ≡ Some due → IsNew before now g site other due
new_from before now g site other due e = by_site (same_site other site) refl (outstanding before g other) refl e
  where
    by_site : (b : Bool) → same_site other site ≡ b → (o : Option Due) → outstanding before g other ≡ o → cond (b || is_none o) (outstanding now g other) None ≡ Some due → IsNew before now g site other due
    by_site true q o f h = record { is_now = h; fresh = inl q }
    by_site false q None f h = record { is_now = h; fresh = inr f }
    by_site false q (Some d) f h = cc

pub new_to : (before now : CoordPast) (g : Tid) (site other : SiteId) (due : Due) → IsNew before now g site other due → news_at before now g site other ≡ Some due
new_to before now g site other due w = by_fresh w.fresh
  where
    second : (b : Bool) (x y : Option Due) → cond (b || true) x y ≡ x
    second true x y = refl
    second false x y = refl

    by_fresh : (same_site other site ≡ true) ⊎ (outstanding before g other ≡ None) → news_at before now g site other ≡ Some due
    by_fresh (inl q) = ap (λ b. cond (b || is_none (outstanding before g other)) (outstanding now g other) None) q ∙ w.is_now
    by_fresh (inr f) = ap (λ o. cond (same_site other site || is_none o) (outstanding now g other) None) f ∙ (second (same_site other site) (outstanding now g other) None ∙ w.is_now)

-- what was sent for a due message
pub first_due : (g : Tid) (dues : List Due) (due : Due) → In due dues → Apart due_site dues
    → (rest : List ToSite) × (map (λ (sent : Sent). sent.message) (those (λ (sent : Sent). same_site sent.site (due_site due)) (map (send_due g) dues)) ≡ message_of g due ∷ rest)
first_due g [] due i h = absurd i
first_due g (d ∷ dues) due i h = by_in i (first_due g dues due)
  where
    there : List Sent
    there = those (λ (sent : Sent). same_site sent.site (due_site due)) (map (send_due g) dues)

    by_in : In due (d ∷ dues) → (In due dues → Apart due_site dues → (rest : List ToSite) × (map (λ (sent : Sent). sent.message) there ≡ message_of g due ∷ rest))
        → (rest : List ToSite) × (map (λ (sent : Sent). sent.message) (cond (same_site (due_site d) (due_site due)) (send_due g d ∷ there) there) ≡ message_of g due ∷ rest)
    by_in (inl same) k = (
      map (λ (sent : Sent). sent.message) there,
      ap (λ b. map (λ (sent : Sent). sent.message) (cond b (send_due g d ∷ there) there)) (ap (λ z. same_site (due_site d) (due_site z)) (sym same) ∙ same_site-refl (due_site d)) ∙ ap (λ z. message_of g z ∷ map (λ (sent : Sent). sent.message) there) same,
    )
    by_in (inr j) k =
        let r = k j h.1 in
        (r.0, ap (λ b. map (λ (sent : Sent). sent.message) (cond b (send_due g d ∷ there) there)) (each_at (λ z. same_site (due_site d) (due_site z) ≡ false) due dues h.0 j) ∙ r.1)
