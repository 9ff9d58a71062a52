-- What a line leaves of an attempt as it was.
use Rattle.std.proofs.Common.{◌≡◌, Bool, true, false, cond, ◌&&◌, ◌||◌, Option, Some, None, List, [], ◌∷◌, map, refl, sym, ap, ap₂, subst, ◌∙◌}
use Rattle.std.proofs.lemmas.Bool.{cond-false}
use Rattle.mdb_base.specs.declared.names.SiteId.{SiteId}
use Rattle.mdb_base.specs.declared.names.Tid.{Tid}
use Rattle.mdb_base.specs.Names.{same_site}
use Rattle.mdb_base.specs.Words.{found, some_of}
use Rattle.mdb_base.proofs.ForCallers.{each_map}
use Rattle.presumptions.specs.declared.Decision.{Decision}
use Rattle.presumptions.specs.declared.Participant.{Participant}
use Rattle.fed_rules.specs.declared.events.CoordEvent.{CoordEvent}
use Rattle.fed_rules.specs.declared.events.CoordEvent.TheVariants as Ev
use Rattle.fed_rules.specs.declared.messages.FromSite.TheVariants as From
use Rattle.fed_rules.specs.declared.records.CoordRecord.{CoordRecord}
use Rattle.fed_rules.specs.Disk.{Call, after_calls}
use Rattle.fed_rules.specs.Happenings.{comes_up, stops}
use Rattle.fed_rules.specs.CoordRecords.{coord_frame, named}
use Rattle.fed_rules.specs.CoordPast.{CoordHappening, CoordPast, Standing, Undecided, Decided, Gone, acks_in, begins, begun_by, counts, decided, decides, did_in, has_acked, has_sent, is_about, is_open, is_prepare_of, is_take_of, known_decision, opened, participants, participants_of, program, records, standing, standing_of, vote_in}
use Rattle.fed_rules.specs.CoordPast as Past
use Rattle.fed_rules.specs.Right.{IsRefusal, SameButCycle}
use Rattle.global_exec.specs.Live.{Live}
use Rattle.global_exec.proofs.ForCallers.{IsSame, elsewhere_same, map-same, same_of_past}
use Rattle.protocol_table.specs.declared.known.Known.{Known}
use Rattle.protocol_table.specs.Agreement.{IsKnownAs, voter}
use Rattle.global_exec.specs.declared.policy.SiteSet.{SiteSet}
use Rattle.coord_tables.specs.declared.stages.Stage.{Stage}
use Rattle.coord_tables.specs.Attempts.{IsLiveAs}
use Rattle.coord_tables.specs.Stages.{HasSitesOf, IsStageOf}
use Rattle.coord_tables.specs.Waiting.{counted_tickets, ticket_in}
use Rattle.coord_tables.proofs.Waiting.{noted_stays}

-- the line says nothing new of the attempt
pub record IsAsBefore (protocols : List Participant) (past : CoordPast) (x : CoordHappening) (t : Tid) : Type 0 where
  pub undecided : is_open (x ∷ past) t ≡ is_open past t
  pub decision : known_decision protocols (x ∷ past) t ≡ known_decision protocols past t
  pub same : IsSame (x ∷ past) past t
  pub acks : (site : SiteId) → has_acked (x ∷ past) t site ≡ has_acked past t site
  pub named : named protocols (records (x ∷ past)) t ≡ named protocols (records past) t
  pub takes : has_sent (is_take_of t) (x ∷ past) ≡ has_sent (is_take_of t) past
  pub prepares : has_sent (is_prepare_of t) (x ∷ past) ≡ has_sent (is_prepare_of t) past

module _ (protocols : List Participant) (past : CoordPast) (x : CoordHappening) (t : Tid) (b : IsAsBefore protocols past x t) where
  pub standing_stays : standing protocols (x ∷ past) t ≡ standing protocols past t
  standing_stays = ap₂ (λ o d. standing_of o d) b.undecided b.decision

  members_stay : map (voter past t) (participants protocols past t) ≡ map (voter (x ∷ past) t) (participants protocols (x ∷ past) t)
  members_stay =
      map-same (voter past t) (voter (x ∷ past) t) (λ p. ap (λ v. record { site = p.site; protocol = p.protocol; vote = v; acked = false }) (sym (b.same.votes p.site))) (participants protocols past t)
      ∙ ap (λ steps. map (voter (x ∷ past) t) (participants_of protocols steps)) (sym b.same.program)

  known_by : (s : Standing) (o : Option Known) → IsKnownAs protocols past t s o → IsKnownAs protocols (x ∷ past) t s o
  known_by Undecided (Some known) k = record { name = k.name; undecided = k.undecided; members = k.members ∙ members_stay; named = k.named ∙ sym b.named }
  known_by Undecided None k = absurd k
  known_by (Decided d) (Some known) k = record {
    name = k.name;
    decided = k.decided;
    acks = each_map (λ m. m.acked ≡ has_acked past t m.site) (λ m. m.acked ≡ has_acked (x ∷ past) t m.site) (λ m e. e ∙ sym (b.acks m.site)) known.members k.acks;
    named = k.named ∙ sym b.named;
  }
  known_by (Decided d) None k = absurd k
  known_by Gone (Some known) k = absurd k
  known_by Gone None k = tt

  -- the attempt is known as it was
  pub known_stays : (o : Option Known) → IsKnownAs protocols past t (standing protocols past t) o → IsKnownAs protocols (x ∷ past) t (standing protocols (x ∷ past) t) o
  known_stays o k = subst (λ s. IsKnownAs protocols (x ∷ past) t s o) (sym standing_stays) (known_by (standing protocols past t) o k)

  live_by : (u : Bool) (o : Option Live) → IsLiveAs protocols past t u o → IsLiveAs protocols (x ∷ past) t u o
  live_by true (Some live) l = same_of_past protocols (x ∷ past) past t live b.same l
  live_by true None l = absurd l
  live_by false (Some live) l = absurd l
  live_by false None l = tt

  -- and carried out as it was
  pub live_stays : (o : Option Live) → IsLiveAs protocols past t (is_open past t) o → IsLiveAs protocols (x ∷ past) t (is_open (x ∷ past) t) o
  live_stays o l = subst (λ u. IsLiveAs protocols (x ∷ past) t u o) (sym b.undecided) (live_by (is_open past t) o l)

-- the past says the same of what was sent of the attempt, and of its program
pub record IsSentAs (past : CoordPast) (x : CoordHappening) (t : Tid) : Type 0 where
  pub program : program (x ∷ past) t ≡ program past t
  pub takes : has_sent (is_take_of t) (x ∷ past) ≡ has_sent (is_take_of t) past
  pub prepares : has_sent (is_prepare_of t) (x ∷ past) ≡ has_sent (is_prepare_of t) past
  pub tickets : counted_tickets (x ∷ past) t ≡ counted_tickets past t

pub sent_as : (protocols : List Participant) (past : CoordPast) (x : CoordHappening) (t : Tid) → IsAsBefore protocols past x t → IsSentAs past x t
sent_as protocols past x t b = record { program = b.same.program; takes = b.takes; prepares = b.prepares; tickets = ap (found ticket_in) b.same.counted }

-- so its stage is what it was
pub sites_stay : (protocols : List Participant) (past : CoordPast) (x : CoordHappening) (t : Tid) (sites : SiteSet) → program (x ∷ past) t ≡ program past t → HasSitesOf protocols past t sites → HasSitesOf protocols (x ∷ past) t sites
sites_stay protocols past x t sites same h = λ site least most.
    h site least most ∙ ap (λ steps. some_of (λ other. same_site other site) (map (λ (p : Participant). p.site) (participants_of protocols steps))) (sym same)

pub stage_stays : (protocols : List Participant) (past : CoordPast) (x : CoordHappening) (stage : Stage) → IsSentAs past x stage.tid → IsStageOf protocols past stage → IsStageOf protocols (x ∷ past) stage
stage_stays protocols past x stage b s = record {
  sites = sites_stay protocols past x stage.tid stage.sites b.program s.sites;
  takes = s.takes ∙ sym b.takes;
  prepares = s.prepares ∙ sym b.prepares;
  tickets = noted_stays past (x ∷ past) stage.tid stage.tickets b.tickets s.tickets;
}

-- an event that isn't about the attempt takes no reply, vote or acknowledgement of it
no_did : (t : Tid) (event : CoordEvent) → is_about t event ≡ false → did_in t event ≡ None
no_did t (Ev.Take site (From.Did tid epoch n reply)) e = cond-false _ _ _ e
no_did t (Ev.Take site (From.Vote tid ticket)) e = refl
no_did t (Ev.Take site (From.Ack tid)) e = refl
no_did t (Ev.Take site (From.Inquiry tid)) e = refl
no_did t (Ev.Go tid steps) e = refl
no_did t (Ev.Again tid) e = refl
no_did t (Ev.Late tid) e = refl
no_did t (Ev.Fate tx) e = refl
no_did t (Ev.Halt cut) e = refl
no_did t (Ev.Trip calls cut) e = refl
no_did t Ev.Back e = refl
no_did t Ev.Check e = refl

no_vote : (t : Tid) (site : SiteId) (event : CoordEvent) → is_about t event ≡ false → vote_in t site event ≡ None
no_vote t site (Ev.Take from (From.Vote tid ticket)) e = ap (λ b. cond (b && same_site from site) ticket None) e
no_vote t site (Ev.Take from (From.Did tid epoch n reply)) e = refl
no_vote t site (Ev.Take from (From.Ack tid)) e = refl
no_vote t site (Ev.Take from (From.Inquiry tid)) e = refl
no_vote t site (Ev.Go tid steps) e = refl
no_vote t site (Ev.Again tid) e = refl
no_vote t site (Ev.Late tid) e = refl
no_vote t site (Ev.Fate tx) e = refl
no_vote t site (Ev.Halt cut) e = refl
no_vote t site (Ev.Trip calls cut) e = refl
no_vote t site Ev.Back e = refl
no_vote t site Ev.Check e = refl

no_ack : (t : Tid) (site : SiteId) (x : CoordHappening) → is_about t x.event ≡ false → acks_in t site x ≡ false
no_ack t site x about = by_event x.event about where
  by_event : (event : CoordEvent) → is_about t event ≡ false → acks_in t site (record x { event = event }) ≡ false
  by_event (Ev.Take from (From.Ack tid)) e = ap (λ b. (b && same_site from site) && counts x.answer) e
  by_event (Ev.Take from (From.Did tid epoch n reply)) e = refl
  by_event (Ev.Take from (From.Vote tid ticket)) e = refl
  by_event (Ev.Take from (From.Inquiry tid)) e = refl
  by_event (Ev.Go tid steps) e = refl
  by_event (Ev.Again tid) e = refl
  by_event (Ev.Late tid) e = refl
  by_event (Ev.Fate tx) e = refl
  by_event (Ev.Halt cut) e = refl
  by_event (Ev.Trip calls cut) e = refl
  by_event Ev.Back e = refl
  by_event Ev.Check e = refl

-- what a line leaves of an attempt that it isn't about
pub record IsElsewhere (protocols : List Participant) (past : CoordPast) (x : CoordHappening) (t : Tid) : Type 0 where
  pub goes : (stops x.answer || comes_up x.answer) ≡ false
  pub about : is_about t x.event ≡ false
  pub begins : begins t x.answer ≡ false
  pub named : named protocols (records (x ∷ past)) t ≡ named protocols (records past) t
  pub takes : some_of (is_take_of t) x.sends ≡ false
  pub prepares : some_of (is_prepare_of t) x.sends ≡ false

pub elsewhere : (protocols : List Participant) (past : CoordPast) (x : CoordHappening) (t : Tid) → IsElsewhere protocols past x t → IsAsBefore protocols past x t
elsewhere protocols past x t e = record {
  undecided = cond-false _ _ _ e.goes ∙ cond-false _ _ _ e.about;
  decision = cond-false _ _ _ e.goes ∙ cond-false _ _ _ e.about;
  same = elsewhere_same past t x e.begins (no_did t x.event e.about) (λ site. no_vote t site x.event e.about);
  acks = λ site.
      cond-false _ _ _ (ap₂ (λ a b. a || (b && decides x.answer)) e.goes e.about)
      ∙ ap (λ b. b || has_acked past t site) (no_ack t site x e.about);
  named = e.named;
  takes = ap (λ b. b || has_sent (is_take_of t) past) e.takes;
  prepares = ap (λ b. b || has_sent (is_prepare_of t) past) e.prepares;
}

-- a line that says nothing new of any attempt
pub record IsCalm (x : CoordHappening) : Type 0 where
  pub runs : stops x.answer ≡ false
  pub stays : comes_up x.answer ≡ false
  pub begun : begun_by x.answer ≡ None
  pub opened : (old : Bool) → opened x.answer old ≡ old
  pub decided : (old : Option Decision) → decided x.answer old ≡ old
  pub decides : decides x.answer ≡ false
  pub same : (past : CoordPast) (t : Tid) → IsSame (x ∷ past) past t
  pub acks : (t : Tid) (site : SiteId) → acks_in t site x ≡ false
  pub takes : (t : Tid) → some_of (is_take_of t) x.sends ≡ false
  pub prepares : (t : Tid) → some_of (is_prepare_of t) x.sends ≡ false
  pub calls : x.calls ≡ []
  pub prints : (protocols : List Participant) (past : CoordPast) (y : CoordHappening) (tid : Tid) → SameButCycle (IsRefusal protocols past y tid) x.answer x.answer

pub calm_records : (past : CoordPast) (x : CoordHappening) → x.calls ≡ [] → records (x ∷ past) ≡ records past
calm_records past x e = ap (λ (cs : List (Call CoordRecord)). (after_calls coord_frame (Past.disk past) cs).records) e

pub calm_goes : (x : CoordHappening) → IsCalm x → (stops x.answer || comes_up x.answer) ≡ false
calm_goes x c = ap₂ (λ a b. a || b) c.runs c.stays

pub calm : (protocols : List Participant) (past : CoordPast) (x : CoordHappening) (t : Tid) → IsCalm x → IsAsBefore protocols past x t
calm protocols past x t c = record {
  undecided = cond-false _ _ _ (calm_goes x c) ∙ open_by (is_about t x.event);
  decision = cond-false _ _ _ (calm_goes x c) ∙ decision_by (is_about t x.event);
  same = c.same past t;
  acks = λ site.
      cond-false _ _ _ (ap₂ (λ a b. a || (is_about t x.event && b)) (calm_goes x c) c.decides ∙ none (is_about t x.event))
      ∙ ap (λ b. b || has_acked past t site) (c.acks t site);
  named = ap (λ rs. named protocols rs t) (calm_records past x c.calls);
  takes = ap (λ b. b || has_sent (is_take_of t) past) (c.takes t);
  prepares = ap (λ b. b || has_sent (is_prepare_of t) past) (c.prepares t);
} where
  open_by : (b : Bool) → cond b (opened x.answer (is_open past t)) (is_open past t) ≡ is_open past t
  open_by true = c.opened (is_open past t)
  open_by false = refl

  decision_by : (b : Bool) → cond b (decided x.answer (known_decision protocols past t)) (known_decision protocols past t) ≡ known_decision protocols past t
  decision_by true = c.decided (known_decision protocols past t)
  decision_by false = refl

  none : (b : Bool) → (b && false) ≡ false
  none true = refl
  none false = refl
