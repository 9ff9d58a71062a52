-- A decision that is sent to a site is given there, and its acknowledgement is taken.
use Rattle.std.proofs.lemmas.Bool.{not-true}
use Rattle.order_laws.proofs.ForCallers.{in_those, is_among, those_in}
use Rattle.std.proofs.Common.{◌≡◌, ℕ, ◌⊎◌, Bool, true, false, cond, not, ◌&&◌, ◌||◌, Option, Some, None, List, [], ◌∷◌, ◌++◌, length, inl, inr, refl, sym, ap, subst, ◌∙◌}
use Rattle.mdb_base.specs.declared.names.SiteId.{SiteId}
use Rattle.mdb_base.specs.declared.names.Tid.{Tid}
use Rattle.mdb_base.specs.Names.{same_site, same_tid}
use Rattle.mdb_base.specs.Words.{when, given, item_at}
use Rattle.mdb_base.proofs.ForCallers.{among_some, cond-true, same_site-refl, same_tid-refl}
use Rattle.presumptions.specs.declared.Decision.{Decision}
use Rattle.presumptions.specs.declared.Participant.{Participant}
use Rattle.presumptions.specs.Table.{acks}
use Rattle.order_laws.specs.Chains.{In}
use Rattle.fed_rules.specs.declared.answers.Answer.TheVariants as Say
use Rattle.fed_rules.specs.declared.commands.Command.{Command}
use Rattle.fed_rules.specs.declared.commands.Command.TheVariants as Cmd
use Rattle.fed_rules.specs.declared.events.CoordEvent.{CoordEvent}
use Rattle.fed_rules.specs.declared.events.CoordEvent.TheVariants as To_coord
use Rattle.fed_rules.specs.declared.events.SiteEvent.TheVariants as Ev
use Rattle.fed_rules.specs.declared.messages.FromSite.{FromSite}
use Rattle.fed_rules.specs.declared.messages.FromSite.TheVariants as From
use Rattle.fed_rules.specs.declared.messages.ToSite.TheVariants as To
use Rattle.fed_rules.specs.declared.records.CoordRecord.TheVariants as Rec
use Rattle.fed_rules.specs.declared.scenario.Scenario.{Scenario}
use Rattle.fed_rules.specs.Closing.{last_sends, take_answers, deliver}
use Rattle.fed_rules.specs.Coord.{missing, is_member, ack_counts, acked_while, of_ack, of_take}
use Rattle.fed_rules.specs.CoordPast.{CoordHappening, CoordPast, records, Decided, Gone, standing, has_acked, standing_of, is_open, known_decision}
use Rattle.fed_rules.specs.CoordRecords.{required, is_nobody}
use Rattle.fed_rules.specs.Happenings.{quiet}
use Rattle.fed_rules.specs.Runs.{Run, Aborts}
use Rattle.fed_rules.specs.Scenarios.{home_of, protocols, policy}
use Rattle.fed_rules.specs.Sessions.{Session}
use Rattle.fed_rules.specs.Site.{ack_of, settles, unheld, of_decide, of_give}
use Rattle.fed_rules.specs.SitePast.{SiteHappening, SitePast, live}
use Rattle.fed_rules.specs.SitePast as Site_past
use Rattle.fed_rules.specs.SiteRecords.{Home, Held, doubt_of}
use Rattle.fed_rules.specs.Story.{Story, AtSite, Nowhere, past_of, coord_past, with_coordinator, sent_to, sent_from, on_site, on_give, happens, place_from, places_of, story_in}
use Rattle.closing_laws.proofs.Calm.{gives, takes}
use Rattle.closing_laws.proofs.CoordTurns.{takes_there, gentle_ack}
use Rattle.closing_laws.proofs.Onward.{IsCalm, Onward, onward_on, onward_next, at_home, gentle_give}
use Rattle.fed_rules.specs.Disk.{Append}
use Rattle.coord_laws.proofs.ForCallers.{calm_standing}
use Rattle.commit_laws.proofs.ForCallers.{CoordinatorFits}

-- what comes behind a list stands at its length
pub item_behind : {A : Type 0} (xs ys : List A) (y : A) → item_at (xs ++ y ∷ ys) (length xs) ≡ Some y
item_behind [] ys y = refl
item_behind (x ∷ xs) ys y = item_behind xs ys y

-- what a decision makes happen that is given at a declared site
pub give_told : (scenario : Scenario) (story : Story) (home : Home) (n : ℕ) (tid : Tid) (decision : Decision) → IsCalm story → home_of scenario home.site ≡ Some home
    → item_at (sent_to home.site story) n ≡ Some (To.Decide tid decision)
    → happens scenario story (Cmd.Give home.site n) ≡ AtSite home.site (of_decide home (past_of home.site story) tid decision)
unfolding happens on_give of_give given
give_told scenario story home n tid decision c d e =
    ap (λ o. given o (λ m. on_site scenario story home.site (Ev.Give m)) (Nowhere Say.None)) e
    ∙ (at_home scenario story home (Ev.Give (To.Decide tid decision)) d
    ∙ ap (λ x. AtSite home.site x) (gives home (past_of home.site story) (To.Decide tid decision) (c.sites home.site)))

-- a site answers a decision by an acknowledgement, where its protocol has one
pub decide_sends : (home : Home) (past : SitePast) (tid : Tid) (decision : Decision) → (of_decide home past tid decision).sends ≡ ack_of home tid decision
unfolding of_decide settles unheld given
decide_sends home past tid decision = by_doubt (doubt_of (Site_past.records home past) tid)
  where
    by_live : (o : Option Run) → (given o (λ run. unheld home tid decision (Aborts tid ∷ [])) (unheld home tid decision [])).sends ≡ ack_of home tid decision
    by_live None = refl
    by_live (Some run) = refl

    by_doubt : (o : Option Held) → (given o (λ held. settles home tid decision) (given (live home past tid) (λ run. unheld home tid decision (Aborts tid ∷ [])) (unheld home tid decision []))).sends ≡ ack_of home tid decision
    by_doubt None = by_live (live home past tid)
    by_doubt (Some held) = refl

pub acks_so : (home : Home) (tid : Tid) (decision : Decision) → acks home.protocol decision ≡ true → ack_of home tid decision ≡ From.Ack tid ∷ []
acks_so home tid decision a = cond-true _ _ _ a

-- what a line of a site sends stands behind what it sent before
pub sent_behind : (story : Story) (command : Command) (site : SiteId) (x : SiteHappening) (message : FromSite) → x.sends ≡ message ∷ []
    → item_at (sent_from site (record { command = command; happened = AtSite site x } ∷ story)) (length (sent_from site story)) ≡ Some message
sent_behind story command site x message e =
    ap (λ b. item_at (sent_from site story ++ cond b x.sends []) (length (sent_from site story))) (same_site-refl site)
    ∙ (ap (λ ms. item_at (sent_from site story ++ ms) (length (sent_from site story))) e ∙ item_behind (sent_from site story) [] message)

-- how the coordinator waits for the acknowledgements of these sites: none is missing from another one
abbrev pub IsWaiting : List Participant → CoordPast → Tid → Decision → List SiteId → Type 0
IsWaiting protocols past tid decision ss =
    (standing protocols past tid ≡ Gone) ⊎ ((standing protocols past tid ≡ Decided decision) × ((member : Participant) → In member (missing protocols past tid decision) → In member.site ss))

-- an acknowledgement that counts is counted, and no other one is
acked_here : (past : CoordPast) (tid : Tid) (site other : SiteId) → same_site site other ≡ true → has_acked (quiet (To_coord.Take site (From.Ack tid)) Say.Acked ∷ past) tid other ≡ true
acked_here past tid site other same = by_test (same_tid tid tid) (same_site site other) (has_acked past tid other) (same_tid-refl tid) same
  where
    by_test : (b c h : Bool) → b ≡ true → c ≡ true → cond (b && false) false (((b && c) && true) || h) ≡ true
    by_test true true h p q = refl
    by_test false c h p q = cc
    by_test true false h p q = cc

acked_there : (past : CoordPast) (tid : Tid) (site other : SiteId) → same_site site other ≡ false → has_acked (quiet (To_coord.Take site (From.Ack tid)) Say.Acked ∷ past) tid other ≡ has_acked past tid other
acked_there past tid site other differs = by_test (same_tid tid tid) (same_site site other) (has_acked past tid other) (same_tid-refl tid) differs
  where
    by_test : (b c h : Bool) → b ≡ true → c ≡ false → cond (b && false) false (((b && c) && true) || h) ≡ h
    by_test true false h p q = refl
    by_test false c h p q = cc
    by_test true true h p q = cc

not_acked_here : (past : CoordPast) (tid : Tid) (site other : SiteId) → has_acked (quiet (To_coord.Take site (From.Ack tid)) Say.Ignored ∷ past) tid other ≡ has_acked past tid other
not_acked_here past tid site other = by_test (same_tid tid tid) (same_site site other) (has_acked past tid other)
  where
    by_test : (b c h : Bool) → cond (b && false) false (((b && c) && false) || h) ≡ h
    by_test true true h = refl
    by_test true false h = refl
    by_test false c h = refl

-- one acknowledgement less is waited for
ack_taken : (protocols : List Participant) (past : CoordPast) (tid : Tid) (site : SiteId) (decision : Decision) (ss : List SiteId) → standing protocols past tid ≡ Decided decision
    → ((member : Participant) → In member (missing protocols past tid decision) → In member.site (site ∷ ss)) → IsWaiting protocols (of_ack protocols past site tid ∷ past) tid decision ss
unfolding of_ack acked_while ack_counts when
ack_taken protocols past tid site decision ss known waits =
    subst (λ s. IsWaiting protocols (acked_while protocols past site tid s ∷ past) tid decision ss) (sym known) (by_member (is_member site (missing protocols past tid decision)) refl)
  where
    event : CoordEvent
    event = To_coord.Take site (From.Ack tid)

    forgets : CoordHappening
    forgets = record { event = event; answer = Say.Forgets; sends = []; calls = Append (Rec.End tid) ∷ []; lines = [] }

    stays : standing protocols (quiet event Say.Acked ∷ past) tid ≡ Decided decision
    stays = calm_standing protocols tid past (quiet event Say.Acked) tt ∙ known

    stays_so : standing protocols (quiet event Say.Ignored ∷ past) tid ≡ Decided decision
    stays_so = calm_standing protocols tid past (quiet event Say.Ignored) tt ∙ known

    member_test : CoordPast → Participant → Bool
    member_test now member = not (has_acked now tid member.site)

    left : (member : Participant) → In member (missing protocols (quiet event Say.Acked ∷ past) tid decision) → In member.site ss
    left member i = by_site (same_site site member.site) refl
      where
        found : In member (required protocols (records past) tid decision) × (not (has_acked (quiet event Say.Acked ∷ past) tid member.site) ≡ true)
        found = those_in (λ m. not (has_acked (quiet event Say.Acked ∷ past) tid m.site)) member (required protocols (records past) tid decision) i

        by_site : (b : Bool) → same_site site member.site ≡ b → In member.site ss
        by_site true q = (let yes = acked_here past tid site member.site q in let no_ack = not-true _ found.1 in let clash = sym no_ack ∙ yes in cc)
        by_site false q = elim (waits member (in_those (λ m. not (has_acked past tid m.site)) member (required protocols (records past) tid decision) found.0 (ap not (sym (acked_there past tid site member.site q)) ∙ found.1))) [
          | inl same ↦ (let yes = same_site-refl site in let t : same_site site site ≡ false = ap (same_site site) same ∙ q in let clash = sym t ∙ yes in cc)
          | inr j ↦ j
        ]

    still : is_member site (missing protocols past tid decision) ≡ false → (member : Participant) → In member (missing protocols (quiet event Say.Ignored ∷ past) tid decision) → In member.site ss
    still none member i =
        let found = those_in (λ m. not (has_acked (quiet event Say.Ignored ∷ past) tid m.site)) member (required protocols (records past) tid decision) i in
        let old = in_those (λ m. not (has_acked past tid m.site)) member (required protocols (records past) tid decision) found.0 (ap not (sym (not_acked_here past tid site member.site)) ∙ found.1) in
        elim (waits member old) [
          | inl same ↦
              let yes = among_some (λ m. same_site m.site site) (missing protocols past tid decision) (is_among (λ m. same_site m.site site ≡ true) member (missing protocols past tid decision) old (ap (λ s. same_site s site) (sym same) ∙ same_site-refl site)) in
              let clash = sym none ∙ yes in cc
          | inr j ↦ j
        ]

    by_nobody : (b : Bool) → is_nobody (missing protocols (quiet event Say.Acked ∷ past) tid decision) ≡ b → IsWaiting protocols (when b forgets (quiet event Say.Acked) ∷ past) tid decision ss
    by_nobody true q = inl (ap (λ b. standing_of (cond b false (is_open past tid)) (cond b None (known_decision protocols past tid))) (same_tid-refl tid))
    by_nobody false q = inr (stays, left)

    by_member : (b : Bool) → is_member site (missing protocols past tid decision) ≡ b
        → IsWaiting protocols (when b (when (is_nobody (missing protocols (quiet event Say.Acked ∷ past) tid decision)) forgets (quiet event Say.Acked)) (quiet event Say.Ignored) ∷ past) tid decision ss
    by_member true q = by_nobody (is_nobody (missing protocols (quiet event Say.Acked ∷ past) tid decision)) refl
    by_member false q = inr (stays_so, still q)

ack_waits : (protocols : List Participant) (past : CoordPast) (tid : Tid) (site : SiteId) (decision : Decision) (ss : List SiteId) → (standing protocols past tid ≡ Gone → standing protocols (of_ack protocols past site tid ∷ past) tid ≡ Gone)
    → IsWaiting protocols past tid decision (site ∷ ss) → IsWaiting protocols (of_ack protocols past site tid ∷ past) tid decision ss
ack_waits protocols past tid site decision ss gone (inl e) = inl (gone e)
ack_waits protocols past tid site decision ss gone (inr (known, waits)) = ack_taken protocols past tid site decision ss known waits

-- a delivery: every actor stays ready, and one acknowledgement less is waited for
pub record IsDelivered (scenario : Scenario) (tid : Tid) (decision : Decision) (ss : List SiteId) (before now : Story) : Type 0 where
  pub onward : Onward scenario before now
  pub waits : IsWaiting (protocols scenario) (coord_past now) tid decision ss

pub delivered : (session : Session) (fits : CoordinatorFits session) (commands : List Command) (home : Home) (n : ℕ) (tid : Tid) (decision : Decision) (ss : List SiteId) → IsCalm (story_in session commands)
    → home_of session.plan home.site ≡ Some home → acks home.protocol decision ≡ true → item_at (sent_to home.site (story_in session commands)) n ≡ Some (To.Decide tid decision)
    → IsWaiting (protocols session.plan) (coord_past (story_in session commands)) tid decision (home.site ∷ ss)
    → IsDelivered session.plan tid decision ss (story_in session commands) (story_in session (deliver session (record { site = home.site; place = n }) commands))
unfolding of_take
delivered session fits commands home n tid decision ss c d a e waits =
    subst (λ cs. IsDelivered session.plan tid decision ss story (story_in session cs)) (sym made) (record { onward = onward_on session.plan story (story_in session given) (story_in session both) first second; waits = now })
  where
    story : Story
    story = story_in session commands

    given : List Command
    given = Cmd.Give home.site n ∷ commands

    x : SiteHappening
    x = of_decide home (past_of home.site story) tid decision

    told : happens session.plan story (Cmd.Give home.site n) ≡ AtSite home.site x
    told = give_told session.plan story home n tid decision c d e

    sends : x.sends ≡ From.Ack tid ∷ []
    sends = decide_sends home (past_of home.site story) tid decision ∙ acks_so home tid decision a

    place : ℕ
    place = length (sent_from home.site story)

    both : List Command
    both = Cmd.Take home.site place ∷ given

    places : last_sends session given ≡ record { site = home.site; place = place } ∷ []
    places = ap (places_of story) told ∙ ap (place_from home.site place) sends

    made : deliver session (record { site = home.site; place = n }) commands ≡ both
    made = ap (λ ps. take_answers ps given) places

    first : Onward session.plan story (story_in session given)
    first = onward_next session.plan story (Cmd.Give home.site n) (happens session.plan story (Cmd.Give home.site n)) c (gentle_give session.plan story home.site n tid decision c e)

    there : item_at (sent_from home.site (story_in session given)) place ≡ Some (From.Ack tid)
    there =
        ap (λ h. item_at (sent_from home.site (record { command = Cmd.Give home.site n; happened = h } ∷ story)) place) told
        ∙ sent_behind story (Cmd.Give home.site n) home.site x (From.Ack tid) sends

    second : Onward session.plan (story_in session given) (story_in session both)
    second = onward_next session.plan (story_in session given) (Cmd.Take home.site place) (happens session.plan (story_in session given) (Cmd.Take home.site place)) first.calm (gentle_ack session fits given home.site place tid first.calm there)

    same_past : coord_past (story_in session given) ≡ coord_past story
    same_past = ap (λ h. with_coordinator h (coord_past story)) told

    taken_so : coord_past (story_in session both) ≡ of_ack (protocols session.plan) (coord_past (story_in session given)) home.site tid ∷ coord_past (story_in session given)
    taken_so =
        ap (λ h. with_coordinator h (coord_past (story_in session given))) (takes_there session.plan (story_in session given) home.site place (From.Ack tid) there)
        ∙ ap (λ y. y ∷ coord_past (story_in session given)) (takes (protocols session.plan) (policy session.plan) (coord_past (story_in session given)) home.site (From.Ack tid) first.calm.coordinator)

    gone : standing (protocols session.plan) (coord_past (story_in session given)) tid ≡ Gone → standing (protocols session.plan) (of_ack (protocols session.plan) (coord_past (story_in session given)) home.site tid ∷ coord_past (story_in session given)) tid ≡ Gone
    gone g = ap (λ past. standing (protocols session.plan) past tid) (sym taken_so) ∙ second.gone tid g

    now : IsWaiting (protocols session.plan) (coord_past (story_in session both)) tid decision ss
    now = subst (λ past. IsWaiting (protocols session.plan) past tid decision ss) (sym taken_so)
        (ack_waits (protocols session.plan) (coord_past (story_in session given)) tid home.site decision ss gone (subst (λ past. IsWaiting (protocols session.plan) past tid decision (home.site ∷ ss)) (sym same_past) waits))
