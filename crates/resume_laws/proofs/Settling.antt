-- In a session that goes on without transactions every line that settles an attempt says its outcome: an invariant of one attempt at one site and at the
-- coordinator, with what was sent between them.
use Rattle.std.proofs.Common.{◌≡◌, ◌&&◌, ◌||◌, not, ◌⊎◌, inl, inr, Bool, true, false, cond, is_some, Some, None, List, [], ◌∷◌, ◌++◌, refl, sym, ap, ap₂, subst, ◌∙◌}
use Rattle.mdb_base.specs.declared.names.SiteId.{SiteId}
use Rattle.mdb_base.specs.declared.names.Tid.{Tid}
use Rattle.mdb_base.specs.Words.{Among}
use Rattle.mdb_base.proofs.ForCallers.{among_split, same_tid-refl}
use Rattle.order_laws.specs.Chains.{In}
use Rattle.presumptions.specs.declared.Decision.{Decision}
use Rattle.presumptions.specs.declared.Participant.{Participant}
use Rattle.presumptions.specs.Table.{presumed}
use Rattle.fed_rules.specs.declared.answers.Answer.TheVariants as Say
use Rattle.fed_rules.specs.declared.events.CoordEvent.{CoordEvent}
use Rattle.fed_rules.specs.declared.events.CoordEvent.TheVariants as Coord_event
use Rattle.fed_rules.specs.declared.events.SiteEvent.{SiteEvent}
use Rattle.fed_rules.specs.declared.events.SiteEvent.TheVariants as Ev
use Rattle.fed_rules.specs.declared.messages.FromSite.{FromSite}
use Rattle.fed_rules.specs.declared.messages.FromSite.TheVariants as From
use Rattle.fed_rules.specs.declared.messages.ToSite.{ToSite}
use Rattle.fed_rules.specs.declared.messages.ToSite.TheVariants as To
use Rattle.fed_rules.specs.Coord.{missing, protocol_of}
use Rattle.fed_rules.specs.CoordPast as Coordinator
use Rattle.fed_rules.specs.CoordPast.{CoordHappening, CoordPast, Decided, Gone, Standing, acks_in, decides, has_acked, is_about, standing, standing_of}
use Rattle.fed_rules.specs.CoordRecords.{has_end, is_kept, is_nobody, named, outcome, required, required_of}
use Rattle.fed_rules.specs.Endings.{Settles}
use Rattle.fed_rules.specs.Happenings.{comes_up, quiet, stops}
use Rattle.fed_rules.specs.SitePast.{SiteHappening, SitePast, records, trip}
use Rattle.fed_rules.specs.SiteRecords.{Home, doubt_of}
use Rattle.fed_rules.specs.Usable.{IsEndOf}
use Rattle.fed_rules.proofs.ForCallers.{BeginsNothing}
use Rattle.commit_laws.proofs.ForCallers.{member_of, to_site, told-to}
use Rattle.coord_laws.proofs.ForCallers.{CoordSound, Decides, Forgets, IsEnding, IsMade, IsOpen, IsTelling, Known, Now, Presumed, Restarts, Same, Starts, Stood, Stopped, Through, Turn, acked_taken, among_end, end_among, ends_for, kept_from, kept_standing, named_stays, nobody_none, same_outcome, those_among}
use Rattle.found_laws.proofs.ForCallers.{AreDecisions, IsDecide, NobodyIsOpen, closed_standing, each_here, still_nobody}
use Rattle.resume_laws.proofs.SiteGentle.{Gentle}

-- the site isn't in doubt of the attempt, or presumes this decision
abbrev pub IsRight : Home → Tid → Decision → SitePast → Type 0
IsRight home g verdict here = (doubt_of (records home here) g ≡ None) ⊎ (presumed home.protocol ≡ verdict)

-- or its acknowledgement of this decision is required
abbrev pub IsAwaited : List Participant → Home → Tid → Decision → CoordPast → Type 0
IsAwaited protocols home g verdict past =
    Among (λ m. (m.site ≡ home.site) × (m.protocol ≡ home.protocol)) (required protocols (Coordinator.records past) g verdict)

pub record Resumes (protocols : List Participant) (home : Home) (g : Tid) (verdict : Decision) (past : CoordPast) (here : SitePast)
    (sent : List ToSite) (back : List FromSite) : Type 0 where
  pub untripped : trip here ≡ None
  pub nobody : NobodyIsOpen past
  pub outcome : outcome (Coordinator.records past) g ≡ verdict
  pub decides : (m : ToSite) → In m sent → IsDecide m
  pub told : (d : Decision) → In (To.Decide g d) sent → (d ≡ verdict) ⊎ (doubt_of (records home here) g ≡ None)
  pub acked : In (From.Ack g) back → doubt_of (records home here) g ≡ None
  pub heard : has_acked past g home.site ≡ true → doubt_of (records home here) g ≡ None
  pub awaited : IsRight home g verdict here ⊎ IsAwaited protocols home g verdict past
  pub unkept : is_kept protocols (Coordinator.records past) g ≡ false → IsRight home g verdict here
  pub gone : standing protocols past g ≡ Gone → IsRight home g verdict here
  pub settled : (d : Decision) → Settles here g d → d ≡ verdict

-- ---- a line of the site

still_right : (home : Home) (g : Tid) (verdict : Decision) (here : SitePast) (event : SiteEvent) (x : SiteHappening) → Gentle home here event x
    → IsRight home g verdict here → IsRight home g verdict (x ∷ here)
still_right home g verdict here event x k (inl free) = inl (k.free g free)
still_right home g verdict here event x k (inr right) = inr right

pub site_goes : (protocols : List Participant) (home : Home) (g : Tid) (verdict : Decision) (past : CoordPast) (here : SitePast) (sent : List ToSite) (back : List FromSite)
    (event : SiteEvent) (x : SiteHappening) → Resumes protocols home g verdict past here sent back → Gentle home here event x → ((m : ToSite) → event ≡ Ev.Give m → In m sent)
    → Resumes protocols home g verdict past (x ∷ here) sent (back ++ x.sends)
site_goes protocols home g verdict past here sent back event x r k comes = record {
  untripped = k.untripped;
  nobody = r.nobody;
  outcome = r.outcome;
  decides = r.decides;
  told = λ d i. elim (r.told d i) [ inl right ↦ inl right | inr free ↦ inr (k.free g free) ];
  acked = λ i. elim (among_split (λ y. y ≡ From.Ack g) back x.sends i) [ inl old ↦ k.free g (r.acked old) | inr new ↦ k.acked g new ];
  heard = λ e. k.free g (r.heard e);
  awaited = elim r.awaited [ inl right ↦ inl (still_right home g verdict here event x k right) | inr awaited ↦ inr awaited ];
  unkept = λ e. still_right home g verdict here event x k (r.unkept e);
  gone = λ e. still_right home g verdict here event x k (r.gone e);
  settled = λ d i. settles_right d i;
}
  where
    settles_right : (d : Decision) → Settles (x ∷ here) g d → d ≡ verdict
    settles_right d (inr i) = r.settled d i
    settles_right d (inl e) =
        let s = k.settled g d e in
        elim (r.told d (comes (To.Decide g d) s.0)) [
          | inl right ↦ right
          | inr free ↦ let clash : true ≡ false = sym s.1 ∙ ap is_some free in cc
        ]

-- ---- a line of the coordinator

-- an acknowledgement that counts at a line is taken there, or was counted before
acked_from : (g : Tid) (site : SiteId) (past : CoordPast) (x : CoordHappening) → has_acked (x ∷ past) g site ≡ true
    → (x.event ≡ Coord_event.Take site (From.Ack g)) ⊎ (has_acked past g site ≡ true)
acked_from g site past x e = by_tests (stops x.answer || comes_up x.answer || (is_about g x.event && decides x.answer)) (acks_in g site x) refl refl e
  where
    taken : (stops x.answer || comes_up x.answer || (is_about g x.event && decides x.answer)) ≡ false → acks_in g site x ≡ true → x.event ≡ Coord_event.Take site (From.Ack g)
    taken q p = elim (acked_taken (x ∷ []) g site (ap₂ (λ b a. cond b false (a || false)) q p)) [ inl is ↦ is | inr none ↦ absurd none ]

    by_tests : (b a : Bool) → (stops x.answer || comes_up x.answer || (is_about g x.event && decides x.answer)) ≡ b → acks_in g site x ≡ a
        → cond b false (a || has_acked past g site) ≡ true → (x.event ≡ Coord_event.Take site (From.Ack g)) ⊎ (has_acked past g site ≡ true)
    by_tests true a q p e = cc
    by_tests false true q p e = inl (taken q p)
    by_tests false false q p e = inr e

-- where no acknowledgement is missing, a required one was counted
was_acked : (protocols : List Participant) (g : Tid) (past : CoordPast) (d : Decision) (home : Home)
    → is_nobody (missing protocols past g d) ≡ true → IsAwaited protocols home g d past → has_acked past g home.site ≡ true
was_acked protocols g past d home nobody m = by_test (has_acked past g home.site) refl
  where
    by_test : (b : Bool) → has_acked past g home.site ≡ b → has_acked past g home.site ≡ true
    by_test true e = e
    by_test false e = absurd (nobody_none (λ k. (k.site ≡ home.site) × (k.protocol ≡ home.protocol)) (missing protocols past g d) nobody
        (those_among (λ k. (k.site ≡ home.site) × (k.protocol ≡ home.protocol)) (λ k. not (has_acked past g k.site))
        (λ k is. ap not (ap (has_acked past g) is.0 ∙ e)) (required protocols (Coordinator.records past) g d) m))

-- the next line of the coordinator
pub record CoordGoes (protocols : List Participant) (home : Home) (g : Tid) (past : CoordPast) (back : List FromSite) (event : CoordEvent) (x : CoordHappening) : Type 0 where
  pub turn : Turn protocols (member_of home) g past event x
  pub made : IsMade protocols past event x
  pub quietly : BeginsNothing event
  pub sends : AreDecisions x.sends
  pub comes : (m : FromSite) → event ≡ Coord_event.Take home.site m → In m back
  pub protocol : protocol_of protocols home.site ≡ home.protocol

pub coord_goes : (protocols : List Participant) (home : Home) (g : Tid) (verdict : Decision) (past : CoordPast) (here : SitePast) (sent : List ToSite) (back : List FromSite)
    (event : CoordEvent) (x : CoordHappening) → Resumes protocols home g verdict past here sent back → CoordGoes protocols home g past back event x
    → Resumes protocols home g verdict (x ∷ past) here (sent ++ to_site home.site x.sends) back
coord_goes protocols home g verdict past here sent back event x r n = record {
  untripped = r.untripped;
  nobody = still_nobody protocols past event x n.made n.quietly r.nobody;
  outcome = same_outcome protocols (member_of home) g past event x n.turn closed ∙ r.outcome;
  decides = λ m i. elim (among_split (λ y. y ≡ m) sent (to_site home.site x.sends) i) [ inl old ↦ r.decides m old | inr new ↦ each_here home.site x.sends m n.sends new ];
  told = λ d i. elim (among_split (λ y. y ≡ To.Decide g d) sent (to_site home.site x.sends) i) [
    | inl old ↦ r.told d old
    | inr new ↦ tells d (told-to protocols g past x home.site x.sends (To.Decide g d) n.turn.line.tells new (same_tid-refl g))
  ];
  acked = r.acked;
  heard = hears x n.turn.line.is;
  awaited = elim r.awaited [
    | inl right ↦ inl right
    | inr awaited ↦ inr (subst (λ o. Among (λ m. (m.site ≡ home.site) × (m.protocol ≡ home.protocol)) (required_of verdict o)) (sym same_named) awaited)
  ];
  unkept = unkept;
  gone = gone;
  settled = r.settled;
}
  where
    sound : CoordSound protocols (member_of home) g past
    sound = n.turn.sound

    closed : IsOpen protocols past g → ⊥
    closed = closed_standing protocols past g (r.nobody g)

    same_named : named protocols (Coordinator.records (x ∷ past)) g ≡ named protocols (Coordinator.records past) g
    same_named = named_stays protocols (member_of home) g past event x n.turn closed

    -- of an acknowledgement that this event brings
    hears : (y : CoordHappening) → y.event ≡ event → has_acked (y ∷ past) g home.site ≡ true → doubt_of (records home here) g ≡ None
    hears y is e = elim (acked_from g home.site past y e) [
      | inl taken ↦ r.acked (n.comes (From.Ack g) (sym is ∙ taken))
      | inr old ↦ r.heard old
    ]

    -- a decision that is known is the outcome
    known_right : (d : Decision) → standing protocols past g ≡ Decided d → d ≡ verdict
    known_right d e = (sound.decided d e).1 ∙ r.outcome

    -- who is forgotten, where no acknowledgement is missing any more
    forgotten : (d : Decision) (ev : CoordEvent) → ev ≡ event → standing protocols past g ≡ Decided d → is_nobody (missing protocols (quiet ev Say.Acked ∷ past) g d) ≡ true → IsRight home g verdict here
    forgotten d ev is known none = elim r.awaited [
      | inl right ↦ right
      | inr awaited ↦ inl (hears (quiet ev Say.Acked) is (was_acked protocols g (quiet ev Say.Acked ∷ past) d home none
          (subst (λ v. IsAwaited protocols home g v past) (sym (known_right d known)) awaited)))
    ]

    tells : (d : Decision) → IsTelling protocols g past x home.site d → (d ≡ verdict) ⊎ (doubt_of (records home here) g ≡ None)
    tells d (Now f o e news is by) = absurd (closed o)
    tells d (Known e) = inl (known_right d e)
    tells d (Presumed e q p) = elim (r.gone e) [ inl free ↦ inr free | inr right ↦ inl (p ∙ ap presumed n.protocol ∙ right) ]

    not_kept : (b c : Bool) → (not b && not c) ≡ false → (b ≡ true) ⊎ (c ≡ true)
    not_kept true c e = inl refl
    not_kept false true e = inr refl
    not_kept false false e = cc

    ended_before : has_end (Coordinator.records past) g ≡ true → IsRight home g verdict here
    ended_before e = r.unkept (ap (λ b. not b && not (is_nobody (required protocols (Coordinator.records past) g (outcome (Coordinator.records past) g)))) e)

    nobody_before : is_nobody (required protocols (Coordinator.records past) g (outcome (Coordinator.records past) g)) ≡ true → IsRight home g verdict here
    nobody_before e = r.unkept (ap (λ b. not (has_end (Coordinator.records past) g) && not b) e ∙ none (not (has_end (Coordinator.records past) g)))
      where
        none : (b : Bool) → (b && false) ≡ false
        none true = refl
        none false = refl

    unkept : is_kept protocols (Coordinator.records (x ∷ past)) g ≡ false → IsRight home g verdict here
    unkept e = elim (not_kept (has_end (Coordinator.records (x ∷ past)) g) (is_nobody (required protocols (Coordinator.records (x ∷ past)) g (outcome (Coordinator.records (x ∷ past)) g))) e) [
      | inl ended ↦ elim (kept_from protocols g past event (Coordinator.records (x ∷ past)) (IsEndOf g) n.turn.line.kept (end_among g (Coordinator.records (x ∷ past)) ended)) [
        | inl old ↦ ended_before (among_end g (Coordinator.records past) old)
        | inr (kept, w, is, i) ↦ by_ending (ends_for protocols (member_of home) g past event kept sound w i).ends
      ]
      | inr nobody ↦ nobody_before (ap₂ (λ o v. is_nobody (required_of v o)) (sym same_named) (sym (same_outcome protocols (member_of home) g past event x n.turn closed)) ∙ nobody)
    ]
      where
        by_ending : IsEnding protocols g past event [] → IsRight home g verdict here
        by_ending s = forgotten s.decision event refl s.known s.none

    gone_kept : kept_standing protocols (Coordinator.records (x ∷ past)) g ≡ Gone → IsRight home g verdict here
    gone_kept e = by_test (is_kept protocols (Coordinator.records (x ∷ past)) g) refl e
      where
        by_test : (b : Bool) → is_kept protocols (Coordinator.records (x ∷ past)) g ≡ b
            → standing_of false (cond b (Some (outcome (Coordinator.records (x ∷ past)) g)) None) ≡ Gone → IsRight home g verdict here
        by_test true q e = cc
        by_test false q e = unkept q

    gone : standing protocols (x ∷ past) g ≡ Gone → IsRight home g verdict here
    gone e = by_stood n.turn.line.stood
      where
        by_stood : Stood protocols g past x → IsRight home g verdict here
        by_stood (Stopped b is a s) = gone_kept (sym is ∙ e)
        by_stood (Through (Same is b u a) s) = r.gone (sym is ∙ e)
        by_stood (Through (Starts b is news steps v) s) = (let clash = sym is ∙ e in cc)
        by_stood (Through (Decides d f o b is news by a) s) = absurd (closed o)
        by_stood (Through (Forgets d known b is none ends a) s) = forgotten d x.event n.turn.line.is known none
        by_stood (Through (Restarts b is a t) s) = gone_kept (sym is ∙ e)
