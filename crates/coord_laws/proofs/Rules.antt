-- How the facts on one attempt go through the branches of a rule of the coordinator, and that they hold of its quiet lines.
use Rattle.std.proofs.Common.{◌≡◌, inl, Bool, true, false, cond, ◌&&◌, ◌||◌, Option, Some, None, List, [], ◌∷◌, refl, ap, ◌∙◌}
use Rattle.std.proofs.lemmas.Bool.{and_right}
use Rattle.mdb_base.specs.declared.names.SiteId.{SiteId}
use Rattle.mdb_base.specs.declared.names.Tid.{Tid}
use Rattle.mdb_base.specs.Words.{when, given}
use Rattle.mdb_base.proofs.ForCallers.{cond_same}
use Rattle.presumptions.specs.declared.Decision.{Decision}
use Rattle.presumptions.specs.declared.Participant.{Participant}
use Rattle.fed_rules.specs.declared.answers.Answer.{Answer}
use Rattle.fed_rules.specs.declared.answers.Answer.TheVariants as Say
use Rattle.fed_rules.specs.declared.events.CoordEvent.{CoordEvent}
use Rattle.fed_rules.specs.declared.events.CoordEvent.TheVariants as Ev
use Rattle.fed_rules.specs.declared.messages.FromSite.TheVariants as From
use Rattle.fed_rules.specs.declared.records.CoordRecord.{CoordRecord}
use Rattle.fed_rules.specs.Happenings.{quiet, stops, comes_up}
use Rattle.fed_rules.specs.CoordPast.{CoordHappening, CoordPast, records, Standing, standing_of, standing, opened, is_open, decided, kept_decision, known_decision, is_about, begins, counts, decides, acks_in, has_acked}
use Rattle.fed_rules.proofs.ForCallers.{IsSending}
use Rattle.coord_laws.proofs.Facts.{is_undecided, moved, IsOpen, Same, Counted, Committed, Goes}

pub goes_when : (protocols : List Participant) (g : Tid) (past : CoordPast) (event : CoordEvent) (b : Bool) (x y : CoordHappening)
    → (b ≡ true → Goes protocols g past event x) → (b ≡ false → Goes protocols g past event y)
    → Goes protocols g past event (when b x y)
unfolding when
goes_when protocols g past event true x y p q = p refl
goes_when protocols g past event false x y p q = q refl

pub goes_given : {A : Type 0} (protocols : List Participant) (g : Tid) (past : CoordPast) (event : CoordEvent) (o : Option A)
    (x : CoordHappening) (y : A → CoordHappening) → (o ≡ None → Goes protocols g past event x)
    → ((a : A) → o ≡ Some a → Goes protocols g past event (y a)) → Goes protocols g past event (given o y x)
unfolding given
goes_given protocols g past event None x y p q = p refl
goes_given protocols g past event (Some a) x y p q = q a refl

-- an answer that leaves the standing of every attempt as it was
abbrev pub IsCalm : Answer → Type 0
IsCalm (Say.Stopped kept) = ⊥
IsCalm (Say.UpSite e n) = ⊥
IsCalm (Say.UpCoord n) = ⊥
IsCalm (Say.Begun tid) = ⊥
IsCalm (Say.Decides decision cause forgets) = ⊥
IsCalm Say.Forgets = ⊥
IsCalm answer = Unit {0}

pub record Calm (g : Tid) (a : Answer) : Type 0 where
  pub stops : stops a ≡ false
  pub up : comes_up a ≡ false
  pub begins : begins g a ≡ false
  pub decides : decides a ≡ false
  pub moved : (old : Standing) → moved a old ≡ old

pub calm_answer : (g : Tid) (a : Answer) → IsCalm a → Calm g a
calm_answer g (Say.Stopped kept) c = absurd c
calm_answer g (Say.UpSite e n) c = absurd c
calm_answer g (Say.UpCoord n) c = absurd c
calm_answer g (Say.Begun tid) c = absurd c
calm_answer g (Say.Decides decision cause forgets) c = absurd c
calm_answer g Say.Forgets c = absurd c
calm_answer g a c = record { stops = refl; up = refl; begins = refl; decides = refl; moved = (λ old. refl) }

pub calm_committed : (g : Tid) (event : CoordEvent) (a : Answer) (news : List CoordRecord) → IsCalm a → Committed g event a news
calm_committed g event (Say.Decides decision cause forgets) news c = absurd c
calm_committed g event a news c = tt

-- such an answer moves no standing, begins nothing, and counts
pub record Sending (g : Tid) (a : Answer) : Type 0 where
  pub calm : IsCalm a
  pub begins : begins g a ≡ false
  pub counts : counts a ≡ true

pub sending_answer : (g : Tid) (a : Answer) → IsSending a → Sending g a
sending_answer g Say.Only s = record { calm = tt; begins = refl; counts = refl }
sending_answer g Say.Defers s = record { calm = tt; begins = refl; counts = refl }
sending_answer g a s = absurd s

-- an attempt that is open is known without a decision, and the other way round
pub open_undecided : (protocols : List Participant) (past : CoordPast) (g : Tid) → is_open past g ≡ true → IsOpen protocols past g
open_undecided protocols past g e = ap (λ o. is_undecided (standing_of o (known_decision protocols past g))) e

moved_standing : (a : Answer) (o : Bool) (d : Option Decision) → standing_of (opened a o) (decided a d) ≡ moved a (standing_of o d)
moved_standing (Say.Begun tid) o d = refl
moved_standing (Say.Decides decision cause true) o d = refl
moved_standing (Say.Decides decision cause false) o d = refl
moved_standing Say.Forgets o d = refl
moved_standing a o d = refl

-- the standing behind a line that neither stops nor starts the coordinator
pub standing_on : (protocols : List Participant) (g : Tid) (past : CoordPast) (x : CoordHappening) → stops x.answer ≡ false
    → comes_up x.answer ≡ false
    → standing protocols (x ∷ past) g
    ≡ cond (is_about g x.event) (moved x.answer (standing protocols past g)) (standing protocols past g)
standing_on protocols g past x s c = by_test (stops x.answer) (comes_up x.answer) (is_about g x.event) s c where
  by_test : (s c a : Bool) → s ≡ false → c ≡ false
      → standing_of (cond (s || c) false (cond a (opened x.answer (is_open past g)) (is_open past g)))
      (cond (s || c) (kept_decision protocols (records (x ∷ past)) g)
      (cond a (decided x.answer (known_decision protocols past g)) (known_decision protocols past g)))
      ≡ cond a (moved x.answer (standing protocols past g)) (standing protocols past g)
  by_test true c a e f = cc
  by_test false true a e f = cc
  by_test false false true e f = moved_standing x.answer (is_open past g) (known_decision protocols past g)
  by_test false false false e f = refl

-- an acknowledgement that doesn't count leaves the acknowledgements as they were
pub acked_on : (g : Tid) (past : CoordPast) (x : CoordHappening) (site : SiteId) → stops x.answer ≡ false → comes_up x.answer ≡ false
    → (is_about g x.event && decides x.answer) ≡ false → acks_in g site x ≡ false → has_acked (x ∷ past) g site ≡ has_acked past g site
acked_on g past x site s c d a = by_test (stops x.answer) (comes_up x.answer) (is_about g x.event && decides x.answer)
    (acks_in g site x) (has_acked past g site) s c d a where
      by_test : (s c d a h : Bool) → s ≡ false → c ≡ false → d ≡ false → a ≡ false → cond (s || c || d) false (a || h) ≡ h
      by_test true c d a h e f i j = cc
      by_test false true d a h e f i j = cc
      by_test false false true a h e f i j = cc
      by_test false false false true h e f i j = cc
      by_test false false false false h e f i j = refl

-- the event is no acknowledgement
abbrev pub IsNoAck : CoordEvent → Type 0
IsNoAck (Ev.Take site (From.Ack tid)) = ⊥
IsNoAck event = Unit {0}

pub no_ack : (g : Tid) (site : SiteId) (x : CoordHappening) → IsNoAck x.event → acks_in g site x ≡ false
no_ack g site x n = by_event x.event n where
  by_event : (event : CoordEvent) → IsNoAck event → acks_in g site (record x { event = event }) ≡ false
  by_event (Ev.Take from (From.Ack tid)) n = absurd n
  by_event (Ev.Take from (From.Did tid e k reply)) n = refl
  by_event (Ev.Take from (From.Vote tid vote)) n = refl
  by_event (Ev.Take from (From.Inquiry tid)) n = refl
  by_event (Ev.Go tid steps) n = refl
  by_event (Ev.Again tid) n = refl
  by_event (Ev.Late tid) n = refl
  by_event (Ev.Fate tx) n = refl
  by_event (Ev.Halt cut) n = refl
  by_event (Ev.Trip calls cut) n = refl
  by_event Ev.Back n = refl
  by_event Ev.Check n = refl

-- a calm answer leaves the standing as it was
pub calm_standing : (protocols : List Participant) (g : Tid) (past : CoordPast) (x : CoordHappening) → IsCalm x.answer
    → standing protocols (x ∷ past) g ≡ standing protocols past g
calm_standing protocols g past x c =
    let calm = calm_answer g x.answer c in
    standing_on protocols g past x calm.stops calm.up
    ∙ ap (λ s. cond (is_about g x.event) s (standing protocols past g)) (calm.moved (standing protocols past g))
    ∙ cond_same (is_about g x.event) (standing protocols past g)

pub calm_acked : (g : Tid) (past : CoordPast) (x : CoordHappening) (site : SiteId) → IsCalm x.answer → acks_in g site x ≡ false
    → has_acked (x ∷ past) g site ≡ has_acked past g site
calm_acked g past x site c a =
    let calm = calm_answer g x.answer c in
    acked_on g past x site calm.stops calm.up (and_right (is_about g x.event) (decides x.answer) calm.decides) a

-- a quiet line in which no acknowledgement counts
pub quietly : (protocols : List Participant) (g : Tid) (past : CoordPast) (event : CoordEvent) (answer : Answer) → IsCalm answer
    → ((site : SiteId) → acks_in g site (quiet event answer) ≡ false) → (counts answer ≡ true → Counted protocols g past event)
    → Goes protocols g past event (quiet event answer)
quietly protocols g past event answer c a k = record {
  is = refl;
  quiet = tt;
  wrote = tt;
  stands = Same (calm_standing protocols g past (quiet event answer) c) (calm_answer g answer c).begins tt
      (inl (λ site. calm_acked g past (quiet event answer) site c (a site)));
  tells = tt;
  counted = k;
  committed = calm_committed g event answer [] c;
}

-- a quiet line of an event that is no acknowledgement and no reply
pub silently : (protocols : List Participant) (g : Tid) (past : CoordPast) (event : CoordEvent) (answer : Answer) → IsCalm answer
    → IsNoAck event → Counted protocols g past event → Goes protocols g past event (quiet event answer)
silently protocols g past event answer c n k = quietly protocols g past event answer c (λ site. no_ack g site (quiet event answer) n)
    (λ e. k)

-- what is ignored, and what comes while the coordinator is down, doesn't count
pub uncounted : (protocols : List Participant) (g : Tid) (past : CoordPast) (event : CoordEvent) (answer : Answer) → IsCalm answer
    → counts answer ≡ false → Goes protocols g past event (quiet event answer)
uncounted protocols g past event answer c no_count =
    quietly protocols g past event answer c (λ site. and_right _ (counts answer) no_count) (λ e. cc)

pub ignored : (protocols : List Participant) (g : Tid) (past : CoordPast) (event : CoordEvent)
    → Goes protocols g past event (quiet event Say.Ignored)
ignored protocols g past event = uncounted protocols g past event Say.Ignored tt refl
