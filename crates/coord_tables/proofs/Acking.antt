-- What an acknowledgement of a known decision comes to.
use Rattle.std.proofs.Common.{◌≡◌, Bool, true, false, cond, not, Option, Some, None, List, [], ◌∷◌, refl, sym, ap, ap₂, subst, ◌∙◌}
use Rattle.std.proofs.lemmas.Bool.{cond-true}
use Rattle.mdb_base.specs.declared.names.SiteId.{SiteId}
use Rattle.mdb_base.specs.declared.names.Tid.{Tid}
use Rattle.mdb_base.specs.Names.{same_tid}
use Rattle.mdb_base.specs.Words.{holds_of, map_some, or_else, some_of, when}
use Rattle.mdb_base.proofs.ForCallers.{cond_same, same_tid-equal, same_tid-refl}
use Rattle.presumptions.specs.declared.Decision.{Decision}
use Rattle.presumptions.specs.declared.Participant.{Participant}
use Rattle.presumptions.specs.declared.Protocol.TheVariants as By
use Rattle.fed_rules.specs.declared.answers.Answer.TheVariants as Say
use Rattle.fed_rules.specs.declared.events.CoordEvent.TheVariants as Ev
use Rattle.fed_rules.specs.declared.messages.FromSite.TheVariants as From
use Rattle.fed_rules.specs.declared.records.CoordRecord.TheVariants as Rec
use Rattle.fed_rules.specs.Disk.{Append}
use Rattle.fed_rules.specs.Happenings.{comes_up, quiet, stops}
use Rattle.fed_rules.specs.Coord.{ack_counts, acked_while, answered, is_member, missing, of_ack, of_take}
use Rattle.fed_rules.specs.CoordRecords.{is_nobody}
use Rattle.fed_rules.specs.CoordPast.{CoordHappening, CoordPast, Standing, Undecided, Decided, Gone, begun_by, is_open, known_decision, standing, standing_of}
use Rattle.fed_rules.specs.Right.{MayPrint}
use Rattle.global_exec.specs.Live.{Live, live_of}
use Rattle.protocol_table.specs.declared.ends.AckEnd.{AckEnd}
use Rattle.protocol_table.specs.declared.ends.AckEnd.TheVariants as Ack
use Rattle.protocol_table.specs.declared.ends.Said.TheVariants as Said_is
use Rattle.protocol_table.specs.declared.known.Known.{Known}
use Rattle.protocol_table.specs.Agreement.{IsDecidedAs, IsKnownAs}
use Rattle.protocol_table.specs.Attempts.{changed, known_of, without}
use Rattle.protocol_table.specs.Ends as ends
use Rattle.protocol_table.proofs.ForCallers.{ack_keeps, acks_agree, acks_go}
use Rattle.coord_tables.specs.declared.tables.Tables.{Tables}
use Rattle.coord_tables.specs.Attempts.{IsLiveAs}
use Rattle.coord_tables.specs.Tables.{IsServing}
use Rattle.coord_tables.specs.Terms.{Terms, answer_of}
use Rattle.coord_tables.proofs.Again.{decided_none, decided_some}
use Rattle.coord_tables.proofs.Calm.{uncounted_calm}
use Rattle.coord_tables.proofs.Lines.{IsAsBefore, IsSentAs, calm, elsewhere, known_stays}
use Rattle.coord_tables.proofs.Own.{serving_own}
use Rattle.coord_tables.proofs.Waiting.{held_still}
use Rattle.coord_tables.proofs.Serving.{stages_stay}
use Rattle.coord_tables.proofs.Tabled.{known_changed, known_without, other_changed, other_without}

-- the line of an acknowledgement, by what it comes to
abbrev pub ack_line : SiteId → Tid → AckEnd → CoordHappening
ack_line site tid Ack.Ignored = quiet (Ev.Take site (From.Ack tid)) Say.Ignored
ack_line site tid Ack.Acked = quiet (Ev.Take site (From.Ack tid)) Say.Acked
ack_line site tid Ack.Forgets =
    record { event = Ev.Take site (From.Ack tid); answer = Say.Forgets; sends = []; calls = Append (Rec.End tid) ∷ []; lines = [] }

-- ---- what it answers

-- where the attempt isn't decided it is ignored
ack_open : (terms : Terms) (past : CoordPast) (site : SiteId) (tid : Tid) → standing terms.protocols past tid ≡ Undecided
    → answer_of terms past (Ev.Take site (From.Ack tid)) ≡ quiet (Ev.Take site (From.Ack tid)) Say.Ignored
unfolding answered of_take of_ack acked_while
ack_open terms past site tid e = ap (λ (s : Standing). acked_while terms.protocols past site tid s) e

ack_gone : (terms : Terms) (past : CoordPast) (site : SiteId) (tid : Tid) → standing terms.protocols past tid ≡ Gone
    → answer_of terms past (Ev.Take site (From.Ack tid)) ≡ quiet (Ev.Take site (From.Ack tid)) Say.Ignored
unfolding answered of_take of_ack acked_while
ack_gone terms past site tid e = ap (λ (s : Standing). acked_while terms.protocols past site tid s) e

ack_decided : (terms : Terms) (past : CoordPast) (site : SiteId) (tid : Tid) (d : Decision) → standing terms.protocols past tid ≡ Decided d
    → answer_of terms past (Ev.Take site (From.Ack tid))
    ≡ when (is_member site (missing terms.protocols past tid d)) (ack_counts terms.protocols past site tid d) (quiet (Ev.Take site (From.Ack tid)) Say.Ignored)
unfolding answered of_take of_ack acked_while
ack_decided terms past site tid d e = ap (λ (s : Standing). acked_while terms.protocols past site tid s) e

counted_is : (protocols : List Participant) (past : CoordPast) (site : SiteId) (tid : Tid) (d : Decision) (left : Bool)
    → is_nobody (missing protocols (quiet (Ev.Take site (From.Ack tid)) Say.Acked ∷ past) tid d) ≡ not left → ack_counts protocols past site tid d ≡ ack_line site tid (cond left Ack.Acked Ack.Forgets)
unfolding ack_counts when
counted_is protocols past site tid d true n = ap (λ b. when b (ack_line site tid Ack.Forgets) (ack_line site tid Ack.Acked)) n
counted_is protocols past site tid d false n = ap (λ b. when b (ack_line site tid Ack.Forgets) (ack_line site tid Ack.Acked)) n

either_line : (site : SiteId) (tid : Tid) (end : AckEnd) (counts : Bool) → when counts (ack_line site tid end) (ack_line site tid Ack.Ignored) ≡ ack_line site tid (cond counts end Ack.Ignored)
unfolding when
either_line site tid end true = refl
either_line site tid end false = refl

ack_is : (terms : Terms) (past : CoordPast) (site : SiteId) (tid : Tid) (d : Decision) (counts left : Bool) → standing terms.protocols past tid ≡ Decided d
    → is_member site (missing terms.protocols past tid d) ≡ counts → is_nobody (missing terms.protocols (quiet (Ev.Take site (From.Ack tid)) Say.Acked ∷ past) tid d) ≡ not left
    → answer_of terms past (Ev.Take site (From.Ack tid)) ≡ ack_line site tid (cond counts (cond left Ack.Acked Ack.Forgets) Ack.Ignored)
ack_is terms past site tid d counts left st c n =
    ack_decided terms past site tid d st
    ∙ ap₂ (λ b y. when b y (ack_line site tid Ack.Ignored)) c (counted_is terms.protocols past site tid d left n)
    ∙ either_line site tid (cond left Ack.Acked Ack.Forgets) counts

not_turned : (a b : Bool) → a ≡ not b → b ≡ not a
not_turned true true e = cc
not_turned true false e = refl
not_turned false true e = refl
not_turned false false e = cc

-- ---- what it leaves

decided_closed : (o : Bool) (known : Option Decision) (d : Decision) → standing_of o known ≡ Decided d → o ≡ false
decided_closed true known d e = cc
decided_closed false known d e = refl

none_live : (protocols : List Participant) (past now : CoordPast) (tid : Tid) (o : Option Live) → IsLiveAs protocols past tid false o → IsLiveAs protocols now tid false o
none_live protocols past now tid None l = tt
none_live protocols past now tid (Some live) l = absurd l

ack_before : (protocols : List Participant) (past : CoordPast) (site : SiteId) (tid t : Tid) (end : AckEnd) → same_tid tid t ≡ false → IsAsBefore protocols past (ack_line site tid end) t
ack_before protocols past site tid t Ack.Ignored e = elsewhere protocols past (ack_line site tid Ack.Ignored) t (record { goes = refl; about = e; begins = refl; named = refl; takes = refl; prepares = refl })
ack_before protocols past site tid t Ack.Acked e = elsewhere protocols past (ack_line site tid Ack.Acked) t (record { goes = refl; about = e; begins = refl; named = refl; takes = refl; prepares = refl })
ack_before protocols past site tid t Ack.Forgets e = elsewhere protocols past (ack_line site tid Ack.Forgets) t (record { goes = refl; about = e; begins = refl; named = refl; takes = refl; prepares = refl })

ack_sent : (past : CoordPast) (site : SiteId) (tid t : Tid) (end : AckEnd) → IsSentAs past (ack_line site tid end) t
ack_sent past site tid t Ack.Ignored = record { program = refl; takes = refl; prepares = refl; tickets = refl }
ack_sent past site tid t Ack.Acked = record { program = refl; takes = refl; prepares = refl; tickets = refl }
ack_sent past site tid t Ack.Forgets = record { program = refl; takes = refl; prepares = refl; tickets = refl }

ack_open_still : (past : CoordPast) (site : SiteId) (tid t : Tid) (end : AckEnd) → is_open past tid ≡ false → is_open (ack_line site tid end ∷ past) t ≡ is_open past t
ack_open_still past site tid t Ack.Ignored closed = cond_same (same_tid tid t) (is_open past t)
ack_open_still past site tid t Ack.Acked closed = cond_same (same_tid tid t) (is_open past t)
ack_open_still past site tid t Ack.Forgets closed = by_test (same_tid tid t) refl where
  by_test : (b : Bool) → same_tid tid t ≡ b → cond b false (is_open past t) ≡ is_open past t
  by_test true e = sym (ap (is_open past) (sym (same_tid-equal tid t e)) ∙ closed)
  by_test false e = refl

pub ack_goes : (site : SiteId) (tid : Tid) (end : AckEnd) → stops (ack_line site tid end).answer ≡ false
ack_goes site tid Ack.Ignored = refl
ack_goes site tid Ack.Acked = refl
ack_goes site tid Ack.Forgets = refl

pub ack_stays : (site : SiteId) (tid : Tid) (end : AckEnd) → comes_up (ack_line site tid end).answer ≡ false
ack_stays site tid Ack.Ignored = refl
ack_stays site tid Ack.Acked = refl
ack_stays site tid Ack.Forgets = refl

pub ack_begins : (site : SiteId) (tid : Tid) (end : AckEnd) → begun_by (ack_line site tid end).answer ≡ None
ack_begins site tid Ack.Ignored = refl
ack_begins site tid Ack.Acked = refl
ack_begins site tid Ack.Forgets = refl

pub ack_heard : (site : SiteId) (tid : Tid) (end : AckEnd) → (ack_line site tid end).event ≡ Ev.Take site (From.Ack tid)
ack_heard site tid Ack.Ignored = refl
ack_heard site tid Ack.Acked = refl
ack_heard site tid Ack.Forgets = refl

pub ack_silent : (site : SiteId) (tid : Tid) (end : AckEnd) → (ack_line site tid end).sends ≡ []
ack_silent site tid Ack.Ignored = refl
ack_silent site tid Ack.Acked = refl
ack_silent site tid Ack.Forgets = refl

pub ack_prints : (protocols : List Participant) (past : CoordPast) (site : SiteId) (tid : Tid) (end : AckEnd)
    → MayPrint protocols past (ack_line site tid end) (ack_line site tid end).event (ack_line site tid end).answer
ack_prints protocols past site tid Ack.Ignored = refl
ack_prints protocols past site tid Ack.Acked = refl
ack_prints protocols past site tid Ack.Forgets = refl

module _ (tables : Tables) (terms : Terms) (past : CoordPast) (site : SiteId) (tid : Tid) (d : Decision) (known : Known)
    (s : IsServing tables terms past) (st : standing terms.protocols past tid ≡ Decided d) (e : known_of tid tables.known ≡ Some known) where
  k : IsDecidedAs terms.protocols past tid d known
  k = decided_some tables terms past tid d known s st e

  behind : IsDecidedAs terms.protocols (ack_line site tid Ack.Acked ∷ past) tid d (ends.acked site known)
  behind = acks_go terms.protocols past tid d known k site (ack_line site tid Ack.Acked) refl (record { stays = refl }) refl refl refl

  -- the line is what the table answers
  pub ack_answer : answer_of terms past (Ev.Take site (From.Ack tid)) ≡ ack_line site tid (ends.ack_end site known)
  ack_answer =
      ack_is terms past site tid d (ends.ack_counts site known) (ends.is_missing (ends.acked site known)) st
      (sym ((acks_agree terms.protocols past tid d known k).counts site))
      (not_turned (ends.is_missing (ends.acked site known)) (is_nobody (missing terms.protocols (ack_line site tid Ack.Acked ∷ past) tid d)) (acks_agree terms.protocols (ack_line site tid Ack.Acked ∷ past) tid d (ends.acked site known) behind).left)

  closed : is_open past tid ≡ false
  closed = decided_closed (is_open past tid) (known_decision terms.protocols past tid) d st

  live_own : (end : AckEnd) → IsLiveAs terms.protocols (ack_line site tid end ∷ past) tid (is_open (ack_line site tid end ∷ past) tid) (live_of tid tables.exec)
  live_own end =
      subst (λ u. IsLiveAs terms.protocols (ack_line site tid end ∷ past) tid u (live_of tid tables.exec)) (sym (ack_open_still past site tid tid end closed ∙ closed))
      (none_live terms.protocols past (ack_line site tid end ∷ past) tid (live_of tid tables.exec) (subst (λ u. IsLiveAs terms.protocols past tid u (live_of tid tables.exec)) closed (s.live tid)))

  found : known_of tid (changed tid (ends.after_ack_of site) tables.known) ≡ Some (ends.after_ack_of site known)
  found = known_changed tid (ends.after_ack_of site) (ack_keeps site) tables.known ∙ ap (map_some (ends.after_ack_of site)) e

  same_found : ends.ack_counts site known ≡ false → known_of tid (changed tid (ends.after_ack_of site) tables.known) ≡ Some known
  same_found c = found ∙ ap (λ b. Some (cond b (ends.acked site known) known)) c

  acked_found : ends.ack_counts site known ≡ true → known_of tid (changed tid (ends.after_ack_of site) tables.known) ≡ Some (ends.acked site known)
  acked_found c = found ∙ ap (λ b. Some (cond b (ends.acked site known) known)) c

  acked_stands : standing terms.protocols (ack_line site tid Ack.Acked ∷ past) tid ≡ Decided d
  acked_stands = ap₂ (λ o c. standing_of o c) (cond_same (same_tid tid tid) (is_open past tid)) (cond_same (same_tid tid tid) (known_decision terms.protocols past tid)) ∙ st

  forgets_stands : standing terms.protocols (ack_line site tid Ack.Forgets ∷ past) tid ≡ Gone
  forgets_stands = ap₂ (λ o c. standing_of o c) (cond-true _ _ _ (same_tid-refl tid)) (cond-true _ _ _ (same_tid-refl tid))

  ignored_known : ends.ack_counts site known ≡ false
      → IsKnownAs terms.protocols (ack_line site tid Ack.Ignored ∷ past) tid (standing terms.protocols (ack_line site tid Ack.Ignored ∷ past) tid) (known_of tid (changed tid (ends.after_ack_of site) tables.known))
  ignored_known c =
      subst (λ (o : Option Known). IsKnownAs terms.protocols (ack_line site tid Ack.Ignored ∷ past) tid (standing terms.protocols (ack_line site tid Ack.Ignored ∷ past) tid) o) (e ∙ sym (same_found c))
      (known_stays terms.protocols past (ack_line site tid Ack.Ignored) tid (calm terms.protocols past (ack_line site tid Ack.Ignored) tid (uncounted_calm (Ev.Take site (From.Ack tid)) Say.Ignored tt refl)) (known_of tid tables.known) (s.known tid))

  acked_known : ends.ack_counts site known ≡ true
      → IsKnownAs terms.protocols (ack_line site tid Ack.Acked ∷ past) tid (standing terms.protocols (ack_line site tid Ack.Acked ∷ past) tid) (known_of tid (changed tid (ends.after_ack_of site) tables.known))
  acked_known c =
      subst (λ (now : Standing). IsKnownAs terms.protocols (ack_line site tid Ack.Acked ∷ past) tid now (known_of tid (changed tid (ends.after_ack_of site) tables.known))) (sym acked_stands)
      (subst (λ (o : Option Known). IsKnownAs terms.protocols (ack_line site tid Ack.Acked ∷ past) tid (Decided d) o) (sym (acked_found c)) behind)

  forgets_known : IsKnownAs terms.protocols (ack_line site tid Ack.Forgets ∷ past) tid (standing terms.protocols (ack_line site tid Ack.Forgets ∷ past) tid) (known_of tid (without tid tables.known))
  forgets_known =
      subst (λ (now : Standing). IsKnownAs terms.protocols (ack_line site tid Ack.Forgets ∷ past) tid now (known_of tid (without tid tables.known))) (sym forgets_stands)
      (subst (λ (o : Option Known). IsKnownAs terms.protocols (ack_line site tid Ack.Forgets ∷ past) tid Gone o) (sym (known_without tid tables.known)) tt)

  ignored_serving : ends.ack_counts site known ≡ false → IsServing (record tables { known = changed tid (ends.after_ack_of site) tables.known }) terms (ack_line site tid Ack.Ignored ∷ past)
  ignored_serving c = serving_own tables (record tables { known = changed tid (ends.after_ack_of site) tables.known }) terms past (ack_line site tid Ack.Ignored) tid (record {
    others = λ t f. ack_before terms.protocols past site tid t Ack.Ignored f;
    known_others = λ t f. other_changed tid t (ends.after_ack_of site) f (ack_keeps site) tables.known;
    live_others = λ t f. refl;
    known_own = ignored_known c;
    live_own = live_own Ack.Ignored;
    stages = stages_stay terms.protocols past (ack_line site tid Ack.Ignored) tables.stages.listed refl (λ t. ack_open_still past site tid t Ack.Ignored closed) (λ t. ack_sent past site tid t Ack.Ignored) s.stages;
    committed = s.committed;
    graph = s.graph;
    pruned = held_still past (ack_line site tid Ack.Ignored) tables.graph refl (λ t. ack_open_still past site tid t Ack.Ignored closed) s.pruned;
  }) s

  acked_serving : ends.ack_counts site known ≡ true → IsServing (record tables { known = changed tid (ends.after_ack_of site) tables.known }) terms (ack_line site tid Ack.Acked ∷ past)
  acked_serving c = serving_own tables (record tables { known = changed tid (ends.after_ack_of site) tables.known }) terms past (ack_line site tid Ack.Acked) tid (record {
    others = λ t f. ack_before terms.protocols past site tid t Ack.Acked f;
    known_others = λ t f. other_changed tid t (ends.after_ack_of site) f (ack_keeps site) tables.known;
    live_others = λ t f. refl;
    known_own = acked_known c;
    live_own = live_own Ack.Acked;
    stages = stages_stay terms.protocols past (ack_line site tid Ack.Acked) tables.stages.listed refl (λ t. ack_open_still past site tid t Ack.Acked closed) (λ t. ack_sent past site tid t Ack.Acked) s.stages;
    committed = s.committed;
    graph = s.graph;
    pruned = held_still past (ack_line site tid Ack.Acked) tables.graph refl (λ t. ack_open_still past site tid t Ack.Acked closed) s.pruned;
  }) s

  forgets_serving : IsServing (record tables { known = without tid tables.known }) terms (ack_line site tid Ack.Forgets ∷ past)
  forgets_serving = serving_own tables (record tables { known = without tid tables.known }) terms past (ack_line site tid Ack.Forgets) tid (record {
    others = λ t f. ack_before terms.protocols past site tid t Ack.Forgets f;
    known_others = λ t f. other_without tid t f tables.known;
    live_others = λ t f. refl;
    known_own = forgets_known;
    live_own = live_own Ack.Forgets;
    stages = stages_stay terms.protocols past (ack_line site tid Ack.Forgets) tables.stages.listed refl (λ t. ack_open_still past site tid t Ack.Forgets closed) (λ t. ack_sent past site tid t Ack.Forgets) s.stages;
    committed = s.committed;
    graph = s.graph;
    pruned = held_still past (ack_line site tid Ack.Forgets) tables.graph refl (λ t. ack_open_still past site tid t Ack.Forgets closed) s.pruned;
  }) s

  -- the tables follow
  pub ack_serving : IsServing (record tables { known = ends.after_ack (ends.ack_end site known) tid site tables.known }) terms (ack_line site tid (ends.ack_end site known) ∷ past)
  ack_serving = by_ways (ends.ack_counts site known) (ends.is_missing (ends.acked site known)) refl where
    by_ways : (c left : Bool) → ends.ack_counts site known ≡ c
        → IsServing (record tables { known = ends.after_ack (cond c (cond left Ack.Acked Ack.Forgets) Ack.Ignored) tid site tables.known }) terms (ack_line site tid (cond c (cond left Ack.Acked Ack.Forgets) Ack.Ignored) ∷ past)
    by_ways true true c = acked_serving c
    by_ways true false c = forgets_serving
    by_ways false left c = ignored_serving c

-- the table's answer to an acknowledgement of a decided attempt
abbrev pub table_end : Tables → Tid → SiteId → AckEnd
table_end tables tid site = or_else (map_some (ends.ack_end site) (known_of tid tables.known)) Ack.Ignored

pub record Follows (tables : Tables) (terms : Terms) (past : CoordPast) (site : SiteId) (tid : Tid) (end : AckEnd) : Type 0 where
  pub answer : answer_of terms past (Ev.Take site (From.Ack tid)) ≡ ack_line site tid end
  pub serving : IsServing (record tables { known = ends.after_ack end tid site tables.known }) terms (ack_line site tid end ∷ past)

pub ack_follows : (tables : Tables) (terms : Terms) (past : CoordPast) (site : SiteId) (tid : Tid) (d : Decision) (end : AckEnd) → IsServing tables terms past
    → standing terms.protocols past tid ≡ Decided d → end ≡ table_end tables tid site → Follows tables terms past site tid end
ack_follows tables terms past site tid d end s st is = by_known (known_of tid tables.known) refl is where
  by_known : (o : Option Known) → known_of tid tables.known ≡ o → end ≡ or_else (map_some (ends.ack_end site) o) Ack.Ignored → Follows tables terms past site tid end
  by_known None e i = absurd (decided_none tables terms past tid d s st e)
  by_known (Some known) e i = subst (λ (x : AckEnd). Follows tables terms past site tid x) (sym i)
      (record { answer = ack_answer tables terms past site tid d known s st e; serving = ack_serving tables terms past site tid d known s st e })

-- ---- what doesn't count

none_ends : (site : SiteId) (o : Option Known) → holds_of (ends.ack_counts site) o ≡ false → Ack.Ignored ≡ or_else (map_some (ends.ack_end site) o) Ack.Ignored
none_ends site None off = refl
none_ends site (Some known) off = ap (λ b. cond b (cond (ends.is_missing (ends.acked site known)) Ack.Acked Ack.Forgets) Ack.Ignored) (sym off)

-- one that the table doesn't count is ignored
pub ack_ignored : (tables : Tables) (terms : Terms) (past : CoordPast) (site : SiteId) (tid : Tid) → IsServing tables terms past → holds_of (ends.ack_counts site) (known_of tid tables.known) ≡ false
    → answer_of terms past (Ev.Take site (From.Ack tid)) ≡ quiet (Ev.Take site (From.Ack tid)) Say.Ignored
ack_ignored tables terms past site tid s off = by_standing (standing terms.protocols past tid) refl where
  by_standing : (now : Standing) → standing terms.protocols past tid ≡ now → answer_of terms past (Ev.Take site (From.Ack tid)) ≡ quiet (Ev.Take site (From.Ack tid)) Say.Ignored
  by_standing Undecided e = ack_open terms past site tid e
  by_standing (Decided d) e = (ack_follows tables terms past site tid d Ack.Ignored s e (none_ends site (known_of tid tables.known) off)).answer
  by_standing Gone e = ack_gone terms past site tid e

-- one that counts is of an attempt that is decided
pub counted_undecided : (site : SiteId) (o : Option Known) → holds_of (ends.ack_counts site) o ≡ true → ends.said By.Nothing o ≡ Said_is.Undecided → ⊥
counted_undecided site None c e = cc
counted_undecided site (Some known) c e = by_decision known.decision c e where
  by_decision : (o : Option Decision) → holds_of (λ decision. some_of (ends.lacks_ack_of site decision known.initiated) known.members) o ≡ true → ends.said_of o ≡ Said_is.Undecided → ⊥
  by_decision None h i = cc
  by_decision (Some x) h i = cc

pub counted_presumed : (site : SiteId) (o : Option Known) (d : Decision) → holds_of (ends.ack_counts site) o ≡ true → ends.said By.Nothing o ≡ Said_is.Presumed d → ⊥
counted_presumed site None d c e = cc
counted_presumed site (Some known) d c e = by_decision known.decision e where
  by_decision : (o : Option Decision) → ends.said_of o ≡ Said_is.Presumed d → ⊥
  by_decision None i = cc
  by_decision (Some x) i = cc
