-- Sending again.
use Rattle.std.proofs.Common.{◌≡◌, ℕ, ◌==◌, Bool, true, false, cond, not, ◌&&◌, ◌||◌, Option, Some, None, List, [], ◌∷◌, length, map, refl, sym, ap, ap₂, subst, ◌∙◌, arith, eqb-true}
use Rattle.mdb_base.specs.declared.names.Tid.{Tid}
use Rattle.mdb_base.specs.Rising.{IsRising}
use Rattle.mdb_base.specs.Words.{map_some, or_else, some_of, those}
use Rattle.mdb_base.proofs.ForCallers.{and_false, and_true, those_rise}
use Rattle.presumptions.specs.declared.Decision.{Decision}
use Rattle.presumptions.specs.declared.Participant.{Participant}
use Rattle.presumptions.specs.declared.Protocol.{Protocol}
use Rattle.presumptions.specs.Table.{acks}
use Rattle.fed_rules.specs.declared.answers.Answer.{Answer}
use Rattle.fed_rules.specs.declared.answers.Answer.TheVariants as Say
use Rattle.fed_rules.specs.declared.events.CoordEvent.TheVariants as Ev
use Rattle.fed_rules.specs.declared.messages.Due.{Due}
use Rattle.fed_rules.specs.Happenings.{quiet}
use Rattle.fed_rules.specs.Coord.{again_while, all_outstanding, answered, decide_to, defers_all, defers_some, held_back, let_through, may_take, missing, of_again, sends_all, sends_dues}
use Rattle.fed_rules.specs.CoordRecords.{acking, named, required_of}
use Rattle.fed_rules.specs.CoordPast.{CoordHappening, CoordPast, Standing, Undecided, Decided, Gone, begins, did_in, has_acked, is_open, is_prepare_of, is_take_of, known_decision, records, standing, standing_of, vote_in}
use Rattle.coord_laws.proofs.ForCallers.{records_name}
use Rattle.global_exec.specs.Live.{Live, all_due, live_of}
use Rattle.global_exec.proofs.ForCallers.{all_due-outstanding, elsewhere_same, same_of_past}
use Rattle.protocol_table.specs.declared.ends.Said.TheVariants as Said_is
use Rattle.protocol_table.specs.declared.known.Known.{Known}
use Rattle.protocol_table.specs.Agreement.{IsDecidedAs, IsKnownAs, told}
use Rattle.protocol_table.specs.Attempts.{known_of, participant_of}
use Rattle.protocol_table.specs.Attempts as table
use Rattle.protocol_table.proofs.ForCallers.{acks_agree}
use Rattle.coord_tables.specs.declared.tables.Tables.{Tables}
use Rattle.coord_tables.specs.Attempts.{IsLiveAs}
use Rattle.coord_tables.specs.Sending.{IsSending, is_held, passed, says_sent}
use Rattle.coord_tables.specs.Tables.{IsServing}
use Rattle.coord_tables.specs.Terms.{Terms, IsSound, answer_of}
use Rattle.coord_tables.proofs.Calm.{calm_answer, calm_taking}
use Rattle.coord_tables.proofs.Initiations.{participants_rise}
use Rattle.coord_tables.proofs.Lines.{IsCalm}

-- how an attempt stands, by what an inquiry would be answered
pub stands_undecided : (p : Protocol) (s : Standing) → told p s ≡ Said_is.Undecided → s ≡ Undecided
stands_undecided p Undecided e = refl
stands_undecided p (Decided d) e = cc
stands_undecided p Gone e = cc

pub stands_decided : (p : Protocol) (d : Decision) (s : Standing) → told p s ≡ Said_is.Known d → s ≡ Decided d
stands_decided p d Undecided e = cc
stands_decided p d (Decided c) e = let same : c ≡ d = cc in ap (λ x. Decided x) same
stands_decided p d Gone e = cc

pub stands_gone : (p : Protocol) (d : Decision) (s : Standing) → told p s ≡ Said_is.Presumed d → s ≡ Gone
stands_gone p d Undecided e = cc
stands_gone p d (Decided c) e = cc
stands_gone p d Gone e = refl

-- the lines of `again`
pub again_gone : (terms : Terms) (past : CoordPast) (tid : Tid) → standing terms.protocols past tid ≡ Gone → answer_of terms past (Ev.Again tid) ≡ quiet (Ev.Again tid) Say.Idle
unfolding answered of_again again_while
again_gone terms past tid e = ap (λ (s : Standing). again_while terms.protocols terms.policy past tid s) e

pub again_decided : (terms : Terms) (past : CoordPast) (tid : Tid) (d : Decision) → standing terms.protocols past tid ≡ Decided d
    → answer_of terms past (Ev.Again tid) ≡ record { event = Ev.Again tid; answer = Say.Only; sends = decide_to tid d (missing terms.protocols past tid d); calls = []; lines = [] }
unfolding answered of_again again_while
again_decided terms past tid d e = ap (λ (s : Standing). again_while terms.protocols terms.policy past tid s) e

again_open : (terms : Terms) (past : CoordPast) (tid : Tid) → standing terms.protocols past tid ≡ Undecided
    → answer_of terms past (Ev.Again tid) ≡ sends_dues terms.protocols past (Ev.Again tid) tid
    (defers_all (held_back terms.protocols terms.policy past tid (all_outstanding terms.protocols past tid)) (let_through terms.protocols terms.policy past tid (all_outstanding terms.protocols past tid)))
    (let_through terms.protocols terms.policy past tid (all_outstanding terms.protocols past tid))
unfolding answered of_again again_while sends_all
again_open terms past tid e = ap (λ (s : Standing). again_while terms.protocols terms.policy past tid s) e

-- what is held back
defers_is : (test : Due → Bool) (dues : List Due) → defers_some (those test dues) ≡ says_sent false (some_of test dues)
defers_is test [] = refl
defers_is test (due ∷ dues) = by_test (test due) (defers_is test dues) where
  by_test : (b : Bool) → defers_some (those test dues) ≡ says_sent false (some_of test dues) → defers_some (cond b (due ∷ those test dues) (those test dues)) ≡ says_sent false (b || some_of test dues)
  by_test true rest = refl
  by_test false rest = rest

pub news_says : (may : Bool) (dues : List Due) → defers_some (those (is_held may) dues) ≡ says_sent false (some_of (is_held may) dues)
news_says may dues = defers_is (is_held may) dues

some_length : {A : Type 0} (x : A) (xs : List A) → (length (x ∷ xs) == 0) ≡ false
some_length x xs = by_test (length (x ∷ xs) == 0) refl where
  by_test : (b : Bool) → (length (x ∷ xs) == 0) ≡ b → b ≡ false
  by_test true e = let zeroed : length (x ∷ xs) ≡ 0 = eqb-true (length (x ∷ xs)) 0 e in absurd (omega arith)
  by_test false e = refl

all_says : (may : Bool) (dues : List Due) → says_sent false (some_of (is_held may) dues && (length (passed may dues) == 0)) ≡ defers_all (those (is_held may) dues) (passed may dues)
all_says may dues = by_list (passed may dues) where
  by_list : (ps : List Due) → says_sent false (some_of (is_held may) dues && (length ps == 0)) ≡ defers_all (those (is_held may) dues) ps
  by_list [] = ap (λ b. says_sent false b) (and_true (some_of (is_held may) dues)) ∙ sym (defers_is (is_held may) dues)
  by_list (p ∷ ps) = ap (λ b. says_sent false (some_of (is_held may) dues && b)) (some_length p ps) ∙ ap (λ b. says_sent false b) (and_false (some_of (is_held may) dues))

-- all that is outstanding, by the table
pub outstanding_is : (tables : Tables) (terms : Terms) (past : CoordPast) (tid : Tid) → IsServing tables terms past → is_open past tid ≡ true → or_else (map_some all_due (live_of tid tables.exec)) [] ≡ all_outstanding terms.protocols past tid
outstanding_is tables terms past tid s u = by_live (live_of tid tables.exec) (subst (λ b. IsLiveAs terms.protocols past tid b (live_of tid tables.exec)) u (s.live tid)) where
  by_live : (o : Option Live) → IsLiveAs terms.protocols past tid true o → or_else (map_some all_due o) [] ≡ all_outstanding terms.protocols past tid
  by_live None l = absurd l
  by_live (Some live) l = all_due-outstanding terms.protocols past tid live l

-- `again` sends all that is outstanding
pub again_sending : (tables : Tables) (terms : Terms) (past : CoordPast) (tid : Tid) (may : Bool) (dues : List Due) → IsServing tables terms past → is_open past tid ≡ true
    → may ≡ may_take terms.protocols terms.policy past tid → dues ≡ all_outstanding terms.protocols past tid
    → IsSending terms past (Ev.Again tid) tid None (some_of (is_held may) dues && (length (passed may dues) == 0)) (passed may dues) tables.exec tables.exec
again_sending tables terms past tid may dues s u m d = record {
  usual = tt;
  numbered = tt;
  undecided = u;
  line =
      again_open terms past tid (ap (λ b. standing_of b (known_decision terms.protocols past tid)) u)
      ∙ ap₂ (λ (f : Bool) (ds : List Due). sends_dues terms.protocols past (Ev.Again tid) tid (defers_all (those (is_held f) ds) (passed f ds)) (passed f ds)) (sym m) (sym d)
      ∙ ap (λ (a : Answer). sends_dues terms.protocols past (Ev.Again tid) tid a (passed may dues)) (sym (all_says may dues));
  about = λ t. refl;
  did = refl;
  no_vote = λ t site. refl;
  own = λ x heard old counted. by_live x heard old (live_of tid tables.exec) (subst (λ b. IsLiveAs terms.protocols past tid b (live_of tid tables.exec)) u (s.live tid));
  others = λ t e. refl;
} where
  by_live : (x : CoordHappening) → x.event ≡ Ev.Again tid → begins tid x.answer ≡ false → (o : Option Live) → IsLiveAs terms.protocols past tid true o → IsLiveAs terms.protocols (x ∷ past) tid true o
  by_live x heard old None l = absurd l
  by_live x heard old (Some live) l = same_of_past terms.protocols (x ∷ past) past tid live (elsewhere_same past tid x old (ap (did_in tid) heard) (λ site. ap (vote_in tid site) heard)) l

-- those who are told again
pub decided_some : (tables : Tables) (terms : Terms) (past : CoordPast) (tid : Tid) (d : Decision) (known : Known) → IsServing tables terms past → standing terms.protocols past tid ≡ Decided d → known_of tid tables.known ≡ Some known → IsDecidedAs terms.protocols past tid d known
decided_some tables terms past tid d known s st e =
    subst (λ (o : Option Known). IsKnownAs terms.protocols past tid (Decided d) o) e (subst (λ (x : Standing). IsKnownAs terms.protocols past tid x (known_of tid tables.known)) st (s.known tid))

pub decided_none : (tables : Tables) (terms : Terms) (past : CoordPast) (tid : Tid) (d : Decision) → IsServing tables terms past → standing terms.protocols past tid ≡ Decided d → known_of tid tables.known ≡ None → ⊥
decided_none tables terms past tid d s st e =
    subst (λ (o : Option Known). IsKnownAs terms.protocols past tid (Decided d) o) e (subst (λ (x : Standing). IsKnownAs terms.protocols past tid x (known_of tid tables.known)) st (s.known tid))

pub missing_is : (terms : Terms) (past : CoordPast) (tid : Tid) (d : Decision) (known : Known) → IsDecidedAs terms.protocols past tid d known → map participant_of (table.missing d known) ≡ missing terms.protocols past tid d
missing_is terms past tid d known k = (acks_agree terms.protocols past tid d known k).missing

named_rise : (terms : Terms) (past : CoordPast) (tid : Tid) → IsSound terms past → (d : Decision) (o : Option (List Participant)) → named terms.protocols (records past) tid ≡ o
    → IsRising (λ p. p.site.0) (those (λ member. not (has_acked past tid member.site)) (required_of d o))
named_rise terms past tid sound d None e = tt
named_rise terms past tid sound d (Some ms) e =
    those_rise (λ (p : Participant). p.site.0) (λ member. not (has_acked past tid member.site)) (acking d ms)
    (those_rise (λ (p : Participant). p.site.0) (λ (p : Participant). acks p.protocol d) ms
    (subst (λ (ps : List Participant). IsRising (λ p. p.site.0) ps) (sym (records_name terms.protocols terms.policy past sound.made tid ms e)) (participants_rise terms past tid sound)))

pub missing_rise : (terms : Terms) (past : CoordPast) (tid : Tid) (d : Decision) (known : Known) → IsSound terms past → IsDecidedAs terms.protocols past tid d known → IsRising (λ p. p.site.0) (map participant_of (table.missing d known))
missing_rise terms past tid d known sound k =
    subst (λ (ps : List Participant). IsRising (λ p. p.site.0) ps) (sym (missing_is terms past tid d known k)) (named_rise terms past tid sound d (named terms.protocols (records past) tid) refl)

decide_takes : (t tid : Tid) (d : Decision) (ps : List Participant) → some_of (is_take_of t) (decide_to tid d ps) ≡ false
decide_takes t tid d [] = refl
decide_takes t tid d (p ∷ ps) = decide_takes t tid d ps

decide_prepares : (t tid : Tid) (d : Decision) (ps : List Participant) → some_of (is_prepare_of t) (decide_to tid d ps) ≡ false
decide_prepares t tid d [] = refl
decide_prepares t tid d (p ∷ ps) = decide_prepares t tid d ps

pub takes_none : (t tid : Tid) (d : Decision) (ps : List Participant) → some_of (is_take_of t) (decide_to tid d ps) ≡ false
takes_none = decide_takes

pub prepares_none : (t tid : Tid) (d : Decision) (ps : List Participant) → some_of (is_prepare_of t) (decide_to tid d ps) ≡ false
prepares_none = decide_prepares

pub tells_calm : (terms : Terms) (past : CoordPast) (tid : Tid) (d : Decision) → IsCalm (record { event = Ev.Again tid; answer = Say.Only; sends = decide_to tid d (missing terms.protocols past tid d); calls = []; lines = [] })
tells_calm terms past tid d =
    calm_taking (record { event = Ev.Again tid; answer = Say.Only; sends = decide_to tid d (missing terms.protocols past tid d); calls = []; lines = [] }) (calm_answer Say.Only tt) tt refl
    (λ t. decide_takes t tid d (missing terms.protocols past tid d)) (λ t. decide_prepares t tid d (missing terms.protocols past tid d))

-- so it is with what was computed of them
pub again_sends : (tables : Tables) (terms : Terms) (past : CoordPast) (tid : Tid) (may held : Bool) (dues through : List Due) (n : ℕ) → IsServing tables terms past → is_open past tid ≡ true
    → may ≡ may_take terms.protocols terms.policy past tid → dues ≡ or_else (map_some all_due (live_of tid tables.exec)) [] → through ≡ passed may dues → held ≡ some_of (is_held may) dues → n ≡ length through
    → IsSending terms past (Ev.Again tid) tid None (held && (n == 0)) through tables.exec tables.exec
again_sends tables terms past tid may held dues through n s u m d t h l =
    let S : Bool → List Due → Type 0 = λ b ds. IsSending terms past (Ev.Again tid) tid None b ds tables.exec tables.exec in
    let none : n ≡ length (passed may dues) = l ∙ ap (λ (ds : List Due). length ds) t in
    subst (λ b. S b through) (ap₂ (λ (b : Bool) (k : ℕ). b && (k == 0)) (sym h) (sym none))
    (subst (λ (ds : List Due). S (some_of (is_held may) dues && (length (passed may dues) == 0)) ds) (sym t)
    (again_sending tables terms past tid may dues s u m (d ∙ outstanding_is tables terms past tid s u)))
