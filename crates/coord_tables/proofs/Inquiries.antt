-- What the coordinator answers without a change.
use Rattle.std.proofs.Common.{◌≡◌, ◌==◌, ◌&&◌, Bool, true, false, cond, Option, Some, None, List, [], ◌∷◌, map, refl, sym, ap, ◌∙◌}
use Rattle.std.specs.Prelude.{reverse}
use Rattle.std.proofs.lemmas.List.{reverse-reverse}
use Rattle.mdb_base.specs.declared.names.SiteId.{SiteId}
use Rattle.mdb_base.specs.declared.names.Tid.{Tid}
use Rattle.mdb_base.specs.declared.names.Tx.{Tx}
use Rattle.mdb_base.specs.Names.{same_tx}
use Rattle.mdb_base.specs.Words.{first_where, given, those}
use Rattle.presumptions.specs.declared.Decision.{Decision}
use Rattle.presumptions.specs.declared.Participant.{Participant}
use Rattle.presumptions.specs.declared.Protocol.{Protocol}
use Rattle.presumptions.specs.Table.{presumed}
use Rattle.fed_rules.specs.declared.answers.Answer.TheVariants as Say
use Rattle.fed_rules.specs.declared.events.CoordEvent.TheVariants as Ev
use Rattle.fed_rules.specs.declared.messages.FromSite.TheVariants as From
use Rattle.fed_rules.specs.Happenings.{quiet}
use Rattle.fed_rules.specs.Coord.{asked_while, of_fate, of_inquiry, protocol_of, tells}
use Rattle.fed_rules.specs.CoordPast.{CoordHappening, CoordPast, Standing, Undecided, Decided, Gone, attempts_of, begun_tids, is_open, records, standing, undecided_of}
use Rattle.fed_rules.specs.CoordRecords.{committed_of}
use Rattle.protocol_table.specs.declared.ends.Said.TheVariants as Said_is
use Rattle.protocol_table.specs.Agreement.{told}
use Rattle.protocol_table.specs.Attempts.{known_of}
use Rattle.protocol_table.specs.Ends.{said}
use Rattle.protocol_table.proofs.ForCallers.{answers_agree}
use Rattle.coord_tables.specs.declared.tables.Tables.{Tables}
use Rattle.coord_tables.specs.declared.stages.Stage.{Stage}
use Rattle.coord_tables.specs.Attempts.{last_of, open_tids}
use Rattle.coord_tables.specs.Tables.{IsServing}
use Rattle.coord_tables.specs.Terms.{Terms}
use Rattle.coord_tables.proofs.Calm.{calm_answer, calm_taking, quiet_calm}
use Rattle.coord_tables.proofs.Lines.{IsCalm}

-- the first of those that pass two tests
first_those : {A : Type 0} (one other : A → Bool) (xs : List A) → first_where one (those other xs) ≡ first_where (λ x. one x && other x) xs
first_those one other [] = refl
first_those one other (x ∷ xs) = by_test (other x) (first_those one other xs) where
  and_true : (b : Bool) → (b && true) ≡ b
  and_true true = refl
  and_true false = refl

  and_false : (b : Bool) → (b && false) ≡ false
  and_false true = refl
  and_false false = refl

  by_test : (b : Bool) → first_where one (those other xs) ≡ first_where (λ y. one y && other y) xs
      → first_where one (cond b (x ∷ those other xs) (those other xs)) ≡ cond (one x && b) (Some x) (first_where (λ y. one y && other y) xs)
  by_test true rest =
      ap (λ o. cond (one x) (Some x) o) rest
      ∙ ap (λ c. cond c (Some x) (first_where (λ y. one y && other y) xs)) (sym (and_true (one x)))
  by_test false rest = rest ∙ ap (λ c. cond c (Some x) (first_where (λ y. one y && other y) xs)) (sym (and_false (one x)))

-- the running attempt of a transaction
pub running_is : (tables : Tables) (terms : Terms) (past : CoordPast) (tx : Tx) → IsServing tables terms past → last_of tx (map (λ (stage : Stage). stage.tid) tables.stages.listed) ≡ undecided_of past tx
running_is tables terms past tx s =
    ap (λ (ts : List Tid). first_where (λ tid. same_tx tid.tx tx) (reverse ts)) s.stages.order
    ∙ ap (first_where (λ (tid : Tid). same_tx tid.tx tx)) (reverse-reverse (open_tids past))
    ∙ first_those (λ tid. same_tx tid.tx tx) (is_open past) (begun_tids past)

-- how a transaction ended
pub fate_committed : (past : CoordPast) (tx : Tx) (t : Tid) → committed_of (records past) tx ≡ Some t → of_fate past tx ≡ quiet (Ev.Fate tx) (Say.Committed t)
unfolding of_fate given
fate_committed past tx t e = ap (λ o. given o (λ committed. quiet (Ev.Fate tx) (Say.Committed committed)) (given (undecided_of past tx) (λ running. quiet (Ev.Fate tx) (Say.Running running)) (quiet (Ev.Fate tx) (cond (attempts_of past tx == 0) Say.Unbegun Say.Ended)))) e

fate_open : (past : CoordPast) (tx : Tx) (o : Option Tid) → committed_of (records past) tx ≡ None → undecided_of past tx ≡ o
    → of_fate past tx ≡ given o (λ running. quiet (Ev.Fate tx) (Say.Running running)) (quiet (Ev.Fate tx) (cond (attempts_of past tx == 0) Say.Unbegun Say.Ended))
unfolding of_fate given
fate_open past tx o e u =
    ap (λ c. given c (λ committed. quiet (Ev.Fate tx) (Say.Committed committed)) (given (undecided_of past tx) (λ running. quiet (Ev.Fate tx) (Say.Running running)) (quiet (Ev.Fate tx) (cond (attempts_of past tx == 0) Say.Unbegun Say.Ended)))) e
    ∙ ap (λ u. given u (λ running. quiet (Ev.Fate tx) (Say.Running running)) (quiet (Ev.Fate tx) (cond (attempts_of past tx == 0) Say.Unbegun Say.Ended))) u

pub fate_running : (past : CoordPast) (tx : Tx) (t : Tid) → committed_of (records past) tx ≡ None → undecided_of past tx ≡ Some t → of_fate past tx ≡ quiet (Ev.Fate tx) (Say.Running t)
unfolding given
fate_running past tx t e u = fate_open past tx (Some t) e u

pub fate_ended : (past : CoordPast) (tx : Tx) → committed_of (records past) tx ≡ None → undecided_of past tx ≡ None → of_fate past tx ≡ quiet (Ev.Fate tx) (cond (attempts_of past tx == 0) Say.Unbegun Say.Ended)
unfolding given
fate_ended past tx e u = fate_open past tx None e u

abbrev fate_by : Tx → Option Tid → Option Tid → Bool → CoordHappening
fate_by tx c o b = given c (λ committed. quiet (Ev.Fate tx) (Say.Committed committed)) (given o (λ running. quiet (Ev.Fate tx) (Say.Running running)) (quiet (Ev.Fate tx) (cond b Say.Unbegun Say.Ended)))

-- and nothing changes by it
pub fate_calm : (past : CoordPast) (tx : Tx) → IsCalm (of_fate past tx) × ((of_fate past tx).event ≡ Ev.Fate tx)
unfolding of_fate given
fate_calm past tx = by_ways (committed_of (records past) tx) (undecided_of past tx) (attempts_of past tx == 0) where
  by_ways : (c o : Option Tid) (b : Bool) → IsCalm (fate_by tx c o b) × ((fate_by tx c o b).event ≡ Ev.Fate tx)
  by_ways (Some t) o b = (quiet_calm (Ev.Fate tx) (Say.Committed t) tt tt, refl)
  by_ways None (Some t) b = (quiet_calm (Ev.Fate tx) (Say.Running t) tt tt, refl)
  by_ways None None true = (quiet_calm (Ev.Fate tx) Say.Unbegun tt tt, refl)
  by_ways None None false = (quiet_calm (Ev.Fate tx) Say.Ended tt tt, refl)

-- an inquiry by what is said of the attempt
pub asked_undecided : (protocols : List Participant) (site : SiteId) (tid : Tid) (p : Protocol) (s : Standing) → told p s ≡ Said_is.Undecided → asked_while protocols site tid s ≡ quiet (Ev.Take site (From.Inquiry tid)) Say.Undecided
unfolding asked_while
asked_undecided protocols site tid p Undecided e = refl
asked_undecided protocols site tid p (Decided d) e = cc
asked_undecided protocols site tid p Gone e = cc

pub asked_known : (protocols : List Participant) (site : SiteId) (tid : Tid) (p : Protocol) (d : Decision) (s : Standing) → told p s ≡ Said_is.Known d → asked_while protocols site tid s ≡ tells site tid (Say.Answers d) d
unfolding asked_while
asked_known protocols site tid p d Undecided e = cc
asked_known protocols site tid p d (Decided c) e = let same : c ≡ d = cc in ap (λ x. tells site tid (Say.Answers x) x) same
asked_known protocols site tid p d Gone e = cc

pub asked_presumed : (protocols : List Participant) (site : SiteId) (tid : Tid) (d : Decision) (s : Standing) → told (protocol_of protocols site) s ≡ Said_is.Presumed d → asked_while protocols site tid s ≡ tells site tid (Say.Presumes d) d
unfolding asked_while
asked_presumed protocols site tid d Undecided e = cc
asked_presumed protocols site tid d (Decided c) e = cc
asked_presumed protocols site tid d Gone e = let same : presumed (protocol_of protocols site) ≡ d = cc in ap (λ x. tells site tid (Say.Presumes x) x) same

asked_calm : (protocols : List Participant) (site : SiteId) (tid : Tid) (s : Standing) → IsCalm (asked_while protocols site tid s) × ((asked_while protocols site tid s).event ≡ Ev.Take site (From.Inquiry tid))
unfolding asked_while
asked_calm protocols site tid Undecided = (quiet_calm (Ev.Take site (From.Inquiry tid)) Say.Undecided tt tt, refl)
asked_calm protocols site tid (Decided d) = (calm_taking (tells site tid (Say.Answers d) d) (calm_answer (Say.Answers d) tt) tt refl (λ t. refl) (λ t. refl), refl)
asked_calm protocols site tid Gone =
    (calm_taking (tells site tid (Say.Presumes (presumed (protocol_of protocols site))) (presumed (protocol_of protocols site))) (calm_answer (Say.Presumes (presumed (protocol_of protocols site))) tt) tt refl (λ t. refl) (λ t. refl), refl)

pub inquiry_calm : (protocols : List Participant) (past : CoordPast) (site : SiteId) (tid : Tid) → IsCalm (of_inquiry protocols past site tid) × ((of_inquiry protocols past site tid).event ≡ Ev.Take site (From.Inquiry tid))
unfolding of_inquiry
inquiry_calm protocols past site tid = asked_calm protocols site tid (standing protocols past tid)

pub inquiry_is : (protocols : List Participant) (past : CoordPast) (site : SiteId) (tid : Tid) → of_inquiry protocols past site tid ≡ asked_while protocols site tid (standing protocols past tid)
unfolding of_inquiry
inquiry_is protocols past site tid = refl

-- what the table says of an attempt is what the past says
pub said_told : (tables : Tables) (terms : Terms) (past : CoordPast) (tid : Tid) (p : Protocol) → IsServing tables terms past → told p (standing terms.protocols past tid) ≡ said p (known_of tid tables.known)
said_told tables terms past tid p s = sym (answers_agree terms.protocols past tid (standing terms.protocols past tid) (known_of tid tables.known) p (s.known tid))
