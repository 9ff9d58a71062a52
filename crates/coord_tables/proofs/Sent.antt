-- A line that sends what is outstanding for an attempt.
use Rattle.std.proofs.Common.{◌≡◌, Bool, true, false, cond, ◌&&◌, ◌||◌, is_some, option_to_list, Option, Some, None, List, [], ◌∷◌, map, refl, sym, ap, ap₂, subst, ◌∙◌}
use Rattle.std.proofs.lemmas.Bool.{cond-true, cond-false}
use Rattle.mdb_base.specs.declared.names.SiteId.{SiteId}
use Rattle.mdb_base.specs.declared.names.Tid.{Tid}
use Rattle.mdb_base.specs.declared.names.Tx.{Tx}
use Rattle.mdb_base.specs.Names.{same_tid}
use Rattle.mdb_base.specs.Words.{map_some, some_of, when, with_some}
use Rattle.mdb_base.proofs.ForCallers.{same_tid-refl}
use Rattle.presumptions.specs.declared.Participant.{Participant}
use Rattle.fed_rules.specs.declared.answers.Answer.{Answer}
use Rattle.fed_rules.specs.declared.answers.Answer.TheVariants as Say
use Rattle.fed_rules.specs.declared.events.CoordEvent.{CoordEvent}
use Rattle.fed_rules.specs.declared.events.CoordEvent.TheVariants as Ev
use Rattle.fed_rules.specs.declared.messages.Due.{Due}
use Rattle.fed_rules.specs.declared.messages.Due.TheVariants as Due_is
use Rattle.fed_rules.specs.declared.records.CoordRecord.{CoordRecord}
use Rattle.fed_rules.specs.declared.records.CoordRecord.TheVariants as Rec
use Rattle.fed_rules.specs.Happenings.{comes_up, stops}
use Rattle.fed_rules.specs.Coord.{forced, is_prepare, is_take, lacks_initiation, send_due, sends_dues}
use Rattle.fed_rules.specs.CoordRecords.{committed_of, commits, named}
use Rattle.fed_rules.specs.CoordPast.{CoordHappening, CoordPast, Standing, Undecided, begins, counted, counts, is_about, is_open, is_prepare_of, is_take_of, known_decision, opened, participants, participants_of, program, records, standing, standing_of, vote_at, vote_in}
use Rattle.fed_rules.specs.CoordPast as Past
use Rattle.fed_rules.specs.Right.{MayPrint}
use Rattle.global_exec.specs.Live.{Live, live_of}
use Rattle.protocol_table.specs.declared.known.Known.{Known}
use Rattle.protocol_table.specs.Agreement.{IsKnownAs, IsUndecidedAs}
use Rattle.protocol_table.specs.Attempts.{changed, known_of}
use Rattle.protocol_table.specs.Ends.{initiate}
use Rattle.protocol_table.proofs.ForCallers.{records_go, undecided_stay}
use Rattle.ticket_graph.specs.Graph.{AreHeld, StandsFor}
use Rattle.coord_tables.specs.declared.stages.Stage.{Stage}
use Rattle.coord_tables.specs.declared.tables.Tables.{Tables}
use Rattle.coord_tables.specs.Attempts.{IsLiveAs}
use Rattle.coord_tables.specs.Trees.{committed_in, noted}
use Rattle.coord_tables.specs.declared.replies.Taken.{Taken}
use Rattle.coord_tables.specs.Sending.{IsSending, initiation_of, reply_in, says_sent, stages_taken}
use Rattle.coord_tables.specs.Stages.{AreStagesOf, after_sending}
use Rattle.coord_tables.specs.Tables.{IsServing}
use Rattle.coord_tables.specs.Terms.{Terms}
use Rattle.coord_tables.proofs.Calm.{IsCalmAnswer, calm_answer}
use Rattle.coord_tables.proofs.Initiations.{known_open}
use Rattle.coord_tables.proofs.Lines.{IsAsBefore, elsewhere}
use Rattle.coord_tables.proofs.Own.{serving_own, stages_sent}
use Rattle.coord_tables.specs.Waiting.{waiting}
use Rattle.coord_tables.proofs.Waiting.{held_still}
use Rattle.coord_tables.proofs.Tabled.{known_changed, other_changed}

-- the line, by whether it forces the Initiation
abbrev pub sent_line : List Participant → CoordPast → CoordEvent → Tid → Bool → List Due → Bool → CoordHappening
sent_line protocols past event tid defers dues initiates = record {
  event = event;
  answer = says_sent initiates defers;
  sends = map (send_due tid) dues;
  calls = forced (option_to_list (cond initiates (Some (Rec.Initiation tid (participants protocols past tid))) None));
  lines = [];
}

pub sent_is : (protocols : List Participant) (past : CoordPast) (event : CoordEvent) (tid : Tid) (defers : Bool) (dues : List Due)
    → sends_dues protocols past event tid (says_sent false defers) dues ≡ sent_line protocols past event tid defers dues (some_of is_prepare dues && lacks_initiation protocols past tid)
unfolding sends_dues when
sent_is protocols past event tid defers dues = by_test (some_of is_prepare dues && lacks_initiation protocols past tid) where
  by_test : (b : Bool) → when b (sent_line protocols past event tid defers dues true) (sent_line protocols past event tid defers dues false) ≡ sent_line protocols past event tid defers dues b
  by_test true = refl
  by_test false = refl

pub says_calm : (initiates defers : Bool) → IsCalmAnswer (says_sent initiates defers)
says_calm true defers = calm_answer Say.Initiates tt
says_calm false true = calm_answer Say.Defers tt
says_calm false false = calm_answer Say.Only tt

pub says_counts : (initiates defers : Bool) → counts (says_sent initiates defers) ≡ true
says_counts true defers = refl
says_counts false true = refl
says_counts false false = refl

-- what is sent of the attempt, and of others
pub takes_own : (tid : Tid) (dues : List Due) → some_of (is_take_of tid) (map (send_due tid) dues) ≡ some_of is_take dues
takes_own tid [] = refl
takes_own tid (due ∷ dues) = ap₂ (λ a b. a || b) (one due) (takes_own tid dues) where
  one : (d : Due) → is_take_of tid (send_due tid d) ≡ is_take d
  one (Due_is.Work site epoch n act) = refl
  one (Due_is.Take site epoch n) = same_tid-refl tid
  one (Due_is.Prepare site epoch n) = refl

pub prepares_own : (tid : Tid) (dues : List Due) → some_of (is_prepare_of tid) (map (send_due tid) dues) ≡ some_of is_prepare dues
prepares_own tid [] = refl
prepares_own tid (due ∷ dues) = ap₂ (λ a b. a || b) (one due) (prepares_own tid dues) where
  one : (d : Due) → is_prepare_of tid (send_due tid d) ≡ is_prepare d
  one (Due_is.Work site epoch n act) = refl
  one (Due_is.Take site epoch n) = refl
  one (Due_is.Prepare site epoch n) = same_tid-refl tid

pub takes_other : (tid t : Tid) (dues : List Due) → same_tid tid t ≡ false → some_of (is_take_of t) (map (send_due tid) dues) ≡ false
takes_other tid t [] e = refl
takes_other tid t (due ∷ dues) e = ap₂ (λ a b. a || b) (one due) (takes_other tid t dues e) where
  one : (d : Due) → is_take_of t (send_due tid d) ≡ false
  one (Due_is.Work site epoch n act) = refl
  one (Due_is.Take site epoch n) = e
  one (Due_is.Prepare site epoch n) = refl

pub prepares_other : (tid t : Tid) (dues : List Due) → same_tid tid t ≡ false → some_of (is_prepare_of t) (map (send_due tid) dues) ≡ false
prepares_other tid t [] e = refl
prepares_other tid t (due ∷ dues) e = ap₂ (λ a b. a || b) (one due) (prepares_other tid t dues e) where
  one : (d : Due) → is_prepare_of t (send_due tid d) ≡ false
  one (Due_is.Work site epoch n act) = refl
  one (Due_is.Take site epoch n) = refl
  one (Due_is.Prepare site epoch n) = e

-- what the answer to an event is printed as, where it is no refusal by a cycle
pub prints_calm : (protocols : List Participant) (past : CoordPast) (x : CoordHappening) (event : CoordEvent) (answer : Answer) → IsCalmAnswer x.answer → answer ≡ x.answer → MayPrint protocols past x event answer
prints_calm protocols past x event answer c e = subst (λ (a : Answer). MayPrint protocols past x event a) (sym e) (by_event event) where
  by_event : (ev : CoordEvent) → MayPrint protocols past x ev x.answer
  by_event (Ev.Take site message) = c.prints protocols past x (Past.message_tid message)
  by_event (Ev.Go tid steps) = refl
  by_event (Ev.Again tid) = refl
  by_event (Ev.Late tid) = refl
  by_event (Ev.Fate tx) = refl
  by_event (Ev.Halt cut) = refl
  by_event (Ev.Trip calls cut) = refl
  by_event Ev.Back = refl
  by_event Ev.Check = refl

-- what an Initiation changes of the records
abbrev with_initiation : Bool → Tid → List Participant → List CoordRecord → List CoordRecord
with_initiation b tid ps rs = cond b (Rec.Initiation tid ps ∷ rs) rs

module _ (terms : Terms) (past : CoordPast) (event : CoordEvent) (tid : Tid) (taken : Option Taken) (defers : Bool) (dues : List Due) (exec exec_now : List Live) (i : IsSending terms past event tid taken defers dues exec exec_now) (b : Bool) where
  abbrev x : CoordHappening
  x = sent_line terms.protocols past event tid defers dues b

  c : IsCalmAnswer x.answer
  c = says_calm b defers

  goes : (stops x.answer || comes_up x.answer) ≡ false
  goes = ap₂ (λ u v. u || v) c.runs c.stays

  records_are : records (x ∷ past) ≡ with_initiation b tid (participants terms.protocols past tid) (records past)
  records_are = by_test b where
    by_test : (f : Bool) → records (sent_line terms.protocols past event tid defers dues f ∷ past) ≡ with_initiation f tid (participants terms.protocols past tid) (records past)
    by_test true = refl
    by_test false = refl

  named_other : (t : Tid) → same_tid tid t ≡ false → named terms.protocols (records (x ∷ past)) t ≡ named terms.protocols (records past) t
  named_other t e = ap (λ rs. named terms.protocols rs t) records_are ∙ by_test b where
    by_test : (f : Bool) → named terms.protocols (with_initiation f tid (participants terms.protocols past tid) (records past)) t ≡ named terms.protocols (records past) t
    by_test true = cond-false _ _ _ e
    by_test false = refl

  others : (t : Tid) → same_tid tid t ≡ false → IsAsBefore terms.protocols past x t
  others t e = elsewhere terms.protocols past x t (record {
    goes = goes;
    about = i.about t ∙ e;
    begins = c.begins t;
    named = named_other t e;
    takes = takes_other tid t dues e;
    prepares = prepares_other tid t dues e;
  })

  still_open : (t : Tid) → is_open (x ∷ past) t ≡ is_open past t
  still_open t = cond-false _ _ _ goes ∙ by_test (is_about t event) where
    by_test : (f : Bool) → cond f (opened x.answer (is_open past t)) (is_open past t) ≡ is_open past t
    by_test true = c.opened (is_open past t)
    by_test false = refl

  now_open : is_open (x ∷ past) tid ≡ true
  now_open = still_open tid ∙ i.undecided

  counted_is : counted (x ∷ past) tid ≡ with_some (reply_in taken) (counted past tid)
  counted_is = cond-false _ _ _ (c.begins tid) ∙ cond-true _ _ _ (says_counts b defers) ∙ ap (λ o. with_some o (counted past tid)) i.did

  program_is : program (x ∷ past) tid ≡ program past tid
  program_is = cond-false _ _ _ (c.begins tid)

  votes_are : (site : SiteId) → vote_at (x ∷ past) tid site ≡ vote_at past tid site
  votes_are site = cond-false _ _ _ (c.begins tid) ∙ by_test (counts x.answer) where
    by_test : (f : Bool) → cond f (Past.or_vote (vote_in tid site event) (vote_at past tid site)) (vote_at past tid site) ≡ vote_at past tid site
    by_test true = ap (λ o. Past.or_vote o (vote_at past tid site)) (i.no_vote tid site)
    by_test false = refl

  known_by : (f : Bool) → f ≡ b → (known : Known) → IsUndecidedAs terms.protocols past tid known → IsUndecidedAs terms.protocols (x ∷ past) tid (cond f (initiate known) known)
  known_by true e known k =
      records_go terms.protocols past tid known k x (record { participants = λ protocols. ap (participants_of protocols) program_is; votes = votes_are })
      (ap (λ rs. named terms.protocols rs tid) records_are ∙ ap (λ f. named terms.protocols (with_initiation f tid (participants terms.protocols past tid) (records past)) tid) (sym e) ∙ cond-true _ _ _ (same_tid-refl tid))
  known_by false e known k =
      undecided_stay terms.protocols past tid known k x (record { participants = λ protocols. ap (participants_of protocols) program_is; votes = votes_are })
      (ap (λ rs. named terms.protocols rs tid) records_are ∙ ap (λ f. named terms.protocols (with_initiation f tid (participants terms.protocols past tid) (records past)) tid) (sym e))

  known_own : (table : List Known) → IsKnownAs terms.protocols past tid Undecided (known_of tid table) → (f : Bool) → f ≡ b
      → IsKnownAs terms.protocols (x ∷ past) tid Undecided (known_of tid (cond f (changed tid initiate table) table))
  known_own table k f e = by_known (known_of tid table) refl k where
    changed_is : (g : Bool) (o : Option Known) → known_of tid table ≡ o → known_of tid (cond g (changed tid initiate table) table) ≡ map_some (λ known. cond g (initiate known) known) o
    changed_is true o is = known_changed tid initiate (λ q. refl) table ∙ ap (map_some initiate) is
    changed_is false None is = is
    changed_is false (Some known) is = is

    by_known : (o : Option Known) → known_of tid table ≡ o → IsKnownAs terms.protocols past tid Undecided o → IsKnownAs terms.protocols (x ∷ past) tid Undecided (known_of tid (cond f (changed tid initiate table) table))
    by_known None is h = absurd h
    by_known (Some known) is h =
        subst (λ (o : Option Known). IsKnownAs terms.protocols (x ∷ past) tid Undecided o) (sym (changed_is f (Some known) is)) (known_by f e known h)

  known_others : (table : List Known) (f : Bool) (t : Tid) → same_tid tid t ≡ false → known_of t (cond f (changed tid initiate table) table) ≡ known_of t table
  known_others table true t e = other_changed tid t initiate e (λ q. refl) table
  known_others table false t e = refl

  committed_is : (tx : Tx) → committed_of (records (x ∷ past)) tx ≡ committed_of (records past) tx
  committed_is tx = ap (λ rs. committed_of rs tx) records_are ∙ by_test b where
    by_test : (f : Bool) → committed_of (with_initiation f tid (participants terms.protocols past tid) (records past)) tx ≡ committed_of (records past) tx
    by_test true = refl
    by_test false = refl

  commits_are : commits (records (x ∷ past)) ≡ commits (records past)
  commits_are = ap commits records_are ∙ by_test b where
    by_test : (f : Bool) → commits (with_initiation f tid (participants terms.protocols past tid) (records past)) ≡ commits (records past)
    by_test true = refl
    by_test false = refl

  -- the tables follow
  pub sent_serving : (tables now : Tables) → tables.exec ≡ exec → now.known ≡ cond b (changed tid initiate tables.known) tables.known → now.exec ≡ exec_now
      → now.stages.listed ≡ map (after_sending tid (some_of is_take dues) (some_of is_prepare dues)) (stages_taken tid taken tables.stages.listed) → now.committed ≡ tables.committed → now.graph ≡ tables.graph
      → IsServing tables terms past → IsServing now terms (x ∷ past)
  sent_serving tables now was known exec_is stages committed graph s =
      let undecided : standing terms.protocols (x ∷ past) tid ≡ Undecided = ap (λ o. standing_of o (known_decision terms.protocols (x ∷ past) tid)) now_open in
      serving_own tables now terms past x tid (record {
        others = others;
        known_others = λ t e. ap (known_of t) known ∙ known_others tables.known b t e;
        live_others = λ t e. ap (live_of t) exec_is ∙ i.others t e ∙ ap (live_of t) (sym was);
        known_own = subst (λ (st : Standing). IsKnownAs terms.protocols (x ∷ past) tid st (known_of tid now.known)) (sym undecided)
            (subst (λ (ks : List Known). IsKnownAs terms.protocols (x ∷ past) tid Undecided (known_of tid ks)) (sym known) (known_own tables.known (known_open tables terms past tid s i.undecided) b refl));
        live_own = subst (λ u. IsLiveAs terms.protocols (x ∷ past) tid u (live_of tid now.exec)) (sym now_open)
            (subst (λ (ls : List Live). IsLiveAs terms.protocols (x ∷ past) tid true (live_of tid ls)) (sym exec_is) (i.own x refl (c.begins tid) (says_counts b defers)));
        stages = subst (λ (ss : List Stage). AreStagesOf terms.protocols (x ∷ past) ss) (sym stages)
            (stages_sent terms.protocols past x tid taken (some_of is_take dues) (some_of is_prepare dues) tables.stages.listed c.begun still_open others
            (record { program = program_is; counted = counted_is; takes = takes_own tid dues; prepares = prepares_own tid dues }) s.stages);
        committed = λ tx. ap (λ cs. committed_in cs.listed tx) committed ∙ s.committed tx ∙ sym (committed_is tx);
        graph = subst (λ cs. StandsFor cs now.graph) (sym commits_are) (subst (λ g. StandsFor (commits (records past)) g) (sym graph) s.graph);
        pruned = held_still past x now.graph c.begun still_open (subst (λ g. AreHeld (waiting past) g) (sym graph) s.pruned);
      }) s

  -- the tables once the reply was taken, and then the sending noted
  pub sent_tables : (tables mid now : Tables) → tables.exec ≡ exec → mid.known ≡ tables.known → mid.exec ≡ exec_now → mid.stages.listed ≡ stages_taken tid taken tables.stages.listed → mid.committed ≡ tables.committed → mid.graph ≡ tables.graph
      → now.known ≡ cond b (changed tid initiate mid.known) mid.known
      → now.stages.listed ≡ map (after_sending tid (some_of is_take dues) (some_of is_prepare dues)) mid.stages.listed → now.exec ≡ mid.exec → now.committed ≡ mid.committed → now.graph ≡ mid.graph
      → IsServing tables terms past → IsServing now terms (x ∷ past)
  sent_tables tables mid now was known_mid exec_mid stages_mid committed_mid graph_mid known stages exec_is committed graph s =
      sent_serving tables now was
      (known ∙ ap (λ (ks : List Known). cond b (changed tid initiate ks) ks) known_mid)
      (exec_is ∙ exec_mid)
      (stages ∙ ap (λ (ss : List Stage). map (after_sending tid (some_of is_take dues) (some_of is_prepare dues)) ss) stages_mid)
      (committed ∙ committed_mid)
      (graph ∙ graph_mid) s

-- whether there is an Initiation
pub initiates_is : (terms : Terms) (past : CoordPast) (tid : Tid) (dues : List Due) (entry : Option CoordRecord) → entry ≡ initiation_of terms.protocols past tid dues → is_some entry ≡ (some_of is_prepare dues && lacks_initiation terms.protocols past tid)
initiates_is terms past tid dues entry e = ap is_some e ∙ by_test (some_of is_prepare dues && lacks_initiation terms.protocols past tid) where
  by_test : (f : Bool) → is_some (cond f (Some (Rec.Initiation tid (participants terms.protocols past tid))) None) ≡ f
  by_test true = refl
  by_test false = refl
