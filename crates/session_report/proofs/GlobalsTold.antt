-- The global attempts that the lines tell of, with their reads, are those that the coordinator's past tells of.
use Rattle.std.proofs.Common.{◌≡◌, ℕ, Bool, true, false, cond, ◌||◌, Option, Some, None, List, [], ◌∷◌, ◌++◌, map, refl, sym, ◌∙◌, ap, subst}
use Rattle.mdb_base.specs.declared.names.SiteId.{SiteId}
use Rattle.mdb_base.specs.declared.names.Tid.{Tid}
use Rattle.mdb_base.specs.declared.names.Tx.{Tx}
use Rattle.mdb_base.specs.declared.replies.Edge.{Edge}
use Rattle.mdb_base.specs.declared.replies.Reply.{Reply}
use Rattle.mdb_base.specs.declared.replies.Reply.TheVariants as Reply_is
use Rattle.mdb_base.specs.Names.{same_tid, tid_before}
use Rattle.mdb_base.specs.Words.{found, inserted, item_at, map_some, with_some}
use Rattle.mdb_base.proofs.ForCallers.{item_at-front, same_tid-refl}
use Rattle.fed_rules.specs.declared.answers.Answer.{Answer}
use Rattle.fed_rules.specs.declared.answers.Answer.TheVariants as Say
use Rattle.fed_rules.specs.declared.answers.Cause.TheVariants as For
use Rattle.fed_rules.specs.declared.commands.Command.{Command}
use Rattle.fed_rules.specs.declared.commands.Command.TheVariants as Cmd
use Rattle.fed_rules.specs.declared.commands.Line.{Line}
use Rattle.fed_rules.specs.declared.events.CoordEvent.{CoordEvent}
use Rattle.fed_rules.specs.declared.events.CoordEvent.TheVariants as To_coord
use Rattle.fed_rules.specs.declared.events.SiteEvent.{SiteEvent}
use Rattle.fed_rules.specs.declared.messages.FromSite.{FromSite}
use Rattle.fed_rules.specs.declared.messages.FromSite.TheVariants as From
use Rattle.fed_rules.specs.declared.scenario.Scenario.{Scenario}
use Rattle.fed_rules.specs.Closing.{rising}
use Rattle.fed_rules.specs.Coord.{coord_line}
use Rattle.fed_rules.specs.CoordPast.{CoordHappening, CoordPast, Counted, attempts_of, begins, begun_by, begun_tids, counted, counts, did_in, oldest_first, reads, value_in}
use Rattle.fed_rules.specs.Plans.{IsScenario}
use Rattle.fed_rules.specs.Requests.{attempt}
use Rattle.fed_rules.specs.Right.{IsAnswer, IsRightStory, MayPrint, SameButCycle, story_told}
use Rattle.fed_rules.specs.Scenarios.{policy, protocols}
use Rattle.fed_rules.specs.SiteRecords.{Home}
use Rattle.fed_rules.specs.Story.{Story, Happened, AtSite, AtCoordinator, Nowhere, coord_past, happens, sends_from, sent_from, story_of, with_coordinator}
use Rattle.fed_rules.specs.Lines as Lines
use Rattle.fed_rules.proofs.ForCallers as Asked
use Rattle.fed_rules.proofs.ForCallers.{IsNoGo}
use Rattle.coord_laws.proofs.ForCallers.{Begins, IsMade, coord_made}
use Rattle.federation_laws.proofs.ForCallers.{begun-next, coord-made, fresh-line, is_begun, reads_of, story-holds}
use Rattle.federation_laws.proofs.ForCallers as Fed
use Rattle.session_routes.specs.declared.traffic.Traffic.{Traffic}
use Rattle.session_report.specs.Told.{Reads, Told, after_begin, after_command, after_step, is_counted, message_at, told_by, with_begun, with_go, with_reply, with_taken, with_value}
use Rattle.session_report.proofs.Lookups.{look, look_begun, look_value, tids_begun, tids_of, tids_value}
use Rattle.session_report.proofs.Silences.{BeginsNone, IsSilent, Silence, silent, value_says}

-- what an event of the coordinator with this answer tells
abbrev after_event : CoordEvent → Answer → Reads → Reads
after_event (To_coord.Take site message) answer reads = cond (counts answer) (with_reply (Some message) reads) reads
after_event event answer reads = reads

abbrev or_begun : Option Tid → Reads → Reads → Reads
or_begun None rest reads = rest
or_begun (Some tid) rest reads = with_begun tid reads

abbrev after_coord : CoordEvent → Answer → Reads → Reads
after_coord event answer reads = or_begun (begun_by answer) (after_event event answer reads) reads

-- what a past of the coordinator tells of its attempts
abbrev pub globals_of : CoordPast → Reads
globals_of [] = []
globals_of (x ∷ past) = after_coord x.event x.answer (globals_of past)

-- the channels have each message of the story at its place
abbrev pub Covers : List Traffic → Story → Type 0
Covers channels story = (site : SiteId) (place : ℕ) (message : FromSite) → item_at (sent_from site story) place ≡ Some message → message_at channels site place ≡ Some message

pub covers_before : (channels : List Traffic) (scenario : Scenario) (command : Command) (commands : List Command) → Covers channels (story_of scenario (command ∷ commands)) → Covers channels (story_of scenario commands)
covers_before channels scenario command commands c site place message e =
    c site place message (item_at-front (sent_from site (story_of scenario commands)) (sends_from site (happens scenario (story_of scenario commands) command)) place message e)

begin_globals : (tx : Tx) (answer : Answer) (told : Told) → (after_begin tx answer told).globals ≡ told.globals
begin_globals tx (Say.Begun tid) told = refl
begin_globals tx answer told = refl

step_globals : (tx : Tx) (answer : Answer) (told : Told) → (after_step tx answer told).globals ≡ told.globals
step_globals tx (Say.Read key value) told = refl
step_globals tx answer told = refl

none_go : (answer : Answer) (reads : Reads) → BeginsNone answer → with_go answer reads ≡ reads
none_go (Say.Begun tid) reads b = absurd b
none_go answer reads b = refl

go_coord : (tid : Tid) (steps : _) (answer : Answer) (reads : Reads) → with_go answer reads ≡ after_coord (To_coord.Go tid steps) answer reads
go_coord tid steps (Say.Begun t) reads = refl
go_coord tid steps answer reads = refl

none_begun : (event : CoordEvent) (answer : Answer) → IsNoGo event → Begins event answer → begun_by answer ≡ None
none_begun event (Say.Begun tid) off b = absurd (subst IsNoGo b.1 off)
none_begun event answer off b = refl

same_counted : (IsOne : List Edge → Type 0) (printed answer : Answer) → SameButCycle IsOne printed answer → is_counted printed ≡ is_counted answer
same_counted IsOne (Say.Decides decision (Some (For.Cycle edges)) forgets) (Say.Decides other (Some (For.Cycle more)) told) s = refl
same_counted IsOne printed answer s = ap is_counted s

either_same : (b : Bool) (reads : Reads) → cond b reads reads ≡ reads
either_same true reads = refl
either_same false reads = refl

-- a message that is taken
taken_coord : (protocols : _) (policy : _) (past : CoordPast) (site : SiteId) (message : FromSite) (printed answer : Answer) (reads : Reads) → is_counted printed ≡ is_counted answer
    → answer ≡ (coord_line protocols policy past (To_coord.Take site message)).answer → with_taken (Some message) printed reads ≡ after_event (To_coord.Take site message) answer reads
taken_coord protocols policy past site (From.Did tid epoch n (Reply_is.Value value)) printed answer reads s is =
    ap (λ b. cond b (with_value tid value reads) reads) (s ∙ (ap is_counted is ∙ ((value_says protocols policy past site tid epoch n value).says ∙ ap counts (sym is))))
taken_coord protocols policy past site (From.Did tid epoch n Reply_is.Done) printed answer reads s is = either_same (is_counted printed) reads ∙ sym (either_same (counts answer) reads)
taken_coord protocols policy past site (From.Did tid epoch n (Reply_is.Ticket t)) printed answer reads s is = either_same (is_counted printed) reads ∙ sym (either_same (counts answer) reads)
taken_coord protocols policy past site (From.Did tid epoch n (Reply_is.Wait by)) printed answer reads s is = either_same (is_counted printed) reads ∙ sym (either_same (counts answer) reads)
taken_coord protocols policy past site (From.Did tid epoch n (Reply_is.Refused why)) printed answer reads s is = either_same (is_counted printed) reads ∙ sym (either_same (counts answer) reads)
taken_coord protocols policy past site (From.Did tid epoch n Reply_is.Unknown) printed answer reads s is = either_same (is_counted printed) reads ∙ sym (either_same (counts answer) reads)
taken_coord protocols policy past site (From.Vote tid ticket) printed answer reads s is = either_same (is_counted printed) reads ∙ sym (either_same (counts answer) reads)
taken_coord protocols policy past site (From.Ack tid) printed answer reads s is = either_same (is_counted printed) reads ∙ sym (either_same (counts answer) reads)
taken_coord protocols policy past site (From.Inquiry tid) printed answer reads s is = either_same (is_counted printed) reads ∙ sym (either_same (counts answer) reads)

module _ (scenario : Scenario) (channels : List Traffic) (story : Story) (told : Told) where
  abbrev global_reads : Reads
  global_reads = told.globals

  -- a line of a site tells nothing of them
  site_keeps : (command : Command) (home : Home) (event : SiteEvent) (answer : Answer) → Lines.SiteCause scenario home story command event → (after_command channels command answer told).globals ≡ told.globals
  site_keeps (Cmd.Begin tx) home event answer c = begin_globals tx answer told
  site_keeps (Cmd.Step tx) home event answer c = step_globals tx answer told
  site_keeps (Cmd.Go tx) home event answer c = absurd c
  site_keeps (Cmd.Take site place) home event answer c = absurd c
  site_keeps command home event answer c = refl

  -- nor does one that no actor hears of
  nowhere_keeps : (command : Command) (answer : Answer) → IsSilent command answer → (after_command channels command answer told).globals ≡ told.globals
  nowhere_keeps (Cmd.Begin tx) answer s = begin_globals tx answer told
  nowhere_keeps (Cmd.Step tx) answer s = step_globals tx answer told
  nowhere_keeps (Cmd.Go tx) answer s = none_go answer told.globals s
  nowhere_keeps (Cmd.Take site place) answer s = ap (λ a. with_taken (message_at channels site place) a told.globals) s
  nowhere_keeps command answer s = refl

  module _ (x : CoordHappening) (event : CoordEvent) (made : IsMade (protocols scenario) (coord_past story) event x) (is : x ≡ coord_line (protocols scenario) (policy scenario) (coord_past story) event) where
    no_go : (other : CoordEvent) → event ≡ other → IsNoGo other → after_event other x.answer told.globals ≡ after_coord x.event x.answer told.globals
    no_go other e off =
        let none : begun_by x.answer ≡ None = none_begun other x.answer off (subst (λ ev. Begins ev x.answer) e made.begun) in
        sym (ap (λ o. or_begun o (after_event x.event x.answer told.globals) told.globals) none ∙ ap (λ ev. after_event ev x.answer told.globals) (made.heard ∙ e))

    printed_by : (printed : Answer) (other : CoordEvent) → event ≡ other → MayPrint (protocols scenario) (coord_past story) x x.event printed → MayPrint (protocols scenario) (coord_past story) x other printed
    printed_by printed other e = subst (λ ev. MayPrint (protocols scenario) (coord_past story) x ev printed) (made.heard ∙ e)

    coord_tells : (command : Command) (printed : Answer) → Covers channels story → Lines.CoordCause scenario story command event → MayPrint (protocols scenario) (coord_past story) x x.event printed
        → (after_command channels command printed told).globals ≡ after_coord x.event x.answer told.globals
    coord_tells (Cmd.Go tx) printed covers c p =
        ap (λ a. with_go a told.globals) (printed_by printed _ c.is p) ∙ (go_coord (attempt tx (attempts_of (coord_past story) tx)) c.steps x.answer told.globals ∙ sym (ap (λ ev. after_coord ev x.answer told.globals) (made.heard ∙ c.is)))
    coord_tells (Cmd.Take site place) printed covers c p =
        ap (λ m. with_taken m printed told.globals) (covers site place c.message c.at)
        ∙ (taken_coord (protocols scenario) (policy scenario) (coord_past story) site c.message printed x.answer told.globals
        (same_counted _ printed x.answer (printed_by printed (To_coord.Take site c.message) c.is p))
        (ap (λ (y : CoordHappening). y.answer) is ∙ ap (λ ev. (coord_line (protocols scenario) (policy scenario) (coord_past story) ev).answer) c.is)
        ∙ no_go (To_coord.Take site c.message) c.is tt)
    coord_tells (Cmd.Fate tx) printed covers c p = no_go (To_coord.Fate tx) c.is tt
    coord_tells (Cmd.Again tid) printed covers c p = no_go (To_coord.Again tid) c tt
    coord_tells (Cmd.Late tid) printed covers c p = no_go (To_coord.Late tid) c tt
    coord_tells (Cmd.Halt actor cut) printed covers c p = no_go (To_coord.Halt cut) c.1 tt
    coord_tells (Cmd.Trip actor calls cut) printed covers c p = no_go (To_coord.Trip calls cut) c.1 tt
    coord_tells (Cmd.Back actor) printed covers c p = no_go To_coord.Back c.1 tt
    coord_tells (Cmd.Check actor) printed covers c p = no_go To_coord.Check c.1 tt
    coord_tells (Cmd.Begin tx) printed covers c p = absurd c
    coord_tells (Cmd.Step tx) printed covers c p = absurd c
    coord_tells (Cmd.Commit tx) printed covers c p = absurd c
    coord_tells (Cmd.Abort tx) printed covers c p = absurd c
    coord_tells (Cmd.Give site place) printed covers c p = absurd c
    coord_tells (Cmd.Ask site tid) printed covers c p = absurd c
    coord_tells (Cmd.Drop site tid) printed covers c p = absurd c

  -- one line more
  line_tells : (command : Command) (happened : Happened) (printed : Answer) → Covers channels story → Lines.IsLine scenario story command happened → ((answer : Answer) → happened ≡ Nowhere answer → IsSilent command answer)
      → IsAnswer (protocols scenario) story happened printed → told.globals ≡ globals_of (coord_past story)
      → (after_command channels command printed told).globals ≡ globals_of (with_coordinator happened (coord_past story))
  line_tells command (AtSite site x) printed covers line s a h = site_keeps command line.home line.event printed line.cause ∙ h
  line_tells command (Nowhere answer) printed covers line s a h = nowhere_keeps command printed (subst (IsSilent command) (sym a) (s answer refl)) ∙ h
  line_tells command (AtCoordinator x) printed covers line s a h =
      let made = subst (λ (y : CoordHappening). IsMade (protocols scenario) (coord_past story) line.event y) (sym line.is_next) (coord_made (protocols scenario) (policy scenario) (coord_past story) line.event) in
      coord_tells x line.event made line.is_next command printed covers line.cause a ∙ ap (after_coord x.event x.answer) h

quiet_there : (scenario : Scenario) (story : Story) (command : Command) (happened : Happened) → happens scenario story command ≡ happened → (answer : Answer) → happened ≡ Nowhere answer → IsSilent command answer
quiet_there scenario story command happened e answer f = subst (Silence command) (e ∙ f) (silent scenario story command)

-- what right lines tell of them
pub globals_told : (scenario : Scenario) (channels : List Traffic) (lines : List Line) → IsRightStory scenario lines → Covers channels (story_told scenario lines)
    → (told_by channels lines).globals ≡ globals_of (coord_past (story_told scenario lines))
globals_told scenario channels [] right covers = refl
globals_told scenario channels (line ∷ lines) (right, next) covers =
    let story = story_told scenario lines in
    let before = covers_before channels scenario line.command (map (λ (l : Line). l.command) lines) covers in
    line_tells scenario channels story (told_by channels lines) line.command (happens scenario story line.command) line.answer before (Asked.line_is scenario story line.command)
    (quiet_there scenario story line.command (happens scenario story line.command) refl) next.answer (globals_told scenario channels lines right before)

abbrev counted_next : CoordEvent → Answer → Tid → List Counted → List Counted
counted_next event answer g replies = cond (begins g answer) [] (cond (counts answer) (with_some (did_in g event) replies) replies)

begins_none : (g : Tid) (answer : Answer) → begun_by answer ≡ None → begins g answer ≡ false
begins_none g (Say.Begun tid) e = cc
begins_none g answer e = refl

begun_is : (answer : Answer) (tid : Tid) → begun_by answer ≡ Some tid → answer ≡ Say.Begun tid
begun_is (Say.Begun t) tid e = (let same : t ≡ tid = cc in ap (λ (z : Tid). Say.Begun z) same)
begun_is answer tid e = cc

-- what says no value leaves what is read
uncounted : (g : Tid) (reads : Reads) (replies : List Counted) (b c : Bool) (o : Option Counted) → reads_of (with_some o replies) ≡ reads_of replies → look reads g ≡ cond b (Some (reads_of replies)) None
    → look reads g ≡ cond b (Some (reads_of (cond c (with_some o replies) replies))) None
uncounted g reads replies b false o e h = h
uncounted g reads replies b true o e h = h ∙ ap (λ vs. cond b (Some vs) None) (sym e)

valueless : (g : Tid) (site : SiteId) (tid : Tid) (epoch : ℕ) (reply : Reply) (replies : List Counted) → value_in (record { site = site; epoch = epoch; reply = reply }) ≡ None
    → reads_of (with_some (cond (same_tid tid g) (Some (record { site = site; epoch = epoch; reply = reply })) None) replies) ≡ reads_of replies
valueless g site tid epoch reply replies none = by_test (same_tid tid g)
  where
    by_test : (b : Bool) → reads_of (with_some (cond b (Some (record { site = site; epoch = epoch; reply = reply })) None) replies) ≡ reads_of replies
    by_test true = ap (λ o. oldest_first (with_some o (found value_in replies))) none
    by_test false = refl

-- what is read of an attempt at an event that begins none
event_looks : (event : CoordEvent) (answer : Answer) (g : Tid) (reads : Reads) (replies : List Counted) (b : Bool) → look reads g ≡ cond b (Some (reads_of replies)) None
    → look (after_event event answer reads) g ≡ cond b (Some (reads_of (cond (counts answer) (with_some (did_in g event) replies) replies))) None
event_looks (To_coord.Take site (From.Did tid epoch n (Reply_is.Value value))) answer g reads replies b h = by_tests (counts answer) (same_tid tid g) refl
  where
    by_tests : (c d : Bool) → same_tid tid g ≡ d → look (cond c (with_value tid value reads) reads) g
        ≡ cond b (Some (reads_of (cond c (with_some (cond d (Some (record { site = site; epoch = epoch; reply = Reply_is.Value value })) None) replies) replies))) None
    by_tests false d e = h
    by_tests true false e = look_value reads tid g value ∙ (ap (λ x. cond x (map_some (λ vs. vs ++ value ∷ []) (look reads g)) (look reads g)) e ∙ h)
    by_tests true true e =
        look_value reads tid g value ∙ (ap (λ x. cond x (map_some (λ vs. vs ++ value ∷ []) (look reads g)) (look reads g)) e
        ∙ (ap (map_some (λ vs. vs ++ value ∷ [])) h ∙ by_begun b))
      where
        by_begun : (b : Bool) → map_some (λ vs. vs ++ value ∷ []) (cond b (Some (reads_of replies)) None) ≡ cond b (Some (reads_of replies ++ value ∷ [])) None
        by_begun true = refl
        by_begun false = refl
event_looks (To_coord.Take site (From.Did tid epoch n Reply_is.Done)) answer g reads replies b h =
    ap (λ rs. look rs g) (either_same (counts answer) reads) ∙ uncounted g reads replies b (counts answer) _ (valueless g site tid epoch Reply_is.Done replies refl) h
event_looks (To_coord.Take site (From.Did tid epoch n (Reply_is.Ticket t))) answer g reads replies b h =
    ap (λ rs. look rs g) (either_same (counts answer) reads) ∙ uncounted g reads replies b (counts answer) _ (valueless g site tid epoch (Reply_is.Ticket t) replies refl) h
event_looks (To_coord.Take site (From.Did tid epoch n (Reply_is.Wait by))) answer g reads replies b h =
    ap (λ rs. look rs g) (either_same (counts answer) reads) ∙ uncounted g reads replies b (counts answer) _ (valueless g site tid epoch (Reply_is.Wait by) replies refl) h
event_looks (To_coord.Take site (From.Did tid epoch n (Reply_is.Refused why))) answer g reads replies b h =
    ap (λ rs. look rs g) (either_same (counts answer) reads) ∙ uncounted g reads replies b (counts answer) _ (valueless g site tid epoch (Reply_is.Refused why) replies refl) h
event_looks (To_coord.Take site (From.Did tid epoch n Reply_is.Unknown)) answer g reads replies b h =
    ap (λ rs. look rs g) (either_same (counts answer) reads) ∙ uncounted g reads replies b (counts answer) _ (valueless g site tid epoch Reply_is.Unknown replies refl) h
event_looks (To_coord.Take site (From.Vote tid ticket)) answer g reads replies b h =
    ap (λ rs. look rs g) (either_same (counts answer) reads) ∙ uncounted g reads replies b (counts answer) None refl h
event_looks (To_coord.Take site (From.Ack tid)) answer g reads replies b h =
    ap (λ rs. look rs g) (either_same (counts answer) reads) ∙ uncounted g reads replies b (counts answer) None refl h
event_looks (To_coord.Take site (From.Inquiry tid)) answer g reads replies b h =
    ap (λ rs. look rs g) (either_same (counts answer) reads) ∙ uncounted g reads replies b (counts answer) None refl h
event_looks (To_coord.Go tid steps) answer g reads replies b h = uncounted g reads replies b (counts answer) None refl h
event_looks (To_coord.Again tid) answer g reads replies b h = uncounted g reads replies b (counts answer) None refl h
event_looks (To_coord.Late tid) answer g reads replies b h = uncounted g reads replies b (counts answer) None refl h
event_looks (To_coord.Fate tx) answer g reads replies b h = uncounted g reads replies b (counts answer) None refl h
event_looks (To_coord.Halt cut) answer g reads replies b h = uncounted g reads replies b (counts answer) None refl h
event_looks (To_coord.Trip calls cut) answer g reads replies b h = uncounted g reads replies b (counts answer) None refl h
event_looks To_coord.Back answer g reads replies b h = uncounted g reads replies b (counts answer) None refl h
event_looks To_coord.Check answer g reads replies b h = uncounted g reads replies b (counts answer) None refl h

event_tids : (event : CoordEvent) (answer : Answer) (reads : Reads) → tids_of (after_event event answer reads) ≡ tids_of reads
event_tids (To_coord.Take site message) answer reads = by_test (counts answer)
  where
    by_message : (m : FromSite) → tids_of (with_reply (Some m) reads) ≡ tids_of reads
    by_message (From.Did tid epoch n (Reply_is.Value value)) = tids_value reads tid value
    by_message m = refl

    by_test : (b : Bool) → tids_of (cond b (with_reply (Some message) reads) reads) ≡ tids_of reads
    by_test true = by_message message
    by_test false = refl
event_tids event answer reads = refl

-- the attempts that were begun stand there by rising transaction and attempt, each with what it read
pub record Globals (past : CoordPast) : Type 0 where
  pub looks : (g : Tid) → look (globals_of past) g ≡ cond (is_begun past g) (Some (reads past g)) None
  pub tids : tids_of (globals_of past) ≡ rising (begun_tids past)

module _ (past : CoordPast) (x : CoordHappening) (event : CoordEvent) (heard : x.event ≡ event) (begun : Begins event x.answer) (fresh : (g : Tid) → begins g x.answer ≡ true → is_begun past g ≡ false) (h : Globals past) where
  abbrev target : Tid → Bool → Option (List ℕ)
  target g b = cond (b || is_begun past g) (Some (reads_of (cond b [] (cond (counts x.answer) (with_some (did_in g x.event) (counted past g)) (counted past g))))) None

  at_target : (g : Tid) → cond (is_begun (x ∷ past) g) (Some (reads (x ∷ past) g)) None ≡ target g (begins g x.answer)
  at_target g = ap (λ b. cond b (Some (reads (x ∷ past) g)) None) (begun-next past g x)

  next_looks : (o : Option Tid) → begun_by x.answer ≡ o → (g : Tid) → look (globals_of (x ∷ past)) g ≡ cond (is_begun (x ∷ past) g) (Some (reads (x ∷ past) g)) None
  next_looks None e g =
      ap (λ o. look (or_begun o (after_event x.event x.answer (globals_of past)) (globals_of past)) g) e
      ∙ (event_looks x.event x.answer g (globals_of past) (counted past g) (is_begun past g) (h.looks g)
      ∙ sym (at_target g ∙ ap (target g) (begins_none g x.answer e)))
  next_looks (Some t) e g =
      let is = begun_is x.answer t e in
      let go = subst (Begins event) is begun in
      let unheard : did_in g x.event ≡ None = ap (did_in g) (heard ∙ go.1) in
      ap (λ o. look (or_begun o (after_event x.event x.answer (globals_of past)) (globals_of past)) g) e
      ∙ (look_begun (globals_of past) t g
      ∙ (by_test (same_tid t g) unheard
      ∙ sym (at_target g ∙ ap (λ a. target g (begins g a)) is)))
    where
      same_replies : (c : Bool) → reads_of (cond c (counted past g) (counted past g)) ≡ reads_of (counted past g)
      same_replies true = refl
      same_replies false = refl

      by_test : (b : Bool) → did_in g x.event ≡ None → cond b (Some []) (look (globals_of past) g) ≡ target g b
      by_test true u = refl
      by_test false u =
          h.looks g ∙ ap (λ vs. cond (is_begun past g) (Some vs) None)
          (sym (ap (λ o. reads_of (cond (counts x.answer) (with_some o (counted past g)) (counted past g))) u ∙ same_replies (counts x.answer)))

  next_tids : (o : Option Tid) → begun_by x.answer ≡ o → tids_of (globals_of (x ∷ past)) ≡ rising (begun_tids (x ∷ past))
  next_tids None e =
      ap (λ o. tids_of (or_begun o (after_event x.event x.answer (globals_of past)) (globals_of past))) e
      ∙ (event_tids x.event x.answer (globals_of past) ∙ (h.tids ∙ sym (ap (λ o. rising (with_some o (begun_tids past))) e)))
  next_tids (Some t) e =
      let new : is_begun past t ≡ false = fresh t (ap (begins t) (begun_is x.answer t e) ∙ same_tid-refl t) in
      let none : look (globals_of past) t ≡ None = h.looks t ∙ ap (λ b. cond b (Some (reads past t)) None) new in
      ap (λ o. tids_of (or_begun o (after_event x.event x.answer (globals_of past)) (globals_of past))) e
      ∙ (tids_begun (globals_of past) t none ∙ (ap (inserted tid_before t) h.tids ∙ sym (ap (λ o. rising (with_some o (begun_tids past))) e)))

  next_globals : Globals (x ∷ past)
  next_globals = record { looks = next_looks (begun_by x.answer) refl; tids = next_tids (begun_by x.answer) refl }

globals_happened : (scenario : Scenario) → IsScenario scenario → (commands : List Command) (happened : Happened) → Fed.IsLine scenario (story_of scenario commands) happened → Globals (coord_past (story_of scenario commands))
    → Globals (with_coordinator happened (coord_past (story_of scenario commands)))
globals_happened scenario whole commands (AtSite site x) line h = h
globals_happened scenario whole commands (Nowhere answer) line h = h
globals_happened scenario whole commands (AtCoordinator x) line h =
    let story = story_of scenario commands in
    let made = coord-made scenario story x line in
    next_globals (coord_past story) x line.event made.heard made.begun (λ g. fresh-line scenario story g x line made (story-holds scenario whole commands g)) h

-- so it is in every story
pub story_globals : (scenario : Scenario) → IsScenario scenario → (commands : List Command) → Globals (coord_past (story_of scenario commands))
story_globals scenario whole [] = record { looks = λ g. refl; tids = refl }
story_globals scenario whole (command ∷ commands) =
    globals_happened scenario whole commands (happens scenario (story_of scenario commands) command) (Fed.line_is scenario (story_of scenario commands) command) (story_globals scenario whole commands)
