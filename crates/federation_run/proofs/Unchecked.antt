-- The past of a site's host has no `check`, so all records of the site stand on its disk.
use Rattle.std.proofs.Common.{◌≡◌, ℕ, Bool, true, false, Option, Some, None, List, [], ◌∷◌, ◌++◌, reverse, refl, sym, ap, ◌∙◌, subst}
use Rattle.std.proofs.lemmas.List.{append-nil, reverse-append}
use Rattle.mdb_base.specs.declared.acts.Step.{Step}
use Rattle.mdb_base.specs.declared.names.Tx.{Tx}
use Rattle.mdb_base.specs.declared.names.Tid.{Tid}
use Rattle.mdb_base.specs.Words.{found, given, when, with_some}
use Rattle.mdb_base.proofs.ForCallers.{found_append}
use Rattle.fed_rules.specs.declared.commands.Command.{Command}
use Rattle.fed_rules.specs.declared.commands.Command.TheVariants as Cmd
use Rattle.fed_rules.specs.declared.events.SiteEvent.{SiteEvent}
use Rattle.fed_rules.specs.declared.events.SiteEvent.TheVariants as Ev
use Rattle.fed_rules.specs.declared.messages.ToSite.{ToSite}
use Rattle.fed_rules.specs.declared.records.SiteRecord.{SiteRecord}
use Rattle.fed_rules.specs.CoordPast.{oldest_first}
use Rattle.fed_rules.specs.Requests.{Request, Submits, Declines}
use Rattle.fed_rules.specs.Runs.{Run}
use Rattle.fed_rules.specs.Site.{site_line}
use Rattle.fed_rules.specs.SiteCommands.{Verb, Begin, Step_on, Commit, Abort, Fate, begin_next, next_step, own_request, past_behind, request, when_done, with_live}
use Rattle.fed_rules.specs.SitePast.{SitePast, disk, journal, records}
use Rattle.fed_rules.specs.SiteRecords.{Home}
use Rattle.fed_messages.specs.declared.Envelope.{Envelope}
use Rattle.session_report.specs.declared.marks.Mark.{Mark}
use Rattle.session_report.specs.Marks.{kept_marks, mark_of}
use Rattle.host_laws.specs.Plans.{SitePlan}
use Rattle.host_laws.specs.Turns.{SiteTurn, giving, past_of, request_of}
use Rattle.federation_run.proofs.Untrimmed.{IsUnchecked, all_stand, line_trims_none, trimmed_same}

-- the request submits no `check`
abbrev AsksNoCheck : Request SiteEvent → Type 0
AsksNoCheck (Submits event) = IsUnchecked event
AsksNoCheck (Declines answer) = Unit {0}

asks_given : {A : Type 0} (o : Option A) (none : Request SiteEvent) (some : A → Request SiteEvent) → AsksNoCheck none → ((z : A) → AsksNoCheck (some z)) → AsksNoCheck (given o some none)
unfolding given
asks_given None none some p q = p
asks_given (Some z) none some p q = q z

asks_when : (b : Bool) (x y : Request SiteEvent) → AsksNoCheck x → AsksNoCheck y → AsksNoCheck (when b x y)
unfolding when
asks_when true x y p q = p
asks_when false x y p q = q

asks_live : (home : Home) (past : SitePast) (tx : Tx) (next : Tid → Run → Request SiteEvent) → ((tid : Tid) (run : Run) → AsksNoCheck (next tid run)) → AsksNoCheck (with_live home past tx next)
unfolding with_live
asks_live home past tx next f = asks_when _ _ _ tt (asks_given _ _ _ tt (λ tid. asks_given _ _ _ tt (λ run. f tid run)))

asks_request : (verb : Verb) (home : Home) (steps : List Step) (past : SitePast) (tx : Tx) → AsksNoCheck (request verb home steps past tx)
unfolding request begin_next next_step when_done
asks_request Begin home steps past tx = asks_when _ _ _ tt tt
asks_request Step_on home steps past tx = asks_live home past tx _ (λ tid run. asks_given _ _ _ tt (λ step. tt))
asks_request Commit home steps past tx = asks_live home past tx _ (λ tid run. asks_when _ _ _ tt tt)
asks_request Abort home steps past tx = asks_live home past tx _ (λ tid run. tt)
asks_request Fate home steps past tx = tt

asks_own : (verb : Verb) (home : Home) (program : Option (List Step)) (past : SitePast) (tx : Tx) → AsksNoCheck (own_request verb home program past tx)
unfolding own_request
asks_own verb home program past tx = asks_given _ _ _ tt (λ steps. asks_request verb home steps past tx)

asks_giving : (took : Option (Envelope ToSite)) → AsksNoCheck (giving took)
asks_giving None = tt
asks_giving (Some envelope) = tt

asks_none : (plan : SitePlan) (past : SitePast) (command : Command) (took : Option (Envelope ToSite)) → AsksNoCheck (request_of plan past command took)
asks_none plan past (Cmd.Begin tx) took = asks_own Begin plan.home (plan.programs tx) past tx
asks_none plan past (Cmd.Step tx) took = asks_own Step_on plan.home (plan.programs tx) past tx
asks_none plan past (Cmd.Commit tx) took = asks_own Commit plan.home (plan.programs tx) past tx
asks_none plan past (Cmd.Abort tx) took = asks_own Abort plan.home (plan.programs tx) past tx
asks_none plan past (Cmd.Fate tx) took = asks_own Fate plan.home (plan.programs tx) past tx
asks_none plan past (Cmd.Go tx) took = tt
asks_none plan past (Cmd.Again tid) took = tt
asks_none plan past (Cmd.Late tid) took = tt
asks_none plan past (Cmd.Give site place) took = asks_giving took
asks_none plan past (Cmd.Take site place) took = tt
asks_none plan past (Cmd.Ask site tid) took = tt
asks_none plan past (Cmd.Drop site tid) took = tt
asks_none plan past (Cmd.Halt actor cut) took = tt
asks_none plan past (Cmd.Trip actor calls cut) took = tt
asks_none plan past (Cmd.Back actor) took = tt
asks_none plan past (Cmd.Check actor) took = tt

none_behind : (home : Home) (past : SitePast) (r : Request SiteEvent) → AsksNoCheck r → (disk home past).trimmed ≡ 0 → (disk home (past_behind home past r)).trimmed ≡ 0
none_behind home past (Submits event) own none = trimmed_same (site_line home past event).calls (disk home past) (line_trims_none home past event own) ∙ none
none_behind home past (Declines answer) own none = none

-- nothing was trimmed
none_trimmed : (plan : SitePlan) (turns : List SiteTurn) → (disk plan.home (past_of plan turns)).trimmed ≡ 0
none_trimmed plan [] = refl
none_trimmed plan (turn ∷ turns) =
    none_behind plan.home (past_of plan turns) (request_of plan (past_of plan turns) turn.line.line.command turn.took) (asks_none plan (past_of plan turns) turn.line.line.command turn.took) (none_trimmed plan turns)

-- what is found in a list that is turned round
found_turned : (rs : List SiteRecord) → found mark_of (reverse rs) ≡ oldest_first (found mark_of rs)
found_turned [] = refl
found_turned (r ∷ rs) = ap (λ (zs : List SiteRecord). found mark_of zs) (reverse-append (r ∷ []) rs) ∙ (found_append mark_of (reverse rs) (r ∷ []) ∙ by_look (mark_of r) (found_turned rs))
  where
    by_look : (o : Option Mark) → found mark_of (reverse rs) ≡ oldest_first (found mark_of rs) → found mark_of (reverse rs) ++ with_some o [] ≡ oldest_first (with_some o (found mark_of rs))
    by_look None h = append-nil (found mark_of (reverse rs)) ∙ h
    by_look (Some m) h = ap (λ (ms : List Mark). ms ++ m ∷ []) h

-- the marks of the records on the disk are those of all records
pub marks_kept : (plan : SitePlan) (turns : List SiteTurn) → found mark_of (reverse (journal plan.home (past_of plan turns))) ≡ kept_marks plan.home (past_of plan turns)
marks_kept plan turns =
    found_turned (journal plan.home (past_of plan turns)) ∙ ap (λ (rs : List SiteRecord). oldest_first (found mark_of rs)) (all_stand plan.home (past_of plan turns) (none_trimmed plan turns))
