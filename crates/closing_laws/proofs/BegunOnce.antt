-- No attempt begins twice at a site within an epoch: local ones are numbered, and a global one begins only where none of its runs ended there.
use Rattle.std.proofs.Common.{◌≡◌, ◌⊎◌, ◌<◌, ℕ, suc, Bool, true, false, cond, ◌||◌, is_some, Option, Some, None, List, [], ◌∷◌, ◌++◌, map, inl, inr, refl, sym, ◌∙◌, ap, ap₂, subst, arith}
use Rattle.std.proofs.lemmas.Bool.{cond-true, cond-false, or_left, or_right}
use Rattle.mdb_base.specs.declared.acts.PlainAct.TheVariants.{Read, Write}
use Rattle.mdb_base.specs.declared.names.Tid.{Tid}
use Rattle.mdb_base.specs.declared.names.Tx.{Tx}
use Rattle.mdb_base.specs.declared.replies.Reply.TheVariants as Reply_is
use Rattle.mdb_base.specs.Names.{same_tid}
use Rattle.mdb_base.specs.Words.{Each, some_of}
use Rattle.mdb_base.proofs.ForCallers.{same_tid-refl, same_tx-refl}
use Rattle.order_laws.specs.Chains.{In, Distinct}
use Rattle.order_laws.proofs.ForCallers.{each_at, item_at-in}
use Rattle.fed_rules.specs.declared.commands.Command.{Command}
use Rattle.fed_rules.specs.declared.commands.Command.TheVariants as Cmd
use Rattle.fed_rules.specs.declared.events.SiteEvent.{SiteEvent}
use Rattle.fed_rules.specs.declared.events.SiteEvent.TheVariants as Ev
use Rattle.fed_rules.specs.declared.records.SiteRecord.{SiteRecord}
use Rattle.fed_rules.specs.declared.runs.Kept.{Kept}
use Rattle.fed_rules.specs.declared.scenario.Scenario.{Scenario}
use Rattle.fed_rules.specs.Happenings.{comes_up}
use Rattle.fed_rules.specs.Runs.{Start, EngineLine, Begins, Acts, Takes, Seals, Refuses, Commits, Aborts, Run, attempts, begun, changed, restored, restored_at, run_at, tid_of}
use Rattle.fed_rules.specs.Scenarios.{home_of}
use Rattle.fed_rules.specs.Site.{site_line, site_past}
use Rattle.fed_rules.specs.SitePast.{SiteHappening, SitePast, attempts_of, begins_tx, decides_on, ends, engine_lines, epoch_start, is_closed, records, run_of}
use Rattle.fed_rules.specs.SiteRecords.{Home, doubts, kept_held, start_of}
use Rattle.fed_rules.specs.Story.{past_of, sent_to, story_of}
use Rattle.engine_laws.specs.Laws.{EachOnce}
use Rattle.fed_rules.proofs.ForCallers.{attempts_grow, home-again}
use Rattle.engine_laws.proofs.ForCallers.{once_doubts}
use Rattle.site_history.proofs.ForCallers.{IsKept, IsSortedRecord, engine_lines-next, epoch_start-next, local_is, no_local_doubt, pasts_led, restored_doubt, restored_held, run_of-next, sorted_past, sorted_story}
use Rattle.site_history.specs.Led.{Allows, AllAllow, IsAsked, IsLed}
use Rattle.site_history.specs.Events.{AreSorted, IsSorted}
use Rattle.site_history.specs.Stories.{is_local}
use Rattle.closing_laws.specs.Runs.{SitesBeginOnce}
use Rattle.closing_laws.proofs.Growth.{Growth, Renews, Stays, Next, First, IsNumbered, IsPlain, line_grows}

-- a line that is not the end of a run keeps it
keeps_or_ends : (l : EngineLine) (tid : Tid) (run : Run) → same_tid (tid_of l) tid ≡ true → (is_some (changed l (Some run)) ≡ true) ⊎ (ends tid l ≡ true)
keeps_or_ends (Begins t n) tid run e = inl refl
keeps_or_ends (Acts t act (Reply_is.Refused why)) tid run e = inr e
keeps_or_ends (Acts t act (Reply_is.Wait by)) tid run e = inl refl
keeps_or_ends (Acts t act (Reply_is.Ticket n)) tid run e = inl refl
keeps_or_ends (Acts t act Reply_is.Unknown) tid run e = inl refl
keeps_or_ends (Acts t (Read key) (Reply_is.Value value)) tid run e = inl refl
keeps_or_ends (Acts t (Write key v) (Reply_is.Value value)) tid run e = inl refl
keeps_or_ends (Acts t (Read key) Reply_is.Done) tid run e = inl refl
keeps_or_ends (Acts t (Write key v) Reply_is.Done) tid run e = inl refl
keeps_or_ends (Takes t (Reply_is.Refused why)) tid run e = inr e
keeps_or_ends (Takes t (Reply_is.Ticket n)) tid run e = inl refl
keeps_or_ends (Takes t (Reply_is.Wait by)) tid run e = inl refl
keeps_or_ends (Takes t (Reply_is.Value value)) tid run e = inl refl
keeps_or_ends (Takes t Reply_is.Done) tid run e = inl refl
keeps_or_ends (Takes t Reply_is.Unknown) tid run e = inl refl
keeps_or_ends (Seals t n) tid run e = inl refl
keeps_or_ends (Refuses t why) tid run e = inr e
keeps_or_ends (Commits t) tid run e = inr e
keeps_or_ends (Aborts t) tid run e = inr e

run_line : (start : Start) (older : List EngineLine) (l : EngineLine) (tid : Tid) → is_some (run_at start older tid) ≡ true
    → (is_some (run_at start (l ∷ older) tid) ≡ true) ⊎ (ends tid l ≡ true)
run_line start older l tid some = by_run (run_at start older tid) some (same_tid (tid_of l) tid) refl
  where
    by_run : (o : Option Run) → is_some o ≡ true → (b : Bool) → same_tid (tid_of l) tid ≡ b → (is_some (cond b (changed l o) o) ≡ true) ⊎ (ends tid l ≡ true)
    by_run None s b e = cc
    by_run (Some run) s true e = keeps_or_ends l tid run e
    by_run (Some run) s false e = inl refl

either : (a b c : Bool) → (b ≡ true) ⊎ (c ≡ true) → (a || b || c) ≡ true
either true b c h = refl
either false true c h = refl
either false false c (inl e) = cc
either false false c (inr e) = e

-- and so do several lines
run_lines : (start : Start) (older lines : List EngineLine) (tid : Tid) → is_some (run_at start older tid) ≡ true
    → (is_some (run_at start (lines ++ older) tid) ≡ true) ⊎ (some_of (ends tid) lines ≡ true)
run_lines start older [] tid some = inl some
run_lines start older (l ∷ lines) tid some = elim (run_lines start older lines tid some) [
  | inl kept ↦ elim (run_line start (lines ++ older) l tid kept) [ inl now ↦ inl now | inr ended ↦ inr (or_left (ends tid l) (some_of (ends tid) lines) ended) ]
  | inr ended ↦ inr (or_right (ends tid l) (some_of (ends tid) lines) ended)
]

-- each attempt of the epoch has its run, or it is closed; local ones are numbered below what is counted; and none stands twice
record IsCounted (home : Home) (past : SitePast) (local : Tx → Bool) : Type 0 where
  once : Distinct (attempts (epoch_start home past) (engine_lines past))
  kept : (tid : Tid) → In tid (attempts (epoch_start home past) (engine_lines past)) → (is_some (run_of home past tid) ≡ true) ⊎ (is_closed past tid ≡ true)
  below : (tid : Tid) → In tid (attempts (epoch_start home past) (engine_lines past)) → local tid.tx ≡ true → tid.attempt < attempts_of past tid.tx

-- the attempts that the records restore
none_same : (kept : Kept) (more : List Kept) → Each (λ other. same_tid kept.tid other.tid ≡ false) more → In kept.tid (map (λ (k : Kept). k.tid) more) → ⊥
none_same kept [] h i = i
none_same kept (k ∷ more) h (inl e) = let self = subst (λ t. same_tid kept.tid t ≡ true) (sym e) (same_tid-refl kept.tid) in let apart = h.0 in cc
none_same kept (k ∷ more) h (inr i) = none_same kept more h.1 i

pub once_distinct : (ks : List Kept) → EachOnce ks → Distinct (map (λ (k : Kept). k.tid) ks)
once_distinct [] h = tt
once_distinct (k ∷ ks) h = (none_same k ks h.0, once_distinct ks h.1)

pub restored_some : (ks : List Kept) (tid : Tid) → In tid (map (λ (k : Kept). k.tid) ks) → is_some (restored_at ks tid) ≡ true
restored_some [] tid i = absurd i
restored_some (k ∷ ks) tid i = by_test (same_tid k.tid tid) refl i (restored_some ks tid)
  where
    by_test : (b : Bool) → same_tid k.tid tid ≡ b → (k.tid ≡ tid) ⊎ In tid (map (λ (k : Kept). k.tid) ks) → (In tid (map (λ (k : Kept). k.tid) ks) → is_some (restored_at ks tid) ≡ true)
        → is_some (cond b (Some (restored k)) (restored_at ks tid)) ≡ true
    by_test true q i rest = refl
    by_test false q (inl e) rest = let self = subst (λ t. same_tid k.tid t ≡ true) e (same_tid-refl k.tid) in cc
    by_test false q (inr j) rest = rest j

-- a new epoch
counted_start : (home : Home) (past : SitePast) (local : Tx → Bool) → Each (IsSortedRecord local) (records home past)
    → epoch_start home past ≡ start_of home (records home past) → engine_lines past ≡ [] → IsCounted home past local
counted_start home past local sorted e f = record {
  once = subst Distinct (sym all) (once_distinct (map kept_held (doubts rs)) (once_doubts rs));
  kept = λ tid i. inl (some tid i);
  below = λ tid i mine.
      let none = restored_doubt rs tid ∙ ap restored_held (no_local_doubt local rs tid sorted mine) in
      let here : is_some (restored_at (map kept_held (doubts rs)) tid) ≡ true = restored_some (map kept_held (doubts rs)) tid (subst (In tid) all i) in
      let clash : true ≡ false = sym here ∙ ap is_some none in
      cc;
}
  where
    rs : List SiteRecord
    rs = records home past

    all : attempts (epoch_start home past) (engine_lines past) ≡ map (λ (k : Kept). k.tid) (map kept_held (doubts rs))
    all = ap₂ (λ start lines. attempts start lines) e f

    some : (tid : Tid) → In tid (attempts (epoch_start home past) (engine_lines past)) → is_some (run_of home past tid) ≡ true
    some tid i = ap is_some (ap₂ (λ start lines. run_at start lines tid) e f) ∙ restored_some (map kept_held (doubts rs)) tid (subst (In tid) all i)

-- what was closed stays closed within the epoch, and what ends is closed
stays_closed : (past : SitePast) (x : SiteHappening) (tid : Tid) → comes_up x.answer ≡ false → (some_of (ends tid) x.lines ≡ true) ⊎ (is_closed past tid ≡ true)
    → is_closed (x ∷ past) tid ≡ true
stays_closed past x tid e h = cond-false (comes_up x.answer) false _ e ∙ by_case h
  where
    by_case : (some_of (ends tid) x.lines ≡ true) ⊎ (is_closed past tid ≡ true) → (decides_on tid x.event || some_of (ends tid) x.lines || is_closed past tid) ≡ true
    by_case (inl a) = either (decides_on tid x.event) (some_of (ends tid) x.lines) (is_closed past tid) (inl a)
    by_case (inr b) = either (decides_on tid x.event) (some_of (ends tid) x.lines) (is_closed past tid) (inr b)

module _ (home : Home) (past : SitePast) (local : Tx → Bool) (x : SiteHappening) (plain : IsPlain x) where
  lines_now : epoch_start home (x ∷ past) ≡ epoch_start home past
  lines_now = epoch_start-next home past x plain.goes plain.stays

  begun_now : attempts (epoch_start home (x ∷ past)) (engine_lines (x ∷ past)) ≡ attempts (epoch_start home past) (x.lines ++ engine_lines past)
  begun_now = ap₂ (λ start lines. attempts start lines) lines_now (engine_lines-next past x plain.goes plain.stays)

  run_now : (tid : Tid) → run_of home (x ∷ past) tid ≡ run_at (epoch_start home past) (x.lines ++ engine_lines past) tid
  run_now tid = run_of-next home past x tid plain.goes plain.stays

  -- an attempt that was begun before the line
  old_kept : (tid : Tid) → (is_some (run_of home past tid) ≡ true) ⊎ (is_closed past tid ≡ true) → (is_some (run_of home (x ∷ past) tid) ≡ true) ⊎ (is_closed (x ∷ past) tid ≡ true)
  old_kept tid (inr closed) = inr (stays_closed past x tid plain.stays (inr closed))
  old_kept tid (inl some) = elim (run_lines (epoch_start home past) (engine_lines past) x.lines tid some) [
    | inl now ↦ inl (ap is_some (run_now tid) ∙ now)
    | inr ended ↦ inr (stays_closed past x tid plain.stays (inl ended))
  ]

  -- a line that begins nothing
  counted_stays : ((start : Start) (older : List EngineLine) → attempts start (x.lines ++ older) ≡ attempts start older) → IsCounted home past local → IsCounted home (x ∷ past) local
  counted_stays same c = record {
    once = subst Distinct (sym all) c.once;
    kept = λ tid i. old_kept tid (c.kept tid (subst (In tid) all i));
    below = λ tid i mine. (let less = c.below tid (subst (In tid) all i) mine in let grow = attempts_grow past x tid.tx in omega (arith, less, grow));
  }
    where
      all : attempts (epoch_start home (x ∷ past)) (engine_lines (x ∷ past)) ≡ attempts (epoch_start home past) (engine_lines past)
      all = begun_now ∙ same (epoch_start home past) (engine_lines past)

  -- a line that begins an attempt that wasn't begun in the epoch
  counted_more : (tid : Tid) → attempts (epoch_start home past) (x.lines ++ engine_lines past) ≡ tid ∷ attempts (epoch_start home past) (engine_lines past)
      → (In tid (attempts (epoch_start home past) (engine_lines past)) → ⊥)
      → (is_some (run_of home (x ∷ past) tid) ≡ true) ⊎ (is_closed (x ∷ past) tid ≡ true)
      → (local tid.tx ≡ true → tid.attempt < attempts_of (x ∷ past) tid.tx)
      → IsCounted home past local → IsCounted home (x ∷ past) local
  counted_more tid more new here less c = record {
    once = subst Distinct (sym all) (new, c.once);
    kept = λ t i. elim (subst (In t) all i) [
      | inl e ↦ subst (λ u. (is_some (run_of home (x ∷ past) u) ≡ true) ⊎ (is_closed (x ∷ past) u ≡ true)) e here
      | inr j ↦ old_kept t (c.kept t j)
    ];
    below = λ t i mine. elim (subst (In t) all i) [
      | inl e ↦ subst (λ (u : Tid). local u.tx ≡ true → u.attempt < attempts_of (x ∷ past) u.tx) e less mine
      | inr j ↦ (let under = c.below t j mine in let grow = attempts_grow past x t.tx in omega (arith, under, grow))
    ];
  }
    where
      all : attempts (epoch_start home (x ∷ past)) (engine_lines (x ∷ past)) ≡ tid ∷ attempts (epoch_start home past) (engine_lines past)
      all = begun_now ∙ more

  -- a run that the line begins
  first_run : (tid : Tid) (front : List EngineLine) (n : ℕ) → x.lines ≡ front ++ Begins tid n ∷ [] → (is_some (run_of home (x ∷ past) tid) ≡ true) ⊎ (is_closed (x ∷ past) tid ≡ true)
  first_run tid front n is = elim (run_lines (epoch_start home past) (Begins tid n ∷ engine_lines past) front tid start) [
    | inl now ↦ inl (ap is_some (run_now tid ∙ ap (λ ls. run_at (epoch_start home past) (ls ++ engine_lines past) tid) is ∙ ap (λ ls. run_at (epoch_start home past) ls tid) (joined front)) ∙ now)
    | inr ended ↦ inr (stays_closed past x tid plain.stays (inl (ap (some_of (ends tid)) is ∙ in_front front ended)))
  ]
    where
      start : is_some (run_at (epoch_start home past) (Begins tid n ∷ engine_lines past) tid) ≡ true
      start = ap (λ b. is_some (cond b (Some (begun tid n)) (run_at (epoch_start home past) (engine_lines past) tid))) (same_tid-refl tid)

      joined : (ls : List EngineLine) → (ls ++ Begins tid n ∷ []) ++ engine_lines past ≡ ls ++ Begins tid n ∷ engine_lines past
      joined [] = refl
      joined (l ∷ ls) = ap (λ ms. l ∷ ms) (joined ls)

      in_front : (ls : List EngineLine) → some_of (ends tid) ls ≡ true → some_of (ends tid) (ls ++ Begins tid n ∷ []) ≡ true
      in_front [] e = cc
      in_front (l ∷ ls) e = by_test (ends tid l) e (in_front ls)
        where
          by_test : (b : Bool) → (b || some_of (ends tid) ls) ≡ true → (some_of (ends tid) ls ≡ true → some_of (ends tid) (ls ++ Begins tid n ∷ []) ≡ true) → (b || some_of (ends tid) (ls ++ Begins tid n ∷ [])) ≡ true
          by_test true e rest = refl
          by_test false e rest = rest e

-- behind each line
counted_line : (home : Home) (past : SitePast) (local : Tx → Bool) (x : SiteHappening) → Each (IsSortedRecord local) (records home (x ∷ past)) → Growth home past local x
    → IsCounted home past local → IsCounted home (x ∷ past) local
counted_line home past local x sorted (Renews e) c = counted_start home (x ∷ past) local sorted (cond-true _ _ _ e) (cond-true _ _ _ e)
counted_line home past local x sorted (Stays plain same) c = counted_stays home past local x plain same c
counted_line home past local x sorted (Next plain tid n is mine next answer) c =
    let counts : attempts_of (x ∷ past) tid.tx ≡ suc (attempts_of past tid.tx) = cond-true _ _ _ (ap (begins_tx tid.tx) answer ∙ same_tx-refl tid.tx) in
    counted_more home past local x plain tid (ap (λ ls. attempts (epoch_start home past) (ls ++ engine_lines past)) is) (λ i. let less = c.below tid i mine in absurd (omega (arith, less, next))) (first_run home past local x plain tid [] n is)
    (λ mine. omega (arith, counts, next)) c
counted_line home past local x sorted (First plain tid act reply n is others unclosed free) c =
    counted_more home past local x plain tid (ap (λ ls. attempts (epoch_start home past) (ls ++ engine_lines past)) is)
    (λ i. elim (c.kept tid i) [ inl some ↦ (let clash : false ≡ true = sym (ap is_some free) ∙ some in cc) | inr closed ↦ (let clash : false ≡ true = sym unclosed ∙ closed in cc) ])
    (first_run home past local x plain tid (Acts tid act reply ∷ []) n is) (λ mine. let clash : false ≡ true = sym others ∙ mine in cc) c

-- what a message to a site is for isn't local
abbrev pub IsOthers : Scenario → SiteEvent → Type 0
IsOthers scenario (Ev.Give message) = IsSorted (is_local scenario) (Ev.Give message)
IsOthers scenario event = Unit {0}

asked_sorted : (scenario : Scenario) (home : Home) (past : SitePast) (event : SiteEvent) → IsOthers scenario event → IsAsked scenario home past event → IsSorted (is_local scenario) event
asked_sorted scenario home past (Ev.Begin tid) others a = local_is scenario tid.tx home a.homed
asked_sorted scenario home past (Ev.Commit tid) others a = local_is scenario tid.tx home a.homed
asked_sorted scenario home past (Ev.Give message) others a = others
asked_sorted scenario home past (Ev.Act tid act) others a = tt
asked_sorted scenario home past (Ev.Abort tid) others a = tt
asked_sorted scenario home past (Ev.Fate tx) others a = tt
asked_sorted scenario home past (Ev.Ask tid) others a = tt
asked_sorted scenario home past (Ev.Drop tid) others a = tt
asked_sorted scenario home past (Ev.Halt cut) others a = tt
asked_sorted scenario home past (Ev.Trip calls cut) others a = tt
asked_sorted scenario home past Ev.Back others a = tt
asked_sorted scenario home past Ev.Check others a = tt

asked_numbered : (scenario : Scenario) (home : Home) (past : SitePast) (event : SiteEvent) → IsAsked scenario home past event → IsNumbered past event
asked_numbered scenario home past (Ev.Begin tid) a = a.next
asked_numbered scenario home past (Ev.Act tid act) a = tt
asked_numbered scenario home past (Ev.Commit tid) a = tt
asked_numbered scenario home past (Ev.Abort tid) a = tt
asked_numbered scenario home past (Ev.Fate tx) a = tt
asked_numbered scenario home past (Ev.Give message) a = tt
asked_numbered scenario home past (Ev.Ask tid) a = tt
asked_numbered scenario home past (Ev.Drop tid) a = tt
asked_numbered scenario home past (Ev.Halt cut) a = tt
asked_numbered scenario home past (Ev.Trip calls cut) a = tt
asked_numbered scenario home past Ev.Back a = tt
asked_numbered scenario home past Ev.Check a = tt

-- the events that make a past to which they come as they are asked for
record IsMade (scenario : Scenario) (home : Home) (past : SitePast) : Type 0 where
  events : List SiteEvent
  sorted : AreSorted (is_local scenario) events
  made : past ≡ site_past home events

led_made : (scenario : Scenario) (home : Home) (past : SitePast) → IsLed (IsOthers scenario) scenario home past → IsMade scenario home past
led_made scenario home [] led = record { events = []; sorted = tt; made = refl }
led_made scenario home (x ∷ past) (line, led) =
    let m = led_made scenario home past led in
    record {
      events = line.event ∷ m.events;
      sorted = (asked_sorted scenario home past line.event line.holds line.asked, m.sorted);
      made = ap₂ (λ y ys. y ∷ ys) (line.line ∙ ap (λ p. site_line home p line.event) m.made) m.made;
    }

-- its records and its runs
record IsOrderly (scenario : Scenario) (home : Home) (past : SitePast) : Type 0 where
  kept : IsKept home past
  records : Each (IsSortedRecord (is_local scenario)) (records home past)

led_orderly : (scenario : Scenario) (home : Home) (past : SitePast) → IsLed (IsOthers scenario) scenario home past → IsOrderly scenario home past
led_orderly scenario home past led =
    let m = led_made scenario home past led in
    let s = sorted_past home (is_local scenario) m.events m.sorted in
    record {
      kept = subst (IsKept home) (sym m.made) s.kept;
      records = subst (λ p. Each (IsSortedRecord (is_local scenario)) (records home p)) (sym m.made) s.records;
    }

led_counted : (scenario : Scenario) (home : Home) (past : SitePast) → IsLed (IsOthers scenario) scenario home past → IsCounted home past (is_local scenario)
led_counted scenario home [] led = counted_start home [] (is_local scenario) (led_orderly scenario home [] led).records refl refl
led_counted scenario home (x ∷ past) (line, led) =
    counted_line home past (is_local scenario) x (led_orderly scenario home (x ∷ past) (line, led)).records
    (subst (Growth home past (is_local scenario)) (sym line.line)
    (line_grows home past (is_local scenario) line.event (led_orderly scenario home past led).kept (asked_sorted scenario home past line.event line.holds line.asked)
    (asked_numbered scenario home past line.event line.asked)))
    (led_counted scenario home past led)

others_allowed : (scenario : Scenario) (commands : List Command) (command : Command) → Allows (IsOthers scenario) (story_of scenario commands) command
others_allowed scenario commands (Cmd.Give site place) = λ message at.
    each_at (λ m. IsSorted (is_local scenario) (Ev.Give m)) message (sent_to site (story_of scenario commands)) ((sorted_story scenario commands).sent site)
    (item_at-in (sent_to site (story_of scenario commands)) place message at)
others_allowed scenario commands (Cmd.Begin tx) = λ tid. tt
others_allowed scenario commands (Cmd.Step tx) = λ tid act. tt
others_allowed scenario commands (Cmd.Commit tx) = λ tid. tt
others_allowed scenario commands (Cmd.Abort tx) = λ tid. tt
others_allowed scenario commands (Cmd.Fate tx) = tt
others_allowed scenario commands (Cmd.Go tx) = tt
others_allowed scenario commands (Cmd.Again tid) = tt
others_allowed scenario commands (Cmd.Late tid) = tt
others_allowed scenario commands (Cmd.Take site place) = tt
others_allowed scenario commands (Cmd.Ask site tid) = tt
others_allowed scenario commands (Cmd.Drop site tid) = tt
others_allowed scenario commands (Cmd.Halt actor cut) = tt
others_allowed scenario commands (Cmd.Trip actor calls cut) = tt
others_allowed scenario commands (Cmd.Back actor) = tt
others_allowed scenario commands (Cmd.Check actor) = tt

all_others : (scenario : Scenario) (commands : List Command) → AllAllow (IsOthers scenario) scenario commands
all_others scenario [] = tt
all_others scenario (command ∷ commands) = (others_allowed scenario commands command, all_others scenario commands)

-- so a declared site is led in every story, and its attempts are counted
pub led_story : (scenario : Scenario) (commands : List Command) (home : Home) → home_of scenario home.site ≡ Some home
    → IsLed (IsOthers scenario) scenario home (past_of home.site (story_of scenario commands))
led_story scenario commands home declared = pasts_led (IsOthers scenario) scenario home commands declared (all_others scenario commands)

pub sites_begin_once : SitesBeginOnce
sites_begin_once scenario commands site home declared =
    (led_counted scenario home (past_of home.site (story_of scenario commands)) (led_story scenario commands home (home-again scenario site home declared))).once

-- and a local one is numbered below what was begun of its transaction
pub locals_numbered : (scenario : Scenario) (commands : List Command) (home : Home) → home_of scenario home.site ≡ Some home → (tid : Tid)
    → In tid (attempts (epoch_start home (past_of home.site (story_of scenario commands))) (engine_lines (past_of home.site (story_of scenario commands))))
    → is_local scenario tid.tx ≡ true → tid.attempt < attempts_of (past_of home.site (story_of scenario commands)) tid.tx
locals_numbered scenario commands home declared =
    (led_counted scenario home (past_of home.site (story_of scenario commands)) (led_story scenario commands home declared)).below
