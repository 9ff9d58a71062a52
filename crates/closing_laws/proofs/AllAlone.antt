-- Each transaction without a commit is finished alone, one after another: each commits, and the others stay as they are.
use Rattle.std.proofs.Common.{◌≡◌, ◌<◌, ◌*◌, ℕ, zero, suc, Bool, true, false, cond, not, nat_lt, ◌||◌, Option, Some, None, List, [], ◌∷◌, ◌++◌, length, inl, inr, refl, sym, ap, subst, ◌∙◌, arith}
use Rattle.std.proofs.lemmas.Bool.{and_parts}
use Rattle.mdb_base.specs.declared.acts.Step.{Step}
use Rattle.mdb_base.specs.declared.names.SiteId.{SiteId}
use Rattle.mdb_base.specs.declared.names.Tx.{Tx}
use Rattle.mdb_base.specs.Names.{same_site, same_tx}
use Rattle.mdb_base.specs.Programs.{IsProgram}
use Rattle.mdb_base.specs.Words.{Each, each_of, first_where, inserted, map_some, some_of, those}
use Rattle.mdb_base.proofs.ForCallers.{each_inserted, same_tx-equal, same_tx-refl}
use Rattle.order_laws.specs.Chains.{In}
use Rattle.order_laws.proofs.ForCallers.{each_at, each_from, each_of_at, in_those, same_tx-false_back, those_in}
use Rattle.fed_rules.specs.declared.commands.Command.{Command}
use Rattle.fed_rules.specs.declared.commands.Command.TheVariants as Cmd
use Rattle.fed_rules.specs.declared.commands.Place.{Place}
use Rattle.fed_rules.specs.declared.scenario.ItemLine.{ItemLine}
use Rattle.fed_rules.specs.declared.scenario.Scenario.{Scenario}
use Rattle.fed_rules.specs.declared.scenario.SiteLine.{SiteLine}
use Rattle.fed_rules.specs.declared.scenario.TxLine.{TxLine}
use Rattle.fed_rules.specs.Closing.{by_number, deliver_all, finished_alone, for_each, global_alone, is_done, last_sends, local_alone, one_alone, sent_next, steps_alone, take_answers, taken}
use Rattle.fed_rules.specs.Plans.{IsScenario, all_differ, is_between, is_declared, is_in_place, is_transaction, one_transaction}
use Rattle.fed_rules.specs.Scenarios.{global_line, global_program, home_at, home_in, home_of_line, items_of, local_home, local_site, program_of, program_of_line, transaction}
use Rattle.fed_rules.specs.Sessions.{fresh}
use Rattle.fed_rules.specs.SiteRecords.{Home}
use Rattle.fed_rules.specs.Story.{Story, story_of, most_attempts}
use Rattle.coord_laws.proofs.ForCallers.{is_undecided}
use Rattle.site_history.specs.Stories.{StoriesHaveRightLines}
use Rattle.closing_laws.specs.Alone.{GlobalsCommitAlone, IsFinished, LocalsCommitAlone}
use Rattle.closing_laws.specs.AtRest.{IsAtRest}
use Rattle.closing_laws.specs.Finished.{FinishedSessionsCommit, begun, begun_at}
use Rattle.closing_laws.proofs.AloneBound.{numbered_in}
use Rattle.closing_laws.proofs.OthersStay.{AreDecided, Stays, stays_here, stays_on, stays_one}
use Rattle.closing_laws.proofs.Quiet.{rests_quiet}

-- ---- what finishing one transaction alone leaves of another one

module _ (scenario : Scenario) (other tx : Tx) (apart : same_tx other tx ≡ false) where
  abbrev Leaves : List Command → List Command → Type 0
  Leaves commands now = AreDecided scenario tx (story_of scenario commands) → Stays scenario tx (story_of scenario commands) (story_of scenario now)

  on : (a b c : List Command) → Leaves a b → Leaves b c → Leaves a c
  on a b c p q d = let s = p d in stays_on scenario tx (story_of scenario a) (story_of scenario b) (story_of scenario c) s (q s.decided)

  steps_leave : (steps : List Step) (commands : List Command) → Leaves commands (steps_alone other steps commands)
  steps_leave [] commands d = stays_here scenario tx (story_of scenario commands) d
  steps_leave (step ∷ steps) commands d =
      on commands (Cmd.Step other ∷ commands) (steps_alone other steps (Cmd.Step other ∷ commands)) (stays_one scenario commands (Cmd.Step other) tx tt) (steps_leave steps (Cmd.Step other ∷ commands)) d

  local_leaves : (steps : List Step) (commands : List Command) → Leaves commands (local_alone other steps commands)
  local_leaves steps commands =
      let first = Cmd.Begin other ∷ commands in
      let second = steps_alone other steps first in
      on commands first (Cmd.Commit other ∷ second) (stays_one scenario commands (Cmd.Begin other) tx apart)
      (on first second (Cmd.Commit other ∷ second) (steps_leave steps first) (stays_one scenario second (Cmd.Commit other) tx apart))

  takes_leave : (places : List Place) (commands : List Command) → Leaves commands (take_answers places commands)
  takes_leave [] commands d = stays_here scenario tx (story_of scenario commands) d
  takes_leave (place ∷ places) commands d =
      let first = Cmd.Take place.site place.place ∷ commands in
      on commands first (take_answers places first) (stays_one scenario commands (Cmd.Take place.site place.place) tx tt) (takes_leave places first) d

  delivers_leave : (n : ℕ) (places : List Place) (commands : List Command) → Leaves commands (deliver_all scenario n places commands)
  delivers_leave zero places commands d = stays_here scenario tx (story_of scenario commands) d
  delivers_leave (suc n) [] commands d = stays_here scenario tx (story_of scenario commands) d
  delivers_leave (suc n) (place ∷ places) commands d =
      let given : List Command = Cmd.Give place.site place.place ∷ commands in
      let answered = taken (fresh scenario) given in
      let all = deliver_all scenario n (places ++ sent_next scenario answered (last_sends (fresh scenario) given)) answered in
      on commands given all (stays_one scenario commands (Cmd.Give place.site place.place) tx tt)
      (on given answered all (takes_leave (last_sends (fresh scenario) given) given) (delivers_leave n (places ++ sent_next scenario answered (last_sends (fresh scenario) given)) answered)) d

  global_leaves : (steps : List Step) (commands : List Command) → Leaves commands (global_alone scenario other steps commands)
  global_leaves steps commands =
      let first = Cmd.Go other ∷ commands in
      on commands first (global_alone scenario other steps commands) (stays_one scenario commands (Cmd.Go other) tx apart) (delivers_leave (4 * length steps) (last_sends (fresh scenario) first) first)

one_leaves : (scenario : Scenario) (line : TxLine) (home : Option SiteId) (tx : Tx) → same_tx line.tx tx ≡ false → (commands : List Command) → AreDecided scenario tx (story_of scenario commands)
    → Stays scenario tx (story_of scenario commands) (story_of scenario (one_alone scenario line home commands))
one_leaves scenario line None tx apart commands = global_leaves scenario line.tx tx apart line.program commands
one_leaves scenario line (Some site) tx apart commands = local_leaves scenario line.tx tx apart line.program commands

-- at rest no attempt is undecided
rest_decides : StoriesHaveRightLines → (scenario : Scenario) (commands : List Command) (tx : Tx) → IsAtRest scenario (story_of scenario commands) → AreDecided scenario tx (story_of scenario commands)
rest_decides rights scenario commands tx r t same = ap is_undecided ((rests_quiet rights scenario commands r).gone t)

-- ---- the line of a transaction

none_alike : (l : TxLine) (ls : List TxLine) (k : TxLine) → In k ls → not (some_of (one_transaction l) ls) ≡ true → same_tx l.tx k.tx ≡ false
none_alike l [] k i e = absurd i
none_alike l (m ∷ ls) k i e = by_test (same_tx l.tx m.tx) refl e (λ j f. none_alike l ls k j f)
  where
    by_test : (b : Bool) → same_tx l.tx m.tx ≡ b → not (b || some_of (one_transaction l) ls) ≡ true → (In k ls → not (some_of (one_transaction l) ls) ≡ true → same_tx l.tx k.tx ≡ false) → same_tx l.tx k.tx ≡ false
    by_test true q f rest = cc
    by_test false q f rest = elim i [ inl same ↦ ap (λ (z : TxLine). same_tx l.tx z.tx) (sym same) ∙ q | inr j ↦ rest j f ]

first_is : (lines : List TxLine) (line : TxLine) → all_differ one_transaction lines ≡ true → In line lines → first_where (λ (l : TxLine). same_tx l.tx line.tx) lines ≡ Some line
first_is [] line d i = absurd i
first_is (l ∷ lines) line d (inl e) = ap (λ b. cond b (Some l) (first_where (λ (k : TxLine). same_tx k.tx line.tx) lines)) (ap (λ (k : TxLine). same_tx k.tx line.tx) e ∙ same_tx-refl line.tx) ∙ ap (λ k. Some k) e
first_is (l ∷ lines) line d (inr i) =
    ap (λ b. cond b (Some l) (first_where (λ (k : TxLine). same_tx k.tx line.tx) lines)) (none_alike l lines line i parts.0) ∙ first_is lines line parts.1 i
  where
    parts : (not (some_of (one_transaction l) lines) ≡ true) × (all_differ one_transaction lines ≡ true)
    parts = and_parts (not (some_of (one_transaction l) lines)) (all_differ one_transaction lines) d

-- a declared site has a home
has_home : (lines : List SiteLine) (items : List ItemLine) (site : SiteId) → is_declared lines site ≡ true → (home : Home) × (home_in lines items site ≡ Some home)
has_home [] items site e = cc
has_home (line ∷ lines) items site e = by_test (same_site line.site site) e (has_home lines items site)
  where
    by_test : (b : Bool) → (b || is_declared lines site) ≡ true → (is_declared lines site ≡ true → (home : Home) × (home_in lines items site ≡ Some home))
        → (home : Home) × (cond b (Some (record { site = line.site; engine = line.engine; protocol = line.protocol; items = items_of items site })) (home_in lines items site) ≡ Some home)
    by_test true f k = (record { site = line.site; engine = line.engine; protocol = line.protocol; items = items_of items site }, refl)
    by_test false f k = k f

module _ (scenario : Scenario) (whole : IsScenario scenario) (line : TxLine) (listed : In line scenario.transactions) where
  its_line : transaction scenario line.tx ≡ Some line
  its_line = first_is scenario.transactions line whole.transactions.differ listed

  -- its site is that of its transaction
  pub its_site : local_site scenario line.tx ≡ line.home
  its_site = ap home_of_line its_line

  its_program : program_of scenario line.tx ≡ line.program
  its_program = ap program_of_line its_line

  global_here : line.home ≡ None → global_program scenario line.tx ≡ Some line.program
  global_here e =
      ap (λ o. map_some (λ (l : TxLine). l.program) (global_line o)) its_line
      ∙ ap (λ (o : Option SiteId). map_some (λ (l : TxLine). l.program) (global_line (Some (record { tx = line.tx; home = o; program = line.program })))) e

  its_home : (site : SiteId) → line.home ≡ Some site → (home : Home) × (local_home scenario line.tx ≡ Some home)
  its_home site e =
      let h = has_home scenario.sites scenario.items site declared in
      (h.0, ap (λ o. home_at scenario (home_of_line o)) its_line ∙ (ap (home_at scenario) e ∙ h.1))
    where
      in_place : each_of (is_in_place scenario.sites (Some site)) line.program ≡ true
      in_place =
          ap (λ o. each_of (is_in_place scenario.sites o) line.program) (sym e)
          ∙ (and_parts (is_between 1 1024 line.tx.0) (each_of (is_in_place scenario.sites line.home) line.program)
          (each_of_at (is_transaction scenario.sites) scenario.transactions line whole.transactions.in_place listed)).1

      by_steps : (steps : List Step) → 0 < length steps → each_of (is_in_place scenario.sites (Some site)) steps ≡ true → is_declared scenario.sites site ≡ true
      by_steps [] some f = absurd (omega (arith, some))
      by_steps (step ∷ steps) some f =
          (and_parts (is_declared scenario.sites site) (same_site step.site site) (and_parts (is_in_place scenario.sites (Some site) step) (each_of (is_in_place scenario.sites (Some site)) steps) f).0).0

      declared : is_declared scenario.sites site ≡ true
      declared = let fits = each_at (λ (l : TxLine). IsProgram l.program) line scenario.transactions whole.transactions.programs listed in by_steps line.program fits.some in_place

  -- it commits when it is run alone
  commits_alone : LocalsCommitAlone → GlobalsCommitAlone → (commands : List Command) → IsAtRest scenario (story_of scenario commands) → is_done scenario (story_of scenario commands) line.tx ≡ false
      → begun scenario (story_of scenario commands) line.tx < most_attempts → IsFinished scenario line.tx (story_of scenario (one_alone scenario line line.home commands))
  commits_alone locals globals commands r undone few = by_home line.home refl
    where
      by_home : (o : Option SiteId) → line.home ≡ o → IsFinished scenario line.tx (story_of scenario (one_alone scenario line o commands))
      by_home None e =
          let none : local_home scenario line.tx ≡ None = ap (λ o. home_at scenario (home_of_line o)) its_line ∙ ap (home_at scenario) e in
          globals scenario commands line.tx line.program whole r (global_here e) undone (subst (λ o. begun_at o (story_of scenario commands) line.tx < most_attempts) none few)
      by_home (Some site) e =
          let h = its_home site e in
          subst (λ steps. IsFinished scenario line.tx (story_of scenario (local_alone line.tx steps commands))) its_program
          (locals scenario commands line.tx h.0 whole r h.1 undone (subst (λ o. begun_at o (story_of scenario commands) line.tx < most_attempts) h.1 few))

-- ---- all of them

-- no two lines are of one transaction
abbrev AreApart : List TxLine → Type 0
AreApart [] = Unit {0}
AreApart (line ∷ lines) = Each (λ (other : TxLine). same_tx line.tx other.tx ≡ false) lines × AreApart lines

abbrev before : TxLine → TxLine → Bool
before a b = nat_lt a.tx.0 b.tx.0

lines_apart : (lines : List TxLine) → all_differ one_transaction lines ≡ true → AreApart lines
lines_apart [] d = tt
lines_apart (line ∷ lines) d =
    let parts = and_parts (not (some_of (one_transaction line) lines)) (all_differ one_transaction lines) d in
    (each_from (λ (other : TxLine). same_tx line.tx other.tx ≡ false) lines (λ l i. none_alike line lines l i parts.0), lines_apart lines parts.1)

put_apart : (line : TxLine) (lines : List TxLine) → Each (λ (other : TxLine). same_tx line.tx other.tx ≡ false) lines → AreApart lines → AreApart (inserted before line lines)
put_apart line [] e a = (tt, tt)
put_apart line (l ∷ lines) e a = by_test (before l line) (put_apart line lines e.1 a.1)
  where
    by_test : (b : Bool) → AreApart (inserted before line lines) → AreApart (cond b (l ∷ inserted before line lines) (line ∷ l ∷ lines))
    by_test true rest = (each_inserted (λ (other : TxLine). same_tx l.tx other.tx ≡ false) before line lines (same_tx-false_back line.tx l.tx e.0) a.0, rest)
    by_test false rest = (e, a)

numbered_apart : (lines : List TxLine) → AreApart lines → AreApart (by_number lines)
numbered_apart [] a = tt
numbered_apart (line ∷ lines) a =
    put_apart line (by_number lines) (each_from (λ (other : TxLine). same_tx line.tx other.tx ≡ false) (by_number lines) (λ l i. each_at (λ (other : TxLine). same_tx line.tx other.tx ≡ false) l lines a.0 (numbered_in lines l i)))
    (numbered_apart lines a.1)

those_apart : (test : TxLine → Bool) (lines : List TxLine) → AreApart lines → AreApart (those test lines)
those_apart test [] a = tt
those_apart test (line ∷ lines) a = by_test (test line) (those_apart test lines a.1)
  where
    by_test : (b : Bool) → AreApart (those test lines) → AreApart (cond b (line ∷ those test lines) (those test lines))
    by_test true k = (each_from (λ (other : TxLine). same_tx line.tx other.tx ≡ false) (those test lines) (λ l i. each_at (λ (other : TxLine). same_tx line.tx other.tx ≡ false) l lines a.0 (those_in test l lines i).0), k)
    by_test false k = k

in_numbered : (lines : List TxLine) (line : TxLine) → In line lines → In line (by_number lines)
in_numbered [] line i = absurd i
in_numbered (l ∷ lines) line i = put_in l (by_number lines) (elim i [ inl e ↦ inl e | inr j ↦ inr (in_numbered lines line j) ])
  where
    put_in : (x : TxLine) (ys : List TxLine) → In line (x ∷ ys) → In line (inserted before x ys)
    put_in x [] j = j
    put_in x (y ∷ ys) j = by_test (before y x) j (put_in x ys)
      where
        by_test : (b : Bool) → In line (x ∷ y ∷ ys) → (In line (x ∷ ys) → In line (inserted before x ys)) → In line (cond b (y ∷ inserted before x ys) (x ∷ y ∷ ys))
        by_test false j k = j
        by_test true (inl e) k = inr (k (inl e))
        by_test true (inr (inl e)) k = inl e
        by_test true (inr (inr m)) k = inr (k (inr m))

module _ (rights : StoriesHaveRightLines) (locals : LocalsCommitAlone) (globals : GlobalsCommitAlone) (scenario : Scenario) (whole : IsScenario scenario) where
  abbrev each_alone : List TxLine → List Command → List Command
  each_alone lines commands = for_each (λ (line : TxLine). one_alone scenario line line.home) lines commands

  -- these lines are done, the session is at rest, and the other transactions are as before
  record AreDone (lines : List TxLine) (commands now : List Command) : Type 0 where
    rest : IsAtRest scenario (story_of scenario now)
    done : Each (λ (line : TxLine). is_done scenario (story_of scenario now) line.tx ≡ true) lines
    others : (tx : Tx) → Each (λ (line : TxLine). same_tx line.tx tx ≡ false) lines → is_done scenario (story_of scenario now) tx ≡ is_done scenario (story_of scenario commands) tx

  -- a line may be finished alone
  record MayFinish (line : TxLine) (commands : List Command) : Type 0 where
    listed : In line scenario.transactions
    undone : is_done scenario (story_of scenario commands) line.tx ≡ false
    few : begun scenario (story_of scenario commands) line.tx < most_attempts

  -- one line, and then the rest
  module _ (line : TxLine) (lines : List TxLine) (commands : List Command) (a : AreApart (line ∷ lines)) (r : IsAtRest scenario (story_of scenario commands)) (m : Each (λ l. MayFinish l commands) (line ∷ lines)) where
    abbrev next : List Command
    next = one_alone scenario line line.home commands

    first : IsFinished scenario line.tx (story_of scenario next)
    first = commits_alone scenario whole line m.0.listed locals globals commands r m.0.undone m.0.few

    stays : (tx : Tx) → same_tx line.tx tx ≡ false → Stays scenario tx (story_of scenario commands) (story_of scenario next)
    stays tx e = one_leaves scenario line line.home tx e commands (rest_decides rights scenario commands tx r)

    later : Each (λ l. MayFinish l next) lines
    later = each_from (λ l. MayFinish l next) lines (λ l i.
        let may = each_at (λ k. MayFinish k commands) l lines m.1 i in
        let s = stays l.tx (each_at (λ (o : TxLine). same_tx line.tx o.tx ≡ false) l lines a.0 i) in
        record { listed = may.listed; undone = s.done ∙ may.undone; few = (let same = s.attempts in let less = may.few in omega (arith, same, less)) })

    with_first : AreDone lines next (each_alone lines next) → AreDone (line ∷ lines) commands (each_alone lines next)
    with_first d = record {
      rest = d.rest;
      done = (
        d.others line.tx (each_from (λ (l : TxLine). same_tx l.tx line.tx ≡ false) lines (λ l i. same_tx-false_back line.tx l.tx (each_at (λ (o : TxLine). same_tx line.tx o.tx ≡ false) l lines a.0 i))) ∙ first.done,
        d.done,
      );
      others = λ tx e. d.others tx e.1 ∙ (stays tx e.0).done;
    }

  all_done : (lines : List TxLine) (commands : List Command) → AreApart lines → IsAtRest scenario (story_of scenario commands) → Each (λ line. MayFinish line commands) lines → AreDone lines commands (each_alone lines commands)
  all_done [] commands a r m = record { rest = r; done = tt; others = λ tx e. refl }
  all_done (line ∷ lines) commands a r m =
      let behind = next line lines commands a r m in
      with_first line lines commands a r m (all_done lines behind a.1 (first line lines commands a r m).rest (later line lines commands a r m))

pub sessions_finished : StoriesHaveRightLines → LocalsCommitAlone → GlobalsCommitAlone → FinishedSessionsCommit
sessions_finished rights locals globals scenario commands whole r left = record { done = done; rest = all.rest }
  where
    story : Story
    story = story_of scenario commands

    undone : List TxLine
    undone = those (λ (line : TxLine). not (is_done scenario story line.tx)) (by_number scenario.transactions)

    not_true : (b : Bool) → not b ≡ true → b ≡ false
    not_true true e = cc
    not_true false e = refl

    may : (line : TxLine) → In line undone → MayFinish rights locals globals scenario whole line commands
    may line i =
        let parts = those_in (λ (l : TxLine). not (is_done scenario story l.tx)) line (by_number scenario.transactions) i in
        let listed = numbered_in scenario.transactions line parts.0 in
        let no = not_true (is_done scenario story line.tx) parts.1 in
        record { listed = listed; undone = no; few = left line listed no }

    all : AreDone rights locals globals scenario whole undone commands (finished_alone scenario commands)
    all = all_done rights locals globals scenario whole undone commands
        (those_apart (λ (line : TxLine). not (is_done scenario story line.tx)) (by_number scenario.transactions) (numbered_apart scenario.transactions (lines_apart scenario.transactions whole.transactions.differ))) r
        (each_from (λ line. MayFinish rights locals globals scenario whole line commands) undone may)

    done : (line : TxLine) → In line scenario.transactions → is_done scenario (story_of scenario (finished_alone scenario commands)) line.tx ≡ true
    done line listed = by_test (is_done scenario story line.tx) refl
      where
        by_test : (b : Bool) → is_done scenario story line.tx ≡ b → is_done scenario (story_of scenario (finished_alone scenario commands)) line.tx ≡ true
        by_test false q =
            each_at (λ (l : TxLine). is_done scenario (story_of scenario (finished_alone scenario commands)) l.tx ≡ true) line undone all.done
            (in_those (λ (l : TxLine). not (is_done scenario story l.tx)) line (by_number scenario.transactions) (in_numbered scenario.transactions line listed) (ap not q))
        by_test true q =
            all.others line.tx (each_from (λ (l : TxLine). same_tx l.tx line.tx ≡ false) undone apart_from) ∙ q
          where
            apart_from : (l : TxLine) → In l undone → same_tx l.tx line.tx ≡ false
            apart_from l i = by_same (same_tx l.tx line.tx) refl
              where
                by_same : (b : Bool) → same_tx l.tx line.tx ≡ b → same_tx l.tx line.tx ≡ false
                by_same false p = p
                by_same true p =
                    let no = (may l i).undone in
                    let same = same_tx-equal l.tx line.tx p in
                    let yes : is_done scenario story l.tx ≡ true = subst (λ t. is_done scenario story t ≡ true) (sym same) q in
                    let clash = sym no ∙ yes in cc
