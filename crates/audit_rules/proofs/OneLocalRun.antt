-- A local transaction reads 0, writes 7 and commits; what is printed of it agrees, or differs at one line.
use Rattle.std.proofs.Common.{◌≡◌, ℕ, List, [], ◌∷◌, ◌++◌, refl}
use Rattle.mdb_base.specs.declared.names.Engine.TheVariants.{Locking}
use Rattle.presumptions.specs.declared.Protocol.TheVariants as By
use Rattle.fed_rules.specs.declared.answers.Answer.TheVariants as Say
use Rattle.fed_rules.specs.declared.commands.Line.{Line}
use Rattle.fed_rules.specs.declared.report.Report.{Report}
use Rattle.fed_rules.specs.declared.scenario.Scenario.{Scenario}
use Rattle.fed_rules.proofs.ForCallers.{add, begin, commit, entry, get, halt, key, line, local, opened, place, read_by, scenario_of, site, step, table, tid, trip}
use Rattle.audit_rules.specs.declared.verdict.Verdict.TheVariants.{Agrees, Differs}
use Rattle.audit_rules.specs.declared.verdict.What.TheVariants as Fails
use Rattle.audit_rules.specs.Agreement.{Neither, Last}
use Rattle.audit_rules.proofs.Spoken.{Spoken, Reported, spoken, reported, audited, verdict_of}

-- three lines, and then the line `printed`: the first printed line has the number 4
abbrev pub scenario : Scenario
scenario =
    scenario_of
    (site 1 Locking By.Nothing ∷ [])
    []
    (local 1 1 (get 5 ∷ add 5 0 7 ∷ []) ∷ [])

-- its lines, with this value read
abbrev pub lines : ℕ → List Line
lines value =
    line (begin 1) (Say.Begun (tid 1 0)) []
    ∷ line (step 1) (Say.Read (key 5) value) []
    ∷ line (step 1) (Say.Wrote (key 5) 7) []
    ∷ line (commit 1) (Say.Sealed (tid 1 0) 2) []
    ∷ []

-- its report, with this value in the table
abbrev report : ℕ → Report
report value =
    record {
      order = tid 1 0 ∷ [];
      reads = read_by (tid 1 0) (0 ∷ []) ∷ [];
      outcomes = [];
      forgotten = [];
      tables = table 1 (entry 5 value ∷ []) ∷ [];
    }

the_run_agrees : verdict_of scenario 4 (spoken (lines 0) ++ reported (report 7)) ≡ Agrees
unfolding audited opened
the_run_agrees = refl

another_read_differs : verdict_of scenario 4 (spoken (lines 1) ++ reported (report 7)) ≡ Differs 5 Fails.Answer
unfolding audited opened
another_read_differs = refl

another_table_differs : verdict_of scenario 4 (spoken (lines 0) ++ reported (report 8)) ≡ Differs 11 Fails.Table
unfolding audited opened
another_table_differs = refl

-- of two lines that differ the first is named
the_first_fault_is_named : verdict_of scenario 4 (spoken (lines 1) ++ reported (report 8)) ≡ Differs 5 Fails.Answer
unfolding audited opened
the_first_fault_is_named = refl

-- a local transaction sends nothing
another_place_differs : verdict_of scenario 4 (spoken (line (begin 1) (Say.Begun (tid 1 0)) (place 1 0 ∷ []) ∷ [])) ≡ Differs 4 Fails.Places
unfolding audited opened
another_place_differs = refl

-- the answer is named where the places differ too
answer_comes_before_places : verdict_of scenario 4 (spoken (line (begin 1) Say.Down (place 1 0 ∷ []) ∷ [])) ≡ Differs 4 Fails.Answer
unfolding audited opened
answer_comes_before_places = refl

a_misspelt_line_has_no_form : verdict_of scenario 4 (Spoken Neither ∷ spoken (lines 0) ++ reported (report 7)) ≡ Differs 4 Fails.Form
unfolding audited opened
a_misspelt_line_has_no_form = refl

no_report_has_no_form : verdict_of scenario 4 (spoken (lines 0)) ≡ Differs 8 Fails.Form
unfolding audited opened
no_report_has_no_form = refl

a_line_behind_the_end_has_no_form : verdict_of scenario 4 (spoken (lines 0) ++ reported (report 7) ++ Reported Last ∷ []) ≡ Differs 13 Fails.Form
unfolding audited opened
a_line_behind_the_end_has_no_form = refl

-- ---- not at rest

the_run_is_open : verdict_of scenario 4 (spoken (line (begin 1) (Say.Begun (tid 1 0)) [] ∷ []) ++ reported (report 7)) ≡ Differs 5 Fails.Open
unfolding audited opened
the_run_is_open = refl

an_actor_is_down : verdict_of scenario 4 (spoken (lines 0 ++ line (halt 1 0) (Say.Stopped 3) [] ∷ []) ++ reported (report 7)) ≡ Differs 9 Fails.Open
unfolding audited opened
an_actor_is_down = refl

a_trip_is_armed : verdict_of scenario 4 (spoken (lines 0 ++ line (trip 1 5 0) Say.Set [] ∷ []) ++ reported (report 7)) ≡ Differs 9 Fails.Open
unfolding audited opened
a_trip_is_armed = refl
