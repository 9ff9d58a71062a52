-- Two global transactions are prepared at both sites with opposite tickets. The first one commits, and the second one is refused
-- by a cycle. Had both committed, each would have read 0 where the other one wrote, which no serial order gives.
use Rattle.std.proofs.Common.{◌≡◌, Some, None, false, List, [], ◌∷◌, ◌++◌, map, reverse, inl, inr, refl, arith}
use Rattle.mdb_base.specs.declared.names.Engine.TheVariants.{Validation}
use Rattle.mdb_base.specs.declared.names.Tid.{Tid}
use Rattle.mdb_base.specs.declared.replies.Edge.{Edge}
use Rattle.mdb_base.specs.declared.replies.Reply.TheVariants as Reply_is
use Rattle.presumptions.specs.declared.Decision.TheVariants as Decided
use Rattle.presumptions.specs.declared.Protocol.TheVariants as By
use Rattle.order_laws.specs.Tickets.{Ticketed, IsEdge, IsCycle}
use Rattle.fed_rules.specs.declared.answers.Answer.TheVariants as Say
use Rattle.fed_rules.specs.declared.answers.Cause.TheVariants as For
use Rattle.fed_rules.specs.declared.commands.Line.{Line}
use Rattle.fed_rules.specs.declared.report.Report.{Report}
use Rattle.fed_rules.specs.declared.scenario.Scenario.{Scenario}
use Rattle.fed_rules.specs.Closing.{closed}
use Rattle.fed_rules.specs.Orders.{orders, IsMerge, due_of, first_tables, programs_of}
use Rattle.fed_rules.specs.Reports.{report_of}
use Rattle.fed_rules.specs.Right.{story_told, IsNext, IsRightStory}
use Rattle.fed_rules.specs.Scenarios.{sites}
use Rattle.fed_rules.specs.Serial.{serial_reads, serial_tables}
use Rattle.fed_rules.specs.Story.{Story, lines_of}
use Rattle.fed_rules.proofs.Opened.{opened}
use Rattle.fed_rules.proofs.Spelled.{at, key, tid, edge, get, set, site, step_at, global, scenario_of, go, again, give, take, place, line, entry, read_by, ended, table, ticket, voted, before}

abbrev pub scenario : Scenario
scenario =
    scenario_of
    (site 1 Validation By.Nothing ∷ site 2 Validation By.Nothing ∷ [])
    []
    (global 1 (step_at 1 (get 1) ∷ step_at 2 (set 2 5) ∷ [])
    ∷ global 2 (step_at 2 (get 2) ∷ step_at 1 (set 1 7) ∷ []) ∷ [])

-- the lines of the commands, the first one first
abbrev pub printed : List Line
printed =
    line (go 1) (Say.Begun (tid 1 0)) (place 1 0 ∷ [])
    ∷ line (go 2) (Say.Begun (tid 2 0)) (place 2 0 ∷ [])
    ∷ line (give 1 0) (Say.Did (tid 1 0) (Reply_is.Value 0)) (place 1 0 ∷ [])
    ∷ line (take 1 0) Say.Only (place 1 1 ∷ place 2 1 ∷ [])
    ∷ line (give 2 0) (Say.Did (tid 2 0) (Reply_is.Value 0)) (place 2 0 ∷ [])
    ∷ line (take 2 0) Say.Only (place 1 2 ∷ place 2 2 ∷ [])
    ∷ line (give 1 1) (Say.Did (tid 1 0) (Reply_is.Ticket 1)) (place 1 1 ∷ [])
    ∷ line (take 1 1) Say.Only (place 1 3 ∷ [])
    ∷ line (give 1 3) (Say.VotesYes (tid 1 0) 1) (place 1 2 ∷ [])
    ∷ line (take 1 2) Say.Voted []
    ∷ line (give 2 2) (Say.Did (tid 2 0) (Reply_is.Ticket 1)) (place 2 1 ∷ [])
    ∷ line (take 2 1) Say.Only (place 2 3 ∷ [])
    ∷ line (give 2 3) (Say.VotesYes (tid 2 0) 1) (place 2 2 ∷ [])
    ∷ line (take 2 2) Say.Voted []
    ∷ line (give 1 2) (Say.Did (tid 2 0) Reply_is.Done) (place 1 3 ∷ [])
    ∷ line (take 1 3) Say.Only (place 1 4 ∷ [])
    ∷ line (give 1 4) (Say.Did (tid 2 0) (Reply_is.Ticket 2)) (place 1 4 ∷ [])
    ∷ line (take 1 4) Say.Only (place 1 5 ∷ [])
    ∷ line (give 1 5) (Say.VotesYes (tid 2 0) 2) (place 1 5 ∷ [])
    ∷ line (give 2 1) (Say.Did (tid 1 0) Reply_is.Done) (place 2 3 ∷ [])
    ∷ line (take 2 3) Say.Only (place 2 4 ∷ [])
    ∷ line (give 2 4) (Say.Did (tid 1 0) (Reply_is.Ticket 2)) (place 2 4 ∷ [])
    ∷ line (take 2 4) Say.Only (place 2 5 ∷ [])
    ∷ line (give 2 5) (Say.VotesYes (tid 1 0) 2) (place 2 5 ∷ [])
    ∷ line (take 2 5) (Say.Decides Decided.Commit None false) (place 1 6 ∷ place 2 6 ∷ [])
    ∷ line (take 1 5) (Say.Decides Decided.Abort (Some (For.Cycle (edge (tid 2 0) (tid 1 0) 2 ∷ edge (tid 1 0) (tid 2 0) 1 ∷ []))) false) (place 1 7 ∷ place 2 7 ∷ [])
    ∷ []

-- the lines that closing adds
abbrev pub closing : List Line
closing =
    line (again (tid 1 0)) Say.Only (place 1 8 ∷ place 2 8 ∷ [])
    ∷ line (give 1 8) (Say.Settles (tid 1 0) Decided.Commit) (place 1 6 ∷ [])
    ∷ line (take 1 6) Say.Acked []
    ∷ line (give 2 8) (Say.Settles (tid 1 0) Decided.Commit) (place 2 6 ∷ [])
    ∷ line (take 2 6) Say.Forgets []
    ∷ line (again (tid 2 0)) Say.Only (place 1 9 ∷ place 2 9 ∷ [])
    ∷ line (give 1 9) (Say.Settles (tid 2 0) Decided.Abort) (place 1 7 ∷ [])
    ∷ line (take 1 7) Say.Acked []
    ∷ line (give 2 9) (Say.Settles (tid 2 0) Decided.Abort) (place 2 7 ∷ [])
    ∷ line (take 2 7) Say.Forgets []
    ∷ []

-- the last line first
abbrev lines : List Line
lines = reverse (printed ++ closing)

abbrev story : Story
story = story_told scenario lines

lines_are_right : lines_of story ≡ lines
unfolding opened
lines_are_right = refl

-- the refused attempt and the committed ones, with the tickets of their votes
abbrev pub attempts : List Ticketed
attempts = voted (tid 2 0) (ticket 1 2 ∷ ticket 2 1 ∷ []) ∷ voted (tid 1 0) (ticket 1 1 ∷ ticket 2 2 ∷ []) ∷ []

pub edge_1 : IsEdge attempts (edge (tid 2 0) (tid 1 0) 2)
edge_1 =
    record {
      from = voted (tid 2 0) (ticket 1 2 ∷ ticket 2 1 ∷ []);
      to = voted (tid 1 0) (ticket 1 1 ∷ ticket 2 2 ∷ []);
      has_from = inl refl;
      has_to = inr (inl refl);
      leaves = refl;
      enters = refl;
      precedes = record { smaller = ticket 2 1; greater = ticket 2 2; first = inr (inl refl); second = inr (inl refl); there = refl; here = refl; less = omega arith };
    }

pub edge_2 : IsEdge attempts (edge (tid 1 0) (tid 2 0) 1)
edge_2 =
    record {
      from = voted (tid 1 0) (ticket 1 1 ∷ ticket 2 2 ∷ []);
      to = voted (tid 2 0) (ticket 1 2 ∷ ticket 2 1 ∷ []);
      has_from = inr (inl refl);
      has_to = inl refl;
      leaves = refl;
      enters = refl;
      precedes = record { smaller = ticket 1 1; greater = ticket 1 2; first = inl refl; second = inl refl; there = refl; here = refl; less = omega arith };
    }

abbrev cycle : List Edge
cycle = edge (tid 2 0) (tid 1 0) 2 ∷ edge (tid 1 0) (tid 2 0) 1 ∷ []

pub cycle_is_one : IsCycle attempts (tid 2 0) cycle
cycle_is_one = record { some = λ e. cc; edges = (edge_1, (edge_2, tt)); round = (refl, (refl, refl)) }

-- so the refusal may be printed
refusal_is_next : IsNext scenario (story_told scenario (before 25 printed)) (line (take 1 5) (Say.Decides Decided.Abort (Some (For.Cycle (edge (tid 2 0) (tid 1 0) 2 ∷ edge (tid 1 0) (tid 2 0) 1 ∷ []))) false) (place 1 7 ∷ place 2 7 ∷ []))
unfolding opened
refusal_is_next = record { answer = (refl, refl, cycle_is_one); sends = refl }

each_line_is_next : IsRightStory scenario lines
unfolding opened
each_line_is_next = ((((((((((((((((((((((((((((((((((((tt, record { answer = refl; sends = refl }), record { answer = refl; sends = refl }), record { answer = refl; sends = refl }), record { answer = refl; sends = refl }), record { answer = refl; sends = refl }), record { answer = refl; sends = refl }), record { answer = refl; sends = refl }), record { answer = refl; sends = refl }), record { answer = refl; sends = refl }), record { answer = refl; sends = refl }), record { answer = refl; sends = refl }), record { answer = refl; sends = refl }), record { answer = refl; sends = refl }), record { answer = refl; sends = refl }), record { answer = refl; sends = refl }), record { answer = refl; sends = refl }), record { answer = refl; sends = refl }), record { answer = refl; sends = refl }), record { answer = refl; sends = refl }), record { answer = refl; sends = refl }), record { answer = refl; sends = refl }), record { answer = refl; sends = refl }), record { answer = refl; sends = refl }), record { answer = refl; sends = refl }), record { answer = refl; sends = refl }), record { answer = (refl, refl, cycle_is_one); sends = refl }), record { answer = refl; sends = refl }), record { answer = refl; sends = refl }), record { answer = refl; sends = refl }), record { answer = refl; sends = refl }), record { answer = refl; sends = refl }), record { answer = refl; sends = refl }), record { answer = refl; sends = refl }), record { answer = refl; sends = refl }), record { answer = refl; sends = refl }), record { answer = refl; sends = refl })

-- closing makes those lines and no others
closing_is_right : closed scenario (map (λ line. line.command) (reverse printed)) ≡ map (λ line. line.command) lines
unfolding opened
closing_is_right = refl

abbrev order : List Tid
order = tid 1 0 ∷ []

abbrev pub report : Report
report =
    record {
      order = order;
      reads = read_by (tid 1 0) (0 ∷ []) ∷ [];
      outcomes = ended (tid 1 0) Decided.Commit ∷ ended (tid 2 0) Decided.Abort ∷ [];
      forgotten = tid 1 0 ∷ tid 2 0 ∷ [];
      tables = table 1 [] ∷ table 2 (entry 2 5 ∷ []) ∷ [];
    }

report_is_right : report_of scenario story ≡ report
unfolding opened
report_is_right = refl

site_orders : orders scenario story ≡ (tid 1 0 ∷ []) ∷ (tid 1 0 ∷ []) ∷ []
unfolding opened
site_orders = refl

order_is_a_merge : IsMerge scenario story order
order_is_a_merge = rw site_orders (record { kept = (refl, (refl, tt)); named = refl })

-- running the programs of the order one after another gives each read and each table
serial_run_gives_the_reads : serial_reads (programs_of scenario order) (first_tables scenario) ≡ (0 ∷ []) ∷ []
serial_run_gives_the_reads = refl

serial_run_gives_table_2 : map (serial_tables (programs_of scenario order) (first_tables scenario) (at 2)) (key 2 ∷ []) ≡ 5 ∷ []
serial_run_gives_table_2 = refl

each_table_is_due : map (due_of scenario story) (sites scenario) ≡ map (λ table. table.rows) report.tables
unfolding opened
each_table_is_due = refl
