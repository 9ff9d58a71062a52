-- Two global transactions are prepared in opposite orders; the second one is refused for a cycle. Which edges may be printed for it.
use Rattle.std.proofs.Common.{◌≡◌, Some, false, List, [], ◌∷◌, ◌++◌, take as first, refl}
use Rattle.mdb_base.specs.declared.replies.Edge.{Edge}
use Rattle.presumptions.specs.declared.Decision.TheVariants as Decided
use Rattle.fed_rules.specs.declared.answers.Answer.TheVariants as Say
use Rattle.fed_rules.specs.declared.answers.Cause.TheVariants as For
use Rattle.fed_rules.specs.declared.commands.Line.{Line}
use Rattle.fed_rules.proofs.ForCallers.{closing, edge, line, opened, place, printed, report, scenario, take, tid}
use Rattle.audit_rules.specs.declared.verdict.Verdict.{Verdict}
use Rattle.audit_rules.specs.declared.verdict.Verdict.TheVariants.{Agrees, Differs}
use Rattle.audit_rules.specs.declared.verdict.What.TheVariants as Fails
use Rattle.audit_rules.proofs.Spoken.{spoken, reported, audited, verdict_of}

-- the line that refuses it, with these edges: the 26th one
abbrev refusal : List Edge → Line
refusal edges = line (take 1 5) (Say.Decides Decided.Abort (Some (For.Cycle edges)) false) (place 1 7 ∷ place 2 7 ∷ [])

-- the verdict where these edges are printed. The scenario has four lines, and then stands the line `printed`: the first printed one has the number 6
abbrev with_edges : List Edge → Verdict
with_edges edges = verdict_of scenario 6 (spoken (first 25 printed ++ refusal edges ∷ closing) ++ reported report)

-- from the refused attempt to the committed one, and back
abbrev out : Edge
out = edge (tid 2 0) (tid 1 0) 2

abbrev home : Edge
home = edge (tid 1 0) (tid 2 0) 1

the_cycle_agrees : with_edges (out ∷ home ∷ []) ≡ Agrees
unfolding audited opened
the_cycle_agrees = refl

-- the edges of a cycle are free, so it may go round twice
twice_round_agrees : with_edges (out ∷ home ∷ out ∷ home ∷ []) ≡ Agrees
unfolding audited opened
twice_round_agrees = refl

it_begins_at_the_refused_attempt : with_edges (home ∷ out ∷ []) ≡ Differs 31 Fails.Cycle
unfolding audited opened
it_begins_at_the_refused_attempt = refl

an_edge_closes_it : with_edges (out ∷ []) ≡ Differs 31 Fails.Cycle
unfolding audited opened
an_edge_closes_it = refl

-- at site 1 the second transaction has the greater ticket
each_edge_leads_to_a_greater_ticket : with_edges (edge (tid 2 0) (tid 1 0) 1 ∷ home ∷ []) ≡ Differs 31 Fails.Cycle
unfolding audited opened
each_edge_leads_to_a_greater_ticket = refl

it_has_an_edge : with_edges [] ≡ Differs 31 Fails.Cycle
unfolding audited opened
it_has_an_edge = refl
