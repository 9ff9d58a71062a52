-- What each wrong rule takes for right that isn't, or names in place of the first that fails.
use Rattle.std.proofs.Common.{◌≡◌, ℕ, ◌+◌, false, Some, None, List, [], ◌∷◌, ◌++◌, length, refl, ap, arith}
use Rattle.mdb_base.specs.declared.names.Engine.TheVariants.{Locking}
use Rattle.mdb_base.specs.declared.names.Tid.{Tid}
use Rattle.mdb_base.specs.declared.replies.Edge.{Edge}
use Rattle.presumptions.specs.declared.Decision.TheVariants as Decided
use Rattle.presumptions.specs.declared.Protocol.TheVariants as By
use Rattle.fed_rules.specs.declared.answers.Answer.TheVariants as Say
use Rattle.fed_rules.specs.declared.answers.Cause.TheVariants as For
use Rattle.fed_rules.specs.declared.commands.Line.{Line}
use Rattle.fed_rules.specs.declared.scenario.Scenario.{Scenario}
use Rattle.fed_rules.specs.Right.{story_told}
use Rattle.fed_rules.specs.Story.{Story}
use Rattle.fed_rules.proofs.ForCallers.{before, begin, edge, get, line, local, opened, place, scenario_of, site, take, tid, trip}
use Rattle.fed_rules.proofs.ForCallers as Opposite
use Rattle.audit_rules.specs.declared.verdict.What.TheVariants as Fails
use Rattle.audit_rules.specs.Agreement.{Printed, Says, Orders, Neither}
use Rattle.audit_rules.specs.Agreements.{ReadsAs}
use Rattle.audit_rules.specs.Differences.{FailsNext}
use Rattle.audit_rules.specs.WrongRules.{FaultsTheNextLine, NamesALaterReason, NamesAnotherLine, TakesForACycle, TakesForAMerge, TakesForRest, counted_from_zero, last_fault, names_again, names_some, places_first, rests_armed, whole_answers, without_closing_edge}
use Rattle.audit_rules.proofs.Cycles.{cycle_means}
use Rattle.audit_rules.proofs.Spoken.{audited}

-- ---- cycles

pub unclosed_taken : TakesForACycle without_closing_edge
unclosed_taken =
    record {
      attempts = Opposite.attempts;
      tid = tid 2 0;
      edges = edge (tid 2 0) (tid 1 0) 2 ∷ [];
      passed = refl;
      none = λ c. (let round : 1 ≡ 2 = ap (λ (t : Tid). t.tx.0) c.round.1 in cc);
    }

-- ---- lines

-- the story before the refusal
abbrev until_refusal : Story
until_refusal = story_told Opposite.scenario (before 25 Opposite.printed)

-- a cycle that goes round twice
abbrev twice_round : List Edge
twice_round = edge (tid 2 0) (tid 1 0) 2 ∷ edge (tid 1 0) (tid 2 0) 1 ∷ edge (tid 2 0) (tid 1 0) 2 ∷ edge (tid 1 0) (tid 2 0) 1 ∷ []

pub other_edges_faulted : FaultsTheNextLine whole_answers
unfolding audited opened
other_edges_faulted =
    record {
      scenario = Opposite.scenario;
      story = until_refusal;
      line = line (take 1 5) (Say.Decides Decided.Abort (Some (For.Cycle twice_round)) false) (place 1 7 ∷ place 2 7 ∷ []);
      declared = refl;
      next = record { answer = (refl, refl, cycle_means Opposite.attempts (tid 2 0) twice_round refl); sends = refl };
      faulted = λ e. cc;
    }

-- a site with one local transaction
abbrev one_local : Scenario
one_local = scenario_of (site 1 Locking By.Nothing ∷ []) [] (local 1 1 (get 5 ∷ []) ∷ [])

-- the answer is another one, and the places too
pub places_named : NamesALaterReason places_first
unfolding audited opened
places_named =
    record {
      scenario = one_local;
      story = [];
      line = line (begin 1) Say.Down (place 1 0 ∷ []);
      what = Fails.Places;
      named = refl;
      wrong = λ f. (let same : Say.Down ≡ Say.Begun (tid 1 0) = f.1 in cc);
    }

-- ---- the end of the lines

pub armed_rests : TakesForRest rests_armed
unfolding audited opened
armed_rests =
    record {
      scenario = one_local;
      story = story_told one_local (line (trip 0 5 0) Say.Set [] ∷ []);
      passed = refl;
      unrest = λ r. (let none : Some (record { calls = 5; cut = 0 }) ≡ None = r.coordinator_untripped in cc);
    }

pub shorter_taken : TakesForAMerge names_some
unfolding audited
shorter_taken =
    record {
      orders = (tid 1 0 ∷ []) ∷ (tid 2 0 ∷ []) ∷ [];
      order = tid 1 0 ∷ [];
      passed = refl;
      none = λ m. (let kept : [] ≡ tid 2 0 ∷ [] = m.kept.1.0 in cc);
    }

pub longer_taken : TakesForAMerge names_again
unfolding audited
longer_taken =
    record {
      orders = (tid 1 0 ∷ []) ∷ [];
      order = tid 1 0 ∷ tid 1 0 ∷ [];
      passed = refl;
      none = λ m. (let kept : tid 1 0 ∷ tid 1 0 ∷ [] ≡ tid 1 0 ∷ [] = m.kept.0 in cc);
    }

-- ---- verdicts

-- two misspelt lines
abbrev misspelt : List Printed
misspelt = Neither ∷ Neither ∷ []

pub zero_named : NamesAnotherLine counted_from_zero
unfolding audited
zero_named =
    record {
      scenario = one_local;
      texts = misspelt;
      line = 0;
      what = Fails.Form;
      named = refl;
      wrong = λ place e d. omega (arith, e);
    }

-- a misspelt line isn't read, so what is named behind none is the first line
first_fails : (spoken left : List Printed) (lines : List Line) (within place : ℕ) → misspelt ≡ spoken ++ left
    → ReadsAs (λ printed. printed) spoken [] lines
    → FailsNext (λ printed. printed) (λ printed entry. false) one_local (story_told one_local lines) left within Fails.Form
    → place ≡ length spoken + within → 3 ≡ 1 + place → ⊥
first_fails [] [] lines within place parts reads fails is e = cc
first_fails [] (Says line ∷ left) lines within place parts reads fails is e = cc
first_fails [] (Orders order ∷ left) lines within place parts reads fails is e = cc
first_fails [] (Neither ∷ left) lines within place parts reads fails is e = (let at_once : within ≡ 0 = fails.0 in omega (arith, at_once, is, e))
first_fails (Says line ∷ spoken) left lines within place parts reads fails is e = cc
first_fails (Orders order ∷ spoken) left lines within place parts reads fails is e = cc
first_fails (Neither ∷ spoken) left lines within place parts reads fails is e = (let says : Neither ≡ Says reads.0 = reads.1 in cc)

pub last_named : NamesAnotherLine last_fault
unfolding audited
last_named =
    record {
      scenario = one_local;
      texts = misspelt;
      line = 3;
      what = Fails.Form;
      named = refl;
      wrong = λ place e d. first_fails d.spoken d.left d.lines d.within place d.parts d.are_lines d.fails d.place_is e;
    }
