-- For each wrong rule a list of commands whose story has no such order.
use Rattle.std.proofs.Common.{◌≡◌, true, List, [], ◌∷◌, reverse, inl, inr, refl, subst, arith}
use Rattle.mdb_base.specs.declared.names.Engine.TheVariants.{Locking, Validation}
use Rattle.mdb_base.specs.declared.names.Tid.{Tid}
use Rattle.mdb_base.specs.Names.{same_tid}
use Rattle.mdb_base.specs.Words.{Each}
use Rattle.presumptions.specs.declared.Protocol.{Protocol}
use Rattle.presumptions.specs.declared.Protocol.TheVariants as By
use Rattle.order_laws.specs.Chains.{Distinct}
use Rattle.order_laws.specs.Merge as merge
use Rattle.order_laws.proofs.ForCallers.{distinct_by_test, merge_acyclic, tells_tids}
use Rattle.fed_rules.specs.declared.commands.Command.{Command}
use Rattle.fed_rules.specs.declared.scenario.Scenario.{Scenario}
use Rattle.fed_rules.specs.Orders.{orders}
use Rattle.fed_rules.specs.Plans.{IsScenario}
use Rattle.fed_rules.specs.Reports.{printed_order}
use Rattle.fed_rules.specs.Story.{story_of}
use Rattle.fed_rules.proofs.ForCallers.{begin, commit, get, give, global, go, local, opened, scenario_of, set, site, step, step_at, take, tid}
use Rattle.commit_laws.specs.WrongRules.{BreaksTheOutcome, Rules, commits_forgotten_at_once, story_by}
use Rattle.commit_laws.proofs.ForCallers.{commits_forgotten_at_once_refuted}
use Rattle.federation_laws.specs.WrongRules.{commits_without_graph, by_decision_time, BreaksTheHeadline, HasNoOrder, IsNoMerge}

-- two global transactions without a common key, and a local one at each site between them
abbrev through_locals : Scenario
through_locals =
    scenario_of
    (site 1 Validation By.Nothing ∷ site 2 Validation By.Nothing ∷ [])
    []
    (global 1 (step_at 1 (get 1) ∷ step_at 2 (get 4) ∷ [])
    ∷ global 2 (step_at 2 (get 2) ∷ step_at 1 (get 3) ∷ [])
    ∷ local 3 1 (set 1 7 ∷ set 3 8 ∷ [])
    ∷ local 4 2 (set 2 9 ∷ set 4 6 ∷ []) ∷ [])

-- the first one reads and is prepared at site 1 before the local transaction there, and the second one behind it; at site 2 the other way round
abbrev both_prepared : List Command
both_prepared =
    reverse
    (go 1 ∷ go 2 ∷ give 1 0 ∷ take 1 0 ∷ give 2 0 ∷ take 2 0 ∷ give 1 1 ∷ take 1 1 ∷ give 1 3 ∷ take 1 2 ∷ give 2 2 ∷ take 2 1 ∷ give 2 3 ∷ take 2 2
    ∷ begin 3 ∷ step 3 ∷ step 3 ∷ commit 3 ∷ begin 4 ∷ step 4 ∷ step 4 ∷ commit 4
    ∷ give 1 2 ∷ take 1 3 ∷ give 1 4 ∷ take 1 4 ∷ give 1 5 ∷ give 2 1 ∷ take 2 3 ∷ give 2 4 ∷ take 2 4 ∷ give 2 5 ∷ take 2 5 ∷ take 1 5 ∷ [])

through_locals_is_good : IsScenario through_locals
through_locals_is_good =
    record {
      sites = record { range = refl; differ = refl };
      items = record { declared = refl; differ = refl; few = λ s. omega arith };
      transactions = record {
        in_place = refl;
        differ = refl;
        programs = (
          record { some = omega arith; few = omega arith; registers = refl },
          (
            record { some = omega arith; few = omega arith; registers = refl },
            (record { some = omega arith; few = omega arith; registers = refl }, (record { some = omega arith; few = omega arith; registers = refl }, tt)),
          ),
        );
      };
      clients = refl;
      turns = refl;
      tries = refl;
      links = record { range = refl; differ = refl; few = omega arith };
      stops = record { range = refl; few = λ actor. omega arith };
    }

-- both committed, and each site has them the other way round
opposite_orders : orders through_locals (story_by commits_without_graph through_locals both_prepared) ≡ (tid 1 0 ∷ tid 3 0 ∷ tid 2 0 ∷ []) ∷ (tid 2 0 ∷ tid 4 0 ∷ tid 1 0 ∷ []) ∷ []
unfolding opened
opposite_orders = refl

distinct_orders : Each Distinct ((tid 1 0 ∷ tid 3 0 ∷ tid 2 0 ∷ []) ∷ (tid 2 0 ∷ tid 4 0 ∷ tid 1 0 ∷ []) ∷ [])
distinct_orders = (distinct_by_test same_tid tells_tids (tid 1 0 ∷ tid 3 0 ∷ tid 2 0 ∷ []) refl, (distinct_by_test same_tid tells_tids (tid 2 0 ∷ tid 4 0 ∷ tid 1 0 ∷ []) refl, tt))

-- orders that stand so have no merge
no_merge : (order : List Tid) → merge.IsMerge same_tid ((tid 1 0 ∷ tid 3 0 ∷ tid 2 0 ∷ []) ∷ (tid 2 0 ∷ tid 4 0 ∷ tid 1 0 ∷ []) ∷ []) order → ⊥
no_merge order m =
    merge_acyclic same_tid _ order distinct_orders m (tid 1 0) (tid 2 0 ∷ [])
    (inl (inl (refl, inr (inl refl))), inr (inl (inl (refl, inr (inl refl)))))

pub commits_without_graph_refuted : HasNoOrder commits_without_graph
commits_without_graph_refuted =
    record {
      scenario = through_locals;
      good = through_locals_is_good;
      commands = both_prepared;
      none = λ order m. no_merge order (subst (λ all. merge.IsMerge same_tid all order) opposite_orders m);
    }

-- the second one is decided first, and has the greater ticket
abbrev one_site : Scenario
one_site = scenario_of (site 1 Locking By.Nothing ∷ []) [] (global 1 (step_at 1 (set 1 1) ∷ []) ∷ global 2 (step_at 1 (set 2 2) ∷ []) ∷ [])

abbrev second_first : List Command
second_first =
    reverse (go 1 ∷ go 2 ∷ give 1 0 ∷ give 1 1 ∷ take 1 0 ∷ take 1 1 ∷ give 1 2 ∷ take 1 2 ∷ give 1 4 ∷ give 1 3 ∷ take 1 4 ∷ give 1 5 ∷ take 1 5 ∷ take 1 3 ∷ [])

one_site_is_good : IsScenario one_site
one_site_is_good =
    record {
      sites = record { range = refl; differ = refl };
      items = record { declared = refl; differ = refl; few = λ s. omega arith };
      transactions = record {
        in_place = refl;
        differ = refl;
        programs = (record { some = omega arith; few = omega arith; registers = refl }, (record { some = omega arith; few = omega arith; registers = refl }, tt));
      };
      clients = refl;
      turns = refl;
      tries = refl;
      links = record { range = refl; differ = refl; few = omega arith };
      stops = record { range = refl; few = λ actor. omega arith };
    }

ticket_order : orders one_site (story_of one_site second_first) ≡ (tid 1 0 ∷ tid 2 0 ∷ []) ∷ []
unfolding opened
ticket_order = refl

decision_order : by_decision_time one_site (story_of one_site second_first) ≡ tid 2 0 ∷ tid 1 0 ∷ []
unfolding opened
decision_order = refl

not_kept : merge.IsMerge same_tid ((tid 1 0 ∷ tid 2 0 ∷ []) ∷ []) (tid 2 0 ∷ tid 1 0 ∷ []) → ⊥
not_kept m = (let kept : tid 2 0 ∷ tid 1 0 ∷ [] ≡ tid 1 0 ∷ tid 2 0 ∷ [] = m.kept.0 in let first : tid 2 0 ≡ tid 1 0 = cc in clash first)
  where
    clash : tid 2 0 ≡ tid 1 0 → ⊥
    clash e = let apart : same_tid (tid 2 0) (tid 1 0) ≡ true = subst (λ t. same_tid (tid 2 0) t ≡ true) e refl in cc

pub by_decision_time_refuted : IsNoMerge by_decision_time
by_decision_time_refuted =
    record {
      scenario = one_site;
      good = one_site_is_good;
      commands = second_first;
      wrong = λ m. not_kept (subst (λ order. merge.IsMerge same_tid ((tid 1 0 ∷ tid 2 0 ∷ []) ∷ []) order) decision_order
          (subst (λ all. merge.IsMerge same_tid all (by_decision_time one_site (story_of one_site second_first))) ticket_order m));
    }

-- a story without an order for all sites has no headline, and neither has one in which a site settles otherwise than by the outcome
unordered : (rules : Rules) → HasNoOrder rules → BreaksTheHeadline rules
unordered rules wrong =
    record {
      scenario = wrong.scenario;
      good = wrong.good;
      commands = wrong.commands;
      broken = λ headline. wrong.none (printed_order wrong.scenario (story_by rules wrong.scenario wrong.commands)) headline.is_merge;
    }

ends_apart : (rules : Rules) (protocol : Protocol) (wrong : BreaksTheOutcome rules protocol) → IsScenario wrong.scenario → BreaksTheHeadline rules
ends_apart rules protocol wrong good =
    record {
      scenario = wrong.scenario;
      good = good;
      commands = wrong.commands;
      broken = λ headline. wrong.wrong (headline.ends_alike wrong.site wrong.tid wrong.decision wrong.settles);
    }

pub without_graph_broken : BreaksTheHeadline commits_without_graph
without_graph_broken = unordered commits_without_graph commits_without_graph_refuted

good_by_abort : IsScenario commits_forgotten_at_once_refuted.scenario
unfolding commits_forgotten_at_once_refuted
good_by_abort =
    record {
      sites = record { range = refl; differ = refl };
      items = record { declared = refl; differ = refl; few = λ s. omega arith };
      transactions = record { in_place = refl; differ = refl; programs = (record { some = omega arith; few = omega arith; registers = refl }, tt) };
      clients = refl;
      turns = refl;
      tries = refl;
      links = record { range = refl; differ = refl; few = omega arith };
      stops = record { range = refl; few = λ actor. omega arith };
    }

pub forgotten_broken : BreaksTheHeadline commits_forgotten_at_once
forgotten_broken = ends_apart commits_forgotten_at_once By.Abort commits_forgotten_at_once_refuted good_by_abort
