-- A transfer that adds twice, and two sites with a commit each.
use Rattle.std.proofs.Common.{◌≡◌, ◌<◌, ℕ, true, List, [], ◌∷◌, reverse, refl, ap, subst, inl, inr, arith}
use Rattle.mdb_base.specs.declared.names.Engine.TheVariants.{Locking}
use Rattle.mdb_base.specs.declared.names.SiteId.{SiteId}
use Rattle.presumptions.specs.declared.Protocol.TheVariants as By
use Rattle.fed_rules.specs.declared.commands.Command.{Command}
use Rattle.fed_rules.specs.declared.scenario.Scenario.{Scenario}
use Rattle.fed_rules.specs.declared.scenario.TxLine.{TxLine}
use Rattle.fed_rules.specs.Closing.{is_done}
use Rattle.fed_rules.specs.Plans.{IsScenario}
use Rattle.fed_rules.specs.Story.{story_of}
use Rattle.fed_rules.proofs.ForCallers.{at, begin, commit, local, opened, scenario_of, set, site, step}
use Rattle.made_laws.specs.WrongRules.{ChangesWorth, MissesACommit, committed_at_first, transfer_twice}

apart : at 2 ≡ at 1 → ⊥
apart e = unlike 2 1 (omega arith) (ap (λ (site : SiteId). site.0) e)
  where
    unlike : (m n : ℕ) → n < m → m ≡ n → ⊥
    unlike m n less same = omega (arith, less, same)

pub added_twice : ChangesWorth transfer_twice
added_twice =
    record {
      sites = at 1 ∷ at 2 ∷ [];
      distinct = (λ i. elim i [ inl e ↦ apart e | inr none ↦ absurd none ], (λ none. none, tt));
      bound = λ site. 1;
      tables = λ site key. 100;
      from = 1;
      key = 0;
      to = 2;
      other = 0;
      amount = 1;
      changed = λ e. (let more : 201 ≡ 200 = e in omega (arith, more));
    }

-- a local transaction at each of two sites
abbrev two_sites : Scenario
two_sites =
    scenario_of
    (site 1 Locking By.Nothing ∷ site 2 Locking By.Nothing ∷ [])
    []
    (local 1 1 (set 1 7 ∷ []) ∷ local 2 2 (set 1 8 ∷ []) ∷ [])

good : IsScenario two_sites
good =
    record {
      sites = record { range = refl; differ = refl };
      items = record { declared = refl; differ = refl; few = λ s. omega arith };
      transactions = record {
        in_place = refl;
        differ = refl;
        programs = (record { some = omega arith; few = omega arith; registers = refl }, (record { some = omega arith; few = omega arith; registers = refl }, tt));
      };
      clients = refl;
      turns = refl;
      tries = refl;
      links = record { range = refl; differ = refl; few = omega arith };
      stops = record { range = refl; few = λ actor. omega arith };
    }

abbrev commands : List Command
commands = reverse (begin 1 ∷ step 1 ∷ commit 1 ∷ begin 2 ∷ step 2 ∷ commit 2 ∷ [])

abbrev Done : TxLine → Type 0
Done line = is_done two_sites (story_of two_sites commands) line.tx ≡ true

first_done : Done (local 1 1 (set 1 7 ∷ []))
unfolding opened
first_done = refl

second_done : Done (local 2 2 (set 1 8 ∷ []))
unfolding opened
second_done = refl

pub second_missed : MissesACommit committed_at_first
unfolding opened
second_missed =
    record {
      scenario = two_sites;
      good = good;
      commands = commands;
      done = λ line i. elim i [ inl e ↦ subst Done e first_done | inr rest ↦ elim rest [ inl e ↦ subst Done e second_done | inr none ↦ absurd none ] ];
      missed = λ e. (let fewer : 1 ≡ 2 = e in cc);
    }
