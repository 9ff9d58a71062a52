-- A run that commits changes the table, and a run may write one key twice.
use Rattle.std.proofs.Common.{◌≡◌, ◌<◌, true, nat_eq, None, [], ◌∷◌, refl, subst, arith}
use Rattle.mdb_base.specs.declared.acts.PlainAct.TheVariants.{Write}
use Rattle.mdb_base.specs.declared.names.Engine.TheVariants.{Locking}
use Rattle.mdb_base.specs.declared.replies.Reply.TheVariants.{Done}
use Rattle.fed_rules.specs.Runs.{Wrote, Begins, Acts, Seals, Commits}
use Rattle.fed_rules.proofs.ForCallers.{key, tid}
use Rattle.refuted_rules.specs.Rows.{MissesTheTable, DoesNotRise, rows_of_the_start, puts_as_made}

pub commit_missed : MissesTheTable rows_of_the_start
commit_missed =
    record {
      start = record { kind = Locking; rows = []; doubtful = []; counter = 0; published = 0; owner = None };
      lines = Commits (tid 1 0) ∷ Seals (tid 1 0) 1 ∷ Acts (tid 1 0) (Write (key 1) 5) Done ∷ Begins (tid 1 0) 1 ∷ [];
      key = key 1;
      broken = λ e. (let same : nat_eq 0 5 ≡ true = subst (λ n. nat_eq 0 n ≡ true) e refl in cc);
    }

pub written_twice : DoesNotRise puts_as_made
written_twice =
    record {
      acts = Wrote (key 1) 2 ∷ Wrote (key 1) 1 ∷ [];
      broken = λ rises. (let less : 1 < 1 = rises.0 in omega (arith, less));
    }
