-- A usable journal of the coordinator stays usable behind an End of an attempt without one, and behind a Checkpoint that is its Sum; so do its fronts;
-- and the Checkpoint alone is usable.
use Rattle.std.proofs.Common.{◌≡◌, not, List, [], ◌∷◌, ◌++◌, map, refl, sym, subst, inl, inr}
use Rattle.mdb_base.specs.declared.names.Tid.{Tid}
use Rattle.mdb_base.specs.declared.names.Tx.{Tx}
use Rattle.mdb_base.specs.Words.{Among, Each, those}
use Rattle.mdb_base.proofs.ForCallers.{append_each, each_all}
use Rattle.order_laws.specs.Chains.{In}
use Rattle.order_laws.specs.Tickets.{HasNoCycle}
use Rattle.order_laws.proofs.ForCallers.{each_from}
use Rattle.presumptions.specs.declared.Participant.{Participant}
use Rattle.fed_rules.specs.declared.records.CoordRecord.{CoordRecord}
use Rattle.fed_rules.specs.declared.records.CoordRecord.TheVariants.{Initiation, Commit, Abort, End, Checkpoint}
use Rattle.fed_rules.specs.declared.sums.CommittedAttempt.{CommittedAttempt}
use Rattle.fed_rules.specs.declared.sums.CoordSum.{CoordSum}
use Rattle.fed_rules.specs.declared.sums.OpenAttempt.{OpenAttempt}
use Rattle.fed_rules.specs.CoordRecords.{commits}
use Rattle.fed_rules.specs.CoordSums.{committed_with, coord_sum, open_with}
use Rattle.fed_rules.specs.Reopened.{commit_read, coord_sum_read, end_read, initiation_read, is_open_in}
use Rattle.fed_rules.specs.Usable.{CommitOnce, CoordSumsFit, IsAttemptOf, IsCoordBelow, IsDeclaredAt, IsEndOf, IsSumOfOpen, IsTicketBelow, IsUsableCoordinator, NamesSites, StandInOrder, coord_read}
use Rattle.coord_laws.specs.FoundCoordinators.{MembersRise, RiseBySite}
use Rattle.coord_laws.proofs.ForCallers.{commit_behind, order_behind}
use Rattle.disk_laws.proofs.ForCallers.{BehindSum, Commits, HasRisingMembers, IsNaming, committed_from, committed_names, fewer_cycles, is_of_open, older_fit, once_front, open_from, opened_names, opened_rising, read_acyclic, read_first, read_once, sum_names, sum_stands}

pub read_more : (r next : CoordRecord) (older : List CoordRecord) → coord_read (r ∷ next ∷ older) ≡ r ∷ coord_read (next ∷ older)
read_more (Initiation t ms) next older = refl
read_more (Commit t ks) next older = refl
read_more (Abort t ms) next older = refl
read_more (End t) next older = refl
read_more (Checkpoint sum) next older = refl

-- ---- what holds of a journal's records holds of those read

module _ (P Q : CoordRecord → Type 0) (pass : (r : CoordRecord) → Q r → P r) (ends : (c : CommittedAttempt) → P (end_read c))
    (commits_so : (sum : CoordSum) → Q (Checkpoint sum) → Each (λ c. P (commit_read c)) sum.committed)
    (opens_so : (sum : CoordSum) → Q (Checkpoint sum) → Each (λ o. P (initiation_read o)) sum.open_attempts) where
  to_map : {A : Type 0} (f : A → CoordRecord) (xs : List A) → Each (λ x. P (f x)) xs → Each P (map f xs)
  to_map f [] a = tt
  to_map f (x ∷ xs) a = (a.0, to_map f xs a.1)

  each_first : (sum : CoordSum) → Q (Checkpoint sum) → Each P (coord_sum_read sum)
  each_first sum q =
      let closed = those (λ (attempt : CommittedAttempt). not (is_open_in sum attempt.tid)) sum.committed in
      append_each P (map end_read closed ++ map commit_read sum.committed) (map initiation_read sum.open_attempts)
      (append_each P (map end_read closed) (map commit_read sum.committed) (to_map end_read closed (each_all (λ c. P (end_read c)) ends closed))
      (to_map commit_read sum.committed (commits_so sum q)))
      (to_map initiation_read sum.open_attempts (opens_so sum q))

  each_read : (js : List CoordRecord) → Each Q js → Each P (coord_read js)
  each_read [] a = tt
  each_read (r ∷ next ∷ older) a = subst (Each P) (sym (read_more r next older)) (pass r a.0, each_read (next ∷ older) a.1)
  each_read (Checkpoint sum ∷ []) a = (pass (Checkpoint sum) a.0, each_first sum a.0)
  each_read (Initiation t ms ∷ []) a = (pass (Initiation t ms) a.0, tt)
  each_read (Commit t ks ∷ []) a = (pass (Commit t ks) a.0, tt)
  each_read (Abort t ms ∷ []) a = (pass (Abort t ms) a.0, tt)
  each_read (End t ∷ []) a = (pass (End t) a.0, tt)

-- tickets below 2^62
abbrev IsUnder : CoordRecord → Type 0
IsUnder (Commit t ks) = Each IsTicketBelow ks
IsUnder other = Unit {0}

committed_under : (rs : List CoordRecord) → Each IsUnder rs → (c : CommittedAttempt) → Among (Commits (λ d. d ≡ c)) rs → Each IsTicketBelow c.tickets
committed_under [] a c m = absurd m
committed_under (Commit t ks ∷ rs) a c (inl e) = subst (λ (d : CommittedAttempt). Each IsTicketBelow d.tickets) e a.0
committed_under (Initiation t ms ∷ rs) a c (inl never) = absurd never
committed_under (Abort t ms ∷ rs) a c (inl never) = absurd never
committed_under (End t ∷ rs) a c (inl never) = absurd never
committed_under (Checkpoint sum ∷ rs) a c (inl never) = absurd never
committed_under (r ∷ rs) a c (inr m) = committed_under rs a.1 c m

module _ (protocols : List Participant) where
  naming_one : (r : CoordRecord) → NamesSites protocols r → IsNaming protocols r
  naming_one (Initiation t ms) n = n
  naming_one (Commit t ks) n = n
  naming_one (Abort t ms) n = n
  naming_one (End t) n = tt
  naming_one (Checkpoint sum) n = tt

  naming : (js : List CoordRecord) → Each (NamesSites protocols) js → Each (IsNaming protocols) (coord_read js)
  naming js a = each_read (IsNaming protocols) (NamesSites protocols) naming_one (λ c. tt) (λ sum q. q.1) (λ sum q. q.0) js a

  under_one : (r : CoordRecord) → IsCoordBelow r → IsUnder r
  under_one (Initiation t ms) b = tt
  under_one (Commit t ks) b = b
  under_one (Abort t ms) b = tt
  under_one (End t) b = tt
  under_one (Checkpoint sum) b = tt

  under : (js : List CoordRecord) → Each IsCoordBelow js → Each IsUnder (coord_read js)
  under js a = each_read IsUnder IsCoordBelow under_one (λ c. tt) (λ sum q. q) (λ sum q. each_all (λ (o : OpenAttempt). Unit {0}) (λ o. tt) sum.open_attempts) js a

  rising_one : (r : CoordRecord) → MembersRise r → HasRisingMembers r
  rising_one (Initiation t ms) b = b
  rising_one (Commit t ks) b = tt
  rising_one (Abort t ms) b = b
  rising_one (End t) b = tt
  rising_one (Checkpoint sum) b = tt

  rising : (js : List CoordRecord) → Each MembersRise js → Each HasRisingMembers (coord_read js)
  rising js a =
      each_read HasRisingMembers MembersRise rising_one (λ c. tt) (λ sum q. each_all (λ (c : CommittedAttempt). Unit {0}) (λ c. tt) sum.committed) (λ sum q. q) js a

  -- ---- the journal goes on

  pub record IsGoingCoord (found js : List CoordRecord) : Type 0 where
    pub usable : IsUsableCoordinator protocols js
    pub members : Each MembersRise js
    pub names : (tx : Tx) → Among (IsAttemptOf tx) (coord_read js) → Among (IsAttemptOf tx) (coord_read found)

  -- what stands before the newest record is usable
  pub coord_front : (found : List CoordRecord) (r : CoordRecord) (rest : List CoordRecord) → IsGoingCoord found (r ∷ rest) → IsGoingCoord found rest
  coord_front found r [] u = record {
    usable = record {
      below = tt;
      sums = tt;
      order = tt;
      once = tt;
      sums_of_open = tt;
      sites = tt;
      cycle_free = fewer_cycles [] (commits (coord_read (r ∷ []))) (λ a i. absurd i) u.usable.cycle_free;
    };
    members = tt;
    names = λ tx m. absurd m;
  }
  coord_front found r (next ∷ older) u =
      let now = coord_read (next ∷ older) in
      let all = read_more r next older in
      record {
        usable = record {
          below = u.usable.below.1;
          sums = older_fit protocols r (next ∷ older) u.usable.sums;
          order = order_behind r now (subst StandInOrder all u.usable.order);
          once = once_front (r ∷ []) now (subst CommitOnce all u.usable.once);
          sums_of_open = u.usable.sums_of_open.1;
          sites = u.usable.sites.1;
          cycle_free = fewer_cycles (commits now) (commits (r ∷ now)) (commit_behind r now) (subst (λ rs. HasNoCycle (commits rs)) all u.usable.cycle_free);
        };
        members = u.members.1;
        names = λ tx m. u.names tx (subst (Among (IsAttemptOf tx)) (sym all) (inr m));
      }

  -- behind an End of an attempt that has none and a record
  pub coord_ended : (found : List CoordRecord) (t : Tid) (rest : List CoordRecord) → (Among (IsEndOf t) (coord_read rest) → ⊥) → Among (IsAttemptOf t.tx) (coord_read rest)
      → IsGoingCoord found rest → IsGoingCoord found (End t ∷ rest)
  coord_ended found t rest none there u = record {
    usable = record {
      below = (tt, u.usable.below);
      sums = by_rest rest u.usable.sums;
      order = (none, u.usable.order);
      once = u.usable.once;
      sums_of_open = (tt, u.usable.sums_of_open);
      sites = (tt, u.usable.sites);
      cycle_free = u.usable.cycle_free;
    };
    members = (tt, u.members);
    names = λ tx m. by_both tx m;
  }
    where
      by_rest : (rs : List CoordRecord) → CoordSumsFit protocols rs → CoordSumsFit protocols (End t ∷ rs)
      by_rest [] f = tt
      by_rest (r ∷ rs) f = f

      by_both : (tx : Tx) → Among (IsAttemptOf tx) (End t ∷ coord_read rest) → Among (IsAttemptOf tx) (coord_read found)
      by_both tx (inl e) = subst (λ x. Among (IsAttemptOf x) (coord_read found)) e (u.names t.tx there)
      by_both tx (inr m) = u.names tx m

  module _ (rise : RiseBySite protocols) (found js : List CoordRecord) (u : IsGoingCoord found js) where
    abbrev rs : List CoordRecord
    rs = coord_read js

    abbrev sum : CoordSum
    sum = coord_sum protocols rs

    below : IsCoordBelow (Checkpoint sum)
    below = each_from (λ (attempt : CommittedAttempt). Each IsTicketBelow attempt.tickets) (committed_with [] rs)
        (λ c i. committed_under rs (under js u.usable.below) c (committed_from (λ d. d ≡ c) rs i))

    sites : NamesSites protocols (Checkpoint sum)
    sites = (
      each_from (λ (attempt : OpenAttempt). Each (λ member. In member protocols) attempt.participants) (open_with protocols [] rs) (opened_names protocols rs (naming js u.usable.sites)),
      each_from (λ (attempt : CommittedAttempt). Each (IsDeclaredAt protocols) attempt.tickets) (committed_with [] rs) (committed_names protocols rs (naming js u.usable.sites)),
    )

    of_open : IsSumOfOpen sum
    of_open = is_of_open protocols rs u.usable.once u.usable.order

    members : MembersRise (Checkpoint sum)
    members = each_from (λ (attempt : OpenAttempt). RiseBySite attempt.participants) (open_with protocols [] rs)
        (λ o i. opened_rising protocols rise rs (rising js u.members) o (open_from protocols (λ p. p ≡ o) rs i))

    pub coord_alone : IsGoingCoord found (Checkpoint sum ∷ [])
    coord_alone = record {
      usable = record {
        below = (below, tt);
        sums = tt;
        order = sum_stands protocols rs u.usable.once;
        once = read_once protocols (Checkpoint sum ∷ rs) (Checkpoint sum ∷ coord_sum_read sum) (BehindSum [] rs refl refl) u.usable.once;
        sums_of_open = (of_open, tt);
        sites = (sites, tt);
        cycle_free = read_acyclic protocols (Checkpoint sum ∷ rs) (Checkpoint sum ∷ coord_sum_read sum) (BehindSum [] rs refl refl) u.usable.cycle_free;
      };
      members = (members, tt);
      names = λ tx m. by_both tx m;
    }
      where
        by_both : (tx : Tx) → Among (IsAttemptOf tx) (Checkpoint sum ∷ coord_sum_read sum) → Among (IsAttemptOf tx) (coord_read found)
        by_both tx (inl never) = absurd never
        by_both tx (inr m) = u.names tx (sum_names protocols tx rs (read_first tx sum m))

  pub coord_checked : RiseBySite protocols → (found : List CoordRecord) (js : List CoordRecord) → IsGoingCoord found js
      → IsGoingCoord found (Checkpoint (coord_sum protocols (coord_read js)) ∷ js)
  coord_checked rise found [] u = coord_alone rise found [] u
  coord_checked rise found (next ∷ older) u =
      let js : List CoordRecord = next ∷ older in
      record {
        usable = record {
          below = (below rise found js u, u.usable.below);
          sums = (refl, u.usable.sums);
          order = u.usable.order;
          once = u.usable.once;
          sums_of_open = (of_open rise found js u, u.usable.sums_of_open);
          sites = (sites rise found js u, u.usable.sites);
          cycle_free = u.usable.cycle_free;
        };
        members = (members rise found js u, u.members);
        names = λ tx m. by_both u tx m;
      }
    where
      by_both : IsGoingCoord found (next ∷ older) → (tx : Tx)
          → Among (IsAttemptOf tx) (coord_read (Checkpoint (coord_sum protocols (coord_read (next ∷ older))) ∷ next ∷ older)) → Among (IsAttemptOf tx) (coord_read found)
      by_both v tx (inl never) = absurd never
      by_both v tx (inr m) = v.names tx m
