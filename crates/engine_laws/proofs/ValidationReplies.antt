-- The replies of a validation site, in the words of the field.
use Rattle.std.proofs.Common.{◌≡◌, ◌≢◌, ℕ, ◌+◌, ◌≤◌, ◌⊎◌, Bool, true, false, cond, not, ◌&&◌, ◌==◌, Option, Some, None, is_some, List, [], ◌∷◌, map, refl, sym, ap, ◌∙◌, subst, inl, inr, arith, eqb-true, eq-eqb}
use Rattle.std.proofs.lemmas.Bool.{and_parts, and_from, not-true, not_from_false, eqb-false}
use Rattle.mdb_base.specs.declared.names.Engine.TheVariants.{Validation}
use Rattle.mdb_base.specs.declared.names.Key.{Key}
use Rattle.mdb_base.specs.declared.names.Tid.{Tid}
use Rattle.mdb_base.specs.declared.replies.Why.TheVariants.{Invalid, TicketMoved}
use Rattle.mdb_base.specs.Names.{same_tid}
use Rattle.mdb_base.specs.Words.{Each, Among, those, least, greatest, is_empty}
use Rattle.mdb_base.proofs.ForCallers.{among_map, among_some, each_among, each_map, each_self, each_those, greatest_among, greatest_greatest, greatest_none, least_among, least_least, least_none, map_among, same_key-equal, some_among, those_each}
use Rattle.fed_rules.specs.Runs.{Start, EngineLine, Access, Got, Wrote, Run, unended, committed_since, published, owner, is_sealed, number}
use Rattle.fed_rules.specs.Replies.{access_key, reads, writes, granted, access_stop, ticket_stop, has_read, has_written, is_other, spoilers, bad_keys, invalid, invalid_at, invalid_by, moved, moved_by, or_reply, or_why, seal_stop}
use Rattle.fed_rules.specs.EngineLines.{IsRight, IsStart}
use Rattle.engine_laws.specs.Laws.{AlwaysBy}
use Rattle.engine_laws.specs.ReplyLaws.{IsUnended, IsAmong, HasRead, HasWritten, HasAccess, Spoils, IsBad, IsLeastBad, IsLastSpoiler, IsValidated, AlwaysGrants, SealsByValidation, next_ticket}
use Rattle.engine_laws.proofs.Runs.{number_is}
use Rattle.engine_laws.proofs.Drawers.{IsDrawer, AllDrew, all_drew, same_number}
use Rattle.engine_laws.proofs.Relations.{Lists, each_listed, lists_self, lists_unended, lists_those, lists_append, lists_as, lists_none}
use Rattle.engine_laws.proofs.ValidationTickets.{owned}

-- who is sealed
sealed_from : (run : Run) → is_sealed run ≡ true → (n : ℕ) × (run.sealed ≡ Some n)
sealed_from run e = by_number run.sealed refl e
  where
    by_number : (o : Option ℕ) → run.sealed ≡ o → is_some o ≡ true → (n : ℕ) × (run.sealed ≡ Some n)
    by_number None is e = cc
    by_number (Some n) is e = (n, is)

-- the runs that make an accessed key bad
lists_spoilers : (start : Start) (lines : List EngineLine) (me : Run) (key : Key) → IsRight start lines → HasAccess key me
    → Lists (spoilers start lines me key) (Spoils start lines me key)
lists_spoilers start lines me key right accessed =
    lists_as (spoilers start lines me key) Found (Spoils start lines me key) to from
    (lists_append (those past (committed_since start lines me.tid)) (those prepared (unended start lines)) FoundPast FoundPrepared
    (lists_those (committed_since start lines me.tid) (λ run. IsAmong run (committed_since start lines me.tid)) past
    (lists_self (committed_since start lines me.tid)))
    (lists_those (unended start lines) (IsUnended start lines) prepared (lists_unended start lines right)))
  where
    past : Run → Bool
    past = λ run. has_read key me && has_written key run

    prepared : Run → Bool
    prepared = λ run. is_other me run && is_sealed run && has_written key run

    FoundPast : Run → Type 0
    FoundPast run = IsAmong run (committed_since start lines me.tid) × (past run ≡ true)

    FoundPrepared : Run → Type 0
    FoundPrepared run = IsUnended start lines run × (prepared run ≡ true)

    Found : Run → Type 0
    Found run = FoundPast run ⊎ FoundPrepared run

    to : (run : Run) → Found run → Spoils start lines me key run
    to run (inl (among, passed)) =
        let parts = and_parts (has_read key me) (has_written key run) passed in
        record { wrote = some_among (writes key) run.acts parts.1; way = inl (some_among (reads key) me.acts parts.0, among) }
    to run (inr (at, passed)) =
        let parts = and_parts (is_other me run && is_sealed run) (has_written key run) passed in
        let both = and_parts (is_other me run) (is_sealed run) parts.0 in
        record {
          wrote = some_among (writes key) run.acts parts.1;
          way = inr (accessed, at, not-true (same_tid run.tid me.tid) both.0, sealed_from run both.1);
        }

    by_way : (run : Run) → HasWritten key run
        → (HasRead key me × IsAmong run (committed_since start lines me.tid))
        ⊎ (HasAccess key me × IsUnended start lines run × (same_tid run.tid me.tid ≡ false) × ((n : ℕ) × (run.sealed ≡ Some n)))
        → Found run
    by_way run wrote (inl (read, among)) =
        inl (
          among,
          and_from (has_read key me) (has_written key run) (among_some (reads key) me.acts read)
              (among_some (writes key) run.acts wrote),
        )
    by_way run wrote (inr (access, at, other, (n, sealed))) =
        inr (
          at,
          and_from (is_other me run && is_sealed run) (has_written key run)
              (and_from (is_other me run) (is_sealed run) (not_from_false (same_tid run.tid me.tid) other) (ap is_some sealed))
              (among_some (writes key) run.acts wrote),
        )

    from : (run : Run) → Spoils start lines me key run → Found run
    from run h = by_way run h.wrote h.way

-- what was read was accessed
read_accessed : (key : Key) (acts : List Access) → Among (λ access. reads key access ≡ true) acts
    → Among (λ access. access_key access ≡ key) acts
read_accessed key [] m = elim m [ ]
read_accessed key (Got k value ∷ acts) (inl e) = inl (same_key-equal k key e)
read_accessed key (Wrote k value ∷ acts) (inl e) = cc
read_accessed key (access ∷ acts) (inr m) = inr (read_accessed key acts m)

-- a key that some run makes bad was accessed
bad_accessed : (start : Start) (lines : List EngineLine) (me : Run) (key : Key) → IsBad start lines me key → HasAccess key me
bad_accessed start lines me key (run, h) = by_way h.way
  where
    by_way : (HasRead key me × IsAmong run (committed_since start lines me.tid))
        ⊎ (HasAccess key me × IsUnended start lines run × (same_tid run.tid me.tid ≡ false) × ((n : ℕ) × (run.sealed ≡ Some n)))
        → HasAccess key me
    by_way (inl (read, among)) = read_accessed key me.acts read
    by_way (inr (access, at, other, is_sealed)) = access

-- some run is in a list that isn't empty
some_in : (runs : List Run) (P : Run → Type 0) → Each P runs → not (is_empty runs) ≡ true → (run : Run) × P run
some_in [] P h e = cc
some_in (run ∷ runs) P h e = (run, h.0)

not_empty : (runs : List Run) (run : Run) → IsAmong run runs → not (is_empty runs) ≡ true
not_empty [] run m = elim m [ ]
not_empty (r ∷ runs) run m = refl

-- the bad keys are those that some run makes bad
each_bad : (start : Start) (lines : List EngineLine) (me : Run) → IsRight start lines
    → Each (IsBad start lines me) (bad_keys start lines me)
each_bad start lines me right =
    each_map _ (IsBad start lines me)
    (λ key both. some_in (spoilers start lines me key) (Spoils start lines me key)
    (lists_spoilers start lines me key right both.0).only both.1)
    (bad_keys start lines me)
    (those_each (λ key. HasAccess key me) (λ key. not (is_empty (spoilers start lines me key))) (map access_key me.acts)
    (map_among access_key me.acts))

bad_listed : (start : Start) (lines : List EngineLine) (me : Run) → IsRight start lines → (key : Key) → IsBad start lines me key
    → Among (λ k. k ≡ key) (bad_keys start lines me)
bad_listed start lines me right key bad =
    let accessed = bad_accessed start lines me key bad in
    let spoiled = not_empty (spoilers start lines me key) bad.0
    ((lists_spoilers start lines me key right accessed).all bad.0 bad.1) in
    each_among (λ k. not (is_empty (spoilers start lines me k)) ≡ true → Among (λ z. z ≡ k) (bad_keys start lines me)) key
    (map access_key me.acts)
    (each_those (λ k. Among (λ z. z ≡ k) (bad_keys start lines me)) (λ k. not (is_empty (spoilers start lines me k)))
    (map access_key me.acts) (each_self (bad_keys start lines me)))
    (among_map access_key key me.acts accessed) spoiled

-- who makes a key bad bears the number of its sealing
spoiler_drew : (start : Start) (lines : List EngineLine) (me : Run) (key : Key) (run : Run) → AllDrew start lines
    → Spoils start lines me key run
    → IsDrawer start lines run × (run.sealed ≡ Some (number run))
spoiler_drew start lines me key run drew h = by_way h.way
  where
    by_way : (HasRead key me × IsAmong run (committed_since start lines me.tid))
        ⊎ (HasAccess key me × IsUnended start lines run × (same_tid run.tid me.tid ≡ false) × ((n : ℕ) × (run.sealed ≡ Some n)))
        → IsDrawer start lines run × (run.sealed ≡ Some (number run))
    by_way (inl (read, among)) = each_among (λ r. IsDrawer start lines r × (r.sealed ≡ Some (number r))) run
        (committed_since start lines me.tid) (drew.since me.tid) among
    by_way (inr (access, at, other, (n, sealed))) = (drew.unended run.tid run at, sealed ∙ ap Some (sym (number_is run n sealed)))

-- two that make a key bad with one number are of one attempt
one_spoiler : (start : Start) (lines : List EngineLine) (me : Run) (key : Key) (a b : Run) → AllDrew start lines
    → IsLastSpoiler start lines me key a → IsLastSpoiler start lines me key b
    → a.tid ≡ b.tid
one_spoiler start lines me key a b drew last_a last_b =
    let drew_a = spoiler_drew start lines me key a drew last_a.spoils in
    let drew_b = spoiler_drew start lines me key b drew last_b.spoils in
    let same : number a ≡ number b = let x = last_a.last b last_b.spoils in let y = last_b.last a last_a.spoils in omega arith in
    same_number start lines a b (number a) drew_a.0 drew_b.0 drew_a.1 (drew_b.1 ∙ ap Some (sym same))

one_least : (start : Start) (lines : List EngineLine) (me : Run) (a b : Key) → IsLeastBad start lines me a
    → IsLeastBad start lines me b → a ≡ b
one_least start lines me a b least_a least_b =
    let same : a.0 ≡ b.0 = let x = least_a.least b least_b.bad in let y = least_b.least a least_a.bad in omega arith in
    same_key-equal a b (eq-eqb a.0 b.0 same)

-- where no key is bad, the ticket decides
by_ticket : (start : Start) (lines : List EngineLine) (me : Run) → ((key : Key) → IsBad start lines me key → ⊥)
    → ((t : ℕ) → me.ticket ≡ Some t → (t ≡ published start lines + 1) ⊎ (is_some (owner start lines) ≡ true))
    → (o : Option ℕ) → me.ticket ≡ o → IsValidated start lines me (moved start lines o)
by_ticket start lines me good owned None taken = record {
  passes = (λ e. (good, λ t is. cc), λ both. refl);
  invalid = λ by key. (λ e. cc, λ (least, rest). absurd (good key least.bad));
  moved = λ by. (λ e. cc, λ (none, (t, is, differs), owns). cc);
}
by_ticket start lines me good owned (Some t) taken = by_test (t == published start lines + 1) refl
  where
    stays : t ≡ published start lines + 1 → IsValidated start lines me None
    stays next = record {
      passes = (λ e. (good, λ s is. let same : t ≡ s = cc in sym same ∙ next), λ both. refl);
      invalid = λ by key. (λ e. cc, λ (least, rest). absurd (good key least.bad));
      moved = λ by. (λ e. cc, λ (none, (s, is, differs), owns). let same : s ≡ t = cc in absurd (differs (same ∙ next)));
    }

    has_moved : (o : Option Tid) → owner start lines ≡ o → t ≢ published start lines + 1
        → (t ≡ published start lines + 1) ⊎ (is_some o ≡ true) → IsValidated start lines me (moved_by o)
    has_moved None owns differs (inl next) = absurd (differs next)
    has_moved None owns differs (inr owned) = cc
    has_moved (Some tid) owns differs either = record {
      passes = (λ e. cc, λ both. absurd (differs (both.1 t taken)));
      invalid = λ by key. (λ e. cc, λ (least, rest). absurd (good key least.bad));
      moved = λ by. (
        λ e. (good, (t, taken, differs), let same : tid ≡ by = cc in owns ∙ ap Some same),
        λ (none, moves, owned_by). let same : tid ≡ by = cc in ap (λ x. Some (TicketMoved x)) same,
      );
    }

    by_test : (b : Bool) → (t == published start lines + 1) ≡ b
        → IsValidated start lines me (cond b None (moved_by (owner start lines)))
    by_test true is = stays (eqb-true t (published start lines + 1) is)
    by_test false is = has_moved (owner start lines) refl (eqb-false t (published start lines + 1) is) (owned t taken)

-- the sealing of a live run is tested by backward validation
validated : (start : Start) (lines : List EngineLine) (me : Run) → IsStart start → IsRight start lines
    → ((t : ℕ) → me.ticket ≡ Some t → (t ≡ published start lines + 1) ⊎ (is_some (owner start lines) ≡ true))
    → IsValidated start lines me (or_why (invalid start lines me) (moved start lines me.ticket))
validated start lines me begun right owned = by_least (least (λ key. key.0) (bad_keys start lines me)) refl
  where
    drew : AllDrew start lines
    drew = all_drew start lines begun right

    with_key : (key : Key) → IsLeastBad start lines me key → (o : Option Run) → greatest number (spoilers start lines me key) ≡ o
        → IsValidated start lines me (or_why (invalid_by key o) (moved start lines me.ticket))
    with_key key first None e =
        let accessed = bad_accessed start lines me key first.bad in
        absurd (lists_none (spoilers start lines me key) (Spoils start lines me key)
        (lists_spoilers start lines me key right accessed)
        (greatest_none number (spoilers start lines me key) e) first.bad.0 first.bad.1)
    with_key key first (Some run) e =
        let accessed = bad_accessed start lines me key first.bad in
        let listed = lists_spoilers start lines me key right accessed in
        let last : IsLastSpoiler start lines me key run = record {
          spoils = greatest_among (Spoils start lines me key) number (spoilers start lines me key) run listed.only e;
          last = each_listed (spoilers start lines me key) (Spoils start lines me key) (λ other. number other ≤ number run) listed
              (greatest_greatest number (spoilers start lines me key) run e);
        } in
        record {
          passes = (λ e. cc, λ both. absurd (both.0 key first.bad));
          invalid = λ by other. (
            λ e.
                let same_by : by ≡ run.tid = cc in
                let same_key_too : key ≡ other = cc in
                subst (λ k. IsLeastBad start lines me k × ((r : Run) × IsLastSpoiler start lines me k r × (by ≡ r.tid)))
                same_key_too (first, (run, last, same_by)),
            λ (least_too, (r, last_too, is_by)).
                let one = one_least start lines me key other first least_too in
                let last_here = subst (λ k. IsLastSpoiler start lines me k r) (sym one) last_too in
                let same : run.tid ≡ by = one_spoiler start lines me key run r drew last last_here ∙ sym is_by in
                ap (λ t. Some (Invalid t key)) same ∙ ap (λ k. Some (Invalid by k)) one,
          );
          moved = λ by. (λ e. cc, λ (none, moves, owns). absurd (none key first.bad));
        }

    by_least : (o : Option Key) → least (λ key. key.0) (bad_keys start lines me) ≡ o
        → IsValidated start lines me (or_why (invalid_at start lines me o) (moved start lines me.ticket))
    by_least None e =
        let none = least_none (λ key. key.0) (bad_keys start lines me) e in
        let good : (key : Key) → IsBad start lines me key → ⊥ = λ key bad.
        each_among (λ k. ⊥) key (bad_keys start lines me) (subst (Each (λ k. ⊥)) (sym none) tt)
        (bad_listed start lines me right key bad) in
        by_ticket start lines me good owned me.ticket refl
    by_least (Some key) e =
        let first : IsLeastBad start lines me key = record {
          bad = least_among (IsBad start lines me) (λ k. k.0) (bad_keys start lines me) key (each_bad start lines me right) e;
          least = λ other bad. each_among (λ k. key.0 ≤ k.0) other (bad_keys start lines me)
              (least_least (λ k. k.0) (bad_keys start lines me) key e) (bad_listed start lines me right other bad);
        } in
        with_key key first (greatest number (spoilers start lines me key)) refl

pub validation_seals : AlwaysBy Validation SealsByValidation
validation_seals start lines kind begun right tid me live =
    subst (IsValidated start lines me) (sym (ap (λ k. seal_stop k start lines me) kind))
    (validated start lines me begun right (λ t taken. owned start lines kind right tid me live.0 live.1 t taken))

pub validation_grants : AlwaysBy Validation AlwaysGrants
validation_grants start lines kind begun right me = (
  λ act. ap (λ k. or_reply (access_stop k start lines me act) (granted start lines me act)) kind,
  ap (λ k. or_reply (ticket_stop k start lines me) (next_ticket start lines)) kind,
)
