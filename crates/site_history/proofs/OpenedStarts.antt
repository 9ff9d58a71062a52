-- A usable journal makes good starts: those in doubt at each front of its records have numbers and tickets, and any two are apart.
use Rattle.std.proofs.Common.{◌≡◌, ℕ, ◌≤◌, ◌<◌, ◌⊎◌, Bool, true, false, cond, Option, Some, None, List, [], ◌∷◌, ◌++◌, map, refl, sym, ap, ◌∙◌, subst, inl, inr, arith}
use Rattle.mdb_base.specs.declared.names.Tid.{Tid}
use Rattle.mdb_base.specs.Names.{same_tid}
use Rattle.mdb_base.specs.Words.{Each}
use Rattle.mdb_base.proofs.ForCallers.{each_among, each_map, same_tid-refl}
use Rattle.order_laws.specs.Chains.{In}
use Rattle.fed_rules.specs.declared.records.SiteRecord.{SiteRecord}
use Rattle.fed_rules.specs.declared.records.SiteRecord.TheVariants.{Setup, Start, Prepared, Ended, Local, Checkpoint}
use Rattle.fed_rules.specs.declared.sums.SiteSum.{SiteSum}
use Rattle.fed_rules.specs.EngineLines.{AreApart}
use Rattle.fed_rules.specs.Reopened.{home_by, local_read, oldest, owner_read, site_reads_as, site_sum_read}
use Rattle.fed_rules.specs.SiteRecords.{Held, Home, doubt_of, doubts, kept_held}
use Rattle.fed_rules.specs.SiteSums.{carried}
use Rattle.fed_rules.specs.Usable.{AreSumsOfSome, DoubtsApart, IsBelow, IsHeldBelow, OfFronts, counted}
use Rattle.site_history.proofs.OpenedPasts.{starts_by}
use Rattle.site_history.proofs.WellKept.{StartsWell}
use Rattle.site_history.proofs.Doubtful.{are_doubts}
use Rattle.site_history.proofs.OpenedSums.{all_due_same, all_read}
use Rattle.site_history.proofs.Founded.{foundation}
use Rattle.site_history.proofs.ReadSums.{below, beside, carried_has, carried_only, in_parts, locals_doubt, owner_doubt}
use Rattle.site_history.proofs.SameSays.{SameDue}

abbrev IsSome : Held → Type 0
IsSome held = (0 < held.number) × (0 < held.ticket)

-- the numbers of those in doubt are those of the records
abbrev HasSome : SiteRecord → Type 0
HasSome (Prepared t e n ticket writes) = IsSome (record { tid = t; epoch = e; number = n; ticket = ticket; writes = writes })
HasSome other = Unit {0}

doubt_some : (rs : List SiteRecord) (tid : Tid) (held : Held) → Each HasSome rs → doubt_of rs tid ≡ Some held → IsSome held
doubt_some [] tid held h e = cc
doubt_some (Prepared t n number ticket writes ∷ rs) tid held h e = by_test (same_tid t tid) e (doubt_some rs tid held h.1)
  where
    by_test : (b : Bool) → cond b (Some (record { tid = t; epoch = n; number = number; ticket = ticket; writes = writes })) (doubt_of rs tid) ≡ Some held
        → (doubt_of rs tid ≡ Some held → IsSome held) → IsSome held
    by_test true f k =
        let here : Held = record { tid = t; epoch = n; number = number; ticket = ticket; writes = writes } in
        let same : here ≡ held = cc in subst IsSome same h.0
    by_test false f k = k f
doubt_some (Ended t d ∷ rs) tid held h e = by_test (same_tid t tid) e (doubt_some rs tid held h.1)
  where
    by_test : (b : Bool) → cond b None (doubt_of rs tid) ≡ Some held → (doubt_of rs tid ≡ Some held → IsSome held) → IsSome held
    by_test true f k = cc
    by_test false f k = k f
doubt_some (Setup site engine protocol items ∷ rs) tid held h e = doubt_some rs tid held h.1 e
doubt_some (Start n ∷ rs) tid held h e = doubt_some rs tid held h.1 e
doubt_some (Local t n writes ∷ rs) tid held h e = doubt_some rs tid held h.1 e
doubt_some (Checkpoint sum ∷ rs) tid held h e = doubt_some rs tid held h.1 e

-- where none is in doubt
none_fit : (home : Home) (rs : List SiteRecord) → ((tid : Tid) → doubt_of rs tid ≡ None) → StartsWell home rs
none_fit home rs none = starts_by home rs (record {
  some = λ tid held e. let clash : None ≡ Some held = sym (none tid) ∙ e in cc;
  apart = λ s t a b e f other. let clash : None ≡ Some a = sym (none s) ∙ e in cc;
})

below_starts : (home : Home) (n : ℕ) → OfFronts (StartsWell home) (Start n ∷ foundation home)
below_starts home n = (
  none_fit home (Start n ∷ foundation home) (λ tid. refl),
  (none_fit home (foundation home) (λ tid. refl), (none_fit home (Setup home.site home.engine home.protocol home.items ∷ []) (λ tid. refl), none_fit home [] (λ tid. refl))),
)

owner_starts : (home : Home) (owner : Option Tid) (sum : SiteSum)
    → ((owner ≡ None) × (sum.published ≡ 0)) ⊎ ((tid : Tid) × (owner ≡ Some tid) × (1 ≤ sum.published) × (1 ≤ sum.counter))
    → OfFronts (StartsWell home) (owner_read owner sum ++ below home sum)
owner_starts home None sum owned = below_starts home sum.epoch
owner_starts home (Some owner) sum (inl (none, zero)) = cc
owner_starts home (Some owner) sum (inr (other, is, more, some)) = (
  none_fit home (owner_read (Some owner) sum ++ below home sum) (λ tid. owner_doubt (Some owner) sum (below home sum) tid refl),
  (
    starts_by home rs (record {
      some = λ tid held e. doubt_some rs tid held (((more_count, more_ticket)), (tt, (tt, (tt, tt)))) e;
      apart = λ s t a b e f apart. let clash : true ≡ false = sym (both s t a b e f) ∙ apart in cc;
    }),
    below_starts home sum.epoch,
  ),
)
  where
    own : Held
    own = record { tid = owner; epoch = 0; number = sum.counter; ticket = sum.published; writes = [] }

    rs : List SiteRecord
    rs = Prepared owner 0 sum.counter sum.published [] ∷ below home sum

    more_count : 0 < sum.counter
    more_count = omega (arith, some)

    more_ticket : 0 < sum.published
    more_ticket = omega (arith, more)

    only : (tid : Tid) (held : Held) → doubt_of rs tid ≡ Some held → held.tid ≡ owner
    only tid held e = by_test (same_tid owner tid) e
      where
        by_test : (b : Bool) → cond b (Some (record { tid = owner; epoch = 0; number = sum.counter; ticket = sum.published; writes = [] })) None ≡ Some held → held.tid ≡ owner
        by_test true f = let same : record { tid = owner; epoch = 0; number = sum.counter; ticket = sum.published; writes = [] } ≡ held = cc in sym (ap (λ (h : Held). h.tid) same)
        by_test false f = cc

    both : (s t : Tid) (a b : Held) → doubt_of rs s ≡ Some a → doubt_of rs t ≡ Some b → same_tid a.tid b.tid ≡ true
    both s t a b e f =
        subst (λ u. same_tid a.tid u ≡ true) (only s a e ∙ sym (only t b f)) (same_tid-refl a.tid)

locals_start : (home : Home) (n : ℕ) (tids : List Tid) (rs : List SiteRecord) → OfFronts (StartsWell home) rs → ((tid : Tid) → doubt_of rs tid ≡ None)
    → OfFronts (StartsWell home) (map (local_read n) tids ++ rs)
locals_start home n [] rs h none = h
locals_start home n (t ∷ tids) rs h none =
    (none_fit home (map (local_read n) (t ∷ tids) ++ rs) (λ tid. locals_doubt n (t ∷ tids) rs tid (none tid)), locals_start home n tids rs h none)

-- any of these that are in doubt are apart
abbrev AllApart : List Held → Type 0
AllApart helds = (a b : Held) → In a helds → In b helds → same_tid a.tid b.tid ≡ false → AreApart (kept_held a) (kept_held b)

carried_start : (home : Home) (held : List Held) (rs : List SiteRecord) → Each IsSome held → AllApart held → OfFronts (StartsWell home) rs
    → ((tid : Tid) → doubt_of rs tid ≡ None) → OfFronts (StartsWell home) (carried held ++ rs)
carried_start home [] rs some apart h none = h
carried_start home (x ∷ held) rs some apart h none = (
  starts_by home (carried (x ∷ held) ++ rs) (record {
    some = λ tid held' e. each_among IsSome held' (x ∷ held) some (carried_only (x ∷ held) rs tid held' (none tid) e);
    apart = λ s t a b e f other. apart a b (carried_only (x ∷ held) rs s a (none s) e) (carried_only (x ∷ held) rs t b (none t) f) other;
  }),
  carried_start home held rs some.1 (λ a b i j other. apart a b (inr i) (inr j) other) h none,
)

first_starts : (home : Home) (first : SiteRecord) → home_by first ≡ Some home → IsBelow first → AreSumsOfSome first → DoubtsApart (first ∷ [])
    → OfFronts (StartsWell home) (first ∷ (site_reads_as first ++ foundation home))
first_starts home (Checkpoint sum) is low some apart =
    subst (λ rs. OfFronts (StartsWell home) (Checkpoint sum ∷ rs)) (sym (in_parts home sum)) (checkpoint_start, fronts)
  where
    same : SameDue (Checkpoint sum ∷ (site_sum_read sum ++ foundation home)) (counted (Checkpoint sum ∷ []))
    same = all_due_same home (Checkpoint sum) []

    listed : (h : Held) → In h sum.doubtful → In h (doubts (counted (Checkpoint sum ∷ [])))
    listed h i =
        are_doubts (counted (Checkpoint sum ∷ [])) h.tid h
        (sym (same.doubt h.tid) ∙ ap (λ rs. doubt_of rs h.tid) (in_parts home sum) ∙ carried_has sum.doubtful (beside home sum) some.doubtful_rise h i)

    below_some : Each IsSome sum.doubtful
    below_some = each_map IsHeldBelow IsSome (λ held l. (omega (arith, l.0), omega (arith, l.2))) sum.doubtful low.3

    none : (tid : Tid) → doubt_of (beside home sum) tid ≡ None
    none tid = locals_doubt sum.counter sum.locals (owner_read sum.owner sum ++ below home sum) tid (owner_doubt sum.owner sum (below home sum) tid refl)

    all_apart : AllApart sum.doubtful
    all_apart a b i j other = apart a b (listed a i) (listed b j) other

    fronts : OfFronts (StartsWell home) (carried sum.doubtful ++ beside home sum)
    fronts =
        carried_start home sum.doubtful (beside home sum) below_some all_apart
        (locals_start home sum.counter sum.locals _ (owner_starts home sum.owner sum some.owned) (λ tid. owner_doubt sum.owner sum (below home sum) tid refl)) none

    checkpoint_start : StartsWell home (Checkpoint sum ∷ (carried sum.doubtful ++ beside home sum))
    checkpoint_start = starts_by home (Checkpoint sum ∷ (carried sum.doubtful ++ beside home sum)) (record {
      some = λ tid held e. each_among IsSome held sum.doubtful below_some (carried_only sum.doubtful (beside home sum) tid held (none tid) e);
      apart = λ s t a b e f other.
          all_apart a b (carried_only sum.doubtful (beside home sum) s a (none s) e) (carried_only sum.doubtful (beside home sum) t b (none t) f) other;
    })
first_starts home (Setup site engine protocol items) is low some apart =
    (none_fit home (Setup site engine protocol items ∷ Start 0 ∷ foundation home) (λ tid. refl), below_starts home 0)
first_starts home (Start n) is low some apart = cc
first_starts home (Prepared t e n ticket writes) is low some apart = cc
first_starts home (Ended t d) is low some apart = cc
first_starts home (Local t n writes) is low some apart = cc

-- of records in each of which numbers and tickets are there
some_below : (home : Home) (sum : SiteSum) → Each IsHeldBelow sum.doubtful → Each HasSome (carried sum.doubtful)
some_below home sum low = over sum.doubtful low
  where
    over : (held : List Held) → Each IsHeldBelow held → Each HasSome (carried held)
    over [] l = tt
    over (x ∷ held) l = ((omega (arith, (let k = l.0 in k.0)), omega (arith, (let k = l.0 in k.2))), over held l.1)

pub all_start : (home : Home) (newest : SiteRecord) (older : List SiteRecord) → home_by (oldest newest older) ≡ Some home → Each IsBelow (newest ∷ older)
    → Each AreSumsOfSome (newest ∷ older) → OfFronts DoubtsApart (newest ∷ older)
    → OfFronts (StartsWell home) (all_read home newest older)
all_start home first [] is low some apart = first_starts home first is low.0 some.0 apart.0
all_start home newest (next ∷ older) is low some apart =
    (starts_by home (all_read home newest (next ∷ older)) (record { some = number; apart = two }), all_start home next older is low.1 some.1 apart.1)
  where
    same : SameDue (all_read home newest (next ∷ older)) (counted (newest ∷ next ∷ older))
    same = all_due_same home newest (next ∷ older)

    number : (tid : Tid) (held : Held) → doubt_of (all_read home newest (next ∷ older)) tid ≡ Some held → (0 < held.number) × (0 < held.ticket)
    number tid held e = doubt_some (counted (newest ∷ next ∷ older)) tid held (all_some (newest ∷ next ∷ older) low) (sym (same.doubt tid) ∙ e)
      where
        local_some : (n : ℕ) (tids : List Tid) → Each HasSome (map (local_read n) tids)
        local_some n [] = tt
        local_some n (t ∷ tids) = (tt, local_some n tids)

        both : (xs ys : List SiteRecord) → Each HasSome xs → Each HasSome ys → Each HasSome (xs ++ ys)
        both [] ys p q = q
        both (x ∷ xs) ys p q = (p.0, both xs ys p.1 q)

        all_some : (rs : List SiteRecord) → Each IsBelow rs → Each HasSome (counted rs)
        all_some [] l = tt
        all_some (Checkpoint sum ∷ []) l = both (carried sum.doubtful) (map (local_read sum.counter) sum.locals) (some_below home sum l.0.3) (local_some sum.counter sum.locals)
        all_some (Checkpoint sum ∷ r ∷ rs) l = (tt, all_some (r ∷ rs) l.1)
        all_some (Prepared t n number ticket writes ∷ rs) l = ((omega (arith, (let k = l.0 in k.0)), omega (arith, (let k = l.0 in k.2))), all_some rs l.1)
        all_some (Setup site engine protocol items ∷ rs) l = (tt, all_some rs l.1)
        all_some (Start n ∷ rs) l = (tt, all_some rs l.1)
        all_some (Ended t d ∷ rs) l = (tt, all_some rs l.1)
        all_some (Local t n writes ∷ rs) l = (tt, all_some rs l.1)

    two : (s t : Tid) (a b : Held) → doubt_of (all_read home newest (next ∷ older)) s ≡ Some a → doubt_of (all_read home newest (next ∷ older)) t ≡ Some b
        → same_tid a.tid b.tid ≡ false → AreApart (kept_held a) (kept_held b)
    two s t a b e f other =
        apart.0 a b (are_doubts (counted (newest ∷ next ∷ older)) s a (sym (same.doubt s) ∙ e))
        (are_doubts (counted (newest ∷ next ∷ older)) t b (sym (same.doubt t) ∙ f)) other
