-- That a Checkpoint is the Sum of the records that it is read as, behind a set-up.
use Rattle.std.proofs.Common.{◌≡◌, ℕ, ◌≤◌, ◌⊎◌, Bool, true, false, cond, Option, Some, None, List, [], ◌∷◌, ◌++◌, map, refl, sym, ap, ◌∙◌, subst, inl, inr, arith, le-ltb, lt-ltb}
use Rattle.std.specs.Prelude.{nat_lt}
use Rattle.std.proofs.lemmas.List.{append_assoc}
use Rattle.mdb_base.specs.declared.names.Tid.{Tid}
use Rattle.mdb_base.specs.declared.rows.Put.{Put}
use Rattle.mdb_base.specs.Names.{same_tid, tid_before}
use Rattle.mdb_base.specs.Rows.{with_rows}
use Rattle.mdb_base.specs.Words.{Each, inserted}
use Rattle.mdb_base.proofs.ForCallers.{each_among, each_inserted, same_tid-equal, same_tid-refl}
use Rattle.order_laws.specs.Chains.{In}
use Rattle.order_laws.proofs.ForCallers.{inserted_first, ranks_tids}
use Rattle.fed_rules.specs.declared.records.SiteRecord.{SiteRecord}
use Rattle.fed_rules.specs.declared.records.SiteRecord.TheVariants.{Start}
use Rattle.fed_rules.specs.declared.sums.SiteSum.{SiteSum}
use Rattle.fed_rules.specs.Reopened.{local_read, owner_read, site_sum_read}
use Rattle.fed_rules.specs.SiteRecords.{Held, Home, Install, doubt_of, doubts, installs, last_number, last_ticket, rows_after, ticket_owner}
use Rattle.fed_rules.specs.SiteSums.{carried, epoch_with, locals_with, site_sum}
use Rattle.fed_rules.specs.Usable.{IsSumOfSome, IsWithin, RiseBy}
use Rattle.site_history.proofs.Doubtful.{doubts_listed}
use Rattle.site_history.proofs.Founded.{foundation}
use Rattle.site_history.proofs.Whole.{same_parts}

-- the records of the set-up, below the Start of the Sum's epoch
abbrev pub below : Home → SiteSum → List SiteRecord
below home sum = Start sum.epoch ∷ foundation home

-- the parts of what a Checkpoint is read as
abbrev pub beside : Home → SiteSum → List SiteRecord
beside home sum = map (local_read sum.counter) sum.locals ++ (owner_read sum.owner sum ++ below home sum)

pub in_parts : (home : Home) (sum : SiteSum) → site_sum_read sum ++ foundation home ≡ carried sum.doubtful ++ beside home sum
in_parts home sum =
    let c = carried sum.doubtful in
    let l = map (local_read sum.counter) sum.locals in
    let o = owner_read sum.owner sum in
    append_assoc ((c ++ l) ++ o) (Start sum.epoch ∷ []) (foundation home)
    ∙ append_assoc (c ++ l) o (below home sum)
    ∙ append_assoc c l (o ++ below home sum)

-- ---- numbers and tickets

carried_number : (held : List Held) (rs : List SiteRecord) → Each (λ (h : Held). h.number ≤ last_number rs) held → last_number (carried held ++ rs) ≡ last_number rs
carried_number [] rs h = refl
carried_number (x ∷ held) rs h = let rest = carried_number held rs h.1 in let first = h.0 in omega (arith, rest, first)

carried_ticket : (held : List Held) (rs : List SiteRecord) → Each (λ (h : Held). h.ticket ≤ last_ticket rs) held
    → (last_ticket (carried held ++ rs) ≡ last_ticket rs) × (ticket_owner (carried held ++ rs) ≡ ticket_owner rs)
carried_ticket [] rs h = (refl, refl)
carried_ticket (x ∷ held) rs h =
    let rest = carried_ticket held rs h.1 in
    let first = h.0 in
    let same = rest.0 in
    let low : x.ticket ≤ last_ticket (carried held ++ rs) = omega (arith, first, same) in (
      omega (arith, same, first),
      ap (λ b. cond b (Some x.tid) (ticket_owner (carried held ++ rs))) (le-ltb (last_ticket (carried held ++ rs)) x.ticket low) ∙ rest.1,
    )

locals_low : (n : ℕ) (tids : List Tid) (rs : List SiteRecord) → last_number rs ≤ n → last_number (map (local_read n) tids ++ rs) ≤ n
locals_low n [] rs low = low
locals_low n (t ∷ tids) rs low = let h = locals_low n tids rs low in omega (arith, h)

locals_ticket : (n : ℕ) (tids : List Tid) (rs : List SiteRecord)
    → (last_ticket (map (local_read n) tids ++ rs) ≡ last_ticket rs) × (ticket_owner (map (local_read n) tids ++ rs) ≡ ticket_owner rs)
locals_ticket n [] rs = (refl, refl)
locals_ticket n (t ∷ tids) rs = locals_ticket n tids rs

epoch_past : (n : ℕ) (held : List Held) (tids : List Tid) (rs : List SiteRecord) → epoch_with 0 (carried held ++ (map (local_read n) tids ++ rs)) ≡ epoch_with 0 rs
epoch_past n [] [] rs = refl
epoch_past n [] (t ∷ tids) rs = epoch_past n [] tids rs
epoch_past n (x ∷ held) tids rs = epoch_past n held tids rs

-- ---- installs that write nothing leave the rows

abbrev pub WritesNothing : Install → Type 0
WritesNothing i = i.writes ≡ []

rows_stay : (items : List Put) (is : List Install) → Each WritesNothing is → rows_after items is ≡ items
rows_stay items [] h = refl
rows_stay items (i ∷ is) h = ap (λ ws. with_rows ws (rows_after items is)) h.0 ∙ rows_stay items is h.1

pub carried_installs : (held : List Held) (rs : List SiteRecord) → installs (carried held ++ rs) ≡ installs rs
carried_installs [] rs = refl
carried_installs (x ∷ held) rs = carried_installs held rs

pub locals_write : (n : ℕ) (tids : List Tid) (rs : List SiteRecord) → Each WritesNothing (installs rs) → Each WritesNothing (installs (map (local_read n) tids ++ rs))
locals_write n [] rs h = h
locals_write n (t ∷ tids) rs h =
    each_inserted WritesNothing (λ (a b : Install). nat_lt b.number a.number) (record { tid = t; number = n; writes = [] }) (installs (map (local_read n) tids ++ rs)) refl
    (locals_write n tids rs h)

-- ---- the local ones, and those in doubt

locals_past : (held : List Held) (rs : List SiteRecord) → locals_with [] (carried held ++ rs) ≡ locals_with [] rs
locals_past [] rs = refl
locals_past (x ∷ held) rs = locals_past held rs

locals_only : (n : ℕ) (tids : List Tid) (rs : List SiteRecord) → locals_with [] rs ≡ [] → RiseBy (λ (tid : Tid). tid) tids
    → locals_with [] (map (local_read n) tids ++ rs) ≡ tids
locals_only n [] rs none rise = none
locals_only n (t ∷ tids) rs none rise = ap (inserted tid_before t) (locals_only n tids rs none rise.1) ∙ inserted_first t tids rise.0

pub locals_doubt : (n : ℕ) (tids : List Tid) (rs : List SiteRecord) (tid : Tid) → doubt_of rs tid ≡ None → doubt_of (map (local_read n) tids ++ rs) tid ≡ None
locals_doubt n [] rs tid none = none
locals_doubt n (t ∷ tids) rs tid none = locals_doubt n tids rs tid none

pub owner_doubt : (owner : Option Tid) (sum : SiteSum) (rs : List SiteRecord) (tid : Tid) → doubt_of rs tid ≡ None → doubt_of (owner_read owner sum ++ rs) tid ≡ None
owner_doubt None sum rs tid none = none
owner_doubt (Some owner) sum rs tid none = by_test (same_tid owner tid) none
  where
    by_test : (b : Bool) → doubt_of rs tid ≡ None
        → cond b None (cond b (Some (record { tid = owner; epoch = 0; number = sum.counter; ticket = sum.published; writes = [] })) (doubt_of rs tid)) ≡ None
    by_test true e = refl
    by_test false e = e

-- each that rises is found first
pub carried_has : (held : List Held) (rs : List SiteRecord) → RiseBy (λ (h : Held). h.tid) held → (h : Held) → In h held → doubt_of (carried held ++ rs) h.tid ≡ Some h
carried_has [] rs rise h i = absurd i
carried_has (x ∷ held) rs rise h (inl e) =
    subst (λ (y : Held). cond (same_tid x.tid y.tid) (Some x) (doubt_of (carried held ++ rs) y.tid) ≡ Some y) e
    (ap (λ b. cond b (Some x) (doubt_of (carried held ++ rs) x.tid)) (same_tid-refl x.tid))
carried_has (x ∷ held) rs rise h (inr i) =
    ap (λ b. cond b (Some x) (doubt_of (carried held ++ rs) h.tid)) (apart (same_tid x.tid h.tid) refl) ∙ carried_has held rs rise.1 h i
  where
    before : tid_before x.tid h.tid ≡ true
    before = each_among (λ later. tid_before x.tid later.tid ≡ true) h held rise.0 i

    apart : (b : Bool) → same_tid x.tid h.tid ≡ b → same_tid x.tid h.tid ≡ false
    apart false q = q
    apart true q =
        let own : tid_before h.tid h.tid ≡ true = subst (λ t. tid_before t h.tid ≡ true) (same_tid-equal x.tid h.tid q) before in
        let clash : tid_before h.tid h.tid ≡ false = ranks_tids.one_way h.tid h.tid own in cc

pub carried_only : (held : List Held) (rs : List SiteRecord) (tid : Tid) (h : Held) → doubt_of rs tid ≡ None → doubt_of (carried held ++ rs) tid ≡ Some h → In h held
carried_only [] rs tid h none e = let clash : None ≡ Some h = sym none ∙ e in cc
carried_only (x ∷ held) rs tid h none e = by_test (same_tid x.tid tid) e (carried_only held rs tid h none)
  where
    by_test : (b : Bool) → cond b (Some x) (doubt_of (carried held ++ rs) tid) ≡ Some h → (doubt_of (carried held ++ rs) tid ≡ Some h → In h held) → In h (x ∷ held)
    by_test true q k = inl cc
    by_test false q k = inr (k q)

-- ---- all together

module _ (home : Home) (sum : SiteSum) (within : IsWithin sum) (some : IsSumOfSome sum) where
  abbrev rest : List SiteRecord
  rest = owner_read sum.owner sum ++ below home sum

  counts : last_number (beside home sum) ≡ sum.counter
  counts = by_owner sum.owner refl some.owned some.counts
    where
      by_locals : (tids : List Tid) → (tids ≡ [] → sum.counter ≡ 0) → last_number (map (local_read sum.counter) tids ++ below home sum) ≡ sum.counter
      by_locals [] none = let zero = none refl in omega (arith, zero)
      by_locals (t ∷ tids) none = let low = locals_low sum.counter tids (below home sum) (omega arith) in omega (arith, low)

      by_owner : (o : Option Tid) → sum.owner ≡ o → ((o ≡ None) × (sum.published ≡ 0)) ⊎ ((owner : Tid) × (o ≡ Some owner) × (1 ≤ sum.published) × (1 ≤ sum.counter))
          → (o ≡ None → sum.locals ≡ [] → sum.counter ≡ 0)
          → last_number (map (local_read sum.counter) sum.locals ++ (owner_read o sum ++ below home sum)) ≡ sum.counter
      by_owner None e owned none = by_locals sum.locals (none refl)
      by_owner (Some owner) e owned none = over sum.locals
        where
          over : (tids : List Tid) → last_number (map (local_read sum.counter) tids ++ (owner_read (Some owner) sum ++ below home sum)) ≡ sum.counter
          over [] = omega arith
          over (t ∷ tids) =
              let low = locals_low sum.counter tids (owner_read (Some owner) sum ++ below home sum) (omega arith) in omega (arith, low)

  says_number : last_number (carried sum.doubtful ++ beside home sum) ≡ sum.counter
  says_number =
      carried_number sum.doubtful (beside home sum) (subst (λ n. Each (λ (h : Held). h.number ≤ n) sum.doubtful) (sym counts) within.numbers) ∙ counts

  owner_epoch : (o : Option Tid) → epoch_with 0 (owner_read o sum ++ below home sum) ≡ sum.epoch
  owner_epoch None = refl
  owner_epoch (Some owner) = refl

  says_epoch : epoch_with 0 (carried sum.doubtful ++ beside home sum) ≡ sum.epoch
  says_epoch = epoch_past sum.counter sum.doubtful sum.locals rest ∙ owner_epoch sum.owner

  owner_is : (last_ticket rest ≡ sum.published) × (ticket_owner rest ≡ sum.owner)
  owner_is = by_owner sum.owner some.owned
    where
      by_owner : (o : Option Tid) → ((o ≡ None) × (sum.published ≡ 0)) ⊎ ((owner : Tid) × (o ≡ Some owner) × (1 ≤ sum.published) × (1 ≤ sum.counter))
          → (last_ticket (owner_read o sum ++ below home sum) ≡ sum.published) × (ticket_owner (owner_read o sum ++ below home sum) ≡ o)
      by_owner None (inl (none, zero)) = (sym zero, refl)
      by_owner None (inr (owner, is, more, some_count)) = cc
      by_owner (Some owner) (inl (none, zero)) = cc
      by_owner (Some owner) (inr (other, is, more, some_count)) =
          (omega arith, ap (λ b. cond b (Some owner) None) (lt-ltb 0 sum.published (omega (arith, more))))

  says_ticket : (last_ticket (carried sum.doubtful ++ beside home sum) ≡ sum.published) × (ticket_owner (carried sum.doubtful ++ beside home sum) ≡ sum.owner)
  says_ticket =
      let l = locals_ticket sum.counter sum.locals rest in
      let low : Each (λ (h : Held). h.ticket ≤ last_ticket (beside home sum)) sum.doubtful =
      subst (λ n. Each (λ (h : Held). h.ticket ≤ n) sum.doubtful) (sym (l.0 ∙ owner_is.0)) within.tickets in
      let c = carried_ticket sum.doubtful (beside home sum) low in
      (c.0 ∙ l.0 ∙ owner_is.0, c.1 ∙ l.1 ∙ owner_is.1)

  owner_installs : (o : Option Tid) → installs (owner_read o sum ++ below home sum) ≡ []
  owner_installs None = refl
  owner_installs (Some owner) = refl

  pub nothing_written : Each WritesNothing (installs (beside home sum))
  nothing_written = locals_write sum.counter sum.locals rest (subst (Each WritesNothing) (sym (owner_installs sum.owner)) tt)

  says_rows : rows_after home.items (installs (carried sum.doubtful ++ beside home sum)) ≡ home.items
  says_rows = ap (rows_after home.items) (carried_installs sum.doubtful (beside home sum)) ∙ rows_stay home.items (installs (beside home sum)) nothing_written

  owner_locals : (o : Option Tid) → locals_with [] (owner_read o sum ++ below home sum) ≡ []
  owner_locals None = refl
  owner_locals (Some owner) = refl

  says_locals : locals_with [] (carried sum.doubtful ++ beside home sum) ≡ sum.locals
  says_locals = locals_past sum.doubtful (beside home sum) ∙ locals_only sum.counter sum.locals rest (owner_locals sum.owner) some.locals_rise

  pub no_doubt : (tid : Tid) → doubt_of (beside home sum) tid ≡ None
  no_doubt tid = locals_doubt sum.counter sum.locals rest tid (owner_doubt sum.owner sum (below home sum) tid refl)

  says_doubts : doubts (carried sum.doubtful ++ beside home sum) ≡ sum.doubtful
  says_doubts =
      doubts_listed (carried sum.doubtful ++ beside home sum) sum.doubtful some.doubtful_rise (carried_has sum.doubtful (beside home sum) some.doubtful_rise)
      (λ tid h e. carried_only sum.doubtful (beside home sum) tid h (no_doubt tid) e)

-- a Checkpoint with its rows as the first ones
abbrev pub IsHomeOf : Home → SiteSum → Type 0
IsHomeOf home sum = home ≡ record { site = sum.site; engine = sum.engine; protocol = sum.protocol; items = sum.rows }

pub says_sum : (home : Home) (sum : SiteSum) → IsHomeOf home sum → IsWithin sum → IsSumOfSome sum → site_sum home (site_sum_read sum ++ foundation home) ≡ sum
says_sum home sum is within some =
    ap (site_sum home) (in_parts home sum)
    ∙ same_parts home (says_epoch home sum within some) (says_number home sum within some) (says_ticket home sum within some).0 (says_ticket home sum within some).1
    (says_rows home sum within some) (says_locals home sum within some) (says_doubts home sum within some)
    ∙ at_home
  where
    at_home : record { site = home.site; engine = home.engine; protocol = home.protocol; epoch = sum.epoch; counter = sum.counter; published = sum.published; owner = sum.owner; rows = home.items; locals = sum.locals; doubtful = sum.doubtful } ≡ sum
    at_home =
        ap (λ (h : Home). let s : SiteSum = record { site = h.site; engine = h.engine; protocol = h.protocol; epoch = sum.epoch; counter = sum.counter; published = sum.published; owner = sum.owner; rows = h.items; locals = sum.locals; doubtful = sum.doubtful } in s) is
