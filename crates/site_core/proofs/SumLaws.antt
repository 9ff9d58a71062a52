-- What the records of a site say together: names in their ranges, lists that rise, and what a start takes of them.
use Rattle.std.proofs.Common.{◌≡◌, ℕ, ◌+◌, ◌*◌, ◌<◌, ◌≤◌, ◌^◌, ◌==◌, ◌||◌, ◌&&◌, leb, ltb, Bool, true, false, cond, is_some, max, All, Option, Some, None, List, [], ◌∷◌, ◌++◌, length, map, inl, inr, refl, sym, ap, ap₂, ◌∙◌, subst, arith}
use Rattle.std.specs.Prelude.{nat_lt}
use Rattle.std.specs.List.{AllByRecursion}
use Rattle.std.specs.FinMap.{empty, get, get-empty, insert}
use Rattle.std.proofs.lemmas.Bool.{and_from, cond-true, cond-false, eqb-true, eq-eqb, ltb-true, ltb-false}
use Rattle.std.proofs.lemmas.List.Elements.{All-from_recursion}
use Rattle.mdb_base.specs.declared.names.Tid.{Tid}
use Rattle.mdb_base.specs.declared.names.Tx.{Tx}
use Rattle.mdb_base.specs.Names.{same_tid, same_tx, tid_before, tx_cmp}
use Rattle.mdb_base.specs.Rising.{IsRising}
use Rattle.mdb_base.specs.Words.{Each, first_where, found, inserted, map_some, or_else}
use Rattle.mdb_base.proofs.ForCallers.{each_of_found, same_tid-equal, same_tid-sym}
use Rattle.fed_rules.specs.declared.records.SiteRecord.{SiteRecord}
use Rattle.fed_rules.specs.declared.records.SiteRecord.TheVariants as Rec
use Rattle.fed_rules.specs.declared.runs.Doubt.{Doubt}
use Rattle.fed_rules.specs.declared.runs.Kept.{Kept}
use Rattle.fed_rules.specs.Attempts.{each_attempt}
use Rattle.fed_rules.specs.Runs.{Run, restored, restored_at}
use Rattle.fed_rules.specs.SiteRecords.{Held, Home, by_tid, doubt_of, doubts, kept_held, last_ticket, local_of, prepared_tids, ticket_owner}
use Rattle.fed_rules.specs.SiteSums.{locals_with, site_sum}
use Rattle.field_bytes.specs.Fields.{IsTid}
use Rattle.record_fields.specs.Named.{IsSite}
use Rattle.record_fields.specs.Sums.{MaybeFits, tid_number}
use Rattle.site_journal.specs.Spelling.{IsRecord, IsSumInRange}
use Rattle.engine_laws.specs.Laws.{EachOnce}
use Rattle.engine_laws.proofs.ForCallers.{each_by_tid, each_held, once_doubts}
use Rattle.site_history.proofs.ForCallers.{IsFounded, foundation, restored_doubt}
use Rattle.prepared_state.specs.Book.{doubt_about}
use Rattle.record_fields.specs.AttemptOrder.{before-less}
use Rattle.journal_sums.specs.Starts.{doubt_held}
use Rattle.site_book.specs.declared.progress.Standing.{Standing}
use Rattle.site_book.specs.declared.progress.Standing.TheVariants as Has
use Rattle.site_book.specs.Book.{Standings, committed_part, with_committed}
use Rattle.site_book.proofs.ForCallers.{get-put_tx}
use Rattle.journal_sums.proofs.ForCallers.{are_doubts}
use Rattle.site_core.specs.Recovered.{LocalsOnce, held_tid}

-- the attempts rise by their transactions
abbrev Rises : List Tid → Type 0
Rises [] = Unit {0}
Rises (tid ∷ tids) = Each (λ other. tid.tx.0 < other.tx.0) tids × Rises tids

each_put : (P : Tid → Type 0) (tid : Tid) (tids : List Tid) → P tid → Each P tids → Each P (inserted tid_before tid tids)
each_put P tid [] p rest = (p, tt)
each_put P tid (other ∷ tids) p rest = by_test (tid_before other tid) (each_put P tid tids p rest.1) where
  by_test : (b : Bool) → Each P (inserted tid_before tid tids) → Each P (cond b (other ∷ inserted tid_before tid tids) (tid ∷ other ∷ tids))
  by_test true more = (rest.0, more)
  by_test false more = (p, rest)

each_more : (P Q : Tid → Type 0) (tids : List Tid) → ((t : Tid) → P t → Q t) → Each P tids → Each Q tids
each_more P Q [] f e = tt
each_more P Q (tid ∷ tids) f e = (f tid e.0, each_more P Q tids f e.1)

before_tx : (a b : Tid) → tid_before a b ≡ true → a.tx.0 ≤ b.tx.0
before_tx a b e = by_less (nat_lt a.tx.0 b.tx.0) refl e where
  by_less : (t : Bool) → nat_lt a.tx.0 b.tx.0 ≡ t → (t || ((a.tx.0 == b.tx.0) && nat_lt a.attempt b.attempt)) ≡ true → a.tx.0 ≤ b.tx.0
  by_less true l f = let less = ltb-true a.tx.0 b.tx.0 l in omega arith
  by_less false l f = by_same (a.tx.0 == b.tx.0) refl f where
    by_same : (t : Bool) → (a.tx.0 == b.tx.0) ≡ t → (t && nat_lt a.attempt b.attempt) ≡ true → a.tx.0 ≤ b.tx.0
    by_same true s f = let same = eqb-true a.tx.0 b.tx.0 s in omega (arith, same)
    by_same false s f = cc

not_before_tx : (a b : Tid) → tid_before a b ≡ false → b.tx.0 ≤ a.tx.0
not_before_tx a b e = by_less (nat_lt a.tx.0 b.tx.0) refl e where
  by_less : (t : Bool) → nat_lt a.tx.0 b.tx.0 ≡ t → (t || ((a.tx.0 == b.tx.0) && nat_lt a.attempt b.attempt)) ≡ false → b.tx.0 ≤ a.tx.0
  by_less true l f = cc
  by_less false l f = ltb-false a.tx.0 b.tx.0 l

put_rises : (tid : Tid) (tids : List Tid) → Rises tids → Each (λ other. other.tx.0 ≡ tid.tx.0 → ⊥) tids → Rises (inserted tid_before tid tids)
put_rises tid [] r apart = (tt, tt)
put_rises tid (other ∷ tids) r apart = by_test (tid_before other tid) refl (put_rises tid tids r.1 apart.1) where
  less : (a b : ℕ) → a ≤ b → (a ≡ b → ⊥) → a < b
  less a b le ne = by_eq (a == b) refl where
    by_eq : (t : Bool) → (a == b) ≡ t → a < b
    by_eq true e = absurd (ne (eqb-true a b e))
    by_eq false e = by_lt (ltb a b) refl where
      by_lt : (t : Bool) → ltb a b ≡ t → a < b
      by_lt true l = ltb-true a b l
      by_lt false l = let ge = ltb-false a b l in absurd (ne (omega (arith, ge, le)))

  by_test : (b : Bool) → tid_before other tid ≡ b → Rises (inserted tid_before tid tids) → Rises (cond b (other ∷ inserted tid_before tid tids) (tid ∷ other ∷ tids))
  by_test true e rest = (each_put (λ u. other.tx.0 < u.tx.0) tid tids (less other.tx.0 tid.tx.0 (before_tx other tid e) apart.0) r.0, rest)
  by_test false e rest =
      let first : tid.tx.0 < other.tx.0 = less tid.tx.0 other.tx.0 (not_before_tx other tid e) (λ s. apart.0 (sym s)) in
      ((first, each_more (λ u. other.tx.0 < u.tx.0) (λ u. tid.tx.0 < u.tx.0) tids (λ u l. omega (arith, l, first)) r.0), r)

-- none of the recorded attempts is of a transaction with no Local record
others : (records : List SiteRecord) (tid : Tid) → local_of records tid.tx ≡ None → Each (λ other. other.tx.0 ≡ tid.tx.0 → ⊥) (locals_with [] records)
others [] tid none = tt
others (Rec.Setup site engine protocol items ∷ records) tid none = others records tid none
others (Rec.Start epoch ∷ records) tid none = others records tid none
others (Rec.Prepared t epoch number ticket writes ∷ records) tid none = others records tid none
others (Rec.Ended t decision ∷ records) tid none = others records tid none
others (Rec.Checkpoint sum ∷ records) tid none = others records tid none
others (Rec.Local local number writes ∷ records) tid none = by_test (same_tx local.tx tid.tx) refl none (others records tid) where
  by_test : (b : Bool) → same_tx local.tx tid.tx ≡ b → cond (same_tx local.tx tid.tx) (Some local) (local_of records tid.tx) ≡ None
      → (local_of records tid.tx ≡ None → Each (λ other. other.tx.0 ≡ tid.tx.0 → ⊥) (locals_with [] records))
      → Each (λ other. other.tx.0 ≡ tid.tx.0 → ⊥) (inserted tid_before local (locals_with [] records))
  by_test true e n rest = let bad : Some local ≡ None = sym (cond-true _ _ _ e) ∙ n in cc
  by_test false e n rest =
      each_put (λ other. other.tx.0 ≡ tid.tx.0 → ⊥) local (locals_with [] records)
      (λ s. let same : same_tx local.tx tid.tx ≡ true = eq-eqb local.tx.0 tid.tx.0 s in absurd (differ _ same e)) (rest (sym (cond-false _ _ _ e) ∙ n))
    where
      differ : (a : Bool) → a ≡ true → a ≡ false → ⊥
      differ a e f = cc

locals_rise : (records : List SiteRecord) → LocalsOnce records → Rises (locals_with [] records)
locals_rise [] o = tt
locals_rise (Rec.Setup site engine protocol items ∷ records) o = locals_rise records o
locals_rise (Rec.Start epoch ∷ records) o = locals_rise records o
locals_rise (Rec.Prepared t epoch number ticket writes ∷ records) o = locals_rise records o
locals_rise (Rec.Ended t decision ∷ records) o = locals_rise records o
locals_rise (Rec.Checkpoint sum ∷ records) o = locals_rise records o
locals_rise (Rec.Local local number writes ∷ records) o = put_rises local (locals_with [] records) (locals_rise records o.1) (others records local o.0)

locals_in_range : (records : List SiteRecord) → AllByRecursion IsRecord records → Each IsTid (locals_with [] records)
locals_in_range [] r = tt
locals_in_range (Rec.Setup site engine protocol items ∷ records) r = locals_in_range records r.1
locals_in_range (Rec.Start epoch ∷ records) r = locals_in_range records r.1
locals_in_range (Rec.Prepared t epoch number ticket writes ∷ records) r = locals_in_range records r.1
locals_in_range (Rec.Ended t decision ∷ records) r = locals_in_range records r.1
locals_in_range (Rec.Checkpoint sum ∷ records) r = locals_in_range records r.1
locals_in_range (Rec.Local local number writes ∷ records) r = each_put IsTid local (locals_with [] records) r.0.0 (locals_in_range records r.1)

numbers_rise : (tids : List Tid) → Rises tids → Each IsTid tids → IsRising tid_number tids
numbers_rise [] r t = tt
numbers_rise (tid ∷ []) r t = tt
numbers_rise (tid ∷ other ∷ tids) r t =
    let less = r.0.0 in
    let a = t.0.attempts in
    (omega (arith, less, a), numbers_rise (other ∷ tids) r.1 t.1)

-- the last ticket's owner
owner_in_range : (records : List SiteRecord) → AllByRecursion IsRecord records → MaybeFits IsTid (ticket_owner records)
owner_in_range [] r = tt
owner_in_range (Rec.Setup site engine protocol items ∷ records) r = owner_in_range records r.1
owner_in_range (Rec.Start epoch ∷ records) r = owner_in_range records r.1
owner_in_range (Rec.Ended t decision ∷ records) r = owner_in_range records r.1
owner_in_range (Rec.Local t number writes ∷ records) r = owner_in_range records r.1
owner_in_range (Rec.Checkpoint sum ∷ records) r = owner_in_range records r.1
owner_in_range (Rec.Prepared tid epoch number ticket writes ∷ records) r = by_test (nat_lt (last_ticket records) ticket) (owner_in_range records r.1) where
  by_test : (b : Bool) → MaybeFits IsTid (ticket_owner records) → MaybeFits IsTid (cond b (Some tid) (ticket_owner records))
  by_test true rest = r.0.0
  by_test false rest = rest

doubt_in_range : (records : List SiteRecord) (tid : Tid) (held : Held) → AllByRecursion IsRecord records → doubt_of records tid ≡ Some held → IsTid held.tid
doubt_in_range [] tid held r e = cc
doubt_in_range (Rec.Setup site engine protocol items ∷ records) tid held r e = doubt_in_range records tid held r.1 e
doubt_in_range (Rec.Start epoch ∷ records) tid held r e = doubt_in_range records tid held r.1 e
doubt_in_range (Rec.Local t number writes ∷ records) tid held r e = doubt_in_range records tid held r.1 e
doubt_in_range (Rec.Checkpoint sum ∷ records) tid held r e = doubt_in_range records tid held r.1 e
doubt_in_range (Rec.Ended t decision ∷ records) tid held r e = by_test (same_tid t tid) e (doubt_in_range records tid held r.1) where
  by_test : (b : Bool) → cond b None (doubt_of records tid) ≡ Some held → (doubt_of records tid ≡ Some held → IsTid held.tid) → IsTid held.tid
  by_test true f rest = cc
  by_test false f rest = rest f
doubt_in_range (Rec.Prepared t epoch number ticket writes ∷ records) tid held r e = by_test (same_tid t tid) e (doubt_in_range records tid held r.1) where
  here : Held
  here = record { tid = t; epoch = epoch; number = number; ticket = ticket; writes = writes }

  same_held : (a b : Held) → ◌≡◌ {A = Option Held} (Some a) (Some b) → a ≡ b
  same_held a b e = cc

  by_test : (b : Bool) → cond b (Some here) (doubt_of records tid) ≡ Some held → (doubt_of records tid ≡ Some held → IsTid held.tid) → IsTid held.tid
  by_test true f rest = subst (λ (h : Held). IsTid h.tid) (same_held here held f) r.0.0
  by_test false f rest = rest f

each_held_more : (P Q : Held → Type 0) (helds : List Held) → ((h : Held) → P h → Q h) → Each P helds → Each Q helds
each_held_more P Q [] f e = tt
each_held_more P Q (held ∷ helds) f e = (f held e.0, each_held_more P Q helds f e.1)

pub doubts_in_range : (records : List SiteRecord) → AllByRecursion IsRecord records → Each (λ held. IsTid held.tid) (doubts records)
doubts_in_range records r = each_held_more (λ held. doubt_of records held.tid ≡ Some held) (λ held. IsTid held.tid) (doubts records) (λ held e. doubt_in_range records held.tid held r e) (are_doubts records)

each_held_put : (P : Held → Type 0) (held : Held) (helds : List Held) → P held → Each P helds → Each P (inserted (λ a b. tid_before a.tid b.tid) held helds)
each_held_put P held [] p rest = (p, tt)
each_held_put P held (other ∷ helds) p rest = by_test (tid_before other.tid held.tid) (each_held_put P held helds p rest.1) where
  by_test : (b : Bool) → Each P (inserted (λ a b. tid_before a.tid b.tid) held helds) → Each P (cond b (other ∷ inserted (λ a b. tid_before a.tid b.tid) held helds) (held ∷ other ∷ helds))
  by_test true more = (rest.0, more)
  by_test false more = (p, rest)

not_before_number : (a b : Tid) → IsTid a → IsTid b → tid_before a b ≡ false → same_tid b a ≡ false → tid_number b < tid_number a
not_before_number a b ra rb e apart = by_less (nat_lt a.tx.0 b.tx.0) refl e where
  small : a.attempt < 32
  small = ra.attempts

  small' : b.attempt < 32
  small' = rb.attempts

  ne : (m n : ℕ) → n ≤ m → (n == m) ≡ false → n < m
  ne m n le e = by_lt (ltb n m) refl where
    by_lt : (t : Bool) → ltb n m ≡ t → n < m
    by_lt true l = ltb-true n m l
    by_lt false l =
        let ge = ltb-false n m l in
        let same : n ≡ m = omega (arith, ge, le) in
        let bad : (n == m) ≡ true = eq-eqb n m same in
        cc

  by_less : (t : Bool) → nat_lt a.tx.0 b.tx.0 ≡ t → (t || ((a.tx.0 == b.tx.0) && nat_lt a.attempt b.attempt)) ≡ false → tid_number b < tid_number a
  by_less true l f = cc
  by_less false l f = by_same (a.tx.0 == b.tx.0) refl f where
    le : b.tx.0 ≤ a.tx.0
    le = ltb-false a.tx.0 b.tx.0 l

    by_same : (t : Bool) → (a.tx.0 == b.tx.0) ≡ t → (t && nat_lt a.attempt b.attempt) ≡ false → tid_number b < tid_number a
    by_same true s f =
        let same = eqb-true a.tx.0 b.tx.0 s in
        let le2 : b.attempt ≤ a.attempt = ltb-false a.attempt b.attempt f in
        let other : (b.attempt == a.attempt) ≡ false = not_same (b.attempt == a.attempt) refl same in
        let less = ne a.attempt b.attempt le2 other in
        omega (arith, same, less)
      where
        not_same : (t : Bool) → (b.attempt == a.attempt) ≡ t → a.tx.0 ≡ b.tx.0 → (b.attempt == a.attempt) ≡ false
        not_same false e same = e
        not_same true e same =
            let both : same_tid b a ≡ true = and_from _ _ (eq-eqb b.tx.0 a.tx.0 (sym same)) e in
            cc
    by_same false s f =
        let other : (b.tx.0 == a.tx.0) ≡ false = turned (b.tx.0 == a.tx.0) refl s in
        let less = ne a.tx.0 b.tx.0 le other in
        omega (arith, less, small')
      where
        turned : (t : Bool) → (b.tx.0 == a.tx.0) ≡ t → (a.tx.0 == b.tx.0) ≡ false → (b.tx.0 == a.tx.0) ≡ false
        turned false e f = e
        turned true e f = let same : (a.tx.0 == b.tx.0) ≡ true = eq-eqb a.tx.0 b.tx.0 (sym (eqb-true b.tx.0 a.tx.0 e)) in cc

-- of a list in which each is once and in its range, what is put in place by place rises
abbrev RisesHeld : List Held → Type 0
RisesHeld [] = Unit {0}
RisesHeld (held ∷ helds) = Each (λ later. tid_number held.tid < tid_number later.tid) helds × RisesHeld helds

held_rises : (held : Held) (helds : List Held) → IsTid held.tid → Each (λ h. IsTid h.tid) helds → Each (λ h. same_tid held.tid h.tid ≡ false) helds → RisesHeld helds
    → RisesHeld (inserted (λ a b. tid_before a.tid b.tid) held helds)
held_rises held [] r rs apart up = (tt, tt)
held_rises held (other ∷ helds) r rs apart up = by_test (tid_before other.tid held.tid) refl (held_rises held helds r rs.1 apart.1 up.1) where
  by_test : (b : Bool) → tid_before other.tid held.tid ≡ b → RisesHeld (inserted (λ a b. tid_before a.tid b.tid) held helds)
      → RisesHeld (cond b (other ∷ inserted (λ a b. tid_before a.tid b.tid) held helds) (held ∷ other ∷ helds))
  by_test true e rest = (each_held_put (λ h. tid_number other.tid < tid_number h.tid) held helds (before-less other.tid held.tid rs.0 r e) up.0, rest)
  by_test false e rest =
      let first : tid_number held.tid < tid_number other.tid = not_before_number other.tid held.tid rs.0 r e apart.0 in
      ((first, each_held_more (λ h. tid_number other.tid < tid_number h.tid) (λ h. tid_number held.tid < tid_number h.tid) helds (λ h l. omega (arith, l, first)) up.0), up)

each_kept_back : (P : Kept → Type 0) (helds : List Held) → Each (λ held. P (kept_held held)) helds → Each P (map kept_held helds)
each_kept_back P [] e = tt
each_kept_back P (held ∷ helds) e = (e.0, each_kept_back P helds e.1)

each_parts : (P : Held → Type 0) (held : Held) (helds : List Held) → Each P (inserted (λ a b. tid_before a.tid b.tid) held helds) → P held × Each P helds
each_parts P held [] e = (e.0, tt)
each_parts P held (other ∷ helds) e = by_test (tid_before other.tid held.tid) e (each_parts P held helds) where
  by_test : (b : Bool) → Each P (cond b (other ∷ inserted (λ a b. tid_before a.tid b.tid) held helds) (held ∷ other ∷ helds))
      → (Each P (inserted (λ a b. tid_before a.tid b.tid) held helds) → P held × Each P helds) → P held × Each P (other ∷ helds)
  by_test true e parts = let more = parts e.1 in (more.0, (e.0, more.1))
  by_test false e parts = (e.0, (e.1.0, e.1.1))

-- where each stands once in the list with one put into it, so they do without it, and it is another one
once_parts : (held : Held) (helds : List Held) → EachOnce (map kept_held (inserted (λ a b. tid_before a.tid b.tid) held helds))
    → EachOnce (map kept_held helds) × Each (λ h. same_tid held.tid h.tid ≡ false) helds
once_parts held [] e = (tt, tt)
once_parts held (other ∷ helds) e = by_test (tid_before other.tid held.tid) e (once_parts held helds) where
  by_test : (b : Bool) → EachOnce (map kept_held (cond b (other ∷ inserted (λ a b. tid_before a.tid b.tid) held helds) (held ∷ other ∷ helds)))
      → (EachOnce (map kept_held (inserted (λ a b. tid_before a.tid b.tid) held helds)) → EachOnce (map kept_held helds) × Each (λ h. same_tid held.tid h.tid ≡ false) helds)
      → EachOnce (map kept_held (other ∷ helds)) × Each (λ h. same_tid held.tid h.tid ≡ false) (other ∷ helds)
  by_test true e parts =
      let both = parts e.1 in
      let more = each_parts (λ h. same_tid other.tid h.tid ≡ false) held helds (each_held (λ k. same_tid other.tid k.tid ≡ false) (inserted (λ a b. tid_before a.tid b.tid) held helds) e.0) in
      ((each_kept_back (λ k. same_tid other.tid k.tid ≡ false) helds more.1, both.0), (same_tid-sym held.tid other.tid ∙ more.0, both.1))
  by_test false e parts = (e.1, each_held (λ k. same_tid held.tid k.tid ≡ false) (other ∷ helds) e.0)

by_tid_rises : (helds : List Held) → Each (λ h. IsTid h.tid) helds → EachOnce (map kept_held (by_tid helds)) → RisesHeld (by_tid helds)
by_tid_rises [] r once = tt
by_tid_rises (held ∷ helds) r once =
    let parts = once_parts held (by_tid helds) once in
    held_rises held (by_tid helds) r.0 (each_by_tid (λ h. IsTid h.tid) helds r.1) parts.1 (by_tid_rises helds r.1 parts.0)

held_numbers : (helds : List Held) → RisesHeld helds → IsRising (λ held. tid_number held.tid) helds
held_numbers [] r = tt
held_numbers (held ∷ []) r = tt
held_numbers (held ∷ other ∷ helds) r = (r.0.0, held_numbers (other ∷ helds) r.1)

-- those that are found rise, once they are in order
found_in_range : (records : List SiteRecord) → AllByRecursion IsRecord records → Each (λ held. IsTid held.tid) (found (doubt_of records) (each_attempt (prepared_tids records)))
found_in_range records r =
    each_of_found (λ held. IsTid held.tid) (doubt_of records) (each_attempt (prepared_tids records)) (λ tid held e. doubt_in_range records tid held r e)

pub doubts_rise : (records : List SiteRecord) → AllByRecursion IsRecord records → IsRising (λ held. tid_number held.tid) (doubts records)
doubts_rise records r = held_numbers (doubts records) (by_tid_rises (found (doubt_of records) (each_attempt (prepared_tids records))) (found_in_range records r) (once_doubts records))

each_all : (P : Tid → Type 0) (tids : List Tid) → Each P tids → AllByRecursion P tids
each_all P [] e = tt
each_all P (tid ∷ tids) e = (e.0, each_all P tids e.1)

each_all_held : (P : Held → Type 0) (helds : List Held) → Each P helds → AllByRecursion P helds
each_all_held P [] e = tt
each_all_held P (held ∷ helds) e = (e.0, each_all_held P helds e.1)

-- the site of the set-up
site_in_range : (home : Home) (newer : List SiteRecord) → AllByRecursion IsRecord (newer ++ foundation home) → IsSite home.site
site_in_range home [] r = r.1.0.0
site_in_range home (newest ∷ newer) r = site_in_range home newer r.1

-- what the records of a site say together has its names in their ranges, and lists that rise
pub sum_in_range : (home : Home) (records : List SiteRecord) → IsFounded home records → AllByRecursion IsRecord records → LocalsOnce records → IsSumInRange (site_sum home records)
sum_in_range home records f r once =
    let R : List SiteRecord → Type 0 = AllByRecursion IsRecord in
    record {
      site = site_in_range home f.newer (subst R f.founded r);
      owner = owner_in_range records r;
      locals = All-from_recursion IsTid (locals_with [] records) (each_all IsTid (locals_with [] records) (locals_in_range records r));
      locals_rise = numbers_rise (locals_with [] records) (locals_rise records once) (locals_in_range records r);
      doubtful = All-from_recursion (λ held. IsTid held.tid) (doubts records) (each_all_held (λ held. IsTid held.tid) (doubts records) (doubts_in_range records r));
      doubtful_rise = doubts_rise records r;
    }

-- the doubts that a start restores
about_first : (tid : Tid) (helds : List Held) → doubt_about tid (map doubt_held helds) ≡ map_some doubt_held (first_where (λ held. same_tid held.tid tid) helds)
about_first tid [] = refl
about_first tid (held ∷ helds) = by_test (same_tid held.tid tid) (about_first tid helds) where
  by_test : (b : Bool) → doubt_about tid (map doubt_held helds) ≡ map_some doubt_held (first_where (λ held. same_tid held.tid tid) helds)
      → cond b (Some (doubt_held held)) (doubt_about tid (map doubt_held helds)) ≡ map_some doubt_held (cond b (Some held) (first_where (λ held. same_tid held.tid tid) helds))
  by_test true rest = refl
  by_test false rest = rest

restored_first : (tid : Tid) (helds : List Held) → is_some (restored_at (map kept_held helds) tid) ≡ is_some (first_where (λ held. same_tid held.tid tid) helds)
restored_first tid [] = refl
restored_first tid (held ∷ helds) = by_test (same_tid held.tid tid) (restored_first tid helds) where
  by_test : (b : Bool) → is_some (restored_at (map kept_held helds) tid) ≡ is_some (first_where (λ held. same_tid held.tid tid) helds)
      → is_some (cond b (Some (restored (kept_held held))) (restored_at (map kept_held helds) tid)) ≡ is_some (cond b (Some held) (first_where (λ held. same_tid held.tid tid) helds))
  by_test true rest = refl
  by_test false rest = rest

own_first : (look : Tid → Option Held) (tid : Tid) (helds : List Held) (held : Held) → Each (λ h. look h.tid ≡ Some h) helds → first_where (λ h. same_tid h.tid tid) helds ≡ Some held → look tid ≡ Some held
own_first look tid [] held own e = cc
own_first look tid (h ∷ helds) held own e = by_test (same_tid h.tid tid) refl e (own_first look tid helds held own.1) where
  same_held : (a b : Held) → ◌≡◌ {A = Option Held} (Some a) (Some b) → a ≡ b
  same_held a b e = cc

  by_test : (b : Bool) → same_tid h.tid tid ≡ b → cond b (Some h) (first_where (λ g. same_tid g.tid tid) helds) ≡ Some held
      → (first_where (λ g. same_tid g.tid tid) helds ≡ Some held → look tid ≡ Some held) → look tid ≡ Some held
  by_test true s f rest = ap look (sym (same_tid-equal h.tid tid s)) ∙ own.0 ∙ ap (λ (g : Held). Some g) (same_held h held f)
  by_test false s f rest = rest f

pub doubts_about : (records : List SiteRecord) (tid : Tid) → doubt_about tid (map doubt_held (doubts records)) ≡ map_some doubt_held (doubt_of records tid)
doubts_about records tid =
    about_first tid (doubts records) ∙ ap (map_some doubt_held) (from (first_where (λ held. same_tid held.tid tid) (doubts records)) refl (doubt_of records tid) refl
    (sym (restored_first tid (doubts records)) ∙ ap is_some (restored_doubt records tid)))
  where
    is_restored : (o : Option Held) → is_some (map_some (λ h. restored (kept_held h)) o) ≡ is_some o
    is_restored None = refl
    is_restored (Some h) = refl

    from : (o : Option Held) → first_where (λ held. same_tid held.tid tid) (doubts records) ≡ o → (p : Option Held) → doubt_of records tid ≡ p
        → is_some (first_where (λ held. same_tid held.tid tid) (doubts records)) ≡ is_some (map_some (λ h. restored (kept_held h)) (doubt_of records tid))
        → first_where (λ held. same_tid held.tid tid) (doubts records) ≡ doubt_of records tid
    from (Some held) e p q same = e ∙ sym (own_first (doubt_of records) tid (doubts records) held (are_doubts records) e)
    from None e None q same = e ∙ sym q
    from None e (Some held) q same =
        let bad : is_some (first_where (λ h. same_tid h.tid tid) (doubts records)) ≡ true = same ∙ is_restored (doubt_of records tid) ∙ ap is_some q in
        let none : is_some (first_where (λ h. same_tid h.tid tid) (doubts records)) ≡ false = ap is_some e in
        cc

-- who is committed by the list of a Sum
abbrev first_of : Tx → List Tid → Option Tid
first_of tx tids = first_where (λ t. same_tx t.tx tx) tids

committed_first : (tids : List Tid) (m : Standings) (tx : Tx) → Rises tids → ((t : Tid) → first_of tx tids ≡ Some t → committed_part (get m tx) ≡ None)
    → committed_part (get (with_committed tids m) tx) ≡ or_else (map_some (λ t. Some t) (first_of tx tids)) (committed_part (get m tx))
committed_first [] m tx r none = refl
committed_first (tid ∷ tids) m tx r none = by_test (same_tx tid.tx tx) refl (committed_first tids (insert m tid.tx (Has.Committed tid)) tx r.1) where
  at : committed_part (get (insert m tid.tx (Has.Committed tid)) tx) ≡ committed_part (cond (same_tx tid.tx tx) (Some (Has.Committed tid)) (get m tx))
  at = ap committed_part (get-put_tx m tid.tx tx (Has.Committed tid))

  no_other : (ts : List Tid) → Each (λ other. tid.tx.0 < other.tx.0) ts → same_tx tid.tx tx ≡ true → first_of tx ts ≡ None
  no_other [] e s = refl
  no_other (t ∷ ts) e s = by_same (same_tx t.tx tx) refl (no_other ts e.1 s) where
    by_same : (b : Bool) → same_tx t.tx tx ≡ b → first_of tx ts ≡ None → cond (same_tx t.tx tx) (Some t) (first_of tx ts) ≡ None
    by_same false f rest = cond-false _ _ _ f ∙ rest
    by_same true f rest =
        let a = eqb-true tid.tx.0 tx.0 s in
        let b = eqb-true t.tx.0 tx.0 f in
        let less = e.0 in
        absurd (omega (arith, a, b, less))

  some_none : (t : Tid) → ◌≡◌ {A = Option Tid} None (Some t) → ⊥
  some_none t e = cc

  by_test : (b : Bool) → same_tx tid.tx tx ≡ b
      → (((t : Tid) → first_of tx tids ≡ Some t → committed_part (get (insert m tid.tx (Has.Committed tid)) tx) ≡ None)
      → committed_part (get (with_committed tids (insert m tid.tx (Has.Committed tid))) tx) ≡ or_else (map_some (λ t. Some t) (first_of tx tids)) (committed_part (get (insert m tid.tx (Has.Committed tid)) tx)))
      → committed_part (get (with_committed tids (insert m tid.tx (Has.Committed tid))) tx) ≡ or_else (map_some (λ t. Some t) (cond (same_tx tid.tx tx) (Some tid) (first_of tx tids))) (committed_part (get m tx))
  by_test true e rest =
      let none_more = no_other tids r.0 e in
      rest (λ t f. absurd (some_none t (sym none_more ∙ f)))
      ∙ ap (λ (o : Option Tid). or_else (map_some (λ t. Some t) o) (committed_part (get (insert m tid.tx (Has.Committed tid)) tx))) none_more
      ∙ at ∙ ap committed_part (cond-true _ _ _ e)
      ∙ sym (ap (λ (o : Option Tid). or_else (map_some (λ t. Some t) o) (committed_part (get m tx))) (cond-true _ _ _ e))
  by_test false e rest =
      let same : committed_part (get (insert m tid.tx (Has.Committed tid)) tx) ≡ committed_part (get m tx) = at ∙ ap committed_part (cond-false _ _ _ e) in
      rest (λ t f. same ∙ none t (cond-false _ _ _ e ∙ f))
      ∙ ap (or_else (map_some (λ t. Some t) (first_of tx tids))) same
      ∙ sym (ap (λ (o : Option Tid). or_else (map_some (λ t. Some t) o) (committed_part (get m tx))) (cond-false _ _ _ e))

first_put : (tx : Tx) (tid : Tid) (tids : List Tid) → Each (λ other. other.tx.0 ≡ tid.tx.0 → ⊥) tids → first_of tx (inserted tid_before tid tids) ≡ cond (same_tx tid.tx tx) (Some tid) (first_of tx tids)
first_put tx tid [] apart = refl
first_put tx tid (other ∷ tids) apart = by_before (tid_before other tid) (first_put tx tid tids apart.1) where
  by_before : (b : Bool) → first_of tx (inserted tid_before tid tids) ≡ cond (same_tx tid.tx tx) (Some tid) (first_of tx tids)
      → first_of tx (cond b (other ∷ inserted tid_before tid tids) (tid ∷ other ∷ tids)) ≡ cond (same_tx tid.tx tx) (Some tid) (first_of tx (other ∷ tids))
  by_before false rest = refl
  by_before true rest = by_both (same_tx other.tx tx) refl (same_tx tid.tx tx) refl rest where
    by_both : (a : Bool) → same_tx other.tx tx ≡ a → (b : Bool) → same_tx tid.tx tx ≡ b → first_of tx (inserted tid_before tid tids) ≡ cond (same_tx tid.tx tx) (Some tid) (first_of tx tids)
        → cond (same_tx other.tx tx) (Some other) (first_of tx (inserted tid_before tid tids)) ≡ cond (same_tx tid.tx tx) (Some tid) (cond (same_tx other.tx tx) (Some other) (first_of tx tids))
    by_both true e true f rest = absurd (apart.0 (eqb-true other.tx.0 tx.0 e ∙ sym (eqb-true tid.tx.0 tx.0 f)))
    by_both true e false f rest = rw (e, f) refl
    by_both false e b f rest = cond-false _ _ _ e ∙ rest ∙ ap (cond (same_tx tid.tx tx) (Some tid)) (sym (cond-false _ _ _ e))

locals_first : (records : List SiteRecord) (tx : Tx) → LocalsOnce records → first_of tx (locals_with [] records) ≡ local_of records tx
locals_first [] tx o = refl
locals_first (Rec.Setup site engine protocol items ∷ records) tx o = locals_first records tx o
locals_first (Rec.Start epoch ∷ records) tx o = locals_first records tx o
locals_first (Rec.Prepared t epoch number ticket writes ∷ records) tx o = locals_first records tx o
locals_first (Rec.Ended t decision ∷ records) tx o = locals_first records tx o
locals_first (Rec.Checkpoint sum ∷ records) tx o = locals_first records tx o
locals_first (Rec.Local local number writes ∷ records) tx o =
    first_put tx local (locals_with [] records) (others records local o.0) ∙ ap (cond (same_tx local.tx tx) (Some local)) (locals_first records tx o.1)

pub committed_from : (records : List SiteRecord) (tx : Tx) → LocalsOnce records → committed_part (get (with_committed (locals_with [] records) empty) tx) ≡ local_of records tx
committed_from records tx o =
    committed_first (locals_with [] records) empty tx (locals_rise records o) (λ t e. ap committed_part (get-empty tx_cmp tx))
    ∙ from (first_of tx (locals_with [] records)) ∙ locals_first records tx o
  where
    from : (o : Option Tid) → or_else (map_some (λ t. Some t) o) (committed_part (get {R = tx_cmp} empty tx)) ≡ o
    from None = ap committed_part (get-empty tx_cmp tx)
    from (Some t) = refl

-- a list that rises below a bound is no longer than it
rises_below : (first : Held) (helds : List Held) (n : ℕ) → IsRising (λ held. tid_number held.tid) (first ∷ helds) → Each (λ held. tid_number held.tid < n) (first ∷ helds) → tid_number first.tid + length (first ∷ helds) ≤ n
rises_below first [] n r e = let small = e.0 in omega (arith, small)
rises_below first (next ∷ helds) n r e =
    let rest = rises_below next helds n r.1 e.1 in
    let less = r.0 in
    omega (arith, rest, less)

below : (held : Held) → IsTid held.tid → tid_number held.tid < 2 ^ 31
below held t = let a = t.greatest in let b = t.attempts in omega (arith, a, b)

-- so few are in doubt
pub few_doubts : (records : List SiteRecord) → AllByRecursion IsRecord records → length (doubts records) < 2 ^ 32
few_doubts records r =
    from (doubts records) (doubts_rise records r) (each_held_more (λ held. IsTid held.tid) (λ held. tid_number held.tid < 2 ^ 31) (doubts records) below (doubts_in_range records r))
  where
    from : (helds : List Held) → IsRising (λ held. tid_number held.tid) helds → Each (λ held. tid_number held.tid < 2 ^ 31) helds → length helds < 2 ^ 32
    from [] r e = omega arith
    from (held ∷ helds) r e = let most = rises_below held helds (2 ^ 31) r e in omega (arith, most)
