-- The least attempt in doubt stands first in the book of doubts.
use Rattle.std.proofs.Common.{◌≡◌, Bool, true, false, cond, is_some, Option, Some, List, [], ◌∷◌, length, slice_get, refl, sym, ap, ◌∙◌, subst, arith}
use Rattle.std.proofs.lemmas.Option.{same_Some}
use Rattle.mdb_base.specs.declared.names.Tid.{Tid}
use Rattle.mdb_base.specs.Names.{same_tid, tid_before}
use Rattle.mdb_base.specs.Words.{Each, map_some}
use Rattle.mdb_base.proofs.ForCallers.{same_tid-refl, some_mapped}
use Rattle.fed_rules.specs.declared.runs.Doubt.{Doubt}
use Rattle.fed_rules.specs.SitePast.{SitePast, records}
use Rattle.fed_rules.specs.SiteRecords.{Home, doubt_of}
use Rattle.journal_sums.specs.Starts.{doubt_held}
use Rattle.prepared_state.specs.Book.{IsByTid, doubt_about, stands_before}
use Rattle.fed_hosts.specs.Turns.{IsLeastInDoubt, is_in_doubt}

same_unbefore : (a b : Tid) → same_tid a b ≡ true → tid_before b a ≡ false
same_unbefore a b same = grind arith

before_unbefore : (a b c : Tid) → tid_before a b ≡ true → same_tid b c ≡ true → tid_before c a ≡ false
before_unbefore a b c before same = grind arith

-- an attempt that is listed behind another isn't before it
behind : (first : Doubt) (doubts : List Doubt) (other : Tid) → Each (λ later. stands_before first later ≡ true) doubts → is_some (doubt_about other doubts) ≡ true → tid_before other first.tid ≡ false
behind first [] other before listed = cc
behind first (doubt ∷ doubts) other before listed = by_test (same_tid doubt.tid other) refl listed (behind first doubts other before.1) where
  by_test : (b : Bool) → same_tid doubt.tid other ≡ b → is_some (cond b (Some doubt) (doubt_about other doubts)) ≡ true → (is_some (doubt_about other doubts) ≡ true → tid_before other first.tid ≡ false) → tid_before other first.tid ≡ false
  by_test true same is more = before_unbefore first.tid doubt.tid other before.0 same
  by_test false apart is more = more is

-- nor is one that is listed at all before the first
listed_first : (first : Doubt) (doubts : List Doubt) (other : Tid) → IsByTid (first ∷ doubts) → is_some (doubt_about other (first ∷ doubts)) ≡ true → tid_before other first.tid ≡ false
listed_first first doubts other order listed = by_test (same_tid first.tid other) refl listed where
  by_test : (b : Bool) → same_tid first.tid other ≡ b → is_some (cond b (Some first) (doubt_about other doubts)) ≡ true → tid_before other first.tid ≡ false
  by_test true same is = same_unbefore first.tid other same
  by_test false apart is = behind first doubts other order.0 is

-- the doubts are those of the site
abbrev pub AreItsDoubts : Home → SitePast → List Doubt → Type 0
AreItsDoubts home past doubts = (tid : Tid) → doubt_about tid doubts ≡ map_some doubt_held (doubt_of (records home past) tid)

listed_in_doubt : (home : Home) (past : SitePast) (doubts : List Doubt) → AreItsDoubts home past doubts → (tid : Tid) → is_in_doubt home past tid ≡ is_some (doubt_about tid doubts)
listed_in_doubt home past doubts are tid = sym (ap (λ (o : Option Doubt). is_some o) (are tid) ∙ some_mapped doubt_held (doubt_of (records home past) tid))

-- where none is listed the site is in doubt of none
pub none_in_doubt : (home : Home) (past : SitePast) (doubts : List Doubt) → AreItsDoubts home past doubts → length doubts ≡ 0 → (tid : Tid) → is_in_doubt home past tid ≡ false
none_in_doubt home past [] are none tid = listed_in_doubt home past [] are tid
none_in_doubt home past (doubt ∷ doubts) are none tid = absurd (omega (arith, none))

-- the first that is listed is the least
pub first_in_doubt : (home : Home) (past : SitePast) (doubts : List Doubt) (first : Doubt) → AreItsDoubts home past doubts → IsByTid doubts → slice_get doubts 0 ≡ Some first → IsLeastInDoubt home past first.tid
first_in_doubt home past [] first are order at = cc
first_in_doubt home past (doubt ∷ doubts) first are order at =
    subst (λ (d : Doubt). IsLeastInDoubt home past d.tid) (same_Some doubt first at)
    (record {
      doubtful = listed_in_doubt home past (doubt ∷ doubts) are doubt.tid ∙ ap (λ (b : Bool). is_some (cond b (Some doubt) (doubt_about doubt.tid doubts))) (same_tid-refl doubt.tid);
      least = λ other is. listed_first doubt doubts other order (sym (listed_in_doubt home past (doubt ∷ doubts) are other) ∙ is);
    })
