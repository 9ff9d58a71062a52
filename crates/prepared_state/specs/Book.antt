-- The prepared transactions that a site is in doubt of, by rising attempt.
use Rattle.std.specs.Prelude.{ℕ, ◌≡◌, Bool, true, not, Option, None, List, [], ◌∷◌}
use Rattle.mdb_base.specs.declared.names.Tid.{Tid}
use Rattle.mdb_base.specs.Names.{same_tid, tid_before}
use Rattle.mdb_base.specs.Words.{Each, first_where, how_many, those}
use Rattle.fed_rules.specs.declared.runs.Doubt.{Doubt}

-- the doubts by rising attempt, and for how many further ones there is room
pub record Book : Type 0 where
  pub doubts : List Doubt
  pub spare : ℕ

-- whether a doubt is about the attempt
abbrev pub is_about : Tid → Doubt → Bool
is_about tid doubt = same_tid doubt.tid tid

-- whether a doubt stands before another one
abbrev pub stands_before : Doubt → Doubt → Bool
stands_before a b = tid_before a.tid b.tid

-- the doubt about the attempt
abbrev pub doubt_about : Tid → List Doubt → Option Doubt
doubt_about tid doubts = first_where (is_about tid) doubts

-- the doubts about other attempts
abbrev pub others : Tid → List Doubt → List Doubt
others tid doubts = those (λ doubt. not (is_about tid doubt)) doubts

-- how many doubts are about attempts before this one
abbrev pub count_before : Tid → List Doubt → ℕ
count_before tid doubts = how_many (λ doubt. tid_before doubt.tid tid) doubts

-- each doubt stands before all behind it
abbrev pub IsByTid : List Doubt → Type 0
IsByTid [] = Unit {0}
IsByTid (doubt ∷ doubts) = Each (λ later. stands_before doubt later ≡ true) doubts × IsByTid doubts

-- the doubts are about different attempts
abbrev pub AreApart : List Doubt → Type 0
AreApart [] = Unit {0}
AreApart (doubt ∷ doubts) = (doubt_about doubt.tid doubts ≡ None) × AreApart doubts
