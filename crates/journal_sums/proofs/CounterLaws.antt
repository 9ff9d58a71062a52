-- The counters with one more record.
use Rattle.std.proofs.Common.{◌≡◌, ℕ, Bool, true, false, cond, nat_lt, Option, Some, List, ◌∷◌, refl, ap, ◌∙◌, arith}
use Rattle.std.specs.Prelude.{max}
use Rattle.std.proofs.lemmas.Bool.{ltb-true, ltb-false}
use Rattle.mdb_base.specs.declared.names.Tid.{Tid}
use Rattle.mdb_base.specs.declared.rows.Put.{Put}
use Rattle.fed_rules.specs.declared.records.SiteRecord.{SiteRecord}
use Rattle.fed_rules.specs.declared.records.SiteRecord.TheVariants.{Prepared, Local}
use Rattle.fed_rules.specs.declared.sums.SiteSum.{SiteSum}
use Rattle.journal_sums.specs.declared.counters.SiteCounters.{SiteCounters}
use Rattle.journal_sums.specs.Readings.{TellsCounters}

-- of three numbers it doesn't matter which two are compared first
greatest : (a b c : ℕ) → max a (max b c) ≡ max (max a b) c
greatest a b c = omega arith

owner_more : (p last t : ℕ) (x o q : Option Tid) → cond (nat_lt (max last p) t) x (cond (nat_lt p last) o q) ≡ cond (nat_lt p (max t last)) (cond (nat_lt last t) x o) q
owner_more p last t x o q = by_tests (nat_lt (max last p) t) refl (nat_lt p last) refl (nat_lt last t) refl (nat_lt p (max t last)) refl
  where
    by_tests : (a : Bool) → nat_lt (max last p) t ≡ a → (b : Bool) → nat_lt p last ≡ b → (c : Bool) → nat_lt last t ≡ c → (d : Bool) → nat_lt p (max t last) ≡ d →
        cond a x (cond b o q) ≡ cond d (cond c x o) q
    by_tests true a b e true c true d = refl
    by_tests true a b e false c d f = let h = ltb-true _ _ a in let k = ltb-false _ _ c in absurd (omega arith)
    by_tests true a b e true c false f = let h = ltb-true _ _ a in let k = ltb-false _ _ f in absurd (omega arith)
    by_tests false a true e true c d f = let h = ltb-false _ _ a in let k = ltb-true _ _ c in let l = ltb-true _ _ e in absurd (omega arith)
    by_tests false a true e false c true d = refl
    by_tests false a true e false c false f = let h = ltb-true _ _ e in let k = ltb-false _ _ f in absurd (omega arith)
    by_tests false a false e true c true f = let h = ltb-false _ _ a in let k = ltb-true _ _ f in let l = ltb-false _ _ e in absurd (omega arith)
    by_tests false a false e false c true f = let h = ltb-true _ _ f in let k = ltb-false _ _ e in let l = ltb-false _ _ c in absurd (omega arith)
    by_tests false a false e c g false f = refl

abbrev counted : ℕ → SiteCounters → SiteCounters
counted number counters = record { epoch = counters.epoch; counter = max number counters.counter; published = counters.published; owner = counters.owner }

pub tells_local : (counters : SiteCounters) (tid : Tid) (number : ℕ) (writes : List Put) (sum : SiteSum) (newer : List SiteRecord) → TellsCounters counters sum newer →
    TellsCounters (counted number counters) sum (Local tid number writes ∷ newer)
tells_local counters tid number writes sum newer tells = record {
  epoch = tells.epoch;
  counter = ap (max number) tells.counter ∙ greatest number _ sum.counter;
  published = tells.published;
  owner = tells.owner;
}

pub tells_prepared : (counters : SiteCounters) (tid : Tid) (epoch number ticket : ℕ) (writes : List Put) (sum : SiteSum) (newer : List SiteRecord) → TellsCounters counters sum newer →
    TellsCounters (record {
      epoch = counters.epoch;
      counter = max number counters.counter;
      published = max ticket counters.published;
      owner = cond (nat_lt counters.published ticket) (Some tid) counters.owner;
    }) sum (Prepared tid epoch number ticket writes ∷ newer)
tells_prepared counters tid epoch number ticket writes sum newer tells = record {
  epoch = tells.epoch;
  counter = ap (max number) tells.counter ∙ greatest number _ sum.counter;
  published = ap (max ticket) tells.published ∙ greatest ticket _ sum.published;
  owner = ap (λ p. cond (nat_lt p ticket) (Some tid) counters.owner) tells.published ∙ ap (cond (nat_lt (max _ sum.published) ticket) (Some tid)) tells.owner
      ∙ owner_more sum.published _ ticket (Some tid) _ sum.owner;
}
