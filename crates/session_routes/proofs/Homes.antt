-- The sites of local transactions by their lines.
use Rattle.std.proofs.Common.{◌≡◌, ℕ, suc, ◌<◌, Bool, true, false, cond, ltb, Option, Some, None, List, ◌∷◌, length, drop, drop-cons, get_or, refl, sym, ap, ◌∙◌}
use Rattle.std.proofs.lemmas.Bool.{ltb-false}
use Rattle.std.proofs.lemmas.Option.{slice_get_past}
use Rattle.mdb_base.specs.declared.names.SiteId.{SiteId}
use Rattle.mdb_base.specs.declared.names.Tx.{Tx}
use Rattle.mdb_base.specs.Names.{same_tx}
use Rattle.mdb_base.specs.Words.{first_where, or_else}
use Rattle.fed_rules.specs.declared.scenario.TxLine.{TxLine}
use Rattle.fed_rules.specs.Scenarios.{home_of_line}
use Rattle.session_routes.specs.Routes.{AreHomes, home_in, noted}

-- so the list goes on with a line
pub noted_more : (line : TxLine) (lines : List TxLine) (homes more : List (Option SiteId)) → AreHomes lines homes → ((tx : Tx) → home_in more tx ≡ noted line homes tx) → AreHomes (line ∷ lines) more
noted_more line lines homes more held is tx = is tx ∙ by_test (same_tx line.tx tx)
  where
    by_test : (b : Bool) → cond b line.home (home_in homes tx) ≡ home_of_line (cond b (Some line) (first_where (λ (l : TxLine). same_tx l.tx tx) lines))
    by_test true = refl
    by_test false = held tx

-- a number behind the list is that of no local transaction
pub no_home : (homes : List (Option SiteId)) (tx : Tx) → false ≡ ltb tx.0 (length homes) → home_in homes tx ≡ None
no_home homes tx past = ap (λ (home : Option (Option SiteId)). or_else home None) (slice_get_past homes tx.0 (ltb-false tx.0 (length homes) (sym past)))

pub drop_at : {A : Type 0} (xs : List A) (i left : ℕ) (d : A) → left ≡ suc i → i < length xs → drop i xs ≡ get_or xs i d ∷ drop left xs
drop_at xs i left d next within = drop-cons xs i d within ∙ ap (λ (n : ℕ). get_or xs i d ∷ drop n xs) (sym next)
