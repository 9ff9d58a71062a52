-- A Sum goes on with newer records as all the records do.
use Rattle.std.proofs.Common.{◌≡◌, ℕ, List, []}
use Rattle.mdb_base.specs.declared.names.Tid.{Tid}
use Rattle.mdb_base.specs.declared.rows.Put.{Put}
use Rattle.std.specs.Prelude.{Option}
use Rattle.fed_rules.specs.declared.sums.SiteSum.{SiteSum}
use Rattle.fed_rules.specs.SiteRecords.{Home, Held}
use Rattle.site_history.specs.Sums.{SumsGoOn, SumGoesOnBehind}
use Rattle.site_history.proofs.Behind.{epoch_behind, number_behind, ticket_behind, owner_behind, locals_behind, rows_behind}
use Rattle.site_history.proofs.Doubtful.{doubts_behind}
use Rattle.site_history.proofs.Mixed.{rows_behind_any}

abbrev pub sum_of : Home → ℕ → ℕ → ℕ → Option Tid → List Put → List Tid → List Held → SiteSum
sum_of home epoch counter published owner rows locals doubtful =
    record {
      site = home.site;
      engine = home.engine;
      protocol = home.protocol;
      epoch = epoch;
      counter = counter;
      published = published;
      owner = owner;
      rows = rows;
      locals = locals;
      doubtful = doubtful;
    }

pub same_parts : (home : Home) {e f c d p q : ℕ} {o w : Option Tid} {r s : List Put} {l m : List Tid} {x y : List Held}
    → e ≡ f → c ≡ d → p ≡ q → o ≡ w → r ≡ s → l ≡ m → x ≡ y → sum_of home e c p o r l x ≡ sum_of home f d q w s m y
same_parts home a b c d e f g = cc

pub goes_on_in_order : SumsGoOn
goes_on_in_order home newer older order =
    same_parts home (epoch_behind 0 newer older) (number_behind newer older) (ticket_behind newer older) (owner_behind newer older)
    (rows_behind home.items newer older order) (locals_behind (let none : List Tid = [] in none) newer older) (doubts_behind newer older)

pub goes_on_behind : SumGoesOnBehind
goes_on_behind home newer older none =
    same_parts home (epoch_behind 0 newer older) (number_behind newer older) (ticket_behind newer older) (owner_behind newer older)
    (rows_behind_any home.items newer older none) (locals_behind (let none : List Tid = [] in none) newer older) (doubts_behind newer older)
