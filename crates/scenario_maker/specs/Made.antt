-- The scenario that a number makes.
use Rattle.std.specs.Prelude.{ℕ, zero, suc, ◌+◌, ◌*◌, ◌-◌, ◌%◌, ◌^◌, ◌==◌, ◌&&◌, nat_le, Bool, false, cond, Option, Some, None, List, [], ◌∷◌, ◌++◌, map}
use Rattle.mdb_base.specs.declared.names.Engine.{Engine}
use Rattle.mdb_base.specs.declared.names.Engine.TheVariants.{Locking, Timestamp, Validation}
use Rattle.mdb_base.specs.declared.names.SiteId.{SiteId}
use Rattle.mdb_base.specs.declared.acts.Act.TheVariants.{Get, Add}
use Rattle.mdb_base.specs.declared.acts.Step.{Step}
use Rattle.presumptions.specs.declared.Protocol.{Protocol}
use Rattle.presumptions.specs.declared.Protocol.TheVariants as By
use Rattle.fed_rules.specs.declared.scenario.SiteLine.{SiteLine}
use Rattle.fed_rules.specs.declared.scenario.ItemLine.{ItemLine}
use Rattle.fed_rules.specs.declared.scenario.TxLine.{TxLine}
use Rattle.fed_rules.specs.Plans.{Plan}
use Rattle.scenario_maker.specs.Draws.{drawn, so_far}

-- 0 is locking, 1 timestamp order, 2 validation
abbrev pub engine_of : ℕ → Engine
engine_of n = cond (n == 0) Locking (cond (n == 1) Timestamp Validation)

-- 0 presumes nothing, 1 abort, 2 commit
abbrev pub protocol_of : ℕ → Protocol
protocol_of n = cond (n == 0) By.Nothing (cond (n == 1) By.Abort By.Commit)

-- a site draws its engine and then its protocol
abbrev pub made_site : ℕ → ℕ → SiteLine
made_site site x = record { site = record { 0 = site }; engine = engine_of (drawn x 3); protocol = protocol_of (drawn (so_far 1 x) 3) }

-- the last number once so many sites are drawn
abbrev pub behind_sites : ℕ → ℕ → ℕ
behind_sites zero x = x
behind_sites (suc n) x = so_far 2 (behind_sites n x)

-- the sites from 1 on
abbrev pub made_sites : ℕ → ℕ → List SiteLine
made_sites zero x = []
made_sites (suc n) x = made_sites n x ++ made_site (suc n) (behind_sites n x) ∷ []

-- a row of 100
abbrev pub made_item : ℕ → ℕ → ItemLine
made_item site key = record { site = record { 0 = site }; put = record { key = record { 0 = key }; value = 100 } }

-- the rows of a site are those of so many keys from 0 on
abbrev pub made_rows : ℕ → ℕ → List ItemLine
made_rows zero site = []
made_rows (suc keys) site = made_rows keys site ++ made_item site keys ∷ []

-- ten rows for each site
abbrev pub made_items : ℕ → List ItemLine
made_items zero = []
made_items (suc n) = made_items n ++ made_rows 10 (suc n)

-- takes an amount from a row and puts it into another one; what is taken is added modulo 2^64
abbrev pub transfer : (from key to other amount : ℕ) → List Step
transfer from key to other amount =
    record { site = record { 0 = from }; act = Get (record { 0 = key }) }
    ∷ record { site = record { 0 = from }; act = Add (record { 0 = key }) 0 (2 ^ 64 - amount) }
    ∷ record { site = record { 0 = to }; act = Get (record { 0 = other }) }
    ∷ record { site = record { 0 = to }; act = Add (record { 0 = other }) 1 amount } ∷ []

-- a global transaction draws two sites, a row of each, and the amount
abbrev pub made_global : ℕ → ℕ → ℕ → TxLine
made_global sites t x =
    let from = 1 + drawn x sites in
    let to = 1 + (from + drawn (so_far 1 x) (sites - 1)) % sites in
    record {
      tx = record { 0 = t };
      home = None;
      program = transfer from (drawn (so_far 2 x) 10) to (drawn (so_far 3 x) 10) (1 + drawn (so_far 4 x) 9);
    }

-- a local one draws its site, two different rows of it, and the amount
abbrev pub made_local : ℕ → ℕ → ℕ → TxLine
made_local sites t x =
    let home = 1 + drawn x sites in
    let key = drawn (so_far 1 x) 10 in
    record {
      tx = record { 0 = t };
      home = Some (record { 0 = home });
      program = transfer home key home ((key + 1 + drawn (so_far 2 x) 9) % 10) (1 + drawn (so_far 3 x) 9);
    }

-- every second transaction is a global one where there are two sites or more
abbrev pub is_global : ℕ → ℕ → Bool
is_global sites t = nat_le 2 sites && (t % 2 == 0)

abbrev pub made_transaction : ℕ → ℕ → ℕ → TxLine
made_transaction sites t x = cond (is_global sites t) (made_global sites t x) (made_local sites t x)

-- the last number once so many transactions are drawn
abbrev pub behind_transactions : ℕ → ℕ → ℕ → ℕ
behind_transactions sites zero x = x
behind_transactions sites (suc n) x = so_far (cond (is_global sites (suc n)) 5 4) (behind_transactions sites n x)

-- the transactions from 1 on
abbrev pub made_transactions : ℕ → ℕ → ℕ → List TxLine
made_transactions sites zero x = []
made_transactions sites (suc n) x =
    made_transactions sites n x ++ made_transaction sites (suc n) (behind_transactions sites n x) ∷ []

-- the whole scenario; clients, turns and tries are the default ones, and no message is lost and no actor stopped
abbrev pub made : (number sites transactions : ℕ) → Plan
made number sites transactions = record {
  sites = made_sites sites number;
  items = made_items sites;
  transactions = made_transactions sites transactions (behind_sites sites number);
  clients = 4;
  turns = 1000;
  tries = 4;
  links = [];
  stops = [];
  conservative = false;
}
