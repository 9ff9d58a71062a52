-- A walk over records with a state: whether the next ones keep a rule behind those before, and what the state tells of all of them then. Lists of
-- records stand newest first.
use Rattle.std.specs.Prelude.{◌≡◌, ◌↔◌, ◌++◌, Bool, true, List}

-- what a walk is about: what is given of the records, what its state tells of them, and the rule that it tests
pub record Walk (State Entry : Type 0) : Type 1 where
  pub Given : List Entry → Type 0
  pub Tells : State → List Entry → Type 0
  pub Keeps : List Entry → Type 0

-- these entries were taken, and this is whether they keep the rule behind any records that keep it
abbrev pub TakesAll : {State Entry : Type 0} → Walk State Entry → (before after : State) → (entries : List Entry) → (fits : Bool) → Type 0
TakesAll {State} {Entry} walk before after entries fits =
    (older : List Entry) → walk.Given (entries ++ older) → walk.Tells before older → walk.Keeps older
    → ((fits ≡ true) ↔ walk.Keeps (entries ++ older)) × (fits ≡ true → walk.Tells after (entries ++ older))
