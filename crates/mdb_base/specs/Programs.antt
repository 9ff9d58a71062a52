-- Programs, and the plain act that each of their steps becomes.
use Rattle.std.specs.Prelude.{ℕ, suc, ◌≡◌, ◌+◌, ◌%◌, ◌^◌, ◌<◌, ◌≤◌, Bool, true, false, cond, nat_lt, Option, Some, None, List, [], ◌∷◌, length, slice_index}
use Rattle.mdb_base.specs.declared.acts.Act.{Act}
use Rattle.mdb_base.specs.declared.acts.Act.TheVariants.{Get, Set, Add}
use Rattle.mdb_base.specs.declared.acts.PlainAct.{PlainAct}
use Rattle.mdb_base.specs.declared.acts.PlainAct.TheVariants.{Read, Write}
use Rattle.mdb_base.specs.declared.acts.Step.{Step}
use Rattle.mdb_base.specs.declared.program.Next.{Next}
use Rattle.mdb_base.specs.Words.{given, how_many, item_at}

-- how many steps a program may have
abbrev pub most_steps : ℕ
most_steps = 32

-- an act, with its register filled in from the values read so far; addition is modulo 2^64
abbrev pub plain_act : List ℕ → Act → PlainAct
plain_act reads (Get key) = Read key
plain_act reads (Set key value) = Write key value
plain_act reads (Add key register amount) = Write key ((slice_index reads register + amount) % 2 ^ 64)

-- whether an act reads a row
abbrev pub is_get : Act → Bool
is_get (Get key) = true
is_get act = false

-- whether the act's register is below so many reads
abbrev pub has_register : ℕ → Act → Bool
has_register reads (Add key register amount) = nat_lt register reads
has_register reads act = true

-- how many reads there are after an act
abbrev pub reads_after : ℕ → Act → ℕ
reads_after reads (Get key) = suc reads
reads_after reads act = reads

-- the place of the first step whose register isn't below the number of reads before it
abbrev pub bad_register : (reads place : ℕ) → List Step → Option ℕ
bad_register reads place [] = None
bad_register reads place (x ∷ xs) =
    cond (has_register reads x.act) (bad_register (reads_after reads x.act) (suc place) xs) (Some place)

-- a program has 1 to 32 steps, each register of which is below the number of reads before it
pub record IsProgram (steps : List Step) : Type 0 where
  pub some : 0 < length steps
  pub few : length steps ≤ most_steps
  pub registers : bad_register 0 0 steps ≡ None

-- how many of the steps read a row
abbrev pub reads_of : List Step → ℕ
reads_of = how_many (λ step. is_get step.act)

-- the step at this place with its act filled in from the values read before it; none behind the last step
abbrev pub next_of : List Step → ℕ → List ℕ → Option Next
next_of steps done reads =
    given (item_at steps done) (λ step. Some (record { site = step.site; act = plain_act reads step.act })) None
