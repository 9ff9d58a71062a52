-- Which accesses conflict.
use Rattle.std.proofs.Common.{◌≡◌, Bool, ◌||◌, List, [], ◌∷◌, refl, ap, false, ℕ, true, ◌∙◌}
use Rattle.mdb_base.specs.declared.names.Key.{Key}
use Rattle.mdb_base.specs.declared.rows.Put.{Put}
use Rattle.mdb_base.specs.Names.{same_key}
use Rattle.mdb_base.specs.Words.{some_of}
use Rattle.mdb_base.specs.declared.acts.PlainAct.TheVariants.{Read, Write}
use Rattle.fed_rules.specs.Runs.{written, Access, Got, Wrote}
use Rattle.fed_rules.specs.Replies.{writes, conflicts, reads}
use Rattle.fed_rules.specs.EngineLines.{has_row}

-- a restored run has written the rows of its record
pub written_rows : (key : Key) (puts : List Put) → some_of (writes key) (written puts) ≡ has_row key puts
written_rows key [] = refl
written_rows key (put ∷ puts) = ap (λ (b : Bool). same_key put.key key || b) (written_rows key puts)

-- an access that conflicts with a read is a write of the key, and one that conflicts with a write any access of it
pub read_conflicts : (key : Key) (acts : List Access) → some_of (conflicts (Read key)) acts ≡ some_of (writes key) acts
read_conflicts key [] = refl
read_conflicts key (Got k value ∷ acts) = read_conflicts key acts
read_conflicts key (Wrote k value ∷ acts) = ap (λ (b : Bool). same_key k key || b) (read_conflicts key acts)

pub read_none : (key : Key) (puts : List Put) → some_of (reads key) (written puts) ≡ false
read_none key [] = refl
read_none key (put ∷ puts) = read_none key puts

pub write_conflicts : (key : Key) (v : ℕ) (acts : List Access) → some_of (conflicts (Write key v)) acts ≡ (some_of (reads key) acts || some_of (writes key) acts)
write_conflicts key v [] = refl
write_conflicts key v (Got k value ∷ acts) =
    ap (λ (b : Bool). same_key k key || b) (write_conflicts key v acts) ∙ joined (same_key k key) (some_of (reads key) acts) (some_of (writes key) acts)
  where
    joined : (x r w : Bool) → (x || (r || w)) ≡ ((x || r) || w)
    joined true r w = refl
    joined false r w = refl
write_conflicts key v (Wrote k value ∷ acts) =
    ap (λ (b : Bool). same_key k key || b) (write_conflicts key v acts) ∙ joined (same_key k key) (some_of (reads key) acts) (some_of (writes key) acts)
  where
    joined : (x r w : Bool) → (x || (r || w)) ≡ (r || (x || w))
    joined true true w = refl
    joined true false w = refl
    joined false true w = refl
    joined false false w = refl
