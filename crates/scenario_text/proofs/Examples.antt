-- Texts and what they spell, by evaluation.
use Rattle.std.proofs.Common.{◌≡◌, ℕ, true, false, List, [], ◌∷◌, ◌++◌, Some, Ok, Err, refl}
use Rattle.std.specs.Prelude.{codes}
use Rattle.mdb_base.specs.declared.names.Engine.TheVariants.{Locking, Multiversion}
use Rattle.mdb_base.specs.declared.acts.Act.TheVariants.{Get, Add}
use Rattle.presumptions.specs.declared.Protocol.TheVariants as protocols
use Rattle.scenario_text.specs.declared.bad.BadWhy.{BadWhy}
use Rattle.scenario_text.specs.declared.bad.BadWhy.TheVariants as why
use Rattle.scenario_text.specs.Texts.{scenario_of}
use Rattle.scenario_text.proofs.Opened.{opened}

-- these lines, each ended by a line feed
text_of : List (List ℕ) → List ℕ
text_of [] = []
text_of (line ∷ lines) = line ++ 10 ∷ text_of lines

-- a text whose first bad line is this one
bad_at : List ℕ → ℕ → BadWhy → Type 0
bad_at text line why = scenario_of text ≡ Err (record { line = line; why = why })

unknown_first_word : bad_at (text_of (codes "sites 1" ∷ [])) 1 why.Word
unfolding opened text_of bad_at
unknown_first_word = refl

ninth_site : bad_at (text_of (codes "site 9 locking abort" ∷ [])) 1 why.Range
unfolding opened text_of bad_at
ninth_site = refl

site_twice : bad_at (text_of (codes "site 1 locking abort" ∷ codes "site 1 locking abort" ∷ [])) 2 why.Repeated
unfolding opened text_of bad_at
site_twice = refl

register_before_its_read : bad_at (text_of (codes "site 1 locking abort" ∷ codes "local 1 1 add:5:0:1" ∷ [])) 2 why.Register
unfolding opened text_of bad_at
register_before_its_read = refl

unknown_policy : bad_at (text_of (codes "policy any" ∷ [])) 1 why.Spelling
unfolding opened text_of bad_at
unknown_policy = refl

policy_twice : bad_at (text_of (codes "policy always" ∷ codes "policy conservative" ∷ [])) 2 why.Repeated
unfolding opened text_of bad_at
policy_twice = refl

one_local : scenario_of (text_of (codes "site 1 locking nothing" ∷ codes "local 1 1 get:5 add:5:0:7" ∷ [])) ≡ Ok (record {
  sites = record { site = record { 0 = 1 }; engine = Locking; protocol = protocols.Nothing } ∷ [];
  items = [];
  transactions = record { tx = record { 0 = 1 }; home = Some (record { 0 = 1 }); program = record { site = record { 0 = 1 }; act = Get (record { 0 = 5 }) } ∷ record { site = record { 0 = 1 }; act = Add (record { 0 = 5 }) 0 7 } ∷ [] } ∷ [];
  clients = 4;
  turns = 1000;
  tries = 4;
  links = [];
  stops = [];
  conservative = false;
})
unfolding opened text_of
one_local = refl

conservative_versions : scenario_of (text_of (codes "site 2 multiversion abort" ∷ codes "policy conservative" ∷ [])) ≡ Ok (record {
  sites = record { site = record { 0 = 2 }; engine = Multiversion; protocol = protocols.Abort } ∷ [];
  items = [];
  transactions = [];
  clients = 4;
  turns = 1000;
  tries = 4;
  links = [];
  stops = [];
  conservative = true;
})
unfolding opened text_of
conservative_versions = refl
