-- What is found through a test, and numbers that are large enough to be none.
use Rattle.std.proofs.Common.{◌≡◌, ℕ, ◌<◌, ◌^◌, Bool, true, false, cond, IsTrue, Option, Some, None, option_and_then, nat_le, refl, subst, arith}
use Rattle.std.proofs.lemmas.Bool.{ltb-true, leb-true, lt-ltb}
use Rattle.std.proofs.lemmas.Option.{none-some, same_Some}
use Rattle.mdb_base.specs.Words.{map_some}
use Rattle.mdb_base.specs.declared.names.Key.{Key}
use Rattle.mdb_base.specs.declared.names.SiteId.{SiteId}
use Rattle.mdb_base.specs.declared.names.Tx.{Tx}
use Rattle.mdb_base.proofs.ForCallers.{is_true_parts}
use Rattle.line_text.specs.Range.{is_large, is_small, is_site, is_tx, is_key, is_actor, is_count, is_cut}

-- what a function makes of a value that a test let through
pub from_guard : {X C : Type 0} (b : Bool) (x : X) (f : X → C) (c : C) (P : C → Type 0) → map_some f (cond b (Some x) None) ≡ Some c → (IsTrue b → P (f x)) → P c
from_guard true x f c P e g = subst P (same_Some (f x) c e) (g refl)
from_guard false x f c P e g = absurd (none-some c e)

-- what a search finds with a value that a test let through
pub from_bind : {X C : Type 0} (b : Bool) (x : X) (f : X → Option C) (c : C) (P : C → Type 0) → option_and_then f (cond b (Some x) None) ≡ Some c → (IsTrue b → f x ≡ Some c → P c) → P c
from_bind true x f c P e g = g refl e
from_bind false x f c P e g = absurd (none-some c e)

-- what a function makes of a value that was found
pub from_map : {X C : Type 0} (o : Option X) (f : X → C) (c : C) (P : C → Type 0) → map_some f o ≡ Some c → ((x : X) → o ≡ Some x → P (f x)) → P c
from_map None f c P e g = absurd (none-some c e)
from_map (Some x) f c P e g = subst P (same_Some (f x) c e) (g x refl)

-- what a search finds with a value that was found
pub from_next : {X C : Type 0} (o : Option X) (f : X → Option C) (c : C) (P : Type 0) → option_and_then f o ≡ Some c → ((x : X) → o ≡ Some x → f x ≡ Some c → P) → P
from_next None f c P e g = absurd (none-some c e)
from_next (Some x) f c P e g = g x refl e

-- numbers in range are below 2 ^ 64
pub large_below : (most n : ℕ) → most < 2 ^ 64 → IsTrue (nat_le n most) → IsTrue (is_large n)
large_below most n small h = lt-ltb n (2 ^ 64) (let bound = leb-true n most h in omega (arith, bound))

pub tx_large : (tx : Tx) → IsTrue (is_tx tx) → IsTrue (is_large tx.0)
tx_large tx h = large_below 1024 tx.0 (omega arith) (is_true_parts (nat_le 1 tx.0) (nat_le tx.0 1024) h).1

pub site_large : (site : SiteId) → IsTrue (is_site site) → IsTrue (is_large site.0)
site_large site h = large_below 8 site.0 (omega arith) (is_true_parts (nat_le 1 site.0) (nat_le site.0 8) h).1

pub small_large : (n : ℕ) → IsTrue (is_small n) → IsTrue (is_large n)
small_large n h = lt-ltb n (2 ^ 64) (let bound = ltb-true n (2 ^ 32) h in omega (arith, bound))

pub key_large : (key : Key) → IsTrue (is_key key) → IsTrue (is_large key.0)
key_large key h = lt-ltb key.0 (2 ^ 64) (let bound = ltb-true key.0 (2 ^ 16) h in omega (arith, bound))

pub actor_large : (actor : ℕ) → IsTrue (is_actor actor) → IsTrue (is_large actor)
actor_large actor h = large_below 8 actor (omega arith) h

pub count_large : (calls : ℕ) → IsTrue (is_count calls) → IsTrue (is_large calls)
count_large calls h = large_below 1000 calls (omega arith) h

pub cut_large : (cut : ℕ) → IsTrue (is_cut cut) → IsTrue (is_large cut)
cut_large cut h = large_below 65535 cut (omega arith) h
