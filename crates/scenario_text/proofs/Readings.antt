-- What is known of the value of a reading, step by step.
use Rattle.std.proofs.Common.{◌≡◌, Bool, true, false, cond, IsTrue, Result, Ok, Err, refl, subst}
use Rattle.scenario_text.specs.declared.bad.BadWhy.{BadWhy}
use Rattle.scenario_text.specs.Reads.{◌>>=◌}

-- a reading has this of its value, where it has one
pub record Reads {A : Type 0} (P : A → Type 0) (r : Result A BadWhy) : Type 0 where
  pub value : (x : A) → r ≡ Ok x → P x

abbrev done : {A : Type 0} → A → Result A BadWhy
done x = Ok x

pub reads_ok : {A : Type 0} {P : A → Type 0} (x : A) → P x → Reads P (done x)
reads_ok {P} x p = record { value = λ y e. (let same : x ≡ y = cc in subst P same p) }

pub reads_err : {A : Type 0} {P : A → Type 0} (why : BadWhy) → Reads {A = A} P (Err why)
reads_err why = record { value = λ y e. absurd cc }

pub reads_bind : {A B : Type 0} {P : A → Type 0} {Q : B → Type 0} (r : Result A BadWhy) {f : A → Result B BadWhy} → Reads P r → ((x : A) → P x → Reads Q (f x)) → Reads Q (r >>= f)
reads_bind (Ok x) p q = q x (p.value x refl)
reads_bind (Err why) p q = reads_err why

pub reads_any : {A : Type 0} (r : Result A BadWhy) → Reads (λ _. Unit {0}) r
reads_any r = record { value = λ x e. tt }

-- a reading that goes on where a test holds, or where it doesn't
pub reads_if : {A : Type 0} {P : A → Type 0} (b : Bool) (r : Result A BadWhy) (why : BadWhy) → (IsTrue b → Reads P r) → Reads P (cond b r (Err why))
reads_if true r why p = p refl
reads_if false r why p = reads_err why

pub reads_unless : {A : Type 0} {P : A → Type 0} (b : Bool) (r : Result A BadWhy) (why : BadWhy) → (b ≡ false → Reads P r) → Reads P (cond b (Err why) r)
reads_unless true r why p = reads_err why
reads_unless false r why p = p refl

-- one of two readings
pub reads_either : {A : Type 0} {P : A → Type 0} (b : Bool) (r s : Result A BadWhy) → Reads P r → Reads P s → Reads P (cond b r s)
reads_either true r s p q = p
reads_either false r s p q = q

-- what holds of every value holds of the one that is read
pub reads_all : {A : Type 0} {P : A → Type 0} (r : Result A BadWhy) → ((x : A) → P x) → Reads P r
reads_all r p = record { value = λ x e. p x }

-- one of two readings, where the test may be told
pub reads_by : {A : Type 0} {P : A → Type 0} (b : Bool) (r s : Result A BadWhy) → (b ≡ true → Reads P r) → (b ≡ false → Reads P s) → Reads P (cond b r s)
reads_by true r s p q = p refl
reads_by false r s p q = q refl
