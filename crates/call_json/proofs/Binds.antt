-- What comes of a step where the next one depends on it.
use Rattle.std.proofs.Common.{◌≡◌, Result, Ok, Err, refl, ap, ◌∙◌}
use Rattle.call_json.specs.Answers.{◌>>=◌}
use Rattle.call_json.specs.declared.members.fault.Refusal.{Refusal}

-- what a good end says of the first step
pub record Both {A B : Type 0} (m : Result A Refusal) (f : A → Result B Refusal) (y : B) : Type 0 where
  pub x : A
  pub first : m ≡ Ok x
  pub second : f x ≡ Ok y

pub bind_ok : {A B : Type 0} (m : Result A Refusal) (f : A → Result B Refusal) (y : B) → m >>= f ≡ Ok y → Both m f y
bind_ok (Ok x) f y is = record { x = x; first = refl; second = is }
bind_ok (Err e) f y is = absurd cc

pub bind_is : {A B : Type 0} (m : Result A Refusal) (f : A → Result B Refusal) (x : A) (y : B) → m ≡ Ok x → f x ≡ Ok y → m >>= f ≡ Ok y
bind_is m f x y first second = ap (λ r. r >>= f) first ∙ second

pub bind_is_at : {A B : Type 0} (m : Result A Refusal) (f : A → Result B Refusal) (x : A) → m ≡ Ok x → m >>= f ≡ f x
bind_is_at m f x first = ap (λ r. r >>= f) first

pub ok_one : {A : Type 0} (x y : A) → ◌≡◌ {A = Result A Refusal} (Ok x) (Ok y) → x ≡ y
ok_one x y is = cc
