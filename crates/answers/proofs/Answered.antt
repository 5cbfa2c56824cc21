-- What an answer tells of the refusal that it was made with.
use Rattle.std.proofs.Common.{◌≡◌, ℕ, Some, None, Ok, Err, Option, refl, arith}
use Rattle.refusals.specs.Answered.{answered}
use Rattle.refusals.specs.declared.Refusal.{Refusal}

-- what was answered tells whether it was refused
pub refused_with : {A : Type 0} (o : Option Refusal) (a : A) (e : Refusal) → Err e ≡ answered o a → o ≡ Some e
refused_with None a e h = absurd (let z : ◌≡◌ {A = ℕ} 0 1 = cc in omega arith)
refused_with (Some d) a e h = cc

pub accepted_with : {A : Type 0} (o : Option Refusal) (a b : A) → Ok b ≡ answered o a → o ≡ None
accepted_with None a b h = refl
accepted_with (Some d) a b h = absurd (let z : ◌≡◌ {A = ℕ} 0 1 = cc in omega arith)
