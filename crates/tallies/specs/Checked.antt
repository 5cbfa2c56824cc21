-- What a check of a call answers.
use Rattle.std.specs.Prelude.{◌≡◌, ℕ, Some, None, Ok, Err, Option, Result}
use Rattle.refusals.specs.declared.Refusal.{Refusal}
use Rattle.answers.specs.declared.Kind.{Kind}
use Rattle.answers.specs.Kinds.{byte_of}

-- the refusal, or else the target's kind, which has this byte
abbrev pub Checked : Option Refusal → ℕ → Result Kind Refusal → Type 0
Checked refusal byte (Ok kind) = (refusal ≡ None) × (byte ≡ byte_of kind)
Checked refusal byte (Err e) = refusal ≡ Some e
