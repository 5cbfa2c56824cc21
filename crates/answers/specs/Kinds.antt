-- The kinds of a target, and the byte that stands for each.
use Rattle.std.specs.Prelude.{◌≡◌, ℕ, ◌<◌, List, Ok, Err, Result}
use Rattle.refusals.specs.declared.Refusal.{Refusal}
use Rattle.refusals.specs.declared.Refusal.TheVariants.{RowsUnfit}
use Rattle.answers.specs.declared.Kind.{Kind}
use Rattle.answers.specs.declared.Kind.TheVariants.{Exact, AtLeast}
use Rattle.answers.specs.States.{Target}

-- the byte of a kind
abbrev pub byte_of : Kind → ℕ
byte_of Exact = 0
byte_of AtLeast = 1

-- which kind a byte is; there are two, and any byte above 1 is refused
abbrev pub KindOf : ℕ → Result Kind Refusal → Type 0
KindOf byte (Ok kind) = byte ≡ byte_of kind
KindOf byte (Err refusal) = (1 < byte) × (refusal ≡ RowsUnfit)

-- a target with these numbers, of this kind
abbrev pub target_with : List ℕ → Kind → Target
target_with numbers kind = record { numbers = numbers; kind = byte_of kind }
