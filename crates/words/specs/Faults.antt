use Rattle.std.specs.Prelude.{Result, Ok, Err, Option, Some, None}
use Rattle.std.specs.declared.alloc.AllocError.{AllocError}
use Rattle.words.specs.declared.Fault.{Fault}
use Rattle.words.specs.declared.Fault.TheVariants.{NotUnderstood, Memory}

-- what was read, nothing where it was not understood, and the error where memory failed
abbrev pub understood_of : {A : Type 0} → Result A Fault → Result (Option A) AllocError
understood_of (Ok value) = Ok (Some value)
understood_of (Err NotUnderstood) = Ok None
understood_of (Err (Memory error)) = Err error
