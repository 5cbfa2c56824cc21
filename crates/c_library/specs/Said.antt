-- What a call says to C: a length, or a refusal's number and detail.
use Rattle.std.specs.Prelude.{◌≡◌, ℕ, List, Ok, Err, Result}
use Rattle.refusals.specs.Refusals.{number_of, detail_of}
use Rattle.refusals.specs.declared.Refusal.{Refusal}
use Rattle.c_library.specs.declared.answer.Answer.{Answer}
use Rattle.lines.specs.Lines.{LineWritten}

-- refusal 0 and the length; or the refusal's number and detail, and no length
abbrev pub AnswerSays : Result ℕ Refusal → Answer → Type 0
AnswerSays (Ok n) a = (a.refusal ≡ 0) × (a.detail ≡ 0) × (a.length ≡ n)
AnswerSays (Err e) a = (a.refusal ≡ number_of e) × (a.detail ≡ detail_of e) × (a.length ≡ 0)

-- what is said of a line, and what writing it leaves in the text memory
abbrev pub LineSaid : List ℕ → List ℕ → Answer → List ℕ → Type 0
LineSaid line text a text' = (r : Result ℕ Refusal) × (AnswerSays r a × LineWritten line text r text')
