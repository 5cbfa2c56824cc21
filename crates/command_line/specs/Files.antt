-- What is opened for a name.
use Rattle.std.specs.Prelude.{◌≡◌, ◌≢◌, ℕ, List, [], ◌∷◌, String, string_bytes, codes}
use Rattle.std.specs.Str.{IsUtf8}
use Rattle.command_line.specs.Names.{one_line}
use Rattle.command_line.specs.declared.files.Source.{Source}
use Rattle.command_line.specs.declared.files.Opened.{Opened}
use Rattle.command_line.specs.declared.files.Opened.TheVariants.{Input, File, NoText}

-- the file with this name is opened, or cannot be since the name is no text
abbrev pub Opens : List ℕ → Opened → Type 0
Opens name Input = ⊥
Opens name (File text) = string_bytes text ≡ name
Opens name NoText = ¬ (IsUtf8 name)

-- a file is opened that has this word for its name on one line, or none
abbrev pub IsNamedBy : List ℕ → Opened → Type 0
IsNamedBy word Input = ⊥
IsNamedBy word (File text) = one_line (string_bytes text) ≡ word
IsNamedBy word NoText = Unit {0}

-- standard input is read for `-`, and any other word is what is shown
pub record IsShownAs (word : List ℕ) (source : Source) : Type 0 where
  pub input : word ≡ codes "-" → source.opened ≡ Input
  pub file : word ≢ codes "-" → IsNamedBy word source.opened
  pub shown : word ≢ codes "-" → string_bytes source.shown ≡ word

-- the first word is this text
abbrev pub BeginsWith : {A : Type 0} → List ℕ → List (String A) → Type 0
BeginsWith text [] = ⊥
BeginsWith text (word ∷ words) = string_bytes word ≡ text
