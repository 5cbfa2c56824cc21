use Rattle.std.specs.Prelude.{◌≡◌, ◌≢◌, ◌≤◌, ℕ, List, [], ◌++◌, ◌⊎◌, length, codes}

-- the text is what is asked, ` = ` and the answer, and no other ` = ` in it begins further in front; or there is
-- none in it, all of it is asked, and there is no answer
abbrev pub HasSides : List ℕ → List ℕ → List ℕ → Type 0
HasSides text asked expected =
    ((text ≡ asked ++ (codes " = " ++ expected)) × ((before after : List ℕ) →
    text ≡ before ++ (codes " = " ++ after) → length asked ≤ length before))
    ⊎ (((before after : List ℕ) → text ≢ before ++ (codes " = " ++ after)) × (asked ≡ text)
    × (expected ≡ []))
