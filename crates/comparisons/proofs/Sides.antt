use Rattle.std.proofs.Common.{◌≡◌, ◌<◌, ℕ, List, [], ◌++◌, Option, Some, None, Bor, MatchOption, length, drop, codes, ap, refl, ◌∙◌, inl, inr, ⊎_elim, arith}
use Rattle.std.specs.Option.{unwrap_or}
use Rattle.std.specs.Str.Pattern.{FindsText, SplitsAroundMatch}
use Rattle.std.proofs.lemmas.Bool.{cases_lt}
use Rattle.std.proofs.lemmas.List.{drop_at}
use Rattle.std.proofs.lemmas.Str.Pattern.{split_text_parts}
use Rattle.comparisons.specs.Sides.{HasSides}

-- what the search for ` = ` says of a text is what its sides are
pub sides : (text : List ℕ) (r : Option (Bor (List ℕ) × Bor (List ℕ))) (d : Bor (List ℕ) × Bor (List ℕ)) →
    MatchOption r (FindsText (codes " = ") text None) (λ x. SplitsAroundMatch (FindsText (codes " = ")) text x.0.now x.1.now) →
    d.0.now ≡ text → d.1.now ≡ [] → HasSides text (unwrap_or r d).0.now (unwrap_or r d).1.now
sides text None d h all none = inr (split_text_parts (codes " = ") text None h, all, none)
sides text (Some x) d h all none = inl (
  split_text_parts (codes " = ") text (Some x) h,
  λ before after e. ⊎_elim
      (λ (l : length before < length x.0.now). absurd (h.2.0 (length before) (omega (arith, h.6)) after (ap (drop (length before)) e ∙ drop_at before (codes " = " ++ after) (length before) refl)))
      (λ l. l)
      (cases_lt (length before) (length x.0.now)),
)
