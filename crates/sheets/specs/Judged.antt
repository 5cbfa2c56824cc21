-- What the line of a sheet says: `ok` with the first of the orders that do its tally, or `no` with the reason.
use Rattle.std.specs.Prelude.{◌≡◌, ℕ, ◌⊎◌, ◌↔◌, List, take, codes}
use Rattle.refusals.specs.declared.Refusal.{Refusal}
use Rattle.theory.specs.Orders.{Earlier}
use Rattle.answers.specs.Reasons.{Such}
use Rattle.lines.specs.Lines.{ok_line, no_line}
use Rattle.sheets.specs.Parts.{net_of, tally_of, target_in}
use Rattle.sheets.specs.Reasons.{judged_on, SheetFits, WhySheet}

-- an order with the counts of the sheet's tally that can be fired from its start and meets its target
abbrev pub Does : List ℕ → List ℕ → Type 0
Does sheet order = Such (net_of sheet) (judged_on sheet) (tally_of sheet) (target_in sheet) order

pub record Judged (sheet line : List ℕ) : Type 0 where
  -- `ok` exactly if the sheet fits
  pub says_ok : (take 2 line ≡ codes "ok") ↔ SheetFits sheet
  -- then with the first of the orders that do it
  pub has_the_first : take 2 line ≡ codes "ok" →
      (order : List ℕ) × ((line ≡ ok_line order) × Does sheet order
      × ((other : List ℕ) → Does sheet other → (order ≡ other) ⊎ Earlier order other))
  -- `no` with the refusal for which there is a reason
  pub says_why : (e : Refusal) → WhySheet sheet e → line ≡ no_line e
  -- one of the two it always says
  pub says_either : SheetFits sheet ⊎ ((e : Refusal) × WhySheet sheet e)
